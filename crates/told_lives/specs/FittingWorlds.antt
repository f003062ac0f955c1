-- Devices whose contents, and what comes of them, are within the bounds that a transcript has for them.
use Rattle.std.specs.Prelude.{ℕ, ◌<◌, ◌≤◌, ◌^◌, List, length, IfSome}
use Rattle.std.specs.List.{AllByRecursion}
use Rattle.net_types.specs.AddressText.{FitsIp6}
use Rattle.net_types.specs.Marks.{AreBytes}
use Rattle.world.specs.declared.wakes.Begin.{Begin}
use Rattle.world.specs.declared.wakes.Event.{Event}
use Rattle.world.specs.declared.wakes.Event.TheVariants.{Frame, Carrier, Duplicate, Release, Rebind, Stop, Quiet, End}
use Rattle.world.specs.FileLists.{StoreFile}
use Rattle.world.specs.FileNames.{IsFileName}
use Rattle.world.specs.HookCalls.{HooksTold}
use Rattle.world.specs.HostCalls.{HostTold}
use Rattle.world.specs.LinkCalls.{Given, LinkTold}
use Rattle.world.specs.Rows.{IsRow}
use Rattle.world.specs.StoreCalls.{StoreTold}
use Rattle.world.specs.Undoing.{UndoneFile, content_of}
use Rattle.host_model.specs.HostTable.{InRowOrder}
use Rattle.device_calls.specs.Worlds.{World}
use Rattle.transcript_text.specs.Fits.{FitsPoll}

-- ---- the link

-- a moment has 15 digits at most
pub record FitsBegin (begin : Begin) : Type 0 where
  pub at : begin.at < 10 ^ 15
  pub salt : begin.salt < 2 ^ 64
  pub up : begin.up < 2 ^ 64

-- the number of an interface is one of 32 bits
abbrev pub FitsInput : Event → Type 0
FitsInput (Frame iface len) = iface < 2 ^ 32
FitsInput (Carrier iface up) = iface < 2 ^ 32
FitsInput (Duplicate iface addr) = (iface < 2 ^ 32) × FitsIp6 addr
FitsInput (Release iface) = iface < 2 ^ 32
FitsInput (Rebind iface) = iface < 2 ^ 32
FitsInput Stop = Unit {0}
FitsInput Quiet = Unit {0}
FitsInput End = Unit {0}

-- what comes: its moment may be any
pub record FitsComing (given : Given) : Type 0 where
  pub salt : given.wake.salt < 2 ^ 64
  pub event : FitsInput given.wake.event
  pub octets : AreBytes given.bytes

pub record FitsLink (told : LinkTold) : Type 0 where
  pub begin : FitsBegin told.begin
  pub coming : AllByRecursion FitsComing told.coming

-- ---- the host, the store and the hooks

-- rows that a host can hold, in row order, each once
pub record FitsHost (told : HostTold) : Type 0 where
  pub rows : AllByRecursion IsRow told.rows
  pub order : InRowOrder told.rows

-- the name of a file, of a byte at least
pub record IsStoredName (name : List ℕ) : Type 0 where
  pub bytes : IsFileName name
  pub some : 1 ≤ length name

pub record IsStored (file : StoreFile) : Type 0 where
  pub name : IsStoredName file.name
  pub octets : AreBytes file.bytes

-- what a crash may bring back
pub record IsUndone (file : UndoneFile) : Type 0 where
  pub name : IsStoredName file.name
  pub octets : IfSome (content_of file.undo) AreBytes

pub record FitsStore (told : StoreTold) : Type 0 where
  pub files : AllByRecursion IsStored told.files
  pub undo : AllByRecursion IsUndone told.undo

-- what polls will answer: a child ends with a status of 32 bits
pub record FitsHooks (told : HooksTold) : Type 0 where
  pub polls : AllByRecursion FitsPoll told.polls

-- ---- all devices

-- those that stay from one life to the next
pub record AreFitting (host_told : HostTold) (store_told : StoreTold) (hooks_told : HooksTold) : Type 0 where
  pub host : FitsHost host_told
  pub store : FitsStore store_told
  pub hooks : FitsHooks hooks_told

pub record FitsWorld (world : World) : Type 0 where
  pub link : FitsLink world.link.told
  pub others : AreFitting world.host.told world.store.told world.hooks.told
