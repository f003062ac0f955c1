-- The lines that a transcript can have: numbers of the daemon's types, names as they are allowed, rows that a host can
-- hold.
use Rattle.std.specs.Prelude.{◌≡◌, ℕ, ◌<◌, ◌^◌, List, [], length, Option, Some, None, IsTrue}
use Rattle.std.specs.List.{AllByRecursion}
use Rattle.net_types.specs.AddressText.{FitsIp6, FitsMac, FitsNet}
use Rattle.net_types.specs.NameText.{is_name, FitsName}
use Rattle.net_types.specs.Marks.{Lacks, AreBytes}
use Rattle.world.specs.declared.wakes.Event.{Event}
use Rattle.world.specs.declared.wakes.Event.TheVariants.{Frame, Carrier, Duplicate, Release, Rebind, Stop, Quiet, End}
use Rattle.world.specs.declared.hooking.Poll.{Poll}
use Rattle.world.specs.declared.hooking.Poll.TheVariants.{Running, Ended}
use Rattle.world.specs.FileNames.{IsFileName}
use Rattle.world.specs.StoreCalls.{Reading, Found, Missing, Unread}
use Rattle.world.specs.Rows.{IsRow}
use Rattle.script_model.specs.Lines.{Line}
use Rattle.script_model.specs.Lines as Model

abbrev pub IsWord : ℕ → Type 0
IsWord number = number < 2 ^ 64

-- a frame of its length in bytes, or another input without bytes
abbrev pub FitsEvent : Event → List ℕ → Type 0
FitsEvent (Frame iface len) bytes = (iface < 2 ^ 32) × (len ≡ length bytes) × AreBytes bytes
FitsEvent (Carrier iface up) bytes = (iface < 2 ^ 32) × (bytes ≡ [])
FitsEvent (Duplicate iface addr) bytes = (iface < 2 ^ 32) × FitsIp6 addr × (bytes ≡ [])
FitsEvent (Release iface) bytes = (iface < 2 ^ 32) × (bytes ≡ [])
FitsEvent (Rebind iface) bytes = (iface < 2 ^ 32) × (bytes ≡ [])
FitsEvent Stop bytes = bytes ≡ []
FitsEvent Quiet bytes = bytes ≡ []
FitsEvent End bytes = ⊥

abbrev pub FitsReading : Reading → Type 0
FitsReading (Found bytes) = AreBytes bytes
FitsReading Missing = Unit {0}
FitsReading Unread = Unit {0}

abbrev pub FitsMoment : Option ℕ → Type 0
FitsMoment (Some at) = IsWord at
FitsMoment None = Unit {0}

abbrev pub FitsPoll : Option Poll → Type 0
FitsPoll (Some Running) = Unit {0}
FitsPoll (Some (Ended status)) = status < 2 ^ 32
FitsPoll None = Unit {0}

-- a variable of a hook: its name ends at the first `=`, and both stand in one line
pub record FitsVariable (name value : List ℕ) : Type 0 where
  pub parted : Lacks 61 name
  pub name_within : Lacks 10 name
  pub value_within : Lacks 10 value

abbrev pub FitsLine : Line → Type 0
FitsLine Model.Head = Unit {0}
FitsLine (Model.Conf text) = Unit {0}
FitsLine (Model.Notice line word) = line < 2 ^ 32
FitsLine (Model.Interface spec) = (spec.index.number < 2 ^ 32) × FitsName spec.name × FitsMac spec.mac
FitsLine (Model.Life number) = IsWord number
FitsLine (Model.Start begin) = IsWord begin.at × IsWord begin.salt × IsWord begin.up
FitsLine (Model.Asides names) = AllByRecursion IsFileName names
FitsLine Model.AsidesFailed = Unit {0}
FitsLine (Model.Wrote name bytes done) = IsFileName name × AreBytes bytes
FitsLine (Model.Synced name done) = IsFileName name
FitsLine (Model.Renamed name done) = IsFileName name
FitsLine (Model.Removed name done) = IsFileName name
FitsLine (Model.Settled done) = Unit {0}
FitsLine (Model.Read name reading) = IsFileName name × FitsReading reading
FitsLine (Model.Turn at salt event bytes) = IsWord at × IsWord salt × FitsEvent event bytes
FitsLine (Model.HookPolled number answer) = IsWord number × FitsPoll answer
FitsLine (Model.HookAbandoned number) = IsWord number
FitsLine (Model.HookDropped number reason name) = IsWord number × IsTrue (is_name name)
FitsLine (Model.HookStarted number reason name done) = IsWord number × IsTrue (is_name name)
FitsLine (Model.Variable name value) = FitsVariable name value
FitsLine (Model.Send iface bytes taken) = (iface.number < 2 ^ 32) × AreBytes bytes
FitsLine (Model.HostListed count) = IsWord count
FitsLine (Model.Row row) = IsRow row
FitsLine Model.HostListFailed = Unit {0}
FitsLine (Model.HostDel row done) = IsRow row
FitsLine (Model.HostAdd row done) = IsRow row
FitsLine (Model.Until moment) = FitsMoment moment
FitsLine (Model.Hold iface net) = (iface.number < 2 ^ 32) × FitsNet net
FitsLine Model.EndOfLife = Unit {0}

-- Unlike lines have unlike texts.
abbrev pub LinesApart : Type 0
LinesApart = (a b : Line) → FitsLine a → FitsLine b → Model.line_text a ≡ Model.line_text b → a ≡ b
