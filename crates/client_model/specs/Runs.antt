-- Runs over a list of turns, the newest first: that of one interface alone, and that of the client.
use Rattle.std.specs.Prelude.{◌≡◌, ◌≢◌, ℕ, true, List, [], ◌∷◌, map, flat_map}
use Rattle.std.specs.Option.{is_some}
use Rattle.net_types.specs.declared.address.Mac.{Mac}
use Rattle.world.specs.declared.wakes.Event.{Event}
use Rattle.world.specs.declared.wakes.Event.TheVariants.{Frame, Carrier, Duplicate, Release, Rebind, Stop, Quiet, End}
use Rattle.client_model.specs.declared.interfaces.Iface.{Iface}
use Rattle.client_model.specs.IfaceSteps.{index_of, news_of}
use Rattle.client_model.specs.IfaceTurns.{Turn, iface_turned}
use Rattle.client_model.specs.Clients.{Client, Sending, sends_of, client_turned}
use Rattle.client_model.specs.WantedRows.{iface_rows}
use Rattle.client_model.specs.ResolverParts.{iface_parts}

abbrev pub iface_run : List Mac → Iface → List Turn → Iface
iface_run own iface [] = iface
iface_run own iface (turn ∷ before) = (iface_turned own turn (iface_run own iface before)).iface

-- the frames of such a run, turn by turn, the newest first
abbrev pub iface_frames : List Mac → Iface → List Turn → List (List Sending)
iface_frames own iface [] = []
iface_frames own iface (turn ∷ before) =
    sends_of (iface_turned own turn (iface_run own iface before)) ∷ iface_frames own iface before

abbrev pub client_run : Client → List Turn → Client
client_run client [] = client
client_run client (turn ∷ before) = (client_turned turn (client_run client before)).client

-- The interfaces of the client go on as each would alone, and its frames in a turn are theirs, one interface after
-- another.
pub record RunsApart (client : Client) (turn : Turn) (before : List Turn) : Type 0 where
  pub ifaces : (client_run client before).ifaces ≡ map (λ iface. iface_run client.own iface before) client.ifaces
  pub sends : (client_turned turn (client_run client before)).sends
      ≡ flat_map (λ iface. sends_of (iface_turned client.own turn (iface_run client.own iface before))) client.ifaces

-- the input names another interface
abbrev pub NamesOther : ℕ → Event → Type 0
NamesOther index (Frame other len) = index ≢ other
NamesOther index (Carrier other up) = index ≢ other
NamesOther index (Duplicate other addr) = index ≢ other
NamesOther index (Release other) = index ≢ other
NamesOther index (Rebind other) = index ≢ other
NamesOther index Stop = ⊥
NamesOther index Quiet = ⊥
NamesOther index End = ⊥

-- An input that names another interface is as good as none.
abbrev pub IsQuietElsewhere : Type 0
IsQuietElsewhere = (own : List Mac) (turn : Turn) (iface : Iface) → NamesOther (index_of iface) turn.event
    → iface_turned own turn iface ≡ iface_turned own (record turn { event = Quiet; bytes = [] }) iface

-- A turn of an interface of which nothing is new leaves its rows, what it tells the resolver, and the DHCPv6 lease that
-- it keeps; where it says nothing either, the DHCPv4 lease. The DHCPv4 lease that it keeps after any such turn is the
-- one that it kept before.
pub record KeepsInQuiet (own : List Mac) (turn : Turn) (iface : Iface) : Type 0 where
  pub rows : news_of (iface_turned own turn iface) ≡ []
      → iface_rows (iface_turned own turn iface).iface ≡ iface_rows iface
  pub parts : news_of (iface_turned own turn iface) ≡ []
      → iface_parts (iface_turned own turn iface).iface ≡ iface_parts iface
  pub kept6 : news_of (iface_turned own turn iface) ≡ []
      → (iface_turned own turn iface).iface.dhcp6.kept ≡ iface.dhcp6.kept
  pub kept4 : news_of (iface_turned own turn iface) ≡ [] → (iface_turned own turn iface).said ≡ []
      → (iface_turned own turn iface).iface.dhcp4.kept ≡ iface.dhcp4.kept
  pub same4 : news_of (iface_turned own turn iface) ≡ [] → is_some (iface_turned own turn iface).iface.dhcp4.kept ≡ true
      → (iface_turned own turn iface).iface.dhcp4.kept ≡ iface.dhcp4.kept
