-- The turns of a DHCPv6 client, from its begin. Moments are in milliseconds since 1970.
use Rattle.std.specs.Prelude.{ℕ, List, [], ◌∷◌, Option}
use Rattle.net_types.specs.declared.address.Ip6.{Ip6}
use Rattle.v6_message.specs.Replies.{Content6}
use Rattle.lease6_text.specs.Leases.{Lease6Content}
use Rattle.v6_client.specs.declared.states.Carrier6.TheVariants.{Up, Down}
use Rattle.v6_client.specs.declared.states.Tell6.{Tell6}
use Rattle.v6_client.specs.Clients.{ClientContent, client_made}
use Rattle.v6_client.specs.Runs.{Turned6, carrier_turned, contested_turned, hears_turned, rebind_turned, release_turned, rested, tick_turned}
use Rattle.v6_client.specs.Settings.{SettingsContent}

-- what may come in a turn
pub data Input6 : Type 0 where
  Quiet : Input6
  -- a message of a server
  Hears : Content6 → Input6
  -- another host uses an address
  IsUsed : Ip6 → Input6
  -- the host wants what is held confirmed anew
  Rebinds : Input6
  -- the carrier goes
  Drops : Input6
  -- the host gives up what is held
  Releases : Tell6 → Input6

-- A turn: the client acts where its moment has come, and then takes what comes in.
pub record ClientTurn : Type 0 where
  pub at : ℕ
  pub salt : ℕ
  pub input : Input6

-- how a client begins: its settings, the lease that was kept before, and when its carrier comes
pub record Start : Type 0 where
  pub settings : SettingsContent
  pub kept : Option Lease6Content
  pub at : ℕ
  pub salt : ℕ

abbrev pub begun : Start → Turned6
begun s = carrier_turned Up s.at s.salt (client_made s.settings s.kept)

abbrev pub takes : (at salt : ℕ) → Input6 → ClientContent → Turned6
takes at salt Quiet c = rested c
takes at salt (Hears message) c = hears_turned at salt message c
takes at salt (IsUsed address) c = contested_turned address at salt c
takes at salt Rebinds c = rebind_turned at salt c
takes at salt Drops c = carrier_turned Down at salt c
takes at salt (Releases tell) c = release_turned tell at salt c

abbrev pub acts_in : ClientTurn → ClientContent → Turned6
acts_in turn c = tick_turned turn.at turn.salt c

abbrev pub takes_in : ClientTurn → ClientContent → Turned6
takes_in turn c = takes turn.at turn.salt turn.input (acts_in turn c).client

-- the client after some turns, the newest first
abbrev pub client_run : Start → List ClientTurn → ClientContent
client_run s [] = (begun s).client
client_run s (turn ∷ past) = (takes_in turn (client_run s past)).client

-- the moment to which they have come
abbrev pub now_in : Start → List ClientTurn → ℕ
now_in s [] = s.at
now_in s (turn ∷ past) = turn.at
