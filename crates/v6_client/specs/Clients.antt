-- A client.
use Rattle.std.specs.Prelude.{ℕ, Bool, true, false, List, Option, None, nat_le, option_map, map, if◌then◌else◌}
use Rattle.v6_message.specs.Requests.{AskedContent, asked_content}
use Rattle.v6_retrans.specs.declared.parameters.TheConstants.{SOL_MAX_RT}
use Rattle.lease6_text.specs.Leases.{Lease6Content, lease6_content}
use Rattle.v6_client.specs.declared.leases.Leases6.{Leases6}
use Rattle.v6_client.specs.declared.leases.Plea6.{Plea6}
use Rattle.v6_client.specs.declared.setup.Set6.{Set6}
use Rattle.v6_items.specs.declared.scope.Scope6.{Scope6}
use Rattle.v6_items.specs.declared.scope.Scope6.TheVariants as scope
use Rattle.v6_client.specs.declared.states.State6.{State6}
use Rattle.v6_client.specs.declared.states.State6.TheVariants.{Off, Waiting, Soliciting, Requesting, Bound, Renewing, Rebinding, Restarting, Declining}
use Rattle.v6_client.specs.declared.turn.Turn6.{Turn6}
use Rattle.v6_client.specs.Settings.{SettingsContent, settings_content}

-- What a server is asked that isn't asked for held items. In Soliciting and Requesting it is what the server offered.
-- In Declining it has the addresses that are declined and the items that are held, as they stood before.
pub record PleaContent : Type 0 where
  pub server : List ℕ
  pub ias : List AskedContent

abbrev pub plea_content : Plea6 → PleaContent
plea_content plea = record { server = plea.server.bytes.items; ias = map asked_content plea.ias.items }

-- The settings, the transaction id of the last exchange, the longest time between two SOLICITs in milliseconds, the
-- state, the lease that is kept, and what a server is asked. A client is fresh until it begins or is turned off: until
-- then the kept lease is the one that was read at the start.
pub record ClientContent : Type 0 where
  pub settings : SettingsContent
  pub last : Option ℕ
  pub sol_max : ℕ
  pub state : State6
  pub kept : Option Lease6Content
  pub plea : Option PleaContent
  pub fresh : Bool

abbrev pub kept_in : Leases6 → Option Lease6Content
kept_in leases = option_map lease6_content leases.kept

abbrev pub plea_in : Leases6 → Option PleaContent
plea_in leases = option_map plea_content leases.plea

abbrev pub client_content : Set6 → Option ℕ → (sol_max : ℕ) → State6 → Leases6 → (fresh : Bool) → ClientContent
client_content set last sol_max state leases fresh = record {
  settings = settings_content set;
  last = last;
  sol_max = sol_max;
  state = state;
  kept = kept_in leases;
  plea = plea_in leases;
  fresh = fresh;
}

-- a client that is off, with the lease that was kept before
abbrev pub client_made : SettingsContent → Option Lease6Content → ClientContent
client_made settings kept = record {
  settings = settings;
  last = None;
  sol_max = SOL_MAX_RT;
  state = Off;
  kept = kept;
  plea = None;
  fresh = true;
}

abbrev pub turn_of : (at salt : ℕ) → ClientContent → Turn6
turn_of at salt c = record { site = c.settings.site; last = c.last; sol_max = c.sol_max; at = at; salt = salt }

-- ---- items

-- which items of the kept lease are the client's own
abbrev pub scope_of : State6 → Scope6
scope_of Off = scope.Nothing
scope_of (Waiting due) = scope.Nothing
scope_of (Soliciting exchange offer) = scope.Nothing
scope_of (Requesting exchange) = scope.Nothing
scope_of Bound = scope.All
scope_of (Renewing exchange) = scope.All
scope_of (Rebinding exchange) = scope.All
scope_of (Restarting exchange end since true) = scope.All
scope_of (Restarting exchange end since false) = scope.Since since
scope_of (Declining exchange) = scope.All

abbrev pub is_all : Scope6 → Bool
is_all scope.Nothing = false
is_all scope.All = true
is_all (scope.Since at) = false

-- items are held
abbrev pub holds : State6 → Bool
holds state = is_all (scope_of state)

-- Which of them a Reply meets: in a restart those that are valid, whether they are held or not.
abbrev pub met_scope : State6 → Scope6
met_scope Off = scope.Nothing
met_scope (Waiting due) = scope.Nothing
met_scope (Soliciting exchange offer) = scope.Nothing
met_scope (Requesting exchange) = scope.Nothing
met_scope Bound = scope.All
met_scope (Renewing exchange) = scope.All
met_scope (Rebinding exchange) = scope.All
met_scope (Restarting exchange end since stands) = scope.Since since
met_scope (Declining exchange) = scope.All

-- the lease that is held: in such a state the kept one
abbrev pub held_of : ClientContent → Option Lease6Content
held_of c = if holds c.state then c.kept else None

-- the plea lasts as long as its server is asked
abbrev pub pleads : State6 → Bool
pleads Off = false
pleads (Waiting due) = false
pleads (Soliciting exchange offer) = true
pleads (Requesting exchange) = true
pleads Bound = false
pleads (Renewing exchange) = false
pleads (Rebinding exchange) = false
pleads (Restarting exchange end since stands) = false
pleads (Declining exchange) = true

abbrev pub is_declining : State6 → Bool
is_declining Off = false
is_declining (Waiting due) = false
is_declining (Soliciting exchange offer) = false
is_declining (Requesting exchange) = false
is_declining Bound = false
is_declining (Renewing exchange) = false
is_declining (Rebinding exchange) = false
is_declining (Restarting exchange end since stands) = false
is_declining (Declining exchange) = true

abbrev pub is_off : State6 → Bool
is_off Off = true
is_off (Waiting due) = false
is_off (Soliciting exchange offer) = false
is_off (Requesting exchange) = false
is_off Bound = false
is_off (Renewing exchange) = false
is_off (Rebinding exchange) = false
is_off (Restarting exchange end since stands) = false
is_off (Declining exchange) = false

abbrev pub is_restarting : State6 → Bool
is_restarting Off = false
is_restarting (Waiting due) = false
is_restarting (Soliciting exchange offer) = false
is_restarting (Requesting exchange) = false
is_restarting Bound = false
is_restarting (Renewing exchange) = false
is_restarting (Rebinding exchange) = false
is_restarting (Restarting exchange end since stands) = true
is_restarting (Declining exchange) = false

-- no answer to a restart is waited for any longer
abbrev pub is_at_end : (at : ℕ) → State6 → Bool
is_at_end at Off = false
is_at_end at (Waiting due) = false
is_at_end at (Soliciting exchange offer) = false
is_at_end at (Requesting exchange) = false
is_at_end at Bound = false
is_at_end at (Renewing exchange) = false
is_at_end at (Rebinding exchange) = false
is_at_end at (Restarting exchange end since stands) = nat_le end at
is_at_end at (Declining exchange) = false
