-- A client, and what a step of the table makes of it.
use Rattle.std.specs.Prelude.{ℕ, Bool, true, List, [], Option, Some, None, option_map, if◌then◌else◌}
use Rattle.std.specs.Option.{is_some}
use Rattle.arp_acd.specs.declared.detection.ArpSay.{ArpSay}
use Rattle.lease_text.specs.declared.lease.Lease4.{Lease4}
use Rattle.lease_text.specs.declared.lease.Terms4.{Terms4}
use Rattle.lease_text.specs.declared.lease.Value.{Value}
use Rattle.lease_text.specs.Leases.{ValueContent, LeaseContent, lease_content, terms_of, values_content}
use Rattle.v4_client.specs.declared.client.Out4.{Out4}
use Rattle.v4_client.specs.declared.leases.Leases4.{Leases4}
use Rattle.v4_client.specs.declared.setup.Set4.{Set4}
use Rattle.v4_client.specs.declared.states.News4.{News4}
use Rattle.v4_client.specs.declared.states.Say4.{Say4}
use Rattle.v4_client.specs.declared.states.State4.{State4}
use Rattle.v4_client.specs.declared.states.State4.TheVariants.{Off, Init, Selecting, Requesting, Rebooting, Checking, Waiting, Bound, Renewing, Rebinding}
use Rattle.v4_client.specs.declared.states.Turn4.{Turn4}
use Rattle.v4_client.specs.Settings.{SettingsContent, settings_content}

-- the settings, the transaction id of the last exchange, the state, whether the client may still stand on the lease
-- with which it was made, the lease that is kept, and the values of the lease that is checked
pub record ClientContent : Type 0 where
  pub settings : SettingsContent
  pub last : Option ℕ
  pub state : State4
  pub may_stand : Bool
  pub kept : Option LeaseContent
  pub fresh : List ValueContent

abbrev pub client_content : Set4 → Option ℕ → State4 → (may_stand : Bool) → Option Lease4 → List Value → ClientContent
client_content set last state may_stand kept fresh = record {
  settings = settings_content set;
  last = last;
  state = state;
  may_stand = may_stand;
  kept = option_map lease_content kept;
  fresh = values_content fresh;
}

-- a client that is off, with the lease that was kept before
abbrev pub client_made : SettingsContent → Option LeaseContent → ClientContent
client_made settings kept = record {
  settings = settings;
  last = None;
  state = Off;
  may_stand = true;
  kept = kept;
  fresh = [];
}

-- the kept lease, and the values of the lease that is checked
abbrev pub kept_in : Leases4 → Option LeaseContent
kept_in leases = option_map lease_content leases.kept

abbrev pub fresh_in : Leases4 → List ValueContent
fresh_in leases = values_content leases.fresh.items

pub record OutContent : Type 0 where
  pub say : Option Say4
  pub arp : Option ArpSay
  pub news : News4
  pub old : Option LeaseContent

abbrev pub out_content : Out4 → OutContent
out_content out = record { say = out.say; arp = out.arp; news = out.news; old = option_map lease_content out.old }

abbrev pub turn_of : (at salt : ℕ) → ClientContent → Turn4
turn_of at salt c = record { site = c.settings.site; last = c.last; at = at; salt = salt }

-- ---- the lease that is held

-- a lease that an exchange of the client has granted
abbrev pub bound_terms : State4 → Option Terms4
bound_terms Off = None
bound_terms (Init due) = None
bound_terms (Selecting xid began secs backoff due) = None
bound_terms (Requesting exchange secs backoff due) = None
bound_terms (Rebooting exchange backoff end due stands) = None
bound_terms (Checking xid terms origin acd stands) = None
bound_terms (Waiting due) = None
bound_terms (Bound xid terms acd) = Some terms
bound_terms (Renewing exchange terms acd due) = Some terms
bound_terms (Rebinding exchange terms acd due) = Some terms

abbrev pub is_bound : State4 → Bool
is_bound state = is_some (bound_terms state)

-- beside it the one that was kept before, while a client stands on it
abbrev pub held_terms : State4 → Option Terms4
held_terms Off = None
held_terms (Init due) = None
held_terms (Selecting xid began secs backoff due) = None
held_terms (Requesting exchange secs backoff due) = None
held_terms (Rebooting exchange backoff end due stands) = stands
held_terms (Checking xid terms origin acd stands) = stands
held_terms (Waiting due) = None
held_terms (Bound xid terms acd) = Some terms
held_terms (Renewing exchange terms acd due) = Some terms
held_terms (Rebinding exchange terms acd due) = Some terms

abbrev pub is_held : State4 → Bool
is_held state = is_some (held_terms state)

-- the lease that is held is the kept one
abbrev pub held_of : ClientContent → Option LeaseContent
held_of c = if is_held c.state then c.kept else None

abbrev pub kept_terms : ClientContent → Option Terms4
kept_terms c = option_map terms_of c.kept

-- ---- a step
