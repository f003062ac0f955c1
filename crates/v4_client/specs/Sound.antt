-- What holds of every client: its leases are within the bounds of their texts, and the lease that it holds is the kept
-- one.
use Rattle.std.specs.Prelude.{◌≡◌, ℕ, ◌≤◌, ◌⊎◌, true, Option, Some, None, option_map, IfSome}
use Rattle.net_types.specs.Moments.{IsMoment}
use Rattle.net_types.specs.NameText.{FitsName}
use Rattle.v4_message.specs.Requests.{AskFits}
use Rattle.lease_text.specs.declared.lease.Terms4.{Terms4}
use Rattle.lease_text.specs.Bounds.{FitsTerms, FitsValues, FitsLease}
use Rattle.lease_text.specs.Leases.{LeaseContent, terms_of, is_host_address}
use Rattle.v4_client.specs.declared.states.Answer4.{Answer4}
use Rattle.v4_client.specs.declared.states.Answer4.TheVariants as answer
use Rattle.v4_client.specs.declared.states.Exchange4.{Exchange4}
use Rattle.v4_client.specs.declared.states.Keep4.{Keep4}
use Rattle.v4_client.specs.declared.states.Keep4.TheVariants.{Stays, Clears, Takes}
use Rattle.v4_client.specs.declared.states.State4.{State4}
use Rattle.v4_client.specs.declared.states.State4.TheVariants.{Off, Init, Selecting, Requesting, Rebooting, Checking, Waiting, Bound, Renewing, Rebinding}
use Rattle.v4_client.specs.declared.states.Step4.{Step4}
use Rattle.v4_client.specs.Clients.{ClientContent, bound_terms, held_terms}
use Rattle.v4_client.specs.Moments.{expiry, rebinding_at}

-- an exchange asks for an address that a host may have
pub record FitsExchange (exchange : Exchange4) : Type 0 where
  pub address : is_host_address exchange.address ≡ true
  pub first : IsMoment exchange.first

-- one that renews a lease asks for the address of the lease
pub record FitsRenewal (exchange : Exchange4) (terms : Terms4) : Type 0 where
  pub asks : FitsExchange exchange
  pub holds : FitsTerms terms
  pub same : exchange.address.number ≡ terms.net.ip.number

-- its REQUEST is said again by the moment at which that ends: T2 while the lease is renewed, its expiry while it is
-- rebound
pub record FitsRenewing (exchange : Exchange4) (terms : Terms4) (end : Option ℕ) (due : ℕ) : Type 0 where
  pub renewal : FitsRenewal exchange terms
  pub wakes : IfSome end (λ last. due ≤ last)

-- one for the kept lease says its REQUEST again by its end
pub record FitsRebooting (exchange : Exchange4) (end due : ℕ) (stands : Option Terms4) : Type 0 where
  pub asks : FitsExchange exchange
  pub wakes : due ≤ end
  pub holds : IfSome stands FitsTerms

-- the lease that is checked, and the one that is held meanwhile
pub record FitsChecking (terms : Terms4) (stands : Option Terms4) : Type 0 where
  pub checks : FitsTerms terms
  pub holds : IfSome stands FitsTerms

abbrev pub FitsState : State4 → Type 0
FitsState Off = Unit {0}
FitsState (Init due) = Unit {0}
FitsState (Selecting xid began secs backoff due) = Unit {0}
FitsState (Requesting exchange secs backoff due) = FitsExchange exchange
FitsState (Rebooting exchange backoff end due stands) = FitsRebooting exchange end due stands
FitsState (Checking xid terms origin acd stands) = FitsChecking terms stands
FitsState (Waiting due) = Unit {0}
FitsState (Bound xid terms acd) = FitsTerms terms
FitsState (Renewing exchange terms acd due) = FitsRenewing exchange terms (rebinding_at terms) due
FitsState (Rebinding exchange terms acd due) = FitsRenewing exchange terms (expiry terms) due

-- the lease that is held is the kept one
abbrev pub IsKept : (held : Option Terms4) → Option LeaseContent → Type 0
IsKept None kept = Unit {0}
IsKept (Some terms) kept = option_map terms_of kept ≡ Some terms

pub record IsSound (c : ClientContent) : Type 0 where
  pub name : FitsName c.settings.site.iface.name
  pub ask : AskFits c.settings.ask
  pub state : FitsState c.state
  pub kept : IfSome c.kept FitsLease
  pub held : IsKept (held_terms c.state) c.kept
  pub fresh : FitsValues c.fresh

-- ---- steps

abbrev pub FitsKeep : Keep4 → Type 0
FitsKeep Stays = Unit {0}
FitsKeep Clears = Unit {0}
FitsKeep (Takes terms) = FitsTerms terms

-- the terms that are held after a step were held or kept before it
abbrev pub StaysHeld : (kept before after : Option Terms4) → Type 0
StaysHeld kept before None = Unit {0}
StaysHeld kept before (Some terms) = (before ≡ Some terms) ⊎ (kept ≡ Some terms)

-- where the kept lease is cleared none is held, and the client is bound to one that is taken
abbrev pub KeepsHeld : (kept before : Option Terms4) → Keep4 → (after : State4) → Type 0
KeepsHeld kept before Stays after = StaysHeld kept before (held_terms after)
KeepsHeld kept before Clears after = held_terms after ≡ None
KeepsHeld kept before (Takes taken) after = bound_terms after ≡ Some taken

-- the step of a client that keeps a lease on these terms
pub record IsSoundStep (kept : Option Terms4) (before : State4) (step : Step4) : Type 0 where
  pub state : FitsState step.state
  pub keep : FitsKeep step.keep
  pub held : KeepsHeld kept (held_terms before) step.keep step.state

-- ---- what a step is taken for

-- an offered address is one that a host may have, and a granted lease is within the bounds
abbrev pub FitsAnswer : Answer4 → Type 0
FitsAnswer answer.Nothing = Unit {0}
FitsAnswer (answer.Offer address server) = is_host_address address ≡ true
FitsAnswer (answer.Ack terms) = FitsTerms terms
FitsAnswer answer.Nak = Unit {0}

-- the terms of the kept lease are within the bounds
abbrev pub FitsBegin : Option Terms4 → Type 0
FitsBegin None = Unit {0}
FitsBegin (Some terms) = FitsTerms terms
