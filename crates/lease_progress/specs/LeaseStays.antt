-- That a lease which was granted stays held, renewed in time (RFC 2131, section 4.4.5). Moments are in milliseconds.
use Rattle.std.specs.Prelude.{◌≡◌, ℕ, ◌+◌, ◌<◌, ◌≤◌, ◌==◌, Bool, true, false, List, ◌++◌, Option, Some, None, IfSome}
use Rattle.machine.specs.Since.{Always}
use Rattle.net_types.specs.declared.address.Mac.{Mac}
use Rattle.world.specs.declared.wakes.Event.{Event}
use Rattle.world.specs.declared.wakes.Event.TheVariants.{Rebind}
use Rattle.lease_text.specs.declared.lease.Terms4.{Terms4}
use Rattle.v4_client.specs.Clients.{is_bound}
use Rattle.v4_client.specs.Moments.{expiry, renewal_at, rebinding_at}
use Rattle.client_model.specs.KeptLeases.{Beginning}
use Rattle.evidence_words.specs.Entries.{Entry}
use Rattle.evidence_words.specs.Inputs.{Site, index_at}
use Rattle.evidence_words.specs.IfaceLives.{Opening, Met, site_of, shown, iface_after}
use Rattle.lease_evidence.specs.Exchanges.{Numbered}
use Rattle.lease_evidence.specs.LeaseBasis.{GoodAck}
use Rattle.lease_progress.specs.FairTurns.{GoesWell, probing}
use Rattle.lease_progress.specs.Serving.{Answered, EachRequest, BroadcastAlone}

-- when a REQUEST that servers answer is first said for a held lease: at T1; or at T2, where renewing is in vain
abbrev pub asked_at : Answered → Terms4 → Option ℕ
asked_at EachRequest terms = renewal_at terms
asked_at BroadcastAlone terms = rebinding_at terms

-- by when it is to be answered
abbrev pub needed_by : Answered → Terms4 → Option ℕ
needed_by EachRequest terms = rebinding_at terms
needed_by BroadcastAlone terms = expiry terms

-- one moment is so long before another one, where both come
abbrev pub IsBefore : (gap : ℕ) → Option ℕ → Option ℕ → Type 0
IsBefore gap None second = Unit {0}
IsBefore gap (Some first) None = Unit {0}
IsBefore gap (Some first) (Some second) = first + gap < second

-- the host doesn't want it confirmed anew
abbrev pub is_rebind : (index : ℕ) → Event → Bool
is_rebind index (Rebind other) = index == other
is_rebind index event = false

-- A lease that is granted lasts longer than its probing, and can be renewed before it must be.
pub record Renewable (site : Site) (answered : Answered) (wait : ℕ) (e : Entry) (past : List Entry) : Type 0 where
  pub undisturbed : is_rebind (index_at site) e.event ≡ false
  pub probed : (opened : Numbered) (terms : Terms4) → GoodAck site opened terms e past
      → IfSome (asked_at answered terms) (λ due. e.moment + probing site.managed.conf ≤ due)
  pub renewed : (opened : Numbered) (terms : Terms4) → GoodAck site opened terms e past
      → IsBefore wait (asked_at answered terms) (needed_by answered terms)

-- What is held by an exchange of this life stays so.
abbrev pub StaysHeld : Type 0
StaysHeld = (own : List Mac) (b : Beginning) (o : Opening) (mets later earlier : List Met) (answered : Answered)
    (wait : ℕ) → GoesWell own b o mets answered wait
    → Always (Renewable (site_of own b o) answered wait) (shown o mets)
    → mets ≡ later ++ earlier → is_bound (iface_after own b o earlier).dhcp4.state ≡ true
    → is_bound (iface_after own b o mets).dhcp4.state ≡ true
