-- The judge keeps what the observer of lease_evidence keeps.
use Rattle.std.proofs.Common.{◌≡◌, ℕ, Bool, true, false, not, ◌&&◌, ◌||◌, List, [], ◌∷◌, Option, Some, None, refl, ap, ◌∙◌, nat_eq}
use Rattle.std.specs.Prelude.{◌==◌, if◌then◌else◌}
use Rattle.world.specs.declared.wakes.Event.{Event}
use Rattle.world.specs.declared.wakes.Event.TheVariants.{Frame, Carrier, Duplicate, Release, Rebind, Stop, Quiet, End}
use Rattle.v4_client.specs.declared.states.Answer4.{Answer4}
use Rattle.v4_client.specs.declared.states.Answer4.TheVariants as answer
use Rattle.evidence_words.specs.Entries.{Entry}
use Rattle.evidence_words.specs.Inputs.{Site, index_at, has_carrier, carrier_after}
use Rattle.own_frames4.specs.LeaseEvidence.Exchanges.{Numbered, Seen, messages_at, show, seen_in}
use Rattle.own_frames4.specs.LeaseEvidence.Replies.{reply_at}
use Rattle.own_frames4.proofs.LeaseEvidence.Observer as observer
use Rattle.own_frames4.proofs.LeaseEvidence.Observer.{Grant, Kept, kept, stays_on, if_calm, answered_in, ended_at, kept_in}
use Rattle.lease_judge.specs.Judge.{Granted, Judge, stays, sees, told, hears_in, hears, turned, judge_in}

abbrev pub as_granted : Option Grant → Option Granted
as_granted None = None
as_granted (Some g) = Some (record { opened = g.opened; terms = g.terms })

abbrev pub as_judge : Bool → Seen → Kept → Judge
as_judge up seen k = record { up = up; seen = seen; answered = k.answered; granted = as_granted k.grant }

stays_same : (up : Bool) (index : ℕ) (event : Event) → stays up index event ≡ stays_on up index event
stays_same up index (Frame other len) = refl
stays_same up index (Carrier other now) = carried (index == other) up
  where
    carried : (here up : Bool) → (not (here && up) || now) ≡ (not here || not up || now)
    carried true true = refl
    carried true false = refl
    carried false up = refl
stays_same up index (Duplicate other addr) = refl
stays_same up index (Release other) = refl
stays_same up index (Rebind other) = refl
stays_same up index Stop = refl
stays_same up index Quiet = refl
stays_same up index End = refl

calm_same : (goes ended : Bool) (grant : Option Grant) → (if goes && not ended then as_granted grant else None) ≡ as_granted (if_calm goes ended grant)
calm_same true true grant = refl
calm_same true false grant = refl
calm_same false ended grant = refl

module _ (site : Site) (e : Entry) (up : Bool) where
  abbrev kept_now : Kept → Kept
  kept_now k = kept k.answered (if_calm (stays_on up (index_at site) e.event) (ended_at site e) k.grant)

  abbrev up_now : Bool
  up_now = carrier_after (index_at site) e.event up

  abbrev seen_now : Seen → Seen
  seen_now seen = show e.moment (messages_at site e) seen

  sees_same : (seen : Seen) (k : Kept) → sees site e (as_judge up seen k) ≡ as_judge up_now (seen_now seen) (kept_now k)
  sees_same seen k =
      rw (stays_same up (index_at site) e.event)
      (ap (λ (granted : Option Granted). record { up = up_now; seen = seen_now seen; answered = k.answered; granted = granted })
      (calm_same (stays_on up (index_at site) e.event) (ended_at site e) k.grant))

told_same : (x : Numbered) (known : Bool) (said : Answer4) (up : Bool) (seen : Seen) (k : Kept)
    → (if known then as_judge up seen k else told x said (as_judge up seen k)) ≡ as_judge up seen (answered_in x known said k)
told_same x true said up seen k = refl
told_same x false (answer.Ack terms) up seen k = refl
told_same x false answer.Nak up seen k = refl
told_same x false answer.Nothing up seen k = refl
told_same x false (answer.Offer address server) up seen k = refl

hears_same : (site : Site) (e : Entry) (current : Option Numbered) (up : Bool) (seen : Seen) (k : Kept)
    → hears_in current site e (as_judge up seen k) ≡ as_judge up seen (observer.hears (λ exchange. reply_at site exchange e) current k)
hears_same site e None up seen k = refl
hears_same site e (Some x) up seen k = told_same x (nat_eq k.answered x.number) (reply_at site x.exchange e) up seen k

judge_same : (site : Site) (past : List Entry) → judge_in site past ≡ as_judge (has_carrier site past) (seen_in site past) (kept_in site past)
judge_same site [] = refl
judge_same site (e ∷ past) =
    ap (turned site e) (judge_same site past)
    ∙ ap (hears site e) (sees_same site e (has_carrier site past) (seen_in site past) (kept_in site past))
    ∙ hears_same site e (seen_in site (e ∷ past)).current (has_carrier site (e ∷ past)) (seen_in site (e ∷ past))
    (kept_now site e (has_carrier site past) (kept_in site past))

-- the judge's grant is the observer's
pub granted_same : (site : Site) (past : List Entry) → (judge_in site past).granted ≡ as_granted (kept_in site past).grant
granted_same site past = ap (λ (judge : Judge). judge.granted) (judge_same site past)

-- and its carrier is the interface's
pub carrier_same : (site : Site) (past : List Entry) → (judge_in site past).up ≡ has_carrier site past
carrier_same site past = ap (λ (judge : Judge). judge.up) (judge_same site past)

-- and its exchanges are those that the interface opened
pub seen_same : (site : Site) (past : List Entry) → (judge_in site past).seen ≡ seen_in site past
seen_same site past = ap (λ (judge : Judge). judge.seen) (judge_same site past)
