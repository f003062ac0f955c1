-- The test of a probed address tells that it was probed.
use Rattle.std.proofs.Common.{◌≡◌, ℕ, Bool, true, false, not, ◌&&◌, ◌||◌, ◌⊎◌, inl, inr, List, [], ◌∷◌, ◌++◌, refl, sym, subst, ap, ◌∙◌}
use Rattle.std.specs.Prelude.{◌==◌}
use Rattle.std.specs.List.{list_any}
use Rattle.net_types.specs.declared.address.Ip4.{Ip4}
use Rattle.world.specs.declared.wakes.Event.{Event}
use Rattle.world.specs.declared.wakes.Event.TheVariants.{Frame, Carrier, Duplicate, Release, Rebind, Stop, Quiet, End}
use Rattle.evidence_words.specs.Entries.{Entry}
use Rattle.evidence_words.specs.Inputs.{Site, index_at, has_carrier}
use Rattle.evidence_words.specs.Probed.{TurnWord, Probes, EachAfter, Probed}
use Rattle.local_judge.specs.LocalEvidence.LinkLocalBasis.{Anything}
use Rattle.own_frames4.specs.LeaseEvidence.Exchanges.{messages_at}
use Rattle.own_frames4.specs.LeaseEvidence.LeaseBasis.{tells_end, Calm}
use Rattle.local_judge.specs.ProbeTables.ProbeTimes.{TurnTest, is_past, times_in}
use Rattle.local_judge.specs.Choices as local
use Rattle.local_judge.proofs.Calmness.{Tells, calm_tells}
use Rattle.local_judge.proofs.ProbesTold.{three_told}
use Rattle.lease_judge.specs.Judge.{stays}
use Rattle.lease_judge.specs.ProbedTurns.{calm_in, probed_in}
use Rattle.lease_judge.proofs.AsObserver.{carrier_same}

both : (a b : Bool) → a ≡ true → b ≡ true → (a && b) ≡ true
both true b one other = other
both false b one other = one

parts : (a b : Bool) → (a && b) ≡ true → (a ≡ true) × (b ≡ true)
parts true b h = (refl, h)
parts false b h = absurd cc

either : (a b : Bool) → (a || b) ≡ true → (a ≡ true) ⊎ (b ≡ true)
either true b h = inl refl
either false b h = inr h

one_of : (a b : Bool) → a ≡ true → (a || b) ≡ true
one_of true b h = refl
one_of false b h = absurd cc

other_of : (a b : Bool) → b ≡ true → (a || b) ≡ true
other_of true b h = refl
other_of false b h = h

-- ---- with any test of calm turns

appended : (later : List Entry) (fourth : Entry) (earlier : List Entry) → (later ++ fourth ∷ []) ++ earlier ≡ later ++ fourth ∷ earlier
appended [] fourth earlier = refl
appended (e ∷ later) fourth earlier = ap (λ (turns : List Entry). e ∷ turns) (appended later fourth earlier)

module _ (C : TurnWord) (calm : TurnTest) (tells : Tells calm C) (site : Site) (addr : Ip4) where
  abbrev AreProbed : List Entry → Type 0
  AreProbed past = Probed C Anything site addr past

  abbrev ready : Entry → List Entry → Bool
  ready e past = is_past 2000 (times_in calm site addr past).third e.moment

  begun : (e : Entry) (past : List Entry) → C e past → ready e past ≡ true → AreProbed (e ∷ past)
  begun e past calmly h = record {
    later = [];
    fourth = e;
    earlier = past;
    cut = refl;
    probes = (three_told C calm tells site addr past 2000 e.moment).yes h;
    since = (calmly, tt);
  }

  gone_on : (e : Entry) (past : List Entry) → C e past → AreProbed past → AreProbed (e ∷ past)
  gone_on e past calmly p = record {
    later = e ∷ p.later;
    fourth = p.fourth;
    earlier = p.earlier;
    cut = ap (λ (turns : List Entry). e ∷ turns) p.cut;
    probes = p.probes;
    since = (subst (λ (turns : List Entry). C e turns) (p.cut ∙ sym (appended p.later p.fourth p.earlier)) calmly, p.since);
  }

  pub are_probed : (past : List Entry) → probed_in calm site addr past ≡ true → AreProbed past
  are_probed [] h = absurd cc
  are_probed (e ∷ past) h =
      let p = parts (calm e past) (ready e past || probed_in calm site addr past) h in
      elim (either (ready e past) (probed_in calm site addr past) p.1) [
        | inl now ↦ begun e past (tells.yes e past p.0) now
        | inr before ↦ gone_on e past (tells.yes e past p.0) (are_probed past before)
      ]

  stand : (later : List Entry) (fourth : Entry) (earlier : List Entry) → Probes C Anything site addr 3 2000 fourth.moment earlier
      → EachAfter C (later ++ fourth ∷ []) earlier → probed_in calm site addr (later ++ fourth ∷ earlier) ≡ true
  stand [] fourth earlier probes since =
      both (calm fourth earlier) (ready fourth earlier || probed_in calm site addr earlier) (tells.no fourth earlier since.0)
      (one_of (ready fourth earlier) (probed_in calm site addr earlier) ((three_told C calm tells site addr earlier 2000 fourth.moment).no probes))
  stand (e ∷ later) fourth earlier probes since =
      let past = later ++ fourth ∷ earlier in
      both (calm e past) (ready e past || probed_in calm site addr past)
      (tells.no e past (subst (λ (turns : List Entry). C e turns) (appended later fourth earlier) since.0))
      (other_of (ready e past) (probed_in calm site addr past) (stand later fourth earlier probes since.1))

  pub probed_stand : (past : List Entry) → AreProbed past → probed_in calm site addr past ≡ true
  probed_stand past p = subst (λ (turns : List Entry). probed_in calm site addr turns ≡ true) (sym p.cut) (stand p.later p.fourth p.earlier p.probes p.since)

-- ---- with that of leases

stays_same : (up : Bool) (index : ℕ) (event : Event) → stays up index event ≡ local.goes_on up index event
stays_same up index (Frame other len) = refl
stays_same up index (Carrier other now) = carried (index == other) up
  where
    carried : (here up : Bool) → (not (here && up) || now) ≡ (not here || not up || now)
    carried true true = refl
    carried true false = refl
    carried false up = refl
stays_same up index (Duplicate other addr) = refl
stays_same up index (Release other) = refl
stays_same up index (Rebind other) = refl
stays_same up index Stop = refl
stays_same up index Quiet = refl
stays_same up index End = refl

silent : (ends : Bool) → not ends ≡ true → ends ≡ false
silent true h = absurd cc
silent false h = refl

module _ (site : Site) where
  abbrev ends : Entry → Bool
  ends e = list_any tells_end (messages_at site e)

  calm_is : (e : Entry) (past : List Entry) → calm_in site e past ≡ (local.is_calm site e past && not (ends e))
  calm_is e past =
      ap (λ (up : Bool). stays up (index_at site) e.event && not (ends e)) (carrier_same site past)
      ∙ ap (λ (goes : Bool). goes && not (ends e)) (stays_same (has_carrier site past) (index_at site) e.event)

  pub lease_calm_tells : Tells (calm_in site) (Calm site)
  lease_calm_tells = record {
    yes = λ e past h.
        let p = parts (local.is_calm site e past) (not (ends e)) (sym (calm_is e past) ∙ h) in
        record { stays = (calm_tells site).yes e past p.0; silent = silent (ends e) p.1 };
    no = λ e past calm.
        calm_is e past
        ∙ both (local.is_calm site e past) (not (ends e)) ((calm_tells site).no e past calm.stays) (ap not calm.silent);
  }
