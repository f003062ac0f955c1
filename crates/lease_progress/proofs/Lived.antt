-- What is known of an interface after each turn of its life, where all goes well.
use Rattle.std.proofs.Common.{◌≡◌, ℕ, Bool, true, false, not, ◌||◌, ◌==◌, List, [], ◌∷◌, map, Option, Some, None, IfSome, refl, sym, ap, subst, ◌∙◌, arith}
use Rattle.std.proofs.lemmas.Bool.Decides.{nat_tests}
use Rattle.std.specs.List.{list_any, AllByRecursion}
use Rattle.machine.specs.Since.{Always}
use Rattle.net_types.proofs.CaseLaws.{split}
use Rattle.net_types.specs.declared.address.Mac.{Mac}
use Rattle.net_types.specs.declared.interface.IfSpec.{IfSpec}
use Rattle.lease_text.specs.Bounds.{FitsLease, HasText, IsTyped}
use Rattle.lease_text.specs.Leases.{LeaseContent}
use Rattle.settings.specs.declared.interfaces.Managed.{Managed}
use Rattle.script_model.specs.IfaceSets.{is_in, is_up}
use Rattle.world.specs.declared.wakes.Event.{Event}
use Rattle.world.specs.declared.wakes.Event.TheVariants.{Frame, Carrier, Duplicate, Release, Rebind, Stop, Quiet, End}
use Rattle.client_model.specs.declared.interfaces.Iface.{Iface}
use Rattle.client_model.specs.Messages.{Said}
use Rattle.client_model.specs.ClientSettings.{ask_of}
use Rattle.client_model.specs.Clients.{frame_of}
use Rattle.client_model.specs.Fitting.{FitsBeginning}
use Rattle.client_model.specs.IfaceTurns.{iface_turned}
use Rattle.client_model.specs.KeptLeases.{Beginning}
use Rattle.client_model.proofs.SameInterfaces.{opened_same, turned_same}
use Rattle.v4_message.specs.Requests.{AskContent}
use Rattle.evidence_words.specs.Entries.{Entry, Offer}
use Rattle.evidence_words.specs.Inputs.{Site, GoesOn, carrier_after, has_carrier, index_at, is_stop, is_stopped, offers_at}
use Rattle.evidence_words.proofs.Offers.{Offered}
use Rattle.evidence_words.specs.IfaceLives.{Opening, Met, site_of, opening_entry, entry_of, shown, opens, iface_after, failed_last, IsLived, now_in}
use Rattle.lease_evidence.specs.HeldLeases.{KeepsTyped}
use Rattle.lease_evidence.specs.OwnMessages.{speaker_of}
use Rattle.lease_evidence.proofs.Carrying.{Carries, clean_carries}
use Rattle.lease_evidence.proofs.LeasedInputs.{Turned}
use Rattle.lease_evidence.proofs.LeasedTurns.{opens_leased, turn_leased}
use Rattle.lease_evidence.proofs.Spoken.{FitsSaid, OwnSaid}
use Rattle.lease_evidence.proofs.Watching.{AnyTerms, Lasts}
use Rattle.lease_progress.specs.FairTurns.{Fair}
use Rattle.lease_progress.specs.Serving.{Answered}

-- ---- the frames of what was said

abbrev FramesOf : IfSpec → AskContent → List Said → List Offer → Type 0
FramesOf spec ask said offers = map (λ o. o.bytes) offers ≡ map (frame_of spec ask) said

module _ (spec : IfSpec) (ask : AskContent) where
  abbrev first_bytes : (default : List ℕ) → List (List ℕ) → List ℕ
  first_bytes default [] = default
  first_bytes default (bytes ∷ more) = bytes

  abbrev later_bytes : List (List ℕ) → List (List ℕ)
  later_bytes [] = []
  later_bytes (bytes ∷ more) = more

  this_taken : (taken others : Bool) → (not taken || others) ≡ false → taken ≡ true
  this_taken true others h = refl
  this_taken false others h = absurd cc

  others_taken : (taken others : Bool) → (not taken || others) ≡ false → others ≡ false
  others_taken true others h = h
  others_taken false others h = absurd cc

  -- each frame is that of a message, and was taken where none failed
  pub each_offered : (clean : Type 0) (said : List Said) (offers : List Offer) → FramesOf spec ask said offers
      → (clean → list_any (λ o. not o.taken) offers ≡ false) → Offered spec ask clean said offers
  each_offered clean [] [] same none = tt
  each_offered clean [] (o ∷ offers) same none = absurd cc
  each_offered clean (say ∷ said) [] same none = absurd cc
  each_offered clean (say ∷ said) (o ∷ offers) same none = (
    ap (first_bytes o.bytes) same,
    λ k. this_taken o.taken (list_any (λ p. not p.taken) offers) (none k),
    each_offered clean said offers (ap later_bytes same) (λ k. others_taken o.taken (list_any (λ p. not p.taken) offers) (none k)),
  )

both_hold : (kept : Option LeaseContent) → IfSome kept FitsLease → IfSome kept IsTyped → IfSome kept HasText
both_hold None fits typed = tt
both_hold (Some lease) fits typed = record { fits = fits; typed = typed }

-- ---- carrier and stop

same_index : (a b : ℕ) → (a == b) ≡ true → a ≡ b
same_index a b h = grind (arith, nat_tests)

still_carried : (index : ℕ) (event : Event) → GoesOn true index event → carrier_after index event true ≡ true
still_carried index (Carrier other up) on =
    split (index == other) (λ mine. rw mine (on (same_index index other mine) refl)) (λ alien. rw alien refl)
still_carried index (Frame other len) on = refl
still_carried index (Duplicate other addr) on = refl
still_carried index (Release other) on = refl
still_carried index (Rebind other) on = refl
still_carried index Stop on = refl
still_carried index Quiet on = refl
still_carried index End on = refl

not_stopped : (up : Bool) (index : ℕ) (event : Event) → GoesOn up index event → is_stop event ≡ false
not_stopped up index (Carrier other now) on = refl
not_stopped up index (Frame other len) on = refl
not_stopped up index (Duplicate other addr) on = refl
not_stopped up index (Release other) on = refl
not_stopped up index (Rebind other) on = refl
not_stopped up index Stop on = absurd on
not_stopped up index Quiet on = refl
not_stopped up index End on = refl

module _ (site : Site) (answered : Answered) (wait : ℕ) where
  pub carried : site.up ≡ true → (past : List Entry) → Always (Fair site answered wait) past → has_carrier site past ≡ true
  carried up [] fair = up
  carried up (e ∷ past) fair =
      let before : has_carrier site past ≡ true = carried up past fair.1 in
      rw before (still_carried (index_at site) e.event (subst (λ (u : Bool). GoesOn u (index_at site) e.event) before fair.0.stays))

  pub runs_on : (past : List Entry) → Always (Fair site answered wait) past → is_stopped past ≡ false
  runs_on [] fair = refl
  runs_on (e ∷ past) fair = rw (not_stopped (has_carrier site past) (index_at site) e.event fair.0.stays) (runs_on past fair.1)

  pub none_failed : (past : List Entry) → Always (Fair site answered wait) past → failed_last site past ≡ false
  none_failed [] fair = refl
  none_failed (e ∷ past) fair = fair.0.taken

-- ---- what is known

-- what an interface says in its opening, or in the last turn
abbrev pub said_last : List Mac → Beginning → Opening → List Met → List Said
said_last own b o [] = (opens b o).said
said_last own b o (met ∷ mets) = (iface_turned own met.turn (iface_after own b o mets)).said

pub record Known (own : List Mac) (b : Beginning) (o : Opening) (mets : List Met) : Type 0 where
  pub managed : (iface_after own b o mets).managed ≡ b.managed
  pub up : (iface_after own b o mets).up ≡ true
  pub running : (iface_after own b o mets).stopped ≡ false
  pub client : Carries AnyTerms (site_of own b o) (Unit {0}) (iface_after own b o mets).dhcp4 (shown o mets)
  pub fit : AllByRecursion FitsSaid (said_last own b o mets)
  pub ours : AllByRecursion (OwnSaid (speaker_of b.managed)) (said_last own b o mets)

module _ (own : List Mac) (b : Beginning) (o : Opening) (fits : FitsBeginning b) (typed : KeepsTyped b) where
  abbrev site : Site
  site = site_of own b o

  abbrev iface : List Met → Iface
  iface mets = iface_after own b o mets

  abbrev Clean : List Met → Type 0
  Clean mets = failed_last site (shown o mets) ≡ false

  same_managed : (mets : List Met) → (iface mets).managed ≡ b.managed
  same_managed [] = opened_same o.up o.at o.salt b
  same_managed (met ∷ mets) = turned_same own met.turn (iface mets) ∙ same_managed mets

  turned : (mets : List Met) → IsLived own b o mets → Turned site (Clean mets) (iface mets) (said_last own b o mets) (shown o mets)
  turned [] lived =
      opens_leased own (Clean []) o.at o.salt lived.0 o.offers b fits.managed fits.duid (both_hold b.kept4 fits.kept4 typed)
      (is_up o.up b.managed.spec.index.number)
      (each_offered b.managed.spec (ask_of b.duid b.managed) (Clean []) (opens b o).said (offers_at site (opening_entry o)) lived.1 (λ k. k))
  turned (met ∷ mets) lived =
      let before : Turned site (is_in met.turn.unsent b.managed.spec.index.number ≡ false) (iface mets) (said_last own b o mets) (shown o mets) =
      subst (λ (f : Bool). Turned site (f ≡ false) (iface mets) (said_last own b o mets) (shown o mets)) (sym lived.2) (turned mets lived.4) in
      turn_leased site fits.managed (Clean (met ∷ mets)) met.turn.salt (entry_of met) lived.0 lived.1 (shown o mets) met.turn.unsent (iface mets)
      (same_managed mets)
      (subst (λ (m : Managed). Turned site (is_in met.turn.unsent m.spec.index.number ≡ false) (iface mets) (said_last own b o mets) (shown o mets))
      (sym (same_managed mets)) before).leased
      (each_offered b.managed.spec (ask_of b.duid b.managed) (Clean (met ∷ mets)) (said_last own b o (met ∷ mets)) (offers_at site (entry_of met)) lived.3
      (λ k. k))

  pub known : (answered : Answered) (wait : ℕ) (mets : List Met) → site.up ≡ true → IsLived own b o mets → Always (Fair site answered wait) (shown o mets)
      → Known own b o mets
  known answered wait mets up lived fair =
      let t : Turned site (Clean mets) (iface mets) (said_last own b o mets) (shown o mets) = turned mets lived in
      let running : (iface mets).stopped ≡ false = t.leased.stopped ∙ runs_on site answered wait (shown o mets) fair in
      record {
        managed = same_managed mets;
        up = t.leased.carrier running ∙ carried site answered wait up (shown o mets) fair;
        running = running;
        client = clean_carries (Lasts (now_in (shown o mets))) site (Clean mets) (iface mets).dhcp4 (shown o mets)
            (none_failed site answered wait (shown o mets) fair) t.leased.client;
        fit = t.fit;
        ours = t.own;
      }
