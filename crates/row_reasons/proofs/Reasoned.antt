-- An address rests as the reason says that is found of it, and one is found where it rests at all.
use Rattle.std.proofs.Common.{◌≡◌, inl, inr, ℕ, Bool, true, false, cond, ◌&&◌, ◌||◌, if◌then◌else◌, List, map, Option, Some, None, IfSome, refl, sym, ap, subst, ◌∙◌}
use Rattle.std.specs.Prelude.{◌==◌}
use Rattle.std.specs.List.{Contains}
use Rattle.std.specs.Option.{is_some}
use Rattle.std.proofs.lemmas.Bool.{and_parts, eqb-true, or_cases, or_left, or_right}
use Rattle.net_types.specs.declared.address.Net.{Net}
use Rattle.net_types.specs.declared.interface.IfIndex.{IfIndex}
use Rattle.settings.specs.declared.interfaces.Managed.{Managed}
use Rattle.audit_words.specs.EvidenceWords.Entries.{Entry}
use Rattle.audit_words.specs.EvidenceWords.IfaceLives.{now_in}
use Rattle.audit_words.specs.EvidenceWords.Inputs.{Site, index_at}
use Rattle.transcript_audit.specs.Evidence.Laws.{BasisWith, KeptBasis}
use Rattle.transcript_audit.proofs.KeptJudge.Lists.{has_any}
use Rattle.v6_client_laws.proofs.Given.{met}
use Rattle.transcript_audit.specs.AuditSeats.Tests.{judged_by, rests_on}
use Rattle.transcript_audit.specs.IfaceJudges.Joined.{is_own, is_shared, of_number}
use Rattle.transcript_audit.specs.IfaceJudges.Laws.{HeardAddress}
use Rattle.transcript_audit.proofs.IfaceJudges.Owning.{own_told}
use Rattle.transcript_audit.proofs.IfaceJudges.SharesTold.{shares_told}
use Rattle.basis_turns.specs.BasisFinds.{basis_found}
use Rattle.basis_turns.specs.BasisShown.{FoundAreShown, HasOwnBasis, ShownBy}
use Rattle.basis_turns.specs.declared.walks.Basis.{Basis}
use Rattle.row_reasons.specs.Finding.{first_given, kept_reason, or_else, own_at, own_reason, reason_among, reason_by, share_at}
use Rattle.row_reasons.specs.Reasons.{IsShareOf, RestsBy, ShownNow}
use Rattle.row_reasons.specs.declared.reason.Reason.{Reason}
use Rattle.row_reasons.specs.declared.reason.Reason.TheVariants.{Own, Kept, Share}
use Rattle.row_reasons.proofs.Givings.{either_of, given_by, given_mapped, same_some, some_given, some_of_two}

-- ---- on the interface itself

abbrev RestsHere : Reason → Site → Net → List Entry → Type 0
RestsHere (Own basis) site net past = ShownNow basis site net past
RestsHere Kept site net past = KeptBasis site net past
RestsHere (Share number) site net past = ⊥

module _ (found : FoundAreShown) (site : Site) (net : Net) (past : List Entry) where
  abbrev basis_now : Option Basis
  basis_now = basis_found site net (now_in past) past

  not_own : basis_now ≡ None → HasOwnBasis site net (now_in past) past → ⊥
  not_own none own = let some = (found site net (now_in past) past).all.1 own in cc

  kept_alone : basis_now ≡ None → BasisWith HeardAddress site net past → KeptBasis site net past
  kept_alone none (inl static) = absurd (not_own none (inl static))
  kept_alone none (inr (inl local)) = absurd (not_own none (inr (inl local)))
  kept_alone none (inr (inr (inl leased))) = absurd (not_own none (inr (inr (inl leased))))
  kept_alone none (inr (inr (inr (inl heard)))) = absurd (not_own none (inr (inr (inr heard))))
  kept_alone none (inr (inr (inr (inr kept)))) = kept

  kept_by : (b : Bool) (reason : Reason) → basis_now ≡ None → is_own site net past ≡ b → (if b then Some Kept else None) ≡ Some reason
      → RestsHere reason site net past
  kept_by true reason none owns is =
      subst (λ (r : Reason). RestsHere r site net past) (same_some is) (kept_alone none ((own_told site net past).0 owns))
  kept_by false reason none owns is = absurd cc

  own_by : (basis : Option Basis) (reason : Reason) → basis_now ≡ basis → reason_by basis (kept_reason site net past) ≡ Some reason
      → RestsHere reason site net past
  own_by (Some basis) reason so is =
      subst (λ (r : Reason). RestsHere r site net past) (same_some is)
      (subst (λ (o : Option Basis). IfSome o (λ b. ShownBy b site net (now_in past) past)) so (found site net (now_in past) past).shown)
  own_by None reason so is = kept_by (is_own site net past) reason so refl is

  own_holds : (reason : Reason) → own_reason site net past ≡ Some reason → RestsHere reason site net past
  own_holds reason is = own_by basis_now reason refl is

  -- one is found where the address rests here
  some_by : (basis : Option Basis) → is_own site net past ≡ true → is_some (reason_by basis (kept_reason site net past)) ≡ true
  some_by (Some basis) owns = refl
  some_by None owns = ap (λ (b : Bool). is_some (if b then Some Kept else None)) owns

-- ---- among the managed interfaces

at_number : (b : Bool) (o : Option Reason) (reason : Reason) → (if b then o else None) ≡ Some reason → (b ≡ true) × (o ≡ Some reason)
at_number true o reason e = (refl, e)
at_number false o reason e = absurd cc

same_index : (a b : IfIndex) → (a.number == b.number) ≡ true → a ≡ b
same_index a b h = ap of_number (eqb-true a.number b.number h)

module _ (found : FoundAreShown) (managed : List Managed) (sites : Managed → Site)
    (fits : (m : Managed) → index_at (sites m) ≡ m.spec.index.number) (past : List Entry) (index : IfIndex) (net : Net) where
  abbrev own_here : Managed → Option Reason
  own_here m = own_at index.number net past (sites m)

  abbrev share_here : Managed → Option Reason
  share_here m = share_at index.number net past (sites m)

  here : (m : Managed) → (index_at (sites m) == index.number) ≡ true → index ≡ m.spec.index
  here m is = sym (same_index m.spec.index index (ap (λ (n : ℕ). n == index.number) (sym (fits m)) ∙ is))

  held : (reason : Reason) (m : Managed) → Contains managed m → index ≡ m.spec.index → RestsHere reason (sites m) net past
      → RestsBy reason managed sites past index net
  held (Own basis) m among is rests = record { holder = m; among = among; is_here = is; basis = rests }
  held Kept m among is rests = record { holder = m; among = among; is_here = is; basis = rests }
  held (Share number) m among is rests = absurd rests

  own_rests : (reason : Reason) → first_given own_here managed ≡ Some reason → RestsBy reason managed sites past index net
  own_rests reason e =
      let one = given_by own_here managed reason e in
      let at = at_number (index_at (sites one.x) == index.number) (own_reason (sites one.x) net past) reason one.gives in
      held reason one.x one.among (here one.x at.0) (own_holds found (sites one.x) net past reason at.1)

  share_rests : (reason : Reason) → first_given share_here managed ≡ Some reason → RestsBy reason managed sites past index net
  share_rests reason e =
      let one = given_by share_here managed reason e in
      let at = at_number (is_shared (sites one.x) index.number net past) (Some (Share (index_at (sites one.x)))) reason one.gives in
      let is : IsShareOf (index_at (sites one.x)) managed sites past index net = record {
        upstream = one.x;
        among = one.among;
        numbered = sym (fits one.x);
        basis = (shares_told (sites one.x) index net past).0 at.0;
      } in
      subst (λ (r : Reason). RestsBy r managed sites past index net) (same_some at.1) is

  either_rests : (first : Bool) (reason : Reason) → cond first (first_given own_here managed) (first_given share_here managed) ≡ Some reason
      → RestsBy reason managed sites past index net
  either_rests true reason e = own_rests reason e
  either_rests false reason e = share_rests reason e

  over_managed : reason_among (map sites managed) index.number net past ≡ or_else (first_given own_here managed) (first_given share_here managed)
  over_managed = λ i. or_else (given_mapped (own_at index.number net past) sites managed i) (given_mapped (share_at index.number net past) sites managed i)

  pub address_rests : (reason : Reason) → reason_among (map sites managed) index.number net past ≡ Some reason
      → RestsBy reason managed sites past index net
  address_rests reason e =
      let one = either_of (first_given own_here managed) (first_given share_here managed) reason (sym over_managed ∙ e) in
      either_rests one.first reason one.is

  -- ---- one is found where the address rests at all

  own_some : (m : Managed) → (m.spec.index.number == index.number) ≡ true → is_own (sites m) net past ≡ true → is_some (own_here m) ≡ true
  own_some m at owns =
      ap (λ (b : Bool). is_some (if b then own_reason (sites m) net past else None)) (ap (λ (n : ℕ). n == index.number) (fits m) ∙ at)
      ∙ some_by found (sites m) net past (basis_found (sites m) net (now_in past) past) owns

  share_some : (m : Managed) → is_shared (sites m) index.number net past ≡ true → is_some (share_here m) ≡ true
  share_some m shares = ap (λ (b : Bool). is_some (if b then Some (Share (index_at (sites m))) else None)) shares

  any_own : (m : Managed) → Contains managed m → is_some (own_here m) ≡ true → is_some (first_given own_here managed) ≡ true
  any_own m among some = some_given own_here managed ∙ has_any (λ n. is_some (own_here n)) managed m among some

  any_share : (m : Managed) → Contains managed m → is_some (share_here m) ≡ true → is_some (first_given share_here managed) ≡ true
  any_share m among some = some_given share_here managed ∙ has_any (λ n. is_some (share_here n)) managed m among some

  abbrev rests : Managed → Bool
  rests m = rests_on is_own is_shared m.spec.index.number index.number net past (sites m)

  some_among : judged_by is_own is_shared managed sites past index net ≡ true
      → (is_some (first_given own_here managed) || is_some (first_given share_here managed)) ≡ true
  some_among judged =
      let one = met rests managed judged in
      let own = (one.x.spec.index.number == index.number) && is_own (sites one.x) net past in
      elim (or_cases own (is_shared (sites one.x) index.number net past) one.passes) [
        | inl both ↦
            let parts = and_parts (one.x.spec.index.number == index.number) (is_own (sites one.x) net past) both in
            or_left (is_some (first_given own_here managed)) (is_some (first_given share_here managed))
            (any_own one.x one.among (own_some one.x parts.0 parts.1))
        | inr shares ↦
            or_right (is_some (first_given own_here managed)) (is_some (first_given share_here managed))
            (any_share one.x one.among (share_some one.x shares))
      ]

  pub address_some : judged_by is_own is_shared managed sites past index net ≡ true
      → is_some (reason_among (map sites managed) index.number net past) ≡ true
  address_some judged =
      ap (λ (o : Option Reason). is_some o) over_managed ∙ some_of_two (first_given own_here managed) (first_given share_here managed) ∙ some_among judged
