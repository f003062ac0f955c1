-- The managed interfaces tell together.
use Rattle.std.proofs.Common.{◌≡◌, ◌⊎◌, inl, inr, ℕ, Bool, true, ◌&&◌, ◌||◌, List, sym, ap}
use Rattle.std.specs.Prelude.{◌==◌}
use Rattle.std.proofs.lemmas.Bool.{and_parts, and_from, or_cases, or_left, or_right, eqb-true, eq-eqb}
use Rattle.net_types.specs.declared.address.Net.{Net}
use Rattle.net_types.specs.declared.interface.IfIndex.{IfIndex}
use Rattle.settings.specs.declared.interfaces.Managed.{Managed}
use Rattle.v6_client_laws.proofs.Given.{met}
use Rattle.evidence_words.specs.Entries.{Entry}
use Rattle.evidence_words.specs.Inputs.{Site}
use Rattle.share_judge.specs.Evidence.Laws.{HasBasisIn}
use Rattle.item_judge.specs.Lease6Judge.HeardBasis.{HeardBasis}
use Rattle.share_judge.proofs.KeptJudge.Lists.{has_any}
use Rattle.audit_seats.specs.Tests.{judged_by, rests_on}
use Rattle.iface_judge.specs.Among.{AllAreTold}
use Rattle.iface_judge.specs.Joined.{is_own, is_shared, of_number}
use Rattle.iface_judge.specs.Laws.{HeardAddress}
use Rattle.iface_judge.proofs.Owning.{own_told}
use Rattle.iface_judge.proofs.SharesTold.{shares_told}

module _ (managed : List Managed) (sites : Managed → Site) (past : List Entry) (index : IfIndex) (net : Net) where
  abbrev is_here : Managed → Bool
  is_here m = m.spec.index.number == index.number

  abbrev rests : Managed → Bool
  rests m = rests_on is_own is_shared m.spec.index.number index.number net past (sites m)

  abbrev own : Managed → Bool
  own m = is_own (sites m) net past

  abbrev shared : Managed → Bool
  shared m = is_shared (sites m) index.number net past

  same_index : (a b : IfIndex) → (a.number == b.number) ≡ true → a ≡ b
  same_index a b h = ap of_number (eqb-true a.number b.number h)

  all_so : judged_by is_own is_shared managed sites past index net ≡ true → HasBasisIn HeardAddress HeardBasis managed sites past index net
  all_so h =
      let one = met rests managed h in
      elim (or_cases (is_here one.x && own one.x) (shared one.x) one.passes) [
        | inl here ↦
            let parts = and_parts (is_here one.x) (own one.x) here in
            inl (record {
              holder = one.x;
              among = one.among;
              is_here = sym (same_index one.x.spec.index index parts.0);
              basis = (own_told (sites one.x) net past).0 parts.1;
            })
        | inr of ↦ inr (record { upstream = one.x; among = one.among; basis = (shares_told (sites one.x) index net past).0 of })
      ]

  all_tell : HasBasisIn HeardAddress HeardBasis managed sites past index net → judged_by is_own is_shared managed sites past index net ≡ true
  all_tell (inl b) =
      has_any rests managed b.holder b.among
      (or_left (is_here b.holder && own b.holder) (shared b.holder)
      (and_from (is_here b.holder) (own b.holder)
      (eq-eqb b.holder.spec.index.number index.number (ap (λ (i : IfIndex). i.number) (sym b.is_here)))
      ((own_told (sites b.holder) net past).1 b.basis)))
  all_tell (inr b) =
      has_any rests managed b.upstream b.among
      (or_right (is_here b.upstream && own b.upstream) (shared b.upstream) ((shares_told (sites b.upstream) index net past).1 b.basis))

pub all_told : AllAreTold
all_told = record { yes = all_so; no = all_tell }
