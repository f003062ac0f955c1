-- The IA that counts is the first of its kind and its IAID.
use Rattle.std.proofs.Common.{◌≡◌, List, [], ◌∷◌, ◌++◌, Some, refl, ap, ◌∙◌, subst}
use Rattle.std.specs.Bool.{Decides}
use Rattle.std.specs.List.{AllByRecursion}
use Rattle.std.specs.Prelude.{◌==◌}
use Rattle.std.proofs.lemmas.Bool.{and_parts, and_from, both_ways, eqb-true, eq-eqb, false_from_ne_true}
use Rattle.net_types.proofs.CaseLaws.{split}
use Rattle.v6_options.specs.declared.ia.IaKind.{IaKind}
use Rattle.v6_options.specs.declared.ia.IaKind.TheVariants.{Na, Pd}
use Rattle.v6_options.specs.Ias.{IaContent}
use Rattle.lease6_text.specs.LineParts.{is_same_kind}
use Rattle.v6_items.specs.declared.asks.IaAsk.{IaAsk}
use Rattle.v6_items.specs.Reading.{ia_for, is_for}
use Rattle.v6_client_laws.specs.GivenItems.{IsFirstOf, IsOf}

kind_decides : (one other : IaKind) → Decides (is_same_kind one other) (one ≡ other)
kind_decides Na Na = (λ e. refl, λ e. refl)
kind_decides Pd Pd = (λ e. refl, λ e. refl)
kind_decides Na Pd = (λ e. absurd cc, λ e. absurd cc)
kind_decides Pd Na = (λ e. absurd cc, λ e. absurd cc)

of_decides : (ask : IaAsk) (ia : IaContent) → Decides (is_for ask ia) (IsOf ask.kind ask.iaid ia)
of_decides ask ia = (
  λ e.
      let parts = and_parts (is_same_kind ia.kind ask.kind) (ia.iaid == ask.iaid) e in
      record { kind_is = (kind_decides ia.kind ask.kind).0 parts.0; iaid_is = eqb-true ia.iaid ask.iaid parts.1 },
  λ is. and_from _ _ ((kind_decides ia.kind ask.kind).1 is.kind_is) (eq-eqb ia.iaid ask.iaid is.iaid_is),
)

same_some : {X : Type 0} (x y : X) → Some x ≡ Some y → x ≡ y
same_some x y e = cc

behind : (ask : IaAsk) (other : IaContent) (ias : List IaContent) (ia : IaContent) → (IsOf ask.kind ask.iaid other → ⊥)
    → IsFirstOf ask.kind ask.iaid ias ia → IsFirstOf ask.kind ask.iaid (other ∷ ias) ia
behind ask other ias ia never first = record {
  before = other ∷ first.before;
  after = first.after;
  cut = ap (λ rest. other ∷ rest) first.cut;
  is = first.is;
  others = (never, first.others);
}

pub first_found : (ask : IaAsk) (ias : List IaContent) (ia : IaContent) → ia_for ask ias ≡ Some ia → IsFirstOf ask.kind ask.iaid ias ia
first_found ask [] ia e = absurd cc
first_found ask (other ∷ ias) ia e =
    let step : ia_for ask (other ∷ ias) ≡ Some ia → IsFirstOf ask.kind ask.iaid (other ∷ ias) ia =
    split (is_for ask other)
    (λ t. rw t (λ same.
    subst (λ (x : IaContent). IsFirstOf ask.kind ask.iaid (other ∷ ias) x) (same_some other ia same)
    (record { before = []; after = ias; cut = refl; is = (of_decides ask other).0 t; others = tt })))
    (λ f. rw f (λ same.
    behind ask other ias ia (λ is. both_ways (is_for ask other) f ((of_decides ask other).1 is)) (first_found ask ias ia same))) in
    step e

cut_found : (ask : IaAsk) (before after : List IaContent) (ia : IaContent) → IsOf ask.kind ask.iaid ia
    → AllByRecursion (λ other. IsOf ask.kind ask.iaid other → ⊥) before → ia_for ask (before ++ ia ∷ after) ≡ Some ia
cut_found ask [] after ia is others = let e = (of_decides ask ia).1 is in rw e refl
cut_found ask (other ∷ before) after ia is others =
    let e = false_from_ne_true (is_for ask other) (λ t. others.0 ((of_decides ask other).0 t)) in
    let rest = cut_found ask before after ia is others.1 in
    rw e rest

pub found_first : (ask : IaAsk) (ias : List IaContent) (ia : IaContent) → IsFirstOf ask.kind ask.iaid ias ia → ia_for ask ias ≡ Some ia
found_first ask ias ia first = ap (ia_for ask) first.cut ∙ cut_found ask first.before first.after ia first.is first.others
