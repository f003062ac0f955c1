-- Shares one after another: a front of a plan is a plan, which the next share doesn't break.
use Rattle.std.proofs.Common.{◌≡◌, ℕ, ◌+◌, List, [], ◌∷◌, ◌++◌, length, Bool, true, false, not, ◌<◌, take, drop, get_or, add-one, drop-cons, refl, sym, ap, ◌∙◌, inl, inr, ◌⊎◌, ◌↔◌, arith}
use Rattle.std.specs.Prelude.{Option, Some, None, ◌==◌, if◌then◌else◌}
use Rattle.std.specs.List.{list_all}
use Rattle.std.proofs.lemmas.Bool.{false≢true, and_parts, and_from, or_parts, or_from, not-true, not-false, not_from_true, not_from_false}
use Rattle.std.proofs.Math.Seq.{take-suc}
use Rattle.std.proofs.lemmas.List.{length-take-le, take-append-drop}
use Rattle.std.proofs.lemmas.List.Folds.{list_all-append}
use Rattle.prefix_share.specs.declared.share.Share.{Share}
use Rattle.prefix_share.specs.declared.rules.ShareCause.{ShareCause}
use Rattle.prefix_share.specs.declared.rules.ShareCause.TheVariants.{SameSla, TooLarge, MixedLength}
use Rattle.prefix_share.specs.declared.rules.ShareFault.{ShareFault}
use Rattle.prefix_share.specs.Subnets.{has_room}
use Rattle.prefix_share.specs.Rules.{go_together, is_plan, mixes_lengths, repeats_sla, broken_by, IsFirstFault}
use Rattle.prefix_share.specs.PlanLaws.{OneFault}

-- no rule is broken
pub record Unbroken (before : List Share) (share : Share) : Type 0 where
  pub one_length : mixes_lengths before share ≡ false
  pub room : has_room share.hint share ≡ true
  pub unlike : repeats_sla before share ≡ false

abbrev chosen : (mixes room repeats : Bool) → Option ShareCause
chosen mixes room repeats = if mixes then Some MixedLength else (if not room then Some TooLarge else (if repeats then Some SameSla else None))

none_from : (mixes room repeats : Bool) → mixes ≡ false → room ≡ true → repeats ≡ false → chosen mixes room repeats ≡ None
none_from mixes room repeats a b c = rw (a, b, c) refl

parts_from : (mixes room repeats : Bool) → chosen mixes room repeats ≡ None → (mixes ≡ false) × ((room ≡ true) × (repeats ≡ false))
parts_from false true false none = (refl, (refl, refl))
parts_from false true true none = grind arith
parts_from false false repeats none = grind arith
parts_from true room repeats none = grind arith

pub none_of : (before : List Share) (share : Share) → Unbroken before share → broken_by before share ≡ None
none_of before share sound = none_from _ _ _ sound.one_length sound.room sound.unlike

pub unbroken_of : (before : List Share) (share : Share) → broken_by before share ≡ None → Unbroken before share
unbroken_of before share none =
    let parts = parts_from _ _ _ none in
    record { one_length = parts.0; room = parts.1.0; unlike = parts.1.1 }

-- ---- a share and one before it

apart_of : (one other : Share) → go_together one other ≡ true → (not (one.len == other.len) ≡ false) × ((one.sla == other.sla) ≡ false)
apart_of one other fit =
    let both = and_parts _ _ fit in
    (not_from_true _ both.0, not-true _ both.1)

together_of : (one other : Share) → not (one.len == other.len) ≡ false → (one.sla == other.sla) ≡ false → go_together one other ≡ true
together_of one other same unlike = and_from _ _ (not-false _ same) (not_from_false _ unlike)

at_seam : (one : Share) (before : List Share) (share : Share) (after : List Share) → list_all (go_together one) (before ++ share ∷ after) ≡ true
    → go_together one share ≡ true
at_seam one before share after all =
    let both = and_parts _ _ (sym (list_all-append (go_together one) before (share ∷ after)) ∙ all) in
    (and_parts _ _ both.1).0

-- ---- fronts

pub unbroken : (before : List Share) (share : Share) (after : List Share) → is_plan (before ++ share ∷ after) ≡ true → Unbroken before share
unbroken [] share after plan = record { one_length = refl; room = (and_parts _ _ (and_parts _ _ plan).0).0; unlike = refl }
unbroken (one ∷ before) share after plan =
    let parts = and_parts _ _ plan in
    let rest = unbroken before share after parts.1 in
    let fit = apart_of one share (at_seam one before share after (and_parts _ _ parts.0).1) in
    record { one_length = or_from _ _ fit.0 rest.one_length; room = rest.room; unlike = or_from _ _ fit.1 rest.unlike }

pub longer_plan : (before : List Share) (share : Share) → is_plan before ≡ true → Unbroken before share → is_plan (before ++ share ∷ []) ≡ true
longer_plan [] share plan sound = and_from _ _ (and_from _ _ sound.room refl) refl
longer_plan (one ∷ before) share plan sound =
    let parts = and_parts _ _ plan in
    let lengths = or_parts _ _ sound.one_length in
    let ids = or_parts _ _ sound.unlike in
    let fit = together_of one share lengths.0 ids.0 in
    let all = list_all-append (go_together one) before (share ∷ []) ∙ and_from _ _ (and_parts _ _ parts.0).1 (and_from _ _ fit refl) in
    let rest = longer_plan before share parts.1 (record { one_length = lengths.1; room = sound.room; unlike = ids.1 }) in
    and_from _ _ (and_from _ _ (and_parts _ _ parts.0).0 all) rest

-- ---- a share at a place

-- the first shares, one more
more_shares : (shares : List Share) (i : ℕ) (d : Share) → i < length shares → take (i + 1) shares ≡ take i shares ++ get_or shares i d ∷ []
more_shares shares i d inside = rw (add-one i) (take-suc shares i d inside)

pub next_plan : (shares : List Share) (i : ℕ) (d : Share) → i < length shares → is_plan (take i shares) ≡ true
    → broken_by (take i shares) (get_or shares i d) ≡ None
    → is_plan (take (i + 1) shares) ≡ true
next_plan shares i d inside plan none =
    ap is_plan (more_shares shares i d inside) ∙ longer_plan (take i shares) (get_or shares i d) plan (unbroken_of (take i shares) (get_or shares i d) none)

parts_at : (shares : List Share) (i : ℕ) (d : Share) → i < length shares → shares ≡ take i shares ++ get_or shares i d ∷ drop (i + 1) shares
parts_at shares i d inside =
    sym (take-append-drop i shares) ∙ ap (λ after. take i shares ++ after) (rw (add-one i) (drop-cons shares i d inside))

pub fault_at : (shares : List Share) (i : ℕ) (d : Share) (cause : ShareCause) → i < length shares → is_plan (take i shares) ≡ true
    → broken_by (take i shares) (get_or shares i d) ≡ Some cause → IsFirstFault shares (record { share = i + 1; cause = cause })
fault_at shares i d cause inside plan broken = record {
  before = take i shares;
  share = get_or shares i d;
  after = drop (i + 1) shares;
  parts = parts_at shares i d inside;
  obeyed = plan;
  broken = broken;
  place = (let count : length (take i shares) ≡ i = length-take-le i shares (omega arith) in omega (arith, count));
}

-- ---- one first fault

head_or : Share → List Share → Share
head_or d [] = d
head_or d (share ∷ shares) = share

tail_of : List Share → List Share
tail_of [] = []
tail_of (share ∷ shares) = shares

abbrev Extends : List Share → Share → List Share → Type 0
Extends before share longer = (more : List Share) × (longer ≡ before ++ share ∷ more)

same_head : (a b : Share) (xs ys : List Share) → a ∷ xs ≡ b ∷ ys → a ≡ b
unfolding head_or
same_head a b xs ys same = ap (head_or a) same

same_tail : (a b : Share) (xs ys : List Share) → a ∷ xs ≡ b ∷ ys → xs ≡ ys
unfolding tail_of
same_tail a b xs ys same = ap tail_of same

-- two ways to cut a list
cuts : (b c : List Share) (s t : Share) (x y : List Share) → b ++ s ∷ x ≡ c ++ t ∷ y → ((b ≡ c) × (s ≡ t)) ⊎ (Extends b s c ⊎ Extends c t b)
cuts [] [] s t x y same = inl (refl, same_head s t x y same)
cuts [] (k ∷ c) s t x y same = inr (inl (c, ap (λ h. h ∷ c) (sym (same_head s k x (c ++ t ∷ y) same))))
cuts (k ∷ b) [] s t x y same = inr (inr (b, ap (λ h. h ∷ b) (same_head k t (b ++ s ∷ x) y same)))
cuts (k ∷ b) (l ∷ c) s t x y same =
    let heads = same_head k l (b ++ s ∷ x) (c ++ t ∷ y) same in
    elim (cuts b c s t x y (same_tail k l (b ++ s ∷ x) (c ++ t ∷ y) same)) [
      | inl p ↦ inl (cc (heads, p.0), p.1)
      | inr p ↦ inr (elim p [
        | inl q ↦ inl (q.0, cc (heads, q.1))
        | inr q ↦ inr (q.0, cc (heads, q.1))
      ])
    ]

some_none : (cause : ShareCause) → Some cause ≡ None → ⊥
some_none cause same = grind (arith, same)

-- shares of which one breaks a rule are no plan
pub no_plan : (before : List Share) (share : Share) (after : List Share) (cause : ShareCause) → broken_by before share ≡ Some cause
    → is_plan (before ++ share ∷ after) ≡ true → ⊥
no_plan before share after cause broken plan = some_none cause (sym broken ∙ none_of before share (unbroken before share after plan))

breaks_none : (before : List Share) (share : Share) (longer : List Share) (cause : ShareCause) → Extends before share longer → is_plan longer ≡ true
    → broken_by before share ≡ Some cause → ⊥
breaks_none before share longer cause more plan broken =
    no_plan before share more.0 cause broken (sym (ap is_plan more.1) ∙ plan)

pub one_fault : OneFault
one_fault shares one other first second =
    elim (cuts first.before second.before first.share second.share first.after second.after (sym first.parts ∙ second.parts)) [
      | inl same ↦ same_fault first second same.0 same.1
      | inr longer ↦ elim longer [
        | inl more ↦ absurd (breaks_none first.before first.share second.before one.cause more second.obeyed first.broken)
        | inr more ↦ absurd (breaks_none second.before second.share first.before other.cause more first.obeyed second.broken)
      ]
    ]
  where
    same_fault : (first : IsFirstFault shares one) (second : IsFirstFault shares other) → first.before ≡ second.before → first.share ≡ second.share
        → one ≡ other
    same_fault first second befores same =
        let places : one.share ≡ other.share = first.place ∙ ap (λ b. length b + 1) befores ∙ sym second.place in
        let causes : Some one.cause ≡ Some other.cause =
        sym first.broken ∙ ap (λ b. broken_by b first.share) befores ∙ ap (λ s. broken_by second.before s) same ∙ second.broken in
        grind (arith, places, causes)

-- where there is a fault there is no plan
pub refused_plan : (shares : List Share) {fault : ShareFault} → IsFirstFault shares fault → (false ≡ true) ↔ (is_plan shares ≡ true)
refused_plan shares {fault} first = (
  (λ wrong. absurd (false≢true wrong)),
  (λ plan. absurd (no_plan first.before first.share first.after fault.cause first.broken (sym (ap is_plan first.parts) ∙ plan))),
)
