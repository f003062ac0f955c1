-- Laws of the least of some numbers.
use Rattle.std.proofs.Common.{◌≡◌, ℕ, zero, suc, ◌<◌, ◌≤◌, ◌⊎◌, inl, inr, Bool, true, false, List, [], ◌∷◌, length, get_or, filter, fold, min, Option, Some, None, refl, sym, ap, subst, arith, leb}
use Rattle.std.specs.Bool.{Decides}
use Rattle.std.specs.List.{Contains}
use Rattle.std.proofs.lemmas.Bool.{cases_lt, false_from_ne_true, leb-true, le-leb, both_ways}
use Rattle.machine.specs.Moment.{is_due}
use Rattle.net_types.proofs.CaseLaws.{split}
use Rattle.v6_items.specs.Times.{earlier}
use Rattle.v6_client_laws.specs.DueRows.{HasCome}
use Rattle.v6_client_laws.specs.Least.{IsLeast, LeastOf}
use Rattle.v6_client_laws.proofs.FirstItems.{behind_in, front_in, none_in}

pub to_least : (P Q : ℕ → Type 0) (o : Option ℕ) → ((n : ℕ) → P n → Q n) → ((n : ℕ) → Q n → P n) → LeastOf P o → LeastOf Q o
to_least P Q None f g none = λ n q. none n (g n q)
to_least P Q (Some m) f g least = record { is = f m least.is; least = λ other q. least.least other (g other q) }

min_left : (a b : ℕ) → a ≤ b → min a b ≡ a
min_left a b less = omega (arith, less)

min_right : (a b : ℕ) → b < a → min a b ≡ b
min_right a b less = omega (arith, less)

pub earlier_least : (P Q : ℕ → Type 0) (a b : Option ℕ) → LeastOf P a → LeastOf Q b → LeastOf (λ n. P n ⊎ Q n) (earlier a b)
earlier_least P Q None b none other =
    to_least Q (λ n. P n ⊎ Q n) b (λ n q. inr q) (λ n e. elim e [ inl p ↦ absurd (none n p) | inr q ↦ q ]) other
earlier_least P Q (Some a) None one none =
    record { is = inl one.is; least = λ n e. elim e [ inl p ↦ one.least n p | inr q ↦ absurd (none n q) ] }
earlier_least P Q (Some a) (Some b) one other = elim (cases_lt b a) [
  | inl less ↦ subst (λ m. IsLeast (λ n. P n ⊎ Q n) m) (sym (min_right a b less)) (record {
    is = inr other.is;
    least = λ n e. elim e [ inl p ↦ (let above = one.least n p in omega (arith, less, above)) | inr q ↦ other.least n q ];
  })
  | inr less ↦ subst (λ m. IsLeast (λ n. P n ⊎ Q n) m) (sym (min_left a b less)) (record {
    is = inl one.is;
    least = λ n e. elim e [ inl p ↦ one.least n p | inr q ↦ (let above = other.least n q in omega (arith, less, above)) ];
  })
]

pub one_least : (P : ℕ → Type 0) (a b : Option ℕ) → LeastOf P a → LeastOf P b → a ≡ b
one_least P None None one other = refl
one_least P None (Some b) one other = absurd (one b other.is)
one_least P (Some a) None one other = absurd (other a one.is)
one_least P (Some a) (Some b) one other =
    let below : a ≤ b = one.least b other.is in
    let above : b ≤ a = other.least a one.is in
    ap Some (omega (arith, below, above))

-- ---- moments

pub come_least : (told : Option ℕ) → LeastOf (HasCome told) told
come_least None = λ n come. come
come_least (Some moment) = record { is = omega arith; least = λ other come. come }

pub come_decides : (told : Option ℕ) (at : ℕ) → Decides (is_due told at) (HasCome told at)
come_decides None at = (λ e. absurd cc, λ come. absurd come)
come_decides (Some moment) at = (λ e. leb-true moment at e, λ come. le-leb moment at come)

pub not_due : (told : Option ℕ) (at : ℕ) → (HasCome told at → ⊥) → is_due told at ≡ false
not_due told at never = false_from_ne_true (is_due told at) (λ e. never ((come_decides told at).0 e))

pub not_before : (P : ℕ → Type 0) (told : Option ℕ) (at : ℕ) → LeastOf P told → is_due told at ≡ false → P at → ⊥
not_before P None at none e p = none at p
not_before P (Some moment) at least e p = both_ways (leb moment at) e (le-leb moment at (least.least at p))

-- ---- some element

pub record SomeOf {X : Type 0} (P : X → ℕ → Type 0) (xs : List X) (n : ℕ) : Type 0 where
  pub x : X
  pub among : Contains xs x
  pub is : P x n

in_at : {X : Type 0} (x : X) (xs : List X) (y : X) (k : ℕ) → (k < length (x ∷ xs)) × (get_or (x ∷ xs) k y ≡ y) → (x ≡ y) ⊎ Contains xs y
in_at x xs y zero at = inl at.1
in_at x xs y (suc k) at = let less = at.0 in inr (k, omega (arith, less), at.1)

pub in_cases : {X : Type 0} (x : X) (xs : List X) (y : X) → Contains (x ∷ xs) y → (x ≡ y) ⊎ Contains xs y
in_cases x xs y among = in_at x xs y among.0 (among.1, among.2)

module _ {X : Type 0} (P : X → ℕ → Type 0) (f : X → Option ℕ) (each : (x : X) → LeastOf (P x) (f x)) where
  first_or : (A : ℕ → Type 0) (x : X) (xs : List X) (n : ℕ) → ((A n ⊎ P x n) ⊎ SomeOf P xs n) → (A n ⊎ SomeOf P (x ∷ xs) n)
  first_or A x xs n (inl (inl a)) = inl a
  first_or A x xs n (inl (inr p)) = inr (record { x = x; among = front_in x xs; is = p })
  first_or A x xs n (inr some) = inr (record { x = some.x; among = behind_in x xs some.x some.among; is = some.is })

  or_first : (A : ℕ → Type 0) (x : X) (xs : List X) (n : ℕ) → (A n ⊎ SomeOf P (x ∷ xs) n) → ((A n ⊎ P x n) ⊎ SomeOf P xs n)
  or_first A x xs n (inl a) = inl (inl a)
  or_first A x xs n (inr some) = elim (in_cases x xs some.x some.among) [
    | inl same ↦ inl (inr (subst (λ (y : X). P y n) (sym same) some.is))
    | inr later ↦ inr (record { x = some.x; among = later; is = some.is })
  ]

  pub fold_least : (xs : List X) (A : ℕ → Type 0) (first : Option ℕ) → LeastOf A first
      → LeastOf (λ n. A n ⊎ SomeOf P xs n) (fold (λ first x. earlier first (f x)) first xs)
  fold_least [] A first least =
      to_least A (λ n. A n ⊎ SomeOf P [] n) first (λ n a. inl a)
      (λ n e. elim e [ inl a ↦ a | inr some ↦ absurd (none_in some.x some.among) ]) least
  fold_least (x ∷ xs) A first least =
      to_least (λ n. (A n ⊎ P x n) ⊎ SomeOf P xs n) (λ n. A n ⊎ SomeOf P (x ∷ xs) n)
      (fold (λ first x. earlier first (f x)) (earlier first (f x)) xs) (first_or A x xs) (or_first A x xs)
      (fold_least xs (λ n. A n ⊎ P x n) (earlier first (f x)) (earlier_least A (P x) first (f x) least (each x)))

  -- from none on
  pub all_least : (xs : List X) → LeastOf (SomeOf P xs) (fold (λ first x. earlier first (f x)) None xs)
  all_least xs =
      to_least (λ n. ⊥ ⊎ SomeOf P xs n) (SomeOf P xs) (fold (λ first x. earlier first (f x)) None xs)
      (λ n e. elim e [ inl never ↦ absurd never | inr some ↦ some ]) (λ n some. inr some)
      (fold_least xs (λ n. ⊥) None (λ n never. never))

-- ---- the elements that pass a test

pub filter_in : {X : Type 0} (p : X → Bool) (xs : List X) (y : X) → Contains (filter p xs) y → Contains xs y × (p y ≡ true)
filter_in p [] y among = absurd (none_in y among)
filter_in p (x ∷ xs) y among =
    let step : Contains (filter p (x ∷ xs)) y → Contains (x ∷ xs) y × (p y ≡ true) =
    split (p x)
    (λ t. rw t (λ has. elim (in_cases x (filter p xs) y has) [
      | inl same ↦ subst (λ z. Contains (x ∷ xs) z × (p z ≡ true)) same (front_in x xs, t)
      | inr later ↦ let rest = filter_in p xs y later in (behind_in x xs y rest.0, rest.1)
    ]))
    (λ f. rw f (λ has. let rest = filter_in p xs y has in (behind_in x xs y rest.0, rest.1))) in
    step among

pub in_filter : {X : Type 0} (p : X → Bool) (xs : List X) (y : X) → Contains xs y → p y ≡ true → Contains (filter p xs) y
in_filter p [] y among t = absurd (none_in y among)
in_filter p (x ∷ xs) y among t = elim (in_cases x xs y among) [
  | inl same ↦ subst (λ z. Contains (filter p (x ∷ xs)) z) same
      (let passes : p x ≡ true = subst (λ z. p z ≡ true) (sym same) t in rw passes (front_in x (filter p xs)))
  | inr later ↦ split (p x)
      (λ u. rw u (behind_in x (filter p xs) y (in_filter p xs y later t)))
      (λ u. rw u (in_filter p xs y later t))
]
