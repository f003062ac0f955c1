-- Lists of things with names: what stands under a name after a change, and their order.
use Rattle.std.proofs.Common.{◌≡◌, ℕ, ◌+◌, Bool, true, false, List, [], ◌∷◌, length, refl, sym, ap, ◌∙◌, subst, arith, cond}
use Rattle.std.specs.Prelude.{codes, filter}
use Rattle.std.specs.List.{AllByRecursion}
use Rattle.std.specs.declared.cmp.Ordering.{Ordering}
use Rattle.std.specs.declared.cmp.Ordering.TheVariants.{Less, Equal, Greater}
use Rattle.std.specs.Ordering.{is_eq, match_ordering, ordering_reverse}
use Rattle.std.proofs.lemmas.Cmp.{nat_list_cmp_total}
use Rattle.std.proofs.lemmas.Map.Text.{is_eq-slice_cmp}
use Rattle.std.proofs.lemmas.Slice.Eq.{bytes_eq-Decides}
use Rattle.std.proofs.lemmas.List.{length-append}
use Rattle.world.specs.FileNames.{aside_of, name_cmp, is_name}
use Rattle.world.specs.NamedLists.{named, put_named, drop_named, InNameOrder}

pub name_itself : (name : List ℕ) → is_name name name ≡ true
name_itself name = is_eq-slice_cmp name name ∙ (bytes_eq-Decides name name).1 refl

-- two names of which the first is the second, and no other
pub same_name : (a b : List ℕ) → is_name a b ≡ true → a ≡ b
same_name a b e = (bytes_eq-Decides a b).0 (sym (is_eq-slice_cmp a b) ∙ e)

test_false : (b : Bool) → (b ≡ true → ⊥) → b ≡ false
test_false true f = absurd (f refl)
test_false false f = refl

pub unlike_name : (a b : List ℕ) → (a ≡ b → ⊥) → is_name a b ≡ false
unlike_name a b f = test_false (is_name a b) (λ e. f (same_name a b e))

longer : (name : List ℕ) → length (aside_of name) ≡ length name + 4
longer name = length-append name (codes ".new")

no_more : (n : ℕ) → n ≡ n + 4 → ⊥
no_more n e = absurd (omega (arith, e))

pub aside_unlike : (name : List ℕ) → is_name (aside_of name) name ≡ false
aside_unlike name = unlike_name (aside_of name) name (λ e. no_more (length name) (sym (ap length e) ∙ longer name))

pub unlike_aside : (name : List ℕ) → is_name name (aside_of name) ≡ false
unlike_aside name = unlike_name name (aside_of name) (λ e. no_more (length name) (ap length e ∙ longer name))

module _ {A B : Type 0} (name_of : A → List ℕ) (has : A → B) (none : B) (name : List ℕ) where
  abbrev at : List A → B
  at xs = named name_of has none name xs

  pub named_here : (x : A) (xs : List A) → is_name name (name_of x) ≡ true → at (x ∷ xs) ≡ has x
  named_here x xs here = ap (λ b. cond b (has x) (at xs)) here

  pub named_there : (x : A) (xs : List A) → is_name name (name_of x) ≡ false → at (x ∷ xs) ≡ at xs
  named_there x xs other = ap (λ b. cond b (has x) (at xs)) other

  -- ---- one more

  module _ (x : A) where
    abbrev put_by : (o : Ordering) (y : A) (ys more : List A) → List A
    put_by o y ys more = match_ordering o (x ∷ y ∷ ys) (x ∷ ys) (y ∷ more)

    found_by : (here : is_name name (name_of x) ≡ true) (o : Ordering) (y : A) (ys more : List A) → o ≡ name_cmp (name_of x) (name_of y)
        → at more ≡ has x → at (put_by o y ys more) ≡ has x
    found_by here Less y ys more e h = named_here x (y ∷ ys) here
    found_by here Equal y ys more e h = named_here x ys here
    found_by here Greater y ys more e h =
        let other : is_name name (name_of y) ≡ false = ap (λ n. is_name n (name_of y)) (same_name name (name_of x) here) ∙ ap is_eq (sym e) in
        named_there y more other ∙ h

    pub put_found : is_name name (name_of x) ≡ true → (ys : List A) → at (put_named name_of x ys) ≡ has x
    put_found here [] = named_here x [] here
    put_found here (y ∷ ys) = found_by here (name_cmp (name_of x) (name_of y)) y ys (put_named name_of x ys) refl (put_found here ys)

    kept_by : (other : is_name name (name_of x) ≡ false) (o : Ordering) (y : A) (ys more : List A) → o ≡ name_cmp (name_of x) (name_of y)
        → at more ≡ at ys → at (put_by o y ys more) ≡ at (y ∷ ys)
    kept_by other Less y ys more e h = named_there x (y ∷ ys) other
    kept_by other Equal y ys more e h =
        let same : name_of x ≡ name_of y = same_name (name_of x) (name_of y) (ap is_eq (sym e)) in
        let here : is_name name (name_of y) ≡ false = ap (is_name name) (sym same) ∙ other in
        named_there x ys other ∙ sym (named_there y ys here)
    kept_by other Greater y ys more e h = ap (λ m. cond (is_name name (name_of y)) (has y) m) h

    pub put_kept : is_name name (name_of x) ≡ false → (ys : List A) → at (put_named name_of x ys) ≡ at ys
    put_kept other [] = named_there x [] other
    put_kept other (y ∷ ys) = kept_by other (name_cmp (name_of x) (name_of y)) y ys (put_named name_of x ys) refl (put_kept other ys)

  -- ---- one less

  pub none_after : (xs : List A) → AllByRecursion (λ y. name_cmp name (name_of y) ≡ Less) xs → at xs ≡ none
  none_after [] h = refl
  none_after (x ∷ xs) h = named_there x xs (ap is_eq h.0) ∙ none_after xs h.1

  pub drop_gone : (xs : List A) → InNameOrder name_of xs → at (drop_named name_of name xs) ≡ none
  drop_gone [] h = refl
  drop_gone (x ∷ xs) h = by (is_name name (name_of x)) refl (drop_gone xs h.1)
    where
      by : (b : Bool) → is_name name (name_of x) ≡ b → at (drop_named name_of name xs) ≡ none → at (cond b xs (x ∷ drop_named name_of name xs)) ≡ none
      by true e k =
          let same : name_of x ≡ name = sym (same_name name (name_of x) e) in
          none_after xs (subst (λ (n : List ℕ). AllByRecursion (λ y. name_cmp n (name_of y) ≡ Less) xs) same h.0)
      by false e k = named_there x (drop_named name_of name xs) e ∙ k

  module _ (gone : List ℕ) (other : is_name name gone ≡ false) where
    pub drop_kept : (xs : List A) → at (drop_named name_of gone xs) ≡ at xs
    drop_kept [] = refl
    drop_kept (x ∷ xs) = by (is_name gone (name_of x)) refl (drop_kept xs)
      where
        by : (b : Bool) → is_name gone (name_of x) ≡ b → at (drop_named name_of gone xs) ≡ at xs → at (cond b xs (x ∷ drop_named name_of gone xs)) ≡ at (x ∷ xs)
        by true e k =
            let same : gone ≡ name_of x = same_name gone (name_of x) e in
            sym (named_there x xs (ap (is_name name) (sym same) ∙ other))
        by false e k = ap (λ m. cond (is_name name (name_of x)) (has x) m) k

  -- ---- some of them

  module _ (keeps : A → Bool) where
    -- all things of the name stay
    pub filter_stays : ((x : A) → is_name name (name_of x) ≡ true → keeps x ≡ true) → (xs : List A) → at (filter keeps xs) ≡ at xs
    filter_stays stays [] = refl
    filter_stays stays (x ∷ xs) = by (is_name name (name_of x)) (keeps x) refl refl (filter_stays stays xs)
      where
        by : (here kept : Bool) → is_name name (name_of x) ≡ here → keeps x ≡ kept → at (filter keeps xs) ≡ at xs
            → at (cond kept (x ∷ filter keeps xs) (filter keeps xs)) ≡ at (x ∷ xs)
        by true true e k h = named_here x (filter keeps xs) e ∙ sym (named_here x xs e)
        by true false e k h = absurd (let bad : true ≡ false = sym (stays x e) ∙ k in cc)
        by false true e k h = named_there x (filter keeps xs) e ∙ h ∙ sym (named_there x xs e)
        by false false e k h = h ∙ sym (named_there x xs e)

    -- all things of the name go
    pub filter_goes : ((x : A) → is_name name (name_of x) ≡ true → keeps x ≡ false) → (xs : List A) → at (filter keeps xs) ≡ none
    filter_goes goes [] = refl
    filter_goes goes (x ∷ xs) = by (is_name name (name_of x)) (keeps x) refl refl (filter_goes goes xs)
      where
        by : (here kept : Bool) → is_name name (name_of x) ≡ here → keeps x ≡ kept → at (filter keeps xs) ≡ none
            → at (cond kept (x ∷ filter keeps xs) (filter keeps xs)) ≡ none
        by true true e k h = absurd (let bad : true ≡ false = sym k ∙ goes x e in cc)
        by true false e k h = h
        by false true e k h = named_there x (filter keeps xs) e ∙ h
        by false false e k h = h

-- ---- order

module _ {A : Type 0} (name_of : A → List ℕ) where
  abbrev After : List ℕ → A → Type 0
  After name x = name_cmp name (name_of x) ≡ Less

  dropped_after : (gone name : List ℕ) (xs : List A) → AllByRecursion (After name) xs → AllByRecursion (After name) (drop_named name_of gone xs)
  dropped_after gone name [] h = tt
  dropped_after gone name (x ∷ xs) h = by (is_name gone (name_of x)) (dropped_after gone name xs h.1)
    where
      by : (b : Bool) → AllByRecursion (After name) (drop_named name_of gone xs) → AllByRecursion (After name) (cond b xs (x ∷ drop_named name_of gone xs))
      by true k = h.1
      by false k = (h.0, k)

  pub drop_in_order : (gone : List ℕ) (xs : List A) → InNameOrder name_of xs → InNameOrder name_of (drop_named name_of gone xs)
  drop_in_order gone [] h = tt
  drop_in_order gone (x ∷ xs) h = by (is_name gone (name_of x)) (drop_in_order gone xs h.1)
    where
      by : (b : Bool) → InNameOrder name_of (drop_named name_of gone xs) → InNameOrder name_of (cond b xs (x ∷ drop_named name_of gone xs))
      by true k = h.1
      by false k = (dropped_after gone (name_of x) xs h.0, k)

  all_after : (a b : List ℕ) (xs : List A) → name_cmp a b ≡ Less → AllByRecursion (After b) xs → AllByRecursion (After a) xs
  all_after a b [] less h = tt
  all_after a b (x ∷ xs) less h = (nat_list_cmp_total.trans a b (name_of x) less h.0, all_after a b xs less h.1)

  module _ (x : A) where
    put_after : (name : List ℕ) (ys : List A) → name_cmp name (name_of x) ≡ Less → AllByRecursion (After name) ys
        → AllByRecursion (After name) (put_named name_of x ys)
    put_after name [] less h = (less, tt)
    put_after name (y ∷ ys) less h = by (name_cmp (name_of x) (name_of y)) (put_after name ys less h.1)
      where
        by : (o : Ordering) → AllByRecursion (After name) (put_named name_of x ys)
            → AllByRecursion (After name) (match_ordering o (x ∷ y ∷ ys) (x ∷ ys) (y ∷ put_named name_of x ys))
        by Less k = (less, h)
        by Equal k = (less, h.1)
        by Greater k = (h.0, k)

    pub put_in_order : (ys : List A) → InNameOrder name_of ys → InNameOrder name_of (put_named name_of x ys)
    put_in_order [] h = (tt, tt)
    put_in_order (y ∷ ys) h = by (name_cmp (name_of x) (name_of y)) refl (put_in_order ys h.1)
      where
        by : (o : Ordering) → name_cmp (name_of x) (name_of y) ≡ o → InNameOrder name_of (put_named name_of x ys)
            → InNameOrder name_of (match_ordering o (x ∷ y ∷ ys) (x ∷ ys) (y ∷ put_named name_of x ys))
        by Less e k = ((e, all_after (name_of x) (name_of y) ys e h.0), h)
        by Equal e k =
            let same : name_of y ≡ name_of x = sym (same_name (name_of x) (name_of y) (ap is_eq e)) in
            (subst (λ (n : List ℕ). AllByRecursion (After n) ys) same h.0, h.1)
        by Greater e k = (put_after (name_of y) ys (nat_list_cmp_total.antisymm (name_of y) (name_of x) ∙ ap ordering_reverse e) h.0, k)

  pub kept_after : (keeps : A → Bool) (name : List ℕ) (xs : List A) → AllByRecursion (After name) xs → AllByRecursion (After name) (filter keeps xs)
  kept_after keeps name [] h = tt
  kept_after keeps name (x ∷ xs) h = by (keeps x) (kept_after keeps name xs h.1)
    where
      by : (b : Bool) → AllByRecursion (After name) (filter keeps xs) → AllByRecursion (After name) (cond b (x ∷ filter keeps xs) (filter keeps xs))
      by true k = (h.0, k)
      by false k = k

  pub filter_in_order : (keeps : A → Bool) (xs : List A) → InNameOrder name_of xs → InNameOrder name_of (filter keeps xs)
  filter_in_order keeps [] h = tt
  filter_in_order keeps (x ∷ xs) h = by (keeps x) (filter_in_order keeps xs h.1)
    where
      by : (b : Bool) → InNameOrder name_of (filter keeps xs) → InNameOrder name_of (cond b (x ∷ filter keeps xs) (filter keeps xs))
      by true k = (kept_after keeps (name_of x) xs h.0, k)
      by false k = k
