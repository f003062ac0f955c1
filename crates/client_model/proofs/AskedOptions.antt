-- The codes that a client asks for are those that it wants and that aren't refused, each once.
use Rattle.std.proofs.Common.{ℕ, zero, suc, ◌≡◌, ◌<◌, Bool, true, false, not, ◌&&◌, ◌||◌, cond, List, [], ◌∷◌, ◌++◌, length, take, nat_eq, refl, sym, ap, ◌∙◌, arith}
use Rattle.std.specs.Prelude.{filter}
use Rattle.std.proofs.Math.Bool.{and-false}
use Rattle.std.proofs.lemmas.Bool.{eq-eqb, eqb-true, false_from_ne_true}
use Rattle.std.proofs.lemmas.List.{length-take, take_all}
use Rattle.net_types.proofs.CaseLaws.{split, gated}
use Rattle.v4_client.specs.Messages.{is_among}
use Rattle.client_model.specs.ClientSettings.{codes_of, each_once, wanted_codes}
use Rattle.client_model.specs.AskedOptions.{AreUnlike, AsksRightly}

among_cond : (p : Bool) (x : ℕ) (codes : List ℕ) (code : ℕ) → is_among (cond p (x ∷ codes) codes) code ≡ ((p && nat_eq x code) || is_among codes code)
among_cond true x codes code = refl
among_cond false x codes code = refl

spread : (p s m : Bool) → ((p && s) || (p && m)) ≡ (p && (s || m))
spread true s m = refl
spread false s m = refl

-- ---- those that pass a test

filter_among : (p : ℕ → Bool) (codes : List ℕ) (code : ℕ) → is_among (filter p codes) code ≡ (p code && is_among codes code)
filter_among p [] code = sym (and-false (p code))
filter_among p (x ∷ codes) code =
    let here : (p x && nat_eq x code) ≡ (p code && nat_eq x code) =
    split (nat_eq x code) (λ same. ap (λ (c : ℕ). p c && nat_eq x code) (eqb-true x code same))
    (λ apart. ap (λ (b : Bool). p x && b) apart ∙ and-false (p x) ∙ sym (ap (λ (b : Bool). p code && b) apart ∙ and-false (p code))) in
    among_cond (p x) x (filter p codes) code
    ∙ ap (λ (b : Bool). b || is_among (filter p codes) code) here
    ∙ ap (λ (b : Bool). (p code && nat_eq x code) || b) (filter_among p codes code)
    ∙ spread (p code) (nat_eq x code) (is_among codes code)

filter_unlike : (p : ℕ → Bool) (codes : List ℕ) → AreUnlike codes → AreUnlike (filter p codes)
filter_unlike p [] unlike = tt
filter_unlike p (x ∷ codes) unlike =
    let apart : is_among (filter p codes) x ≡ false = filter_among p codes x ∙ ap (λ (b : Bool). p x && b) unlike.0 ∙ and-false (p x) in
    gated AreUnlike (p x) (x ∷ filter p codes) (filter p codes) (apart, filter_unlike p codes unlike.1) (filter_unlike p codes unlike.1)

-- ---- each at its first place

-- what came before isn't there
gone : (s m b : Bool) → (s ≡ true → b ≡ true) → (m && not b) ≡ ((s || m) && not b)
gone false m b came = refl
gone true m true came = and-false m
gone true m false came = absurd (let bad : false ≡ true = came refl in cc)

first_there : (s m b : Bool) → (s ≡ true → b ≡ false) → (s || (m && not (s || b))) ≡ ((s || m) && not b)
first_there false m b new = refl
first_there true m false new = refl
first_there true m true new = absurd (let bad : true ≡ false = new refl in cc)

once_among : (before codes : List ℕ) (code : ℕ) → is_among (each_once before codes) code ≡ (is_among codes code && not (is_among before code))
once_among before [] code = refl
once_among before (x ∷ codes) code =
    let old : List ℕ = each_once before codes in
    let new : List ℕ = each_once (x ∷ before) codes in
    split (is_among before x)
    (λ came. ap (λ (b : Bool). is_among (cond b old (x ∷ new)) code) came ∙ once_among before codes code
    ∙ gone (nat_eq x code) (is_among codes code) (is_among before code) (λ same. ap (λ (c : ℕ). is_among before c) (sym (eqb-true x code same)) ∙ came))
    (λ first. ap (λ (b : Bool). is_among (cond b old (x ∷ new)) code) first
    ∙ ap (λ (b : Bool). nat_eq x code || b) (once_among (x ∷ before) codes code)
    ∙ first_there (nat_eq x code) (is_among codes code) (is_among before code) (λ same. ap (λ (c : ℕ). is_among before c) (sym (eqb-true x code same)) ∙ first))

once_unlike : (before codes : List ℕ) → AreUnlike (each_once before codes)
once_unlike before [] = tt
once_unlike before (x ∷ codes) =
    let itself : is_among (x ∷ before) x ≡ true = ap (λ (b : Bool). b || is_among before x) (eq-eqb x x refl) in
    let apart : is_among (each_once (x ∷ before) codes) x ≡ false =
    once_among (x ∷ before) codes x ∙ ap (λ (b : Bool). is_among codes x && not b) itself ∙ and-false (is_among codes x) in
    gated AreUnlike (is_among before x) (each_once before codes) (x ∷ each_once (x ∷ before) codes) (once_unlike before codes)
    (apart, once_unlike (x ∷ before) codes)

-- ---- the first of them

take_among : (n : ℕ) (codes : List ℕ) (code : ℕ) → is_among (take n codes) code ≡ true → is_among codes code ≡ true
take_among zero codes code h = cc
take_among (suc n) [] code h = cc
take_among (suc n) (x ∷ codes) code h =
    split (nat_eq x code) (λ same. ap (λ (b : Bool). b || is_among codes code) same)
    (λ apart. ap (λ (b : Bool). b || is_among codes code) apart
    ∙ take_among n codes code (sym (ap (λ (b : Bool). b || is_among (take n codes) code) apart) ∙ h))

take_unlike : (n : ℕ) (codes : List ℕ) → AreUnlike codes → AreUnlike (take n codes)
take_unlike zero codes unlike = tt
take_unlike (suc n) [] unlike = tt
take_unlike (suc n) (x ∷ codes) unlike = (
  false_from_ne_true (is_among (take n codes) x) (λ has. let bad : true ≡ false = sym (take_among n codes x has) ∙ unlike.0 in cc),
  take_unlike n codes unlike.1,
)

all_taken : (n : ℕ) (codes : List ℕ) → length (take n codes) < n → take n codes ≡ codes
all_taken n codes few = let counted = length-take n codes in take_all n codes (omega arith)

-- ---- what is asked for

both : (a b : Bool) → (a && b) ≡ true → (a ≡ true) × (b ≡ true)
both true true h = (refl, refl)
both true false h = absurd cc
both false b h = absurd cc

not_true : (b : Bool) → not b ≡ true → b ≡ false
not_true false h = refl
not_true true h = absurd cc

module _ (asked refused : List ℕ) where
  abbrev all : List ℕ
  all = each_once [] (wanted_codes ++ asked)

  abbrev is_taken : ℕ → Bool
  is_taken code = not (is_among refused code)

  there : (code : ℕ) → is_among (filter is_taken all) code ≡ (is_taken code && (is_among (wanted_codes ++ asked) code && true))
  there code = filter_among is_taken all code ∙ ap (λ (b : Bool). is_taken code && b) (once_among [] (wanted_codes ++ asked) code)

  found : (code : ℕ) → is_among (take 64 (filter is_taken all)) code ≡ true → (is_taken code ≡ true) × (is_among (wanted_codes ++ asked) code ≡ true)
  found code has =
      let parts = both (is_taken code) (is_among (wanted_codes ++ asked) code && true) (sym (there code) ∙ take_among 64 (filter is_taken all) code has) in
      (parts.0, (both (is_among (wanted_codes ++ asked) code) true parts.1).0)

  pub asks_rightly : AsksRightly asked refused
  unfolding codes_of
  asks_rightly = record {
    wanted = λ code has. (found code has).1;
    taken = λ code has. not_true (is_among refused code) (found code has).0;
    once = take_unlike 64 (filter is_taken all) (filter_unlike is_taken all (once_unlike [] (wanted_codes ++ asked)));
    few = omega (arith, length-take 64 (filter is_taken all));
    whole = λ less code want free.
        ap (λ (codes : List ℕ). is_among codes code) (all_taken 64 (filter is_taken all) less) ∙ there code
        ∙ ap (λ (b : Bool). not b && (is_among (wanted_codes ++ asked) code && true)) free ∙ ap (λ (b : Bool). b && true) want;
  }
