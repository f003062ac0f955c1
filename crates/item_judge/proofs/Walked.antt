-- The items of a Reply, taken one after another.
use Rattle.std.proofs.Common.{◌≡◌, ℕ, Bool, true, false, ◌&&◌, ◌||◌, List, [], ◌∷◌, ◌++◌, Option, Some, None, refl, sym, ap, ◌∙◌, nat_lt, arith}
use Rattle.std.specs.List.{cons_option}
use Rattle.std.specs.Prelude.{◌==◌, max, if◌then◌else◌}
use Rattle.std.proofs.lemmas.Bool.Decides.{nat_tests}
use Rattle.net_types.specs.declared.address.Net6.{Net6}
use Rattle.v6_options.specs.declared.ia.ItemSaid.{ItemSaid}
use Rattle.lease6_judge.specs.Terms.{Term, not_held, held_until, held_forever, gives, is_same_net, longer, term_in_saids, term_of}
use Rattle.item_judge.specs.Tables.{extended_at}
use Rattle.item_judge.specs.Walks.{with_read, with_said, with_saids}

-- ---- the longer one of two

max_either : (a b : ℕ) → max a b ≡ max b a
max_either a b = grind (arith, nat_tests)

max_three : (a b c : ℕ) → max (max a b) c ≡ max a (max b c)
max_three a b c = grind (arith, nat_tests)

either_first : (a b : Term) → longer a b ≡ longer b a
either_first not_held not_held = refl
either_first not_held (held_until end) = refl
either_first not_held held_forever = refl
either_first (held_until end) not_held = refl
either_first (held_until end) (held_until other) = ap held_until (max_either end other)
either_first (held_until end) held_forever = refl
either_first held_forever not_held = refl
either_first held_forever (held_until end) = refl
either_first held_forever held_forever = refl

three : (a b c : Term) → longer (longer a b) c ≡ longer a (longer b c)
three not_held b c = refl
three held_forever b c = refl
three (held_until end) not_held c = refl
three (held_until end) held_forever c = refl
three (held_until end) (held_until other) not_held = refl
three (held_until end) (held_until other) held_forever = refl
three (held_until end) (held_until other) (held_until last) = ap held_until (max_three end other last)

pub beside_none : (term : Term) → term ≡ longer term not_held
beside_none not_held = refl
beside_none (held_until end) = refl
beside_none held_forever = refl

-- ---- lists of items

module _ (came : ℕ) (net : Net6) where
  pub read_first : (read : Option ItemSaid) (rest : List ItemSaid) (term : Term)
      → with_saids came net (cons_option read rest) term ≡ with_saids came net rest (with_read came net read term)
  read_first None rest term = refl
  read_first (Some said) rest term = refl

  pub one_by_one : (saids rest : List ItemSaid) (term : Term)
      → with_saids came net (saids ++ rest) term ≡ with_saids came net rest (with_saids came net saids term)
  one_by_one [] rest term = refl
  one_by_one (said ∷ saids) rest term = one_by_one saids rest (with_said came net said term)

  moved : (gives : Bool) (one given before : Term) → longer given (if gives then longer one before else before)
      ≡ longer (if gives then longer one given else given) before
  moved false one given before = refl
  moved true one given before =
      sym (three given one before) ∙ ap (λ (t : Term). longer t before) (either_first given one)

  -- the longest of their terms, beside what stands
  pub all_at_once : (saids : List ItemSaid) (term : Term) → with_saids came net saids term ≡ longer (term_in_saids came net saids) term
  all_at_once [] term = refl
  all_at_once (said ∷ saids) term =
      all_at_once saids (with_said came net said term)
      ∙ moved (gives net said) (term_of came said.valid) (term_in_saids came net saids) term

  never : (same some : Bool) (one before : Term) → some ≡ false → (if same && some then one else before) ≡ before
  never true false one before h = refl
  never false false one before h = refl
  never same true one before h = absurd cc

  always : (same some : Bool) (one before : Term) → some ≡ true
      → (if same then one else before) ≡ (if same && some then one else before)
  always true true one before h = refl
  always false true one before h = refl
  always same false one before h = absurd cc

  none_below : (valid : ℕ) → (valid == 0) ≡ true → nat_lt 0 valid ≡ false
  none_below valid h = grind (arith, nat_tests)

  some_above : (valid : ℕ) → (valid == 0) ≡ false → nat_lt 0 valid ≡ true
  some_above valid h = grind (arith, nat_tests)

  -- an item that isn't valid for any time changes nothing
  pub unheld : (said : ItemSaid) (term : Term) → (said.valid == 0) ≡ true → term ≡ with_said came net said term
  unheld said term h =
      sym (never (is_same_net said.net net) (nat_lt 0 said.valid) (longer (term_of came said.valid) term) term (none_below said.valid h))

  -- any other one is held
  pub held : (said : ItemSaid) (before : Term) → (said.valid == 0) ≡ false
      → extended_at said.net (term_of came said.valid) net before ≡ with_said came net said before
  held said before h =
      always (is_same_net said.net net) (nat_lt 0 said.valid) (longer (term_of came said.valid) before) before (some_above said.valid h)
