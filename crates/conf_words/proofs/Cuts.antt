-- The bytes in front that pass a test, and those after them.
use Rattle.std.proofs.Common.{◌≡◌, ℕ, suc, ◌+◌, ◌≤◌, Bool, true, false, not, ◌&&◌, cond, List, [], ◌∷◌, ◌++◌, length, take, drop, Some, None, refl, sym, ap, ◌∙◌, arith, ltb, IsTrue}
use Rattle.std.specs.List.{position, position_or_len, prefix_len, list_all}
use Rattle.std.proofs.lemmas.Bool.{and_parts, and_from, ltb-false, le-ltb}
use Rattle.net_types.specs.Marks.{Only}
use Rattle.conf_words.specs.Marks.{front_of, past}

past_drop : (test : ℕ → Bool) (text : List ℕ) → drop (prefix_len test text) text ≡ past test text
past_drop test [] = refl
past_drop test (byte ∷ bytes) =
    elim (test byte) as (λ b. drop (cond b (1 + prefix_len test bytes) 0) (byte ∷ bytes) ≡ cond b (past test bytes) (byte ∷ bytes)) [
      | true ↦ let next : 1 + prefix_len test bytes ≡ suc (prefix_len test bytes) = omega arith in ap (λ n. drop n (byte ∷ bytes)) next ∙ past_drop test bytes
      | false ↦ refl
    ]

front_take : (test : ℕ → Bool) (text : List ℕ) → take (prefix_len test text) text ≡ front_of test text
front_take test [] = refl
front_take test (byte ∷ bytes) =
    elim (test byte) as (λ b. take (cond b (1 + prefix_len test bytes) 0) (byte ∷ bytes) ≡ cond b (byte ∷ front_of test bytes) []) [
      | true ↦ let next : 1 + prefix_len test bytes ≡ suc (prefix_len test bytes) =
          omega arith in ap (λ n. take n (byte ∷ bytes)) next ∙ ap (λ t. byte ∷ t) (front_take test bytes)
      | false ↦ refl
    ]

same_len : (one other : ℕ → Bool) → ((b : ℕ) → one b ≡ other b) → (text : List ℕ) → prefix_len one text ≡ prefix_len other text
same_len one other same [] = refl
same_len one other same (byte ∷ bytes) =
    ap (λ b. cond b (1 + prefix_len one bytes) 0) (same byte) ∙ ap (λ n. cond (other byte) (1 + n) 0) (same_len one other same bytes)

-- ---- the place of the first byte that fails

found_place : (stop : ℕ → Bool) (text : List ℕ) (i : ℕ) → position stop text ≡ Some i → i ≡ position_or_len stop text
found_place stop text i e =
    elim (ltb (position_or_len stop text) (length text)) as (λ b. cond b (Some (position_or_len stop text)) None ≡ Some i → i ≡ position_or_len stop text) [
      | true ↦ λ q. cc
      | false ↦ λ q. let never : ⊥ = cc in absurd never
    ] e

no_place : (stop : ℕ → Bool) (text : List ℕ) → position stop text ≡ None → length text ≤ position_or_len stop text
no_place stop text e =
    elim (ltb (position_or_len stop text) (length text)) as
    (λ b. ltb (position_or_len stop text) (length text) ≡ b → cond b (Some (position_or_len stop text)) None ≡ None
    → length text ≤ position_or_len stop text) [
      | true ↦ λ t q. let never : ⊥ = cc in absurd never
      | false ↦ λ t q. ltb-false _ _ t
    ] refl e

pub past_place : (test stop : ℕ → Bool) → ((b : ℕ) → not (stop b) ≡ test b) → (text : List ℕ) (i : ℕ) → position stop text ≡ Some i
    → drop i text ≡ past test text
past_place test stop other text i e =
    ap (λ n. drop n text) (found_place stop text i e ∙ same_len (λ b. not (stop b)) test other text) ∙ past_drop test text

pub front_place : (test stop : ℕ → Bool) → ((b : ℕ) → not (stop b) ≡ test b) → (text : List ℕ) (i : ℕ) → position stop text ≡ Some i
    → take i text ≡ front_of test text
front_place test stop other text i e =
    ap (λ n. take n text) (found_place stop text i e ∙ same_len (λ b. not (stop b)) test other text) ∙ front_take test text

all_pass : (test : ℕ → Bool) (text : List ℕ) → length text ≤ prefix_len test text → Only test text
all_pass test [] long = refl
all_pass test (byte ∷ bytes) long =
    elim (test byte) as (λ b. suc (length bytes) ≤ cond b (1 + prefix_len test bytes) 0 → IsTrue (b && list_all test bytes)) [
      | true ↦ λ l. all_pass test bytes (omega arith)
      | false ↦ λ l. absurd (omega arith)
    ] long

pub only_where : (test stop : ℕ → Bool) → ((b : ℕ) → not (stop b) ≡ test b) → (text : List ℕ) → position stop text ≡ None → Only test text
only_where test stop other text e =
    let long = no_place stop text e in
    let same = same_len (λ b. not (stop b)) test other text in
    all_pass test text (omega (arith, long, same))

pub no_place_where : (test stop : ℕ → Bool) → ((b : ℕ) → not (stop b) ≡ test b) → (text : List ℕ) → Only test text → position stop text ≡ None
no_place_where test stop other text only =
    let whole : position_or_len stop text ≡ length text = same_len (λ b. not (stop b)) test other text ∙ whole_len test text only in
    let past_end : ltb (position_or_len stop text) (length text) ≡ false = le-ltb _ _ (omega (arith, whole)) in
    ap (λ b. cond b (Some (position_or_len stop text)) None) past_end
  where
    whole_len : (test : ℕ → Bool) (text : List ℕ) → Only test text → prefix_len test text ≡ length text
    whole_len test [] only = refl
    whole_len test (byte ∷ bytes) only =
        let parts = and_parts (test byte) _ only in
        let rest = whole_len test bytes parts.1 in
        rw (parts.0) (omega (arith, rest))

-- ---- a text whose front passes

pub past_all : (test : ℕ → Bool) (text : List ℕ) → Only test text → past test text ≡ []
past_all test [] only = refl
past_all test (byte ∷ bytes) only =
    let parts = and_parts (test byte) _ only in
    rw (parts.0) (past_all test bytes parts.1)

pub front_all : (test : ℕ → Bool) (text : List ℕ) → Only test text → front_of test text ≡ text
front_all test [] only = refl
front_all test (byte ∷ bytes) only =
    let parts = and_parts (test byte) _ only in
    rw (parts.0) (ap (λ t. byte ∷ t) (front_all test bytes parts.1))

pub past_front : (test : ℕ → Bool) (front rest : List ℕ) → Only test front → past test (front ++ rest) ≡ past test rest
past_front test [] rest only = refl
past_front test (byte ∷ bytes) rest only =
    let parts = and_parts (test byte) _ only in
    rw (parts.0) (past_front test bytes rest parts.1)

pub front_front : (test : ℕ → Bool) (front rest : List ℕ) → Only test front → front_of test (front ++ rest) ≡ front ++ front_of test rest
front_front test [] rest only = refl
front_front test (byte ∷ bytes) rest only =
    let parts = and_parts (test byte) _ only in
    rw (parts.0) (ap (λ t. byte ∷ t) (front_front test bytes rest parts.1))

-- what stands in front and after, of any text
pub parted : (test : ℕ → Bool) (text : List ℕ) → text ≡ front_of test text ++ past test text
parted test [] = refl
parted test (byte ∷ bytes) =
    elim (test byte) as (λ b. byte ∷ bytes ≡ cond b (byte ∷ front_of test bytes) [] ++ cond b (past test bytes) (byte ∷ bytes)) [
      | true ↦ ap (λ t. byte ∷ t) (parted test bytes)
      | false ↦ refl
    ]

pub front_only : (test : ℕ → Bool) (text : List ℕ) → Only test (front_of test text)
front_only test [] = refl
front_only test (byte ∷ bytes) =
    elim (test byte) as (λ b. test byte ≡ b → Only test (cond b (byte ∷ front_of test bytes) [])) [
      | true ↦ λ t. and_from _ _ t (front_only test bytes)
      | false ↦ λ t. refl
    ] refl

-- what stands after the front doesn't pass
pub past_fails : (test : ℕ → Bool) (text : List ℕ) (byte : ℕ) (bytes : List ℕ) → past test text ≡ byte ∷ bytes → test byte ≡ false
past_fails test [] byte bytes e = let never : ⊥ = cc in absurd never
past_fails test (first ∷ others) byte bytes e =
    elim (test first) as (λ b. test first ≡ b → cond b (past test others) (first ∷ others) ≡ byte ∷ bytes → test byte ≡ false) [
      | true ↦ λ t q. past_fails test others byte bytes q
      | false ↦ λ t q. let same : first ≡ byte = cc in ap test (sym same) ∙ t
    ] refl e
