-- The bytes that are read from the front of a text are those that it spells.
use Rattle.std.proofs.Common.{◌≡◌, ◌≢◌, ℕ, suc, ◌-◌, ◌<◌, ◌≤◌, true, false, cond, List, [], ◌∷◌, ◌++◌, length, take, drop, slice_index, Option, Some, None, option_map, refl, sym, ap, ◌∙◌, subst, arith, bytes_eq, eqb}
use Rattle.std.proofs.Math.Seq.{take-length}
use Rattle.std.proofs.lemmas.Bool.{eqb-true}
use Rattle.std.proofs.lemmas.List.{append_assoc}
use Rattle.std.proofs.lemmas.Slice.Eq.{bytes_eq-Decides}
use Rattle.net_types.specs.HexText.{byte_hex, hex_byte_at}
use Rattle.net_types.specs.Marks.{AreBytes}
use Rattle.net_types.proofs.HexLaws.{hex_byte_reads, cons_bytes, no_bytes}
use Rattle.net_types.proofs.ReadsLaws.{some_same}
use Rattle.v6_options.specs.Duids.{duid_in}
use Rattle.duid_text.specs.DuidTexts.{duid_text, with_byte, duid_spelled}
use Rattle.duid_text.specs.DuidReading.{bytes_at}
use Rattle.duid_text.proofs.DuidLaws.{front_of, text_spells, spelled}

-- ---- what stands after a pair

-- the bytes after one whose mark and rest these are
abbrev after_mark : ℕ → List ℕ → Option (List ℕ)
after_mark mark rest = cond (bytes_eq (mark ∷ rest) (10 ∷ [])) (Some []) (cond (eqb mark 58) (bytes_at rest) None)

-- the last byte, or one with a colon and further bytes after it
data After (mark : ℕ) (rest bytes : List ℕ) : Type 0 where
  Last : mark ∷ rest ≡ 10 ∷ [] → [] ≡ bytes → After mark rest bytes
  Further : mark ≡ 58 → bytes_at rest ≡ Some bytes → After mark rest bytes

after_is : (mark : ℕ) (rest bytes : List ℕ) → after_mark mark rest ≡ Some bytes → After mark rest bytes
after_is mark rest bytes e =
    elim (bytes_eq (mark ∷ rest) (10 ∷ [])) as
    (λ b. bytes_eq (mark ∷ rest) (10 ∷ []) ≡ b → cond b (Some []) (cond (eqb mark 58) (bytes_at rest) None) ≡ Some bytes → After mark rest bytes) [
      | true ↦ λ t q. Last ((bytes_eq-Decides _ _).0 t) (some_same q)
      | false ↦ λ t q. further q
    ] refl e
  where
    further : cond (eqb mark 58) (bytes_at rest) None ≡ Some bytes → After mark rest bytes
    further q =
        elim (eqb mark 58) as (λ b. eqb mark 58 ≡ b → cond b (bytes_at rest) None ≡ Some bytes → After mark rest bytes) [
          | true ↦ λ t p. Further (eqb-true mark 58 t) p
          | false ↦ λ t p. let never : ⊥ = cc in absurd never
        ] refl q

-- ---- what is read is spelled so, and what is spelled so is read

text_more : (first : ℕ) (others : List ℕ) → others ≢ [] → duid_text (first ∷ others) ≡ byte_hex first ++ 58 ∷ duid_text others
text_more first [] some = absurd (some refl)
text_more first (second ∷ others) some = refl

record ReadSo (text bytes : List ℕ) : Type 0 where
  pub some : bytes ≢ []
  pub text_is : text ≡ duid_text bytes
  pub range : AreBytes bytes

last_byte : (a b mark first : ℕ) (rest : List ℕ) → a ∷ b ∷ [] ≡ byte_hex first → first < 256 → mark ∷ rest ≡ 10 ∷ [] → ReadSo (a ∷ b ∷ mark ∷ rest) (first ∷ [])
last_byte a b mark first rest pair small last = record {
  some = λ none. cc;
  text_is = ap (λ p. p ++ mark ∷ rest) pair ∙ ap (λ r. byte_hex first ++ r) last;
  range = cons_bytes first [] small no_bytes;
}

further_byte : (a b mark first : ℕ) (rest others : List ℕ) → a ∷ b ∷ [] ≡ byte_hex first → first < 256 → mark ≡ 58 → ReadSo rest others
    → ReadSo (a ∷ b ∷ mark ∷ rest) (first ∷ others)
further_byte a b mark first rest others pair small colon more = record {
  some = λ none. cc;
  text_is = ap (λ p. p ++ mark ∷ rest) pair
      ∙ ap (λ m. byte_hex first ++ m ∷ rest) colon
      ∙ ap (λ r. byte_hex first ++ 58 ∷ r) more.text_is
      ∙ sym (text_more first others more.some);
  range = cons_bytes first others small more.range;
}

behind : (a b mark first : ℕ) (rest others : List ℕ) → a ∷ b ∷ [] ≡ byte_hex first → first < 256
    → ((bytes : List ℕ) → bytes_at rest ≡ Some bytes → ReadSo rest bytes) → After mark rest others → ReadSo (a ∷ b ∷ mark ∷ rest) (first ∷ others)
behind a b mark first rest others pair small sound (Last last none) =
    subst (λ os. ReadSo (a ∷ b ∷ mark ∷ rest) (first ∷ os)) none (last_byte a b mark first rest pair small last)
behind a b mark first rest others pair small sound (Further colon more) = further_byte a b mark first rest others pair small colon (sound others more)

bytes_sound : (text bytes : List ℕ) → bytes_at text ≡ Some bytes → ReadSo text bytes
bytes_sound [] bytes e = cc
bytes_sound (a ∷ []) bytes e = cc
bytes_sound (a ∷ b ∷ []) bytes e = cc
bytes_sound (a ∷ b ∷ mark ∷ rest) bytes e =
    let front = front_of (hex_byte_at (a ∷ b ∷ [])) (after_mark mark rest) bytes e in
    let s = hex_byte_reads.sound (a ∷ b ∷ []) front.first front.first_is in
    subst (ReadSo (a ∷ b ∷ mark ∷ rest)) front.whole
    (behind a b mark front.first rest front.others s.0 s.1 (λ more is. bytes_sound rest more is) (after_is mark rest front.others front.others_are))

bytes_whole : (bytes : List ℕ) → bytes ≢ [] → AreBytes bytes → bytes_at (duid_text bytes) ≡ Some bytes
bytes_whole [] some range = absurd (some refl)
bytes_whole (b ∷ []) some range = rw (hex_byte_reads.whole b (range 0)) refl
bytes_whole (b ∷ c ∷ cs) some range =
    let more : c ∷ cs ≢ [] = λ none. cc in
    rw (hex_byte_reads.whole b (range 0), bytes_whole (c ∷ cs) more (λ i. range (suc i))) refl

-- ---- the DUID that a text spells, by the bytes that were read

pub spelled_some : (text bytes : List ℕ) → bytes_at text ≡ Some bytes → duid_in bytes ≡ duid_spelled text
spelled_some text bytes e =
    let s = bytes_sound text bytes e in
    sym (ap duid_spelled s.text_is ∙ text_spells bytes s.range)

no_bytes_spelled : (text : List ℕ) → duid_spelled text ≢ Some []
no_bytes_spelled text e = let never : None ≡ Some [] = (spelled text [] e).is_duid in cc

pub spelled_none : (text : List ℕ) → bytes_at text ≡ None → duid_spelled text ≡ None
spelled_none text none =
    elim (duid_spelled text) as (λ o. duid_spelled text ≡ o → o ≡ None) [
      | None ↦ λ e. refl
      | Some bytes ↦ λ e.
          let s = spelled text bytes e in
          let some : bytes ≢ [] = λ same. no_bytes_spelled text (e ∙ ap (λ bs. Some bs) same) in
          let read : bytes_at text ≡ Some bytes = ap bytes_at s.text_is ∙ bytes_whole bytes some s.range in
          let never : None ≡ Some bytes = sym none ∙ read in
          cc
    ] refl

-- ---- a step of the loop

more_bytes : (items : List ℕ) (byte : ℕ) (o : Option (List ℕ))
    → option_map (λ xs. items ++ xs) (with_byte (Some byte) o) ≡ option_map (λ xs. items ++ byte ∷ [] ++ xs) o
more_bytes items byte None = refl
more_bytes items byte (Some xs) = ap (λ ys. Some ys) (sym (append_assoc items (byte ∷ []) xs))

pub byte_more : (items : List ℕ) (whole : Option (List ℕ)) (byte : ℕ) (rest : List ℕ) → 3 ≤ length rest
    → hex_byte_at (slice_index rest 0 ∷ slice_index rest 1 ∷ []) ≡ Some byte → slice_index rest 2 ≡ 58 → whole ≡ option_map (λ xs. items ++ xs) (bytes_at rest)
    → whole ≡ option_map (λ xs. items ++ byte ∷ [] ++ xs) (bytes_at (take (length rest - 3) (drop 3 rest)))
byte_more items whole byte [] long read colon e = absurd (omega arith)
byte_more items whole byte (a ∷ []) long read colon e = absurd (omega arith)
byte_more items whole byte (a ∷ b ∷ []) long read colon e = absurd (omega arith)
byte_more items whole byte (a ∷ b ∷ mark ∷ rest) long read colon e =
    let left : suc (suc (suc (length rest))) - 3 ≡ length rest = omega arith in
    let step : option_map (λ xs. items ++ xs) (bytes_at (a ∷ b ∷ mark ∷ rest)) ≡ option_map (λ xs. items ++ byte ∷ [] ++ xs) (bytes_at rest) =
    rw (colon, read) (more_bytes items byte (bytes_at rest)) in
    rw (left, take-length rest) (e ∙ step)
