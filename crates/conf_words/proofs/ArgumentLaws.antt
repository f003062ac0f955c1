-- The first argument of a text.
use Rattle.std.proofs.Common.{◌≡◌, inl, inr, ℕ, ◌+◌, ◌<◌, true, false, not, cond, List, [], ◌∷◌, ◌++◌, length, Some, None, refl, sym, ap, ◌∙◌, subst, arith, eqb}
use Rattle.std.proofs.lemmas.Bool.{eqb-true, ne_eqb, eqb-false, not-true, not_from_false}
use Rattle.std.proofs.lemmas.List.{append-nil, append_assoc, length-append}
use Rattle.net_types.specs.Cutting.{split_at_byte}
use Rattle.net_types.specs.Marks.{Only, Lacks}
use Rattle.net_types.proofs.ReadsLaws.{some_same, split_sound, split_whole}
use Rattle.conf_words.specs.declared.arguments.Form.{Form}
use Rattle.conf_words.specs.declared.arguments.Form.TheVariants.{Plain, Quoted}
use Rattle.conf_words.specs.Marks.{quote, parts_words, is_of_word, front_of, past}
use Rattle.conf_words.specs.Arguments.{Said, said, ends_word, BeginsWord, SpelledBefore, BeginsWithArgument}
use Rattle.conf_words.specs.Steps.{quoted_by, quoted_at, plain_at, argument_from, argument_at}
use Rattle.conf_words.proofs.Cuts.{parted, front_only, past_fails, past_front, past_all, front_front}
use Rattle.conf_words.proofs.LineLaws.{lacks_where, none_where}

-- an argument at the front of words
record Cut (words : List ℕ) (argument : Said) (rest : List ℕ) : Type 0 where
  spelling : List ℕ
  joined : words ≡ spelling ++ rest
  spelled : SpelledBefore argument.form argument.text spelling rest

quoted_cut : (bytes : List ℕ) → Cut (quote ∷ bytes) (quoted_at bytes).0 (quoted_at bytes).1
unfolding quoted_at
quoted_cut bytes =
    elim (split_at_byte quote bytes) as (λ o. split_at_byte quote bytes ≡ o → Cut (quote ∷ bytes) (quoted_by bytes o).0 (quoted_by bytes o).1) [
      | Some parts ↦ λ t.
          let cut = split_sound quote bytes parts.0 parts.1 t in
          record {
            spelling = quote ∷ (parts.0 ++ quote ∷ []);
            joined = ap (λ bs. quote ∷ bs) (cut.0 ∙ sym (append_assoc parts.0 (quote ∷ []) parts.1));
            spelled = (cut.1, inl refl);
          }
      | None ↦ λ t. record {
        spelling = quote ∷ bytes;
        joined = sym (append-nil (quote ∷ bytes));
        spelled = (lacks_where quote bytes t, inr (refl, refl));
      }
    ] refl

pub quoted_is : (bytes : List ℕ) → (quoted_at bytes).0 ≡ said Quoted (quoted_at bytes).0.text
unfolding quoted_at
quoted_is bytes =
    elim (split_at_byte quote bytes) as (λ o. (quoted_by bytes o).0 ≡ said Quoted (quoted_by bytes o).0.text) [
      | Some parts ↦ refl
      | None ↦ refl
    ]

ends_past : (text : List ℕ) → ends_word (past is_of_word text) ≡ true
ends_past [] = refl
ends_past (byte ∷ bytes) =
    elim (parts_words byte) as (λ b. parts_words byte ≡ b → ends_word (cond (not b) (past is_of_word bytes) (byte ∷ bytes)) ≡ true) [
      | true ↦ λ t. t
      | false ↦ λ t. ends_past bytes
    ] refl

plain_cut : (byte : ℕ) (bytes : List ℕ) → parts_words byte ≡ false → eqb byte quote ≡ false
    → Cut (byte ∷ bytes) (plain_at (byte ∷ bytes)).0 (plain_at (byte ∷ bytes)).1
plain_cut byte bytes dark plain =
    let begins : front_of is_of_word (byte ∷ bytes) ≡ byte ∷ front_of is_of_word bytes = ap (λ b. cond (not b) (byte ∷ front_of is_of_word bytes) []) dark in
    record {
      spelling = front_of is_of_word (byte ∷ bytes);
      joined = parted is_of_word (byte ∷ bytes);
      spelled = (
        refl,
        subst (λ t. BeginsWord t) (sym begins) (not_from_false _ dark, eqb-false _ _ plain),
        front_only is_of_word (byte ∷ bytes),
        ends_past (byte ∷ bytes),
      );
    }

from_cut : (words : List ℕ) (argument : Said) (rest : List ℕ) → ((byte : ℕ) (bytes : List ℕ) → words ≡ byte ∷ bytes → parts_words byte ≡ false)
    → argument_from words ≡ Some (argument, rest) → Cut words argument rest
from_cut [] argument rest dark e = let no : ⊥ = cc in absurd no
from_cut (byte ∷ bytes) argument rest dark e =
    let pair : Said × List ℕ = (argument, rest) in
    elim (eqb byte quote) as
    (λ b. eqb byte quote ≡ b → cond b (Some (quoted_at bytes)) (Some (plain_at (byte ∷ bytes))) ≡ Some pair → Cut (byte ∷ bytes) argument rest) [
      | true ↦ λ t q.
          let cut : Cut (byte ∷ bytes) (quoted_at bytes).0 (quoted_at bytes).1 =
          subst (λ b. Cut (b ∷ bytes) (quoted_at bytes).0 (quoted_at bytes).1) (sym (eqb-true _ _ t)) (quoted_cut bytes) in
          subst (λ (p : Said × List ℕ). Cut (byte ∷ bytes) p.0 p.1) (some_same q) cut
      | false ↦ λ t q. subst (λ (p : Said × List ℕ). Cut (byte ∷ bytes) p.0 p.1) (some_same q) (plain_cut byte bytes (dark byte bytes refl) t)
    ] refl e

pub argument_sound : (text : List ℕ) (argument : Said) (rest : List ℕ) → argument_at text ≡ Some (argument, rest) → BeginsWithArgument text argument rest
unfolding argument_at
argument_sound text argument rest e =
    let cut = from_cut (past parts_words text) argument rest (past_fails parts_words text) e in
    record {
      gap = front_of parts_words text;
      spelling = cut.spelling;
      parted = parted parts_words text ∙ ap (λ w. front_of parts_words text ++ w) cut.joined;
      blanks = front_only parts_words text;
      spelled = cut.spelled;
    }

none_from : (words : List ℕ) → argument_from words ≡ None → words ≡ []
none_from [] e = refl
none_from (byte ∷ bytes) e =
    elim (eqb byte quote) as (λ b. cond b (Some (quoted_at bytes)) (Some (plain_at (byte ∷ bytes))) ≡ None → byte ∷ bytes ≡ []) [
      | true ↦ λ q. let no : ⊥ = cc in absurd no
      | false ↦ λ q. let no : ⊥ = cc in absurd no
    ] e

pub argument_none : (text : List ℕ) → argument_at text ≡ None → Only parts_words text
unfolding argument_at
argument_none text e =
    let none : past parts_words text ≡ [] = none_from (past parts_words text) e in
    let all : text ≡ front_of parts_words text =
    parted parts_words text ∙ ap (λ w. front_of parts_words text ++ w) none ∙ append-nil (front_of parts_words text) in
    subst (λ t. Only parts_words t) (sym all) (front_only parts_words text)

pub none_argument : (text : List ℕ) → Only parts_words text → argument_at text ≡ None
unfolding argument_at
none_argument text only = ap argument_from (past_all parts_words text only)

-- ---- what begins the text is read

past_end : (rest : List ℕ) → ends_word rest ≡ true → past is_of_word rest ≡ rest
past_end [] ends = refl
past_end (byte ∷ bytes) ends = ap (λ b. cond (not b) (past is_of_word bytes) (byte ∷ bytes)) ends

front_end : (rest : List ℕ) → ends_word rest ≡ true → front_of is_of_word rest ≡ []
front_end [] ends = refl
front_end (byte ∷ bytes) ends = ap (λ b. cond (not b) (byte ∷ front_of is_of_word bytes) []) ends

quoted_whole : (text rest : List ℕ) → Lacks quote text → quoted_at (text ++ quote ∷ rest) ≡ (said Quoted text, rest)
unfolding quoted_at
quoted_whole text rest lacks = ap (quoted_by (text ++ quote ∷ rest)) (split_whole quote text rest lacks)

quoted_end : (text : List ℕ) → Lacks quote text → quoted_at text ≡ (said Quoted text, [])
unfolding quoted_at
quoted_end text lacks = ap (quoted_by text) (none_where quote text lacks)

plain_whole : (text rest : List ℕ) → BeginsWord text → Only is_of_word text → ends_word rest ≡ true
    → argument_from (past parts_words (text ++ rest)) ≡ Some (said Plain text, rest)
plain_whole [] rest begins only ends = absurd begins
plain_whole (byte ∷ bytes) rest begins only ends =
    let dark : parts_words byte ≡ false = not-true _ begins.0 in
    let unquoted : eqb byte quote ≡ false = ne_eqb _ _ begins.1 in
    let here : past parts_words (byte ∷ bytes ++ rest) ≡ byte ∷ bytes ++ rest =
    ap (λ b. cond b (past parts_words (bytes ++ rest)) (byte ∷ bytes ++ rest)) dark in
    let front : front_of is_of_word (byte ∷ bytes ++ rest) ≡ byte ∷ bytes =
    front_front is_of_word (byte ∷ bytes) rest only ∙ ap (λ f. byte ∷ bytes ++ f) (front_end rest ends) ∙ append-nil (byte ∷ bytes) in
    let after : past is_of_word (byte ∷ bytes ++ rest) ≡ rest = past_front is_of_word (byte ∷ bytes) rest only ∙ past_end rest ends in
    ap argument_from here
    ∙ ap (λ b. cond b (Some (quoted_at (bytes ++ rest))) (Some (plain_at (byte ∷ bytes ++ rest)))) unquoted
    ∙ ap (λ f. Some (said Plain f, past is_of_word (byte ∷ bytes ++ rest))) front
    ∙ ap (λ r. Some (said Plain (byte ∷ bytes), r)) after

from_whole : (form : Form) (text spelling rest : List ℕ) → SpelledBefore form text spelling rest
    → argument_from (past parts_words (spelling ++ rest)) ≡ Some (said form text, rest)
from_whole Plain text spelling rest spelled =
    ap (λ s. argument_from (past parts_words (s ++ rest))) spelled.0 ∙ plain_whole text rest spelled.1 spelled.2 spelled.3
from_whole Quoted text spelling rest spelled =
    elim (spelled.1) as (λ h. argument_from (past parts_words (spelling ++ rest)) ≡ Some (said Quoted text, rest)) [
      | inl e ↦
          ap (λ s. argument_from (past parts_words (s ++ rest))) e
          ∙ ap (λ t. Some (quoted_at t)) (append_assoc text (quote ∷ []) rest)
          ∙ ap (λ p. Some p) (quoted_whole text rest spelled.0)
      | inr e ↦
          ap (λ s. argument_from (past parts_words (s ++ rest))) e.0
          ∙ ap (λ t. Some (quoted_at t)) (ap (λ r. text ++ r) e.1 ∙ append-nil text)
          ∙ ap (λ p. Some p) (quoted_end text spelled.0)
          ∙ ap (λ r. Some (said Quoted text, r)) (sym e.1)
    ]

pub argument_whole : (text : List ℕ) (argument : Said) (rest : List ℕ) → BeginsWithArgument text argument rest → argument_at text ≡ Some (argument, rest)
unfolding argument_at
argument_whole text argument rest begins =
    ap (λ t. argument_from (past parts_words t)) begins.parted
    ∙ ap argument_from (past_front parts_words begins.gap (begins.spelling ++ rest) begins.blanks)
    ∙ from_whole argument.form argument.text begins.spelling rest begins.spelled

-- ---- an argument has a spelling

spelled_some : (form : Form) (text spelling rest : List ℕ) → SpelledBefore form text spelling rest → 0 < length spelling
spelled_some Plain text spelling rest spelled = subst (λ s. 0 < length s) (sym spelled.0) (positive text spelled.1)
  where
    positive : (text : List ℕ) → BeginsWord text → 0 < length text
    positive [] begins = absurd begins
    positive (byte ∷ bytes) begins = omega arith
spelled_some Quoted text spelling rest spelled =
    elim (spelled.1) as (λ h. 0 < length spelling) [
      | inl e ↦ subst (λ s. 0 < length s) (sym e) (omega arith)
      | inr e ↦ subst (λ s. 0 < length s) (sym e.0) (omega arith)
    ]

pub argument_shorter : (text : List ℕ) (argument : Said) (rest : List ℕ) → BeginsWithArgument text argument rest → length rest < length text
argument_shorter text argument rest begins =
    let some = spelled_some argument.form argument.text begins.spelling rest begins.spelled in
    let whole : length text ≡ length begins.gap + length (begins.spelling ++ rest) =
    ap length begins.parted ∙ length-append begins.gap (begins.spelling ++ rest) in
    let inner : length (begins.spelling ++ rest) ≡ length begins.spelling + length rest = length-append begins.spelling rest in
    omega (arith, some, whole, inner)
