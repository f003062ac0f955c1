-- The rest of a line as one argument.
use Rattle.std.proofs.Common.{◌≡◌, ℕ, true, false, cond, List, [], ◌∷◌, ◌++◌, length, Some, None, refl, sym, ap, ◌∙◌, subst, eqb}
use Rattle.std.proofs.lemmas.Bool.{eqb-true, eqb-false, eq-eqb, ne_eqb, not-true, not_from_false}
use Rattle.std.proofs.lemmas.List.{append-nil, nil_from_length}
use Rattle.std.proofs.lemmas.Option.{none-some}
use Rattle.net_types.specs.Marks.{Only}
use Rattle.net_types.proofs.ReadsLaws.{some_same}
use Rattle.conf_words.specs.declared.arguments.Form.{Form}
use Rattle.conf_words.specs.declared.arguments.Form.TheVariants.{Plain, Quoted}
use Rattle.conf_words.specs.Marks.{quote, parts_words, front_of, past}
use Rattle.conf_words.specs.Arguments.{Said, said, AreArgumentsOf, BeginsWord, IsWholeAs, IsWholeArgument}
use Rattle.conf_words.specs.Steps.{quoted_at, plain_at, argument_from, argument_at, ends_line, whole_by, whole_from, whole_at}
use Rattle.conf_words.proofs.Cuts.{parted, front_only, past_fails, past_front, past_all}
use Rattle.conf_words.proofs.ArgumentLaws.{argument_sound, argument_whole, quoted_is}

blank_end : (rest : List ℕ) → ends_line rest ≡ true → Only parts_words rest
blank_end rest e =
    let none : past parts_words rest ≡ [] = nil_from_length _ (eqb-true _ _ e) in
    let all : rest ≡ front_of parts_words rest =
    parted parts_words rest ∙ ap (λ w. front_of parts_words rest ++ w) none ∙ append-nil (front_of parts_words rest) in
    subst (λ t. Only parts_words t) (sym all) (front_only parts_words rest)

end_blank : (rest : List ℕ) → Only parts_words rest → ends_line rest ≡ true
end_blank rest only = eq-eqb _ _ (ap length (past_all parts_words rest only))

-- ---- what is read is the rest

quoted_rest : (about : List ℕ) (bytes : List ℕ) (argument : Said) → argument_at about ≡ Some (quoted_at bytes) → whole_by (quoted_at bytes) ≡ Some argument
    → IsWholeArgument about argument
quoted_rest about bytes argument found e =
    elim (ends_line (quoted_at bytes).1) as
    (λ b. ends_line (quoted_at bytes).1 ≡ b → cond b (Some (quoted_at bytes).0) None ≡ Some argument → IsWholeArgument about argument) [
      | true ↦ λ t q.
          let begins = argument_sound about (quoted_at bytes).0 (quoted_at bytes).1 found in
          let all : AreArgumentsOf about ((quoted_at bytes).0 ∷ []) =
          ((quoted_at bytes).1, ((quoted_at bytes).1, begins, refl), blank_end (quoted_at bytes).1 t) in
          let form : (quoted_at bytes).0 ≡ said Quoted (quoted_at bytes).0.text = quoted_is bytes in
          let whole : IsWholeArgument about (said Quoted (quoted_at bytes).0.text) = subst (λ (a : Said). AreArgumentsOf about (a ∷ [])) form all in
          subst (λ (a : Said). IsWholeArgument about a) (sym form ∙ some_same q) whole
      | false ↦ λ t q. absurd (none-some argument q)
    ] refl e

from_words : (about words : List ℕ) (argument : Said) → past parts_words about ≡ words → argument_at about ≡ argument_from words
    → whole_from words ≡ Some argument → IsWholeArgument about argument
from_words about [] argument here found e = absurd (none-some argument e)
from_words about (byte ∷ bytes) argument here found e =
    elim (eqb byte quote) as
    (λ b. eqb byte quote ≡ b → argument_at about ≡ cond b (Some (quoted_at bytes)) (Some (plain_at (byte ∷ bytes)))
    → cond b (whole_by (quoted_at bytes)) (Some (said Plain (byte ∷ bytes))) ≡ Some argument → IsWholeArgument about argument) [
      | true ↦ λ t at q. quoted_rest about bytes argument at q
      | false ↦ λ t at q.
          let dark : parts_words byte ≡ false = past_fails parts_words about byte bytes here in
          let whole : IsWholeArgument about (said Plain (byte ∷ bytes)) = (
            front_of parts_words about,
            parted parts_words about ∙ ap (λ w. front_of parts_words about ++ w) here,
            front_only parts_words about,
            (not_from_false _ dark, eqb-false _ _ t),
          ) in
          subst (λ (a : Said). IsWholeArgument about a) (some_same q) whole
    ] refl found e

pub whole_sound : (about : List ℕ) (argument : Said) → whole_at about ≡ Some argument → IsWholeArgument about argument
unfolding whole_at argument_at
whole_sound about argument e = from_words about (past parts_words about) argument refl refl e

-- ---- the rest is read

plain_some : (text : List ℕ) → BeginsWord text → whole_from (past parts_words text) ≡ Some (said Plain text)
plain_some [] begins = absurd begins
plain_some (byte ∷ bytes) begins =
    let dark : parts_words byte ≡ false = not-true _ begins.0 in
    ap (λ b. whole_from (cond b (past parts_words bytes) (byte ∷ bytes))) dark
    ∙ ap (λ b. cond b (whole_by (quoted_at bytes)) (Some (said Plain (byte ∷ bytes)))) (ne_eqb byte quote begins.1)

quoted_some : (words : List ℕ) (text rest : List ℕ) → argument_from words ≡ Some (said Quoted text, rest) → ends_line rest ≡ true
    → whole_from words ≡ Some (said Quoted text)
quoted_some [] text rest found ends = absurd (none-some _ found)
quoted_some (byte ∷ bytes) text rest found ends =
    let pair : Said × List ℕ = (said Quoted text, rest) in
    elim (eqb byte quote) as
    (λ b. cond b (Some (quoted_at bytes)) (Some (plain_at (byte ∷ bytes))) ≡ Some pair
    → cond b (whole_by (quoted_at bytes)) (Some (said Plain (byte ∷ bytes))) ≡ Some (said Quoted text)) [
      | true ↦ λ q. ap whole_by (some_same q) ∙ ap (λ b. cond b (Some (said Quoted text)) None) ends
      | false ↦ λ q. absurd (apart (ap (λ (p : Said × List ℕ). p.0.form) (some_same q)))
    ] found
  where
    apart : Plain ≡ Quoted → ⊥
    apart e = let no : ⊥ = cc in no

whole_some : (form : Form) (about text : List ℕ) → IsWholeAs form about text → whole_at about ≡ Some (said form text)
unfolding whole_at argument_at
whole_some Plain about text whole =
    ap (λ t. whole_from (past parts_words t)) whole.1
    ∙ ap whole_from (past_front parts_words whole.0 text whole.2)
    ∙ plain_some text whole.3
whole_some Quoted about text whole =
    let leads = whole.1 in
    let found = argument_whole about (said Quoted text) leads.0 leads.1 in
    let ends : ends_line leads.0 ≡ true = ap ends_line leads.2 ∙ end_blank whole.0 whole.2 in
    quoted_some (past parts_words about) text leads.0 found ends

pub whole_none : (about : List ℕ) → whole_at about ≡ None → (argument : Said) → IsWholeArgument about argument → ⊥
whole_none about none argument whole = none-some _ (sym none ∙ whole_some argument.form about argument.text whole)

pub whole_one : (about : List ℕ) (one other : Said) → IsWholeArgument about one → IsWholeArgument about other → one ≡ other
whole_one about one other first second =
    some_same (sym (whole_some one.form about one.text first) ∙ whole_some other.form about other.text second)
