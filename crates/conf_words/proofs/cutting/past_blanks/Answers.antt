use Rattle.std.proofs.Common.{◌≡◌, sym, ◌∙◌, refl, not, Bool, true, false, length, arith, drop_of_length-le}
use Rattle.std.proofs.lemmas.List.{take_rest}
use Rattle.conf_words.specs.Marks.{parts_words, is_of_word}
use Rattle.conf_words.proofs.Cuts.{past_place, only_where, past_all}
use Rattle.conf_words.proofs.cutting.past_blanks.Goals as goal

not_not : (b : Bool) → not (not b) ≡ b
not_not true = refl
not_not false = refl

pub returns-in-Some : goal.returns-in-Some
returns-in-Some c =
    take_rest c.args.text.now c.in-Some.place
    ∙ past_place parts_words is_of_word (λ b. not_not (parts_words b)) _ _ (sym c.place_of_word.ensures.place ∙ c.in-Some.is)

pub returns-in-None : goal.returns-in-None
returns-in-None c =
    take_rest c.args.text.now (length c.args.text.now)
    ∙ drop_of_length-le c.args.text.now (omega arith)
    ∙ sym
    (past_all parts_words c.args.text.now
    (only_where parts_words is_of_word (λ b. not_not (parts_words b)) c.args.text.now (sym c.place_of_word.ensures.place ∙ c.in-None.is)))
