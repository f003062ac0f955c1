use Rattle.std.proofs.Common.{sym, ◌∙◌, refl}
use Rattle.std.proofs.Math.Seq.{take-length, drop-length}
use Rattle.conf_words.specs.Marks.{parts_words, is_of_word}
use Rattle.conf_words.proofs.Cuts.{past_place, front_place, only_where, past_all, front_all}
use Rattle.conf_words.proofs.cutting.cut_word.Goals as goal

pub returns-in-Some-clause-word : goal.returns-in-Some-clause-word
returns-in-Some-clause-word c =
    c.split_at.ensures.front ∙ front_place is_of_word parts_words (λ b. refl) _ _ (sym c.place_of_blank.ensures.place ∙ c.in-Some.is)

pub returns-in-Some-clause-rest : goal.returns-in-Some-clause-rest
returns-in-Some-clause-rest c = c.split_at.ensures.back ∙ past_place is_of_word parts_words (λ b. refl) _ _ (sym c.place_of_blank.ensures.place ∙ c.in-Some.is)

pub returns-in-None-clause-word : goal.returns-in-None-clause-word
returns-in-None-clause-word c =
    c.split_at-in-None.ensures.front ∙ take-length c.args.text.now
    ∙ sym
    (front_all is_of_word c.args.text.now
    (only_where is_of_word parts_words (λ b. refl) c.args.text.now (sym c.place_of_blank.ensures.place ∙ c.in-None.is)))

pub returns-in-None-clause-rest : goal.returns-in-None-clause-rest
returns-in-None-clause-rest c =
    c.split_at-in-None.ensures.back ∙ drop-length c.args.text.now
    ∙ sym
    (past_all is_of_word c.args.text.now
    (only_where is_of_word parts_words (λ b. refl) c.args.text.now (sym c.place_of_blank.ensures.place ∙ c.in-None.is)))
