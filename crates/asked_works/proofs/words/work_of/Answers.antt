use Rattle.std.proofs.Common.{◌≡◌, List, ℕ, None, map, rules, sym, subst, ◌∙◌}
use Rattle.std.specs.String.{string_bytes}
use Rattle.live_words.specs.LiveWords.{IsLiveRead}
use Rattle.asked_works.specs.ImportReading.{IsImportRead}
use Rattle.asked_works.specs.MakeReading.{IsMakeRead}
use Rattle.asked_works.proofs.AskedApart.{true_false, none_asked}
use Rattle.asked_works.proofs.words.work_of.Goals as goal

pub returns-in-None-clause-asked : goal.returns-in-None-clause-asked
returns-in-None-clause-asked c =
    let words : List (List ℕ) = map string_bytes c.args.words.now in
    let unread : c.in_ok-interfaces.field-0 ≡ None = search rules in
    let unmade : c.make_rounds.result ≡ None = search rules in
    let unimported : c.imported_on.result ≡ None = search rules in
    none_asked words (λ asks. true_false (sym (c.is_alone.ensures.no asks) ∙ c.if-is_alone.false))
    (λ asks. true_false (sym (c.is_alone-2.ensures.no asks) ∙ c.if-is_alone-2.false))
    (λ asks. true_false (sym (c.is_alone-3.ensures.no asks) ∙ c.if-is_alone-3.false))
    (λ asks. true_false (sym (c.is_alone-4.ensures.no asks) ∙ c.if-is_alone-4.false))
    (λ asks. true_false (sym (c.is_alone-5.ensures.no asks) ∙ c.if-is_alone-5.false))
    (λ asks. true_false (sym (c.are_two.ensures.no asks) ∙ c.if-are_two.false))
    (subst (IsMakeRead words) unmade c.make_rounds.ensures)
    (subst (IsImportRead words) unimported c.imported_on.ensures)
    (subst (IsLiveRead words) unread c.in_ok-interfaces.ensures.read)
