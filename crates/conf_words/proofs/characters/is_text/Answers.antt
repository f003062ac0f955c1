use Rattle.std.proofs.Common.{◌≡◌, true, false, ◌&&◌, sym, ◌∙◌, ap}
use Rattle.std.specs.List.{list_all}
use Rattle.std.specs.Str.{chars, is_utf8}
use Rattle.std.proofs.lemmas.Bool.{false_from_ne_true}
use Rattle.std.proofs.lemmas.Str.{is_utf8-from_IsUtf8, IsUtf8-from_is_utf8}
use Rattle.conf_words.specs.Characters.{may_stand}
use Rattle.conf_words.proofs.characters.is_text.Goals as goal

pub returns-in-Ok : goal.returns-in-Ok
returns-in-Ok c =
    let valid : is_utf8 c.args.line.now ≡ true = is_utf8-from_IsUtf8 _ c.in-Ok.ensures.cases.1 in
    c.all_may_stand.ensures
    ∙ ap (λ line. list_all may_stand (chars line)) c.in-Ok.ensures.cases.0
    ∙ sym (ap (λ b. b && list_all may_stand (chars c.args.line.now)) valid)

pub returns-in-Err : goal.returns-in-Err
returns-in-Err c =
    let invalid : is_utf8 c.args.line.now ≡ false = false_from_ne_true _ (λ t. c.in-Err.ensures.cases.0 (IsUtf8-from_is_utf8 _ t)) in
    sym (ap (λ b. b && list_all may_stand (chars c.args.line.now)) invalid)
