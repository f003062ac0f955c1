use Rattle.std.proofs.Common.{ap, ap₂, ◌∙◌, true}
use Rattle.std.proofs.lemmas.Result.{IfOk-weaker}
use Rattle.clap.specs.Words.{with_rule}
use Rattle.clap.specs.Simple.{app_of_fields, on_top}
use Rattle.live_words.proofs.command.command.Goals as goal

pub returns : goal.returns
returns c =
    let bare = ap app_of_fields c.disable_help_flag.ensures ∙ ap (on_top (λ shape. record shape { disable_help_flag = true })) c.new.ensures.app in
    let one = c.in_ok-arg.ensures.shape c.place.ensures.local ∙ ap₂ with_rule bare c.place.ensures.rule in
    let two = c.in_ok-arg-2.ensures.shape c.place-2.ensures.local ∙ ap₂ with_rule one c.place-2.ensures.rule in
    let three = c.in_ok-arg-3.ensures.shape c.path.ensures.local ∙ ap₂ with_rule two c.path.ensures.rule in
    let four = c.in_ok-arg-4.ensures.shape c.path-2.ensures.local ∙ ap₂ with_rule three c.path-2.ensures.rule in
    IfOk-weaker c.arg-5.result _ _ (λ command adds. adds.shape c.interfaces.ensures.local ∙ ap₂ with_rule four c.interfaces.ensures.rule) c.arg-5.ensures
