use Rattle.std.proofs.Common.{[], ◌∷◌, ◌++◌, ◌∙◌, ◌<◌, length, arith}
use Rattle.v6_message.specs.Requests.{asked_content, ia_option, options_text}
use Rattle.v6_message.proofs.OptionLists.{texts_more}
use Rattle.v6_message.proofs.writing.put_ias.Goals as goal

pub ias-preserved : goal.ias-preserved
ias-preserved c =
    let within : c.ias.ia-index < length c.args.ias.now = omega arith in
    c.in_ok-put_ia.ensures
    ∙ (λ i. c.ias.invariant i ++ options_text (ia_option (asked_content (c.ia-item.is i)) ∷ []))
    ∙ texts_more ia_option asked_content c.args.message.now.items c.args.ias.now c.ias.ia-index c.ia-item.result within
