use Rattle.std.proofs.Common.{◌≡◌, ◌<◌, List, [], ◌∙◌, drop, length, map, sym, ap, arith, rules}
use Rattle.v6_options.specs.Ias.{IaContent}
use Rattle.v6_options.specs.IaViews.{ias_left}
use Rattle.v6_message.specs.ReadBack.{asked_in}
use Rattle.evidence_words.specs.ClientModel.ClientSettings6.{ask_for}
use Rattle.lease6_evidence.specs.OwnMessages6 as own
use Rattle.item_judge.proofs.OwnWalks.{none_more}
use Rattle.item_judge.proofs.own.are_all.Goals as goal

pub returns-in_default : goal.returns-in_default
returns-in_default c =
    let confs = c.args.confs.now in
    let less : c.confs.conf-index < length confs = omega (arith, c.confs-test.true) in
    let none : ias_left c.confs.left ≡ [] = search rules in
    sym (none_more own.is_ia_of confs c.confs.conf-index less)
    ∙ ap (λ (x : List IaContent). own.are_all own.is_ia_of (map ask_for (drop c.confs.conf-index confs)) (map asked_in x)) (sym none)
    ∙ c.confs.invariant
