use Rattle.std.proofs.Common.{List, ap, ◌∙◌}
use Rattle.std.specs.List.{list_all}
use Rattle.net_types.specs.declared.address.Ip4.{Ip4}
use Rattle.local_judge.specs.Judge.{choice_at}
use Rattle.local_judge.specs.Settled.{is_unused}
use Rattle.local_judge.specs.declared.judge.Chosen.{Chosen}
use Rattle.local_judge.proofs.SettledChoices.{settled_so}
use Rattle.local_judge.proofs.judge.LocalJudge.is_settled.Goals as goal

pub returns : goal.returns
returns c =
    settled_so c.args.self.now c.in_ok-probed.probed.items c.are_unused.result c.in_ok-probed.ensures
    (c.are_unused.ensures
    ∙ ap (λ (chosen : List Chosen). list_all (λ addr. is_unused (choice_at chosen addr)) c.deref.result.now) c.deref-2.ensures.value
    ∙ ap (λ (addrs : List Ip4). list_all (λ addr. is_unused (choice_at c.args.self.now.chosen.items addr)) addrs) c.deref.ensures.value)
