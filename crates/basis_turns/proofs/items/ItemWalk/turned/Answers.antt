use Rattle.std.proofs.Common.{◌∙◌, if◌then◌else◌}
use Rattle.basis_turns.proofs.items.ItemWalk.turned.Goals as goal

pub returns : goal.returns
returns c = λ past count tells.
    let judged = c.in_ok-judge.ensures past tells.judge in
    record { judge = judged; reply = c.newest-reply.ensures ∙ (λ i. if c.in_ok-hears.ensures past judged i then count i else tells.reply i) }
