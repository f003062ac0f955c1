use Rattle.std.proofs.Common.{◌∙◌, sym, ap}
use Rattle.net_types.specs.declared.address.Net.{Net}
use Rattle.local_judge.specs.Judge.{gives_in}
use Rattle.local_judge.proofs.Telling.{is_told}
use Rattle.local_judge.proofs.judge.LocalJudge.gives.Goals as goal

pub returns-in-V4 : goal.returns-in-V4
returns-in-V4 c = λ site past tells. c.stands.ensures ∙ is_told c.args.self.now site past tells c.in-V4.net
    ∙ ap (λ (net : Net). gives_in site net past) (sym c.in-V4.is)
