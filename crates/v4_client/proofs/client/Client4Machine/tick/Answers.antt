use Rattle.std.proofs.Common.{◌≡◌, ap, subst}
use Rattle.net_types.specs.Moments.{IsMoment}
use Rattle.v4_client.specs.declared.states.State4.{State4}
use Rattle.v4_client.specs.Clients.{ClientContent, kept_terms}
use Rattle.v4_client.specs.Sound.{IsSoundStep}
use Rattle.v4_client.proofs.SoundClients.{early}
use Rattle.v4_client.proofs.SoundSteps.{tick_sound}
use Rattle.v4_client.proofs.client.Client4Machine.tick.Goals as goal

pub go-requires : goal.go-requires
go-requires c =
    let same : c.self.inside.state ≡ c.args.self.now.state = ap (λ (v : ClientContent). v.state) c.self.view_is in
    let at : IsMoment c.turn.result.at =
    early c.turn.result c.args.at c.clamp_moment-at.result c.args.salt c.args.self.now c.clamp_moment-at.ensures c.turn.ensures in
    subst (λ (s : State4). IsSoundStep (kept_terms c.args.self.now) s c.tick_row-step.result) same
    (rw c.tick_row-step.ensures (tick_sound (kept_terms c.args.self.now) c.turn.result c.self.inside.state at c.self.invariant.state))
