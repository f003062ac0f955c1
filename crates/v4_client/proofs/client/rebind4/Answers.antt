use Rattle.std.proofs.Common.{◌≡◌, ap, subst}
use Rattle.net_types.specs.Moments.{IsMoment}
use Rattle.v4_client.specs.declared.states.State4.{State4}
use Rattle.v4_client.specs.Clients.{ClientContent, kept_terms}
use Rattle.v4_client.specs.Sound.{IsSound, IsSoundStep, FitsBegin}
use Rattle.v4_client.proofs.SoundClients.{begin_fits, early}
use Rattle.v4_client.proofs.SoundSteps.{rebind_sound}
use Rattle.v4_client.proofs.client.rebind4.Goals as goal

pub go-requires : goal.go-requires
go-requires c =
    let same : c.c.inside.state ≡ c.args.c.now.state = ap (λ (v : ClientContent). v.state) c.c.view_is in
    let sound : IsSound c.args.c.now = subst IsSound c.c.view_is c.c.invariant in
    let begin : FitsBegin (kept_terms c.args.c.now) = begin_fits c.args.c.now.kept sound.kept in
    let at : IsMoment c.turn-turn.result.at =
    early c.turn-turn.result c.args.at c.clamp_moment.result c.args.salt c.args.c.now c.clamp_moment.ensures c.turn-turn.ensures in
    subst (λ (s : State4). IsSoundStep (kept_terms c.args.c.now) s c.rebind_row-step.result) same
    (rw (c.rebind_row-step.ensures, c.kept_terms.ensures.value)
    (rebind_sound (kept_terms c.args.c.now) c.turn-turn.result c.c.inside.state at begin c.c.invariant.state))
