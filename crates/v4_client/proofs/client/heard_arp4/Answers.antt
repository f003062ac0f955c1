use Rattle.std.proofs.Common.{◌≡◌, ap, subst}
use Rattle.v4_client.specs.declared.states.State4.{State4}
use Rattle.v4_client.specs.Clients.{ClientContent, kept_terms}
use Rattle.v4_client.specs.Sound.{IsSoundStep}
use Rattle.v4_client.proofs.SoundSteps.{arp_sound}
use Rattle.v4_client.proofs.client.heard_arp4.Goals as goal

pub go-requires : goal.go-requires
go-requires c =
    let same : c.c.inside.state ≡ c.args.c.now.state = ap (λ (v : ClientContent). v.state) c.c.view_is in
    subst (λ (s : State4). IsSoundStep (kept_terms c.args.c.now) s c.arp_row-step.result) same
    (rw c.arp_row-step.ensures (arp_sound (kept_terms c.args.c.now) c.args.own.now c.turn-turn.result c.args.arp.now c.c.inside.state c.c.invariant.state))
