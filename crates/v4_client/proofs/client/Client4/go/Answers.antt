use Rattle.std.proofs.Common.{sym, subst}
use Rattle.v4_client.specs.Clients.{ClientContent, kept_terms}
use Rattle.v4_client.specs.Sound.{IsSoundStep}
use Rattle.v4_client.proofs.SoundClients.{went_sound}
use Rattle.v4_client.proofs.client.Client4.go.Goals as goal

pub invariant_of-self-then-step : goal.invariant_of-self-then-step
invariant_of-self-then-step c =
    let goes = subst (λ (v : ClientContent). IsSoundStep (kept_terms v) v.state c.args.step) (sym c.self.view_is) c.requires in
    rw (c.in_ok-old.ensures.kept, c.in_ok-old.ensures.fresh) (went_sound _ c.args.step _ c.self.invariant goes)

pub invariant_of-self-else-step : goal.invariant_of-self-else-step
invariant_of-self-else-step c =
    let goes = subst (λ (v : ClientContent). IsSoundStep (kept_terms v) v.state c.args.step) (sym c.self.view_is) c.requires in
    rw (c.in_ok-old.ensures.kept, c.in_ok-old.ensures.fresh) (went_sound _ c.args.step _ c.self.invariant goes)
