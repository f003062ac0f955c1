use Rattle.std.proofs.Common.{◌≡◌, ℕ, true, OnErr, refl, ap, subst}
use Rattle.net_types.specs.Moments.{IsMoment}
use Rattle.machine.specs.Moment.{moment_of}
use Rattle.v4_client.specs.declared.states.Carrier.{Carrier}
use Rattle.v4_client.specs.declared.states.Carrier.TheVariants.{Up, Down}
use Rattle.v4_client.specs.declared.states.State4.{State4}
use Rattle.v4_client.specs.declared.states.Step4.{Step4}
use Rattle.v4_client.specs.Calls.{carrier_step}
use Rattle.v4_client.specs.Clients.{ClientContent, kept_terms, turn_of}
use Rattle.v4_client.specs.Inputs.{begin_row, off_row}
use Rattle.v4_client.specs.Moves.{takes_room}
use Rattle.v4_client.specs.Sound.{IsSound, IsSoundStep, FitsBegin}
use Rattle.v4_client.proofs.SoundClients.{begin_fits, early}
use Rattle.v4_client.proofs.SoundSteps.{begin_sound, off_sound}
use Rattle.v4_client.proofs.client.carrier4.Goals as goal
use Rattle.v4_client.proofs.client.carrier4.Goals.{in-Up, in-Down}

pub go-requires : goal.go-requires
go-requires c =
    let same : c.c.inside.state ≡ c.args.c.now.state = ap (λ (v : ClientContent). v.state) c.c.view_is in
    let sound : IsSound c.args.c.now = subst IsSound c.c.view_is c.c.invariant in
    let at : IsMoment c.turn-turn.result.at =
    early c.turn-turn.result c.args.at c.clamp_moment.result c.args.salt c.args.c.now c.clamp_moment.ensures c.turn-turn.ensures in
    subst (λ (s : State4). IsSoundStep (kept_terms c.args.c.now) s c.match-carrier.step) same
    (elim c.match-carrier.branch [
      | in-Up w ↦
          let begin : FitsBegin (kept_terms c.args.c.now) = begin_fits c.args.c.now.kept sound.kept in
          rw (w.step-is, w.begin_row-step.ensures, w.kept_terms.ensures.value)
          (begin_sound (kept_terms c.args.c.now) c.turn-turn.result c.c.inside.may_stand c.c.inside.state at begin c.c.invariant.state)
      | in-Down w ↦ rw (w.step-is, w.off_row-step.ensures) (off_sound (kept_terms c.args.c.now) c.turn-turn.result c.c.inside.state)
    ])

by_up : (carrier : Carrier) (at salt : ℕ) (c : ClientContent) (step : Step4) → carrier ≡ Up
    → step ≡ begin_row (turn_of at salt c) c.may_stand (kept_terms c) c.state → step ≡ carrier_step carrier at salt c
by_up Up at salt c step is e = e
by_up Down at salt c step is e = absurd cc

by_down : (carrier : Carrier) (at salt : ℕ) (c : ClientContent) (step : Step4) → carrier ≡ Down → step ≡ off_row (turn_of at salt c)
    → step ≡ carrier_step carrier at salt c
by_down Up at salt c step is e = absurd cc
by_down Down at salt c step is e = e

pub returns-clause-memory : goal.returns-clause-memory
returns-clause-memory c =
    let state : c.c.inside.state ≡ c.args.c.now.state = ap (λ (v : ClientContent). v.state) c.c.view_is in
    let may_stand : c.c.inside.may_stand ≡ c.args.c.now.may_stand = ap (λ (v : ClientContent). v.may_stand) c.c.view_is in
    let step : c.match-carrier.step ≡ carrier_step c.args.carrier (moment_of c.args.at) c.args.salt c.args.c.now =
    elim c.match-carrier.branch [
      | in-Up w ↦
          by_up c.args.carrier (moment_of c.args.at) c.args.salt c.args.c.now c.match-carrier.step w.in-Up.is
          (rw (w.step-is, w.begin_row-step.ensures, w.kept_terms.ensures.value, c.turn-turn.ensures, c.clamp_moment.ensures, state, may_stand) refl)
      | in-Down w ↦
          by_down c.args.carrier (moment_of c.args.at) c.args.salt c.args.c.now c.match-carrier.step w.in-Down.is
          (rw (w.step-is, w.off_row-step.ensures, c.turn-turn.ensures) refl)
    ] in
    subst (λ (s : Step4). OnErr c.go.result (takes_room s c.args.c.now ≡ true)) step c.go.ensures.memory
