use Rattle.std.proofs.Common.{◌≡◌, ◌∙◌, ℕ, sym, ap, subst, true, false, Result, Ok, Err, OnErr, arith}
use Rattle.net_types.specs.Moments.{IsMoment}
use Rattle.net_types.specs.declared.fault.NoMemory.{NoMemory}
use Rattle.v4_client.specs.declared.client.Out4.{Out4}
use Rattle.v4_client.specs.declared.states.Answer4.{Answer4}
use Rattle.v4_client.specs.declared.states.State4.{State4}
use Rattle.v4_client.specs.declared.states.Step4.{Step4}
use Rattle.v4_client.specs.declared.states.Turn4.{Turn4}
use Rattle.machine.specs.Moment.{moment_of}
use Rattle.v4_client.specs.Answers.{answer_of}
use Rattle.v4_client.specs.Hearing.{heard_row}
use Rattle.v4_client.specs.Clients.{ClientContent, is_held, kept_terms}
use Rattle.v4_client.specs.Moves.{is_grant, takes_room}
use Rattle.v4_client.specs.Messages.{Arrival, arrival_from}
use Rattle.v4_client.specs.Settings.{SettingsContent}
use Rattle.v4_client.proofs.Foreign.{grant_awaited}
use Rattle.v4_client.specs.Sound.{IsSound, IsSoundStep, FitsAnswer}
use Rattle.v4_client.proofs.Room.{heard_room}
use Rattle.v4_client.proofs.SoundAnswers.{answer_fits}
use Rattle.v4_client.proofs.SoundClients.{early}
use Rattle.v4_client.proofs.SoundSteps.{heard_sound}
use Rattle.v4_client.proofs.client.heard4.Goals as goal

pub go-requires : goal.go-requires
go-requires c =
    let brought : c.args.c.now.state ≡ c.bring.new.self.state =
    sym (ap (λ (v : ClientContent). v.state) c.in_ok-bring.ensures.values) in
    let same : c.c.inside.state ≡ c.bring.new.self.state = ap (λ (v : ClientContent). v.state) c.c.view_is ∙ brought in
    let sound : IsSound c.args.c.now = subst IsSound c.c.view_is c.c.invariant in
    let clamped : IsMoment c.clamp_moment.result = let told = c.clamp_moment.ensures in omega arith in
    let good : FitsAnswer c.answer_to-answer.result =
    rw c.answer_to-answer.ensures
    (answer_fits c.args.c.now.settings (arrival_from c.args.from c.clamp_moment.result c.args.msg.now) c.args.c.now.state clamped sound.state) in
    let at : IsMoment c.turn.result.at =
    early c.turn.result c.args.at c.clamp_moment.result c.args.salt c.args.c.now c.clamp_moment.ensures c.turn.ensures in
    subst (λ (s : State4). IsSoundStep (kept_terms c.bring.new.self) s c.heard_row-step.result) same
    (rw c.heard_row-step.ensures
    (heard_sound (kept_terms c.bring.new.self) c.turn.result c.answer_to-answer.result c.c.inside.state at c.c.invariant.state good))

-- the step takes no room
gone : (P Q : Type 0) (r : Result Out4 NoMemory) → (P → ⊥) → OnErr r P → OnErr r Q
gone P Q (Ok out) none told = tt
gone P Q (Err fault) none told = absurd (none told)

roomless : (turn : Turn4) (said : Answer4) (state : State4) (step : Step4) (c : ClientContent) → step ≡ heard_row turn said state
    → takes_room step c ≡ true → ⊥
roomless turn said state step c goes told =
    let no : false ≡ true =
    sym (heard_room turn said state (is_held c.state)) ∙ (sym (ap (λ (s : Step4). takes_room s c) goes) ∙ told) in
    cc

-- an ACK that is taken was awaited
taken : (P : Type 0) (r : Result Out4 NoMemory) → P → OnErr r P
taken P (Ok out) holds = tt
taken P (Err fault) holds = holds

pub returns-in_err-bring-clause-awaited : goal.returns-in_err-bring-clause-awaited
returns-in_err-bring-clause-awaited c =
    let settings : SettingsContent = c.args.c.now.settings in
    let heard : (ℕ → Arrival) = λ at. arrival_from c.args.from at c.args.msg.now in
    let grants : is_grant (answer_of settings (heard (moment_of c.args.at)) c.args.c.now.state) ≡ true =
    ap (λ (at : ℕ). is_grant (answer_of settings (heard at) c.args.c.now.state)) (sym c.clamp_moment.ensures)
    ∙ ap is_grant (sym c.answer_to-answer.ensures) ∙ c.in_err-bring.ensures.memory in
    taken _ c.from_residual.result (grant_awaited settings (heard (moment_of c.args.at)) c.args.c.now.state grants)

pub returns-clause-awaited : goal.returns-clause-awaited
returns-clause-awaited c =
    gone _ _ c.go.result
    (roomless c.turn.result c.answer_to-answer.result c.c.inside.state c.heard_row-step.result c.bring.new.self c.heard_row-step.ensures)
    c.go.ensures.memory

pub returns-clause-memory : goal.returns-clause-memory
returns-clause-memory c =
    gone _ _ c.go.result
    (roomless c.turn.result c.answer_to-answer.result c.c.inside.state c.heard_row-step.result c.bring.new.self c.heard_row-step.ensures)
    c.go.ensures.memory
