-- What the calls say by relations, they give as functions.
use Rattle.std.proofs.Common.{◌≡◌, ℕ, Bool, true, false, cond, None, sym, ap, ◌∙◌}
use Rattle.machine.specs.Moment.{is_due, moment_of}
use Rattle.net_types.proofs.CaseLaws.{split}
use Rattle.v6_message.specs.declared.kind.ServerKind6.{ServerKind6}
use Rattle.v6_message.specs.declared.kind.ServerKind6.TheVariants.{Advertise, Reply}
use Rattle.v6_message.specs.Replies.{Content6}
use Rattle.v6_items.specs.declared.scope.Cause6.TheVariants.{Lapse}
use Rattle.v6_client.specs.Answers.{counts, learnt}
use Rattle.v6_client.specs.Calls.{IsAnswered, IsTicked, carried_by, carrier_step, dates_in, due_of, rebind_step, release_step}
use Rattle.v6_client.specs.Clients.{ClientContent, turn_of}
use Rattle.v6_client.specs.Moves.{IsQuiet, OutContent, lapsed, out_content, parting_at}
use Rattle.v6_client.specs.RunLaws.{CarriersRun, DuplicatesRun, MessagesRun, RebindsRun, ReleasesRun, StepsRun, TicksRun, TicksWait, turned}
use Rattle.v6_client.specs.Runs.{Turned6, answered, carrier_turned, contested_turned, hears_turned, rebind_turned, release_turned, rested, stepped, tick_turned}
use Rattle.v6_client.specs.Ticks.{tick_row}

pub step_runs : StepsRun
step_runs step fresh old new out goes = λ i. turned (goes.goes_on i) (goes.answers i)

rest_runs : (old new : ClientContent) (out : OutContent) → new ≡ old → IsQuiet out → turned new out ≡ rested old
rest_runs old new out same is = λ i. turned (same i) (record { say = is.no_message i; news = is.no_news i; old = is.no_lease i })

-- what a choice is in the case that the test tells
yes_runs : (b : Bool) (one other : Turned6) → b ≡ true → cond b one other ≡ one
yes_runs b one other e = ap (λ t. cond t one other) e

no_runs : (b : Bool) (one other : Turned6) → b ≡ false → cond b one other ≡ other
no_runs b one other e = ap (λ t. cond t one other) e

-- ---- a tick

-- a tick whose moment has come
abbrev due_turned : (at salt : ℕ) → ClientContent → Turned6
due_turned at salt c =
    stepped (tick_row (turn_of at salt c) (dates_in c) (parting_at (Lapse at) c) c.state) None (lapsed at (parting_at (Lapse at) c) c)

ticked_runs : (old new : ClientContent) (at salt : ℕ) (out : OutContent) → IsTicked at salt old new out
    → turned new out ≡ due_turned at salt old
ticked_runs old new at salt out goes = step_runs _ None _ new out goes

pub tick_runs : TicksRun
unfolding tick_turned
tick_runs old new at salt out ticks =
    split (is_due (due_of old) (moment_of at))
    (λ due. ticked_runs old new (moment_of at) salt (out_content out) (ticks.goes due)
    ∙ sym (yes_runs (is_due (due_of old) (moment_of at)) (due_turned (moment_of at) salt old) (rested old) due))
    (λ waits. rest_runs old new (out_content out) (ticks.rests waits).0 (ticks.rests waits).1
    ∙ sym (no_runs (is_due (due_of old) (moment_of at)) (due_turned (moment_of at) salt old) (rested old) waits))

-- before its moment a tick is none
pub tick_waits : TicksWait
unfolding tick_turned
tick_waits c at salt waits = no_runs (is_due (due_of c) at) (due_turned at salt c) (rested c) waits

-- ---- a message

answer_runs : (kind : ServerKind6) (old new : ClientContent) (message : Content6) (at salt : ℕ) (out : OutContent)
    → IsAnswered at salt message kind old new out → turned new out ≡ answered at salt message kind old
answer_runs Advertise old new message at salt out goes = step_runs _ None _ new out goes
answer_runs Reply old new message at salt out goes = step_runs _ _ old new out goes

pub hears_runs : MessagesRun
unfolding hears_turned
hears_runs old new message at salt out hears =
    let answer : Turned6 = answered at salt message message.kind (learnt message.sol_max old) in
    split (counts old message)
    (λ counted. answer_runs message.kind (learnt message.sol_max old) new message at salt out (hears.goes counted)
    ∙ sym (yes_runs (counts old message) answer (rested old) counted))
    (λ ignored. rest_runs old new out (hears.ignores ignored).0 (hears.ignores ignored).1
    ∙ sym (no_runs (counts old message) answer (rested old) ignored))

-- ---- the other inputs

pub carrier_runs : CarriersRun
unfolding carrier_turned
carrier_runs old new carrier at salt out goes = step_runs (carrier_step carrier at salt old) None (carried_by carrier at old) new out goes

pub contested_runs : DuplicatesRun
unfolding contested_turned
contested_runs old new address at salt out goes = step_runs _ None _ new out goes

pub release_runs : ReleasesRun
unfolding release_turned
release_runs old new tell at salt out goes = step_runs (release_step tell at salt old) None old new out goes

pub rebind_runs : RebindsRun
unfolding rebind_turned
rebind_runs old new at salt out goes = step_runs (rebind_step at salt old) None old new out goes
