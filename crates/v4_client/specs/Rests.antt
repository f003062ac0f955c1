-- A tick before the due moment changes nothing and says nothing.
use Rattle.std.specs.Prelude.{◌≡◌, ℕ, true, false, Result, Ok, Err, IfOk, OnErr}
use Rattle.net_types.specs.declared.fault.NoMemory.{NoMemory}
use Rattle.machine.specs.Moment.{is_due, moment_of, not_due-moment_of}
use Rattle.v4_client.specs.declared.client.Out4.{Out4}
use Rattle.v4_client.specs.Clients.{ClientContent, out_content, turn_of}
use Rattle.v4_client.specs.Moves.{IsStep4, IsQuiet, takes_room}
use Rattle.v4_client.specs.Ticks.{tick_row}
use Rattle.v4_client.specs.Due.{due_of}

abbrev pub IsQuietAnswer : Result Out4 NoMemory → Type 0
IsQuietAnswer (Ok out) = IsQuiet (out_content out)
IsQuietAnswer (Err fault) = ⊥

-- where it isn't due nothing changes; where it is, the client goes a step of the table, and wants memory where that
-- takes room
pub record Ticks (old : ClientContent) (at salt : ℕ) (new : ClientContent)
    (answer : Result Out4 NoMemory) : Type 0 where
  pub rests : is_due (due_of old.state) (moment_of at) ≡ false → (new ≡ old) × IsQuietAnswer answer
  pub goes : is_due (due_of old.state) (moment_of at) ≡ true
      → IfOk answer (λ out. IsStep4 (tick_row (turn_of (moment_of at) salt old) old.state) old new (out_content out))
  pub memory : is_due (due_of old.state) (moment_of at) ≡ true
      → OnErr answer (takes_room (tick_row (turn_of (moment_of at) salt old) old.state) old ≡ true)

pub tick_rests : (old new : ClientContent) (at salt : ℕ) (answer : Result Out4 NoMemory)
    → is_due (due_of old.state) at ≡ false
    → Ticks old at salt new answer → (new ≡ old) × IsQuietAnswer answer
tick_rests old new at salt answer h ticks = ticks.rests (not_due-moment_of (due_of old.state) at h)
