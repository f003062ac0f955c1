-- A tick before the due moment changes nothing and says nothing.
use Rattle.std.specs.Prelude.{◌≡◌, ℕ, true, false, Result, Ok, Err, IfOk}
use Rattle.net_types.specs.declared.fault.NoMemory.{NoMemory}
use Rattle.machine.specs.Moment.{is_due, moment_of, not_due-moment_of}
use Rattle.v6_client.specs.declared.client.Out6.{Out6}
use Rattle.v6_client.specs.Calls.{IsTicked, due_of}
use Rattle.v6_client.specs.Clients.{ClientContent}
use Rattle.v6_client.specs.Moves.{IsQuiet, out_content}

abbrev pub IsQuietAnswer : Result Out6 NoMemory → Type 0
IsQuietAnswer (Ok out) = IsQuiet (out_content out)
IsQuietAnswer (Err fault) = ⊥

-- where it isn't due nothing changes; where it is, what is over goes, and the client goes a step of the table
pub record Ticks (old : ClientContent) (at salt : ℕ) (new : ClientContent)
    (answer : Result Out6 NoMemory) : Type 0 where
  pub rests : is_due (due_of old) (moment_of at) ≡ false → (new ≡ old) × IsQuietAnswer answer
  pub goes : is_due (due_of old) (moment_of at) ≡ true
      → IfOk answer (λ out. IsTicked (moment_of at) salt old new (out_content out))

pub tick_rests : (old new : ClientContent) (at salt : ℕ) (answer : Result Out6 NoMemory)
    → is_due (due_of old) at ≡ false
    → Ticks old at salt new answer → (new ≡ old) × IsQuietAnswer answer
tick_rests old new at salt answer h ticks = ticks.rests (not_due-moment_of (due_of old) at h)
