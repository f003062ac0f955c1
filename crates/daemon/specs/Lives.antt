-- A life as the code has it.
use Rattle.std.specs.Prelude.{ℕ, ◌<◌, ◌^◌, ◌+◌, Bool, true, false, Option, Some, None}
use Rattle.client_model.specs.Clients.{rows_of}
use Rattle.turn_model.specs.Turns as model
use Rattle.daemon.specs.declared.lives.Life.{Life}
use Rattle.life_files.specs.Keeping.{AreKept}
use Rattle.life_asks.specs.Tables.{known_in}

abbrev pub life_of : Life → model.Life
life_of life =
    record {
      client = life.core;
      known = known_in life.table (rows_of life.core);
      files = life.files;
      hooks = life.hooks;
      now = life.moment;
      stop = life.stop;
      unsent = life.unsent;
    }

abbrev pub IsBelowEnd : Option ℕ → Type 0
IsBelowEnd None = Unit {0}
IsBelowEnd (Some at) = at < 10 ^ 15

-- its moments are below the end of time
pub record IsTimely (life : Life) : Type 0 where
  pub moment : life.moment < 10 ^ 15
  pub stop : IsBelowEnd life.stop

-- and its files hold what they are to hold, where that is known
pub record IsOrderly (life : Life) : Type 0 where
  pub timely : IsTimely life
  pub kept : AreKept life.core.ifaces life.files

abbrev pub retry_unless : Bool → ℕ → Option ℕ
retry_unless true now = None
retry_unless false now = Some (now + 1000)
