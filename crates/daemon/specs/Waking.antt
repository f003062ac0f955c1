-- One wake of a life.
use Rattle.std.specs.Prelude.{ℕ, ◌≡◌, false, List, [], ◌∷◌, Option}
use Rattle.settings.specs.declared.interfaces.Managed.{Managed}
use Rattle.device_calls.specs.Worlds.{Seen}
use Rattle.turn_model.specs.Turns as model
use Rattle.turn_model.specs.Turns.{is_over}
use Rattle.turn_model.specs.Lives.{Met}
use Rattle.daemon.specs.declared.waking.Woken.{Woken}
use Rattle.daemon.specs.declared.waking.Woken.TheVariants.{On, Over}
use Rattle.daemon.specs.Lives.{life_of, IsOrderly}
use Rattle.life_devices.specs.Waits.{KnowsChild}
use Rattle.daemon.specs.Serving.{Goes, Ends}

-- a life goes on after exactly one turn
pub record GoesOn (managed : List Managed) (from : model.Life) (old : Seen) (out : Option (List ℕ)) (to : model.Life)
    (new : Seen) (out_to : Option (List ℕ)) : Type 0 where
  pub met : Met
  pub goes : Goes managed from old out to new out_to (met ∷ [])
  pub going : is_over to ≡ false

abbrev pub IsOneTurn : List Managed → model.Life → Seen → Option (List ℕ) → Woken → Seen → Option (List ℕ) → Type 0
IsOneTurn managed from old out (On life) new out_to =
    IsOrderly life × KnowsChild life.hooks new × GoesOn managed from old out (life_of life) new out_to
IsOneTurn managed from old out (Over life) new out_to =
    KnowsChild life.hooks new × Ends 1 managed from old out (life_of life) new out_to
