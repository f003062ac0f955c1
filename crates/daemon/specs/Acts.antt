-- A step of the client and what is known of the outside, as the code has them.
use Rattle.std.specs.Prelude.{ℕ, List, [], map, Option}
use Rattle.world.specs.declared.rows.HostRow.{HostRow}
use Rattle.world.specs.HookCalls.{job_of}
use Rattle.client_core.specs.IfaceMachines.Outcomes.{sends_in}
use Rattle.settings.specs.declared.interfaces.Managed.{Managed}
use Rattle.client_model.specs.Clients.{ClientStep, rows_of}
use Rattle.device_calls.specs.Does.{Does}
use Rattle.device_calls.specs.Fronts.{HasBegun}
use Rattle.device_calls.specs.Worlds.{Seen}
use Rattle.turn_model.specs.Turns as model
use Rattle.turn_model.specs.Turns.{acting}
use Rattle.daemon.specs.declared.acts.Outlook.{Outlook}
use Rattle.daemon.specs.declared.acts.Step.{Step}
use Rattle.daemon.specs.declared.lives.Life.{Life}
use Rattle.daemon.specs.Lives.{life_of}
use Rattle.life_asks.specs.Tables.{WasKnown}

-- where these rows of the host were known
abbrev pub outlook_of : Outlook → (known : Option (List HostRow)) → model.Outlook
outlook_of outlook known = record { known = known; files = outlook.files; hooks = outlook.hooks }

-- (no question comes of the news)
abbrev pub step_of : Step → ClientStep
step_of step =
    record { client = step.core; sends = sends_in step.outs; reports = []; jobs = map job_of step.jobs.items }

-- what a step asks was done, whichever rows were known before it
abbrev pub ActsAs : List Managed → Outlook → Step → Life → (old new : Seen) → (text_old text_new : List ℕ) → Type 0
ActsAs managed outlook step life old new text_old text_new =
    (known : Option (List HostRow)) → WasKnown outlook.pending (rows_of step.core) known
    → Does (acting managed (outlook_of outlook known) (step_of step) outlook.moment outlook.stop)
    (life_of life) old new text_old text_new

-- it was begun, whichever rows were known before it
abbrev pub BeginsActing : List Managed → Outlook → Step → (old new : Seen) → Type 0
BeginsActing managed outlook step old new =
    (known : Option (List HostRow)) → WasKnown outlook.pending (rows_of step.core) known
    → HasBegun (acting managed (outlook_of outlook known) (step_of step) outlook.moment outlook.stop) old new
