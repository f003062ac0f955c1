-- What a life asked up to a moment tells hooks exactly what the interfaces had: so do lives of whole turns, which ask that first.
use Rattle.std.proofs.Common.{List, flat_map}
use Rattle.std.specs.List.{AllByRecursion}
use Rattle.net_types.specs.declared.interface.IfSpec.{IfSpec}
use Rattle.settings.specs.Fitting.{AreManaged}
use Rattle.settings.specs.declared.interfaces.Managed.{Managed}
use Rattle.device_calls.specs.Calls.{Call}
use Rattle.turn_model.specs.LifeFronts.{FrontOfLife}
use Rattle.safe_texts.proofs.CutLives.{IsFrontOf, calls_all, life_front, lives_tell_safely}
use Rattle.safe_texts.specs.SafeCalls.{GivesBytes}
use Rattle.safe_texts.specs.SafeJobs.{job_in}
use Rattle.exact_texts.proofs.ExactLives.{calls_have_exact_jobs, life_calls_are_exact}
use Rattle.exact_texts.specs.ExactCalls.{LivesTellExactly}
use Rattle.exact_texts.specs.ExactJobs.{AreExactJobs}

jobs_exact : (managed : List Managed) (specs : List IfSpec) (calls : List Call) → AreManaged managed → FrontOfLife managed specs calls
    → AllByRecursion GivesBytes calls → AreExactJobs managed (flat_map job_in calls)
jobs_exact managed specs calls fit front bytes =
    let is : IsFrontOf managed specs calls = life_front managed specs calls front in
    calls_have_exact_jobs managed calls
    (calls_all managed specs calls is (λ (call : Call). AreExactJobs managed (job_in call)) (λ asked given. tt)
    (life_calls_are_exact managed specs is.opening is.mets fit is.opens is.turns (is.octets bytes)))

pub lives_tell_exactly : LivesTellExactly
lives_tell_exactly managed specs calls fit front =
    record { safe = lives_tell_safely managed specs calls fit front; exact = jobs_exact managed specs calls fit front }
