use Rattle.std.specs.Prelude.{◌≡◌, ℕ, false, if◌then◌else◌}
use Rattle.std.proofs.Common.{◌∙◌, ap}
use Rattle.machine.specs.Moment.{is_due, moment_of, not_due-moment_of}
use Rattle.arp_acd.specs.declared.detection.Acd.{Acd}
use Rattle.arp_acd.specs.declared.detection.AcdSays.{AcdSays}
use Rattle.arp_acd.specs.Table.{AcdStep, IsStep, IsQuiet, stays, acd_tick, tick_row, due_of}

-- A tick before the due moment changes nothing and says nothing.
early : (acd : Acd) (at salt : ℕ) → is_due (due_of acd.phase) at ≡ false → acd_tick acd at salt ≡ stays acd
early acd at salt h = ap (λ b. if b then tick_row acd acd.phase at salt else stays acd) h

pub tick_rests : (old new : Acd) (at salt : ℕ) (says : AcdSays) → is_due (due_of old.phase) at ≡ false
    → IsStep (acd_tick old (moment_of at) salt) new says → (new ≡ old) × IsQuiet says
tick_rests old new at salt says h step =
    let e : acd_tick old (moment_of at) salt ≡ stays old =
    early old (moment_of at) salt (not_due-moment_of (due_of old.phase) at h) in
    (step.goes_on ∙ ap (λ (s : AcdStep). s.acd) e, step.answers ∙ ap (λ (s : AcdStep). s.says) e)
