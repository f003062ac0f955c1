use Rattle.std.proofs.Common.{◌≡◌, Bool, false, not, List, ◌∷◌, None, Option, sym, ap, ◌∙◌}
use Rattle.std.specs.Prelude.{if◌then◌else◌}
use Rattle.std.specs.List.{find}
use Rattle.world.specs.declared.rows.HostRow.{HostRow}
use Rattle.audit_turns.specs.AuditModel.Auditing.{is_just}
use Rattle.audit_turns.specs.Goings.{Going}
use Rattle.audit_seats.specs.Seats.{sites_of}
use Rattle.audit_seats.specs.Tests.{judged_by}
use Rattle.audit_seats.proofs.TestLaws.{rows_judged}
use Rattle.audit_seats.proofs.rows.first_lacking.Goals as goal

pub returns-else-going : goal.returns-else-going
returns-else-going g c = λ living goes sites tell.
    let judge = judged_by g.J.Judge.is_own g.J.Judge.is_shared in
    let failed : false ≡ living.failed = sym c.if-going.false ∙ ap (λ (h : Going). h.failed) goes in
    c.first_unjust.ensures (living.entry ∷ living.past) (ap (λ (h : Going). h.entry.moment) goes) tell
    ∙ rows_judged g.J.Judge.is_own g.J.Judge.is_shared living (sites_of c.args.watched.now) c.args.going.now.rows.keys sites
    ∙ ap (λ (rows : List HostRow). find (λ row. not (is_just judge living row)) rows) (ap (λ (h : Going). h.rows) goes)
    ∙ ap (λ (b : Bool). if b then None else find (λ row. not (is_just judge living row)) living.rows) failed
