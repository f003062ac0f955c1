use Rattle.std.proofs.Common.{ap, ◌∙◌, refl}
use Rattle.turn_model.specs.KeptFiles.{KeptFile, wanted_in, is_settled, keeping_one}
use Rattle.life_files.specs.Files.{content_of}
use Rattle.life_files.proofs.KeepingSteps.{keeps_still, keeps_done}
use Rattle.device_calls.proofs.Begun.{begun_none}
use Rattle.life_devices.proofs.Begins.{on_err}
use Rattle.life_files.proofs.BegunFiles.{kept_begun}
use Rattle.life_files.proofs.keeping.KeptFile.keep.Goals as goal

pub returns-then-is_settled-clause-does : goal.returns-then-is_settled-clause-does
returns-then-is_settled-clause-does g c =
    keeps_still _ (content_of c.in_ok-wanted.wanted) c.args.self.now c.is_settled.result _ _
    (c.in_ok-wanted.ensures ∙ ap (λ (file : KeptFile). wanted_in c.args.core.now.ifaces file.keeps) c.self.view_is)
    (c.is_settled.ensures ∙ ap (λ (file : KeptFile). is_settled file.keeps file.known (content_of c.in_ok-wanted.wanted)) c.self.view_is) c.if-is_settled.true

pub returns-clause-does : goal.returns-clause-does
returns-clause-does g c =
    keeps_done _ (content_of c.in_ok-wanted.wanted) c.args.self.now _ c.deref.result.now c.is_settled.result c.in_ok-done.done _ _ _ _
    (c.in_ok-wanted.ensures ∙ ap (λ (file : KeptFile). wanted_in c.args.core.now.ifaces file.keeps) c.self.view_is)
    (c.deref.ensures ∙ ap (λ (file : KeptFile). file.name) c.self.view_is)
    (c.is_settled.ensures ∙ ap (λ (file : KeptFile). is_settled file.keeps file.known (content_of c.in_ok-wanted.wanted)) c.self.view_is) c.if-is_settled.false
    c.in_ok-done.ensures.does (λ i. record (c.self.view_is i) { known = c.known_after.ensures i })

pub returns-in_err-wanted-clause-begun : goal.returns-in_err-wanted-clause-begun
returns-in_err-wanted-clause-begun g c =
    on_err c.from_residual.result (begun_none (keeping_one (wanted_in c.args.core.now.ifaces c.args.self.now.keeps) c.args.self.now) _ _ refl)

pub returns-in_err-done-clause-begun : goal.returns-in_err-done-clause-begun
returns-in_err-done-clause-begun g c =
    on_err c.from_residual-in_err-done.result
    (kept_begun _ (content_of c.in_ok-wanted.wanted) c.args.self.now c.deref.result.now c.is_settled.result _ _
    (c.in_ok-wanted.ensures ∙ ap (λ (file : KeptFile). wanted_in c.args.core.now.ifaces file.keeps) c.self.view_is)
    (c.deref.ensures ∙ ap (λ (file : KeptFile). file.name) c.self.view_is)
    (c.is_settled.ensures ∙ ap (λ (file : KeptFile). is_settled file.keeps file.known (content_of c.in_ok-wanted.wanted)) c.self.view_is) c.if-is_settled.false
    c.in_err-done.ensures.begun)
