use Rattle.std.proofs.Common.{List, ap, subst, sym, ◌∙◌}
use Rattle.std.proofs.lemmas.Result.{IfOk-weaker}
use Rattle.client_model.specs.Clients.{Client}
use Rattle.client_model.specs.ResolverParts.{resolver_wanted, some_text}
use Rattle.resolver_text.specs.Parts.{PartContent, parts_content}
use Rattle.resolver_text.specs.ResolverText.{resolver_text}
use Rattle.client_core.specs.Running.{IsRunning}
use Rattle.client_core.proofs.ToldLaws.{text_told}
use Rattle.client_core.proofs.clients.resolver_wanted.Goals as goal

pub returns : goal.returns
returns c =
    IfOk-weaker c.parts_text.result _ _
    (λ text is. is
    ∙ ap (λ (parts : List PartContent). some_text (resolver_text parts))
    (ap parts_content c.deref-2.ensures.value ∙ (subst (IsRunning c.core.inside.ifaces.items) (sym c.deref.ensures) c.core.invariant).tells)
    ∙ text_told c.core.inside.ifaces.items ∙ ap (λ (client : Client). resolver_wanted client.ifaces) c.core.view_is)
    c.parts_text.ensures
