use Rattle.std.proofs.Common.{◌≡◌, ◌∷◌, [], ◌++◌, List, ℕ, sym, ap, ◌∙◌, map, get_or, take}
use Rattle.std.proofs.lemmas.List.{map-append, take_more}
use Rattle.settings.specs.declared.interfaces.Managed.{Managed}
use Rattle.audit_sites.proofs.managing.numbers_of.Goals as goal

pub loop-m-preserved : goal.loop-m-preserved
loop-m-preserved c =
    let at = c.loop-m in
    c.in_ok-push.ensures.items ∙ ap (λ (all : List ℕ). all ++ c.m-item.result.spec.index.number ∷ []) at.invariant
    ∙ ap (λ (m : Managed). map (λ m. m.spec.index.number) (take at.m-index c.args.all.now) ++ m.spec.index.number ∷ []) c.m-item.is
    ∙ sym (map-append (λ (m : Managed). m.spec.index.number) (take at.m-index c.args.all.now) (get_or c.args.all.now at.m-index c.m-item.result ∷ []))
    ∙ ap (map (λ (m : Managed). m.spec.index.number)) (sym (take_more c.args.all.now at.m-index c.m-item.result c.loop-m-test.true))
