use Rattle.std.proofs.Common.{◌≡◌, ◌+◌, ◌||◌, ℕ, sym, ap, subst, ◌∙◌}
use Rattle.client_core.specs.declared.places.Places.{Places}
use Rattle.client_core.specs.Places.{has}
use Rattle.client_core.specs.Resting.{Finds}
use Rattle.client_core.proofs.Calling.{one_in, one_out, up_to}
use Rattle.client_core.proofs.resting.unsent_places.Goals as goal
use Rattle.client_core.proofs.resting.unsent_places.Goals.{then-contains, else-contains}

pub indices-preserved : goal.indices-preserved
indices-preserved c =
    elim c.if-contains.branch [
      | then-contains w ↦
          subst (λ (all : Places). Finds (up_to c.args.unsent (c.indices.before + 1)) c.args.named.now all) (sym w.places-is)
          (one_in c.args.named.now c.args.unsent c.indices.before c.indices.places w.or-places.result c.indices.invariant
          (sym c.contains.ensures ∙ w.if-contains.true)
          (λ (place : ℕ).
          w.or-places.ensures place ∙ ap (λ (more : Places). has c.indices.places place || has more place) w.places.ensures))
      | else-contains w ↦
          subst (λ (all : Places). Finds (up_to c.args.unsent (c.indices.before + 1)) c.args.named.now all) (sym w.places-is)
          (one_out c.args.named.now c.args.unsent c.indices.before c.indices.places c.indices.places c.indices.invariant
          (sym c.contains.ensures ∙ w.if-contains.false))
    ]
