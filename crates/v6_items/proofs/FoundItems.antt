-- The items of an IA that is found in memory.
use Rattle.std.proofs.Common.{◌≡◌, ℕ, List, [], ◌∷◌, Option, Some, None, find, refl}
use Rattle.v6_options.specs.declared.ia.IaKind.{IaKind}
use Rattle.lease6_text.specs.declared.lease.IaLease.{IaLease}
use Rattle.lease6_text.specs.declared.lease.Item6.{Item6}
use Rattle.lease6_text.specs.Leases.{ia_content, ias_content}
use Rattle.lease6_text.specs.LineParts.{is_ia}
use Rattle.net_types.proofs.CaseLaws.{split}
use Rattle.v6_items.specs.Items.{items_at}

abbrev pub items_in_memory : Option IaLease → List Item6
items_in_memory None = []
items_in_memory (Some ia) = ia.items.items

pub items_found : (kind : IaKind) (iaid : ℕ) (ias : List IaLease)
    → items_at kind iaid (ias_content ias) ≡ items_in_memory (find (λ ia. is_ia (kind, iaid) (ia_content ia)) ias)
items_found kind iaid [] = refl
items_found kind iaid (ia ∷ ias) =
    split (is_ia (kind, iaid) (ia_content ia)) (λ e. rw e refl) (λ e. rw e (items_found kind iaid ias))
