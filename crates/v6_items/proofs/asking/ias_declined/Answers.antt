use Rattle.std.proofs.Common.{◌≡◌, ◌<◌, ◌++◌, ◌∙◌, ap, length, map, arith}
use Rattle.v6_message.specs.Requests.{asked_content}
use Rattle.lease6_text.specs.Leases.{ias_content}
use Rattle.v6_items.specs.Asking.{ia_declined, named_with, nets_gone}
use Rattle.v6_items.specs.Items.{items_at}
use Rattle.v6_items.proofs.GrownLists.{pieces_of_contents}
use Rattle.v6_items.proofs.asking.ias_declined.Goals as goal

pub stood-preserved : goal.stood-preserved
stood-preserved c =
    let within : c.stood.ia-index < length c.args.stood.now = omega arith in
    let pushed : map asked_content c.push_named.new.ias.items
    ≡ map asked_content c.stood.all.items ++ ia_declined (ias_content c.args.ias.now) (asked_content c.ia-item.result) =
    c.in_ok-push_named.ensures
    ∙ ap (λ nets. map asked_content c.stood.all.items ++ named_with c.ia-item.result.kind c.ia-item.result.iaid nets)
    (c.in_ok-nets.ensures.nets ∙ ap (λ items. nets_gone items c.deref.result.now) c.items_at.ensures
    ∙ ap (nets_gone (items_at c.ia-item.result.kind c.ia-item.result.iaid (ias_content c.args.ias.now))) c.deref.ensures.value) in
    pieces_of_contents (ia_declined (ias_content c.args.ias.now)) asked_content c.args.stood.now c.stood.ia-index c.ia-item.result
    _ _ within c.stood.invariant
    (pushed ∙ (λ i. map asked_content c.stood.all.items ++ ia_declined (ias_content c.args.ias.now) (asked_content (c.ia-item.is i))))
