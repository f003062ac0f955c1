use Rattle.std.proofs.Common.{◌∙◌, List, refl, subst, ap}
use Rattle.std.specs.List.{filter_map}
use Rattle.net_types.specs.declared.address.Ip4.{Ip4}
use Rattle.local_judge.specs.Judge.{AreEntered, announcement_of, left_of}
use Rattle.local_judge.specs.declared.judge.LocalTurn.{LocalTurn}
use Rattle.local_judge.proofs.Turns.{Meets, choices_go_on}
use Rattle.local_judge.proofs.judge.choices_after.Goals as goal

pub returns : goal.returns
returns c =
    let turn : LocalTurn = record {
      moment = c.args.entry.now.moment;
      own = c.deref-2.result;
      arp = c.arp_on.result;
      calm = c.args.calm;
      announced = c.deref-3.result;
      probed = c.args.probed;
    } in
    let meets : Meets c.args.site.now c.args.entry.now c.args.calm c.args.probed.now turn = record {
      moment = refl;
      own = c.deref-2.ensures.value;
      arp = c.arp_on.ensures;
      calms = refl;
      announced = c.deref-3.ensures.value ∙ c.in_ok-announced.ensures ∙ ap (filter_map (announcement_of c.args.site.now)) c.deref.ensures.value;
      probes = refl;
    } in
    choices_go_on c.args.site.now c.args.entry.now c.args.calm c.args.probed.now turn meets c.args.chosen.items c.in_ok-all.all.items
    c.in_ok-left.left.items c.in_ok-candidates.candidates.items c.in_ok-candidates.ensures
    (subst (λ (addrs : List Ip4). AreEntered c.args.chosen.items addrs c.in_ok-all.all.items) c.deref-4.ensures.value c.in_ok-all.ensures)
    (c.in_ok-left.ensures ∙ ap (filter_map (left_of turn)) c.deref-5.ensures.value)
