use Rattle.std.proofs.Common.{◌∙◌, refl, sym, ap}
use Rattle.std.specs.List.{filter_map}
use Rattle.probe_table.specs.Table.{left_of}
use Rattle.probe_table.specs.Targets.{probe_of}
use Rattle.probe_table.specs.declared.table.TableTurn.{TableTurn}
use Rattle.probe_table.proofs.Standing.{Meets, rests_so, turned_so}
use Rattle.probe_table.proofs.table.ProbeTable.turned.Goals as goal

pub returns-then-rests : goal.returns-then-rests
returns-then-rests c =
    let turn : TableTurn = record {
      moment = c.args.entry.now.moment;
      own = c.deref-2.result;
      arp = c.arp_on.result;
      calm = c.args.calm;
      targets = c.deref-3.result;
    } in
    let meets : Meets c.args.site.now c.args.entry.now c.args.calm turn = record {
      moment = refl;
      own = c.deref-2.ensures.value;
      arp = c.arp_on.ensures;
      calms = refl;
      targets = c.deref-3.ensures.value ∙ c.in_ok-targets.ensures ∙ ap (filter_map (probe_of c.args.site.now)) c.deref.ensures.value;
    } in
    rests_so c.args.site.now c.args.entry.now c.args.calm turn meets c.args.self (sym c.rests.ensures ∙ c.if-rests.true)

pub returns : goal.returns
returns c =
    let turn : TableTurn = record {
      moment = c.args.entry.now.moment;
      own = c.deref-2.result;
      arp = c.arp_on.result;
      calm = c.args.calm;
      targets = c.deref-3.result;
    } in
    let meets : Meets c.args.site.now c.args.entry.now c.args.calm turn = record {
      moment = refl;
      own = c.deref-2.ensures.value;
      arp = c.arp_on.ensures;
      calms = refl;
      targets = c.deref-3.ensures.value ∙ c.in_ok-targets.ensures ∙ ap (filter_map (probe_of c.args.site.now)) c.deref.ensures.value;
    } in
    turned_so c.args.site.now c.args.entry.now c.args.calm turn meets c.args.self (record { probings = c.in_ok-probings.probings })
    c.in_ok-all.all.items c.in_ok-all.ensures
    (c.in_ok-probings.ensures ∙ ap (filter_map (left_of turn)) c.deref-4.ensures.value)
