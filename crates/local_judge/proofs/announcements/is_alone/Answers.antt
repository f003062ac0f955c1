use Rattle.std.proofs.Common.{◌∙◌, ap}
use Rattle.std.specs.List.{filter_map, list_all}
use Rattle.probe_table.specs.ByAddress.{is_addr}
use Rattle.local_judge.specs.Judge.{announcement_of}
use Rattle.local_judge.proofs.AnnouncedOnly.{announced_only}
use Rattle.local_judge.proofs.announcements.is_alone.Goals as goal

pub returns : goal.returns
returns c =
    let site = c.args.site.now in
    c.are_all.ensures
    ∙ ap (list_all (is_addr c.args.addr)) (c.deref-2.ensures.value ∙ c.in_ok-announced.ensures ∙ ap (filter_map (announcement_of site)) c.deref.ensures.value)
    ∙ announced_only site c.args.addr c.args.entry.now.offers.items
