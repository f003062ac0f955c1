use Rattle.std.proofs.Common.{◌≡◌, ◌∙◌, Some, ap, arith}
use Rattle.net_types.specs.NameText.{name_at}
use Rattle.made_script.specs.MadeHosts.{own_name}
use Rattle.made_script.proofs.OwnNames.{own_read}
use Rattle.made_script.proofs.hosts.own_name.Goals as goal

pub unreachable-requires : goal.unreachable-requires
unreachable-requires c =
    let read : name_at c.as_bytes.result.now ≡ Some (own_name c.args.index) =
    ap name_at (c.as_bytes.ensures.value ∙ c.in_ok-text.ensures.ok) ∙ own_read c.args.index (omega arith) in
    cc

pub returns : goal.returns
returns c =
    let read : name_at c.as_bytes.result.now ≡ Some (own_name c.args.index) =
    ap name_at (c.as_bytes.ensures.value ∙ c.in_ok-text.ensures.ok) ∙ own_read c.args.index (omega arith) in
    cc
