use Rattle.std.proofs.Common.{sym, ◌∙◌}
use Rattle.iface_core.proofs.ShareAddresses.{shared_is_subnet}
use Rattle.client_core.proofs.share_rows.push_share.Goals as goal

pub push_subnet-requires-clause-subnet : goal.push_subnet-requires-clause-subnet
push_subnet-requires-clause-subnet c =
    shared_is_subnet c.args.prefix c.args.share.now.share c.in-Some.net c.requires.share (sym c.in-Some.is ∙ c.subnet.ensures)
