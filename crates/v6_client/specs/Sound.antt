-- What holds of every client: its leases are within the bounds of their texts.
use Rattle.std.specs.Prelude.{◌≤◌, IfSome}
use Rattle.net_types.specs.NameText.{FitsName}
use Rattle.lease6_text.specs.Bounds.{FitsLease6}
use Rattle.v6_items.specs.Bounds.{FitsAsks}
use Rattle.v6_client.specs.Clients.{ClientContent}

pub record IsSound (c : ClientContent) : Type 0 where
  pub name : FitsName c.settings.site.iface.name
  pub asks : FitsAsks c.settings.asks
  pub day : c.sol_max ≤ 86400000
  pub kept : IfSome c.kept FitsLease6
