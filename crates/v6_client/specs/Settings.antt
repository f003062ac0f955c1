-- The settings of a client, without where they lie in memory.
use Rattle.std.specs.Prelude.{ℕ, List}
use Rattle.v6_items.specs.declared.asks.IaAsk.{IaAsk}
use Rattle.v6_client.specs.declared.setup.Set6.{Set6}
use Rattle.v6_client.specs.declared.setup.Site6.{Site6}

-- `duid` is the bytes of the client's DUID, and `asks` is what it asks for
pub record SettingsContent : Type 0 where
  pub site : Site6
  pub duid : List ℕ
  pub asks : List IaAsk

abbrev pub settings_content : Set6 → SettingsContent
settings_content set = record {
  site = record { iface = set.iface; flags = set.flags; rapid = set.rapid };
  duid = set.duid.bytes.items;
  asks = set.ias.items;
}
