-- The settings of a client, without where they lie in memory.
use Rattle.std.specs.Prelude.{ℕ, List}
use Rattle.net_types.specs.declared.address.Net4.{Net4}
use Rattle.v4_message.specs.Requests.{AskContent, ask_content}
use Rattle.v4_client.specs.declared.setup.Set4.{Set4}
use Rattle.v4_client.specs.declared.setup.Site4.{Site4}

pub record SettingsContent : Type 0 where
  pub site : Site4
  pub ask : AskContent
  pub required : List ℕ
  pub refused : List ℕ
  pub blacklist : List Net4

abbrev pub site_of : Set4 → Site4
site_of set = record { iface = set.iface; flags = set.flags; times = set.times }

abbrev pub settings_content : Set4 → SettingsContent
settings_content set = record {
  site = site_of set;
  ask = ask_content set.ask;
  required = set.required.items;
  refused = set.refused.items;
  blacklist = set.blacklist.items;
}
