-- Why a static address may be held.
use Rattle.std.specs.Prelude.{◌≡◌, ◌⊎◌, true, false, List, Some}
use Rattle.net_types.specs.declared.address.Net.{Net}
use Rattle.net_types.specs.declared.address.Net.TheVariants.{V4, V6}
use Rattle.net_types.specs.declared.address.Net4.{Net4}
use Rattle.net_types.specs.declared.address.Net6.{Net6}
use Rattle.settings.specs.declared.interfaces.IfConf.{IfConf}
use Rattle.evidence_words.specs.Entries.{Entry}
use Rattle.evidence_words.specs.Inputs.{Site, has_carrier, is_stopped}

-- it is configured so, as an IPv4 address
pub record IsStatic4 (conf : IfConf) (net : Net) : Type 0 where
  pub address : Net4
  pub configured : conf.address ≡ Some address
  pub gives : net ≡ V4 address

-- or as one of IPv6
pub record IsStatic6 (conf : IfConf) (net : Net) : Type 0 where
  pub address : Net6
  pub configured : conf.address6 ≡ Some address
  pub gives : net ≡ V6 address

-- The static address of the interface is this very one, its carrier is up, and no stop came.
pub record StaticBasis (site : Site) (net : Net) (past : List Entry) : Type 0 where
  pub is_static : IsStatic4 site.managed.conf net ⊎ IsStatic6 site.managed.conf net
  pub up : has_carrier site past ≡ true
  pub running : is_stopped past ≡ false
