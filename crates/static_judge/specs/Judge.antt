-- What a judge of static addresses keeps of an interface, and what it tells.
use Rattle.std.specs.Prelude.{◌≡◌, ◌↔◌, Bool, true, false, not, ◌&&◌, ◌==◌, List, Option, Some, None}
use Rattle.net_types.specs.declared.address.Net.{Net}
use Rattle.net_types.specs.declared.address.Net.TheVariants.{V4, V6}
use Rattle.net_types.specs.declared.address.Net4.{Net4}
use Rattle.net_types.specs.declared.address.Net6.{Net6}
use Rattle.settings.specs.declared.interfaces.IfConf.{IfConf}
use Rattle.audit_words.specs.EvidenceWords.Entries.{Entry}
use Rattle.audit_words.specs.EvidenceWords.Inputs.{Site, has_carrier, is_stopped}
use Rattle.evidence.specs.StaticBasis.{StaticBasis}
use Rattle.static_judge.specs.declared.judge.StaticJudge.{StaticJudge}

abbrev pub is_same4 : Option Net4 → Net4 → Bool
is_same4 None net = false
is_same4 (Some own) net = (own.ip.number == net.ip.number) && (own.len == net.len)

abbrev pub is_same6 : Option Net6 → Net6 → Bool
is_same6 None net = false
is_same6 (Some own) net = (own.ip.number == net.ip.number) && (own.len == net.len)

-- whether an address is configured as the static one of its family
abbrev pub is_configured : IfConf → Net → Bool
is_configured conf (V4 net) = is_same4 conf.address net
is_configured conf (V6 net) = is_same6 conf.address6 net

-- The judge holds whether the interface has carrier, and whether the daemon was told to stop, after some turns.
pub record Tells (judge : StaticJudge) (site : Site) (past : List Entry) : Type 0 where
  pub up : judge.up ≡ has_carrier site past
  pub stopped : judge.stopped ≡ is_stopped past

-- whether an address stands as a static one
abbrev pub gives_in : Site → Net → (past : List Entry) → Bool
gives_in site net past = has_carrier site past && not (is_stopped past) && is_configured site.managed.conf net

-- That is so exactly where it has its basis.
abbrev pub StaticsHaveBases : Type 0
StaticsHaveBases = (site : Site) (net : Net) (past : List Entry)
    → (gives_in site net past ≡ true) ↔ StaticBasis site net past
