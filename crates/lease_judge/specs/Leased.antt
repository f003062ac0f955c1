-- Whether an address has its basis as a leased one, by what is kept turn by turn (RFC 2131, section 4.4.1). Moments are
-- in milliseconds since 1970.
use Rattle.std.specs.Prelude.{ℕ, Bool, false, ◌&&◌, ◌||◌, ◌==◌, List, Option, Some, None}
use Rattle.net_types.specs.declared.address.Ip4.{Ip4}
use Rattle.net_types.specs.declared.address.Net.{Net}
use Rattle.net_types.specs.declared.address.Net.TheVariants.{V4, V6}
use Rattle.net_types.specs.declared.address.Net4.{Net4}
use Rattle.v4_client.specs.Answers.{is_unexpired}
use Rattle.evidence_words.specs.Entries.{Entry}
use Rattle.evidence_words.specs.Inputs.{Site}
use Rattle.lease_judge.specs.Judge.{Granted, judge_in}
use Rattle.lease_judge.specs.ProbedTurns.{calm_in, probed_in}

abbrev pub is_same : Net4 → Net4 → Bool
is_same net other = (net.ip.number == other.ip.number) && (net.len == other.len)

-- whether a grant gives the address, and isn't over
abbrev pub grants : Option Granted → Net4 → (now : ℕ) → Bool
grants None net now = false
grants (Some granted) net now =
    is_same net granted.terms.net && is_unexpired granted.opened.exchange.first granted.terms.lease now

-- whether it was probed, unless none is to be
abbrev pub is_probed : Site → Ip4 → List Entry → Bool
is_probed site addr past = site.managed.conf.flags.noarp || probed_in (calm_in site) site addr past

abbrev pub is_leased : Site → Net → (now : ℕ) → List Entry → Bool
is_leased site (V4 net) now past = grants (judge_in site past).granted net now && is_probed site net.ip past
is_leased site (V6 net) now past = false
