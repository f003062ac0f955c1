-- What is kept of an address turn by turn tells its basis as a link-local one.
use Rattle.std.specs.Prelude.{◌≡◌, ℕ, true, List, Option, Some}
use Rattle.std.specs.Option.{is_some}
use Rattle.net_types.specs.declared.address.Ip4.{Ip4}
use Rattle.net_types.specs.declared.address.Net.TheVariants.{V4}
use Rattle.ipv4ll.specs.Choice.{IsChoice}
use Rattle.evidence_words.specs.ClientModel.WantedRows.{local_net}
use Rattle.evidence_words.specs.Entries.{Entry}
use Rattle.evidence_words.specs.Inputs.{Site, StaysOn}
use Rattle.evidence_words.specs.Probed.{Probes}
use Rattle.local_evidence.specs.LinkLocalBasis.{Anything, LinkLocalBasis}
use Rattle.probe_table.specs.ProbeTimes.{is_past, times_in}
use Rattle.local_judge.specs.Choices.{is_calm, choice_in}
use Rattle.local_judge.specs.declared.choices.Choice.{Choice}

-- So many probes were taken, the last of them so long ago, exactly where the moment that is kept is so long ago.
pub record AreTold (site : Site) (addr : Ip4) (past : List Entry) (count wait now : ℕ) (kept : Option ℕ) : Type 0 where
  pub yes : is_past wait kept now ≡ true → Probes (StaysOn site) Anything site addr count wait now past
  pub no : Probes (StaysOn site) Anything site addr count wait now past → is_past wait kept now ≡ true

pub record TimesTell (site : Site) (addr : Ip4) (past : List Entry) (wait now : ℕ) : Type 0 where
  pub first : AreTold site addr past 1 wait now (times_in (is_calm site) site addr past).first
  pub second : AreTold site addr past 2 wait now (times_in (is_calm site) site addr past).second
  pub third : AreTold site addr past 3 wait now (times_in (is_calm site) site addr past).third

abbrev pub ProbesAreTold : Type 0
ProbesAreTold = (site : Site) (addr : Ip4) (past : List Entry) (wait now : ℕ) → TimesTell site addr past wait now

-- a basis whose fourth turn was at that moment
pub record BasisSince (site : Site) (addr : Ip4) (past : List Entry) (moment : ℕ) : Type 0 where
  pub basis : LinkLocalBasis site (V4 (local_net addr)) past
  pub since : basis.probed.fourth.moment ≡ moment

-- An address that may be chosen has its basis exactly where its choice stands.
pub record IsTold (site : Site) (addr : Ip4) (past : List Entry) : Type 0 where
  pub yes : IsChoice addr → is_some (choice_in site addr past) ≡ true → LinkLocalBasis site (V4 (local_net addr)) past
  pub no : LinkLocalBasis site (V4 (local_net addr)) past → is_some (choice_in site addr past) ≡ true
  pub since : IsChoice addr → (choice : Choice) → choice_in site addr past ≡ Some choice
      → BasisSince site addr past choice.since

abbrev pub ChoicesAreTold : Type 0
ChoicesAreTold = (site : Site) (addr : Ip4) (past : List Entry) → IsTold site addr past
