-- What the code keeps of the addresses that are probed.
use Rattle.std.specs.Prelude.{◌≡◌, ℕ, ◌<◌, ◌^◌, Bool, true, not, ◌&&◌, ◌||◌, List}
use Rattle.std.specs.List.{list_any}
use Rattle.net_types.specs.AddressText.{FitsIp4}
use Rattle.net_types.specs.declared.address.Ip4.{Ip4}
use Rattle.evidence_words.specs.Entries as told
use Rattle.evidence_words.specs.Inputs as told_of
use Rattle.audit_words.specs.declared.shown.Entry.{Entry}
use Rattle.audit_words.specs.declared.shown.Site.{Site}
use Rattle.local_judge.specs.ProbeTables.ByAddress.{is_addr}
use Rattle.local_judge.specs.ProbeTables.ProbeTimes.{is_past}
use Rattle.local_judge.specs.ProbeTables.Table as table
use Rattle.local_judge.specs.ProbeTables.Table.{times_of}
use Rattle.lease_judge.specs.ProbedTurns.{calm_in, probed_in}
use Rattle.lease_judge.specs.declared.probes.LeaseProbes.{LeaseProbes}

-- whether an address is a probed one
abbrev pub probed_of : LeaseProbes → Ip4 → Bool
probed_of probes addr = list_any (is_addr addr) probes.probed.items

-- whether its third probe is two seconds ago
abbrev pub is_ready : LeaseProbes → (now : ℕ) → Ip4 → Bool
is_ready probes now addr = is_past 2000 (times_of probes.table addr).third now

-- whether that makes it a probed one anew
abbrev pub is_fresh : LeaseProbes → (now : ℕ) → Ip4 → Bool
is_fresh probes now addr = not (probed_of probes addr) && is_ready probes now addr

-- some addresses are those
abbrev pub AreFresh : LeaseProbes → (now : ℕ) → List Ip4 → Type 0
AreFresh probes now fresh = (addr : Ip4) → list_any (is_addr addr) fresh ≡ is_fresh probes now addr

-- In a turn each address is probed as it is, and the probed ones stay and are more, or there are none.
pub record IsTurned (site : Site) (entry : Entry) (calm : Bool) (old new : LeaseProbes) : Type 0 where
  pub table : table.IsTurned site entry calm old.table new.table
  pub probed : (addr : Ip4) → probed_of new addr ≡ (calm && (is_ready old entry.moment addr || probed_of old addr))

-- Each address whose third probe is two seconds ago at some moment is a probed one.
abbrev pub AreSettled : LeaseProbes → Type 0
AreSettled probes = (addr : Ip4) (now : ℕ) → now < 2 ^ 64 → is_ready probes now addr ≡ true
    → probed_of probes addr ≡ true

-- What is kept is what the definitions have after some turns.
pub record Holds (site : told_of.Site) (past : List told.Entry) (probes : LeaseProbes) : Type 0 where
  pub table : table.Holds (calm_in site) site past probes.table
  pub probed : (addr : Ip4) → FitsIp4 addr → probed_of probes addr ≡ probed_in (calm_in site) site addr past
