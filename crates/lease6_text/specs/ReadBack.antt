-- What reading the text of a DHCPv6 lease gives: that lease.
use Rattle.std.specs.Prelude.{◌≡◌, ℕ, List}
use Rattle.net_types.specs.declared.text_lines.TextFault.{TextFault}
use Rattle.net_types.specs.declared.text_lines.TextFault.TheVariants.{NoMemory}
use Rattle.net_types.specs.declared.fault.BadText.{BadText}
use Rattle.net_types.specs.FirstBadLine.{FirstFault, IsSpelled}
use Rattle.lease6_text.specs.Leases.{Lease6Content}
use Rattle.lease6_text.specs.LeaseLines.{SpellsLease6, lease6_text}
use Rattle.lease6_text.specs.LinesRead.{AnyCause}

-- a text is that of one lease at most
abbrev pub SpellsOne6 : List ℕ → Type 0
SpellsOne6 text = (a b : Lease6Content) → IsSpelled SpellsLease6 text a → IsSpelled SpellsLease6 text b → a ≡ b

-- Its text is that of the lease and of no other, and nothing but want of memory keeps it from being read.
pub record IsReadBack6 (lease : Lease6Content) : Type 0 where
  pub spelled : IsSpelled SpellsLease6 (lease6_text lease) lease
  pub only : (other : Lease6Content) → IsSpelled SpellsLease6 (lease6_text lease) other → other ≡ lease
  pub whole : (fault : TextFault BadText) → FirstFault SpellsLease6 AnyCause (lease6_text lease) fault
      → fault ≡ NoMemory
