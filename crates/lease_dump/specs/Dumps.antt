-- What a lease file says, as variables: a text that begins as one of DHCPv6 is read as such, and any other as one of
-- DHCPv4.
use Rattle.std.specs.Prelude.{ℕ, ◌≡◌, Bool, true, false, nat_eq, List, ◌++◌, flat_map, codes}
use Rattle.std.specs.List.{starts_with}
use Rattle.net_types.specs.declared.fault.BadText.{BadText}
use Rattle.net_types.specs.FirstBadLine.{FirstBad, IsSpelled}
use Rattle.lease_text.specs.Leases.{LeaseContent}
use Rattle.lease_text.specs.LeaseLines.{SpellsLease4}
use Rattle.lease_text.specs.LeaseReading.{AnyCause}
use Rattle.lease6_text.specs.Leases.{Lease6Content}
use Rattle.lease6_text.specs.LeaseLines.{SpellsLease6}
use Rattle.world.specs.HookCalls.{Variable}
use Rattle.hook_env.specs.declared.situation.Stage.TheVariants.{Now}
use Rattle.hook_env.specs.LeaseVariables.{lease_variables}
use Rattle.hook_env.specs.Lease6Variables.{lease6_variables}
use Rattle.lease_dump.specs.declared.dumping.DumpAnswer.{DumpAnswer}
use Rattle.lease_dump.specs.declared.dumping.DumpAnswer.TheVariants as answers

abbrev pub is_of_dhcp6 : List ℕ → Bool
is_of_dhcp6 text = starts_with nat_eq text (codes "dhcpcd-lease6")

-- ---- the variables

-- the text is that of a lease of DHCPv4, and these are its variables
pub record IsDumped4 (text : List ℕ) (vars : List Variable) : Type 0 where
  pub lease : LeaseContent
  pub spelled : IsSpelled SpellsLease4 text lease
  pub says : vars ≡ lease_variables Now lease

-- the same of DHCPv6
pub record IsDumped6 (text : List ℕ) (vars : List Variable) : Type 0 where
  pub lease : Lease6Content
  pub spelled : IsSpelled SpellsLease6 text lease
  pub says : vars ≡ lease6_variables Now lease

abbrev pub IsDumpedAs : Bool → List ℕ → List Variable → Type 0
IsDumpedAs false text vars = IsDumped4 text vars
IsDumpedAs true text vars = IsDumped6 text vars

abbrev pub IsDumped : List ℕ → List Variable → Type 0
IsDumped text vars = IsDumpedAs (is_of_dhcp6 text) text vars

-- ---- the first bad line

abbrev pub IsBadAs : Bool → List ℕ → ℕ → Type 0
IsBadAs false text line = (cause : BadText) × FirstBad SpellsLease4 AnyCause text line cause
IsBadAs true text line = (cause : BadText) × FirstBad SpellsLease6 AnyCause text line cause

-- why there are none; want of memory is free
abbrev pub IsBadLeaseAs : Bool → List ℕ → DumpAnswer → Type 0
IsBadLeaseAs six text (answers.BadLease line) = IsBadAs six text line
IsBadLeaseAs six text answers.NoMemory = Unit {0}

abbrev pub IsBadLease : List ℕ → DumpAnswer → Type 0
IsBadLease text answer = IsBadLeaseAs (is_of_dhcp6 text) text answer

-- ---- the text of variables

-- a line for each
abbrev pub variable_line : Variable → List ℕ
variable_line variable = variable.name ++ codes "=" ++ variable.value ++ codes "\n"

abbrev pub variables_text : List Variable → List ℕ
variables_text vars = flat_map variable_line vars
