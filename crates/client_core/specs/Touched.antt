-- What a turn touches of what goes into files: the leases that interfaces keep, and what they tell the resolver.
use Rattle.std.specs.Prelude.{◌≡◌, ◌≢◌, ℕ, ◌==◌, Bool, true, false, List, [], ◌∷◌}
use Rattle.std.specs.List.{list_any}
use Rattle.net_types.specs.declared.interface.IfIndex.{IfIndex}
use Rattle.client_model.specs.declared.interfaces.Iface.{Iface}
use Rattle.client_model.specs.Clients.{kept_lease, kept_lease6}
use Rattle.client_model.specs.ResolverParts.{resolver_wanted}
use Rattle.client_model.specs.WantedRows.{iface_rows}
use Rattle.client_core.specs.declared.effects.Changes.{Changes}
use Rattle.client_core.specs.declared.effects.Changes.TheVariants.{Nothing, Leases, All}
use Rattle.client_core.specs.declared.effects.Resolver.{Resolver}
use Rattle.client_core.specs.declared.effects.Resolver.TheVariants.{Same, Other}
use Rattle.client_core.specs.declared.effects.Touched.{Touched}
use Rattle.client_core.specs.ToldParts.{all_told, told_parts}

-- whether the interface of this number is among them
abbrev pub is_touched : ℕ → List IfIndex → Bool
is_touched index touched = list_any (λ other. other.number == index) touched

-- the interface, where it is one of them
abbrev pub noted : (is_one : Bool) → IfIndex → List IfIndex
noted false index = []
noted true index = index ∷ []

-- ---- of one interface

-- it keeps the leases that it kept, of DHCPv4 and of DHCPv6
pub record KeepsLeases (old new : Iface) : Type 0 where
  pub kept4 : new.dhcp4.kept ≡ old.dhcp4.kept
  pub kept6 : new.dhcp6.kept ≡ old.dhcp6.kept

-- its rows stay, and what it tells the resolver
pub record KeepsShown (old new : Iface) : Type 0 where
  pub rows : iface_rows new ≡ iface_rows old
  pub told : told_parts new ≡ told_parts old

-- what the changes leave as it was
abbrev pub LeavesBut : Changes → (old new : Iface) → Type 0
LeavesBut Nothing old new = KeepsShown old new × KeepsLeases old new
LeavesBut Leases old new = KeepsShown old new
LeavesBut All old new = Unit {0}

abbrev pub may_show : Changes → Bool
may_show Nothing = false
may_show Leases = false
may_show All = true

abbrev pub may_keep : Changes → Bool
may_keep Nothing = false
may_keep Leases = true
may_keep All = true

-- ---- of all interfaces

-- the old value and the new one are the same, or they aren't
abbrev pub Compares : {X : Type 0} → Resolver → (old new : X) → Type 0
Compares Same old new = new ≡ old
Compares Other old new = new ≢ old

abbrev pub either : Resolver → Resolver → Resolver
either Same last = last
either Other last = Other

abbrev pub is_other : Resolver → Bool
is_other Same = false
is_other Other = true

-- An interface that isn't among those touched keeps the leases that it kept. The resolver is touched where the
-- interfaces tell it something else, and there alone; where it isn't, what it is told stays.
pub record KeepsUntouched (touched : Touched) (old new : List Iface) : Type 0 where
  pub kept4 : (index : ℕ) → is_touched index touched.ifaces.items ≡ false → kept_lease index new ≡ kept_lease index old
  pub kept6 : (index : ℕ) → is_touched index touched.ifaces.items ≡ false
      → kept_lease6 index new ≡ kept_lease6 index old
  pub tells : Compares touched.resolver (all_told old) (all_told new)
  pub resolver : touched.resolver ≡ Same → resolver_wanted new ≡ resolver_wanted old
