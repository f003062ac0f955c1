-- The bounds within which a DHCPv6 lease has a text.
use Rattle.std.specs.Prelude.{◌≡◌, ◌≢◌, ℕ, ◌-◌, ◌%◌, ◌^◌, ◌≤◌, ◌<◌, true, List, length, AllPairs, Option, IfSome}
use Rattle.std.specs.List.{AllByRecursion}
use Rattle.net_types.specs.declared.address.Net6.{Net6}
use Rattle.net_types.specs.AddressText.{FitsIp6, FitsMac}
use Rattle.net_types.specs.Marks.{AreBytes}
use Rattle.net_types.specs.Moments.{IsMoment}
use Rattle.net_types.specs.NameText.{FitsName}
use Rattle.v6_options.specs.declared.ia.IaKind.{IaKind}
use Rattle.v6_options.specs.declared.ia.IaKind.TheVariants.{Na, Pd}
use Rattle.lease_text.specs.Bounds.{IsRising}
use Rattle.lease_text.specs.Leases.{ValueContent}
use Rattle.lease_text.specs.declared.lease.Origin.{Origin}
use Rattle.lease6_text.specs.declared.lease.Item6.{Item6}
use Rattle.lease6_text.specs.declared.lease.TheConstants.{ADDRESS_LEN, IA_LIMIT, ITEM_LIMIT, LONGEST_DELEGATED, MOMENT6_LIMIT, SHORTEST_DELEGATED}
use Rattle.lease6_text.specs.Leases.{IaLeaseContent, Lease6Content}
use Rattle.lease6_text.specs.ValueForms.{is_kept6, is_well_formed6}

-- a moment within the bounds, or never
abbrev pub FitsMoment : Option ℕ → Type 0
FitsMoment moment = IfSome moment (λ at. at < MOMENT6_LIMIT)

-- the length of an address, or of a prefix that is delegated
abbrev pub FitsLen : IaKind → (len : ℕ) → Type 0
FitsLen Na len = len ≡ ADDRESS_LEN
FitsLen Pd len = (SHORTEST_DELEGATED ≤ len) × (len ≤ LONGEST_DELEGATED)

-- no bit is set past the length
abbrev pub IsNetwork : Net6 → Type 0
IsNetwork net = net.ip.number % 2 ^ (128 - net.len) ≡ 0

pub record FitsItem (kind : IaKind) (item : Item6) : Type 0 where
  pub len : FitsLen kind item.net.len
  pub network : IsNetwork item.net
  pub preferred : FitsMoment item.preferred
  pub valid : FitsMoment item.valid

-- an IA has an item or more, each once
pub record FitsIa (ia : IaLeaseContent) : Type 0 where
  pub some : 1 ≤ length ia.items
  pub few : length ia.items ≤ ITEM_LIMIT
  pub each : AllByRecursion (FitsItem ia.kind) ia.items
  pub unlike : AllPairs (λ one other. one.net ≢ other.net) ia.items

-- an IA is told apart by its kind and its IAID (RFC 8415, section 12)
abbrev pub ia_key : IaLeaseContent → IaKind × ℕ
ia_key ia = (ia.kind, ia.iaid)

-- a lease has each IA once
pub record FitsIas (ias : List IaLeaseContent) : Type 0 where
  pub few : length ias ≤ IA_LIMIT
  pub each : AllByRecursion FitsIa ias
  pub unlike : AllPairs (λ one other. ia_key one ≢ ia_key other) ias

-- a value that is kept has the form of its code
pub record FitsValue6 (value : ValueContent) : Type 0 where
  pub kept : is_kept6 value.code ≡ true
  pub formed : is_well_formed6 value.code value.bytes ≡ true

pub record FitsValues6 (values : List ValueContent) : Type 0 where
  pub each : AllByRecursion FitsValue6 values
  pub rising : IsRising 0 values

-- a lease was confirmed at a moment, where it tells its origin
abbrev pub FitsOrigin : Option Origin → Type 0
FitsOrigin origin = IfSome origin (λ o. IsMoment o.confirmed)

pub record FitsLease6 (lease : Lease6Content) : Type 0 where
  pub origin : FitsOrigin lease.origin
  pub name : FitsName lease.name
  pub t1 : FitsMoment lease.t1
  pub t2 : FitsMoment lease.t2
  pub ias : FitsIas lease.ias
  pub values : FitsValues6 lease.values

-- a DUID has a type of two bytes, and at most 128 more (RFC 8415, section 11.1)
pub record IsDuid (bytes : List ℕ) : Type 0 where
  pub least : 2 ≤ length bytes
  pub most : length bytes ≤ 130
  pub octets : AreBytes bytes

-- the numbers of an IA are within the types that hold them
pub record IsTypedIa (ia : IaLeaseContent) : Type 0 where
  pub iaid : ia.iaid < 2 ^ 32
  pub items : AllByRecursion (λ (item : Item6). FitsIp6 item.net.ip) ia.items

-- its numbers and bytes are within the types that hold them, as those of every lease in memory are
pub record IsTyped6 (lease : Lease6Content) : Type 0 where
  pub origin : IfSome lease.origin (λ o. FitsMac o.mac)
  pub server : IsDuid lease.server
  pub ias : AllByRecursion IsTypedIa lease.ias
  pub values : AllByRecursion (λ value. AreBytes value.bytes) lease.values

pub record HasText6 (lease : Lease6Content) : Type 0 where
  pub fits : FitsLease6 lease
  pub typed : IsTyped6 lease
