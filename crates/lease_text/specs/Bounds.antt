-- The bounds within which a lease has a text.
use Rattle.std.specs.Prelude.{◌≡◌, ℕ, ◌≤◌, ◌<◌, true, List, [], ◌∷◌, length, IfSome}
use Rattle.std.specs.List.{AllByRecursion}
use Rattle.net_types.specs.AddressText.{FitsIp4, FitsMac}
use Rattle.net_types.specs.Marks.{AreBytes}
use Rattle.net_types.specs.Moments.{IsMoment}
use Rattle.net_types.specs.NameText.{FitsName}
use Rattle.lease_text.specs.declared.lease.Terms4.{Terms4}
use Rattle.lease_text.specs.declared.lease.TheConstants.{INFINITE_LEASE, LONGEST_PREFIX, VALUE_LIMIT}
use Rattle.lease_text.specs.Leases.{ValueContent, LeaseContent, terms_of, is_host_address}
use Rattle.v4_options.specs.OptionTable.{is_kept}
use Rattle.v4_options.specs.ValueForms.{is_well_formed}

-- the times of an infinite lease are infinite too
pub record FitsTerms (terms : Terms4) : Type 0 where
  pub address : is_host_address terms.net.ip ≡ true
  pub len : terms.net.len ≤ LONGEST_PREFIX
  pub confirmed : IfSome terms.origin (λ origin. IsMoment origin.confirmed)
  pub first : IsMoment terms.first
  pub lease : 1 ≤ terms.lease
  pub renews : terms.t1 ≤ terms.t2
  pub rebinds : terms.t2 ≤ terms.lease
  pub endless : terms.lease ≡ INFINITE_LEASE → terms.t1 ≡ INFINITE_LEASE

-- a value that is kept has the form of its code
pub record FitsValue (value : ValueContent) : Type 0 where
  pub kept : is_kept value.code ≡ true
  pub formed : is_well_formed value.code value.bytes ≡ true
  pub short : length value.bytes ≤ VALUE_LIMIT

-- each code is above the one before it
abbrev pub IsRising : (before : ℕ) → List ValueContent → Type 0
IsRising before [] = Unit {0}
IsRising before (value ∷ values) = (before < value.code) × IsRising value.code values

pub record FitsValues (values : List ValueContent) : Type 0 where
  pub each : AllByRecursion FitsValue values
  pub rising : IsRising 0 values

pub record FitsLease (lease : LeaseContent) : Type 0 where
  pub name : FitsName lease.name
  pub terms : FitsTerms (terms_of lease)
  pub values : FitsValues lease.values

-- its numbers and bytes are within the types that hold them, as those of every lease in memory are
pub record IsTyped (lease : LeaseContent) : Type 0 where
  pub origin : IfSome lease.origin (λ origin. FitsMac origin.mac)
  pub server : FitsIp4 lease.server
  pub server_mac : FitsMac lease.server_mac
  pub time : lease.lease ≤ INFINITE_LEASE
  pub values : AllByRecursion (λ value. AreBytes value.bytes) lease.values

pub record HasText (lease : LeaseContent) : Type 0 where
  pub fits : FitsLease lease
  pub typed : IsTyped lease
