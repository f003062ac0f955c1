-- The leases with which interfaces begin are their own.
use Rattle.std.proofs.Common.{◌≡◌, ℕ, Bool, true, false, ◌&&◌, List, [], ◌∷◌, map, Option, Some, None, refl, ap, sym}
use Rattle.std.specs.Prelude.{IfSome, bytes_eq, option_and_then}
use Rattle.std.specs.List.{AllByRecursion}
use Rattle.std.proofs.lemmas.Bool.{and_parts}
use Rattle.std.proofs.lemmas.Slice.Eq.{bytes_eq-Decides}
use Rattle.net_types.proofs.CaseLaws.{split}
use Rattle.net_types.specs.declared.address.Mac.{Mac}
use Rattle.net_types.specs.declared.interface.IfSpec.{IfSpec}
use Rattle.net_types.specs.declared.interface.Name.{Name}
use Rattle.net_types.specs.NameText.{name_text}
use Rattle.client_model.specs.LeaseText.declared.lease.Origin.{Origin}
use Rattle.client_model.specs.LeaseText.Leases.{LeaseContent}
use Rattle.client_model.specs.Lease6Text.Leases.{Lease6Content}
use Rattle.world.specs.StoreCalls.{Reading, Found, Missing, Unread}
use Rattle.client_model.specs.KeptLeases.{Beginning, is_granted_to, is_own, kept_by, lease_spelled, own_lease}
use Rattle.client_model.specs.KeptLeases6.{kept6_by, lease6_spelled, own_lease6}
use Rattle.turn_model.specs.Loading.{FilesLoaded, Loaded, beginning_of, duid_with}
use Rattle.turn_model.specs.OwnLeases.{AllBeginWithOwn, BeginsWithOwn, IsOfInterface}

granted_there : (mac : Mac) (origin : Option Origin) → is_granted_to mac origin ≡ true → IfSome origin (λ from. from.mac ≡ mac)
granted_there mac None is = tt
granted_there mac (Some origin) is = ap (λ (bytes : List ℕ). record { bytes = bytes }) ((bytes_eq-Decides origin.mac.bytes mac.bytes).0 is)

pub is_of : (spec : IfSpec) (name : Name) (origin : Option Origin) → is_own spec name origin ≡ true → IsOfInterface spec name origin
is_of spec name origin is =
    let parts = and_parts (bytes_eq (name_text name) (name_text spec.name)) (is_granted_to spec.mac origin) is in
    record { named = (bytes_eq-Decides (name_text name) (name_text spec.name)).0 parts.0; granted = granted_there spec.mac origin parts.1 }

module _ (spec : IfSpec) where
  abbrev OwnOr : Option LeaseContent → Type 0
  OwnOr kept = IfSome kept (λ lease. IsOfInterface spec lease.name lease.origin)

  own : (lease : LeaseContent) → OwnOr (own_lease spec lease)
  own lease =
      split (is_own spec lease.name lease.origin)
      (λ e. rw e (is_of spec lease.name lease.origin e)) (λ e. rw e tt)

  spelled : (found : Option LeaseContent) → OwnOr (option_and_then (own_lease spec) found)
  spelled None = tt
  spelled (Some lease) = own lease

  read : (reading : Reading) → OwnOr (kept_by spec reading)
  read (Found bytes) = spelled (lease_spelled bytes)
  read Missing = tt
  read Unread = tt

  pub loaded : (reading : Option Reading) → OwnOr (option_and_then (kept_by spec) reading)
  loaded None = tt
  loaded (Some reading) = read reading

  abbrev OwnOr6 : Option Lease6Content → Type 0
  OwnOr6 kept = IfSome kept (λ lease. IsOfInterface spec lease.name lease.origin)

  own6 : (lease : Lease6Content) → OwnOr6 (own_lease6 spec lease)
  own6 lease =
      split (is_own spec lease.name lease.origin)
      (λ e. rw e (is_of spec lease.name lease.origin e)) (λ e. rw e tt)

  spelled6 : (found : Option Lease6Content) → OwnOr6 (option_and_then (own_lease6 spec) found)
  spelled6 None = tt
  spelled6 (Some lease) = own6 lease

  read6 : (reading : Reading) → OwnOr6 (kept6_by spec reading)
  read6 (Found bytes) = spelled6 (lease6_spelled bytes)
  read6 Missing = tt
  read6 Unread = tt

  pub loaded6 : (reading : Option Reading) → OwnOr6 (option_and_then (kept6_by spec) reading)
  loaded6 None = tt
  loaded6 (Some reading) = read6 reading

each_begins : (duid : List ℕ) (all : List Loaded) → AllByRecursion BeginsWithOwn (map (beginning_of duid) all)
each_begins duid [] = tt
each_begins duid (one ∷ all) = (record { kept4 = loaded one.managed.spec one.lease4; kept6 = loaded6 one.managed.spec one.lease6 }, each_begins duid all)

pub all_begin_with_own : AllBeginWithOwn
all_begin_with_own managed files = each_begins (duid_with managed files) files.ifaces
