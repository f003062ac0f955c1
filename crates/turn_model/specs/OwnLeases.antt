-- The leases with which interfaces begin are their own: no file makes an interface begin with the lease of another.
use Rattle.std.specs.Prelude.{◌≡◌, List, Option, IfSome}
use Rattle.std.specs.List.{AllByRecursion}
use Rattle.net_types.specs.declared.interface.IfSpec.{IfSpec}
use Rattle.net_types.specs.declared.interface.Name.{Name}
use Rattle.net_types.specs.NameText.{name_text}
use Rattle.client_model.specs.LeaseText.declared.lease.Origin.{Origin}
use Rattle.client_model.specs.IfaceSettings.declared.interfaces.Managed.{Managed}
use Rattle.client_model.specs.KeptLeases.{Beginning}
use Rattle.turn_model.specs.Loading.{FilesLoaded, beginnings_of}

-- It has the name of the interface and, where it tells to which hardware address it was granted, the interface has
-- that.
pub record IsOfInterface (spec : IfSpec) (name : Name) (origin : Option Origin) : Type 0 where
  pub named : name_text name ≡ name_text spec.name
  pub granted : IfSome origin (λ from. from.mac ≡ spec.mac)

pub record BeginsWithOwn (b : Beginning) : Type 0 where
  pub kept4 : IfSome b.kept4 (λ lease. IsOfInterface b.managed.spec lease.name lease.origin)
  pub kept6 : IfSome b.kept6 (λ lease. IsOfInterface b.managed.spec lease.name lease.origin)

-- whatever the files hold, and whichever of them could be read
abbrev pub AllBeginWithOwn : Type 0
AllBeginWithOwn =
    (managed : List Managed) (files : FilesLoaded) → AllByRecursion BeginsWithOwn (beginnings_of managed files)
