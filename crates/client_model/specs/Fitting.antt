-- Which interfaces come about in a run.
use Rattle.std.specs.Prelude.{ℕ, IfSome, List, ◌∷◌, Option}
use Rattle.std.specs.List.{AllByRecursion}
use Rattle.net_types.specs.AddressText.{FitsMac}
use Rattle.ipv4ll.specs.Choice.{IsChoice}
use Rattle.ipv4ll.specs.Laws.{chosen_address}
use Rattle.v4_client.specs.LeaseText.Bounds.{FitsLease}
use Rattle.v6_client.specs.Lease6Text.Bounds.{HasText6, IsDuid}
use Rattle.v4_client.specs.V4Message.Requests.{AskFits}
use Rattle.world.specs.StoreCalls.{Reading}
use Rattle.settings.specs.declared.interfaces.Managed.{Managed}
use Rattle.settings.specs.Fitting.{FitsManaged}
use Rattle.client_model.specs.ClientSettings.{ask_of}
use Rattle.client_model.specs.declared.interfaces.Iface.{Iface}
use Rattle.client_model.specs.HostDuid.{host_duid}
use Rattle.client_model.specs.KeptLeases.{Beginning}

-- an interface before its opening: the DUID, and the leases that were kept, are within the bounds of their texts
pub record FitsBeginning (beginning : Beginning) : Type 0 where
  pub managed : FitsManaged beginning.managed
  pub duid : IsDuid beginning.duid
  pub kept4 : IfSome beginning.kept4 FitsLease
  pub kept6 : IfSome beginning.kept6 HasText6

abbrev pub AreBeginnings : List Beginning → Type 0
AreBeginnings beginnings = AllByRecursion FitsBeginning beginnings

-- an interface in a run: the address that it probes or holds is one that a host may choose by itself
pub record FitsIface (iface : Iface) : Type 0 where
  pub managed : FitsManaged iface.managed
  pub local : IfSome (chosen_address iface.local.state) IsChoice

abbrev pub AreIfaces : List Iface → Type 0
AreIfaces ifaces = AllByRecursion FitsIface ifaces

-- What a client says of itself fits its options.
abbrev pub AsksFit : Type 0
AsksFit = (duid : List ℕ) (managed : Managed) → IsDuid duid → FitsManaged managed → AskFits (ask_of duid managed)

-- The DUID of a host is one, whatever was read of its file: `managed` is the first of the interfaces.
abbrev pub HostDuidFits : Type 0
HostDuidFits =
    (managed : Managed) (others : List Managed) (read : Option Reading) → FitsMac managed.spec.mac
    → IsDuid (host_duid (managed ∷ others) read)
