-- What an interface tells the resolver, as it is kept: a part of IPv4, and one of IPv6. One that tells nothing has
-- neither servers nor names.
use Rattle.std.specs.Prelude.{◌≡◌, ℕ, ◌+◌, ◌*◌, if◌then◌else◌, List, [], ◌∷◌, flat_map, slice_set, Option, Some, None}
use Rattle.resolver_text.specs.declared.part.Family.{Family}
use Rattle.resolver_text.specs.declared.part.Family.TheVariants.{V4, V6}
use Rattle.resolver_text.specs.declared.part.Part.{Part}
use Rattle.resolver_text.specs.Parts.{PartContent}
use Rattle.lease6_text.specs.Leases.{Lease6Content}
use Rattle.client_model.specs.V4Client.Clients.{held_of}
use Rattle.v6_client.specs.Clients as dhcp6
use Rattle.settings.specs.declared.interfaces.Managed.{Managed}
use Rattle.client_model.specs.declared.interfaces.Iface.{Iface}
use Rattle.client_model.specs.ResolverParts.{has_part4, part4_with, part6_with, part_of}

-- a part that tells nothing
abbrev pub nothing_told : Managed → Family → PartContent
nothing_told managed family = part_of managed family [] []

abbrev pub told4 : Iface → PartContent
told4 iface = if has_part4 iface then part4_with iface.managed (held_of iface.dhcp4) else nothing_told iface.managed V4

abbrev pub told6 : Managed → Option Lease6Content → PartContent
told6 managed None = nothing_told managed V6
told6 managed (Some lease) = part6_with managed lease

abbrev pub told_parts : Iface → List PartContent
told_parts iface = told4 iface ∷ told6 iface.managed (dhcp6.held_of iface.dhcp6) ∷ []

-- the parts of all interfaces, two a place
abbrev pub all_told : List Iface → List PartContent
all_told ifaces = flat_map told_parts ifaces

-- with those of the interface at a place
abbrev pub told_with : ℕ → Iface → List PartContent → List PartContent
told_with place iface parts =
    slice_set (slice_set parts (2 * place) (told4 iface)) (2 * place + 1)
    (told6 iface.managed (dhcp6.held_of iface.dhcp6))

-- two parts are of one interface with one metric, and of one protocol
abbrev pub HaveOneOrigin : Part → Part → Type 0
HaveOneOrigin one other =
    (one.metric ≡ other.metric) × ((one.index ≡ other.index) × ((one.name ≡ other.name) × (one.family ≡ other.family)))
