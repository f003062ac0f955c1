-- What interfaces tell the resolver is lines, where the values of their leases are bytes.
use Rattle.std.proofs.Common.{ℕ, zero, suc, ◌%◌, ◌/◌, Bool, ◌&&◌, List, [], ◌∷◌, drop, find, length, map, take, Option, Some, None, IfSome, eqb, ltb}
use Rattle.std.specs.List.{AllByRecursion}
use Rattle.std.specs.Option.{option_and_then}
use Rattle.std.specs.Prelude.{◌==◌, option_map, unwrap_or}
use Rattle.net_types.proofs.AllLaws.{all_join}
use Rattle.net_types.proofs.CaseLaws.{gated}
use Rattle.net_types.proofs.Checksum.{drop_bytes, take_bytes}
use Rattle.net_types.proofs.WireNumbers.{four_bytes_fit, sixteen_bytes_fit}
use Rattle.net_types.specs.AddressText.{FitsIp4, FitsIp6}
use Rattle.net_types.specs.Marks.{AreBytes}
use Rattle.net_types.specs.declared.address.Ip4.{Ip4}
use Rattle.net_types.specs.declared.address.Ip6.{Ip6}
use Rattle.lease_text.specs.Leases.{LeaseContent, ValueContent}
use Rattle.lease6_text.specs.Leases.{Lease6Content}
use Rattle.resolver_text.proofs.PlainLines.{text_is_lines}
use Rattle.resolver_text.specs.Parts.{PartContent}
use Rattle.resolver_text.specs.ResolverText.{resolver_text}
use Rattle.resolver_text.specs.TextLaws.{FitsPart, FitsServer, HasResolverLines}
use Rattle.resolver_text.specs.declared.part.Server.TheVariants as server
use Rattle.v4_client.specs.Clients as dhcp4
use Rattle.v4_options.specs.Numbers.{addresses, addrs_in}
use Rattle.v4_options.specs.declared.code.TheConstants.{DOMAIN_NAME_SERVERS}
use Rattle.v6_client.specs.Clients as dhcp6
use Rattle.v6_options.specs.Readers.{addresses_in, dns6_in}
use Rattle.v6_options.specs.declared.code.TheConstants.{DNS_SERVERS}
use Rattle.settings.specs.Fitting.{FitsManaged}
use Rattle.settings.specs.declared.interfaces.Managed.{Managed}
use Rattle.client_model.specs.ResolverParts.{first_said, has_part4, iface_parts, part4_with, part6_with, parts4, parts6, read_as, resolver_parts, resolver_wanted, servers4, some_text, values_held}
use Rattle.client_model.specs.WantedRows.{value_in}
use Rattle.client_model.specs.declared.interfaces.Iface.{Iface}
use Rattle.safe_texts.specs.ResolverLines.{HasServers}
use Rattle.safe_texts.proofs.KeptOctets.{HasOctets, OctetValue, OctetValues}

-- ---- numbers out of bytes

abbrev Are4 : List Ip4 → Type 0
Are4 servers = AllByRecursion FitsIp4 servers

abbrev Are6 : List Ip6 → Type 0
Are6 servers = AllByRecursion FitsIp6 servers

addresses_fit : (value : List ℕ) → AreBytes value → Are4 (addresses value)
unfolding addresses
addresses_fit [] h = tt
addresses_fit (a ∷ []) h = tt
addresses_fit (a ∷ b ∷ []) h = tt
addresses_fit (a ∷ b ∷ c ∷ []) h = tt
addresses_fit (a ∷ b ∷ c ∷ d ∷ rest) h =
    (four_bytes_fit (a ∷ b ∷ c ∷ d ∷ []) (take_bytes 4 (a ∷ b ∷ c ∷ d ∷ rest) h), addresses_fit rest (drop_bytes 4 (a ∷ b ∷ c ∷ d ∷ rest) h))

addrs_fit : (value : List ℕ) → AreBytes value → IfSome (addrs_in value) Are4
addrs_fit value h =
    gated (λ (o : Option (List Ip4)). IfSome o Are4) (ltb 0 (length value) && eqb (length value % 4) 0) (Some (addresses value)) None (addresses_fit value h) tt

counted_fit : (count : ℕ) (value : List ℕ) → AreBytes value → Are6 (addresses_in count value)
counted_fit zero value h = tt
counted_fit (suc count) value h = (
  sixteen_bytes_fit (take 16 (drop 0 value)) (take_bytes 16 (drop 0 value) (drop_bytes 0 value h)),
  counted_fit count (drop 16 value) (drop_bytes 16 value h),
)

dns6_fit : (value : List ℕ) → AreBytes value → IfSome (dns6_in value) Are6
dns6_fit value h =
    gated (λ (o : Option (List Ip6)). IfSome o Are6) (ltb 0 (length value) && eqb (length value % 16) 0) (Some (addresses_in (length value / 16) value)) None
    (counted_fit (length value / 16) value h) tt

-- ---- what a lease's values give

bytes_of : (found : Option ValueContent) → IfSome found OctetValue → IfSome (option_map (λ (value : ValueContent). value.bytes) found) AreBytes
bytes_of None h = tt
bytes_of (Some value) h = h

found_octets : (test : ValueContent → Bool) (values : List ValueContent) → OctetValues values → IfSome (find test values) OctetValue
found_octets test [] h = tt
found_octets test (value ∷ values) h =
    gated (λ (o : Option ValueContent). IfSome o OctetValue) (test value) (Some value) (find test values) h.0 (found_octets test values h.1)

value_octets : (code : ℕ) (values : List ValueContent) → OctetValues values → IfSome (value_in code values) AreBytes
value_octets code values h = bytes_of (find (λ value. value.code == code) values) (found_octets (λ value. value.code == code) values h)

-- what is read of bytes, or nothing
read_all : {X : Type 0} (P : X → Type 0) (reading : List ℕ → Option (List X)) → ((value : List ℕ) → AreBytes value → IfSome (reading value) (AllByRecursion P))
    → (found : Option (List ℕ)) → IfSome found AreBytes → AllByRecursion P (unwrap_or (option_and_then reading found) [])
read_all P reading each None h = tt
read_all {X} P reading each (Some value) h = or_none (reading value) (each value h)
  where
    or_none : (found : Option (List X)) → IfSome found (AllByRecursion P) → AllByRecursion P (unwrap_or found [])
    or_none None all = tt
    or_none (Some xs) all = all

first_all : {X : Type 0} (P : X → Type 0) (first later : List X) → AllByRecursion P first → AllByRecursion P later → AllByRecursion P (first_said first later)
first_all P [] later one other = other
first_all P (x ∷ xs) later one other = one

as4 : (servers : List Ip4) → Are4 servers → AllByRecursion FitsServer (map server.V4 servers)
as4 [] fit = tt
as4 (s ∷ servers) fit = (fit.0, as4 servers fit.1)

as6 : (servers : List Ip6) → Are6 servers → AllByRecursion FitsServer (map server.V6 servers)
as6 [] fit = tt
as6 (s ∷ servers) fit = (fit.0, as6 servers fit.1)

-- ---- the parts of an interface

abbrev ArePartsFit : List PartContent → Type 0
ArePartsFit parts = AllByRecursion FitsPart parts

module _ (f : Iface) (fits : FitsManaged f.managed) (servers : HasServers f.managed) (octets : HasOctets f) where
  held4 : OctetValues (values_held (dhcp4.held_of f.dhcp4))
  held4 =
      by_lease (dhcp4.held_of f.dhcp4)
      (gated (λ (o : Option LeaseContent). IfSome o (λ (l : LeaseContent). OctetValues l.values)) _ f.dhcp4.kept None octets.kept4 tt)
    where
      by_lease : (lease : Option LeaseContent) → IfSome lease (λ (l : LeaseContent). OctetValues l.values) → OctetValues (values_held lease)
      by_lease None h = tt
      by_lease (Some lease) h = h

  servers4_fit : (values : List ValueContent) → OctetValues values → AllByRecursion FitsServer (servers4 f.managed.conf.resolver values)
  servers4_fit values h =
      as4 _ (first_all FitsIp4 f.managed.conf.resolver.servers (read_as addrs_in DOMAIN_NAME_SERVERS values) servers
      (read_all FitsIp4 addrs_in addrs_fit (value_in DOMAIN_NAME_SERVERS values) (value_octets DOMAIN_NAME_SERVERS values h)))

  parts4_fit : ArePartsFit (parts4 f)
  parts4_fit =
      gated ArePartsFit (has_part4 f) (part4_with f.managed (dhcp4.held_of f.dhcp4) ∷ []) []
      (record { name = fits.name; servers = servers4_fit (values_held (dhcp4.held_of f.dhcp4)) held4 }, tt) tt

  part6_fits : (lease : Lease6Content) → OctetValues lease.values → FitsPart (part6_with f.managed lease)
  part6_fits lease h = record {
    name = fits.name;
    servers =
        as6 (read_as dns6_in DNS_SERVERS lease.values)
        (read_all FitsIp6 dns6_in dns6_fit (value_in DNS_SERVERS lease.values) (value_octets DNS_SERVERS lease.values h));
  }

  parts6_fit : (lease : Option Lease6Content) → IfSome lease (λ (l : Lease6Content). OctetValues l.values) → ArePartsFit (parts6 f.managed lease)
  parts6_fit None h = tt
  parts6_fit (Some lease) h = (part6_fits lease h, tt)

  parts_fit : ArePartsFit (iface_parts f)
  parts_fit =
      all_join FitsPart (parts4 f) (parts6 f.managed (dhcp6.held_of f.dhcp6)) parts4_fit
      (parts6_fit (dhcp6.held_of f.dhcp6)
      (gated (λ (o : Option Lease6Content). IfSome o (λ (l : Lease6Content). OctetValues l.values)) _ f.dhcp6.kept None octets.kept6 tt))

-- ---- of all interfaces

pub record IsFit (m : Managed) : Type 0 where
  pub fits : FitsManaged m
  pub servers : HasServers m

abbrev pub OfFit : Iface → Type 0
OfFit f = IsFit f.managed

all_parts : (ifaces : List Iface) → AllByRecursion OfFit ifaces → AllByRecursion HasOctets ifaces → ArePartsFit (resolver_parts ifaces)
all_parts [] fit octets = tt
all_parts (f ∷ ifaces) fit octets =
    all_join FitsPart (iface_parts f) (resolver_parts ifaces) (parts_fit f fit.0.fits fit.0.servers octets.0) (all_parts ifaces fit.1 octets.1)

if_said : (text : List ℕ) → HasResolverLines text → IfSome (some_text text) HasResolverLines
if_said [] lines = tt
if_said (c ∷ cs) lines = lines

pub wanted_lines : (ifaces : List Iface) → AllByRecursion OfFit ifaces → AllByRecursion HasOctets ifaces → IfSome (resolver_wanted ifaces) HasResolverLines
unfolding resolver_wanted
wanted_lines ifaces fit octets = if_said (resolver_text (resolver_parts ifaces)) (text_is_lines (resolver_parts ifaces) (all_parts ifaces fit octets))
