-- What a part says: the names that are names (RFC 1035, section 2.3.1), and the texts of its servers.
use Rattle.std.specs.Prelude.{ℕ, ◌/◌, ◌^◌, Bool, not, ◌==◌, List, [], ◌∷◌, ◌++◌, map, filter, bytes_eq, codes, if◌then◌else◌}
use Rattle.net_types.specs.declared.address.Ip6.{Ip6}
use Rattle.net_types.specs.declared.interface.Name.{Name}
use Rattle.net_types.specs.AddressText.{ip4_text, ip6_text}
use Rattle.net_types.specs.NameText.{name_text}
use Rattle.domain_names.specs.NameText.{is_name}
use Rattle.resolver_text.specs.declared.part.Server.{Server}
use Rattle.resolver_text.specs.declared.part.Server.TheVariants.{V4, V6}
use Rattle.resolver_text.specs.Parts.{PartContent}

abbrev pub part_names : PartContent → List (List ℕ)
part_names part = filter is_name part.names

-- the first ten bits of a link-local address, fe80::/10 (RFC 4291, section 2.5.6)
abbrev pub LINK_LOCAL_BITS : ℕ
LINK_LOCAL_BITS = 0x3fa

abbrev pub is_link_local : Ip6 → Bool
is_link_local ip = (ip.number / 2 ^ 118) == LINK_LOCAL_BITS

-- an address with the zone in which it is meant (RFC 4007, section 11)
abbrev pub zoned_text : Ip6 → Name → List ℕ
zoned_text ip name = ip6_text ip ++ codes "%" ++ name_text name

-- the zone of a link-local address is the interface that the server was heard on
abbrev pub server_text : Name → Server → List ℕ
server_text name (V4 ip) = ip4_text ip
server_text name (V6 ip) = if is_link_local ip then zoned_text ip name else ip6_text ip

abbrev pub part_servers : PartContent → List (List ℕ)
part_servers part = map (server_text part.name) part.servers

-- texts without those that stood before
abbrev pub unlike : List (List ℕ) → List (List ℕ)
unlike [] = []
unlike (text ∷ texts) = text ∷ filter (λ other. not (bytes_eq other text)) (unlike texts)
