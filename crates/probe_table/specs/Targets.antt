-- Which address a frame probes (RFC 5227, section 2.1.1).
use Rattle.std.specs.Prelude.{ℕ, ◌-◌, ◌&&◌, ◌==◌, if◌then◌else◌, List, length, bytes_eq, Option, Some, None}
use Rattle.net_types.specs.declared.address.Ip4.{Ip4}
use Rattle.net_types.specs.declared.address.Mac.{Mac}
use Rattle.frame_link.specs.Fields.{ip4_in}
use Rattle.frame_link.specs.Packets.{probe_text}
use Rattle.audit_words.specs.declared.shown.Offer.{Offer}
use Rattle.audit_words.specs.declared.shown.Site.{Site}

-- the address in the last four bytes of a frame: in an ARP packet it is the target's
abbrev pub target_in : List ℕ → Ip4
target_in bytes = ip4_in bytes (length bytes - 4)

-- the address that a frame of an interface probes
abbrev pub probed_in : Mac → List ℕ → Option Ip4
probed_in mac bytes = if bytes_eq bytes (probe_text mac (target_in bytes)) then Some (target_in bytes) else None

-- the one that an offered frame probes, if it is the interface's and the link took it
abbrev pub probe_of : Site → Offer → Option Ip4
probe_of site offer =
    if offer.taken && (offer.iface.number == site.managed.spec.index.number)
    then probed_in site.managed.spec.mac offer.bytes.items
    else None
