use Rattle.std.specs.Prelude.{Bool, ◌&&◌, ◌||◌, not, List, nat_eq, bytes_eq}
use Rattle.std.specs.List.{list_any}
use Rattle.net_types.specs.declared.address.Ip4.{Ip4}
use Rattle.net_types.specs.declared.address.Mac.{Mac}
use Rattle.frame_link.specs.declared.arp.ArpView.{ArpView}

-- What of an ARP packet is a conflict over an address (RFC 5227, sections 2.1.1 and 2.4).

-- Whether one of the client's own interfaces sent the packet.
abbrev pub is_own : List Mac → ArpView → Bool
is_own own arp = list_any (λ mac. bytes_eq mac.bytes arp.sender_mac.bytes) own

-- Whether another host uses the address: its packet has it as the sender's.
abbrev pub is_used : List Mac → Ip4 → ArpView → Bool
is_used own addr arp = not (is_own own arp) && nat_eq arp.sender.number addr.number

-- Whether another host probes the address too: it requests it with a sender's address of 0.
abbrev pub is_probed : List Mac → Ip4 → ArpView → Bool
is_probed own addr arp =
    not (is_own own arp) && (nat_eq arp.op 1 && (nat_eq arp.sender.number 0 && nat_eq arp.target.number addr.number))

-- Whether the packet is a conflict while the address is probed. Later on only its use is one.
abbrev pub is_contested : List Mac → Ip4 → ArpView → Bool
is_contested own addr arp = is_used own addr arp || is_probed own addr arp
