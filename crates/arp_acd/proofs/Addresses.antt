use Rattle.std.proofs.Common.{◌≡◌, ℕ, ◌-◌, List, Option, Some, None, nat_le, nat_lt, refl}
use Rattle.net_types.specs.declared.address.Ip4.{Ip4}
use Rattle.net_types.specs.declared.address.Mac.{Mac}
use Rattle.net_types.specs.declared.interface.IfIndex.{IfIndex}
use Rattle.frame_link.specs.declared.arp.ArpView.{ArpView}
use Rattle.arp_acd.specs.declared.detection.Acd.{Acd}
use Rattle.arp_acd.specs.declared.detection.Phase.{Phase}
use Rattle.arp_acd.specs.declared.detection.Phase.TheVariants.{Probing, Announcing, Held, Over}
use Rattle.arp_acd.specs.Conflict.{is_used, is_contested}
use Rattle.arp_acd.specs.Table.{acd_tick, acd_hears, contested_row}
use Rattle.arp_acd.proofs.Standing.{mk}
use Rattle.net_types.proofs.CaseLaws.{split}

-- A detection stays with its address.

ticked : (iface : IfIndex) (addr : Ip4) (phase : Phase) (at salt : ℕ)
    → (acd_tick (mk iface addr phase) at salt).acd.addr ≡ addr
ticked iface addr (Probing n due) at salt =
    split (nat_le due at) (λ yes. rw yes (split (nat_lt n 3) (λ few. rw few refl) (λ all. rw all refl))) (λ no. rw no refl)
ticked iface addr (Announcing due last) at salt = split (nat_le due at) (λ yes. rw yes refl) (λ no. rw no refl)
ticked iface addr (Held last) at salt = refl
ticked iface addr Over at salt = refl

pub addr-tick : (acd : Acd) (at salt : ℕ) → (acd_tick acd at salt).acd.addr ≡ acd.addr
addr-tick acd at salt = ticked acd.iface acd.addr acd.phase at salt

contested : (acd : Acd) (last : Option ℕ) (at : ℕ) (defended : Phase)
    → (contested_row acd last at defended).acd.addr ≡ acd.addr
contested acd None at defended = refl
contested acd (Some last) at defended = split (nat_le 10000 (at - last)) (λ late. rw late refl) (λ soon. rw soon refl)

heard : (own : List Mac) (iface : IfIndex) (addr : Ip4) (phase : Phase) (arp : ArpView) (at : ℕ)
    → (acd_hears own (mk iface addr phase) arp at).acd.addr ≡ addr
heard own iface addr (Probing n due) arp at =
    split (is_contested own addr arp) (λ yes. rw yes refl) (λ no. rw no refl)
heard own iface addr (Announcing due last) arp at =
    split (is_used own addr arp)
    (λ yes. rw yes (contested (mk iface addr (Announcing due last)) last at (Announcing due (Some at))))
    (λ no. rw no refl)
heard own iface addr (Held last) arp at =
    split (is_used own addr arp)
    (λ yes. rw yes (contested (mk iface addr (Held last)) last at (Held (Some at))))
    (λ no. rw no refl)
heard own iface addr Over arp at = refl

pub addr-hears : (own : List Mac) (acd : Acd) (arp : ArpView) (at : ℕ) → (acd_hears own acd arp at).acd.addr ≡ acd.addr
addr-hears own acd arp at = heard own acd.iface acd.addr acd.phase arp at
