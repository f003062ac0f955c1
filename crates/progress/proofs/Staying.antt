use Rattle.std.proofs.Common.{◌≡◌, ℕ, List, [], ◌∷◌, ◌++◌, Some, nat_le}
use Rattle.net_types.proofs.CaseLaws.{split}
use Rattle.net_types.specs.declared.address.Ip4.{Ip4}
use Rattle.net_types.specs.declared.address.Mac.{Mac}
use Rattle.net_types.specs.declared.interface.IfIndex.{IfIndex}
use Rattle.arp_acd.specs.declared.detection.Phase.{Phase}
use Rattle.arp_acd.specs.declared.detection.Phase.TheVariants.{Probing, Announcing, Held, Over}
use Rattle.arp_acd.specs.Table as detection
use Rattle.arp_acd.proofs.Standing.{mk}
use Rattle.ipv4ll.specs.declared.link_local.LinkLocal.{LinkLocal}
use Rattle.ipv4ll.specs.declared.link_local.State.{State}
use Rattle.ipv4ll.specs.declared.link_local.State.TheVariants.{Off, Armed, Chosen, Waiting}
use Rattle.ipv4ll.specs.Table.{held_in}
use Rattle.ipv4ll.specs.History.{LlEvent, Arm, Tick, Heard, Unsent, Drop, ll_step, ll_after}
use Rattle.progress.specs.GoingWell.{NobodyContests, LinkTakes, CarrierStays, IsFair}
use Rattle.progress.specs.LocalHeld.{StaysHeld}

-- What is held stays held in each event that is fair.

abbrev pub at_state : IfIndex → State → LinkLocal
at_state iface state = record { iface = iface; state = state }

abbrev chosen : IfIndex → (conflicts : ℕ) → IfIndex → Ip4 → Phase → LinkLocal
chosen iface conflicts i a phase = at_state iface (Chosen conflicts (mk i a phase))

abbrev Holds : Ip4 → LinkLocal → Type 0
Holds addr ll = held_in ll.state ≡ Some addr

chosen_stays : (own : List Mac) (iface : IfIndex) (conflicts : ℕ) (i : IfIndex) (a : Ip4) (phase : Phase) (event : LlEvent) (addr : Ip4)
    → detection.held_in a phase ≡ Some addr → LinkTakes event → CarrierStays event
    → NobodyContests own (Chosen conflicts (mk i a phase)) event
    → Holds addr (ll_step own (chosen iface conflicts i a phase) event).ll
chosen_stays own iface conflicts i a phase (Arm at due waits fallback) addr h taken up alone = h
chosen_stays own iface conflicts i a (Probing n due) (Tick at salt) addr h taken up alone = absurd (cc)
chosen_stays own iface conflicts i a (Announcing due last) (Tick at salt) addr h taken up alone =
    split (nat_le due at) (λ come. rw come h) (λ early. rw early h)
chosen_stays own iface conflicts i a (Held last) (Tick at salt) addr h taken up alone = h
chosen_stays own iface conflicts i a Over (Tick at salt) addr h taken up alone = absurd (cc)
chosen_stays own iface conflicts i a (Probing n due) (Heard arp at salt) addr h taken up alone = absurd (cc)
chosen_stays own iface conflicts i a (Announcing due last) (Heard arp at salt) addr h taken up alone = rw alone h
chosen_stays own iface conflicts i a (Held last) (Heard arp at salt) addr h taken up alone = rw alone h
chosen_stays own iface conflicts i a Over (Heard arp at salt) addr h taken up alone = absurd (cc)
chosen_stays own iface conflicts i a phase (Unsent at salt) addr h taken up alone = absurd taken
chosen_stays own iface conflicts i a phase (Drop at) addr h taken up alone = absurd up

pub step_stays : (own : List Mac) (iface : IfIndex) (state : State) (event : LlEvent) (addr : Ip4)
    → held_in state ≡ Some addr → LinkTakes event → CarrierStays event → NobodyContests own state event
    → held_in (ll_step own (at_state iface state) event).ll.state ≡ Some addr
step_stays own iface Off event addr h taken up alone = absurd (cc)
step_stays own iface (Armed due waits fallback) event addr h taken up alone = absurd (cc)
step_stays own iface (Chosen conflicts acd) event addr h taken up alone =
    chosen_stays own iface conflicts acd.iface acd.addr acd.phase event addr h taken up alone
step_stays own iface (Waiting conflicts due) event addr h taken up alone = absurd (cc)

pub event_stays : (own : List Mac) (iface : IfIndex) (event : LlEvent) (past : List LlEvent) (addr : Ip4)
    → held_in (ll_after own iface past).state ≡ Some addr → IsFair own iface event past
    → held_in (ll_after own iface (event ∷ past)).state ≡ Some addr
event_stays own iface event past addr h fair =
    step_stays own (ll_after own iface past).iface (ll_after own iface past).state event addr h fair.taken fair.up fair.alone

pub stays_held : StaysHeld
stays_held own iface [] earlier addr h fair = h
stays_held own iface (event ∷ later) earlier addr h fair =
    event_stays own iface event (later ++ earlier) addr (stays_held own iface later earlier addr h fair.1) fair.0
