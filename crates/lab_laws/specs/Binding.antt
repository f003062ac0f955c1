-- That what the peer of a lab has bound stays bound, on the lab's clock.
use Rattle.std.specs.Prelude.{◌≡◌, ℕ, ◌⊎◌, true, false, List, ◌∷◌, Option, Some}
use Rattle.net_types.specs.declared.address.Ip4.{Ip4}
use Rattle.net_types.specs.declared.address.Mac.{Mac}
use Rattle.client_model.specs.Clients.{Sending}
use Rattle.server_data.specs.declared.reply.ReplyKind.TheVariants.{Ack}
use Rattle.server_data.specs.declared.reply.Reply.{Reply}
use Rattle.lab_peer.specs.Bindings.{is_over, lease_end}
use Rattle.lab_peer.specs.Granting.{IsBoundUntil}
use Rattle.lab_peer.specs.Hearing.{hears}
use Rattle.lab_schedule.specs.declared.event.LabEvent.{LabEvent}
use Rattle.lab_schedule.specs.declared.event.LabEvent.TheVariants.{Hear}
use Rattle.lab_model.specs.Labs.{Lab, lab_after, numbered, raised}

-- Whatever lines come, an address stays bound to its client until the end of the binding has come.
abbrev pub StaysBoundInLab : Type 0
StaysBoundInLab = (addr : Ip4) (mac : Mac) (end : Option ℕ) (events : List LabEvent) (lab : Lab)
    → IsBoundUntil addr mac end lab.peer
    → (is_over end (lab_after events lab).clock ≡ true) ⊎ IsBoundUntil addr mac end (lab_after events lab).peer

-- A line lets the peer grant an address to a client: it hears a frame of the clients that is there, and says ACK.
pub record IsGranted (lab : Lab) (at frame : ℕ) (reply : Reply) : Type 0 where
  pub sending : Sending
  pub there : numbered frame lab.sent ≡ Some sending
  pub says : (hears (raised at lab) sending.bytes lab.peer).says ≡ Some reply
  pub is_ack : reply.kind ≡ Ack

-- the end of a lease that is granted by a line
abbrev pub granted_until : Lab → (at : ℕ) → Option ℕ
granted_until lab at = lease_end lab.peer.pool.lease (raised at lab)

-- The peer grants an address by one line and again by a later one. Where neither lease is over after some lines more,
-- both are one client's.
abbrev pub NoTwoAreGranted : Type 0
NoTwoAreGranted = (lab : Lab) (at frame : ℕ) (one : Reply) (between : List LabEvent)
    (later_at later_frame : ℕ) (other : Reply) (later : List LabEvent)
    → let amid = lab_after (Hear at frame ∷ between) lab in
    let after = lab_after (Hear later_at later_frame ∷ later) amid in
    IsGranted lab at frame one → IsGranted amid later_at later_frame other → one.yiaddr ≡ other.yiaddr
    → is_over (granted_until lab at) after.clock ≡ false
    → is_over (granted_until amid later_at) after.clock ≡ false
    → one.chaddr ≡ other.chaddr
