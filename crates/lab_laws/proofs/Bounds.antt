-- What is bound in a lab stays so.
use Rattle.std.proofs.Common.{◌≡◌, ℕ, ◌≤◌, ◌⊎◌, inl, inr, max, Bool, true, false, List, [], ◌∷◌, Option, Some, None, sym, ap, subst, ◌∙◌, arith}
use Rattle.std.proofs.lemmas.Bool.Decides.{nat_tests}
use Rattle.net_types.specs.declared.address.Ip4.{Ip4}
use Rattle.net_types.specs.declared.address.Mac.{Mac}
use Rattle.machine.specs.Moment.{moment_of}
use Rattle.client_model.specs.Clients.{Sending}
use Rattle.server_data.specs.declared.reply.Reply.{Reply}
use Rattle.lab_peer.specs.declared.binding.Bound4.{Bound4}
use Rattle.lab_peer.specs.Bindings.{is_over}
use Rattle.lab_peer.specs.Hearing.{PeerState}
use Rattle.lab_peer.specs.Granting.{IsBoundUntil}
use Rattle.lab_peer.proofs.Bound.{acks_bind, stays_bound}
use Rattle.lab_schedule.specs.declared.event.LabEvent.{LabEvent}
use Rattle.lab_schedule.specs.declared.event.LabEvent.TheVariants.{Tick, Carrier, Release, Give, Hear}
use Rattle.lab_model.specs.Labs.{Lab, lab_after, lab_step, numbered, peer_heard, raised, clients_turned, turn_given}
use Rattle.lab_laws.specs.Binding.{StaysBoundInLab, IsGranted, granted_until, NoTwoAreGranted}

-- an end that has come at a moment has come at a later one
pub over_later : (end : Option ℕ) (at now : ℕ) → at ≤ now → is_over end at ≡ true → is_over end now ≡ true
over_later None at now le over = absurd cc
over_later (Some end) at now le over = grind (arith, nat_tests, le)

rises : (a b : ℕ) → a ≤ max a b
rises a b = grind arith

module _ (addr : Ip4) (mac : Mac) (end : Option ℕ) where
  abbrev pub Stands : Lab → Type 0
  Stands lab = (is_over end lab.clock ≡ true) ⊎ IsBoundUntil addr mac end lab.peer

  -- the clock doesn't go back, and what is bound stays so
  pub record Goes (before after : Lab) : Type 0 where
    pub clock : before.clock ≤ after.clock
    pub stays : IsBoundUntil addr mac end before.peer → Stands after

  heard : (now : ℕ) (frame : Option Sending) (lab : Lab) → lab.clock ≤ now → Goes lab (peer_heard now frame lab).lab
  heard now None lab le = record { clock = le; stays = λ bound. inr bound }
  heard now (Some sending) lab le = record { clock = le; stays = λ bound. stays_bound addr mac end now sending.bytes lab.peer bound }

  pub goes : (event : LabEvent) (lab : Lab) → Goes lab (lab_step event lab).lab
  goes (Tick at salt) lab = record { clock = rises lab.clock (moment_of at); stays = λ bound. inr bound }
  goes (Carrier at salt iface up) lab = record { clock = rises lab.clock (moment_of at); stays = λ bound. inr bound }
  goes (Release at salt iface) lab = record { clock = rises lab.clock (moment_of at); stays = λ bound. inr bound }
  goes (Give at salt iface frame) lab = by (numbered frame lab.made)
    where
      by : (given : Option (List ℕ)) → Goes lab (clients_turned (turn_given (raised at lab) salt iface given) lab).lab
      by None = record { clock = rises lab.clock (moment_of at); stays = λ bound. inr bound }
      by (Some bytes) = record { clock = rises lab.clock (moment_of at); stays = λ bound. inr bound }
  goes (Hear at frame) lab = heard (raised at lab) (numbered frame lab.sent) lab (rises lab.clock (moment_of at))

  pub stands_on : (before after : Lab) → Goes before after → Stands before → Stands after
  stands_on before after g stands = elim stands [
    | inl over ↦ inl (over_later end before.clock after.clock g.clock over)
    | inr bound ↦ g.stays bound
  ]

  all_stand : (events : List LabEvent) (lab : Lab) → Stands lab → Stands (lab_after events lab)
  all_stand [] lab stands = stands
  all_stand (event ∷ events) lab stands = all_stand events (lab_step event lab).lab (stands_on lab (lab_step event lab).lab (goes event lab) stands)

pub stays_bound_in_lab : StaysBoundInLab
stays_bound_in_lab addr mac end events lab bound = all_stand addr mac end events lab (inr bound)

-- ---- two grants of one address

granted_here : (lab : Lab) (at frame : ℕ) (reply : Reply) → IsGranted lab at frame reply
    → IsBoundUntil reply.yiaddr reply.chaddr (granted_until lab at) (lab_step (Hear at frame) lab).lab.peer
granted_here lab at frame reply g =
    subst (λ (there : Option Sending). IsBoundUntil reply.yiaddr reply.chaddr (granted_until lab at) (peer_heard (raised at lab) there lab).lab.peer)
    (sym g.there)
    (acks_bind (raised at lab) g.sending.bytes lab.peer reply g.says g.is_ack)

pub one_binding : (addr : Ip4) (a b : Mac) (end other : Option ℕ) (peer : PeerState) → IsBoundUntil addr a end peer → IsBoundUntil addr b other peer → a ≡ b
one_binding addr a b end other peer h i = sym h.of_client ∙ ap (λ (bound : Bound4). bound.mac) (one_is h.bound i.bound (sym h.is ∙ i.is)) ∙ i.of_client
  where
    one_is : (x y : Bound4) → Some x ≡ Some y → x ≡ y
    one_is x y e = cc

not_over : {A : Type 0} (over : Bool) → over ≡ false → (over ≡ true) ⊎ A → A
not_over true is h = absurd cc
not_over false is h = elim h [ inl bad ↦ absurd cc | inr it ↦ it ]

pub no_two_are_granted : NoTwoAreGranted
no_two_are_granted lab at frame one between later_at later_frame other later g h same lasts lasts_too =
    let amid : Lab = lab_after (Hear at frame ∷ between) lab in
    let after : Lab = lab_after (Hear later_at later_frame ∷ later) amid in
    let first : Stands one.yiaddr one.chaddr (granted_until lab at) after =
    all_stand one.yiaddr one.chaddr (granted_until lab at) (Hear later_at later_frame ∷ later) amid
    (all_stand one.yiaddr one.chaddr (granted_until lab at) between (lab_step (Hear at frame) lab).lab (inr (granted_here lab at frame one g))) in
    let second : Stands other.yiaddr other.chaddr (granted_until amid later_at) after =
    all_stand other.yiaddr other.chaddr (granted_until amid later_at) later (lab_step (Hear later_at later_frame) amid).lab
    (inr (granted_here amid later_at later_frame other h)) in
    let held : IsBoundUntil one.yiaddr one.chaddr (granted_until lab at) after.peer = not_over (is_over (granted_until lab at) after.clock) lasts first in
    let held_too : IsBoundUntil other.yiaddr other.chaddr (granted_until amid later_at) after.peer =
    not_over (is_over (granted_until amid later_at) after.clock) lasts_too second in
    one_binding one.yiaddr one.chaddr other.chaddr (granted_until lab at) (granted_until amid later_at) after.peer held
    (subst (λ (addr : Ip4). IsBoundUntil addr other.chaddr (granted_until amid later_at) after.peer) (sym same) held_too)
