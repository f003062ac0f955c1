-- The messages of DHCPv4 that an interface says in a life, and which of them may follow which with one transaction
-- number (RFC 2131, section 4.4).
use Rattle.std.specs.Prelude.{◌≡◌, ℕ, ◌⊎◌, List, [], ◌∷◌}
use Rattle.net_types.specs.declared.address.Mac.{Mac}
use Rattle.v4_message.specs.declared.writing.Kind4.{Kind4}
use Rattle.v4_message.specs.declared.writing.Kind4.TheVariants.{Discover, Request, Decline, Release}
use Rattle.v4_message.specs.declared.writing.Said4.{Said4}
use Rattle.client_model.specs.IfaceSteps.{IfaceStep}
use Rattle.client_model.specs.IfaceTurns.{Turn, iface_turned}
use Rattle.client_model.specs.Interfaces.{opened}
use Rattle.client_model.specs.KeptLeases.{Beginning}
use Rattle.client_model.specs.Messages.{Said, Arp, Dhcp4, Dhcp6}

-- how an interface begins: its beginning, the hardware addresses of all interfaces, which have carrier, the moment
-- and the salt
pub record Start : Type 0 where
  pub own : List Mac
  pub beginning : Beginning
  pub up : ℕ
  pub at : ℕ
  pub salt : ℕ

-- its last step after an opening and some turns, the last turn first
abbrev pub step_after : Start → List Turn → IfaceStep
step_after start [] = opened start.up start.at start.salt start.beginning
step_after start (turn ∷ turns) = iface_turned start.own turn (step_after start turns).iface

-- the messages of DHCPv4 among what is said, in front of those before, the last one first
abbrev pub said_onto : List Said → List Said4 → List Said4
said_onto [] past = past
said_onto (Dhcp4 say ∷ said) past = said_onto said (say.said ∷ past)
said_onto (Arp say ∷ said) past = said_onto said past
said_onto (Dhcp6 sent ∷ said) past = said_onto said past

-- all its messages
abbrev pub messages_after : Start → List Turn → List Said4
messages_after start [] = said_onto (step_after start []).said []
messages_after start (turn ∷ turns) = said_onto (step_after start (turn ∷ turns)).said (messages_after start turns)

-- A message may come after one of this kind with the same number: a DISCOVER after a DISCOVER alone, and a REQUEST
-- after a DISCOVER or a REQUEST.
abbrev pub MayCome : (kind last : Kind4) → Type 0
MayCome Discover last = last ≡ Discover
MayCome Request last = (last ≡ Discover) ⊎ (last ≡ Request)
MayCome Decline last = Unit {0}
MayCome Release last = Unit {0}

-- so where the last of some messages has this number
abbrev pub MayComeAfter : Kind4 → (xid : ℕ) → List Said4 → Type 0
MayComeAfter kind xid [] = Unit {0}
MayComeAfter kind xid (last ∷ past) = last.xid ≡ xid → MayCome kind last.kind

abbrev pub MayFollow : Said4 → List Said4 → Type 0
MayFollow said past = MayComeAfter said.kind said.xid past

abbrev pub FollowEach : List Said4 → Type 0
FollowEach [] = Unit {0}
FollowEach (said ∷ past) = MayFollow said past × FollowEach past

-- In each life of an interface each message may follow those before it.
abbrev pub MessagesFollow : Type 0
MessagesFollow = (start : Start) (turns : List Turn) → FollowEach (messages_after start turns)
