-- The life that is written out is one, and its turns come in time.
use Rattle.std.proofs.Common.{◌≡◌, ℕ, ◌+◌, List, [], ◌∷◌, map, Option, Some, None, refl, sym, ap, subst, ◌∙◌, lit<, lit≤}
use lib.Count.{count_leading_zeros}
use Rattle.net_types.specs.Marks.{AreBytes}
use Rattle.net_types.specs.declared.address.Mac.{Mac}
use Rattle.frame_link.specs.declared.arp.ArpView.{ArpView}
use Rattle.v4_frames.specs.Heard.{HeardMessage, heard4_in}
use Rattle.v6_frames.specs.Heard.{HeardMessage6, heard6_in}
use Rattle.v6_client.specs.Runs.{tick_turned}
use Rattle.v4_message.specs.declared.kind.MessageKind.{MessageKind}
use Rattle.v4_message.specs.declared.kind.MessageKind.TheVariants as kind
use Rattle.world.specs.declared.wakes.Event.TheVariants.{Frame, Quiet}
use Rattle.client_model.specs.declared.interfaces.Iface.{Iface}
use Rattle.client_model.specs.ClientSettings.{ask_of}
use Rattle.client_model.specs.Clients.{frame_of}
use Rattle.client_model.specs.IfaceSteps.{IfaceStep, then_step}
use Rattle.client_model.specs.IfaceTurns.{arp_heard, hears_either, iface_turned}
use Rattle.client_model.specs.Interfaces.{iface_due, ticked}
use Rattle.evidence_words.specs.Entries.{Offer}
use Rattle.evidence_words.specs.IfaceLives.{iface_after, IsLived}
use Rattle.lease_evidence.specs.PlainIface.{client_mac}
use Rattle.lease_evidence.specs.SevenTurns.{announces, beginning, discovers, duid, granted, interface, met, opening, reply_frame, requests, server_mac}
use Rattle.lease_evidence.proofs.LeasedInputs.{packet_no_message}
use Rattle.lease_evidence.proofs.SevenTurnsHeard.{ack_heard, offer_heard, seven_lived}
use Rattle.lease_progress.specs.OneLife.{nine_turns}
use Rattle.lease_progress.specs.Prompt.{IsPrompt, NotAfter}

-- ---- what the server's frames say

abbrev pub heard : MessageKind → ℕ → HeardMessage
heard sort number = record {
  source = server_mac;
  message = record {
    kind = sort;
    xid = 1;
    yiaddr = granted;
    chaddr = client_mac;
    instances = (53, number ∷ []) ∷ (54, 192 ∷ 168 ∷ 1 ∷ 1 ∷ []) ∷ (51, 0 ∷ 0 ∷ 14 ∷ 16 ∷ []) ∷ (1, 255 ∷ 255 ∷ 255 ∷ 0 ∷ []) ∷ [];
  };
}

-- a message is no ARP packet
no_packet_so : (bytes : List ℕ) (message : HeardMessage) → heard4_in client_mac bytes ≡ Some message → (arp : Option ArpView) → arp_heard bytes ≡ arp
    → arp ≡ None
no_packet_so bytes message h None is = refl
no_packet_so bytes message h (Some arp) is = absurd (unlike (sym (packet_no_message client_mac bytes arp is) ∙ h))
  where
    unlike : None ≡ Some message → ⊥
    unlike bad = cc

pub offer_alone : arp_heard (reply_frame 2) ≡ None
offer_alone = no_packet_so (reply_frame 2) (heard kind.Offer 2) offer_heard (arp_heard (reply_frame 2)) refl

pub ack_alone : arp_heard (reply_frame 5) ≡ None
ack_alone = no_packet_so (reply_frame 5) (heard kind.Ack 5) ack_heard (arp_heard (reply_frame 5)) refl

-- ---- the turns

abbrev pub own : List Mac
own = client_mac ∷ []

-- the interface after the turn of its DISCOVER
abbrev seeking : Iface
seeking = iface_after own beginning opening (met 1001 Quiet [] discovers ∷ [])

abbrev pub hearing : ℕ → Iface → Option ArpView → Option HeardMessage → Option HeardMessage6 → IfaceStep
hearing at iface arp message other = then_step (ticked at 0 iface) (hears_either own at 0 arp message other)

-- a message is heard as what it says
pub heard_as : (at number : ℕ) (sort : MessageKind) → arp_heard (reply_frame number) ≡ None
    → heard4_in client_mac (reply_frame number) ≡ Some (heard sort number) → (f : Iface)
    → hearing at f (arp_heard (reply_frame number)) (heard4_in client_mac (reply_frame number)) (heard6_in client_mac (reply_frame number))
    ≡ hearing at f None (Some (heard sort number)) None
heard_as at number sort alone is f =
    ap (λ (arp : Option ArpView). hearing at f arp (heard4_in client_mac (reply_frame number)) (heard6_in client_mac (reply_frame number))) alone
    ∙ ap (λ (message : Option HeardMessage). hearing at f None message (heard6_in client_mac (reply_frame number))) is

asking : iface_turned own (met 2000 (Frame 1 304) (reply_frame 2) requests).turn seeking ≡ hearing 2000 seeking None (Some (heard kind.Offer 2)) None
asking = heard_as 2000 2 kind.Offer offer_alone offer_heard seeking

abbrev asked : Iface
asked = (hearing 2000 seeking None (Some (heard kind.Offer 2)) None).iface

holding : iface_turned own (met 2500 (Frame 1 304) (reply_frame 5) []).turn asked ≡ hearing 2500 asked None (Some (heard kind.Ack 5)) None
holding = heard_as 2500 5 kind.Ack ack_alone ack_heard asked

abbrev granted_then : IfaceStep
granted_then = hearing 2500 asked None (Some (heard kind.Ack 5)) None

abbrev the_ack : IfaceStep
the_ack = iface_turned own (met 2500 (Frame 1 304) (reply_frame 5) []).turn
    (iface_turned own (met 2000 (Frame 1 304) (reply_frame 2) requests).turn seeking).iface

acked : the_ack ≡ granted_then
acked = ap (λ (step : IfaceStep). iface_turned own (met 2500 (Frame 1 304) (reply_frame 5) []).turn step.iface) asking ∙ holding

abbrev quiet_turn : ℕ → Iface → IfaceStep
quiet_turn at iface = iface_turned own (met at Quiet [] []).turn iface

-- the turns after that of an ACK: three probes, two announcements, and a minute later
abbrev pub probing1 : (ack : ℕ) → IfaceStep → IfaceStep
probing1 ack step = quiet_turn (ack + 1) step.iface

abbrev pub probing2 : (ack : ℕ) → IfaceStep → IfaceStep
probing2 ack step = quiet_turn (ack + 1002) (probing1 ack step).iface

abbrev pub probing3 : (ack : ℕ) → IfaceStep → IfaceStep
probing3 ack step = quiet_turn (ack + 2003) (probing2 ack step).iface

abbrev pub announcing1 : (ack : ℕ) → IfaceStep → IfaceStep
announcing1 ack step = quiet_turn (ack + 4003) (probing3 ack step).iface

abbrev pub announcing2 : (ack : ℕ) → IfaceStep → IfaceStep
announcing2 ack step = quiet_turn (ack + 6003) (announcing1 ack step).iface

abbrev pub resting : (ack : ℕ) → IfaceStep → IfaceStep
resting ack step = quiet_turn (ack + 62500) (announcing2 ack step).iface

-- ---- a life

pub nothing : AreBytes []
nothing i = lit< tt

abbrev pub SaidBy : List Offer → IfaceStep → Type 0
SaidBy offers step = map (λ o. o.bytes) offers ≡ map (frame_of interface.spec (ask_of duid interface)) step.said

said_after : (offers : List Offer) (next : IfaceStep → IfaceStep) → SaidBy offers (next granted_then) → SaidBy offers (next the_ack)
said_after offers next said = subst (λ (step : IfaceStep). SaidBy offers (next step)) (sym acked) said

pub nine_lived : IsLived own beginning opening nine_turns
unfolding count_leading_zeros tick_turned
nine_lived = (lit< tt, nothing, refl, said_after [] (resting 2500) refl, (lit< tt, nothing, refl, said_after announces (announcing2 2500) refl, seven_lived))

-- ---- in time

abbrev pub SoonBy : ℕ → ℕ → IfaceStep → Type 0
SoonBy last at step = NotAfter (iface_due step.iface) last at

soon_after : (last at : ℕ) (next : IfaceStep → IfaceStep) → SoonBy last at (next granted_then) → SoonBy last at (next the_ack)
soon_after last at next soon = subst (λ (step : IfaceStep). SoonBy last at (next step)) (sym acked) soon

pub nine_prompt : IsPrompt own beginning opening nine_turns
unfolding count_leading_zeros tick_turned
nine_prompt = (
  lit≤ tt,
  soon_after 8503 65000 (announcing2 2500) (lit≤ tt),
  (
    lit≤ tt,
    soon_after 6503 8503 (announcing1 2500) (lit≤ tt),
    (
      lit≤ tt,
      soon_after 4503 6503 (probing3 2500) (lit≤ tt),
      (
        lit≤ tt,
        soon_after 3502 4503 (probing2 2500) (lit≤ tt),
        (
          lit≤ tt,
          soon_after 2501 3502 (probing1 2500) (lit≤ tt),
          (
            lit≤ tt,
            soon_after 2500 2501 (λ step. step) (lit≤ tt),
            (lit≤ tt, subst (λ (step : IfaceStep). SoonBy 2000 2500 step) (sym asking) (lit≤ tt), (lit≤ tt, lit≤ tt, (lit≤ tt, lit≤ tt, tt))),
          ),
        ),
      ),
    ),
  ),
)
