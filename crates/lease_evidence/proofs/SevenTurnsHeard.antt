-- What the server's frames of the example say, and that the example is a life with a lease.
use Rattle.std.proofs.Common.{◌≡◌, ℕ, ◌<◌, Bool, true, false, ◌&&◌, List, [], ◌∷◌, length, map, Option, Some, None, refl, sym, ap, subst, ◌∙◌, lit<, lit≤, nat_lt, arith}
use Rattle.std.proofs.lemmas.Bool.Decides.{nat_tests}
use Rattle.net_types.specs.NameText.{is_name, name_text}
use Rattle.settings.specs.Fitting.{FitsManaged}
use lib.Count.{count_leading_zeros}
use Rattle.std.specs.List.{list_all}
use Rattle.std.specs.Prelude.{option_map, option_and_then}
use Rattle.net_types.specs.Marks.{AreBytes}
use Rattle.udp_frame.proofs.Cells.{AllSmall, all_bytes}
use Rattle.udp_frame.proofs.Laws.{alone_is_heard, frame_is_heard}
use Rattle.udp_frame.specs.declared.udp4.Ends4.{Ends4}
use Rattle.udp_frame.specs.Udp4Frames.{Udp4, said4, udp4_text, udp4_frame_text, udp4_in}
use Rattle.v4_message.specs.declared.kind.MessageKind.{MessageKind}
use Rattle.v4_message.specs.declared.kind.MessageKind.TheVariants as kind
use Rattle.v4_message.specs.Message.{message_instances, malformed_place}
use Rattle.v4_message.specs.Messages.{Message4, message_in}
use Rattle.v4_options.specs.OptionArea.{Instance, front_of, instances_in, malformed_in}
use Rattle.v4_options.specs.Overload.{overload_in}
use Rattle.v4_frames.specs.Heard.{HeardMessage, with_source, message_to, message_for, heard4_in}
use Rattle.evidence_words.specs.V6Frames.Heard.{HeardMessage6, heard6_in}
use Rattle.v4_client.specs.Clients.{held_of}
use Rattle.evidence_words.specs.V6Client.Runs.{tick_turned}
use Rattle.world.specs.declared.wakes.Event.TheVariants.{Frame, Quiet}
use Rattle.net_types.specs.declared.address.Mac.{Mac}
use Rattle.frame_link.specs.declared.arp.ArpView.{ArpView}
use Rattle.evidence_words.specs.ClientModel.declared.interfaces.Iface.{Iface}
use Rattle.evidence_words.specs.ClientModel.ClientSettings.{ask_of}
use Rattle.evidence_words.specs.ClientModel.Clients.{frame_of}
use Rattle.evidence_words.specs.ClientModel.IfaceSteps.{IfaceStep, then_step}
use Rattle.evidence_words.specs.ClientModel.IfaceTurns.{arp_of_frame, arp_heard, hears_either, iface_turned}
use Rattle.evidence_words.specs.ClientModel.Interfaces.{ticked}
use Rattle.evidence_words.specs.Entries.{Offer}
use Rattle.evidence_words.specs.Inputs.{Site}
use Rattle.evidence_words.specs.IfaceLives.{site_of, iface_after, IsLived}
use Rattle.evidence_words.specs.ClientModel.Fitting.{FitsBeginning}
use Rattle.lease_evidence.specs.PlainIface.{client_mac}
use Rattle.lease_evidence.specs.SevenTurns.{server_mac, server, granted, duid, interface, reply_text, options_text, reply_frame, requests, discovers, beginning, opening, met, probes, announces, seven_turns, lease}

-- ---- the server's messages

abbrev instances : (number : ℕ) → List Instance
instances number = (53, number ∷ []) ∷ (54, 192 ∷ 168 ∷ 1 ∷ 1 ∷ []) ∷ (51, 0 ∷ 0 ∷ 14 ∷ 16 ∷ []) ∷ (1, 255 ∷ 255 ∷ 255 ∷ 0 ∷ []) ∷ []

abbrev message : MessageKind → ℕ → Message4
message sort number = record { kind = sort; xid = 1; yiaddr = granted; chaddr = client_mac; instances = instances number }

abbrev payload : ℕ → List ℕ
payload number = reply_text (options_text number)

offer_read : message_in (payload 2) ≡ Some (message kind.Offer 2)
unfolding message_in message_instances malformed_place front_of instances_in malformed_in overload_in
offer_read = refl

ack_read : message_in (payload 5) ≡ Some (message kind.Ack 5)
unfolding message_in message_instances malformed_place front_of instances_in malformed_in overload_in
ack_read = refl

-- ---- its frames

both : (a b : Bool) → (a && b) ≡ true → (a ≡ true) × (b ≡ true)
both true true h = (refl, refl)
both true false h = absurd cc
both false b h = absurd cc

below : (b : ℕ) → nat_lt b 256 ≡ true → b < 256
below b h = grind (arith, nat_tests)

all_small : (xs : List ℕ) → list_all (λ b. nat_lt b 256) xs ≡ true → AllSmall xs
all_small [] h = tt
all_small (x ∷ xs) h =
    let parts = both (nat_lt x 256) (list_all (λ b. nat_lt b 256) xs) h in (below x parts.0, all_small xs parts.1)

payload_bytes : (number : ℕ) → list_all (λ b. nat_lt b 256) (payload number) ≡ true → AreBytes (payload number)
payload_bytes number h = all_bytes (payload number) (all_small (payload number) h)

abbrev ends : Ends4
ends = record { from_mac = server_mac; to_mac = client_mac; from = server; to = granted }

abbrev datagram : ℕ → Udp4
datagram number = said4 server granted 67 68 (payload number)

datagram_heard : (number : ℕ) → length (payload number) ≡ 262 → AreBytes (payload number) → udp4_in (udp4_text (datagram number)) ≡ Some (datagram number)
datagram_heard number len range = alone_is_heard (datagram number) (lit< tt) (lit< tt) (lit< tt) (lit< tt) (omega (arith, len)) range

abbrev heard : MessageKind → ℕ → HeardMessage
heard sort number = record { source = server_mac; message = message sort number }

frame_heard : (sort : MessageKind) (number : ℕ) → length (payload number) ≡ 262 → AreBytes (payload number)
    → message_in (payload number) ≡ Some (message sort number)
    → heard4_in client_mac (reply_frame number) ≡ Some (heard sort number)
unfolding heard4_in
frame_heard sort number len range read =
    ap (option_and_then (message_for client_mac)) (frame_is_heard ends 67 68 (payload number) refl refl)
    ∙ ap (option_and_then (message_to server_mac)) (datagram_heard number len range)
    ∙ ap (option_map (with_source server_mac)) read

no_packet : (number : ℕ) → arp_heard (reply_frame number) ≡ None
no_packet number = ap (option_and_then arp_of_frame) (frame_is_heard ends 67 68 (payload number) refl refl)

pub offer_heard : heard4_in client_mac (reply_frame 2) ≡ Some (heard kind.Offer 2)
offer_heard = frame_heard kind.Offer 2 refl (payload_bytes 2 refl) offer_read

pub ack_heard : heard4_in client_mac (reply_frame 5) ≡ Some (heard kind.Ack 5)
ack_heard = frame_heard kind.Ack 5 refl (payload_bytes 5 refl) ack_read

-- ---- the turns

abbrev own : List Mac
own = client_mac ∷ []

abbrev site : Site
site = site_of own beginning opening

-- the interface after the turn of its DISCOVER
abbrev seeking : Iface
seeking = iface_after own beginning opening (met 1001 Quiet [] discovers ∷ [])

-- the turn of a frame
abbrev hearing : ℕ → Iface → Option ArpView → Option HeardMessage → Option HeardMessage6 → IfaceStep
hearing at iface arp message other = then_step (ticked at 0 iface) (hears_either own at 0 arp message other)

asking : iface_turned own (met 2000 (Frame 1 304) (reply_frame 2) requests).turn seeking ≡ hearing 2000 seeking None (Some (heard kind.Offer 2)) None
asking =
    ap (λ (arp : Option ArpView). hearing 2000 seeking arp (heard4_in client_mac (reply_frame 2)) (heard6_in client_mac (reply_frame 2))) (no_packet 2)
    ∙ ap (λ (message : Option HeardMessage). hearing 2000 seeking None message (heard6_in client_mac (reply_frame 2))) offer_heard

abbrev asked : Iface
asked = (hearing 2000 seeking None (Some (heard kind.Offer 2)) None).iface

holding : iface_turned own (met 2500 (Frame 1 304) (reply_frame 5) []).turn asked ≡ hearing 2500 asked None (Some (heard kind.Ack 5)) None
holding =
    ap (λ (arp : Option ArpView). hearing 2500 asked arp (heard4_in client_mac (reply_frame 5)) (heard6_in client_mac (reply_frame 5))) (no_packet 5)
    ∙ ap (λ (message : Option HeardMessage). hearing 2500 asked None message (heard6_in client_mac (reply_frame 5))) ack_heard

abbrev granted_then : IfaceStep
granted_then = hearing 2500 asked None (Some (heard kind.Ack 5)) None

-- the turn of the ACK
acked : iface_turned own (met 2500 (Frame 1 304) (reply_frame 5) []).turn
    (iface_turned own (met 2000 (Frame 1 304) (reply_frame 2) requests).turn seeking).iface
    ≡ granted_then
acked = ap (λ (step : IfaceStep). iface_turned own (met 2500 (Frame 1 304) (reply_frame 5) []).turn step.iface) asking ∙ holding

-- a turn without input
abbrev quiet_turn : ℕ → Iface → IfaceStep
quiet_turn at iface = iface_turned own (met at Quiet [] []).turn iface

abbrev second : IfaceStep → IfaceStep
second step = quiet_turn 3502 (quiet_turn 2501 step.iface).iface

abbrev third : IfaceStep → IfaceStep
third step = quiet_turn 4503 (second step).iface

abbrev fourth : IfaceStep → IfaceStep
fourth step = quiet_turn 6503 (third step).iface

pub seven_hold : held_of (iface_after own beginning opening seven_turns).dhcp4 ≡ Some lease
unfolding count_leading_zeros
seven_hold = ap (λ (step : IfaceStep). held_of (fourth step).iface.dhcp4) acked

frame_bytes : (number : ℕ) → list_all (λ b. nat_lt b 256) (reply_frame number) ≡ true → AreBytes (reply_frame number)
frame_bytes number h = all_bytes (reply_frame number) (all_small (reply_frame number) h)

offer_bytes : AreBytes (reply_frame 2)
unfolding udp4_frame_text udp4_text
offer_bytes = frame_bytes 2 refl

ack_bytes : AreBytes (reply_frame 5)
unfolding udp4_frame_text udp4_text
ack_bytes = frame_bytes 5 refl

nothing : AreBytes []
nothing i = lit< tt

abbrev SaidBy : List Offer → IfaceStep → Type 0
SaidBy offers step = map (λ o. o.bytes) offers ≡ map (frame_of interface.spec (ask_of duid interface)) step.said

said_after : (offers : List Offer) (next : IfaceStep → IfaceStep) → SaidBy offers (next granted_then)
    → SaidBy offers
    (next
    (iface_turned own (met 2500 (Frame 1 304) (reply_frame 5) []).turn
    (iface_turned own (met 2000 (Frame 1 304) (reply_frame 2) requests).turn seeking).iface))
said_after offers next said = subst (λ (step : IfaceStep). SaidBy offers (next step)) (sym acked) said

pub seven_lived : IsLived own beginning opening seven_turns
unfolding count_leading_zeros tick_turned
seven_lived = (
  lit< tt,
  nothing,
  refl,
  said_after announces fourth refl,
  (
    lit< tt,
    nothing,
    refl,
    said_after probes third refl,
    (
      lit< tt,
      nothing,
      refl,
      said_after probes second refl,
      (
        lit< tt,
        nothing,
        refl,
        said_after probes (λ step. quiet_turn 2501 step.iface) refl,
        (
          lit< tt,
          ack_bytes,
          refl,
          said_after [] (λ step. step) refl,
          (
            lit< tt,
            offer_bytes,
            refl,
            subst (SaidBy requests) (sym asking) refl,
            (lit< tt, nothing, refl, refl, (lit< tt, refl)),
          ),
        ),
      ),
    ),
  ),
)

pub interface_fits : FitsManaged interface
unfolding is_name name_text
interface_fits = record {
  index = (lit≤ tt, lit≤ tt);
  name = record { spelled = refl; within = lit≤ tt; fifteen = refl; padded = refl };
  mac = record { six = refl; range = all_bytes client_mac.bytes (all_small client_mac.bytes refl) };
  metric = tt;
  address = tt;
  address6 = tt;
  router = tt;
  dhcp4 = record { host = lit< tt; vendor = lit< tt; identifier = tt };
  dhcp6 = record { few = lit≤ tt; each = tt; shares = tt; unlike = λ i j d before within. absurd (omega (arith, within)) };
}

pub beginning_fits : FitsBeginning beginning
beginning_fits = record {
  managed = interface_fits;
  duid = record { least = lit≤ tt; most = lit≤ tt; octets = all_bytes duid (all_small duid refl) };
  kept4 = tt;
  kept6 = tt;
}
