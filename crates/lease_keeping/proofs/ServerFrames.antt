-- What the server of the lives that are written out says, and what a frame of it is to the interface.
use Rattle.std.proofs.Common.{◌≡◌, ℕ, ◌<◌, ◌&&◌, Bool, true, false, List, [], ◌∷◌, length, Option, Some, None, nat_lt, refl, sym, ap, subst, ◌∙◌, arith, lit<, lit≤}
use Rattle.std.proofs.lemmas.Bool.Decides.{nat_tests}
use Rattle.std.specs.List.{list_all}
use Rattle.std.specs.Prelude.{option_map, option_and_then}
use Rattle.net_types.specs.Marks.{AreBytes}
use Rattle.net_types.specs.NameText.{is_name, name_text}
use Rattle.frame_link.specs.declared.arp.ArpView.{ArpView}
use Rattle.udp_frame.proofs.Cells.{AllSmall, all_bytes}
use Rattle.udp_frame.proofs.Laws.{alone_is_heard, frame_is_heard}
use Rattle.udp_frame.specs.declared.udp4.Ends4.{Ends4}
use Rattle.udp_frame.specs.Udp4Frames.{said4, udp4_text, udp4_frame_text, udp4_in}
use Rattle.v4_message.specs.declared.kind.MessageKind.{MessageKind}
use Rattle.v4_message.specs.declared.kind.MessageKind.TheVariants as kind
use Rattle.v4_message.specs.Message.{message_instances, malformed_place}
use Rattle.v4_message.specs.Messages.{Message4, message_in}
use Rattle.v4_options.specs.OptionArea.{Instance, front_of, instances_in, malformed_in}
use Rattle.v4_options.specs.Overload.{overload_in}
use Rattle.v4_frames.specs.Heard.{HeardMessage, with_source, message_to, message_for, heard4_in}
use Rattle.v6_frames.specs.Heard.{HeardMessage6, heard6_in}
use Rattle.world.specs.declared.wakes.Event.TheVariants.{Frame}
use Rattle.settings.specs.Fitting.{FitsManaged}
use Rattle.settings.specs.declared.interfaces.Managed.{Managed}
use Rattle.client_model.specs.declared.interfaces.Iface.{Iface}
use Rattle.client_model.specs.Fitting.{FitsBeginning}
use Rattle.client_model.specs.IfaceSteps.{IfaceStep, then_step}
use Rattle.client_model.specs.IfaceTurns.{arp_of_frame, arp_heard, hears_either, iface_turned}
use Rattle.client_model.specs.Interfaces.{ticked}
use Rattle.evidence_words.specs.Entries.{Offer}
use Rattle.evidence_words.specs.IfaceLives as lives
use Rattle.evidence_words.specs.IfaceLives.{Met, entry_of, opening_entry, shown, iface_after, IsLived}
use Rattle.evidence_words.specs.Inputs.{Site}
use Rattle.lease_evidence.specs.PlainIface.{client_mac}
use Rattle.lease_evidence.specs.SevenTurns.{server_mac, server, granted, duid, opening, met}
use Rattle.lease_keeping.specs.KeptLives.{unprobed, own_macs, beginning, reply_text, reply_frame}

-- ---- the server's messages

abbrev pub instances : (number : ℕ) → List Instance
instances number =
    (53, number ∷ []) ∷ (54, 192 ∷ 168 ∷ 1 ∷ 1 ∷ []) ∷ (51, 0 ∷ 0 ∷ 14 ∷ 16 ∷ []) ∷ (58, 0 ∷ 0 ∷ 7 ∷ 8 ∷ []) ∷ (59, 0 ∷ 0 ∷ 7 ∷ 68 ∷ [])
    ∷ (1, 255 ∷ 255 ∷ 255 ∷ 0 ∷ []) ∷ []

abbrev pub message : MessageKind → (xid number : ℕ) → Message4
message sort xid number = record { kind = sort; xid = xid; yiaddr = granted; chaddr = client_mac; instances = instances number }

abbrev pub Read : MessageKind → (xid number : ℕ) → Type 0
Read sort xid number = message_in (reply_text xid number) ≡ Some (message sort xid number)

pub offer_read : Read kind.Offer 1 2
unfolding message_in message_instances malformed_place front_of instances_in malformed_in overload_in
offer_read = refl

pub ack1_read : Read kind.Ack 1 5
unfolding message_in message_instances malformed_place front_of instances_in malformed_in overload_in
ack1_read = refl

pub ack2_read : Read kind.Ack 2 5
unfolding message_in message_instances malformed_place front_of instances_in malformed_in overload_in
ack2_read = refl

-- ---- its frames

pub both : (a b : Bool) → (a && b) ≡ true → (a ≡ true) × (b ≡ true)
both true true h = (refl, refl)
both true false h = absurd cc
both false b h = absurd cc

pub below : (b : ℕ) → nat_lt b 256 ≡ true → b < 256
below b h = grind (arith, nat_tests)

pub all_small : (xs : List ℕ) → list_all (λ b. nat_lt b 256) xs ≡ true → AllSmall xs
all_small [] h = tt
all_small (x ∷ xs) h =
    let parts = both (nat_lt x 256) (list_all (λ b. nat_lt b 256) xs) h in (below x parts.0, all_small xs parts.1)

pub are_bytes : (xs : List ℕ) → list_all (λ b. nat_lt b 256) xs ≡ true → AreBytes xs
are_bytes xs h = all_bytes xs (all_small xs h)

abbrev pub ends : Ends4
ends = record { from_mac = server_mac; to_mac = client_mac; from = server; to = granted }

abbrev pub heard : MessageKind → (xid number : ℕ) → HeardMessage
heard sort xid number = record { source = server_mac; message = message sort xid number }

pub datagram_heard : (payload : List ℕ) → length payload ≡ 274 → AreBytes payload
    → udp4_in (udp4_text (said4 server granted 67 68 payload)) ≡ Some (said4 server granted 67 68 payload)
datagram_heard payload len range = alone_is_heard (said4 server granted 67 68 payload) (lit< tt) (lit< tt) (lit< tt) (lit< tt) (omega (arith, len)) range

pub frame_heard : (sort : MessageKind) (xid number : ℕ) → length (reply_text xid number) ≡ 274 → AreBytes (reply_text xid number) → Read sort xid number
    → heard4_in client_mac (reply_frame xid number) ≡ Some (heard sort xid number)
unfolding heard4_in
frame_heard sort xid number len range read =
    ap (option_and_then (message_for client_mac)) (frame_is_heard ends 67 68 (reply_text xid number) refl refl)
    ∙ ap (option_and_then (message_to server_mac)) (datagram_heard (reply_text xid number) len range)
    ∙ ap (option_map (with_source server_mac)) read

pub no_packet : (xid number : ℕ) → arp_heard (reply_frame xid number) ≡ None
no_packet xid number = ap (option_and_then arp_of_frame) (frame_is_heard ends 67 68 (reply_text xid number) refl refl)

abbrev pub Hears : MessageKind → (xid number : ℕ) → Type 0
Hears sort xid number = heard4_in client_mac (reply_frame xid number) ≡ Some (heard sort xid number)

pub offer_heard : Hears kind.Offer 1 2
offer_heard = frame_heard kind.Offer 1 2 refl (are_bytes (reply_text 1 2) refl) offer_read

pub ack1_heard : Hears kind.Ack 1 5
ack1_heard = frame_heard kind.Ack 1 5 refl (are_bytes (reply_text 1 5) refl) ack1_read

pub ack2_heard : Hears kind.Ack 2 5
ack2_heard = frame_heard kind.Ack 2 5 refl (are_bytes (reply_text 2 5) refl) ack2_read

pub offer_bytes : AreBytes (reply_frame 1 2)
unfolding udp4_frame_text udp4_text
offer_bytes = are_bytes (reply_frame 1 2) refl

pub ack1_bytes : AreBytes (reply_frame 1 5)
unfolding udp4_frame_text udp4_text
ack1_bytes = are_bytes (reply_frame 1 5) refl

pub ack2_bytes : AreBytes (reply_frame 2 5)
unfolding udp4_frame_text udp4_text
ack2_bytes = are_bytes (reply_frame 2 5) refl

pub no_bytes : AreBytes []
no_bytes i = lit< tt

-- ---- the interface

pub unprobed_fits : FitsManaged unprobed
unfolding is_name name_text
unprobed_fits = record {
  index = (lit≤ tt, lit≤ tt);
  name = record { spelled = refl; within = lit≤ tt; fifteen = refl; padded = refl };
  mac = record { six = refl; range = are_bytes client_mac.bytes refl };
  metric = tt;
  address = tt;
  address6 = tt;
  router = tt;
  dhcp4 = record { host = lit< tt; vendor = lit< tt; identifier = tt };
  dhcp6 = record { few = lit≤ tt; each = tt; shares = tt; unlike = λ i j d before within. absurd (omega (arith, within)) };
}

pub fits : FitsBeginning beginning
fits = record {
  managed = unprobed_fits;
  duid = record { least = lit≤ tt; most = lit≤ tt; octets = are_bytes duid refl };
  kept4 = tt;
  kept6 = tt;
}

abbrev pub site : Site
site = lives.site_of own_macs beginning opening

abbrev pub after : List Met → Iface
after mets = iface_after own_macs beginning opening mets

abbrev pub turned : Met → Iface → IfaceStep
turned m f = iface_turned own_macs m.turn f

abbrev pub hearing : ℕ → Iface → Option ArpView → Option HeardMessage → Option HeardMessage6 → IfaceStep
hearing at f arp came other = then_step (ticked at 0 f) (hears_either own_macs at 0 arp came other)

-- after a turn in which a message came
abbrev pub told : ℕ → HeardMessage → Iface → IfaceStep
told at h f = hearing at f None (Some h) None

pub told_as : (at xid number : ℕ) (sort : MessageKind) → Hears sort xid number → (f : Iface)
    → hearing at f (arp_heard (reply_frame xid number)) (heard4_in client_mac (reply_frame xid number)) (heard6_in client_mac (reply_frame xid number))
    ≡ told at (heard sort xid number) f
told_as at xid number sort is f =
    ap (λ (arp : Option ArpView). hearing at f arp (heard4_in client_mac (reply_frame xid number)) (heard6_in client_mac (reply_frame xid number)))
    (no_packet xid number)
    ∙ ap (λ (m : Option HeardMessage). hearing at f None m (heard6_in client_mac (reply_frame xid number))) is

-- a turn of this interface in which such a frame comes
pub told_turn : (at xid number : ℕ) (sort : MessageKind) → Hears sort xid number → (said : List Offer) (f : Iface) → f.managed ≡ unprobed → f.stopped ≡ false
    → turned (met at (Frame 1 316) (reply_frame xid number) said) f ≡ told at (heard sort xid number) f
told_turn at xid number sort is said f managed stopped =
    subst (λ (g : Iface). turned (met at (Frame 1 316) (reply_frame xid number) said) g ≡ told at (heard sort xid number) g)
    (ap (λ (m : Managed). record f { managed = m; stopped = false }) (sym managed) ∙ ap (λ (b : Bool). record f { stopped = b }) (sym stopped))
    (told_as at xid number sort is (record f { managed = unprobed; stopped = false }))
