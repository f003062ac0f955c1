-- The peer of a lab reads the messages of DHCPv4 in the frames of a client, and nothing in its other frames.
use Rattle.std.proofs.Common.{◌≡◌, ◌≢◌, ℕ, ◌≤◌, Bool, true, false, List, ◌++◌, length, take, drop, Option, Some, None, refl, sym, ap, subst, arith, lit≤, if◌then◌else◌}
use Rattle.std.specs.Prelude.{option_and_then}
use Rattle.std.specs.List.{AllByRecursion}
use Rattle.std.proofs.lemmas.List.{length-append}
use Rattle.net_types.proofs.AllLaws.{all_map}
use Rattle.net_types.specs.Fields.{u16_field}
use Rattle.net_types.specs.declared.address.Ip4.{Ip4}
use Rattle.net_types.specs.declared.address.Mac.{Mac}
use Rattle.net_types.specs.declared.interface.IfSpec.{IfSpec}
use Rattle.frame_link.proofs.Cells.{six, six_cells}
use Rattle.frame_link.specs.Packets.{request_text}
use Rattle.arp_acd.specs.declared.detection.ArpSay.TheVariants.{Probe, Announce}
use Rattle.udp_frame.specs.declared.udp4.TheConstants.{KIND_IPV4}
use Rattle.udp_frame.specs.Udp6Frames.{udp6_frame_text}
use Rattle.v4_message.specs.Requests.{AskContent, AskFits}
use Rattle.v4_frames.specs.declared.sent.Sent4.{Sent4}
use Rattle.v4_frames.specs.InRange.{FitsMac}
use Rattle.v4_frames.specs.Spelled.{if_spelled, seen_in, sent_in}
use Rattle.v4_frames.proofs.OtherKinds.{others_spell_nothing}
use Rattle.v6_frames.specs.Spelled.{Sent6, frame6_of}
use Rattle.v4_client.specs.Saying.{sent_of}
use Rattle.settings.specs.declared.interfaces.Managed.{Managed}
use Rattle.client_model.specs.ClientSettings.{ask_of}
use Rattle.client_model.specs.Clients.{frame_of}
use Rattle.client_model.specs.Messages.{Said, Dhcp4, Arp, Dhcp6}
use Rattle.client_model.proofs.AskFitting as asking
use Rattle.lab_peer.specs.ClientFrames.{ask_in, ask_fits, if_of_a_client, if_said, client_sent}
use Rattle.lab_peer.proofs.ClientsRead.{each_client_is_read}
use Rattle.lab_laws.specs.Messages.{step_after}
use Rattle.lab_laws.specs.Reading.{IsReadAs, EachMessageIsRead}
use Rattle.lab_laws.proofs.SaidTurns.{FairSaid, life_fair}

-- ---- other frames

unread : (ask : AskContent) (frame : List ℕ) (seen : Option Sent4) → option_and_then (if_spelled ask frame) seen ≡ None
    → option_and_then (if_said ask frame) seen ≡ None
unread ask frame None h = refl
unread ask frame (Some sent) h = by (ask_fits ask)
  where
    by : (fits : Bool) → (if fits then option_and_then if_of_a_client (if_spelled ask frame sent) else None) ≡ None
    by true = ap (option_and_then if_of_a_client) h
    by false = refl

-- what spells no message is no client's
unspelled : (frame : List ℕ) → sent_in (ask_in frame) frame ≡ None → client_sent frame ≡ None
unfolding client_sent sent_in
unspelled frame none = unread (ask_in frame) frame (seen_in frame) none

other_kind : (frame : List ℕ) → 14 ≤ length frame → u16_field 12 frame ≢ KIND_IPV4 → client_sent frame ≡ None
other_kind frame long other = unspelled frame (others_spell_nothing (ask_in frame) frame long other)

module _ (sender target : Ip4) where
  abbrev SaysNothing : List ℕ → Type 0
  SaysNothing mac = client_sent (request_text (record { bytes = mac }) sender target) ≡ None

  unlike : (kind : ℕ) → kind ≡ 0x0806 → kind ≡ 0x0800 → ⊥
  unlike kind arp ip = omega (arith, arp, ip)

  arp_cells : (mac : List ℕ) → SaysNothing (six mac)
  arp_cells mac = other_kind (request_text (record { bytes = six mac }) sender target) (lit≤ tt) other
    where
      other : u16_field 12 (request_text (record { bytes = six mac }) sender target) ≡ KIND_IPV4 → ⊥
      other same = unlike _ refl same

  arp_unread : (mac : Mac) → FitsMac mac → SaysNothing mac.bytes
  arp_unread mac len = subst SaysNothing (sym (six_cells mac.bytes len)) (arp_cells mac.bytes)

module _ (sent : Sent6) where
  abbrev with_mac : List ℕ → Sent6
  with_mac mac = record { mac = record { bytes = mac }; said = sent.said }

  abbrev SaysNothing6 : List ℕ → Type 0
  SaysNothing6 mac = client_sent (frame6_of (with_mac mac)) ≡ None

  unlike6 : (kind : ℕ) → kind ≡ 0x86dd → kind ≡ 0x0800 → ⊥
  unlike6 kind ip6 ip4 = omega (arith, ip6, ip4)

  dhcp6_cells : (mac : List ℕ) → SaysNothing6 (six mac)
  unfolding udp6_frame_text
  dhcp6_cells mac =
      let frame : List ℕ = frame6_of (with_mac (six mac)) in
      other_kind frame (long (take 14 frame) (drop 14 frame) (lit≤ tt)) (λ same. unlike6 _ refl same)
    where
      long : (front rest : List ℕ) → 14 ≤ length front → 14 ≤ length (front ++ rest)
      long front rest h = omega (arith, h, length-append front rest)

  dhcp6_unread : FitsMac sent.mac → client_sent (frame6_of sent) ≡ None
  dhcp6_unread len = subst SaysNothing6 (sym (six_cells sent.mac.bytes len)) (dhcp6_cells sent.mac.bytes)

-- ---- what is said

module _ (spec : IfSpec) (ask : AskContent) (asks : AskFits ask) (six_long : FitsMac spec.mac) (mac : Mac) where
  said_read : (say : Said) → FairSaid mac say → IsReadAs mac say (frame_of spec ask say)
  said_read (Dhcp4 say) fair = (each_client_is_read ask (sent_of say) asks fair.fits fair.own, fair.mac_is)
  said_read (Arp (Probe addr)) fair = arp_unread (record { number = 0 }) addr spec.mac six_long
  said_read (Arp (Announce addr)) fair = arp_unread addr addr spec.mac six_long
  said_read (Dhcp6 sent) fair = dhcp6_unread sent fair

  all_read : (said : List Said) → AllByRecursion (FairSaid mac) said → AllByRecursion (λ say. IsReadAs mac say (frame_of spec ask say)) said
  all_read said fair = all_map (FairSaid mac) (λ say. IsReadAs mac say (frame_of spec ask say)) said_read said fair

-- ---- a life

pub each_message_is_read : EachMessageIsRead
each_message_is_read start turns fits all =
    let one : Managed = start.beginning.managed in
    all_read one.spec (ask_of start.beginning.duid one) (asking.ask_fits start.beginning.duid one fits.fits.duid fits.fits.managed)
    fits.fits.managed.mac.six one.spec.mac
    (step_after start turns).said (life_fair start turns fits all)
