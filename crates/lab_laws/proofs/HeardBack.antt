-- What the clients of a lab hear of its peer is what the peer said.
use Rattle.std.proofs.Common.{◌≡◌, ℕ, ◌<◌, ◌≤◌, ◌^◌, Bool, true, false, not, nat_le, ◌&&◌, List, [], ◌∷◌, Option, Some, None, IfSome, refl, sym, ap, subst, ◌∙◌, arith}
use Rattle.std.specs.Prelude.{option_map, find, if◌then◌else◌, ◌==◌}
use Rattle.std.specs.List.{list_any}
use Rattle.std.proofs.lemmas.Bool.Decides.{nat_tests}
use Rattle.net_types.specs.declared.address.Ip4.{Ip4}
use Rattle.net_types.specs.declared.address.Mac.{Mac}
use Rattle.lease_text.specs.declared.lease.Terms4.{Terms4}
use Rattle.world.specs.declared.wakes.Event.{Event}
use Rattle.world.specs.declared.wakes.Event.TheVariants.{Frame, Carrier, Duplicate, Release, Rebind, Stop, Quiet, End}
use Rattle.v4_message.specs.declared.writing.Kind4.{Kind4}
use Rattle.v4_message.specs.declared.writing.Kind4.TheVariants as kinds
use Rattle.v4_message.specs.declared.writing.Said4.{Said4}
use Rattle.v4_message.specs.Messages.{Message4}
use Rattle.v4_frames.specs.declared.sent.Sent4.{Sent4}
use Rattle.v4_frames.specs.InRange.{FitsIp4, FitsMac, FitsSent}
use Rattle.v4_frames.specs.Heard.{HeardMessage, heard4_in}
use Rattle.v4_client.specs.declared.states.Answer4.TheVariants as answer
use Rattle.v4_client.specs.declared.states.Exchange4.{Exchange4}
use Rattle.v4_client.specs.Answers.{reply_in}
use Rattle.client_model.specs.ClientSettings.{settings_of}
use Rattle.client_model.specs.Dhcp4Steps.{arrival_at}
use Rattle.evidence_words.specs.Entries.{Entry}
use Rattle.evidence_words.specs.Inputs.{Site, index_at}
use Rattle.lease_evidence.specs.Replies.{message_on, reply_by}
use Rattle.server_data.specs.declared.reply.ReplyKind.{ReplyKind}
use Rattle.server_data.specs.declared.reply.ReplyKind.TheVariants.{Offer, Ack, Nak}
use Rattle.server_data.specs.declared.reply.Reply.{Reply}
use Rattle.server_data.specs.ReadBack.{FitsReply, reply_message}
use Rattle.lab_peer.specs.Bindings.{keeps_from, last_address}
use Rattle.lab_peer.specs.ClientFrames.{client_sent}
use Rattle.lab_peer.specs.Pools.{addresses_of, in_pool}
use Rattle.lab_peer.specs.Hearing.{PeerState, silent, is_spoiled, is_free, lowest_free, address_for, offered, reply_to, address_wanted, is_for_another, with_binding, hears_kind, hears_sent, hears}
use Rattle.lab_schedule.specs.Schedules.{FitsPool}
use Rattle.lab_laws.specs.HeardReplies.{IsOfReply, AcksAreReplies, IsFrameHere, AcksComeInFrames}
use Rattle.lab_laws.proofs.FramesHeard.{one_is, passes, heard_is_reply}
use Rattle.lab_laws.proofs.AcksHeard.{ack_of_reply}

-- ---- an ACK that a client takes

heard_on : (site : Site) (event : Event) (bytes : List ℕ) (h : HeardMessage) → message_on site event bytes ≡ Some h
    → heard4_in site.managed.spec.mac bytes ≡ Some h
heard_on site (Frame other len) bytes h e = passes (index_at site == other) (heard4_in site.managed.spec.mac bytes) h e
heard_on site (Carrier other up) bytes h e = absurd cc
heard_on site (Duplicate other addr) bytes h e = absurd cc
heard_on site (Release other) bytes h e = absurd cc
heard_on site (Rebind other) bytes h e = absurd cc
heard_on site Stop bytes h e = absurd cc
heard_on site Quiet bytes h e = absurd cc
heard_on site End bytes h e = absurd cc

module _ (site : Site) (exchange : Exchange4) (terms : Terms4) (reply : Reply) (at : ℕ) (fits : reply.lease < 2 ^ 32) where
  by_heard : (heard : Option HeardMessage) → ((h : HeardMessage) → heard ≡ Some h → h.message ≡ reply_message reply)
      → reply_by (settings_of site.duid site.managed) exchange (option_map (arrival_at at) heard) ≡ answer.Ack terms
      → IsOfReply site.managed.spec.mac exchange terms reply
  by_heard None is e = absurd cc
  by_heard (Some h) is e =
      ack_of_reply (settings_of site.duid site.managed) exchange terms h.source at reply fits
      (subst (λ (m : Message4). reply_in (settings_of site.duid site.managed) (record { message = m; source = h.source; at = at }) exchange ≡ answer.Ack terms)
      (is h refl) e)

-- An ACK of a client's exchange that comes in a frame of the peer is that reply, and its terms are the reply's.
pub acks_of_peer : AcksAreReplies
acks_of_peer site exchange e terms reply is fits lease_fits says =
    by_heard site exchange terms reply e.moment lease_fits (message_on site e.event e.bytes)
    (λ h on. heard_is_reply site.managed.spec.mac reply h fits (ap (heard4_in site.managed.spec.mac) (sym is) ∙ heard_on site e.event e.bytes h on)) says

same_number : (a b : ℕ) → (a == b) ≡ true → a ≡ b
same_number a b h = grind (arith, nat_tests)

is_test : (test : Bool) (found : Option HeardMessage) (h : HeardMessage) → (if test then found else None) ≡ Some h → test ≡ true
is_test true found h e = refl
is_test false found h e = absurd cc

frame_here : (site : Site) (event : Event) (bytes : List ℕ) (h : HeardMessage) → message_on site event bytes ≡ Some h
    → (len : ℕ) × (event ≡ Frame (index_at site) len)
frame_here site (Frame other len) bytes h e =
    (len, ap (λ (n : ℕ). Frame n len) (sym (same_number (index_at site) other (is_test (index_at site == other) (heard4_in site.managed.spec.mac bytes) h e))))
frame_here site (Carrier other up) bytes h e = absurd cc
frame_here site (Duplicate other addr) bytes h e = absurd cc
frame_here site (Release other) bytes h e = absurd cc
frame_here site (Rebind other) bytes h e = absurd cc
frame_here site Stop bytes h e = absurd cc
frame_here site Quiet bytes h e = absurd cc
frame_here site End bytes h e = absurd cc

here_by : (site : Site) (exchange : Exchange4) (e : Entry) (terms : Terms4) (heard : Option HeardMessage) → message_on site e.event e.bytes ≡ heard
    → reply_by (settings_of site.duid site.managed) exchange (option_map (arrival_at e.moment) heard) ≡ answer.Ack terms → IsFrameHere site e
here_by site exchange e terms None is says = absurd cc
here_by site exchange e terms (Some h) is says =
    let here = frame_here site e.event e.bytes h is in
    record { len = here.0; is = here.1 }

-- No other input has an ACK.
pub acks_come_in_frames : AcksComeInFrames
acks_come_in_frames site exchange e terms says = here_by site exchange e terms (message_on site e.event e.bytes) refl says

-- ---- what the peer says

both : (a b : Bool) → (a && b) ≡ true → (a ≡ true) × (b ≡ true)
both true b h = (refl, h)
both false b h = absurd cc

found_by : (p : Ip4 → Bool) (y x : Ip4) (rest : Option Ip4) (test : Bool) → p y ≡ test → (rest ≡ Some x → p x ≡ true)
    → (if test then Some y else rest) ≡ Some x → p x ≡ true
found_by p y x rest true is later e = subst (λ (z : Ip4). p z ≡ true) (one_is y x e) is
found_by p y x rest false is later e = later e

found : (p : Ip4 → Bool) (xs : List Ip4) (x : Ip4) → find p xs ≡ Some x → p x ≡ true
found p [] x e = absurd cc
found p (y ∷ xs) x e = found_by p y x (find p xs) (p y) refl (λ later. found p xs x later) e

within : (addr high : ℕ) → nat_le addr high ≡ true → high < 2 ^ 32 → addr < 2 ^ 32
within addr high le fits = let below : addr ≤ high = grind (arith, nat_tests) in omega (arith, below, fits)

module _ (peer : PeerState) (fits : FitsPool peer.pool) where
  free_fits : (addr : Ip4) (mac : Mac) (at : ℕ) → is_free addr mac at peer ≡ true → addr.number < 2 ^ 32
  free_fits addr mac at free =
      let outer = both (in_pool addr peer.pool && not (is_spoiled addr peer)) (not (list_any (keeps_from addr mac at) peer.bindings)) free in
      let inner = both (in_pool addr peer.pool) (not (is_spoiled addr peer)) outer.0 in
      let ends = both (nat_le peer.pool.low.number addr.number) (nat_le addr.number peer.pool.high.number) inner.0 in
      within addr.number peer.pool.high.number ends.1 fits.high

  lowest_is_free : (mac : Mac) (at : ℕ) (addr : Ip4) → lowest_free mac at peer ≡ Some addr → is_free addr mac at peer ≡ true
  lowest_is_free mac at addr e = found (λ addr. is_free addr mac at peer) (addresses_of peer.pool) addr e

  offer_is_free : (mac : Mac) (at : ℕ) (last : Option Ip4) (addr : Ip4) → address_for mac at peer last ≡ Some addr → is_free addr mac at peer ≡ true
  offer_is_free mac at None addr e = lowest_is_free mac at addr e
  offer_is_free mac at (Some last) addr e = by (is_free last mac at peer) refl e
    where
      by : (free : Bool) → is_free last mac at peer ≡ free → (if free then Some last else lowest_free mac at peer) ≡ Some addr → is_free addr mac at peer ≡ true
      by true is e = subst (λ (a : Ip4). is_free a mac at peer ≡ true) (one_is last addr e) is
      by false is e = lowest_is_free mac at addr e

  abbrev Fits : Reply → Type 0
  Fits reply = FitsReply reply × (reply.lease < 2 ^ 32)

  made_fits : (said : Said4) (kind : ReplyKind) (addr : Ip4) (reply : Reply) → said.xid < 2 ^ 32 → FitsMac said.mac → addr.number < 2 ^ 32
      → Some (reply_to said peer kind addr) ≡ Some reply → Fits reply
  made_fits said kind addr reply xid mac number e =
      subst (λ (r : Reply). Fits r) (one_is (reply_to said peer kind addr) reply e) (record { xid = xid; yiaddr = number; chaddr = mac }, fits.lease)

  wanted_fits : (asked : Option Ip4) (ciaddr : Ip4) → IfSome asked FitsIp4 → FitsIp4 ciaddr → (address_wanted asked ciaddr).number < 2 ^ 32
  wanted_fits None ciaddr asked_fits fits = fits
  wanted_fits (Some asked) ciaddr asked_fits fits = asked_fits

  by_kind : (at : ℕ) (sent : Sent4) (reply : Reply) (kind : Kind4) → FitsSent sent → (hears_kind at sent.said peer kind).says ≡ Some reply → Fits reply
  by_kind at sent reply kinds.Discover sent_fits e = by (offered sent.said.mac at peer) refl e
    where
      by : (addr : Option Ip4) → offered sent.said.mac at peer ≡ addr → option_map (reply_to sent.said peer Offer) addr ≡ Some reply → Fits reply
      by None is e = absurd cc
      by (Some addr) is e =
          made_fits sent.said Offer addr reply sent_fits.xid sent_fits.mac
          (free_fits addr sent.said.mac at (offer_is_free sent.said.mac at (last_address sent.said.mac peer.bindings) addr is)) e
  by_kind at sent reply kinds.Request sent_fits e = by (is_for_another sent.said.server) (is_free addr sent.said.mac at peer) e
    where
      addr : Ip4
      addr = address_wanted sent.said.asked sent.said.ciaddr

      number : addr.number < 2 ^ 32
      number = wanted_fits sent.said.asked sent.said.ciaddr sent_fits.asked sent_fits.ciaddr

      by : (another free : Bool)
          → (if another then silent peer else (if free then record {
            peer = with_binding at sent.said addr peer;
            says = Some
                (reply_to sent.said peer Ack addr);
          }
          else record { peer = peer; says = Some (reply_to sent.said peer Nak addr) })).says ≡ Some reply
          → Fits reply
      by true free e = absurd cc
      by false true e = made_fits sent.said Ack addr reply sent_fits.xid sent_fits.mac number e
      by false false e = made_fits sent.said Nak addr reply sent_fits.xid sent_fits.mac number e
  by_kind at sent reply kinds.Decline sent_fits e = absurd cc
  by_kind at sent reply kinds.Release sent_fits e = absurd cc

-- What the peer says to a message that fits has fields of their width.
pub replies_fit : (at : ℕ) (frame : List ℕ) (peer : PeerState) (sent : Sent4) (reply : Reply) → FitsPool peer.pool → client_sent frame ≡ Some sent
    → FitsSent sent
    → (hears at frame peer).says ≡ Some reply → FitsReply reply × (reply.lease < 2 ^ 32)
replies_fit at frame peer sent reply pool is fits says =
    by_kind peer pool at sent reply sent.said.kind fits (subst (λ (heard : Option Sent4). (hears_sent at heard peer).says ≡ Some reply) is says)
