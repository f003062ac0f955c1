-- A frame of a message is read back as that message, and only that.
use Rattle.std.proofs.Common.{◌≡◌, ℕ, Bool, true, false, List, length, drop, Option, Some, None, refl, sym, ap, subst, ◌∙◌}
use Rattle.std.specs.Prelude.{bytes_eq, if◌then◌else◌}
use Rattle.std.specs.Option.{option_map, option_and_then}
use Rattle.std.proofs.lemmas.Slice.Eq.{bytes_eq-Decides}
use Rattle.net_types.specs.declared.address.Ip6.{Ip6}
use Rattle.net_types.specs.Fields.{u16_field, mac_field}
use Rattle.frame_link.proofs.Cells.{six, six_cells}
use Rattle.udp_frame.specs.declared.dhcp6.TheConstants.{CLIENT_PORT, SERVER_PORT, ALL_RELAY_AGENTS_AND_SERVERS, ALL_RELAY_AGENTS_AND_SERVERS_MAC}
use Rattle.udp_frame.specs.declared.udp6.TheConstants.{KIND_IPV6}
use Rattle.udp_frame.specs.LinkLocal6.{link_local}
use Rattle.udp_frame.specs.Udp6Frames.{udp6_text, udp6_frame_text}
use Rattle.v6_message.specs.Requests.{message6_text}
use Rattle.v6_message.specs.ReadBack.{said6_in}
use Rattle.v6_message.proofs.Lengths.{said_short}
use Rattle.v6_message.proofs.MessageBack.{is_read}
use Rattle.v6_frames.specs.InRange.{FitsSent6}
use Rattle.v6_frames.specs.Spelled.{Sent6, frame6_of, said_from, seen6_in, if_framed, sent6_in}
use Rattle.v6_frames.specs.Laws.{ReadsBack, SpellsOne, SpelledAlone, FitsDatagram}

-- a frame to the servers, whatever it carries
module _ (from to : Ip6) (payload : List ℕ) where
  abbrev pub to_servers : (mac : List ℕ) → List ℕ
  to_servers mac =
      udp6_frame_text
      (record { from_mac = record { bytes = mac }; to_mac = ALL_RELAY_AGENTS_AND_SERVERS_MAC; from = from; to = to }) CLIENT_PORT SERVER_PORT payload

  pub record IsFrame (mac : List ℕ) : Type 0 where
    pub payload_is : drop 62 (to_servers mac) ≡ payload
    pub mac_is : mac_field 6 (to_servers mac) ≡ record { bytes = mac }
    pub kind_is : u16_field 12 (to_servers mac) ≡ KIND_IPV6

  frame_cells : (m : List ℕ) → IsFrame (six m)
  unfolding udp6_frame_text udp6_text
  frame_cells m = record { payload_is = refl; mac_is = refl; kind_is = refl }

  pub is_frame : (mac : List ℕ) → length mac ≡ 6 → IsFrame mac
  is_frame mac len = subst (λ (m : List ℕ). IsFrame m) (sym (six_cells mac len)) (frame_cells mac)

pub framed : (sent : Sent6) → length sent.mac.bytes ≡ 6 → IsFrame (link_local sent.mac) ALL_RELAY_AGENTS_AND_SERVERS (message6_text sent.said) sent.mac.bytes
framed sent len = is_frame (link_local sent.mac) ALL_RELAY_AGENTS_AND_SERVERS (message6_text sent.said) sent.mac.bytes len

seen : (sent : Sent6) → FitsSent6 sent → seen6_in (frame6_of sent) ≡ Some sent
unfolding seen6_in
seen sent fits =
    let frame = framed sent fits.mac in
    let said_is : said6_in (drop 62 (frame6_of sent)) ≡ Some sent.said = ap said6_in frame.payload_is ∙ is_read sent.said fits.said in
    λ i. option_map (said_from (frame.mac_is i)) (said_is i)

pub reads_back : ReadsBack
unfolding sent6_in
reads_back sent fits =
    let same : bytes_eq (frame6_of sent) (frame6_of sent) ≡ true = (bytes_eq-Decides (frame6_of sent) (frame6_of sent)).1 refl in
    ap (λ (s : Option Sent6). option_and_then (if_framed (frame6_of sent)) s) (seen sent fits) ∙ ap (λ (b : Bool). if b then Some sent else None) same

some_is : (a b : Sent6) → Some a ≡ Some b → a ≡ b
some_is a b e = cc

pub spells_one : SpellsOne
spells_one a b a_fits b_fits same = some_is a b (sym (reads_back a a_fits) ∙ ap sent6_in same ∙ reads_back b b_fits)

if_same : (frame : List ℕ) (s sent : Sent6) (same : Bool) → (same ≡ true → frame ≡ frame6_of s) → (if same then Some s else None) ≡ Some sent
    → frame ≡ frame6_of sent
if_same frame s sent true is e = is refl ∙ ap frame6_of (some_is s sent e)
if_same frame s sent false is e = absurd cc

is_frame_of : (frame : List ℕ) (seen : Option Sent6) (sent : Sent6) → option_and_then (if_framed frame) seen ≡ Some sent → frame ≡ frame6_of sent
is_frame_of frame None sent e = absurd cc
is_frame_of frame (Some s) sent e = if_same frame s sent (bytes_eq frame (frame6_of s)) (bytes_eq-Decides frame (frame6_of s)).0 e

pub spelled_alone : SpelledAlone
unfolding sent6_in
spelled_alone frame sent e = is_frame_of frame (seen6_in frame) sent e

pub fits_datagram : FitsDatagram
fits_datagram said client = said_short said client
