-- A frame of a message is read back as that message, and only that.
use Rattle.std.proofs.Common.{◌≡◌, ℕ, ◌<◌, ◌^◌, Bool, true, false, List, length, drop, Option, Some, None, refl, sym, ap, subst, ◌∙◌}
use Rattle.std.specs.Prelude.{option_map, option_and_then, bytes_eq, if◌then◌else◌}
use Rattle.std.proofs.lemmas.Nat.{from_be_bytes-to_be_bytes_4}
use Rattle.std.proofs.lemmas.Slice.Eq.{bytes_eq-Decides}
use Rattle.net_types.specs.declared.address.Ip4.{Ip4}
use Rattle.frame_link.proofs.Cells.{six, six_cells}
use Rattle.udp_frame.specs.declared.udp4.Ends4.{Ends4}
use Rattle.udp_frame.specs.Udp4Frames.{udp4_text, udp4_frame_text}
use Rattle.v4_message.specs.Requests.{AskContent, AskFits, message_text, padded}
use Rattle.v4_message.proofs.SaidOptions.{fixed_len}
use Rattle.v4_message.proofs.Lengths.{message_most}
use Rattle.v4_frames.specs.declared.sent.Sent4.{Sent4}
use Rattle.v4_frames.specs.declared.sent.TheConstants.{CLIENT_PORT, SERVER_PORT}
use Rattle.v4_frames.specs.InRange.{FitsSent}
use Rattle.v4_frames.specs.Spelled.{frame_of, said_in, ends_in, seen_in, if_spelled, sent_in}
use Rattle.v4_frames.specs.Laws.{ReadsBack, SpellsOne, SpelledAlone, FitsDatagram}
use Rattle.v4_frames.proofs.MessageBack.{message_back}

abbrev pub between : (from_mac to_mac : List ℕ) → (from to : Ip4) → Ends4
between from_mac to_mac from to = record { from_mac = record { bytes = from_mac }; to_mac = record { bytes = to_mac }; from = from; to = to }

module _ (from to : Ip4) (payload : List ℕ) where
  record IsFrame (from_mac to_mac : List ℕ) : Type 0 where
    payload_is : drop 42 (udp4_frame_text (between from_mac to_mac from to) CLIENT_PORT SERVER_PORT payload) ≡ payload
    ends_are : ends_in (udp4_frame_text (between from_mac to_mac from to) CLIENT_PORT SERVER_PORT payload) ≡ between from_mac to_mac from to

  frame_cells : (f t : List ℕ) → from.number < 2 ^ 32 → to.number < 2 ^ 32 → IsFrame (six f) (six t)
  unfolding udp4_frame_text udp4_text
  frame_cells f t from_fits to_fits = record {
    payload_is = refl;
    ends_are =
        λ i. between (six f) (six t) (record { number = from_be_bytes-to_be_bytes_4 from.number from_fits i })
        (record { number = from_be_bytes-to_be_bytes_4 to.number to_fits i });
  }

  is_frame : (f t : List ℕ) → length f ≡ 6 → length t ≡ 6 → from.number < 2 ^ 32 → to.number < 2 ^ 32 → IsFrame f t
  is_frame f t f_len t_len from_fits to_fits =
      subst (λ (m : List ℕ). IsFrame m t) (sym (six_cells f f_len))
      (subst (λ (m : List ℕ). IsFrame (six f) m) (sym (six_cells t t_len)) (frame_cells f t from_fits to_fits))

seen : (ask : AskContent) (sent : Sent4) → AskFits ask → FitsSent sent → seen_in (frame_of ask sent) ≡ Some sent
unfolding seen_in
seen ask sent ask_fits fits =
    let payload = padded (message_text sent.said ask) in
    let frame = is_frame sent.ends.from sent.ends.to payload sent.ends.from_mac.bytes sent.ends.to_mac.bytes fits.from_mac fits.to_mac fits.from fits.to in
    let said_is : said_in (drop 42 (frame_of ask sent)) ≡ Some sent.said = ap said_in frame.payload_is ∙ message_back ask sent ask_fits fits in
    λ i. option_map (λ said. record { ends = frame.ends_are i; said = said }) (said_is i)

pub reads_back : ReadsBack
unfolding sent_in
reads_back ask sent ask_fits fits =
    let same : bytes_eq (frame_of ask sent) (frame_of ask sent) ≡ true = (bytes_eq-Decides (frame_of ask sent) (frame_of ask sent)).1 refl in
    ap (λ (s : Option Sent4). option_and_then (if_spelled ask (frame_of ask sent)) s) (seen ask sent ask_fits fits)
    ∙ ap (λ (b : Bool). if b then Some sent else None) same

some_is : (a b : Sent4) → Some a ≡ Some b → a ≡ b
some_is a b e = cc

pub spells_one : SpellsOne
spells_one ask a b ask_fits a_fits b_fits same =
    some_is a b (sym (reads_back ask a ask_fits a_fits) ∙ ap (sent_in ask) same ∙ reads_back ask b ask_fits b_fits)

if_same : (ask : AskContent) (frame : List ℕ) (s sent : Sent4) (same : Bool) → (same ≡ true → frame ≡ frame_of ask s)
    → (if same then Some s else None) ≡ Some sent → frame ≡ frame_of ask sent
if_same ask frame s sent true is e = is refl ∙ ap (frame_of ask) (some_is s sent e)
if_same ask frame s sent false is e = absurd cc

is_frame_of : (ask : AskContent) (frame : List ℕ) (seen : Option Sent4) (sent : Sent4) → option_and_then (if_spelled ask frame) seen ≡ Some sent
    → frame ≡ frame_of ask sent
is_frame_of ask frame None sent e = absurd cc
is_frame_of ask frame (Some s) sent e = if_same ask frame s sent (bytes_eq frame (frame_of ask s)) (bytes_eq-Decides frame (frame_of ask s)).0 e

pub spelled_alone : SpelledAlone
unfolding sent_in
spelled_alone ask frame sent e = is_frame_of ask frame (seen_in frame) sent e

pub fits_datagram : FitsDatagram
fits_datagram ask sent ask_fits fits = message_most sent.said ask ask_fits (fixed_len sent.said fits.mac)
