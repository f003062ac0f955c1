-- The frame of a client's message is read as that message, whatever the client says of itself.
use Rattle.std.proofs.Common.{◌≡◌, ℕ, ◌<◌, true, List, [], ◌∷◌, ◌++◌, length, Option, Some, None, refl, sym, ap, ◌∙◌, arith}
use Rattle.std.specs.Prelude.{option_and_then, flat_map, nat_lt}
use Rattle.std.proofs.lemmas.Bool.Decides.{nat_tests}
use Rattle.std.proofs.lemmas.List.{append-nil}
use Rattle.net_types.specs.declared.address.Ip4.{Ip4}
use Rattle.udp_frame.specs.Udp4Frames.{udp4_frame_text}
use Rattle.v4_options.specs.OptionArea.{Instance}
use Rattle.v4_options.specs.OptionValue.{pieces, bytes_at}
use Rattle.v4_message.specs.Message.{message_instances}
use Rattle.v4_message.specs.Requests.{AskContent, AskFits, address_option, text_option, asked_for_in, number_of_kind, said_options, options_text, fixed_fields, padded}
use Rattle.v4_message.specs.declared.writing.Kind4.{Kind4}
use Rattle.v4_message.specs.declared.writing.Kind4.TheVariants.{Discover, Request, Decline, Release}
use Rattle.v4_message.specs.declared.writing.Said4.{Said4}
use Rattle.v4_message.proofs.SaidOptions.{said_is_read, fixed_len}
use Rattle.v4_frames.specs.declared.sent.Sent4.{Sent4}
use Rattle.v4_frames.specs.declared.sent.TheConstants.{CLIENT_PORT, SERVER_PORT}
use Rattle.v4_frames.specs.InRange.{FitsSent}
use Rattle.v4_frames.specs.Spelled.{frame_of, seen_in, if_spelled, sent_in}
use Rattle.v4_frames.proofs.FramesBack.{reads_back}
use Rattle.client_frames.proofs.FrameData.{data_of}
use Rattle.lab_peer.specs.ClientFrames.{ask_among, ask_in, ask_fits, if_of_a_client, is_of_a_client, if_said, client_sent}
use Rattle.lab_peer.specs.Laws.{EachClientIsRead}

-- ---- what a message tells of what the client says of itself

-- in a DECLINE and a RELEASE the identifier alone
abbrev pub told : Kind4 → AskContent → AskContent
told Discover ask = ask
told Request ask = ask
told Decline ask = record { client_id = ask.client_id; vendor = []; host = []; list = [] }
told Release ask = record { client_id = ask.client_id; vendor = []; host = []; list = [] }

abbrev all : List (List ℕ) → List ℕ
all values = flat_map (λ piece. piece) values

-- options that tell this of the client
record Tells (more : List Instance) (vendor host list : List ℕ) : Type 0 where
  no_id : pieces 61 more ≡ []
  vendor_is : bytes_at 60 more ≡ vendor
  host_is : bytes_at 12 more ≡ host
  list_is : bytes_at 55 more ≡ list

wants_tell : (vendor host list : List ℕ) → Tells ((57, 5 ∷ 192 ∷ []) ∷ text_option 60 vendor ++ text_option 12 host ++ (55, list) ∷ []) vendor host list
wants_tell [] [] list = record { no_id = refl; vendor_is = refl; host_is = refl; list_is = append-nil list }
wants_tell [] (h ∷ host) list = record { no_id = refl; vendor_is = refl; host_is = append-nil (h ∷ host); list_is = append-nil list }
wants_tell (v ∷ vendor) [] list = record { no_id = refl; vendor_is = append-nil (v ∷ vendor); host_is = refl; list_is = append-nil list }
wants_tell (v ∷ vendor) (h ∷ host) list =
    record { no_id = refl; vendor_is = append-nil (v ∷ vendor); host_is = append-nil (h ∷ host); list_is = append-nil list }

asked_tell : (kind : Kind4) (ask : AskContent) → Tells (asked_for_in kind ask) (told kind ask).vendor (told kind ask).host (told kind ask).list
asked_tell Discover ask = wants_tell ask.vendor ask.host ask.list
asked_tell Request ask = wants_tell ask.vendor ask.host ask.list
asked_tell Decline ask = record { no_id = refl; vendor_is = refl; host_is = refl; list_is = refl }
asked_tell Release ask = record { no_id = refl; vendor_is = refl; host_is = refl; list_is = refl }

same_id : (kind : Kind4) (ask : AskContent) → (told kind ask).client_id ≡ ask.client_id
same_id Discover ask = refl
same_id Request ask = refl
same_id Decline ask = refl
same_id Release ask = refl

same_wants : (kind : Kind4) (ask : AskContent) → asked_for_in kind (told kind ask) ≡ asked_for_in kind ask
same_wants Discover ask = refl
same_wants Request ask = refl
same_wants Decline ask = refl
same_wants Release ask = refl

abbrev options_with : (kind : ℕ) → (client_id : List ℕ) → (asked server : Option Ip4) → (more : List Instance) → List Instance
options_with kind client_id asked server more = (53, kind ∷ []) ∷ (61, client_id) ∷ (address_option 50 asked ++ address_option 54 server ++ more)

record TellsAll (instances : List Instance) (client_id vendor host list : List ℕ) : Type 0 where
  id_is : bytes_at 61 instances ≡ client_id
  vendor_is : bytes_at 60 instances ≡ vendor
  host_is : bytes_at 12 instances ≡ host
  list_is : bytes_at 55 instances ≡ list

module _ (kind : ℕ) (client_id : List ℕ) (more : List Instance) (vendor host list : List ℕ) (tells : Tells more vendor host list) where
  id_back : all (client_id ∷ pieces 61 more) ≡ client_id
  id_back = ap (λ (ps : List (List ℕ)). client_id ++ all ps) tells.no_id ∙ append-nil client_id

  all_told : (asked server : Option Ip4) → TellsAll (options_with kind client_id asked server more) client_id vendor host list
  all_told None None = record { id_is = id_back; vendor_is = tells.vendor_is; host_is = tells.host_is; list_is = tells.list_is }
  all_told None (Some s) = record { id_is = id_back; vendor_is = tells.vendor_is; host_is = tells.host_is; list_is = tells.list_is }
  all_told (Some a) None = record { id_is = id_back; vendor_is = tells.vendor_is; host_is = tells.host_is; list_is = tells.list_is }
  all_told (Some a) (Some s) = record { id_is = id_back; vendor_is = tells.vendor_is; host_is = tells.host_is; list_is = tells.list_is }

ask_told : (said : Said4) (ask : AskContent) → ask_among (said_options said ask) ≡ told said.kind ask
ask_told said ask =
    let kind = said.kind in
    let t = told kind ask in
    let tells = all_told (number_of_kind kind) ask.client_id (asked_for_in kind ask) t.vendor t.host t.list (asked_tell kind ask) said.asked said.server in
    λ i. record { client_id = (tells.id_is ∙ sym (same_id kind ask)) i; vendor = tells.vendor_is i; host = tells.host_is i; list = tells.list_is i }

told_fits : (kind : Kind4) (ask : AskContent) → AskFits ask → AskFits (told kind ask)
told_fits Discover ask fits = fits
told_fits Request ask fits = fits
told_fits Decline ask fits = record { client_id = fits.client_id; vendor = omega arith; host = omega arith; list = omega arith }
told_fits Release ask fits = record { client_id = fits.client_id; vendor = omega arith; host = omega arith; list = omega arith }

same_options : (said : Said4) (ask : AskContent) → said_options said (told said.kind ask) ≡ said_options said ask
same_options said ask =
    λ i. options_with (number_of_kind said.kind) (same_id said.kind ask i) said.asked said.server (same_wants said.kind ask i)

-- it tells all that its bytes have
same_frame : (ask : AskContent) (sent : Sent4) → frame_of (told sent.said.kind ask) sent ≡ frame_of ask sent
same_frame ask sent =
    ap (λ (options : List Instance). udp4_frame_text sent.ends CLIENT_PORT SERVER_PORT (padded (fixed_fields sent.said ++ options_text options ++ 255 ∷ [])))
    (same_options sent.said ask)

-- ---- the test on what a client says of itself

tested : (n : ℕ) → n < 256 → nat_lt n 256 ≡ true
tested n h = grind (arith, nat_tests)

all_tested : (ask : AskContent) → AskFits ask → ask_fits ask ≡ true
unfolding ask_fits
all_tested ask fits =
    rw (
      tested (length ask.client_id) fits.client_id,
      tested (length ask.vendor) fits.vendor,
      tested (length ask.host) fits.host,
      tested (length ask.list) fits.list,
    )
    refl

-- ---- a client's frame is read

ask_back : (ask : AskContent) (sent : Sent4) → AskFits ask → FitsSent sent → ask_in (frame_of ask sent) ≡ told sent.said.kind ask
ask_back ask sent ask_fits fits =
    let bytes = data_of ask sent fits.from_mac fits.to_mac in
    ap (λ (m : List ℕ). ask_among (message_instances m)) bytes
    ∙ ap ask_among (said_is_read sent.said ask ask_fits (fixed_len sent.said fits.mac))
    ∙ ask_told sent.said ask

abbrev spelled_own : AskContent → List ℕ → Option Sent4 → Option Sent4
spelled_own ask frame seen = option_and_then (if_said ask frame) seen

joined : (ask : AskContent) (frame : List ℕ) → ask_fits ask ≡ true → (seen : Option Sent4)
    → spelled_own ask frame seen ≡ option_and_then if_of_a_client (option_and_then (if_spelled ask frame) seen)
joined ask frame fits None = refl
joined ask frame fits (Some seen) = rw fits refl

own_alone : (sent : Sent4) → is_of_a_client sent ≡ true → if_of_a_client sent ≡ Some sent
own_alone sent own = rw own refl

known : (a : AskContent) (frame : List ℕ) (sent : Sent4) → sent_in a frame ≡ Some sent → option_and_then (if_spelled a frame) (seen_in frame) ≡ Some sent
unfolding sent_in
known a frame sent h = h

pub each_client_is_read : EachClientIsRead
unfolding client_sent
each_client_is_read ask sent fits in_range own =
    let frame = frame_of ask sent in
    let t = told sent.said.kind ask in
    let t_fits = told_fits sent.said.kind ask fits in
    let back : sent_in t frame ≡ Some sent = ap (sent_in t) (sym (same_frame ask sent)) ∙ reads_back t sent t_fits in_range in
    ap (λ (a : AskContent). spelled_own a frame (seen_in frame)) (ask_back ask sent fits in_range)
    ∙ joined t frame (all_tested t t_fits) (seen_in frame)
    ∙ ap (option_and_then if_of_a_client) (known t frame sent back)
    ∙ own_alone sent own
