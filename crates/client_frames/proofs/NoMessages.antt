-- Frames that are too short, have an option that is cut, or have no kind of a client's message, are none of its.
use Rattle.std.proofs.Common.{◌≡◌, ◌≢◌, ℕ, ◌+◌, ◌<◌, ◌≤◌, List, length, drop, take, Option, Some, None, refl, sym, ap, subst, ◌∙◌, arith, Bool, true, false}
use Rattle.std.specs.Prelude.{option_and_then, option_map, bytes_eq, if◌then◌else◌}
use Rattle.std.proofs.lemmas.List.{length-append, length-replicate, length-take-le, length-drop}
use Rattle.udp_frame.specs.declared.udp4.Ends4.{Ends4}
use Rattle.udp_frame.specs.Udp4Frames.{udp4_text, udp4_frame_text}
use Rattle.v4_options.specs.OptionValue.{byte_of}
use Rattle.v4_message.specs.Message.{message_instances, malformed_place}
use Rattle.v4_message.specs.Requests.{AskContent, AskFits, message_text, padded}
use Rattle.v4_message.specs.declared.writing.Kind4.{Kind4}
use Rattle.v4_message.specs.declared.writing.Said4.{Said4}
use Rattle.v4_message.proofs.SaidOptions.{said_is_whole, fixed_len}
use Rattle.v4_frames.specs.declared.sent.Sent4.{Sent4}
use Rattle.v4_frames.specs.declared.sent.TheConstants.{CLIENT_PORT, SERVER_PORT}
use Rattle.v4_frames.specs.Spelled.{frame_of, ends_in, kind_numbered, said_as, said_in, seen_in, if_spelled, sent_in}
use Rattle.v4_frames.proofs.FramesBack.{spelled_alone}
use Rattle.client_frames.specs.Unsaid.{IsUnsaid}
use Rattle.client_frames.proofs.FrameData.{data_of}

none_unless : (a : Option Sent4) → ((sent : Sent4) → a ≡ Some sent → ⊥) → a ≡ None
none_unless None h = refl
none_unless (Some sent) h = absurd (h sent refl)

-- ---- short frames

padded_len : (text : List ℕ) → 300 ≤ length (padded text)
padded_len text = simp (length-append, length-replicate) (omega arith)

longer : (ends : Ends4) (payload : List ℕ) → length payload ≤ length (udp4_frame_text ends CLIENT_PORT SERVER_PORT payload)
unfolding udp4_frame_text udp4_text
longer ends payload = simp length-append (omega arith)

frame_len : (ask : AskContent) (sent : Sent4) → 282 ≤ length (frame_of ask sent)
frame_len ask sent =
    omega (arith, padded_len (message_text sent.said ask), longer sent.ends (padded (message_text sent.said ask)))

pub short_unsaid : (frame : List ℕ) → length frame < 282 → IsUnsaid frame
short_unsaid frame short ask fits =
    none_unless (sent_in ask frame) (λ sent e. omega (arith, short, frame_len ask sent, ap length (spelled_alone ask frame sent e)))

-- ---- cut options

mac_len : (at : ℕ) (bytes : List ℕ) → at + 6 ≤ length bytes → length (take 6 (drop at bytes)) ≡ 6
mac_len at bytes h = length-take-le 6 (drop at bytes) (omega (arith, h, length-drop at bytes))

one_is : {A : Type 0} (a b : A) → Some a ≡ Some b → a ≡ b
one_is a b e = cc

-- the fields of what is read have their lengths
record HasMacs (sent : Sent4) : Type 0 where
  from_mac : length sent.ends.from_mac.bytes ≡ 6
  to_mac : length sent.ends.to_mac.bytes ≡ 6
  mac : length sent.said.mac.bytes ≡ 6

kind_macs : (frame : List ℕ) (kind : Option Kind4) → 282 ≤ length frame → (sent : Sent4)
    → option_map (λ (said : Said4). record { ends = ends_in frame; said = said })
    (option_map (said_as (drop 42 frame) (message_instances (drop 42 frame))) kind)
    ≡ Some sent
    → HasMacs sent
kind_macs frame None long sent e = absurd cc
kind_macs frame (Some kind) long sent e =
    subst (λ (s : Sent4). HasMacs s)
    (one_is (record { ends = ends_in frame; said = said_as (drop 42 frame) (message_instances (drop 42 frame)) kind }) sent e)
    (record {
      from_mac = mac_len 6 frame (omega (arith, long));
      to_mac = mac_len 0 frame (omega (arith, long));
      mac = mac_len 28 (drop 42 frame) (omega (arith, long, length-drop 42 frame));
    })

seen_macs : (frame : List ℕ) → 282 ≤ length frame → (sent : Sent4) → seen_in frame ≡ Some sent → HasMacs sent
unfolding seen_in said_in
seen_macs frame long sent e = kind_macs frame _ long sent e

was_seen : (ask : AskContent) (frame : List ℕ) (seen : Option Sent4) (sent : Sent4) → option_and_then (if_spelled ask frame) seen ≡ Some sent
    → seen ≡ Some sent
was_seen ask frame None sent e = absurd cc
was_seen ask frame (Some seen) sent e = by (bytes_eq frame (frame_of ask seen)) e
  where
    by : (same : Bool) → (if same then Some seen else None) ≡ Some sent → Some seen ≡ Some sent
    by true e = e
    by false e = absurd cc

sent_seen : (ask : AskContent) (frame : List ℕ) (sent : Sent4) → sent_in ask frame ≡ Some sent → seen_in frame ≡ Some sent
unfolding sent_in
sent_seen ask frame sent e = was_seen ask frame (seen_in frame) sent e

sent_whole : (ask : AskContent) (frame : List ℕ) (sent : Sent4) → AskFits ask → 282 ≤ length frame → sent_in ask frame ≡ Some sent
    → malformed_place (drop 42 frame) ≡ None
sent_whole ask frame sent fits long e =
    let macs = seen_macs frame long sent (sent_seen ask frame sent e) in
    ap (λ (f : List ℕ). malformed_place (drop 42 f)) (spelled_alone ask frame sent e)
    ∙ ap malformed_place (data_of ask sent macs.from_mac macs.to_mac)
    ∙ said_is_whole sent.said ask fits (fixed_len sent.said macs.mac)

pub cut_unsaid : (frame : List ℕ) → 282 ≤ length frame → malformed_place (drop 42 frame) ≢ None → IsUnsaid frame
cut_unsaid frame long cut ask fits = none_unless (sent_in ask frame) (λ sent e. cut (sent_whole ask frame sent fits long e))

-- ---- no kind

abbrev kind_at : (frame : List ℕ) → Option Kind4
kind_at frame = option_and_then kind_numbered (byte_of 53 (message_instances (drop 42 frame)))

pub kindless_unsaid : (frame : List ℕ) → kind_at frame ≡ None → IsUnsaid frame
unfolding sent_in seen_in said_in
kindless_unsaid frame none ask fits = rw none refl

pub kind_seen : (frame : List ℕ) (kind : Kind4) → kind_at frame ≡ Some kind
    → seen_in frame ≡ Some (record { ends = ends_in frame; said = said_as (drop 42 frame) (message_instances (drop 42 frame)) kind })
unfolding seen_in said_in
kind_seen frame kind is = rw is refl
