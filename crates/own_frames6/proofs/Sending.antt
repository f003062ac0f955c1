-- What is read of a frame is the message whose frame it is.
use Rattle.std.proofs.Common.{◌≡◌, ℕ, ◌<◌, ◌≤◌, ◌+◌, Bool, true, false, ◌&&◌, List, length, drop, Option, Some, None, refl, sym, ap, subst, ◌∙◌, arith}
use Rattle.std.specs.Prelude.{◌==◌, bytes_eq, nat_le, if◌then◌else◌}
use Rattle.std.specs.Option.{option_map, option_and_then}
use Rattle.std.proofs.lemmas.Bool.Decides.{nat_tests}
use Rattle.std.proofs.lemmas.List.{length-drop}
use Rattle.std.proofs.lemmas.Slice.Eq.{bytes_eq-Decides}
use Rattle.net_types.specs.Fields.{mac_field, u16_field}
use Rattle.udp_frame.specs.declared.dhcp6.TheConstants.{CLIENT_PORT, SERVER_PORT}
use Rattle.udp_frame.specs.declared.udp6.TheConstants.{KIND_IPV6}
use Rattle.udp_frame.specs.Udp6Frames.{udp6_frame_text}
use Rattle.v6_message.specs.Requests.{SaidContent, message6_text}
use Rattle.v6_message.specs.ReadBack.{if_spelled, said6_in, seems}
use Rattle.v6_message.proofs.MessageBack.{is_only}
use Rattle.v6_frames.specs.Spelled.{Sent6, client_ends, if_framed, said_from, seen6_in, sent6_in}
use Rattle.v6_frames.proofs.OtherKinds.{others_spell_nothing}
use Rattle.own_frames6.specs.Shown.{has_room, is_sent}

module _ (frame : List ℕ) where
  abbrev message : List ℕ
  message = drop 62 frame

  abbrev seeming : SaidContent → Sent6
  seeming said = said_from (mac_field 6 frame) said

  -- nothing is spelled where nothing is said
  unsaid : said6_in message ≡ None → sent6_in frame ≡ None
  unfolding sent6_in seen6_in
  unsaid none = rw none refl

  pub unseen : seems message ≡ None → None ≡ sent6_in frame
  unfolding said6_in
  unseen none = sym (unsaid (rw none refl))

  -- a message has four bytes at least
  four : (said : SaidContent) → length (message6_text said) < 4 → ⊥
  four said short = omega (arith, short)

  pub short_said : (found : Option SaidContent) → said6_in message ≡ found → length message < 4 → found ≡ None
  short_said None is short = refl
  short_said (Some said) is short = absurd (four said (subst (λ (m : List ℕ). length m < 4) (is_only message said is) short))

  pub too_short : length message < 4 → None ≡ sent6_in frame
  too_short short = sym (unsaid (short_said (said6_in message) refl short))

  -- ---- a frame without room for a message

  room_by : (long kind : Bool) → nat_le 66 (length frame) ≡ long → (u16_field 12 frame == KIND_IPV6) ≡ kind → (long && kind) ≡ false
      → None ≡ sent6_in frame
  room_by true true l k none = absurd cc
  room_by true false l k none =
      let long : 66 ≤ length frame = grind (arith, nat_tests) in
      let other : u16_field 12 frame ≡ KIND_IPV6 → ⊥ = grind (arith, nat_tests) in
      sym (others_spell_nothing frame (omega (arith, long)) other)
  room_by false kind l k none =
      let short : length frame < 66 = grind (arith, nat_tests) in
      too_short (omega (arith, short, length-drop 62 frame))

  pub no_room : has_room frame ≡ false → None ≡ sent6_in frame
  no_room none = room_by (nat_le 66 (length frame)) (u16_field 12 frame == KIND_IPV6) refl refl none

  module _ (said : SaidContent) (is : seems message ≡ Some said) where
    abbrev framed : List ℕ → Bool
    framed text = bytes_eq frame (udp6_frame_text (client_ends (mac_field 6 frame)) CLIENT_PORT SERVER_PORT text)

    said_is : said6_in message ≡ (if bytes_eq message (message6_text said) then Some said else None)
    unfolding said6_in
    said_is = ap (λ (o : Option SaidContent). option_and_then (if_spelled message) o) is

    sent_is : sent6_in frame
        ≡ option_and_then (if_framed frame) (option_map seeming (if bytes_eq message (message6_text said) then Some said else None))
    unfolding sent6_in seen6_in
    sent_is = ap (λ (o : Option SaidContent). option_and_then (if_framed frame) (option_map seeming o)) said_is

    by_test : (same : Bool) → (same ≡ true → message ≡ message6_text said)
        → option_and_then (if_framed frame) (option_map seeming (if same then Some said else None))
        ≡ (if same && framed message then Some (seeming said) else None)
    by_test false text = refl
    by_test true text = ap (λ (t : List ℕ). if framed t then Some (seeming said) else None) (sym (text refl))

    pub sent_so : sent6_in frame ≡ (if is_sent frame message (seeming said) then Some (seeming said) else None)
    sent_so =
        sent_is
        ∙ by_test (bytes_eq message (message6_text said)) (bytes_eq-Decides message (message6_text said)).0
