-- What a server's frame carries to the interface is heard.
use Rattle.std.proofs.Common.{◌≡◌, ℕ, ◌<◌, ◌≤◌, ◌^◌, Bool, true, List, length, Some, None, refl, ap, ◌∙◌, arith}
use Rattle.std.specs.Prelude.{if◌then◌else◌, ◌&&◌}
use Rattle.std.specs.Option.{option_map, option_and_then}
use Rattle.std.proofs.lemmas.Bool.{eq-eqb}
use Rattle.std.proofs.lemmas.Slice.Eq.{bytes_eq-Decides}
use Rattle.net_types.specs.Marks.{AreBytes}
use Rattle.frame_link.specs.Frames.{Frame}
use Rattle.udp_frame.specs.declared.dhcp6.TheConstants.{CLIENT_PORT}
use Rattle.udp_frame.specs.declared.udp6.Ends6.{Ends6}
use Rattle.udp_frame.specs.LinkLocal6.{link_local}
use Rattle.udp_frame.specs.Udp6Frames.{Udp6, udp6_in, said6, udp6_frame, udp6_frame_text}
use Rattle.udp_frame.proofs.Laws6.{fits6, alone_is_heard6, frame_is_heard6}
use Rattle.v6_message.specs.Replies.{message6_in}
use Rattle.v6_frames.specs.Heard.{is_for, is_to, with_source, message_to, message_for, heard6_in}

module _ (ends : Ends6) (from_port : ℕ) (payload : List ℕ) where
  abbrev frame : Frame
  frame = udp6_frame ends from_port CLIENT_PORT payload

  abbrev datagram : Udp6
  datagram = said6 ends.from ends.to from_port CLIENT_PORT payload

  pub is_heard : length ends.to_mac.bytes ≡ 6 → length ends.from_mac.bytes ≡ 6 → fits6 ends.from → fits6 ends.to → from_port < 2 ^ 16 → length payload ≤ 1472
      → AreBytes payload → ends.to.number ≡ (link_local ends.to_mac).number
      → heard6_in ends.to_mac (udp6_frame_text ends from_port CLIENT_PORT payload) ≡ option_map (with_source ends.from_mac) (message6_in payload)
  unfolding heard6_in
  is_heard to_len from_len from_fits to_fits port small range to_is =
      let found : udp6_in frame.body ≡ Some datagram = alone_is_heard6 datagram from_fits to_fits port (omega arith) (omega (arith, small)) range in
      let for_it : is_for ends.to_mac frame ≡ true = ap (λ (b : Bool). b && true) ((bytes_eq-Decides ends.to_mac.bytes ends.to_mac.bytes).1 refl) in
      let to_it : is_to ends.to_mac datagram ≡ true = ap (λ (b : Bool). b && true) (eq-eqb ends.to.number (link_local ends.to_mac).number to_is) in
      ap (option_and_then (message_for ends.to_mac)) (frame_is_heard6 ends from_port CLIENT_PORT payload to_len from_len)
      ∙ ap (λ (b : Bool). if b then option_and_then (message_to ends.to_mac ends.from_mac) (udp6_in frame.body) else None) for_it
      ∙ ap (option_and_then (message_to ends.to_mac ends.from_mac)) found
      ∙ ap (λ (b : Bool). if b then option_map (with_source ends.from_mac) (message6_in payload) else None) to_it
