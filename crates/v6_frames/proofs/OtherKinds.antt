-- A frame of another kind spells no message.
use Rattle.std.proofs.Common.{◌≡◌, ◌≢◌, ℕ, ◌≤◌, Bool, true, false, List, length, take, drop, Option, Some, None, refl, ap, ◌∙◌, arith}
use Rattle.std.specs.Prelude.{bytes_eq, if◌then◌else◌}
use Rattle.std.specs.Option.{option_map, option_and_then}
use Rattle.std.proofs.lemmas.List.{length-take-le, length-drop}
use Rattle.std.proofs.lemmas.Slice.Eq.{bytes_eq-Decides}
use Rattle.net_types.specs.Fields.{u16_field, mac_field}
use Rattle.udp_frame.specs.declared.udp6.TheConstants.{KIND_IPV6}
use Rattle.v6_message.specs.Requests.{SaidContent}
use Rattle.v6_message.specs.ReadBack.{said6_in}
use Rattle.v6_frames.specs.Spelled.{Sent6, frame6_of, said_from, seen6_in, if_framed, sent6_in}
use Rattle.v6_frames.specs.Laws.{OthersSpellNothing}
use Rattle.v6_frames.proofs.FramesBack.{framed}

module _ (frame : List ℕ) (long : 14 ≤ length frame) (other : u16_field 12 frame ≢ KIND_IPV6) where
  abbrev seeming : SaidContent → Sent6
  seeming said = said_from (mac_field 6 frame) said

  unlike : (said : SaidContent) → frame ≡ frame6_of (seeming said) → ⊥
  unlike said same =
      let len : length (take 6 (drop 6 frame)) ≡ 6 = length-take-le 6 (drop 6 frame) (omega (arith, long, length-drop 6 frame)) in
      other (ap (u16_field 12) same ∙ (framed (seeming said) len).kind_is)

  by_test : (said : SaidContent) (same : Bool) → (same ≡ true → frame ≡ frame6_of (seeming said)) → (if same then Some (seeming said) else None) ≡ None
  by_test said true is = absurd (unlike said (is refl))
  by_test said false is = refl

  by_said : (seen : Option SaidContent) → option_and_then (if_framed frame) (option_map seeming seen) ≡ None
  by_said None = refl
  by_said (Some said) = by_test said (bytes_eq frame (frame6_of (seeming said))) (bytes_eq-Decides frame (frame6_of (seeming said))).0

pub others_spell_nothing : OthersSpellNothing
unfolding sent6_in seen6_in
others_spell_nothing frame long other = by_said frame long other (said6_in (drop 62 frame))
