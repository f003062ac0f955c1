-- A frame of another kind spells no message.
use Rattle.std.proofs.Common.{◌≡◌, ◌≢◌, ℕ, ◌≤◌, Bool, true, false, List, length, take, drop, Option, Some, None, refl, sym, ap, subst, ◌∙◌, arith}
use Rattle.std.specs.Prelude.{option_map, option_and_then, bytes_eq, if◌then◌else◌}
use Rattle.std.proofs.lemmas.List.{length-take-le, length-drop}
use Rattle.std.proofs.lemmas.Slice.Eq.{bytes_eq-Decides}
use Rattle.net_types.specs.declared.address.Ip4.{Ip4}
use Rattle.net_types.specs.Fields.{u16_field}
use Rattle.frame_link.proofs.Cells.{six, six_cells}
use Rattle.udp_frame.specs.declared.udp4.TheConstants.{KIND_IPV4}
use Rattle.udp_frame.specs.Udp4Frames.{udp4_frame_text}
use Rattle.v4_message.specs.Requests.{AskContent, message_text, padded}
use Rattle.v4_message.specs.declared.writing.Said4.{Said4}
use Rattle.v4_frames.specs.declared.sent.Sent4.{Sent4}
use Rattle.v4_frames.specs.declared.sent.TheConstants.{CLIENT_PORT, SERVER_PORT}
use Rattle.v4_frames.specs.Spelled.{frame_of, said_in, ends_in, seen_in, if_spelled, sent_in}
use Rattle.v4_frames.specs.Laws.{OthersSpellNothing}
use Rattle.v4_frames.proofs.FramesBack.{between}

module _ (from to : Ip4) (payload : List ℕ) where
  abbrev HasKind : List ℕ → List ℕ → Type 0
  HasKind from_mac to_mac = u16_field 12 (udp4_frame_text (between from_mac to_mac from to) CLIENT_PORT SERVER_PORT payload) ≡ KIND_IPV4

  kind_cells : (f t : List ℕ) → HasKind (six f) (six t)
  unfolding udp4_frame_text
  kind_cells f t = refl

  has_kind : (f t : List ℕ) → length f ≡ 6 → length t ≡ 6 → HasKind f t
  has_kind f t f_len t_len =
      subst (λ (m : List ℕ). HasKind m t) (sym (six_cells f f_len)) (subst (λ (m : List ℕ). HasKind (six f) m) (sym (six_cells t t_len)) (kind_cells f t))

module _ (ask : AskContent) (frame : List ℕ) (long : 14 ≤ length frame) (other : u16_field 12 frame ≢ KIND_IPV4) where
  abbrev seeming : Said4 → Sent4
  seeming said = record { ends = ends_in frame; said = said }

  unlike : (said : Said4) → frame ≡ frame_of ask (seeming said) → ⊥
  unlike said same =
      let to_len : length (take 6 frame) ≡ 6 = length-take-le 6 frame (omega (arith, long)) in
      let from_len : length (take 6 (drop 6 frame)) ≡ 6 = length-take-le 6 (drop 6 frame) (omega (arith, long, length-drop 6 frame)) in
      let ends = ends_in frame in
      let kind = has_kind ends.from ends.to (padded (message_text said ask)) ends.from_mac.bytes ends.to_mac.bytes from_len to_len in
      other (ap (u16_field 12) same ∙ kind)

  by_test : (said : Said4) (same : Bool) → (same ≡ true → frame ≡ frame_of ask (seeming said)) → (if same then Some (seeming said) else None) ≡ None
  by_test said true is = absurd (unlike said (is refl))
  by_test said false is = refl

  by_said : (seen : Option Said4) → option_and_then (if_spelled ask frame) (option_map seeming seen) ≡ None
  by_said None = refl
  by_said (Some said) = by_test said (bytes_eq frame (frame_of ask (seeming said))) (bytes_eq-Decides frame (frame_of ask (seeming said))).0

pub others_spell_nothing : OthersSpellNothing
unfolding sent_in seen_in
others_spell_nothing ask frame long other = by_said ask frame long other (said_in (drop 42 frame))
