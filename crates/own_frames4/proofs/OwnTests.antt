-- A frame is a client's own message by what it seems to say.
use Rattle.std.proofs.Common.{◌≡◌, ℕ, Bool, true, false, List, Option, Some, None, refl, sym, ap, ◌∙◌}
use Rattle.std.specs.Prelude.{option_and_then, bytes_eq, if◌then◌else◌}
use Rattle.v4_message.specs.Requests.{AskContent, AskFits}
use Rattle.v4_frames.specs.declared.sent.Sent4.{Sent4}
use Rattle.v4_frames.specs.declared.speaker.Speaker.{Speaker}
use Rattle.v4_frames.specs.Ours.{is_ours}
use Rattle.v4_frames.specs.Spelled.{frame_of, seen_in, if_spelled, sent_in}
use Rattle.client_frames.specs.Unsaid.{IsUnsaid}
use Rattle.lease_evidence.specs.OwnMessages.{if_ours, own_in}

pub unsaid : (speaker : Speaker) (ask : AskContent) (frame : List ℕ) → AskFits ask → IsUnsaid frame → None ≡ own_in speaker ask frame
unfolding own_in
unsaid speaker ask frame fits none = sym (ap (option_and_then (if_ours speaker)) (none ask fits))

module _ (speaker : Speaker) (ask : AskContent) (frame : List ℕ) (seen : Sent4) where
  abbrev by_tests : (spelled : Option Sent4) → Option Sent4
  by_tests spelled = option_and_then (if_ours speaker) spelled

  own_is : seen_in frame ≡ Some seen → own_in speaker ask frame ≡ by_tests (if_spelled ask frame seen)
  unfolding own_in sent_in
  own_is is = rw is refl

  by_spelling : (same : Bool) → is_ours speaker seen ≡ false → by_tests (if same then Some seen else None) ≡ None
  by_spelling true other = rw other refl
  by_spelling false other = refl

  pub foreign : seen_in frame ≡ Some seen → is_ours speaker seen ≡ false → None ≡ own_in speaker ask frame
  foreign is other = sym (own_is is ∙ by_spelling (bytes_eq frame (frame_of ask seen)) other)

  pub unspelled : seen_in frame ≡ Some seen → bytes_eq frame (frame_of ask seen) ≡ false → None ≡ own_in speaker ask frame
  unspelled is other = sym (own_is is ∙ ap (λ (same : Bool). by_tests (if same then Some seen else None)) other)

  own_alone : is_ours speaker seen ≡ true → by_tests (Some seen) ≡ Some seen
  own_alone own = rw own refl

  pub spelled : seen_in frame ≡ Some seen → is_ours speaker seen ≡ true → bytes_eq frame (frame_of ask seen) ≡ true
      → Some seen ≡ own_in speaker ask frame
  spelled is own same = sym (own_is is ∙ ap (λ (b : Bool). by_tests (if b then Some seen else None)) same ∙ own_alone own)
