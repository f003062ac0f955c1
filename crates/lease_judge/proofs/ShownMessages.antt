-- What was seen, one message after another.
use Rattle.std.proofs.Common.{◌≡◌, ℕ, ◌+◌, ◌<◌, List, [], ◌∷◌, ◌++◌, length, take, get_or, Option, refl, sym, ap, ◌∙◌}
use Rattle.std.proofs.lemmas.List.{take_more}
use Rattle.v4_frames.specs.declared.sent.Sent4.{Sent4}
use Rattle.own_frames4.specs.LeaseEvidence.Exchanges as exchanges
use Rattle.own_frames4.specs.LeaseEvidence.Exchanges.{show, shows}
use Rattle.lease_judge.specs.Watched.{HasMoment, seen_shown}
use Rattle.lease_judge.specs.declared.watch.Seen.{Seen}

-- some messages were seen, and what is open began at a moment
pub record SeenSoFar (at : ℕ) (old : Seen) (messages : List (Option Sent4)) (now : Seen) : Type 0 where
  pub shown : seen_shown now ≡ show at messages (seen_shown old)
  pub moment : HasMoment now

show_more : (at : ℕ) (messages : List (Option Sent4)) (message : Option Sent4) (seen : exchanges.Seen)
    → show at (messages ++ message ∷ []) seen ≡ shows at message (show at messages seen)
show_more at [] message seen = refl
show_more at (first ∷ messages) message seen = show_more at messages message (shows at first seen)

pub one_seen : (at : ℕ) (old : Seen) (messages : List (Option Sent4)) (i : ℕ) (d : Option Sent4) (before after : Seen) → i < length messages
    → SeenSoFar at old (take i messages) before → seen_shown after ≡ shows at (get_or messages i d) (seen_shown before) → HasMoment after
    → SeenSoFar at old (take (i + 1) messages) after
one_seen at old messages i d before after within so_far shown moment = record {
  shown =
      shown ∙ ap (shows at (get_or messages i d)) so_far.shown ∙ sym (show_more at (take i messages) (get_or messages i d) (seen_shown old))
      ∙ ap (λ (ms : List (Option Sent4)). show at ms (seen_shown old)) (sym (take_more messages i d within));
  moment = moment;
}
