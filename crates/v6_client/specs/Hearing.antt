-- The rows of messages (RFC 8415, sections 18.2.9 and 18.2.10).
use Rattle.std.specs.Prelude.{ℕ, Bool, true, false, ◌||◌, Option, Some, None, nat_le, nat_lt, ◌==◌, if◌then◌else◌}
use Rattle.v6_client.specs.declared.exchange.Exchange6.{Exchange6}
use Rattle.v6_client.specs.declared.states.Answer6.{Answer6}
use Rattle.v6_client.specs.declared.states.Answer6.TheVariants as answer
use Rattle.v6_client.specs.declared.states.News6.{News6}
use Rattle.v6_client.specs.declared.states.News6.TheVariants as news
use Rattle.v6_client.specs.declared.states.State6.{State6}
use Rattle.v6_client.specs.declared.states.State6.TheVariants.{Off, Waiting, Soliciting, Requesting, Bound, Renewing, Rebinding, Restarting, Declining}
use Rattle.v6_client.specs.declared.states.Step6.{Step6}
use Rattle.v6_client.specs.declared.hearing.TheConstants.{HIGHEST_PREFERENCE}
use Rattle.v6_client.specs.declared.turn.Turn6.{Turn6}
use Rattle.v6_client.specs.Steps.{rests, to_waiting, requests, emptied, expires, binds}

-- an offer of the highest preference, or one that comes after a second SOLICIT, is taken at once (section 18.2.9)
abbrev pub is_taken_at_once : Exchange6 → (preference : ℕ) → Bool
is_taken_at_once exchange preference = (preference == HIGHEST_PREFERENCE) || nat_le 2 exchange.sent

-- an offer is kept where it is the first, or is preferred to the one that is kept
abbrev pub is_better : Option ℕ → (preference : ℕ) → Bool
is_better None preference = true
is_better (Some kept) preference = nat_lt kept preference

abbrev pub offered : Turn6 → Exchange6 → Option ℕ → (preference : ℕ) → Step6
offered turn exchange offer preference =
    if is_taken_at_once exchange preference then requests turn
    else if is_better offer preference then rests turn (Soliciting exchange (Some preference))
    else rests turn (Soliciting exchange offer)

-- Whether the offer is one that the client keeps.
abbrev pub is_kept_offer : Answer6 → State6 → Bool
is_kept_offer (answer.Offer preference) (Soliciting exchange offer) =
    is_taken_at_once exchange preference || is_better offer preference
is_kept_offer _ _ = false

-- In Soliciting: an offer, or a Reply at once.
abbrev pub solicited : Turn6 → Exchange6 → Option ℕ → Answer6 → Step6
solicited turn exchange offer (answer.Offer preference) = offered turn exchange offer preference
solicited turn exchange offer answer.Grants = binds turn news.Bound
solicited turn exchange offer answer.Empties = to_waiting turn
solicited turn exchange offer answer.Keeps = rests turn (Soliciting exchange offer)
solicited turn exchange offer answer.Nothing = rests turn (Soliciting exchange offer)

-- A Reply: its items are held; or none is left, and `emptied` is the step.
abbrev pub replied : Turn6 → News6 → (emptied : Step6) → State6 → Answer6 → Step6
replied turn news emptied state answer.Grants = binds turn news
replied turn news emptied state answer.Empties = emptied
replied turn news emptied state answer.Keeps = rests turn state
replied turn news emptied state answer.Nothing = rests turn state
replied turn news emptied state (answer.Offer preference) = rests turn state

-- In Declining: what is left is held; servers are looked for anew where nothing is.
abbrev pub declined : Turn6 → State6 → Answer6 → Step6
declined turn state answer.Keeps = rests turn Bound
declined turn state answer.Empties = expires turn
declined turn state answer.Grants = rests turn state
declined turn state answer.Nothing = rests turn state
declined turn state (answer.Offer preference) = rests turn state

-- What a message says is judged before.
abbrev pub heard_row : Turn6 → Answer6 → State6 → Step6
heard_row turn answer Off = rests turn Off
heard_row turn answer (Waiting due) = rests turn (Waiting due)
heard_row turn answer (Soliciting exchange offer) = solicited turn exchange offer answer
heard_row turn answer (Requesting exchange) = replied turn news.Bound (to_waiting turn) (Requesting exchange) answer
heard_row turn answer Bound = rests turn Bound
heard_row turn answer (Renewing exchange) = replied turn news.Renew (expires turn) (Renewing exchange) answer
heard_row turn answer (Rebinding exchange) = replied turn news.Rebind (expires turn) (Rebinding exchange) answer
heard_row turn answer (Restarting exchange end since stands) =
    replied turn news.Reboot (emptied turn stands) (Restarting exchange end since stands) answer
heard_row turn answer (Declining exchange) = declined turn (Declining exchange) answer
