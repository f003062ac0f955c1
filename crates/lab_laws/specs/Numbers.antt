-- The exchanges of one client by their transaction numbers (RFC 2131, section 2, xid), as the last line of a lab's text
-- counts them.
use Rattle.std.specs.Prelude.{◌≡◌, ℕ, Bool, true, not, ◌==◌, ◌&&◌, ◌||◌, List, [], ◌∷◌, Option, None, if◌then◌else◌}
use Rattle.std.specs.List.{list_any}
use Rattle.v4_message.specs.declared.writing.Kind4.TheVariants.{Request}
use Rattle.v4_message.specs.declared.writing.Said4.{Said4}
use Rattle.lab_model.specs.Exchanges.{is_release, goes_on_by, is_number}
use Rattle.lab_laws.specs.Messages.{FollowEach}

-- the number with which the exchange of the last message goes on
abbrev pub open_after : List Said4 → Option ℕ
open_after [] = None
open_after (said ∷ past) = goes_on_by said

abbrev pub begins_one : Said4 → (past : List Said4) → Bool
begins_one said past = is_release said.kind || not (is_number said.xid (open_after past))

abbrev pub numbers : List Said4 → List ℕ
numbers [] = []
numbers (said ∷ past) = if begins_one said past then said.xid ∷ numbers past else numbers past

abbrev pub has_number : ℕ → List ℕ → Bool
has_number xid xids = list_any (λ other. xid == other) xids

abbrev pub are_unlike : List ℕ → Bool
are_unlike [] = true
are_unlike (xid ∷ xids) = not (has_number xid xids) && are_unlike xids

-- no REQUEST with a number is among these
abbrev pub NoRequest : ℕ → List Said4 → Type 0
NoRequest xid [] = Unit {0}
NoRequest xid (said ∷ past) = (said.kind ≡ Request → said.xid ≡ xid → ⊥) × NoRequest xid past

-- the message before it is no REQUEST with its number
abbrev pub IsFirst : Said4 → (past : List Said4) → Type 0
IsFirst said [] = Unit {0}
IsFirst said (last ∷ past) = last.kind ≡ Request → last.xid ≡ said.xid → ⊥

-- Where no number comes again, a REQUEST that doesn't go on with another one is the first with its number.
abbrev pub RequestsAreFirst : Type 0
RequestsAreFirst = (said : Said4) (past : List Said4) → said.kind ≡ Request → FollowEach (said ∷ past)
    → are_unlike (numbers (said ∷ past)) ≡ true → IsFirst said past → NoRequest said.xid past
