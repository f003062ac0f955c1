-- In which turn of a life something came, where each turn after it is as it is to be. Turns are counted from 0, the
-- opening.
use Rattle.std.specs.Prelude.{◌≡◌, ◌⊎◌, ℕ, List, [], ◌∷◌, length}
use Rattle.evidence_words.specs.Entries as told
use Rattle.evidence_words.specs.Probed.{TurnWord}
use Rattle.audit_words.specs.Shown.{entry_shown}
use Rattle.basis_turns.specs.declared.shown_turn.ShownTurn.{ShownTurn}

-- Turn n is as Q says, and each one after it as P says. A fact on a turn may look at the turns before it.
abbrev pub SinceTurn : (n : ℕ) → (P Q : TurnWord) → List told.Entry → Type 0
SinceTurn n P Q [] = ⊥
SinceTurn n P Q (e ∷ past) = ((n ≡ length past) × Q e past) ⊎ (P e past × SinceTurn n P Q past)

-- what turns show, the newest first, in front of what was shown before
abbrev pub shown_after : List told.Entry → List ShownTurn → List told.Entry
shown_after past [] = past
shown_after past (turn ∷ turns) = shown_after (entry_shown turn.entry ∷ past) turns
