-- A life whose turns come as early as is asked for. Moments are in milliseconds.
use Rattle.std.specs.Prelude.{ℕ, ◌≤◌, max, List, [], ◌∷◌, Option, Some, None}
use Rattle.net_types.specs.declared.address.Mac.{Mac}
use Rattle.client_model.specs.Interfaces.{iface_due}
use Rattle.client_model.specs.KeptLeases.{Beginning}
use Rattle.evidence_words.specs.IfaceLives.{Opening, Met, shown, iface_after, now_in}

-- no later than was asked for, and at once where that is over
abbrev pub NotAfter : (asked : Option ℕ) → (last at : ℕ) → Type 0
NotAfter None last at = Unit {0}
NotAfter (Some due) last at = at ≤ max due last

-- No turn goes back in time, nor comes later than the interface asked for.
abbrev pub IsPrompt : List Mac → Beginning → Opening → List Met → Type 0
IsPrompt own b o [] = Unit {0}
IsPrompt own b o (met ∷ mets) =
    (now_in (shown o mets) ≤ met.turn.at)
    × NotAfter (iface_due (iface_after own b o mets)) (now_in (shown o mets)) met.turn.at
    × IsPrompt own b o mets
