-- In which turns an address was probed (RFC 5227, section 2.1.1). Moments are in milliseconds.
use Rattle.std.specs.Prelude.{◌≡◌, ℕ, ◌+◌, ◌≤◌, true, false, List, [], ◌∷◌, length, Option, Some, None}
use Rattle.net_types.specs.declared.address.Ip4.{Ip4}
use Rattle.evidence_words.specs.Entries.{Entry}
use Rattle.evidence_words.specs.Inputs.{Site, offers_at, contests}
use Rattle.evidence_words.specs.Probed.{TurnWord, AsProbe, probe_taken}
use Rattle.basis_turns.specs.Turns.{SinceTurn}
use Rattle.basis_turns.specs.declared.probes.ProbedTurns.{ProbedTurns}

-- A probe was taken in each of these turns, the last of which stands first: the last one `wait` or more before the
-- moment `before`, each other one a second or more before the next. From the first of them on nobody contested the
-- address. The first is as `First` says, and each turn after it as C says.
abbrev pub ProbesIn : (C First : TurnWord) → Site → Ip4 → (turns : List ℕ) → (wait before : ℕ) → List Entry → Type 0
ProbesIn C First site addr [] wait before past = Unit {0}
ProbesIn C First site addr (n ∷ turns) wait before past =
    SinceTurn n (λ e earlier. C e earlier × (contests site addr e ≡ false))
    (λ e earlier. AsProbe C First (length turns) e earlier × (contests site addr e ≡ false)
    × (probe_taken site addr (offers_at site e) ≡ true)
    × (e.moment + wait ≤ before) × ProbesIn C First site addr turns 1000 e.moment earlier)
    past

-- the three of them, the last one first
abbrev pub three_of : ProbedTurns → List ℕ
three_of turns = turns.probes.third ∷ turns.probes.second ∷ turns.probes.first ∷ []

-- Three probes in these turns, and the fourth turn two seconds or more after the third of them. Each turn after that of
-- the first probe is as C says.
abbrev pub ProbedIn : (C First : TurnWord) → Site → Ip4 → ProbedTurns → List Entry → Type 0
ProbedIn C First site addr turns past =
    SinceTurn turns.fourth C
    (λ e earlier. C e earlier × ProbesIn C First site addr (three_of turns) 2000 e.moment earlier) past
