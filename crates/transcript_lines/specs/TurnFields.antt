-- How the words of the line of a turn are read, after the first word: as a script's, but an interface has any number of
-- 32 bits, and a frame any length.
use Rattle.std.specs.Prelude.{ℕ, ◌^◌, List, [], ◌∷◌, length, Option, codes, option_map}
use Rattle.net_types.specs.Cutting.{Choices, choose_at, end_at, pair_at}
use Rattle.net_types.specs.HexText.{hex_at}
use Rattle.net_types.specs.Ip6Text.{ip6_at}
use Rattle.net_types.specs.Numbers.{number_at}
use Rattle.world.specs.declared.wakes.Event.{Event}
use Rattle.world.specs.declared.wakes.Event.TheVariants.{Frame, Carrier, Duplicate, Release, Rebind, Stop, Quiet}
use Rattle.script_model.specs.Lines.{Line}
use Rattle.script_model.specs.Lines as Model
use Rattle.script_lines.specs.TurnReading.{Came, moment_at, salt_at, switch_at, without_bytes}

abbrev pub index_at : List ℕ → Option ℕ
index_at text = number_at (2 ^ 32) text

abbrev pub frame_at : List ℕ → Option Came
frame_at rest = option_map (λ p. (Frame p.0 (length p.1), p.1)) (pair_at 32 index_at hex_at rest)

-- the address in any spelling
abbrev pub duplicate_at : List ℕ → Option Came
duplicate_at rest = option_map (λ p. without_bytes (Duplicate p.0 p.1)) (pair_at 32 index_at ip6_at rest)

abbrev pub lone_at : Event → List ℕ → Option Came
lone_at event rest = option_map (λ none. without_bytes event) (end_at rest)

abbrev pub carrier_at : List ℕ → Option Came
carrier_at rest = option_map (λ p. without_bytes (Carrier p.0 p.1)) (pair_at 32 index_at switch_at rest)

abbrev pub release_at : List ℕ → Option Came
release_at rest = option_map (λ iface. without_bytes (Release iface)) (index_at rest)

abbrev pub rebind_at : List ℕ → Option Came
rebind_at rest = option_map (λ iface. without_bytes (Rebind iface)) (index_at rest)

abbrev pub plain_inputs : Choices Came
plain_inputs =
    (codes "quiet", lone_at Quiet)
    ∷ (codes "stop", lone_at Stop)
    ∷ (codes "carrier ", carrier_at)
    ∷ (codes "release ", release_at)
    ∷ (codes "rebind ", rebind_at)
    ∷ []

unfoldable pub plain_at : List ℕ → Option Came
plain_at text = choose_at plain_inputs text

-- inputs without bytes
abbrev pub event_inputs : Choices Came
event_inputs = (codes "dup ", duplicate_at) ∷ plain_inputs

unfoldable pub event_at : List ℕ → Option Came
event_at text = choose_at event_inputs text

-- what came, with the bytes of a frame
abbrev pub inputs : Choices Came
inputs = (codes "frame ", frame_at) ∷ event_inputs

unfoldable pub came_at : List ℕ → Option Came
came_at text = choose_at inputs text

unfoldable pub turn_at : List ℕ → Option Line
turn_at text =
    option_map (λ p. Model.Turn p.0 p.1.0 p.1.1.0 p.1.1.1) (pair_at 32 moment_at (pair_at 32 salt_at came_at) text)
