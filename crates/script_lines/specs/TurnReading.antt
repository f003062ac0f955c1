-- How the words of the line `turn` are read, after the first word.
use Rattle.std.specs.Prelude.{ℕ, ◌^◌, Bool, true, false, nat_le, List, [], ◌∷◌, length, Option, Some, None, codes, bytes_eq, option_map, if◌then◌else◌}
use Rattle.net_types.specs.Cutting.{pair_at, end_at, choice_at, Choices, choose_at, guarded}
use Rattle.net_types.specs.HexText.{hex_at}
use Rattle.net_types.specs.Ip6Text.{ip6_at}
use Rattle.net_types.specs.Numbers.{number_at}
use Rattle.world.specs.LinkCalls.{Given}
use Rattle.world.specs.declared.wakes.Event.{Event}
use Rattle.world.specs.declared.wakes.Event.TheVariants.{Frame, Carrier, Duplicate, Release, Rebind, Stop, Quiet}
use Rattle.script_model.specs.Scripts.{frame_room}
use Rattle.row_texts.specs.RowReading.{iface_at}

-- milliseconds since 1970, below 10^15
unfoldable pub moment_at : List ℕ → Option ℕ
moment_at text = number_at (10 ^ 15) text

unfoldable pub salt_at : List ℕ → Option ℕ
salt_at text = number_at (2 ^ 64) text

unfoldable pub switch_at : List ℕ → Option Bool
switch_at text =
    if bytes_eq text (codes "up") then Some true
    else (if bytes_eq text (codes "down") then Some false else None)

-- what came, with the bytes of a frame
abbrev pub Came : Type 0
Came = Event × List ℕ

abbrev pub without_bytes : Event → Came
without_bytes event = (event, [])

-- bytes that a frame has room for
unfoldable pub frame_bytes_at : List ℕ → Option (List ℕ)
frame_bytes_at text = guarded (λ bytes. nat_le (length bytes) frame_room) (hex_at text)

unfoldable pub frame_at : List ℕ → Option Came
frame_at text = option_map (λ p. (Frame p.0.number (length p.1), p.1)) (pair_at 32 iface_at frame_bytes_at text)

-- nothing more is said of it
abbrev pub lone_at : Event → List ℕ → Option Came
lone_at event rest = option_map (λ none. without_bytes event) (end_at rest)

abbrev pub carrier_at : List ℕ → Option Came
carrier_at rest = option_map (λ p. without_bytes (Carrier p.0.number p.1)) (pair_at 32 iface_at switch_at rest)

abbrev pub release_at : List ℕ → Option Came
release_at rest = option_map (λ iface. without_bytes (Release iface.number)) (iface_at rest)

abbrev pub rebind_at : List ℕ → Option Came
rebind_at rest = option_map (λ iface. without_bytes (Rebind iface.number)) (iface_at rest)

-- inputs without bytes
abbrev pub plain_inputs : Choices Came
plain_inputs =
    (codes "quiet", lone_at Quiet)
    ∷ (codes "stop", lone_at Stop)
    ∷ (codes "carrier ", carrier_at)
    ∷ (codes "release ", release_at)
    ∷ (codes "rebind ", rebind_at)
    ∷ []

unfoldable pub plain_at : List ℕ → Option Came
plain_at text = choose_at plain_inputs text

-- inputs of one text
abbrev pub inputs : Choices Came
inputs = (codes "frame ", frame_at) ∷ plain_inputs

unfoldable pub input_at : List ℕ → Option Came
input_at text = choose_at inputs text

-- the address in any spelling
abbrev pub duplicate_at : List ℕ → Option Came
duplicate_at rest = option_map (λ p. without_bytes (Duplicate p.0.number p.1)) (pair_at 32 iface_at ip6_at rest)

unfoldable pub came_at : List ℕ → Option Came
came_at text = choice_at (codes "dup ") duplicate_at input_at text

-- what a turn is given: its moment, a random word and what came
unfoldable pub turn_at : List ℕ → Option Given
turn_at text =
    option_map (λ p. record { wake = record { at = p.0; salt = p.1.0; event = p.1.1.0 }; bytes = p.1.1.1 })
    (pair_at 32 moment_at (pair_at 32 salt_at came_at) text)
