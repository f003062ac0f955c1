-- How the line `start` is read: the moment, a random word and the interfaces with carrier.
use Rattle.std.specs.Prelude.{ℕ, zero, suc, ◌+◌, ◌*◌, ◌==◌, List, [], ◌∷◌, Option, Some, None, codes, bytes_eq, option_map, if◌then◌else◌}
use Rattle.net_types.specs.Cutting.{◌>>=◌, after_word, field_at, list_at}
use Rattle.world.specs.declared.wakes.Begin.{Begin}
use Rattle.script_lines.specs.declared.carriers.Listed.{Listed}
use Rattle.row_texts.specs.RowReading.{iface_at}
use Rattle.script_lines.specs.TurnReading.{moment_at, salt_at}

unfoldable pub listed_at : List ℕ → Option Listed
listed_at text = option_map (λ i. record { iface = i }) (iface_at text)

-- the interfaces listed, or `-` for none
unfoldable pub list_of_listed_at : List ℕ → Option (List Listed)
list_of_listed_at text = if bytes_eq text (codes "-") then Some [] else list_at 44 listed_at text

-- The carriers of so many interfaces from the first on, the first one's as the lowest bit; the list names them rising.
abbrev pub bits_at : ℕ → ℕ → List Listed → Option ℕ
bits_at first zero [] = Some 0
bits_at first zero (l ∷ ls) = None
bits_at first (suc n) [] = Some 0
bits_at first (suc n) (l ∷ ls) =
    if l.iface.number == first then option_map (λ u. 2 * u + 1) (bits_at (first + 1) n ls)
    else option_map (λ u. 2 * u) (bits_at (first + 1) n (l ∷ ls))

unfoldable pub up_at : ℕ → List ℕ → Option ℕ
up_at count text = list_of_listed_at text >>= bits_at 1 count

unfoldable pub begin_at : ℕ → List ℕ → Option Begin
begin_at count text = do
  at ← field_at 32 moment_at text
  salt ← field_at 32 salt_at at.1
  up ← after_word (codes "up ") (up_at count) salt.1
  Some (record { at = at.0; salt = salt.0; up = up })
