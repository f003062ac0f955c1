-- How the words of the line `crash` are read: how many calls pass, and what is left.
use Rattle.std.specs.Prelude.{ℕ, ◌^◌, List, Option, Some, None, codes, bytes_eq, option_map, if◌then◌else◌}
use Rattle.net_types.specs.Cutting.{pair_at}
use Rattle.net_types.specs.Numbers.{number_at}
use Rattle.script_model.specs.declared.crashing.CrashKind.{CrashKind}
use Rattle.script_model.specs.declared.crashing.CrashKind.TheVariants.{Old, New}
use Rattle.script_model.specs.Crashes.{CrashScript}

-- a number, or `-` for no limit
unfoldable pub calls_at : List ℕ → Option (Option ℕ)
calls_at text = if bytes_eq text (codes "-") then Some None else option_map Some (number_at (2 ^ 64) text)

unfoldable pub kind_at : List ℕ → Option CrashKind
kind_at text =
    if bytes_eq text (codes "old") then Some Old
    else (if bytes_eq text (codes "new") then Some New else None)

unfoldable pub crash_at : List ℕ → Option CrashScript
crash_at text = option_map (λ p. record { calls = p.0; kind = p.1 }) (pair_at 32 calls_at kind_at text)
