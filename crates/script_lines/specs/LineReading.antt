-- How the words of the lines `if` and `fail` are read, after the first word.
use Rattle.std.specs.Prelude.{ℕ, ◌^◌, nat_le, List, [], ◌∷◌, Option, codes, option_map}
use Rattle.net_types.specs.declared.interface.IfSpec.{IfSpec}
use Rattle.net_types.specs.Cutting.{pair_at, Choices, choose_at, guarded}
use Rattle.net_types.specs.AddressText.{mac_at}
use Rattle.net_types.specs.NameText.{name_at}
use Rattle.net_types.specs.Numbers.{number_at}
use Rattle.script_model.specs.declared.failing.FailLine.{FailLine}
use Rattle.script_model.specs.declared.failing.FailDevice.{FailDevice}
use Rattle.script_model.specs.declared.failing.FailDevice.TheVariants.{Link, Store, Host, Hooks}
use Rattle.row_texts.specs.RowReading.{iface_at}

-- an interface: its number, name and hardware address
unfoldable pub spec_at : List ℕ → Option IfSpec
spec_at text =
    option_map (λ p. record { index = p.0; name = p.1.0; mac = p.1.1 })
    (pair_at 32 iface_at (pair_at 32 name_at mac_at) text)

-- the number of a call, from 1
unfoldable pub call_at : List ℕ → Option ℕ
call_at text = guarded (λ n. nat_le 1 n) (number_at (2 ^ 64) text)

abbrev pub failing : FailDevice → ℕ → FailLine
failing device number = record { device = device; number = number }

abbrev pub failing_at : FailDevice → List ℕ → Option FailLine
failing_at device rest = option_map (failing device) (call_at rest)

abbrev pub devices : Choices FailLine
devices =
    (codes "link ", failing_at Link)
    ∷ (codes "store ", failing_at Store)
    ∷ (codes "host ", failing_at Host)
    ∷ (codes "hooks ", failing_at Hooks)
    ∷ []

-- a call of a device that fails
unfoldable pub fail_at : List ℕ → Option FailLine
fail_at text = choose_at devices text
