-- The calls of devices that a script lets fail.
use Rattle.std.specs.Prelude.{ℕ, ◌^◌, ◌<◌, ◌≤◌, Bool, true, false, List, ◌++◌, map, filter, codes, decimal}
use Rattle.script_model.specs.declared.failing.FailDevice.{FailDevice}
use Rattle.script_model.specs.declared.failing.FailDevice.TheVariants.{Link, Store, Host, Hooks}
use Rattle.script_model.specs.declared.failing.FailLine.{FailLine}

abbrev pub device_text : FailDevice → List ℕ
device_text Link = codes "link"
device_text Store = codes "store"
device_text Host = codes "host"
device_text Hooks = codes "hooks"

-- call number `number` of a device fails
abbrev pub fail_text : FailLine → List ℕ
fail_text fail = codes "fail " ++ device_text fail.device ++ codes " " ++ decimal fail.number

abbrev pub is_same_device : FailDevice → FailDevice → Bool
is_same_device Link Link = true
is_same_device Store Store = true
is_same_device Host Host = true
is_same_device Hooks Hooks = true
is_same_device device other = false

-- the numbers of a device's calls that fail, from 1 over all lives: of the link its sends, of the hooks their starts
abbrev pub failing_calls : FailDevice → List FailLine → List ℕ
failing_calls device fails = map (λ fail. fail.number) (filter (λ fail. is_same_device fail.device device) fails)

-- calls count from 1
pub record FitsFail (fail : FailLine) : Type 0 where
  pub first : 1 ≤ fail.number
  pub bits : fail.number < 2 ^ 64
