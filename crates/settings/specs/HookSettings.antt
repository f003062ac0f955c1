-- What is configured for hooks (dhcpcd-run-hooks(8)).
use Rattle.std.specs.Prelude.{ℕ, List, map}
use Rattle.std.specs.String.{string_bytes}
use Rattle.world.specs.declared.hooking.HookVar.{HookVar}
use Rattle.world.specs.HookCalls.{Variable, variable_of}
use Rattle.settings.specs.declared.hook_conf.Script.{Script}
use Rattle.settings.specs.declared.hook_conf.Script.TheVariants as script

-- nothing is run, the device's own script, or the one at this path
pub data ScriptContent : Type 0 where
  Nothing : ScriptContent
  Default : ScriptContent
  At : (path : List ℕ) → ScriptContent

abbrev pub script_in : Script → ScriptContent
script_in script.Nothing = Nothing
script_in script.Default = Default
script_in (script.At path) = At (string_bytes path)

pub record HookSettings : Type 0 where
  pub script : ScriptContent
  pub env : List Variable

abbrev pub hook_settings : Script → List HookVar → HookSettings
hook_settings script env = record { script = script_in script; env = map variable_of env }
