use Rattle.std.proofs.Common.{◌≡◌, ◌++◌, map, take}
use Rattle.world.specs.HookCalls.{variable_of}
use Rattle.conf_values.specs.Texts.{env_content}
use Rattle.conf_text.specs.Settings.{variable_said}
use Rattle.conf_text.proofs.hooks.add_env.Given as goal

abbrev pub invariant-loop-said : goal.invariant-loop-said
invariant-loop-said l =
    map variable_of l.into.items ≡ map variable_of l.initial.into.items ++ map (λ said. variable_said (env_content said)) (take l.said-index l.env)
