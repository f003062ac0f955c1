use Rattle.std.proofs.Common.{List, ◌++◌, map, ap, ◌∙◌}
use Rattle.world.specs.declared.hooking.HookVar.{HookVar}
use Rattle.world.specs.HookCalls.{Variable, variable_of}
use Rattle.conf_values.specs.declared.texts.Env.{Env}
use Rattle.conf_values.specs.Texts.{env_content}
use Rattle.conf_text.specs.Settings.{variable_said}
use Rattle.conf_text.proofs.ListLaws.{mapped_both}
use Rattle.conf_text.proofs.hooks.env_in_force.Goals as goal

pub returns : goal.returns
returns c =
    c.in_ok-add_env-2.ensures
    ∙ ap (λ (front : List Variable). front ++ map (λ (said : Env). variable_said (env_content said)) c.args.block.now)
    (c.in_ok-add_env.ensures
    ∙ ap
    (λ (none : List HookVar). map variable_of none ++ map (λ (said : Env). variable_said (env_content said)) c.args.global.now) c.new-env.ensures.items)
    ∙ mapped_both variable_said env_content c.args.global.now c.args.block.now
