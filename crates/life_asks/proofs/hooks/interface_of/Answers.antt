use Rattle.std.proofs.Common.{bytes_eq, codes, Some, None, sym, ap, ◌∙◌}
use Rattle.std.specs.Prelude.{find}
use Rattle.std.specs.Option.{option_copied}
use Rattle.std.specs.String.{string_bytes}
use Rattle.world.specs.declared.hooking.HookVar.{HookVar}
use Rattle.world.specs.HookCalls.{variable_of, Variable}
use Rattle.life_asks.proofs.Hookings.{value_found}
use Rattle.life_asks.proofs.hooks.interface_of.Goals as goal

pub returns-in-Some : goal.returns-in-Some
returns-in-Some c =
    c.deref-in-Some.ensures
    ∙ value_found variable_of (λ (v : Variable). bytes_eq v.name (codes "interface")) c.args.job.now.vars.items (Some c.in-Some.var.now)
    (ap option_copied (sym c.in-Some.is) ∙ c.interface_variable.ensures
    ∙ ap (find (λ (v : HookVar). bytes_eq (string_bytes v.name) (codes "interface"))) c.deref.ensures.value)

pub returns-in-None : goal.returns-in-None
returns-in-None c =
    value_found variable_of (λ (v : Variable). bytes_eq v.name (codes "interface")) c.args.job.now.vars.items None
    (ap option_copied (sym c.in-None.is) ∙ c.interface_variable.ensures
    ∙ ap (find (λ (v : HookVar). bytes_eq (string_bytes v.name) (codes "interface"))) c.deref.ensures.value)
