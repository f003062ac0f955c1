use Rattle.std.proofs.Common.{sym, ap, ◌∙◌}
use Rattle.client_core.specs.Touched.{is_touched}
use Rattle.life_files.specs.Keeping.{is_among}
use Rattle.life_files.proofs.keeping.Touched.has.Goals as goal

pub returns-in-These : goal.returns-in-These
returns-in-These c =
    c.is_touched.ensures ∙ ap (is_touched c.args.iface.number) c.deref.ensures.value ∙ ap (is_among c.args.iface.number) (sym c.in-These.is)
