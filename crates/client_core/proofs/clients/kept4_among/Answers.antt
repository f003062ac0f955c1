use Rattle.std.proofs.Common.{sym, ap, ◌∙◌, option_map}
use Rattle.std.specs.Option.{option_copied}
use Rattle.lease_text.specs.Leases.{lease_content}
use Rattle.client_core.proofs.Untouched.{kept4_by_none, kept4_by_one}
use Rattle.client_core.proofs.clients.kept4_among.Goals as goal

pub returns-in_err-iface-clause-value : goal.returns-in_err-iface-clause-value
returns-in_err-iface-clause-value c =
    ap (option_map (λ lease. lease_content lease.now)) c.from_residual.ensures
    ∙ kept4_by_none c.args.index.number c.args.ifaces.now (ap option_copied (sym c.in_err-iface.was) ∙ c.iface_of.ensures)

pub returns-clause-value : goal.returns-clause-value
returns-clause-value c =
    c.iface_kept.ensures.value
    ∙ kept4_by_one c.args.index.number c.args.ifaces.now c.in_ok-iface.iface.now (ap option_copied (sym c.in_ok-iface.was) ∙ c.iface_of.ensures)
