use Rattle.std.proofs.Common.{sym, ap, ◌∙◌}
use Rattle.std.specs.Option.{option_copied}
use Rattle.client_core.proofs.Fit.{found_fits}
use Rattle.client_core.proofs.hook_jobs.shared_job.Goals as goal

pub event_job-requires : goal.event_job-requires
event_job-requires c =
    (found_fits c.args.index.number c.args.ifaces.now c.in-Some.iface.now c.requires (ap option_copied (sym c.in-Some.is) ∙ c.iface_of.ensures)).managed.index
