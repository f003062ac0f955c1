use Rattle.client_model.proofs.HostDuids.{host_duid_fits}
use Rattle.client_model.proofs.laws.the_hosts_duid_fits.Goals as goal

pub returns : goal.returns
returns c = host_duid_fits
