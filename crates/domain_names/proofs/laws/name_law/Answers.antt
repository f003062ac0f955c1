use Rattle.std.proofs.Common.{[]}
use Rattle.domain_names.proofs.Labels.{labels_joined}
use Rattle.domain_names.proofs.NameBytes.{name_parted}
use Rattle.domain_names.proofs.laws.name_law.Goals as goal

pub returns-clause-joined : goal.returns-clause-joined
returns-clause-joined c text = labels_joined [] text

pub returns-clause-parted : goal.returns-clause-parted
returns-clause-parted c = name_parted
