-- The names of variables, as in dhcpcd-run-hooks(8), but for those of options.
use Rattle.std.specs.Prelude.{ℕ, List, codes}
use Rattle.v4_options.specs.declared.code.TheConstants.{LEASE_TIME, SERVER_IDENTIFIER}
use Rattle.v4_options.specs.OptionTable.{option_name}
use Rattle.hook_env.specs.declared.variables.JobVariable.{JobVariable}
use Rattle.hook_env.specs.declared.variables.JobVariable.TheVariants as job
use Rattle.hook_env.specs.declared.variables.NetVariable.{NetVariable}
use Rattle.hook_env.specs.declared.variables.NetVariable.TheVariants as net
use Rattle.hook_env.specs.declared.variables.Lease6Variable.{Lease6Variable}
use Rattle.hook_env.specs.declared.variables.Lease6Variable.TheVariants as lease6

abbrev pub job_word : JobVariable → List ℕ
job_word job.Interface = codes "interface"
job_word job.Reason = codes "reason"
job_word job.Carrier = codes "ifcarrier"
job_word job.Metric = codes "ifmetric"

abbrev pub net_word : NetVariable → List ℕ
net_word net.Address = codes "ip_address"
net_word net.Length = codes "subnet_cidr"
net_word net.Mask = codes "subnet_mask"

-- how long a lease lasts, and the server that granted it
abbrev pub lease_time_word : List ℕ
lease_time_word = option_name LEASE_TIME

abbrev pub server_word : List ℕ
server_word = option_name SERVER_IDENTIFIER

abbrev pub lease6_word : Lease6Variable → List ℕ
lease6_word lease6.Addresses = codes "dhcp6_addresses"
lease6_word lease6.Prefixes = codes "dhcp6_prefixes"
lease6_word lease6.NameServers = codes "dhcp6_name_servers"
lease6_word lease6.DomainSearch = codes "dhcp6_domain_search"

abbrev pub delegated_word : List ℕ
delegated_word = codes "delegated_address"
