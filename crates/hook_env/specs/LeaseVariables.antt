-- The variables of what is held of IPv4.
use Rattle.std.specs.Prelude.{ℕ, List, [], ◌∷◌, ◌++◌, flat_map, map, Option, Some, None, decimal, if◌then◌else◌}
use Rattle.std.specs.Option.{option_and_then}
use Rattle.net_types.specs.declared.address.Net4.{Net4}
use Rattle.net_types.specs.AddressText.{ip4_text}
use Rattle.net_types.specs.Networks.{mask_of}
use Rattle.lease_text.specs.Leases.{LeaseContent, ValueContent}
use Rattle.v4_options.specs.declared.table.OptionRow.{OptionRow}
use Rattle.v4_options.specs.declared.table.TheConstants.{OPTIONS}
use Rattle.v4_options.specs.OptionTable.{option_name}
use Rattle.world.specs.HookCalls.{Variable}
use Rattle.hook_env.specs.declared.situation.Stage.{Stage}
use Rattle.hook_env.specs.declared.variables.NetVariable.{NetVariable}
use Rattle.hook_env.specs.declared.variables.NetVariable.TheVariants.{Address, Length, Mask}
use Rattle.hook_env.specs.declared.variables.TheConstants.{NET_VARIABLES}
use Rattle.hook_env.specs.Stages.{prefix}
use Rattle.hook_env.specs.ValueTexts.{value_in, value_text}
use Rattle.hook_env.specs.Words.{lease_time_word, net_word, server_word}

abbrev pub variable : (name value : List ℕ) → Variable
variable name value = record { name = name; value = value }

-- a variable of what is held
abbrev pub told : Stage → (word value : List ℕ) → Variable
told stage word value = variable (prefix stage ++ word) value

-- the variable, where it has a value
abbrev pub told_if : Stage → (word : List ℕ) → Option (List ℕ) → List Variable
told_if stage word None = []
told_if stage word (Some value) = told stage word value ∷ []

-- ---- an address with its network

-- the mask is that of the length (RFC 950)
abbrev pub net_value : Net4 → NetVariable → List ℕ
net_value net Address = ip4_text net.ip
net_value net Length = decimal net.len
net_value net Mask = ip4_text (mask_of net.len)

abbrev pub net_told : Stage → Net4 → NetVariable → Variable
net_told stage net variable = told stage (net_word variable) (net_value net variable)

abbrev pub net_variables : Stage → Net4 → List Variable
net_variables stage net = map (net_told stage net) NET_VARIABLES

-- ---- a DHCPv4 lease

-- the value of the option, read in its form
abbrev pub option_value : List ValueContent → OptionRow → Option (List ℕ)
option_value values row = option_and_then (value_text row.form) (value_in row.code values)

-- of an option that a lease keeps
abbrev pub option_told : Stage → List ValueContent → OptionRow → List Variable
option_told stage values row =
    if row.kept then told_if stage (option_name row.code) (option_value values row) else []

abbrev pub option_variables : Stage → List ValueContent → List Variable
option_variables stage values = flat_map (option_told stage values) OPTIONS

-- how long it lasts, and who granted it; the time of a lease without end is 4294967295 (RFC 2131, section 3.3)
abbrev pub term_variables : Stage → LeaseContent → List Variable
term_variables stage lease =
    told stage lease_time_word (decimal lease.lease) ∷ told stage server_word (ip4_text lease.server) ∷ []

abbrev pub lease_variables : Stage → LeaseContent → List Variable
lease_variables stage lease =
    net_variables stage lease.net ++ (option_variables stage lease.values ++ term_variables stage lease)
