-- The options whose values a DHCPv6 lease keeps, and the form that each must have (RFC 3646).
use Rattle.std.specs.Prelude.{ℕ, Bool, false, List, ◌==◌, if◌then◌else◌}
use Rattle.std.specs.Option.{is_some}
use Rattle.std.specs.List.{list_any}
use Rattle.v6_options.specs.declared.code.TheConstants.{DNS_SERVERS, DOMAIN_LIST}
use Rattle.v6_options.specs.Readers.{dns6_in, search6_in}
use Rattle.lease6_text.specs.declared.form.TheConstants.{KEPT_CODES6}

-- whether a lease keeps the values of a code
abbrev pub is_kept6 : (code : ℕ) → Bool
is_kept6 code = list_any (λ kept. kept == code) KEPT_CODES6

-- servers are one address or more; search lists are one name or more
abbrev pub is_well_formed6 : (code : ℕ) → List ℕ → Bool
is_well_formed6 code value =
    if code == DNS_SERVERS then is_some (dns6_in value)
    else if code == DOMAIN_LIST then is_some (search6_in value)
    else false
