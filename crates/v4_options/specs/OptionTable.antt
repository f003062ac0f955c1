-- What the table of options says of a code and of a name (RFC 2132, RFC 3397, RFC 3442; dhcpcd.conf(5)).
use Rattle.std.specs.Prelude.{ℕ, Bool, true, false, ◌==◌, ◌&&◌, List, [], ◌∷◌, Option, codes, bytes_eq, find, unwrap_or, option_map, if◌then◌else◌}
use Rattle.std.specs.List.{list_any}
use Rattle.v4_options.specs.declared.code.TheConstants.{BROADCAST_ADDRESS, CLASSLESS_ROUTES, DOMAIN_NAME, DOMAIN_NAME_SERVERS, DOMAIN_SEARCH, HOST_NAME, INTERFACE_MTU, LEASE_TIME, NTP_SERVERS, REBINDING_TIME, RENEWAL_TIME, ROUTERS, SERVER_IDENTIFIER, SUBNET_MASK}
use Rattle.v4_options.specs.declared.form.ValueForm.{ValueForm}
use Rattle.v4_options.specs.declared.form.ValueForm.TheVariants.{Address, Addresses, Number16, Number32, DomainName, DomainNames, Routes, Opaque}
use Rattle.v4_options.specs.declared.table.OptionRow.{OptionRow}
use Rattle.v4_options.specs.declared.table.TheConstants.{OPTIONS}

-- an option of this code, whose value has this form, and whether a lease keeps it
abbrev row : ℕ → ValueForm → Bool → OptionRow
row code form kept = record { code = code; form = form; kept = kept }

-- the table, to which a law holds that of the code
abbrev pub option_rows : List OptionRow
option_rows =
    row 28 Address true
    ∷ row 3 Addresses true
    ∷ row 6 Addresses true
    ∷ row 15 DomainName true
    ∷ row 119 DomainNames true
    ∷ row 12 DomainName true
    ∷ row 26 Number16 true
    ∷ row 42 Addresses true
    ∷ row 121 Routes true
    ∷ row 1 Address false
    ∷ row 51 Number32 false
    ∷ row 54 Address false
    ∷ row 58 Number32 false
    ∷ row 59 Number32 false
    ∷ []

abbrev pub form_of : (code : ℕ) → ValueForm
form_of code = unwrap_or (option_map (λ row. row.form) (find (λ row. row.code == code) OPTIONS)) Opaque

-- whether a lease keeps the values of a code
abbrev pub is_kept : (code : ℕ) → Bool
is_kept code = list_any (λ row. (row.code == code) && row.kept) OPTIONS

-- empty where it has none
abbrev pub option_name : (code : ℕ) → List ℕ
option_name code =
    if code == SUBNET_MASK then codes "subnet_mask"
    else if code == ROUTERS then codes "routers"
    else if code == DOMAIN_NAME_SERVERS then codes "domain_name_servers"
    else if code == HOST_NAME then codes "host_name"
    else if code == DOMAIN_NAME then codes "domain_name"
    else if code == INTERFACE_MTU then codes "interface_mtu"
    else if code == BROADCAST_ADDRESS then codes "broadcast_address"
    else if code == NTP_SERVERS then codes "ntp_servers"
    else if code == LEASE_TIME then codes "dhcp_lease_time"
    else if code == SERVER_IDENTIFIER then codes "dhcp_server_identifier"
    else if code == RENEWAL_TIME then codes "dhcp_renewal_time"
    else if code == REBINDING_TIME then codes "dhcp_rebinding_time"
    else if code == DOMAIN_SEARCH then codes "domain_search"
    else if code == CLASSLESS_ROUTES then codes "classless_static_routes"
    else []

unfoldable pub code_named : (word : List ℕ) → Option ℕ
code_named word = option_map (λ row. row.code) (find (λ row. bytes_eq (option_name row.code) word) OPTIONS)
