-- The text of a lease: which lines it has, in order.
use Rattle.std.specs.Prelude.{ℕ, List, [], ◌∷◌, ◌++◌, map, codes, decimal, Option, Some, None}
use Rattle.net_types.specs.AddressText.{ip4_text, mac_text, net4_text}
use Rattle.net_types.specs.HexText.{hex_text}
use Rattle.net_types.specs.NameText.{name_text}
use Rattle.net_types.specs.FirstBadLine.{Printed}
use Rattle.net_types.specs.TextLines.{Line, lines_text}
use Rattle.lease_text.specs.declared.lease.Origin.{Origin}
use Rattle.lease_text.specs.Leases.{ValueContent, LeaseContent}
use Rattle.lease_text.specs.Bounds.{HasText}

-- ---- the words that lines begin with, or are

abbrev pub first_version : Line
first_version = codes "dhcpcd-lease4 1"

abbrev pub second_version : Line
second_version = codes "dhcpcd-lease4 2"

abbrev pub end_line : Line
end_line = codes "end"

abbrev pub interface_word : List ℕ
interface_word = codes "interface "

abbrev pub mac_word : List ℕ
mac_word = codes "mac "

abbrev pub confirmed_word : List ℕ
confirmed_word = codes "confirmed "

abbrev pub address_word : List ℕ
address_word = codes "address "

abbrev pub server_word : List ℕ
server_word = codes "server "

abbrev pub server_mac_word : List ℕ
server_mac_word = codes "servermac "

abbrev pub first_word : List ℕ
first_word = codes "first "

abbrev pub lease_word : List ℕ
lease_word = codes "lease "

abbrev pub renewal_word : List ℕ
renewal_word = codes "t1 "

abbrev pub rebinding_word : List ℕ
rebinding_word = codes "t2 "

abbrev pub option_word : List ℕ
option_word = codes "option "

-- ---- the lines

-- the code of a value and its bytes
abbrev pub value_text : ValueContent → List ℕ
value_text value = decimal value.code ++ 32 ∷ hex_text value.bytes

abbrev pub option_line : ValueContent → Line
option_line value = option_word ++ value_text value

-- a lease that tells its origin is of the second version
abbrev pub version_line : Option Origin → Line
version_line None = first_version
version_line (Some origin) = second_version

abbrev pub origin_lines : Option Origin → List Line
origin_lines None = []
origin_lines (Some origin) = (mac_word ++ mac_text origin.mac) ∷ (confirmed_word ++ decimal origin.confirmed) ∷ []

-- whose lease it is
abbrev pub holder_lines : LeaseContent → List Line
holder_lines lease = version_line lease.origin ∷ (interface_word ++ name_text lease.name) ∷ origin_lines lease.origin

-- what was granted, by whom, and its times
abbrev pub grant_lines : LeaseContent → List Line
grant_lines lease =
    (address_word ++ net4_text lease.net)
    ∷ (server_word ++ ip4_text lease.server)
    ∷ (server_mac_word ++ mac_text lease.server_mac)
    ∷ (first_word ++ decimal lease.first)
    ∷ (lease_word ++ decimal lease.lease)
    ∷ (renewal_word ++ decimal lease.t1)
    ∷ (rebinding_word ++ decimal lease.t2)
    ∷ []

-- the lines before those of the values
abbrev pub head_lines : LeaseContent → List Line
head_lines lease = holder_lines lease ++ grant_lines lease

abbrev pub lease4_lines : LeaseContent → List Line
lease4_lines lease = head_lines lease ++ (map option_line lease.values ++ end_line ∷ [])

abbrev pub lease4_text : LeaseContent → List ℕ
lease4_text lease = lines_text (lease4_lines lease)

-- these lines are the text of the lease
abbrev pub SpellsLease4 : LeaseContent → List Line → Type 0
SpellsLease4 = Printed lease4_lines HasText
