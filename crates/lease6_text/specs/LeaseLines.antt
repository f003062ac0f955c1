-- The text of a DHCPv6 lease: which lines it has, in order.
use Rattle.std.specs.Prelude.{ℕ, List, [], ◌∷◌, ◌++◌, map, flat_map, codes, decimal, Option, Some, None}
use Rattle.net_types.specs.declared.address.Mac.{Mac}
use Rattle.net_types.specs.declared.address.Net6.{Net6}
use Rattle.net_types.specs.declared.interface.Name.{Name}
use Rattle.net_types.specs.AddressText.{ip6_text, mac_text, net6_text}
use Rattle.net_types.specs.FirstBadLine.{Printed}
use Rattle.net_types.specs.HexText.{hex_text}
use Rattle.net_types.specs.NameText.{name_text}
use Rattle.net_types.specs.TextLines.{Line, lines_text}
use Rattle.v6_options.specs.declared.ia.IaKind.{IaKind}
use Rattle.v6_options.specs.declared.ia.IaKind.TheVariants.{Na, Pd}
use Rattle.lease_text.specs.declared.lease.Origin.{Origin}
use Rattle.lease_text.specs.LeaseLines.{confirmed_word, end_line, interface_word, mac_word, option_line, origin_lines}
use Rattle.lease6_text.specs.declared.lease.Item6.{Item6}
use Rattle.lease6_text.specs.Bounds.{HasText6}
use Rattle.lease6_text.specs.Leases.{IaLeaseContent, Lease6Content}

-- ---- the words that lines begin with, or are

-- the first line: a text of the second version tells the origin
abbrev pub plain_line : Line
plain_line = codes "dhcpcd-lease6 1"

abbrev pub origin_line : Line
origin_line = codes "dhcpcd-lease6 2"

abbrev pub server_word : List ℕ
server_word = codes "server "

abbrev pub renewal_word : List ℕ
renewal_word = codes "t1 "

abbrev pub rebinding_word : List ℕ
rebinding_word = codes "t2 "

abbrev pub ia_word : List ℕ
ia_word = codes "ia "

abbrev pub kind_word : IaKind → List ℕ
kind_word Na = codes "na "
kind_word Pd = codes "pd "

abbrev pub item_word : IaKind → List ℕ
item_word Na = codes "addr "
item_word Pd = codes "prefix "

-- ---- what lines say

abbrev pub moment_text : Option ℕ → List ℕ
moment_text None = codes "never"
moment_text (Some at) = decimal at

-- an address has no length in its text
abbrev pub item_net_text : IaKind → Net6 → List ℕ
item_net_text Na net = ip6_text net.ip
item_net_text Pd net = net6_text net

abbrev pub item_text : IaKind → Item6 → List ℕ
item_text kind item = item_net_text kind item.net ++ 32 ∷ (moment_text item.preferred ++ 32 ∷ moment_text item.valid)

-- ---- the lines

abbrev pub item_line : IaKind → Item6 → Line
item_line kind item = item_word kind ++ item_text kind item

abbrev pub ia_line : IaKind → (iaid : ℕ) → Line
ia_line kind iaid = ia_word ++ (kind_word kind ++ decimal iaid)

abbrev pub ia_lines : IaLeaseContent → List Line
ia_lines ia = ia_line ia.kind ia.iaid ∷ map (item_line ia.kind) ia.items

abbrev pub interface_line : Name → Line
interface_line name = interface_word ++ name_text name

abbrev pub mac_line : Mac → Line
mac_line mac = mac_word ++ mac_text mac

abbrev pub confirmed_line : ℕ → Line
confirmed_line at = confirmed_word ++ decimal at

-- the first line: of the second version where the origin is told
abbrev pub first_line : Option Origin → Line
first_line None = plain_line
first_line (Some origin) = origin_line

-- to whom it was granted
abbrev pub holder_lines : Option Origin → Name → List Line
holder_lines origin name = first_line origin ∷ interface_line name ∷ origin_lines origin

-- by whom, and its times
abbrev pub grant_lines : Lease6Content → List Line
grant_lines lease =
    (server_word ++ hex_text lease.server) ∷ (renewal_word ++ moment_text lease.t1)
    ∷ (rebinding_word ++ moment_text lease.t2) ∷ []

-- the lines before those of the IAs
abbrev pub head_lines : Lease6Content → List Line
head_lines lease = holder_lines lease.origin lease.name ++ grant_lines lease

abbrev pub lease6_lines : Lease6Content → List Line
lease6_lines lease =
    head_lines lease ++ (flat_map ia_lines lease.ias ++ (map option_line lease.values ++ end_line ∷ []))

abbrev pub lease6_text : Lease6Content → List ℕ
lease6_text lease = lines_text (lease6_lines lease)

-- these lines are the text of the lease
abbrev pub SpellsLease6 : Lease6Content → List Line → Type 0
SpellsLease6 = Printed lease6_lines HasText6
