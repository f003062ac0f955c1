-- What a client reads of a server's message (RFC 8415, sections 18.2.9 and 18.2.10.1).
use Rattle.std.specs.Prelude.{ℕ, ◌-◌, ◌/◌, ◌%◌, ◌^◌, Bool, true, false, not, ◌&&◌, ◌||◌, List, [], take, find, Option, Some, None, nat_le, nat_lt, ◌==◌, if◌then◌else◌}
use Rattle.std.specs.List.{list_any, filter_map}
use Rattle.net_types.specs.declared.address.Ip6.{Ip6}
use Rattle.net_types.specs.declared.address.Net6.{Net6}
use Rattle.v6_options.specs.declared.ia.IaKind.{IaKind}
use Rattle.v6_options.specs.declared.ia.IaKind.TheVariants.{Na, Pd}
use Rattle.v6_options.specs.declared.ia.ItemSaid.{ItemSaid}
use Rattle.v6_options.specs.Ias.{IaContent, ias_in}
use Rattle.v6_options.specs.Statuses.{success}
use Rattle.v6_message.specs.Replies.{Content6}
use Rattle.lease6_text.specs.declared.lease.TheConstants.{ITEM_LIMIT, SHORTEST_DELEGATED, LONGEST_DELEGATED}
use Rattle.lease6_text.specs.LineParts.{is_same_kind}
use Rattle.v6_items.specs.declared.asks.IaAsk.{IaAsk}

-- ---- items

-- the first byte is neither 0 nor 255, and the address isn't one of fe80::/10 (RFC 4291, section 2.4)
abbrev pub is_usable : Ip6 → Bool
is_usable ip =
    not ((ip.number / 2 ^ 120) == 0) && not ((ip.number / 2 ^ 120) == 255) && not ((ip.number / 2 ^ 118) == 0x3fa)

abbrev pub has_len : IaKind → (len : ℕ) → Bool
has_len Na len = true
has_len Pd len = nat_le SHORTEST_DELEGATED len && nat_le len LONGEST_DELEGATED

-- An item is read where it isn't preferred for longer than it is valid, and may be used.
abbrev pub is_read : IaKind → ItemSaid → Bool
is_read kind said = nat_le said.preferred said.valid && is_usable said.net.ip && has_len kind said.net.len

-- a prefix without the bits past its length
abbrev pub net_cleared : Net6 → Net6
net_cleared net = record { ip = record { number = net.ip.number - net.ip.number % 2 ^ (128 - net.len) }; len = net.len }

abbrev pub cleared : IaKind → ItemSaid → ItemSaid
cleared Na said = said
cleared Pd said = record { net = net_cleared said.net; preferred = said.preferred; valid = said.valid }

abbrev pub read_item : IaKind → ItemSaid → Option ItemSaid
read_item kind said = if is_read kind said then Some (cleared kind said) else None

-- ---- IAs

-- T1 isn't after T2, where there is one (RFC 8415, section 21.4)
abbrev pub are_ordered : (t1 t2 : ℕ) → Bool
are_ordered t1 t2 = not (nat_lt t2 t1 && nat_lt 0 t2)

abbrev pub is_readable : IaContent → Bool
is_readable ia = (ia.status == success) && are_ordered ia.t1 ia.t2

-- of an IA the first four such items count
abbrev pub front_items : IaContent → List ItemSaid
front_items ia = take ITEM_LIMIT (filter_map (read_item ia.kind) ia.items)

abbrev pub read_items : IaContent → List ItemSaid
read_items ia = if is_readable ia then front_items ia else []

abbrev pub some_read : IaContent → Bool
some_read ia = list_any (is_read ia.kind) ia.items

abbrev pub has_read : IaContent → Bool
has_read ia = is_readable ia && some_read ia

-- the server knows nothing of the IA (RFC 8415, section 21.13)
abbrev pub no_binding : ℕ
no_binding = 3

abbrev pub is_no_binding : IaContent → Bool
is_no_binding ia = ia.status == no_binding

abbrev pub is_unbound : Option IaContent → Bool
is_unbound None = false
is_unbound (Some ia) = is_no_binding ia

abbrev pub saids_of : Option IaContent → List ItemSaid
saids_of None = []
saids_of (Some ia) = read_items ia

-- the first IA of a kind and an IAID counts
abbrev pub is_for : IaAsk → IaContent → Bool
is_for ask ia = is_same_kind ia.kind ask.kind && (ia.iaid == ask.iaid)

abbrev pub ia_for : IaAsk → List IaContent → Option IaContent
ia_for ask ias = find (is_for ask) ias

-- ---- messages

abbrev pub serves_by : Option IaContent → Bool
serves_by None = false
serves_by (Some ia) = is_no_binding ia || has_read ia

abbrev pub some_served : List IaAsk → List IaContent → Bool
some_served asks ias = list_any (λ ask. serves_by (ia_for ask ias)) asks

-- A message serves where all went well, and an IA that is asked for has an item that is read, or isn't known to the
-- server.
abbrev pub serves : List IaAsk → Content6 → Bool
serves asks message = (message.status == success) && some_served asks (ias_in message.options)
