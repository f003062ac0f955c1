use Rattle.std.specs.Prelude.{ℕ, ◌+◌, ◌/◌, ◌%◌, ◌^◌, Option, Some, None, nat_eq, if◌then◌else◌}
use Rattle.net_types.specs.declared.interface.IfIndex.{IfIndex}

-- A number below n, from the salt's lower word and the number of the interface.
abbrev pub draw_of : (salt : ℕ) → IfIndex → (n : ℕ) → ℕ
draw_of salt iface n = (salt % 2 ^ 32 + iface.number) % n

-- The transaction number that the salt's upper word and the interface give.
abbrev pub xid_of : (salt : ℕ) → IfIndex → ℕ
xid_of salt iface = (salt / 2 ^ 32 + iface.number) % 2 ^ 32

-- A number, or the next one where it is the one before.
abbrev pub other_than : Option ℕ → ℕ → ℕ
other_than None xid = xid
other_than (Some last) xid = if nat_eq xid last then (xid + 1) % 2 ^ 32 else xid

-- The transaction number of a new exchange, unlike that of the machine's exchange before.
abbrev pub draw_xid_of : (salt : ℕ) → IfIndex → Option ℕ → ℕ
draw_xid_of salt iface last = other_than last (xid_of salt iface)
