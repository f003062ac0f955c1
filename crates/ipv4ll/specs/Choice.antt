use Rattle.std.specs.Prelude.{ℕ, ◌+◌, ◌%◌, ◌≤◌}
use Rattle.machine.specs.Draw.{draw_of}
use Rattle.net_types.specs.declared.address.Ip4.{Ip4}
use Rattle.net_types.specs.declared.interface.IfIndex.{IfIndex}

-- The address that is chosen after so many conflicts: 169.254.1.0 and a number below 254 * 256 (RFC 3927, section 2.1).
abbrev pub choice_of : IfIndex → (conflicts salt : ℕ) → Ip4
choice_of iface conflicts salt = record { number = 0xa9fe_0100 + (draw_of salt iface 65024 + conflicts) % 65024 }

-- 169.254.1.0 to 169.254.254.255: the addresses that a host may choose by itself.
pub record IsChoice (addr : Ip4) : Type 0 where
  pub at_least : 0xa9fe_0100 ≤ addr.number
  pub at_most : addr.number ≤ 0xa9fe_feff
