-- The times of a client, in milliseconds; moments are in milliseconds since 1970.
use Rattle.std.specs.Prelude.{ℕ, ◌-◌, ◌/◌, ◌≤◌, min, if◌then◌else◌}
use Rattle.net_types.specs.Moments.{IsMoment}
use Rattle.machine.specs.Draw.{draw_of}
use Rattle.v6_client.specs.declared.times.TheConstants.{DELAY_SPREAD}
use Rattle.v6_client.specs.declared.turn.Turn6.{Turn6}

-- the limits within which turns come
pub record FitsTurn (turn : Turn6) : Type 0 where
  pub timely : IsMoment turn.at
  pub day : turn.sol_max ≤ 86400000

-- up to a second by chance, or a millisecond (RFC 8415, section 18.2.1)
abbrev pub first_delay : Turn6 → ℕ
first_delay turn = if turn.site.flags.nodelay then 1 else draw_of turn.salt turn.site.iface.index DELAY_SPREAD

-- the hundredths of a second since a moment, as far as the field of a message goes (RFC 8415, section 21.9)
abbrev pub elapsed : (began at : ℕ) → ℕ
elapsed began at = min ((at - began) / 10) 65535
