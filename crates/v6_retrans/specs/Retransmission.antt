-- The time until a message that isn't answered is said again (RFC 8415, section 15), in milliseconds, rounded down.
-- RAND is given in thousandths above -0.1: 100 stands for 0, and 200 for 0.1.
use Rattle.std.specs.Prelude.{ℕ, ◌+◌, ◌*◌, ◌/◌, Bool, min, nat_lt, nat_le, ◌&&◌, if◌then◌else◌}
use Rattle.net_types.specs.declared.interface.IfIndex.{IfIndex}
use Rattle.machine.specs.Draw.{draw_of}
use Rattle.v6_retrans.specs.declared.parameters.Parameters.{Parameters}
use Rattle.v6_retrans.specs.declared.retrans.Retrans.{Retrans}

abbrev pub rand_of : (salt : ℕ) → IfIndex → ℕ
rand_of salt iface = draw_of salt iface 201

-- RAND above 0
abbrev pub positive_rand_of : (salt : ℕ) → IfIndex → ℕ
positive_rand_of salt iface = 101 + draw_of salt iface 100

-- RT = IRT + RAND * IRT, for the first message; and likewise MRT + RAND * MRT
abbrev pub spread : (time : ℕ) → (rand : ℕ) → ℕ
spread time rand = time * (900 + rand) / 1000

-- RT = 2 * RTprev + RAND * RTprev, for each further message
abbrev pub doubled : (rt : ℕ) → (rand : ℕ) → ℕ
doubled rt rand = rt * (1900 + rand) / 1000

-- where MRT isn't 0 and RT is above it, RT = MRT + RAND * MRT
abbrev pub bounded : (mrt : ℕ) → (rand : ℕ) → (rt : ℕ) → ℕ
bounded mrt rand rt = if nat_lt 0 mrt && nat_lt mrt rt then spread mrt rand else rt

abbrev pub next_time : Parameters → (rt : ℕ) → (rand : ℕ) → ℕ
next_time p rt rand = bounded p.mrt rand (doubled rt rand)

-- ---- a message that awaits its answer

abbrev pub first_said : Parameters → (rand : ℕ) → Retrans
first_said p rand = record { rt = spread p.irt rand; sent = 1; parameters = p }

abbrev pub most_sent : ℕ
most_sent = 4294967295

abbrev pub said_again : Retrans → (rand : ℕ) → Retrans
said_again r rand =
    record { rt = next_time r.parameters r.rt rand; sent = min (r.sent + 1) most_sent; parameters = r.parameters }

-- where MRC isn't 0, the exchange fails once the message was said MRC times
abbrev pub is_over : Retrans → Bool
is_over r = nat_lt 0 r.parameters.mrc && nat_le r.parameters.mrc r.sent
