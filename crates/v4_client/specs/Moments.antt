-- When a client acts (RFC 2131, section 4.4). Moments are in milliseconds since 1970.
use Rattle.std.specs.Prelude.{ℕ, ◌+◌, ◌-◌, ◌*◌, ◌/◌, min, max, Option, Some, None, ◌==◌, if◌then◌else◌}
use Rattle.machine.specs.Draw.{draw_of}
use Rattle.lease_text.specs.declared.lease.Terms4.{Terms4}
use Rattle.lease_text.specs.declared.lease.TheConstants.{INFINITE_LEASE}
use Rattle.v4_client.specs.declared.moments.Backoff.{Backoff}
use Rattle.v4_client.specs.declared.moments.Backoff.TheVariants.{Four, Eight, Sixteen, ThirtyTwo, SixtyFour}
use Rattle.v4_client.specs.declared.moments.TheConstants.{SECOND, WAIT_SPREAD, LEAST_DELAY, DELAY_SPREAD, LEAST_RENEWAL_WAIT, SECS_LIMIT}
use Rattle.v4_client.specs.declared.setup.Site4.{Site4}

abbrev pub seconds : Backoff → ℕ
seconds Four = 4
seconds Eight = 8
seconds Sixteen = 16
seconds ThirtyTwo = 32
seconds SixtyFour = 64

-- twice the wait; the longest one stays
abbrev pub doubled : Backoff → Backoff
doubled Four = Eight
doubled Eight = Sixteen
doubled Sixteen = ThirtyTwo
doubled ThirtyTwo = SixtyFour
doubled SixtyFour = SixtyFour

-- the seconds of the backoff, one less to one more by chance (section 4.1)
abbrev pub wait : Site4 → (salt : ℕ) → Backoff → ℕ
wait site salt backoff = SECOND * (seconds backoff - 1) + draw_of salt site.iface.index WAIT_SPREAD

-- one second to ten by chance, or a millisecond (section 4.4.1)
abbrev pub first_delay : Site4 → (salt : ℕ) → ℕ
first_delay site salt = if site.flags.nodelay then 1 else LEAST_DELAY + draw_of salt site.iface.index DELAY_SPREAD

-- the whole seconds since a moment, as far as the field of a message goes
abbrev pub secs_since : (began at : ℕ) → ℕ
secs_since began at = min ((at - began) / SECOND) SECS_LIMIT

-- All times of a lease count from the first REQUEST of its exchange (section 4.4.1); those of an infinite one never
-- come.
abbrev pub moment_in : Terms4 → (seconds : ℕ) → Option ℕ
moment_in terms seconds = if terms.lease == INFINITE_LEASE then None else Some (terms.first + SECOND * seconds)

abbrev pub expiry : Terms4 → Option ℕ
expiry terms = moment_in terms terms.lease

-- T1 and T2
abbrev pub renewal_at : Terms4 → Option ℕ
renewal_at terms = moment_in terms terms.t1

abbrev pub rebinding_at : Terms4 → Option ℕ
rebinding_at terms = moment_in terms terms.t2

-- the end of the kept lease, where a client stands on it
abbrev pub standing_until : (stands : Option Terms4) → Option ℕ
standing_until None = None
standing_until (Some terms) = expiry terms

-- half of what is left until the end, a minute at least, and not after the end (section 4.4.5)
abbrev pub again_at : (end : Option ℕ) → (at : ℕ) → ℕ
again_at None at = at + LEAST_RENEWAL_WAIT
again_at (Some end) at = min end (at + max ((end - at) / 2) LEAST_RENEWAL_WAIT)

abbrev pub earlier : Option ℕ → Option ℕ → Option ℕ
earlier None second = second
earlier (Some first) None = Some first
earlier (Some first) (Some second) = Some (min first second)
