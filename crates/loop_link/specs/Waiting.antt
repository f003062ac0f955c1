-- How long the loopback link waits, and what ends a wait.
use Rattle.std.specs.Prelude.{ℕ, Bool, true, false, ◌≡◌, ◌≤◌, ◌+◌, ◌-◌, ◌/◌, min, max, nat_le, Option, None, Some, option_map, Result, Ok, Err, if◌then◌else◌}
use Rattle.std.specs.declared.io.ErrorKind.{ErrorKind}
use Rattle.std.specs.declared.io.ErrorKind.TheVariants as kind
use Rattle.std.specs.declared.process.status.ExitStatus.{ExitStatus}
use Rattle.loop_link.specs.declared.moments.Moments.{Moments}
use Rattle.loop_link.specs.declared.watching.Seen.{Seen}
use Rattle.loop_link.specs.declared.watching.Seen.TheVariants.{NoChild, Runs, Ended}
use Rattle.loop_link.specs.declared.links.TheConstants.{IDLE, LONGEST, SHORT, GLANCE}

-- The moment at which a wait that begins now ends, in milliseconds: the one asked for, or after a while where none is.
abbrev pub wait_end : Option ℕ → ℕ → ℕ
wait_end None now = min (now + IDLE) 18446744073709551615
wait_end (Some until) now = until

-- A wait is made of pieces. The system ends each late by an eighth of it at most, and so a piece that isn't short
-- leaves that much of the wait for others; the last one is short.
abbrev pub piece_of : ℕ → ℕ
piece_of left = if nat_le left SHORT then max left 1 else min (left - left / 8) LONGEST

-- A child that can't be asked runs on.
abbrev pub seen_by : Option (Result (Option ExitStatus) ErrorKind) → Seen
seen_by None = NoChild
seen_by (Some (Ok (Some status))) = Ended
seen_by (Some (Ok None)) = Runs
seen_by (Some (Err kind)) = Runs

abbrev pub is_ended : Seen → Bool
is_ended NoChild = false
is_ended Runs = false
is_ended Ended = true

-- While a child runs it is looked at in between. One that has ended leaves but a look at what came.
abbrev pub glancing : Seen → ℕ → ℕ
glancing NoChild piece = piece
glancing Runs piece = min piece GLANCE
glancing Ended piece = 1

-- A piece is over without a datagram where its time ran out, which the system says in two ways, or a signal came.
abbrev pub is_over : ErrorKind → Bool
is_over kind.WouldBlock = true
is_over kind.TimedOut = true
is_over kind.Interrupted = true
is_over failure = false

-- ---- when a wait is over in which nothing came: where a child has ended, if that is told, and else at its moment

-- the last moment that was told, where a life has begun
abbrev pub last_told : Option Moments → Option ℕ
last_told moments = option_map (λ kept. kept.last) moments

abbrev pub is_come : (end : ℕ) → (last : Option ℕ) → Bool
is_come end None = false
is_come end (Some last) = nat_le end last

-- whether the moment at which a wait ends has come, by that
abbrev pub has_come : (end : ℕ) → Option Moments → Bool
has_come end moments = is_come end (last_told moments)

abbrev pub IsOver : (ended : Option Bool) → (end : ℕ) → Option Moments → (over : Bool) → Type 0
IsOver (Some true) end moments over = over ≡ true
IsOver (Some false) end moments over = over ≡ has_come end moments
IsOver None end moments true = Unit {0}
IsOver None end moments false = has_come end moments ≡ false

-- it is over no sooner than at its moment
abbrev pub IsDue : (ended : Option Bool) → (end : ℕ) → Option Moments → Type 0
IsDue (Some true) end moments = Unit {0}
IsDue (Some false) end moments = has_come end moments ≡ true
IsDue None end moments = Unit {0}

-- the same where some moment was asked for
abbrev pub IsDueBy : (ended : Option Bool) → (until : Option ℕ) → Option Moments → Type 0
IsDueBy ended None moments = Unit {0}
IsDueBy ended (Some until) moments = IsDue ended until moments

-- no child has ended, and the moment isn't before the one asked for
abbrev pub IsAwaited : (ended : Option Bool) → (until : Option ℕ) → (at : ℕ) → Type 0
IsAwaited None until at = Unit {0}
IsAwaited (Some true) until at = Unit {0}
IsAwaited (Some false) None at = Unit {0}
IsAwaited (Some false) (Some until) at = until ≤ at
