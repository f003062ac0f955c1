-- Moments of items, in milliseconds since 1970.
use Rattle.std.specs.Prelude.{ℕ, ◌+◌, ◌*◌, min, Option, Some, None, ◌==◌, if◌then◌else◌}
use Rattle.v6_items.specs.declared.times.TheConstants.{SECOND, FOREVER}

abbrev pub earlier : Option ℕ → Option ℕ → Option ℕ
earlier None second = second
earlier (Some first) None = Some first
earlier (Some first) (Some second) = Some (min first second)

-- all ones stand for ever (RFC 8415, section 7.7)
abbrev pub moment_after : (at seconds : ℕ) → Option ℕ
moment_after at seconds = if seconds == FOREVER then None else Some (at + SECOND * seconds)
