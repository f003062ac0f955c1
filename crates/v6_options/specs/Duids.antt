-- DUIDs: a type of two bytes, and at most 128 bytes of it (RFC 8415, section 11.1).
use Rattle.std.specs.Prelude.{ℕ, List, length, Option, Some, None, nat_le, ◌&&◌, if◌then◌else◌}

-- the DUID of these bytes
abbrev pub duid_in : List ℕ → Option (List ℕ)
duid_in bytes = if nat_le 2 (length bytes) && nat_le (length bytes) 130 then Some bytes else None
