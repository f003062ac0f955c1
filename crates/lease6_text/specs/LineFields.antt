-- The fields of lines that are a DHCPv6 lease's own.
use Rattle.std.specs.Prelude.{ℕ, List, Option}
use Rattle.lease_text.specs.FieldLaws.Fields.{Field}
use Rattle.net_types.specs.HexText.{hex_text}
use Rattle.lease6_text.specs.Bounds.{FitsMoment, IsDuid}
use Rattle.lease6_text.specs.LeaseLines.{moment_text}
use Rattle.lease6_text.specs.LineParts.{moment_at, server_at}

-- a moment, or never
abbrev pub moment_field : Field (Option ℕ)
moment_field = record { text = moment_text; Fits = FitsMoment; at = moment_at }

-- the bytes of a DUID
abbrev pub server_field : Field (List ℕ)
server_field = record { text = hex_text; Fits = IsDuid; at = server_at }
