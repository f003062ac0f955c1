-- When items are renewed and rebound (RFC 8415, section 14.2), as a Reply tells it.
use Rattle.std.specs.Prelude.{ℕ, ◌+◌, ◌*◌, ◌<◌, ◌^◌, max, unwrap_or, Option, Some, None, option_map, ◌==◌, if◌then◌else◌}
use Rattle.v6_options.specs.Ias.{IaContent}
use Rattle.v6_items.specs.declared.renewing.Spans6.{Spans6}
use Rattle.v6_items.specs.declared.times.TheConstants.{FOREVER, LEAST_TIME, SECOND, T1_PART, T2_PART}
use Rattle.v6_items.specs.Times.{earlier}

-- Milliseconds. 0 leaves it to the client: a part of the shortest preferred lifetime. All ones stand for ever.
abbrev pub span : (said shortest part : ℕ) → Option ℕ
span said shortest part =
    if said == 0
    then (if shortest == FOREVER then None else Some (part * shortest))
    else (if said == FOREVER then None else Some (SECOND * said))

-- an IA counts where it brought items
abbrev pub spans_of : Option IaContent → Option ℕ → Option Spans6
spans_of None shortest = None
spans_of (Some ia) None = None
spans_of (Some ia) (Some shortest) =
    Some (record { t1 = span ia.t1 shortest T1_PART; t2 = span ia.t2 shortest T2_PART })

-- each is the least of all IAs
abbrev pub joined : Option Spans6 → Option Spans6 → Option Spans6
joined None other = other
joined (Some one) None = Some one
joined (Some one) (Some other) = Some (record { t1 = earlier one.t1 other.t1; t2 = earlier one.t2 other.t2 })

abbrev pub raised : Option ℕ → Option ℕ
raised span = option_map (λ time. max time LEAST_TIME) span

-- neither is too short, and T1 isn't above T2
abbrev pub t1_from : (at : ℕ) → Spans6 → Option ℕ
t1_from at spans = option_map (λ time. at + time) (earlier (raised spans.t1) (raised spans.t2))

abbrev pub t2_from : (at : ℕ) → Spans6 → Option ℕ
t2_from at spans = option_map (λ time. at + time) (raised spans.t2)

-- seconds of 32 bits, in milliseconds, are below this
pub record AreShort (spans : Spans6) : Type 0 where
  pub t1 : unwrap_or spans.t1 0 < 10 ^ 13
  pub t2 : unwrap_or spans.t2 0 < 10 ^ 13
