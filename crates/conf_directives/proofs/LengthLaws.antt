-- Prefixes that are asked for, and their subnets, have lengths within their bounds.
use Rattle.std.proofs.Common.{◌≡◌, ℕ, ◌≤◌, ◌<◌, true, false, List, [], ◌∷◌, Option, Some, None, refl, inl, inr, arith, leb-true, ltb-true, nat_le, nat_lt}
use Rattle.std.specs.Prelude.{IfSome, option_map, if◌then◌else◌}
use Rattle.net_types.specs.Cutting.{◌>>=◌, guarded}
use Rattle.net_types.specs.NameText.{name_at}
use Rattle.net_types.specs.Numbers.{number_at}
use Rattle.net_types.specs.Ip6Text.{ip6_at}
use Rattle.conf_values.specs.Words.{slash_parts}
use Rattle.conf_directives.specs.Shares.{asked, hint_at, id_at, len_at, share_by, share_of}
use Rattle.conf_directives.specs.SayLaws.{FitsAsked, FitsLine, HintsFit, SharesFit}
use Rattle.conf_values.proofs.FoundLaws.{at_some, bound}
use Rattle.conf_directives.proofs.CodeLaws.{number_below}

record IsWithin (least number : ℕ) : Type 0 where
  low : least ≤ number
  high : number ≤ 127

guarded_within : (least : ℕ) (found : Option ℕ) → IfSome found (λ number. nat_lt number 128 ≡ true) → IfSome (guarded (nat_le least) found) (IsWithin least)
guarded_within least None below = tt
guarded_within least (Some number) below =
    let high : number < 128 = ltb-true _ _ below in
    elim (nat_le least number) as (λ b. nat_le least number ≡ b → IfSome (if b then Some number else None) (IsWithin least)) [
      | true ↦ λ e. record { low = leb-true _ _ e; high = omega (arith, high) }
      | false ↦ λ e. tt
    ] refl

-- ---- shares

len_within : (text : List ℕ) → IfSome (len_at text) (IsWithin 1)
len_within text = guarded_within 1 (number_at 128 text) (number_below 128 text)

line_fits : (name : List ℕ) (sla : Option ℕ) (len : ℕ) → IsWithin 1 len → IfSome (share_of name sla len) FitsLine
line_fits name sla len within =
    elim (name_at name) as (λ o. IfSome (option_map (λ interface. record { name = interface; sla = sla; len = len }) o) FitsLine) [
      | Some interface ↦ record { least = within.low; most = within.high }
      | None ↦ tt
    ]

usual_within : IsWithin 1 64
usual_within = record { low = omega arith; high = omega arith }

with_len : (name sla len : List ℕ) → IfSome (id_at sla >>= λ id. len_at len >>= λ bits. share_of name (Some id) bits) FitsLine
with_len name sla len =
    bound FitsLine (id_at sla) (λ id. len_at len >>= λ bits. share_of name (Some id) bits)
    (λ id _. bound FitsLine (len_at len) (λ bits. share_of name (Some id) bits)
    (λ bits e. line_fits name (Some id) bits (at_some (IsWithin 1) (len_at len) bits e (len_within len))))

parts_fit : (parts : List (List ℕ)) → IfSome (share_by parts) FitsLine
parts_fit [] = tt
parts_fit (name ∷ []) = line_fits name None 64 usual_within
parts_fit (name ∷ sla ∷ []) = bound FitsLine (id_at sla) (λ id. share_of name (Some id) 64) (λ id _. line_fits name (Some id) 64 usual_within)
parts_fit (name ∷ sla ∷ len ∷ []) = with_len name sla len
parts_fit (name ∷ sla ∷ len ∷ more ∷ []) = with_len name sla len
parts_fit (name ∷ sla ∷ len ∷ more ∷ part ∷ parts) = tt

pub shares_fit : SharesFit
shares_fit word = parts_fit (slash_parts word)

-- ---- what is asked for

hint_within : (prefix len : List ℕ) → IfSome (hint_at prefix len) (IsWithin 8)
hint_within prefix len =
    bound (IsWithin 8) (ip6_at prefix) (λ _. guarded (nat_le 8) (number_at 128 len))
    (λ address _. guarded_within 8 (number_at 128 len) (number_below 128 len))

pub hints_fit : HintsFit
hints_fit [] = tt
hints_fit (iaid ∷ []) = bound FitsAsked (id_at iaid) (λ id. Some (asked id 0)) (λ id _. inl refl)
hints_fit (iaid ∷ prefix ∷ []) = tt
hints_fit (iaid ∷ prefix ∷ len ∷ []) =
    bound FitsAsked (id_at iaid) (λ id. hint_at prefix len >>= λ hint. Some (asked id hint))
    (λ id _. bound FitsAsked (hint_at prefix len) (λ hint. Some (asked id hint))
    (λ hint e.
    let within = at_some (IsWithin 8) (hint_at prefix len) hint e (hint_within prefix len) in
    inr (within.low, within.high)))
hints_fit (iaid ∷ prefix ∷ len ∷ more ∷ parts) = tt
