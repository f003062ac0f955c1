-- The moments at which keys are due.
use Rattle.std.specs.Prelude.{◌≡◌, ℕ, ◌≤◌, nat_le, Bool, false, not, Option, Some, None, IfSome}
use Rattle.std.specs.Coded.{Coded, coded_ℕ}
use Rattle.std.specs.FinMap as map
use Rattle.std.specs.Ordering.{nat_cmp}

-- the keys that are set, each with its moment
abbrev pub Moments : Type 0
Moments = map.FinMap nat_cmp ℕ

abbrev pub moments_code : Coded Moments
moments_code = map.code coded_ℕ coded_ℕ

-- whether a moment is set and has come
abbrev pub has_come : Option ℕ → ℕ → Bool
has_come None at = false
has_come (Some due) at = nat_le due at

-- what is due at or before a moment
abbrev pub due_by : ℕ → Moments → Moments
due_by at moments = map.retain_keys moments (λ key. has_come (map.get moments key) at)

-- what is due only later
abbrev pub due_after : ℕ → Moments → Moments
due_after at moments = map.retain_keys moments (λ key. not (has_come (map.get moments key) at))

-- a moment is set, and none that is set is earlier
pub record IsEarliest (moments : Moments) (due : ℕ) : Type 0 where
  pub key : ℕ
  pub set : map.get moments key ≡ Some due
  pub least : (other : ℕ) → IfSome (map.get moments other) (λ moment. due ≤ moment)
