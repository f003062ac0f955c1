-- How a queue keeps moments: as timers in the order of time, and in a table with the moment of each key at its place.
use Rattle.std.specs.Prelude.{◌≡◌, ℕ, ◌≤◌, ◌==◌, Bool, false, List, map, length, count_by, slice_index_or, Option, Some, None, is_some, vec_len}
use Rattle.std.specs.Global.{Vec}
use Rattle.std.specs.List.Sorted.{IsStrictlySortedBy}
use Rattle.std.specs.Vec.{vec_capacity}
use Rattle.std.specs.FinMap.{from_entries}
use Rattle.timer_queue.specs.declared.timer.Timer.{Timer}
use Rattle.timer_queue.specs.Moments.{Moments}
use Rattle.counted_search.specs.Ordered.{has_key}
use Rattle.timer_queue.specs.Timers.{timer_cmp}

abbrev pub entry_of : Timer → ℕ × ℕ
entry_of timer = (timer.key, timer.due)

-- what timers say
abbrev pub moments_of : List Timer → Moments
moments_of timers = from_entries (map entry_of timers)

abbrev pub moment_at : List (Option ℕ) → ℕ → Option ℕ
moment_at table place = slice_index_or table place None

abbrev pub is_moment : Option ℕ → ℕ → Bool
is_moment None due = false
is_moment (Some moment) due = moment == due

-- the timers, in order, are those of the table
pub record Mirrors (timers : List Timer) (table : List (Option ℕ)) : Type 0 where
  pub ordered : IsStrictlySortedBy timer_cmp timers
  pub mirrored : (timer : Timer) → has_key timer_cmp timers timer ≡ is_moment (moment_at table timer.key) timer.due

-- and there is room for one at each place
pub record Keeps (places : ℕ) (timers : Vec Timer) (table : List (Option ℕ)) : Type 0 where
  pub mirrors : Mirrors timers.items table
  pub counted : vec_len timers ≡ count_by is_some table
  pub room : places ≤ vec_capacity timers
  pub sized : length table ≡ places
