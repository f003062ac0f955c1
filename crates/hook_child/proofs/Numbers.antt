-- The numbers of jobs.
use Rattle.std.proofs.Common.{◌≡◌, ℕ, suc, ◌+◌, ◌-◌, ◌<◌, ◌≤◌, ◌^◌, min, List, [], ◌∷◌, ◌++◌, length, Bool, true, false, refl, sym, ap, subst, arith}
use Rattle.std.specs.Prelude.{Option, Some, None}
use Rattle.std.specs.List.{cons_option, range_with_len}
use Rattle.world.specs.HookCalls.{Job}
use Rattle.hook_child.specs.declared.child.Child.{Child}
use Rattle.hook_child.specs.Supervision.{Supervision, idle, is_full, next_number, first_order}
use Rattle.hook_child.specs.Histories.{Call, Put, Polled, NextJob, NotStarted, put_event, order_event, after_call, history, taken_by, number_put, taken_in, started_in, numbers_in}
use Rattle.hook_child.specs.HistoryLaws.{CountPuts, StartOnce, Rise, events_of, left_by}
use Rattle.hook_child.proofs.Lines.{answer_at, poll_leaves, failure_leaves, first_in_first_out}

next_is : (last calls : ℕ) → last + suc calls < 2 ^ 64 → min (last + 1) (2 ^ 64 - 1) ≡ last + 1
next_is last calls few = omega (arith, few)

-- ---- counting

put_counts : (full : Bool) (job : Job) (number : ℕ) → number_put (put_event job (answer_at full number)) ≡ Some number
put_counts true job number = refl
put_counts false job number = refl

next_counts : (child : Option Child) (waiting : List Job) → number_put (order_event (first_order child waiting)) ≡ None
next_counts (Some child) waiting = refl
next_counts None [] = refl
next_counts None (job ∷ waiting) = refl

abbrev CountFrom : ℕ → List ℕ → Type 0
CountFrom first numbers = numbers ≡ range_with_len first (length numbers)

one_more : (number : ℕ) (later : List ℕ) → CountFrom (number + 1) later → CountFrom number (number ∷ later)
one_more number later count = ap (λ (more : List ℕ). number ∷ more) count

count_put : (put : Option ℕ) (number last : ℕ) (later : List ℕ) → put ≡ Some number → number ≡ last + 1 → CountFrom (number + 1) later
    → CountFrom (last + 1) (cons_option put later)
count_put put number last later is next count = rw (is, sym next) (one_more number later count)

count_same : (put : Option ℕ) (first : ℕ) (later : List ℕ) → put ≡ None → CountFrom first later → CountFrom first (cons_option put later)
count_same put first later none count = rw none count

abbrev Few : List Call → Supervision → Type 0
Few calls s = s.last + length calls < 2 ^ 64

fewer : (last calls : ℕ) → last + suc calls < 2 ^ 64 → last + calls < 2 ^ 64
fewer last calls few = omega (arith, few)

fewer_put : (last calls : ℕ) → last + suc calls < 2 ^ 64 → min (last + 1) (2 ^ 64 - 1) + calls < 2 ^ 64
fewer_put last calls few = omega (arith, few)

count_on : (calls : List Call) (s : Supervision) → Few calls s → CountFrom (s.last + 1) (numbers_in (history calls s))
count_on [] s few = refl
count_on (Put job ∷ calls) s few =
    count_put _ (next_number s) s.last _ (put_counts (is_full s) job (next_number s)) (next_is s.last (length calls) few)
    (count_on calls (after_call (Put job) s) (fewer_put s.last (length calls) few))
count_on (Polled answer at ∷ calls) s few =
    count_same _ (s.last + 1) _ (poll_leaves answer at s.child).put (count_on calls (after_call (Polled answer at) s) (fewer s.last (length calls) few))
count_on (NextJob at ∷ calls) s few =
    count_same _ (s.last + 1) _ (next_counts s.child s.waiting) (count_on calls (after_call (NextJob at) s) (fewer s.last (length calls) few))
count_on (NotStarted ∷ calls) s few =
    count_same _ (s.last + 1) _ (failure_leaves s.child).put (count_on calls (after_call NotStarted s) (fewer s.last (length calls) few))

from_zero : (calls : List Call) → length calls < 2 ^ 64 → Few calls idle
from_zero calls few = omega (arith, few)

pub count_puts : CountPuts
count_puts calls few = count_on calls idle (from_zero calls few)

-- ---- rising

rise_below : (low high : ℕ) (jobs : List Job) → low ≤ high → Rise high jobs → Rise low jobs
rise_below low high [] below rise = tt
rise_below low high (job ∷ jobs) below rise = let first = rise.0 in (omega (arith, below, first), rise.1)

put_rises : (full : Bool) (job : Job) (last number : ℕ) (later : List Job) → last < number → Rise number later
    → Rise last (cons_option (taken_by (put_event job (answer_at full number))) later)
put_rises true job last number later above rise = rise_below last number later (omega (arith, above)) rise
put_rises false job last number later above rise = (above, rise)

next_takes : (child : Option Child) (waiting : List Job) → taken_by (order_event (first_order child waiting)) ≡ None
next_takes (Some child) waiting = refl
next_takes None [] = refl
next_takes None (job ∷ waiting) = refl

rise_same : (taken : Option Job) (last : ℕ) (later : List Job) → taken ≡ None → Rise last later → Rise last (cons_option taken later)
rise_same taken last later none rise = rw none rise

above : (last calls : ℕ) → last + suc calls < 2 ^ 64 → last < min (last + 1) (2 ^ 64 - 1)
above last calls few = omega (arith, few)

rise_on : (calls : List Call) (s : Supervision) → Few calls s → Rise s.last (taken_in (history calls s))
rise_on [] s few = tt
rise_on (Put job ∷ calls) s few =
    put_rises (is_full s) job s.last (next_number s) _ (above s.last (length calls) few)
    (rise_on calls (after_call (Put job) s) (fewer_put s.last (length calls) few))
rise_on (Polled answer at ∷ calls) s few =
    rise_same _ s.last _ (poll_leaves answer at s.child).taken (rise_on calls (after_call (Polled answer at) s) (fewer s.last (length calls) few))
rise_on (NextJob at ∷ calls) s few =
    rise_same _ s.last _ (next_takes s.child s.waiting) (rise_on calls (after_call (NextJob at) s) (fewer s.last (length calls) few))
rise_on (NotStarted ∷ calls) s few =
    rise_same _ s.last _ (failure_leaves s.child).taken (rise_on calls (after_call NotStarted s) (fewer s.last (length calls) few))

front_rises : (last : ℕ) (front rest : List Job) → Rise last (front ++ rest) → Rise last front
front_rises last [] rest rise = tt
front_rises last (job ∷ front) rest rise = (rise.0, front_rises job.number front rest rise.1)

pub start_once : StartOnce
start_once calls few =
    front_rises 0 (started_in (events_of calls)) (left_by calls).waiting
    (subst (λ jobs. Rise 0 jobs) (sym (first_in_first_out calls)) (rise_on calls idle (from_zero calls few)))
