-- The line: what is taken waits until it starts.
use Rattle.std.proofs.Common.{◌≡◌, ℕ, ◌+◌, ◌≤◌, List, [], ◌∷◌, ◌++◌, length, Bool, true, false, nat_le, refl, sym, ap, ◌∙◌, ◌↔◌, arith, length-append}
use Rattle.std.specs.Prelude.{Option, Some, None, Result, Ok, Err, if◌then◌else◌}
use Rattle.std.specs.List.{cons_option}
use Rattle.std.specs.Result.{IsErr}
use Rattle.std.proofs.lemmas.List.{append_assoc, append-nil}
use Rattle.std.proofs.lemmas.Bool.{false≢true}
use Rattle.std.proofs.lemmas.Bool.Decides.{nat_tests}
use Rattle.world.specs.declared.hooking.Poll.{Poll}
use Rattle.world.specs.declared.hooking.Poll.TheVariants.{Running, Ended}
use Rattle.world.specs.HookCalls.{Job}
use Rattle.hook_child.specs.declared.answers.Dropped.{Dropped}
use Rattle.hook_child.specs.declared.child.Child.{Child}
use Rattle.hook_child.specs.Supervision.{Supervision, Idle, Abandon, idle, is_full, is_over_time, most_waiting, next_number, first_order, waiting_after}
use Rattle.hook_child.specs.Histories.{Call, Put, Polled, NextJob, NotStarted, Event, put_event, poll_event, order_event, failed_start_event, event, after_call, after_calls, history, taken_by, started_by, number_put, taken_in, started_in}
use Rattle.hook_child.specs.HistoryLaws.{FirstInFirstOut, DropWhereFull, FewWait, events_of, left_by}

-- what a put answers
abbrev pub answer_at : Bool → ℕ → Result ℕ Dropped
answer_at full number = if full then Err (record { number = number }) else Ok number

-- an event puts no job and starts none
pub record LeavesLine (e : Event) : Type 0 where
  pub taken : taken_by e ≡ None
  pub started : started_by e ≡ None
  pub put : number_put e ≡ None

-- what an event makes of the line
abbrev MovesLine : Event → List Job → List Job → Type 0
MovesLine e before after = cons_option (started_by e) [] ++ after ≡ before ++ cons_option (taken_by e) []

put_moves : (full : Bool) (job : Job) (number : ℕ) (waiting : List Job)
    → MovesLine (put_event job (answer_at full number)) waiting (if full then waiting else waiting ++ record job { number = number } ∷ [])
put_moves true job number waiting = sym (append-nil waiting)
put_moves false job number waiting = refl

next_moves : (child : Option Child) (waiting : List Job) → MovesLine (order_event (first_order child waiting)) waiting (waiting_after child waiting)
next_moves (Some child) waiting = sym (append-nil waiting)
next_moves None [] = refl
next_moves None (job ∷ waiting) = sym (append-nil (job ∷ waiting))

running_leaves : (over : Bool) → LeavesLine (order_event (if over then Abandon else Idle))
running_leaves true = record { taken = refl; started = refl; put = refl }
running_leaves false = record { taken = refl; started = refl; put = refl }

pub poll_leaves : (answer : Poll) (at : ℕ) (child : Option Child) → LeavesLine (poll_event answer at child)
poll_leaves answer at None = record { taken = refl; started = refl; put = refl }
poll_leaves (Ended status) at (Some child) = record { taken = refl; started = refl; put = refl }
poll_leaves Running at (Some child) = running_leaves (is_over_time at (Some child))

pub failure_leaves : (child : Option Child) → LeavesLine (failed_start_event child)
failure_leaves None = record { taken = refl; started = refl; put = refl }
failure_leaves (Some child) = record { taken = refl; started = refl; put = refl }

stays : (e : Event) (waiting : List Job) → LeavesLine e → MovesLine e waiting waiting
stays e waiting leaves = rw (leaves.taken, leaves.started) (sym (append-nil waiting))

call_moves : (call : Call) (s : Supervision) → MovesLine (event call s) s.waiting (after_call call s).waiting
call_moves (Put job) s = put_moves (is_full s) job (next_number s) s.waiting
call_moves (Polled answer at) s = stays _ s.waiting (poll_leaves answer at s.child)
call_moves (NextJob at) s = next_moves s.child s.waiting
call_moves NotStarted s = stays _ s.waiting (failure_leaves s.child)

cons_append : (one : Option Job) (jobs : List Job) → cons_option one jobs ≡ cons_option one [] ++ jobs
cons_append None jobs = refl
cons_append (Some job) jobs = refl

joined : (starts takes waiting middle later_starts last later_takes : List Job)
    → starts ++ middle ≡ waiting ++ takes → later_starts ++ last ≡ middle ++ later_takes
    → starts ++ later_starts ++ last ≡ waiting ++ (takes ++ later_takes)
joined starts takes waiting middle later_starts last later_takes now then_on =
    append_assoc starts later_starts last ∙ ap (λ jobs. starts ++ jobs) then_on ∙ sym (append_assoc starts middle later_takes)
    ∙ ap (λ jobs. jobs ++ later_takes) now ∙ append_assoc waiting takes later_takes

moved : (started taken : Option Job) (waiting middle later_starts last later_takes : List Job)
    → cons_option started [] ++ middle ≡ waiting ++ cons_option taken []
    → later_starts ++ last ≡ middle ++ later_takes
    → cons_option started later_starts ++ last ≡ waiting ++ cons_option taken later_takes
moved started taken waiting middle later_starts last later_takes now then_on =
    rw (cons_append started later_starts, cons_append taken later_takes)
    (joined (cons_option started []) (cons_option taken []) waiting middle later_starts last later_takes now then_on)

runs_on : (calls : List Call) (s : Supervision)
    → started_in (history calls s) ++ (after_calls calls s).waiting ≡ s.waiting ++ taken_in (history calls s)
runs_on [] s = sym (append-nil s.waiting)
runs_on (call ∷ calls) s = moved (started_by (event call s)) (taken_by (event call s)) s.waiting _ _ _ _ (call_moves call s) (runs_on calls (after_call call s))

pub first_in_first_out : FirstInFirstOut
first_in_first_out calls = runs_on calls idle

-- ---- room

put_fits : (full : Bool) (job : Job) (waiting : List Job) → nat_le most_waiting (length waiting) ≡ full → length waiting ≤ most_waiting
    → length (if full then waiting else waiting ++ job ∷ []) ≤ most_waiting
put_fits true job waiting is fits = fits
put_fits false job waiting is fits = let long = length-append waiting (job ∷ []) in grind (arith, nat_tests, long, is)

next_fits : (child : Option Child) (waiting : List Job) → length waiting ≤ most_waiting → length (waiting_after child waiting) ≤ most_waiting
next_fits (Some child) waiting fits = fits
next_fits None [] fits = fits
next_fits None (job ∷ waiting) fits = grind (arith, fits)

call_fits : (call : Call) (s : Supervision) → length s.waiting ≤ most_waiting → length (after_call call s).waiting ≤ most_waiting
call_fits (Put job) s fits = put_fits (is_full s) (record job { number = next_number s }) s.waiting refl fits
call_fits (Polled answer at) s fits = fits
call_fits (NextJob at) s fits = next_fits s.child s.waiting fits
call_fits NotStarted s fits = fits

fit_on : (calls : List Call) (s : Supervision) → length s.waiting ≤ most_waiting → length (after_calls calls s).waiting ≤ most_waiting
fit_on [] s fits = fits
fit_on (call ∷ calls) s fits = fit_on calls (after_call call s) (call_fits call s fits)

pub few_wait : FewWait
few_wait calls = fit_on calls idle (omega arith)

refused_at : (full : Bool) (number waiting taken started : ℕ) → nat_le most_waiting waiting ≡ full → waiting ≤ most_waiting → started + waiting ≡ taken
    → IsErr (answer_at full number) ↔ (taken ≡ started + most_waiting)
refused_at true number waiting taken started is fits sum = (λ _. grind (arith, nat_tests, is, fits, sum), λ _. refl)
refused_at false number waiting taken started is fits sum = (λ wrong. absurd (false≢true wrong), λ even. grind (arith, nat_tests, is, fits, sum, even))

pub drop_where_full : DropWhereFull
drop_where_full calls =
    let s = left_by calls in
    let sum = sym (length-append (started_in (events_of calls)) s.waiting) ∙ ap (λ (jobs : List Job). length jobs) (first_in_first_out calls) in
    refused_at (is_full s) (next_number s) (length s.waiting) _ (length (started_in (events_of calls))) refl (few_wait calls) sum
