-- One child at a time.
use Rattle.std.proofs.Common.{◌≡◌, ℕ, ◌-◌, ◌≤◌, ◌↔◌, nat_le, List, [], ◌∷◌, ◌++◌, Bool, true, false, refl, sym, ap, ◌∙◌, ◌⊎◌, inl, inr, arith}
use Rattle.std.specs.Prelude.{Option, Some, None, if◌then◌else◌}
use Rattle.std.specs.List.{list_any}
use Rattle.std.proofs.lemmas.Bool.{false≢true, or_left, or_parts, or_right}
use Rattle.std.proofs.lemmas.Bool.Decides.{nat_tests}
use Rattle.machine.specs.Moment.{moment_of}
use Rattle.world.specs.declared.hooking.Poll.{Poll}
use Rattle.world.specs.declared.hooking.Poll.TheVariants.{Running, Ended}
use Rattle.world.specs.HookCalls.{Job}
use Rattle.hook_child.specs.declared.child.Child.{Child}
use Rattle.hook_child.specs.Supervision.{Supervision, Idle, Start, Abandon, idle, is_full, is_over_time, next_number, child_after, child_from, first_order, after_next}
use Rattle.hook_child.specs.Histories.{Call, Put, Polled, NextJob, NotStarted, Event, JobTaken, JobDropped, JobStarted, ChildGone, Nothing, put_event, poll_event, order_event, event, after_call, after_calls, history, started_by, is_gone}
use Rattle.hook_child.specs.HistoryLaws.{OneChild, RunOn, AbandonOnTime}
use Rattle.hook_child.proofs.Lines.{answer_at, poll_leaves, failure_leaves}

-- ---- lists of events that are equal

head_is : (one other : Event) (rest others : List Event) → one ∷ rest ≡ other ∷ others → one ≡ other
head_is one other rest others same = grind arith

tail_is : (one other : Event) (rest others : List Event) → one ∷ rest ≡ other ∷ others → rest ≡ others
tail_is one other rest others same = grind arith

not_empty : (one : Event) (rest : List Event) → [] ≡ one ∷ rest → ⊥
not_empty one rest same = grind arith

unstarted : (e : Event) (job : Job) → started_by e ≡ None → e ≡ JobStarted job → ⊥
unstarted e job none is = let both : None ≡ Some job = sym none ∙ ap started_by is in grind arith

-- ---- orders

abbrev child_of : ℕ → Event → Option Child
child_of since (JobTaken job) = None
child_of since (JobDropped number) = None
child_of since (JobStarted job) = Some (record { number = job.number; since = moment_of since })
child_of since ChildGone = None
child_of since Nothing = None

idle_starts_none : (job : Job) → Idle ≡ Start job → ⊥
idle_starts_none job is = unstarted Nothing job refl (ap order_event is)

idle_isnt_abandon : Idle ≡ Abandon → ⊥
idle_isnt_abandon is = false≢true (ap (λ order. is_gone (order_event order)) is)

-- ---- while a child runs

-- an event starts no job, and leaves the child
record Keeps (e : Event) (after : Option Child) (child : Child) : Type 0 where
  quiet : started_by e ≡ None
  kept : after ≡ Some child

-- the child goes, or runs on
abbrev GoesOrStays : Event → Option Child → Child → Type 0
GoesOrStays e after child = (e ≡ ChildGone) ⊎ Keeps e after child

put_starts_none : (full : Bool) (job : Job) (number : ℕ) → started_by (put_event job (answer_at full number)) ≡ None
put_starts_none true job number = refl
put_starts_none false job number = refl

running_goes : (over : Bool) (child : Child)
    → GoesOrStays (order_event (if over then Abandon else Idle)) (if over then None else Some child) child
running_goes true child = inl refl
running_goes false child = inr (record { quiet = refl; kept = refl })

poll_goes : (answer : Poll) (at : ℕ) (child : Child) → GoesOrStays (poll_event answer at (Some child)) (child_after answer at (Some child)) child
poll_goes (Ended status) at child = inl refl
poll_goes Running at child = running_goes (is_over_time at (Some child)) child

next_goes : (at : ℕ) (waiting : List Job) (child : Child)
    → GoesOrStays (order_event (first_order (Some child) waiting)) (child_from at (Some child) waiting) child
next_goes at waiting child = inr (record { quiet = refl; kept = refl })

call_goes : (call : Call) (s : Supervision) (child : Child) → s.child ≡ Some child → GoesOrStays (event call s) (after_call call s).child child
call_goes (Put job) s child runs = inr (record { quiet = put_starts_none (is_full s) job (next_number s); kept = runs })
call_goes (Polled answer at) s child runs = rw runs (poll_goes answer at child)
call_goes (NextJob at) s child runs = rw runs (next_goes at s.waiting child)
call_goes NotStarted s child runs = rw runs (inl refl)

abbrev HasGone : List Event → Type 0
HasGone events = list_any is_gone events ≡ true

gone_starts_none : (e : Event) (job : Job) → e ≡ ChildGone → e ≡ JobStarted job → ⊥
gone_starts_none e job gone started = unstarted e job (ap started_by gone) started

goes_before : (calls : List Call) (s : Supervision) (child : Child) (between later : List Event) (other : Job) → s.child ≡ Some child
    → history calls s ≡ between ++ JobStarted other ∷ later → HasGone between
goes_before [] s child [] later other runs is = absurd (not_empty (JobStarted other) later is)
goes_before [] s child (e ∷ between) later other runs is = absurd (not_empty e (between ++ JobStarted other ∷ later) is)
goes_before (call ∷ calls) s child [] later other runs is =
    let same = head_is (event call s) (JobStarted other) (history calls (after_call call s)) later is in
    elim (call_goes call s child runs) [
      | inl gone ↦ absurd (gone_starts_none (event call s) other gone same)
      | inr keeps ↦ absurd (unstarted (event call s) other keeps.quiet same)
    ]
goes_before (call ∷ calls) s child (e ∷ between) later other runs is =
    let same = head_is (event call s) e (history calls (after_call call s)) (between ++ JobStarted other ∷ later) is in
    let rest = tail_is (event call s) e (history calls (after_call call s)) (between ++ JobStarted other ∷ later) is in
    elim (call_goes call s child runs) [
      | inl gone ↦ or_left (is_gone e) (list_any is_gone between) (ap is_gone (sym same ∙ gone))
      | inr keeps ↦ or_right (is_gone e) (list_any is_gone between) (goes_before calls (after_call call s) child between later other keeps.kept rest)
    ]

-- ---- a start

next_runs : (at : ℕ) (child : Option Child) (waiting : List Job) (one : Job) → order_event (first_order child waiting) ≡ JobStarted one
    → (new : Child) × (child_from at child waiting ≡ Some new)
next_runs at (Some child) waiting one is = absurd (unstarted Nothing one refl is)
next_runs at None [] one is = absurd (unstarted Nothing one refl is)
next_runs at None (job ∷ waiting) one is = (_, refl)

start_runs : (call : Call) (s : Supervision) (one : Job) → event call s ≡ JobStarted one
    → (new : Child) × ((after_call call s).child ≡ Some new)
start_runs (Put job) s one is = absurd (unstarted _ one (put_starts_none (is_full s) job (next_number s)) is)
start_runs (Polled answer at) s one is = absurd (unstarted _ one (poll_leaves answer at s.child).started is)
start_runs (NextJob at) s one is = next_runs at s.child s.waiting one is
start_runs NotStarted s one is = absurd (unstarted _ one (failure_leaves s.child).started is)

one_from : (calls : List Call) (s : Supervision) (before between later : List Event) (one other : Job)
    → history calls s ≡ before ++ JobStarted one ∷ (between ++ JobStarted other ∷ later) → HasGone between
one_from [] s [] between later one other is = absurd (not_empty (JobStarted one) (between ++ JobStarted other ∷ later) is)
one_from [] s (e ∷ before) between later one other is = absurd (not_empty e (before ++ JobStarted one ∷ (between ++ JobStarted other ∷ later)) is)
one_from (call ∷ calls) s [] between later one other is =
    let same = head_is (event call s) (JobStarted one) (history calls (after_call call s)) (between ++ JobStarted other ∷ later) is in
    let rest = tail_is (event call s) (JobStarted one) (history calls (after_call call s)) (between ++ JobStarted other ∷ later) is in
    let runs = start_runs call s one same in
    goes_before calls (after_call call s) runs.0 between later other runs.1 rest
one_from (call ∷ calls) s (e ∷ before) between later one other is =
    one_from calls (after_call call s) before between later one other
    (tail_is (event call s) e (history calls (after_call call s)) (before ++ JobStarted one ∷ (between ++ JobStarted other ∷ later)) is)

pub one_child : OneChild
one_child calls before between later one other is = one_from calls idle before between later one other is

-- ---- until then

child_started : (since : ℕ) (child : Option Child) (waiting : List Job) (job : Job) → first_order child waiting ≡ Start job
    → child_from since child waiting ≡ Some (record { number = job.number; since = moment_of since })
child_started since (Some child) waiting job is = absurd (idle_starts_none job is)
child_started since None [] job is = absurd (idle_starts_none job is)
child_started since None (first ∷ waiting) job is =
    ap (λ (e : Event). child_of since e) (ap order_event is)

stays_on : (calls : List Call) (s : Supervision) (child : Child) → s.child ≡ Some child → list_any is_gone (history calls s) ≡ false
    → (after_calls calls s).child ≡ Some child
stays_on [] s child runs none = runs
stays_on (call ∷ calls) s child runs none =
    let parts = or_parts (is_gone (event call s)) (list_any is_gone (history calls (after_call call s))) none in
    elim (call_goes call s child runs) [
      | inl gone ↦ absurd (false≢true (sym parts.0 ∙ ap is_gone gone))
      | inr keeps ↦ stays_on calls (after_call call s) child keeps.kept parts.1
    ]

pub run_on : RunOn
run_on s job since calls starts none = stays_on calls (after_next since s) _ (child_started since s.child s.waiting job starts) none

abandoned_at : (at since : ℕ) (number : ℕ) (over : Bool) → nat_le 60000 (moment_of at - moment_of since) ≡ over
    → ((if over then Abandon else Idle) ≡ Abandon) ↔ (60000 ≤ moment_of at - moment_of since)
abandoned_at at since number true is = (λ _. grind (arith, nat_tests, is), λ _. refl)
abandoned_at at since number false is = (λ wrong. absurd (idle_isnt_abandon wrong), λ late. absurd (grind (arith, nat_tests, is, late)))

pub abandon_on_time : AbandonOnTime
abandon_on_time s job since at calls starts none =
    rw (run_on s job since calls starts none) (abandoned_at at since job.number (nat_le 60000 (moment_of at - moment_of since)) refl)
