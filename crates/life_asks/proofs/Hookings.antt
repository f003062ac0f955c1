-- What is asked of hooks, as the code asks it.
use Rattle.std.proofs.Common.{ℕ, ◌≡◌, ◌+◌, ◌<◌, ◌≤◌, arith, Bool, true, false, cond, List, [], ◌∷◌, length, get_or, take, map, Option, Some, None, Result, Ok, Err, refl, sym, ap, subst, ◌∙◌}
use Rattle.std.specs.Prelude.{find, option_map, unwrap_or, IsSome}
use Rattle.std.specs.Option.{is_some}
use Rattle.net_types.proofs.ReadsLaws.{some_same}
use Rattle.world.specs.declared.hooking.Poll as said
use Rattle.world.specs.declared.hooking.Poll.TheVariants as poll
use Rattle.world.specs.HookCalls.{Job, Variable}
use Rattle.hook_child.specs.declared.answers.Dropped.{Dropped}
use Rattle.hook_child.specs.declared.child.Child.{Child}
use Rattle.hook_child.specs.Supervision.{Supervision, Order, Idle, Start, Abandon, is_full, is_over_time, next_number, numbered, put_answer, after_put, poll_order, child_after, after_poll, first_order, child_from, next_order, after_next}
use Rattle.script_model.specs.Lines as lines
use Rattle.script_model.specs.Lines.{Line}
use Rattle.device_calls.specs.Calls as asks
use Rattle.device_calls.specs.CallLines.{interface_of, variable_line}
use Rattle.device_calls.specs.Programs.{Asks, Done, Then}
use Rattle.device_calls.specs.Worlds.{Seen}
use Rattle.device_calls.specs.Does.{Does}
use Rattle.device_calls.specs.Printing.{Prints}
use Rattle.device_calls.proofs.Doing.{does_done, does_one, does_then, does_after}
use Rattle.device_calls.proofs.Printings.{contents_more}
use Rattle.turn_model.specs.Hooking.{heard, letting_go, polling_child, polling, putting_one, putting, started, starting, child_due}
use Rattle.life_devices.specs.Answered.{runs_on}
use Rattle.life_asks.specs.Hooking.{Puts, is_abandon}
use Rattle.life_devices.proofs.Ones.{one_drop}

-- ---- the child that runs

pub none_runs : (hooks : Supervision) (at : ℕ) (seen : Seen) (text : List ℕ) → None ≡ option_map (λ (child : Child). child.number) hooks.child
    → Does (polling at hooks) hooks seen seen text text
none_runs hooks at seen text none = go hooks.child refl none
  where
    go : (child : Option Child) → hooks.child ≡ child → None ≡ option_map (λ (c : Child). c.number) child → Does (polling at hooks) hooks seen seen text text
    go None is n = subst (λ (c : Option Child). Does (polling_child at hooks c) hooks seen seen text text) (sym is) (does_done hooks seen text)
    go (Some child) is n = absurd cc

pub one_runs : (hooks : Supervision) (number : ℕ) → Some number ≡ option_map (λ (child : Child). child.number) hooks.child → is_some hooks.child ≡ true
one_runs hooks number is = go hooks.child is
  where
    go : (child : Option Child) → Some number ≡ option_map (λ (c : Child). c.number) child → is_some child ≡ true
    go None n = absurd cc
    go (Some child) n = refl

module _ (hooks : Supervision) (number at : ℕ) (answer : Option said.Poll) (old mid new : Seen) (t u v : List ℕ)
    (runs : Some number ≡ option_map (λ (child : Child). child.number) hooks.child)
    (polls : Does (Then (asks.Poll number) Done) answer old mid t u) where
  polls_then : Does (letting_go number (poll_order (heard answer) at hooks.child) (after_poll (heard answer) at hooks))
      (after_poll (heard answer) at hooks) mid new u v
      → Does (polling at hooks) (after_poll (heard answer) at hooks) old new t v
  polls_then later = go hooks.child refl runs
    where
      go : (child : Option Child) → hooks.child ≡ child → Some number ≡ option_map (λ (c : Child). c.number) child
          → Does (polling at hooks) (after_poll (heard answer) at hooks) old new t v
      go None is n = absurd cc
      go (Some child) is n =
          let same : number ≡ child.number = some_same n in
          subst (λ (c : Option Child). Does (polling_child at hooks c) (after_poll (heard answer) at hooks) old new t v) (sym is)
          (subst
          (λ (k : ℕ). Does (Then (asks.Poll k) (λ a. letting_go k (poll_order (heard a) at hooks.child) (after_poll (heard a) at hooks)))
          (after_poll (heard answer) at hooks) old new t v)
          same
          (does_then (asks.Poll number) (λ a. letting_go number (poll_order (heard a) at hooks.child) (after_poll (heard a) at hooks)) answer
          (after_poll (heard answer) at hooks) old mid new t u v polls later))

pub polled_gone : (hooks next : Supervision) (number at : ℕ) (answer : Option said.Poll) (order : Order) (x : Unit {0}) (old mid new : Seen) (t u v : List ℕ)
    → Some number ≡ option_map (λ (child : Child). child.number) hooks.child → Does (Then (asks.Poll number) Done) answer old mid t u
    → order ≡ poll_order (heard answer) at hooks.child → order ≡ Abandon → next ≡ after_poll (heard answer) at hooks
    → Does (Then (asks.Abandon number) Done) x mid new u v → Does (polling at hooks) next old new t v
polled_gone hooks next number at answer order x old mid new t u v runs polls order_is abandons next_is gone =
    let line : Supervision = after_poll (heard answer) at hooks in
    subst (λ (s : Supervision). Does (polling at hooks) s old new t v) (sym next_is)
    (polls_then hooks number at answer old mid new t u v runs polls
    (subst (λ (o : Order). Does (letting_go number o line) line mid new u v) (sym abandons ∙ order_is)
    (does_then (asks.Abandon number) (λ _. Done line) x line mid new new u v v gone (does_done line new v))))

pub polled_on : (hooks next : Supervision) (number at : ℕ) (answer : Option said.Poll) (order : Order) (old new : Seen) (t u : List ℕ)
    → Some number ≡ option_map (λ (child : Child). child.number) hooks.child → Does (Then (asks.Poll number) Done) answer old new t u
    → order ≡ poll_order (heard answer) at hooks.child → order ≡ Idle → next ≡ after_poll (heard answer) at hooks
    → Does (polling at hooks) next old new t u
polled_on hooks next number at answer order old new t u runs polls order_is idles next_is =
    let line : Supervision = after_poll (heard answer) at hooks in
    subst (λ (s : Supervision). Does (polling at hooks) s old new t u) (sym next_is)
    (polls_then hooks number at answer old new new t u u runs polls
    (subst (λ (o : Order). Does (letting_go number o line) line new new u u) (sym idles ∙ order_is) (does_done line new u)))

-- what is to be done, by the test of it
pub abandons_so : (order : Order) → is_abandon order ≡ true → order ≡ Abandon
abandons_so Idle is = absurd cc
abandons_so (Start job) is = absurd cc
abandons_so Abandon is = refl

over_idle : (over : Bool) (order : Order) → order ≡ cond over Abandon Idle → is_abandon order ≡ false → order ≡ Idle
over_idle true order is rests = absurd (let bad : true ≡ false = sym (ap is_abandon is) ∙ rests in cc)
over_idle false order is rests = is

-- a poll starts nothing
pub idles_so : (answer : said.Poll) (at : ℕ) (child : Option Child) (order : Order) → order ≡ poll_order answer at child → is_abandon order ≡ false
    → order ≡ Idle
idles_so (poll.Ended status) at child order is rests = is
idles_so poll.Running at child order is rests = over_idle (is_over_time at child) order is rests

-- what is known of the child then
abandoned_ran : (answer : Option said.Poll) (at : ℕ) (child : Option Child) → poll_order (heard answer) at child ≡ Abandon → runs_on answer ≡ true
abandoned_ran None at child is = refl
abandoned_ran (Some poll.Running) at child is = refl
abandoned_ran (Some (poll.Ended status)) at child is = absurd cc

pub gone_ran : (answer : Option said.Poll) (at : ℕ) (child : Option Child) (order : Order) → order ≡ poll_order (heard answer) at child → order ≡ Abandon
    → runs_on answer ≡ true
gone_ran answer at child order is abandons = abandoned_ran answer at child (sym is ∙ abandons)

over_gone : (over : Bool) (child : Option Child) → cond over Abandon Idle ≡ Abandon → is_some (cond over None child) ≡ false
over_gone true child is = refl
over_gone false child is = absurd cc

gone_known : (answer : said.Poll) (at : ℕ) (child : Option Child) → poll_order answer at child ≡ Abandon → is_some (child_after answer at child) ≡ false
gone_known (poll.Ended status) at child is = absurd cc
gone_known poll.Running at child is = over_gone (is_over_time at child) child is

pub known_gone : (hooks next : Supervision) (at : ℕ) (answer : Option said.Poll) (order : Order) → order ≡ poll_order (heard answer) at hooks.child
    → order ≡ Abandon
    → next ≡ after_poll (heard answer) at hooks → is_some next.child ≡ false
known_gone hooks next at answer order is abandons next_is =
    ap (λ (s : Supervision). is_some s.child) next_is ∙ gone_known (heard answer) at hooks.child (sym is ∙ abandons)

over_on : (over : Bool) (child : Option Child) → cond over Abandon Idle ≡ Idle → is_some child ≡ true → is_some (cond over None child) ≡ true
over_on true child is runs = absurd cc
over_on false child is runs = runs

on_known : (answer : Option said.Poll) (at : ℕ) (child : Option Child) → is_some child ≡ true → poll_order (heard answer) at child ≡ Idle
    → is_some (child_after (heard answer) at child) ≡ runs_on answer
on_known None at child runs is = over_on (is_over_time at child) child is runs
on_known (Some poll.Running) at child runs is = over_on (is_over_time at child) child is runs
on_known (Some (poll.Ended status)) at child runs is = refl

pub known_on : (hooks next : Supervision) (number at : ℕ) (answer : Option said.Poll) (order : Order)
    → Some number ≡ option_map (λ (child : Child). child.number) hooks.child
    → order ≡ poll_order (heard answer) at hooks.child → order ≡ Idle → next ≡ after_poll (heard answer) at hooks → is_some next.child ≡ runs_on answer
known_on hooks next number at answer order runs is idles next_is =
    ap (λ (s : Supervision). is_some s.child) next_is ∙ on_known answer at hooks.child (one_runs hooks number runs) (sym is ∙ idles)

-- ---- jobs are put in line

full_or : (job : Job) (s : Supervision) (full : Bool) → is_full s ≡ full
    → putting_one job s ≡ cond full (Then (asks.Drop (numbered job s)) (λ _. Done (after_put job s))) (Done (after_put job s))
full_or job s full is = ap (λ (b : Bool). cond b (Then (asks.Drop (numbered job s)) (λ _. Done (after_put job s))) (Done (after_put job s))) is

abbrev put_with : Supervision → (full : Bool) → Result ℕ Dropped
put_with s full = cond full (Err (record { number = next_number s })) (Ok (next_number s))

taken_room : (s : Supervision) (number : ℕ) (full : Bool) → is_full s ≡ full → put_with s full ≡ Ok number → full ≡ false
taken_room s number true is e = absurd cc
taken_room s number false is e = refl

pub puts_taken : (job : Job) (s next : Supervision) (number : ℕ) (answer : Result ℕ Dropped) (text : List ℕ) → answer ≡ put_answer s → answer ≡ Ok number
    → next ≡ after_put job s
    → Puts (putting_one job s) next text text
puts_taken job s next number answer text answer_is ok next_is seen =
    let room : is_full s ≡ false = taken_room s number (is_full s) refl (sym answer_is ∙ ok) in
    subst (λ (asks : Asks Supervision). Does asks next seen seen text text) (sym (full_or job s false room))
    (subst (λ (n : Supervision). Does (Done (after_put job s)) n seen seen text text) (sym next_is) (does_done (after_put job s) seen text))

record IsDropped (s : Supervision) (number : ℕ) : Type 0 where
  full : is_full s ≡ true
  number_is : number ≡ next_number s

was_dropped : (s : Supervision) (dropped : Dropped) (full : Bool) → is_full s ≡ full → put_with s full ≡ Err dropped → IsDropped s dropped.number
was_dropped s dropped true is e = record { full = is; number_is = ap number_in (sym e) }
  where
    number_in : Result ℕ Dropped → ℕ
    number_in (Ok n) = 0
    number_in (Err d) = d.number
was_dropped s dropped false is e = absurd cc

pub puts_dropped : (job : Job) (s next : Supervision) (dropped : Dropped) (answer : Result ℕ Dropped) (name : List ℕ) (t u : List ℕ) → answer ≡ put_answer s
    → answer ≡ Err dropped → next ≡ after_put job s
    → name ≡ interface_of job → Prints t u (lines.HookDropped dropped.number job.reason name ∷ []) → Puts (putting_one job s) next t u
puts_dropped job s next dropped answer name t u answer_is err next_is name_is prints seen =
    let is : IsDropped s dropped.number = was_dropped s dropped (is_full s) refl (sym answer_is ∙ err) in
    let printed : Prints t u (lines.HookDropped (next_number s) job.reason (interface_of job) ∷ []) =
    subst (λ (l : Line). Prints t u (l ∷ [])) (λ i. lines.HookDropped (is.number_is i) job.reason (name_is i)) prints in
    subst (λ (asks : Asks Supervision). Does asks next seen seen t u) (sym (full_or job s true is.full))
    (subst (λ (n : Supervision). Does (Then (asks.Drop (numbered job s)) (λ _. Done (after_put job s))) n seen seen t u) (sym next_is)
    (does_then (asks.Drop (numbered job s)) (λ _. Done (after_put job s)) tt (after_put job s) seen seen seen t u u
    (does_one (asks.Drop (numbered job s)) tt seen seen t u (one_drop (numbered job s) seen) printed) (does_done (after_put job s) seen u)))

-- ---- one after another

module _ {X : Type 0} (content : X → Job) where
  pub putting_first : (jobs later : List X) (job : X) (s mid next : Supervision) (seen : Seen) (t u v : List ℕ) → jobs ≡ job ∷ later
      → Puts (putting_one (content job) s) mid t u → Does (putting (map content later) mid) next seen seen u v
      → Does (putting (map content jobs) s) next seen seen t v
  putting_first jobs later job s mid next seen t u v is one rest =
      subst (λ (js : List X). Does (putting (map content js) s) next seen seen t v) (sym is)
      (does_after (putting_one (content job) s) (putting (map content later)) mid next seen seen seen t u v (one seen) rest)

  pub putting_none : (jobs : List X) (left : ℕ) (s : Supervision) (seen : Seen) (text : List ℕ) → left ≡ length jobs → left ≡ 0
      → Does (putting (map content jobs) s) s seen seen text text
  putting_none [] left s seen text counted none = does_done s seen text
  putting_none (job ∷ jobs) left s seen text counted none = let some : left ≡ length (job ∷ jobs) = counted in absurd (omega (arith, some, none))

-- ---- the lines of a job's variables

module _ {X : Type 0} (content : X → Variable) where
  pub variables_more : (vars : List X) (i : ℕ) (d : X) (t u v : List ℕ) → i < length vars → Prints t u (map variable_line (map content (take i vars)))
      → Prints u v (variable_line (content (get_or vars i d)) ∷ [])
      → Prints t v (map variable_line (map content (take (i + 1) vars)))
  variables_more vars i d t u v lt p q = contents_more variable_line content vars i d t u v lt p q

-- ---- the first in line is started

pub starts_one : (hooks line next : Supervision) (at : ℕ) (job : Job) (order : Order) (done : Bool) (old new : Seen) (t u : List ℕ) → order ≡ next_order hooks
    → order ≡ Start job → line ≡ after_next at hooks
    → next ≡ started done line → Does (Then (asks.Start job) Done) done old new t u → Does (starting (next_order hooks) (after_next at hooks)) next old new t u
starts_one hooks line next at job order done old new t u order_is starts line_is next_is did =
    subst (λ (o : Order). Does (starting o (after_next at hooks)) next old new t u) (sym starts ∙ order_is)
    (subst (λ (s : Supervision). Does (starting (Start job) s) next old new t u) line_is
    (subst (λ (s : Supervision). Does (starting (Start job) line) s old new t u) (sym next_is)
    (does_then (asks.Start job) (λ d. Done (started d line)) done (started done line) old new new t u u did (does_done (started done line) new u))))

pub starts_no_more : (hooks next : Supervision) (at : ℕ) (order : Order) (seen : Seen) (text : List ℕ) → order ≡ next_order hooks → order ≡ Idle
    → next ≡ after_next at hooks
    → Does (starting (next_order hooks) (after_next at hooks)) next seen seen text text
starts_no_more hooks next at order seen text order_is idles next_is =
    subst (λ (o : Order). Does (starting o (after_next at hooks)) next seen seen text text) (sym idles ∙ order_is)
    (subst (λ (s : Supervision). Does (Done (after_next at hooks)) s seen seen text text) (sym next_is) (does_done (after_next at hooks) seen text))

-- whether a child runs then
pub child_started : (line next : Supervision) (done : Bool) → IsSome line.child → next ≡ started done line → is_some next.child ≡ done
child_started line next true runs is = ap (λ (s : Supervision). is_some s.child) is ∙ runs
child_started line next false runs is = ap (λ (s : Supervision). is_some s.child) is

-- nothing is abandoned then
pub abandons_none : {A : Type 0} (child : Option Child) (waiting : List Job) → Abandon ≡ first_order child waiting → A
abandons_none (Some child) waiting is = absurd cc
abandons_none None [] is = absurd cc
abandons_none None (job ∷ waiting) is = absurd cc

no_child : (child : Option Child) (waiting : List Job) (job : Job) → first_order child waiting ≡ Start job → is_some child ≡ false
no_child (Some child) waiting job is = absurd cc
no_child None waiting job is = refl

-- none ran where a job is started
pub none_ran : (hooks : Supervision) (job : Job) (order : Order) → order ≡ next_order hooks → order ≡ Start job → is_some hooks.child ≡ false
none_ran hooks job order is starts = no_child hooks.child hooks.waiting job (sym is ∙ starts)

runs_then : (at : ℕ) (child : Option Child) (waiting : List Job) (job : Job) → first_order child waiting ≡ Start job → IsSome (child_from at child waiting)
runs_then at (Some child) waiting job is = absurd cc
runs_then at None [] job is = absurd cc
runs_then at None (first ∷ waiting) job is = refl

-- and its child runs then
pub runs_now : (hooks line : Supervision) (at : ℕ) (job : Job) (order : Order) → order ≡ next_order hooks → order ≡ Start job → line ≡ after_next at hooks
    → IsSome line.child
runs_now hooks line at job order is starts line_is =
    subst (λ (s : Supervision). IsSome s.child) (sym line_is) (runs_then at hooks.child hooks.waiting job (sym is ∙ starts))

same_child : (at : ℕ) (child : Option Child) (waiting : List Job) → first_order child waiting ≡ Idle → is_some (child_from at child waiting) ≡ is_some child
same_child at (Some child) waiting is = refl
same_child at None [] is = refl
same_child at None (job ∷ waiting) is = absurd cc

pub child_stays : (hooks next : Supervision) (at : ℕ) (order : Order) → order ≡ next_order hooks → order ≡ Idle → next ≡ after_next at hooks
    → is_some next.child ≡ is_some hooks.child
child_stays hooks next at order is idles next_is =
    ap (λ (s : Supervision). is_some s.child) next_is ∙ same_child at hooks.child hooks.waiting (sym is ∙ idles)

-- ---- when hooks want a turn

pub due_running : (child : Option Child) (waiting : List Job) (now number : ℕ) → Some number ≡ option_map (λ (c : Child). c.number) child
    → Some (now + 1000) ≡ child_due child waiting now
due_running None waiting now number is = absurd cc
due_running (Some child) waiting now number is = refl

pub due_waiting : (child : Option Child) (waiting : List Job) (now : ℕ) → None ≡ option_map (λ (c : Child). c.number) child → 0 < length waiting
    → Some now ≡ child_due child waiting now
due_waiting (Some child) waiting now is some = absurd cc
due_waiting None [] now is some = absurd (omega (arith, some))
due_waiting None (job ∷ waiting) now is some = refl

pub due_never : (child : Option Child) (waiting : List Job) (now : ℕ) → None ≡ option_map (λ (c : Child). c.number) child → length waiting ≤ 0
    → None ≡ child_due child waiting now
due_never (Some child) waiting now is none = absurd cc
due_never None [] now is none = refl
due_never None (job ∷ waiting) now is none = absurd (omega (arith, none))

-- ---- the interface of a job

module _ {X : Type 0} (content : X → Variable) (test : Variable → Bool) where
  found_first : (b : Bool) (x : X) (later : Option Variable) (rest : Option X) → later ≡ option_map content rest
      → cond b (Some (content x)) later ≡ option_map content (cond b (Some x) rest)
  found_first true x later rest same = refl
  found_first false x later rest same = same

  pub find_content : (xs : List X) → find test (map content xs) ≡ option_map content (find (λ (x : X). test (content x)) xs)
  find_content [] = refl
  find_content (x ∷ xs) = found_first (test (content x)) x (find test (map content xs)) (find (λ (y : X). test (content y)) xs) (find_content xs)

  pub value_found : (xs : List X) (found : Option X) → found ≡ find (λ (x : X). test (content x)) xs
      → unwrap_or (option_map (λ (v : Variable). v.value) (option_map content found)) []
      ≡ unwrap_or (option_map (λ (v : Variable). v.value) (find test (map content xs))) []
  value_found xs found is =
      ap (λ (o : Option Variable). unwrap_or (option_map (λ (v : Variable). v.value) o) []) (ap (option_map content) is ∙ sym (find_content xs))
