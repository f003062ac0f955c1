-- A turn of an interface that has nothing to do, and the places of those that have.
use Rattle.std.proofs.Common.{ℕ, ◌≡◌, Bool, true, false, cond, ◌||◌, ◌⊎◌, inl, inr, List, Option, Some, None, get_or, length, nat_eq, refl, sym, ap, subst, ◌<◌, ◌≤◌, ◌∙◌, arith}
use Rattle.std.specs.Prelude.{map}
use Rattle.std.proofs.lemmas.Bool.{cases_lt, eq-eqb}
use Rattle.std.proofs.lemmas.Bool.Decides.{nat_tests}
use Rattle.std.proofs.lemmas.List.{get_or-take, length-map}
use Rattle.net_types.specs.declared.address.Mac.{Mac}
use Rattle.machine.specs.Moment.{is_due}
use Rattle.client_model.specs.declared.machines.TimedMachine.{TimedMachine}
use Rattle.client_model.specs.declared.machines.TimedMachine.TheVariants as machine
use Rattle.client_core.specs.declared.places.Places.{Places}
use Rattle.client_core.specs.Due.{MachineDues, dues_of, is_taken, never}
use Rattle.timer_queue.specs.Moments.{has_come}
use Rattle.client_core.specs.Names.{is_named}
use Rattle.client_core.specs.Places.{has}
use Rattle.client_core.proofs.Naming.{named_at}
use Rattle.client_core.proofs.Sets.{has_far}
use Rattle.client_core.proofs.Waiting.{at_place, taken_due, untaken}
use Rattle.world.specs.declared.wakes.Event.{Event}
use Rattle.world.specs.declared.wakes.Event.TheVariants.{Frame, Carrier, Duplicate, Release, Rebind, Stop, Quiet, End}
use Rattle.script_model.specs.IfaceSets.{is_in}
use Rattle.client_model.specs.declared.interfaces.Iface.{Iface}
use Rattle.client_model.specs.Clients.{earlier}
use Rattle.client_model.specs.Fitting.{FitsIface}
use Rattle.client_model.specs.IfaceSteps.{IfaceStep, index_of, silent, then_step}
use Rattle.client_model.specs.Interfaces.{iface_due, machine_due, machine_ticked, restarted, ticked, unsent_in}
use Rattle.client_model.specs.IfaceTurns.{Turn, input_step, taken}
use Rattle.iface_core.proofs.Following.{not_due}
use Rattle.client_core.specs.declared.kept.Kept.{Kept}
use Rattle.client_core.specs.Renewing.{Takes}
use Rattle.client_core.specs.Resting.{IsAtRest, StaysAtRest, is_busy, is_called, is_met}
use Rattle.client_core.specs.Running.{IsRunning}
use Rattle.client_core.proofs.Going.{map_at}
use Rattle.client_core.proofs.InPlace.{each_of}

neither : (a b : Bool) → (a || b) ≡ false → (a ≡ false) × (b ≡ false)
neither true b none = let never : true ≡ false = none in absurd cc
neither false b none = (refl, none)

-- ---- the ticks

-- where the earlier of two moments hasn't come, neither has
not_earlier : (first second : Option ℕ) (at : ℕ) → is_due (earlier first second) at ≡ false → (is_due first at ≡ false) × (is_due second at ≡ false)
not_earlier None second at none = (refl, none)
not_earlier (Some first) None at none = (none, refl)
not_earlier (Some first) (Some second) at none = (grind (arith, nat_tests, none), grind (arith, nat_tests, none))

then_silent : (iface : Iface) (first : IfaceStep) (next : Iface → IfaceStep) → first ≡ silent iface → next iface ≡ silent iface
    → then_step first next ≡ silent iface
then_silent iface first next one two =
    ap (λ (step : IfaceStep). then_step step next) one
    ∙ ap (λ (step : IfaceStep). record { iface = step.iface; said = step.said; reports = step.reports }) two

ticked_at_rest : (at salt : ℕ) (iface : Iface) → is_due (iface_due iface) at ≡ false → ticked at salt iface ≡ silent iface
ticked_at_rest at salt iface none =
    let two : Option ℕ = earlier (machine_due machine.Dhcp4 iface) (machine_due machine.LinkLocal iface) in
    let apart = not_earlier two (machine_due machine.Dhcp6 iface) at none in
    let front = not_earlier (machine_due machine.Dhcp4 iface) (machine_due machine.LinkLocal iface) at apart.0 in
    then_silent iface (then_step (machine_ticked machine.Dhcp4 at salt iface) (machine_ticked machine.LinkLocal at salt)) (machine_ticked machine.Dhcp6 at salt)
    (then_silent iface (machine_ticked machine.Dhcp4 at salt iface) (machine_ticked machine.LinkLocal at salt)
    (not_due machine.Dhcp4 at salt iface front.0) (not_due machine.LinkLocal at salt iface front.1))
    (not_due machine.Dhcp6 at salt iface apart.1)

-- ---- the input

module _ (own : List Mac) (at salt : ℕ) (bytes : List ℕ) where
  if_other : (mine : Bool) (step : IfaceStep) (iface : Iface) → mine ≡ false → cond mine step (silent iface) ≡ silent iface
  if_other mine step iface other = ap (λ (b : Bool). cond b step (silent iface)) other

  taken_at_rest : (event : Event) (iface : Iface) → is_met (index_of iface) event ≡ false → taken own at salt event bytes iface ≡ silent iface
  taken_at_rest (Frame index len) iface other = if_other (nat_eq (index_of iface) index) _ iface other
  taken_at_rest (Carrier index up) iface other = if_other (nat_eq (index_of iface) index) _ iface other
  taken_at_rest (Duplicate index addr) iface other = if_other (nat_eq (index_of iface) index) _ iface other
  taken_at_rest (Release index) iface other = if_other (nat_eq (index_of iface) index) _ iface other
  taken_at_rest (Rebind index) iface other = if_other (nat_eq (index_of iface) index) _ iface other
  taken_at_rest Stop iface other = cc
  taken_at_rest Quiet iface other = refl
  taken_at_rest End iface other = refl

  unless_stopped : (stopped : Bool) (step : IfaceStep) (iface : Iface) → step ≡ silent iface → cond stopped (silent iface) step ≡ silent iface
  unless_stopped true step iface e = refl
  unless_stopped false step iface e = e

  input_at_rest : (event : Event) (iface : Iface) → is_met (index_of iface) event ≡ false → input_step own at salt event bytes iface ≡ silent iface
  input_at_rest event iface other = unless_stopped iface.stopped (taken own at salt event bytes iface) iface (taken_at_rest event iface other)

-- ---- the turn

pub at_rest : (own : List Mac) (turn : Turn) (iface : Iface) → StaysAtRest own turn iface
at_rest own turn iface none =
    let due = neither (is_due (iface_due iface) turn.at) (is_called (index_of iface) turn) none in
    let called = neither (is_in turn.unsent (index_of iface)) (is_met (index_of iface) turn.event) due.1 in
    let sent : unsent_in turn.unsent turn.at turn.salt iface ≡ iface = ap (λ (b : Bool). cond b (restarted turn.at turn.salt iface) iface) called.0 in
    then_silent iface (ticked turn.at turn.salt (unsent_in turn.unsent turn.at turn.salt iface)) (input_step own turn.at turn.salt turn.event turn.bytes)
    (ap (ticked turn.at turn.salt) sent ∙ ticked_at_rest turn.at turn.salt iface due.0)
    (input_at_rest own turn.at turn.salt turn.bytes turn.event iface called.1)

-- ---- the places of those that have something to do

come_due : (due : Option ℕ) (at : ℕ) → is_due due at ≡ has_come due at
come_due None at = refl
come_due (Some due) at = refl

later_both : (a b : Option ℕ) (at : ℕ) → is_due a at ≡ false → is_due b at ≡ false → is_due (earlier a b) at ≡ false
later_both None b at first second = second
later_both (Some a) None at first second = first
later_both (Some a) (Some b) at first second = grind (arith, nat_tests, first, second)

-- the earlier of two moments has come where one of them has
first_due : (a b : Option ℕ) (at : ℕ) → is_due a at ≡ true → is_due (earlier a b) at ≡ true
first_due None b at due = let never : false ≡ true = due in absurd cc
first_due (Some a) None at due = due
first_due (Some a) (Some b) at due = grind (arith, nat_tests, due)

second_due : (a b : Option ℕ) (at : ℕ) → is_due b at ≡ true → is_due (earlier a b) at ≡ true
second_due None b at due = due
second_due (Some a) None at due = let never : false ≡ true = due in absurd cc
second_due (Some a) (Some b) at due = grind (arith, nat_tests, due)

one_due : (iface : Iface) (at : ℕ) (machine : TimedMachine) → is_due (machine_due machine iface) at ≡ true → is_due (iface_due iface) at ≡ true
one_due iface at machine.Dhcp4 due =
    first_due (earlier (machine_due machine.Dhcp4 iface) (machine_due machine.LinkLocal iface)) (machine_due machine.Dhcp6 iface) at
    (first_due (machine_due machine.Dhcp4 iface) (machine_due machine.LinkLocal iface) at due)
one_due iface at machine.LinkLocal due =
    first_due (earlier (machine_due machine.Dhcp4 iface) (machine_due machine.LinkLocal iface)) (machine_due machine.Dhcp6 iface) at
    (second_due (machine_due machine.Dhcp4 iface) (machine_due machine.LinkLocal iface) at due)
one_due iface at machine.Dhcp6 due =
    second_due (earlier (machine_due machine.Dhcp4 iface) (machine_due machine.LinkLocal iface)) (machine_due machine.Dhcp6 iface) at due

none_due : (iface : Iface) (at : ℕ) → ((machine : TimedMachine) → has_come (dues_of iface machine) at ≡ false) → is_due (iface_due iface) at ≡ false
none_due iface at none =
    later_both (earlier (machine_due machine.Dhcp4 iface) (machine_due machine.LinkLocal iface)) (machine_due machine.Dhcp6 iface) at
    (later_both (machine_due machine.Dhcp4 iface) (machine_due machine.LinkLocal iface) at
    (come_due (machine_due machine.Dhcp4 iface) at ∙ none machine.Dhcp4) (come_due (machine_due machine.LinkLocal iface) at ∙ none machine.LinkLocal))
    (come_due (machine_due machine.Dhcp6 iface) at ∙ none machine.Dhcp6)

-- an interface that isn't asked in a turn
pub record IsIdle (turn : Turn) (iface : Iface) : Type 0 where
  pub rests : IsAtRest turn iface
  pub due : (machine : TimedMachine) → has_come (dues_of iface machine) turn.at ≡ false

module _ (turn : Turn) (ifaces : List Iface) (kept after : Kept) (places : Places) (running : IsRunning ifaces kept)
    (takes : Takes turn places kept after) where
  pub is_near : (place : ℕ) → has places place ≡ false → place < 64
  is_near place out = by (cases_lt place 64)
    where
      by : (place < 64) ⊎ (64 ≤ place) → place < 64
      by (inl near) = near
      by (inr far) = let never : true ≡ false = sym (has_far places place far) ∙ out in absurd cc

  module _ (place : ℕ) (d : Iface) (lt : place < length ifaces) (near : place < 64) where
    abbrev iface : Iface
    iface = get_or ifaces place d

    abbrev is_here : Bool
    is_here = is_taken turn.at kept.dues place

    moments_here : (machine : TimedMachine) → at_place (map dues_of ifaces) place machine ≡ dues_of iface machine
    moments_here machine =
        ap (λ (dues : MachineDues). dues machine) (get_or-take 64 (map dues_of ifaces) place never near ∙ map_at dues_of ifaces place d never lt)

    -- where it isn't taken, its moments haven't come
    none_come : is_here ≡ false → (machine : TimedMachine) → has_come (dues_of iface machine) turn.at ≡ false
    none_come out machine =
        ap (λ (due : Option ℕ). has_come due turn.at) (sym (moments_here machine))
        ∙ untaken turn.at (map dues_of ifaces) kept.dues place running.due out machine

    -- where it is, one of them has
    some_come : is_here ≡ true → is_due (iface_due iface) turn.at ≡ true
    some_come taken =
        let some = taken_due turn.at (map dues_of ifaces) kept.dues place running.due taken in
        one_due iface turn.at some.0
        (come_due (machine_due some.0 iface) turn.at ∙ ap (λ (due : Option ℕ). has_come due turn.at) (sym (moments_here some.0)) ∙ some.1)

    due_here : is_here ≡ is_due (iface_due iface) turn.at
    due_here = by is_here refl
      where
        by : (b : Bool) → is_here ≡ b → is_here ≡ is_due (iface_due iface) turn.at
        by true taken = taken ∙ sym (some_come taken)
        by false out = out ∙ sym (none_due iface turn.at (none_come out))

    named_here : is_named (map index_of ifaces) place (index_of iface) ≡ true
    named_here =
        named_at (map index_of ifaces) place (index_of iface) (subst (λ (n : ℕ). place < n) (sym (length-map ifaces index_of)) lt)
        ∙ eq-eqb (get_or (map index_of ifaces) place 0) (index_of iface) (map_at index_of ifaces place d 0 lt)

    has_here : has places place ≡ (is_here || is_called (index_of iface) turn)
    has_here =
        takes.busy (map index_of ifaces) (index_of iface) place running.named (each_of FitsIface ifaces place d lt running.fit).managed.index near
        named_here

    -- the set has the places of those that have something to do
    pub busy_here : has places place ≡ is_busy turn (get_or ifaces place d)
    busy_here = has_here ∙ ap (λ (due : Bool). due || is_called (index_of iface) turn) due_here

    untaken_here : has places place ≡ false → is_here ≡ false
    untaken_here out = (neither is_here (is_called (index_of iface) turn) (sym has_here ∙ out)).0

  pub is_idle : (place : ℕ) (d : Iface) → place < length ifaces → has places place ≡ false → IsIdle turn (get_or ifaces place d)
  is_idle place d lt out = record {
    rests = sym (busy_here place d lt (is_near place out)) ∙ out;
    due = none_come place d lt (is_near place out) (untaken_here place d lt (is_near place out) out);
  }
