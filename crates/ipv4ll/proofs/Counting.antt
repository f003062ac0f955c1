use Rattle.std.proofs.Common.{◌≡◌, ℕ, ◌+◌, ◌-◌, ◌^◌, ◌<◌, ◌≤◌, min, true, false, List, [], ◌∷◌, ◌++◌, None, nat_le, nat_lt, refl, sym, subst, arith}
use Rattle.std.proofs.lemmas.Bool.Decides.{nat_tests}
use Rattle.std.proofs.lemmas.List.Elements.{All-head, All-tail}
use Rattle.std.specs.Prelude.{All, if◌then◌else◌}
use Rattle.machine.specs.Moment.{is_due}
use Rattle.net_types.specs.declared.address.Ip4.{Ip4}
use Rattle.net_types.specs.declared.address.Mac.{Mac}
use Rattle.net_types.specs.declared.interface.IfIndex.{IfIndex}
use Rattle.arp_acd.specs.declared.detection.Acd.{Acd}
use Rattle.arp_acd.specs.declared.detection.AcdSays.{AcdSays}
use Rattle.arp_acd.specs.declared.detection.AcdSays.TheVariants.{Quiet, SayProbe, SayAnnounce, Passed, Conflict, GivenUp}
use Rattle.arp_acd.specs.declared.detection.Phase.{Phase}
use Rattle.arp_acd.specs.declared.detection.Phase.TheVariants.{Probing, Announcing, Held, Over}
use Rattle.arp_acd.specs.Table as detection
use Rattle.arp_acd.proofs.Standing.{mk}
use Rattle.net_types.proofs.CaseLaws.{split, gated}
use Rattle.ipv4ll.specs.declared.link_local.LinkLocal.{LinkLocal}
use Rattle.ipv4ll.specs.declared.link_local.LlNews.TheVariants.{Nothing}
use Rattle.ipv4ll.specs.declared.link_local.State.{State}
use Rattle.ipv4ll.specs.declared.link_local.State.TheVariants.{Off, Armed, Chosen, Waiting}
use Rattle.ipv4ll.specs.Table.{chooses, LlStep, moves, tells, choosing, after_conflict, one_more, said_row, tick_row}
use Rattle.ipv4ll.specs.History.{LlEvent, Arm, Tick, Heard, Unsent, Drop, moment, ll_step, ll_after, is_conflict, conflict_at, arms_at, conflicts_met}
use Rattle.ipv4ll.specs.Laws.{chosen_address, IsWithin, WaitsFromTenConflicts}

-- The number of conflicts that is kept is the number of conflicts met, and from ten on it makes the machine wait.

-- a number that stays where it can't grow
abbrev pub kept : ℕ → ℕ
kept n = min n (2 ^ 64 - 1)

abbrev pub Counts : ℕ → State → Type 0
Counts n Off = Unit {0}
Counts n (Armed due waits fallback) = n ≡ 0
Counts n (Chosen conflicts acd) = conflicts ≡ kept n
Counts n (Waiting conflicts due) = conflicts ≡ kept n

kept-one_more : (n c : ℕ) → c ≡ min n 18446744073709551615 → min (c + 1) 18446744073709551615 ≡ min (n + 1) 18446744073709551615
kept-one_more n c h = grind arith

after_counts : (iface : IfIndex) (conflicts at salt n : ℕ) → conflicts ≡ kept n → Counts n (after_conflict iface conflicts at salt)
after_counts iface conflicts at salt n h =
    gated (Counts n) (nat_lt conflicts 10) (choosing iface conflicts at salt) (Waiting conflicts (at + 60000)) h h

said_counts : (iface : IfIndex) (conflicts : ℕ) (acd : Acd) (at salt n : ℕ) (says : AcdSays) → conflicts ≡ kept n
    → Counts (if is_conflict says then n + 1 else n) (said_row iface conflicts acd at salt says).ll.state
said_counts iface conflicts acd at salt n Quiet h = h
said_counts iface conflicts acd at salt n SayProbe h = h
said_counts iface conflicts acd at salt n SayAnnounce h = h
said_counts iface conflicts acd at salt n Passed h = h
said_counts iface conflicts acd at salt n Conflict h =
    after_counts iface (one_more conflicts) at salt (n + 1) (kept-one_more n conflicts h)
said_counts iface conflicts acd at salt n GivenUp h =
    after_counts iface (one_more conflicts) at salt (n + 1) (kept-one_more n conflicts h)

-- a tick finds no conflict
ticks_calm : (iface : IfIndex) (addr : Ip4) (phase : Phase) (at salt : ℕ)
    → is_conflict (detection.acd_tick (mk iface addr phase) at salt).says ≡ false
ticks_calm iface addr (Probing n due) at salt =
    split (nat_le due at) (λ yes. rw yes (split (nat_lt n 3) (λ few. rw few refl) (λ all. rw all refl))) (λ no. rw no refl)
ticks_calm iface addr (Announcing due last) at salt = split (nat_le due at) (λ yes. rw yes refl) (λ no. rw no refl)
ticks_calm iface addr (Held last) at salt = refl
ticks_calm iface addr Over at salt = refl

row_counts : (iface : IfIndex) (state : State) (at salt n : ℕ) → Counts n state → Counts n (tick_row iface state at salt).ll.state
row_counts iface Off at salt n h = tt
row_counts iface (Armed due waits fallback) at salt n h =
    gated (Counts n) (chooses fallback) (choosing iface 0 at salt) Off (subst (λ k. 0 ≡ kept k) (sym h) refl) tt
row_counts iface (Chosen conflicts acd) at salt n h =
    subst (λ b. Counts (if b then n + 1 else n) (tick_row iface (Chosen conflicts acd) at salt).ll.state)
    (ticks_calm acd.iface acd.addr acd.phase at salt)
    (said_counts iface conflicts (detection.acd_tick acd at salt).acd at salt n (detection.acd_tick acd at salt).says h)
row_counts iface (Waiting conflicts due) at salt n h = h

-- the number after an event
abbrev met : List Mac → State → LlEvent → ℕ → ℕ
met own state event n = if arms_at state event then 0 else (if conflict_at own state event then n + 1 else n)

abbrev at_state : IfIndex → State → LinkLocal
at_state iface state = record { iface = iface; state = state }

step_counts : (own : List Mac) (iface : IfIndex) (state : State) (event : LlEvent) (n : ℕ) → Counts n state
    → Counts (met own state event n) (ll_step own (at_state iface state) event).ll.state
step_counts own iface Off (Arm at due waits fallback) n h = refl
step_counts own iface (Armed due' before other) (Arm at due waits fallback) n h = h
step_counts own iface (Chosen conflicts acd) (Arm at due waits fallback) n h = h
step_counts own iface (Waiting conflicts due') (Arm at due waits fallback) n h = h
step_counts own iface Off (Tick at salt) n h = tt
step_counts own iface (Armed due waits fallback) (Tick at salt) n h =
    gated (λ (s : LlStep). Counts n s.ll.state) (nat_le due at) (tick_row iface (Armed due waits fallback) at salt)
    (moves iface (Armed due waits fallback) (tells Nothing)) (row_counts iface (Armed due waits fallback) at salt n h) h
step_counts own iface (Chosen conflicts acd) (Tick at salt) n h =
    gated (λ (s : LlStep). Counts n s.ll.state) (is_due (detection.due_of acd.phase) at)
    (tick_row iface (Chosen conflicts acd) at salt) (moves iface (Chosen conflicts acd) (tells Nothing))
    (row_counts iface (Chosen conflicts acd) at salt n h) h
step_counts own iface (Waiting conflicts due) (Tick at salt) n h =
    gated (λ (s : LlStep). Counts n s.ll.state) (nat_le due at) (tick_row iface (Waiting conflicts due) at salt)
    (moves iface (Waiting conflicts due) (tells Nothing)) h h
step_counts own iface Off (Heard arp at salt) n h = tt
step_counts own iface (Armed due waits fallback) (Heard arp at salt) n h = h
step_counts own iface (Chosen conflicts acd) (Heard arp at salt) n h =
    said_counts iface conflicts (detection.acd_hears own acd arp at).acd at salt n (detection.acd_hears own acd arp at).says h
step_counts own iface (Waiting conflicts due) (Heard arp at salt) n h = h
step_counts own iface Off (Unsent at salt) n h = tt
step_counts own iface (Armed due waits fallback) (Unsent at salt) n h = h
step_counts own iface (Chosen conflicts acd) (Unsent at salt) n h = h
step_counts own iface (Waiting conflicts due) (Unsent at salt) n h = h
step_counts own iface state (Drop at) n h = tt

pub counts : (own : List Mac) (iface : IfIndex) (past : List LlEvent)
    → Counts (conflicts_met own iface past) (ll_after own iface past).state
counts own iface [] = tt
counts own iface (event ∷ past) =
    step_counts own (ll_after own iface past).iface (ll_after own iface past).state event (conflicts_met own iface past)
    (counts own iface past)

-- the machine waits until a moment
abbrev WaitsUntil : ℕ → State → Type 0
WaitsUntil end Off = ⊥
WaitsUntil end (Armed due waits fallback) = ⊥
WaitsUntil end (Chosen conflicts acd) = ⊥
WaitsUntil end (Waiting conflicts due) = due ≡ end

ten : (n c : ℕ) → c ≡ min n 18446744073709551615 → 10 ≤ n + 1 → nat_lt (min (c + 1) 18446744073709551615) 10 ≡ false
ten n c h le = grind (arith, nat_tests)

said_waits : (iface : IfIndex) (conflicts : ℕ) (acd : Acd) (at salt n : ℕ) (says : AcdSays) → conflicts ≡ kept n
    → is_conflict says ≡ true → 10 ≤ (if is_conflict says then n + 1 else n)
    → WaitsUntil (at + 60000) (said_row iface conflicts acd at salt says).ll.state
said_waits iface conflicts acd at salt n Quiet h here le = absurd (cc)
said_waits iface conflicts acd at salt n SayProbe h here le = absurd (cc)
said_waits iface conflicts acd at salt n SayAnnounce h here le = absurd (cc)
said_waits iface conflicts acd at salt n Passed h here le = absurd (cc)
said_waits iface conflicts acd at salt n Conflict h here le =
    let many : nat_lt (one_more conflicts) 10 ≡ false = ten n conflicts h le in rw many refl
said_waits iface conflicts acd at salt n GivenUp h here le =
    let many : nat_lt (one_more conflicts) 10 ≡ false = ten n conflicts h le in rw many refl

conflict_waits : (own : List Mac) (iface : IfIndex) (state : State) (event : LlEvent) (n : ℕ) → Counts n state
    → conflict_at own state event ≡ true → 10 ≤ met own state event n
    → WaitsUntil (moment event + 60000) (ll_step own (at_state iface state) event).ll.state
conflict_waits own iface (Chosen conflicts acd) (Heard arp at salt) n h here le =
    said_waits iface conflicts (detection.acd_hears own acd arp at).acd at salt n (detection.acd_hears own acd arp at).says h here le
conflict_waits own iface (Chosen conflicts acd) (Arm at due waits fallback) n h here le = absurd (cc)
conflict_waits own iface (Chosen conflicts acd) (Tick at salt) n h here le = absurd (cc)
conflict_waits own iface (Chosen conflicts acd) (Unsent at salt) n h here le = absurd (cc)
conflict_waits own iface (Chosen conflicts acd) (Drop at) n h here le = absurd (cc)
conflict_waits own iface Off event n h here le = absurd (cc)
conflict_waits own iface (Armed due waits fallback) event n h here le = absurd (cc)
conflict_waits own iface (Waiting conflicts due) event n h here le = absurd (cc)

early : (due at end : ℕ) → due ≡ end → at < end → nat_le due at ≡ false
early due at end h lt = grind (arith, nat_tests)

goes_on_waiting : (own : List Mac) (iface : IfIndex) (state : State) (event : LlEvent) (end : ℕ) → WaitsUntil end state
    → IsWithin end event → WaitsUntil end (ll_step own (at_state iface state) event).ll.state
goes_on_waiting own iface Off event end h w = absurd h
goes_on_waiting own iface (Armed due waits fallback) event end h w = absurd h
goes_on_waiting own iface (Chosen conflicts acd) event end h w = absurd h
goes_on_waiting own iface (Waiting conflicts due) (Arm at due' waits fallback) end h w = h
goes_on_waiting own iface (Waiting conflicts due) (Tick at salt) end h w =
    let no : nat_le due at ≡ false = early due at end h w in rw no h
goes_on_waiting own iface (Waiting conflicts due) (Heard arp at salt) end h w = h
goes_on_waiting own iface (Waiting conflicts due) (Unsent at salt) end h w = h
goes_on_waiting own iface (Waiting conflicts due) (Drop at) end h w = absurd w

still_waiting : (own : List Mac) (iface : IfIndex) (later earlier : List LlEvent) (end : ℕ)
    → WaitsUntil end (ll_after own iface earlier).state → All (IsWithin end) later
    → WaitsUntil end (ll_after own iface (later ++ earlier)).state
still_waiting own iface [] earlier end h w = h
still_waiting own iface (event ∷ later) earlier end h w =
    goes_on_waiting own (ll_after own iface (later ++ earlier)).iface (ll_after own iface (later ++ earlier)).state event end
    (still_waiting own iface later earlier end h (All-tail (IsWithin end) event later w))
    (All-head (IsWithin end) event later w)

none_chosen : (end : ℕ) (state : State) → WaitsUntil end state → chosen_address state ≡ None
none_chosen end Off h = refl
none_chosen end (Armed due waits fallback) h = refl
none_chosen end (Chosen conflicts acd) h = absurd h
none_chosen end (Waiting conflicts due) h = refl

pub waits_from_ten_conflicts_lem : WaitsFromTenConflicts
waits_from_ten_conflicts_lem own iface later earlier event here le within =
    none_chosen (moment event + 60000) _
    (still_waiting own iface later (event ∷ earlier) (moment event + 60000)
    (conflict_waits own (ll_after own iface earlier).iface (ll_after own iface earlier).state event
    (conflicts_met own iface earlier) (counts own iface earlier) here le)
    within)
