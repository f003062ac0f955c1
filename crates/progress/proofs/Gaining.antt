use Rattle.std.proofs.Common.{◌≡◌, ℕ, ◌+◌, ◌*◌, ◌%◌, ◌<◌, ◌≤◌, max, true, false, List, [], ◌∷◌, ◌++◌, Some, nat_eq, nat_le, nat_lt, inl, inr, refl, ap, arith, lit≤}
use Rattle.std.proofs.lemmas.Bool.Decides.{nat_tests}
use Rattle.std.specs.Prelude.{◌⊎◌}
use Rattle.machine.specs.Draw.{draw_of}
use Rattle.net_types.proofs.CaseLaws.{split, gated}
use Rattle.net_types.specs.declared.address.Ip4.{Ip4}
use Rattle.net_types.specs.declared.address.Mac.{Mac}
use Rattle.net_types.specs.declared.interface.IfIndex.{IfIndex}
use Rattle.arp_acd.specs.declared.detection.Phase.{Phase}
use Rattle.arp_acd.specs.declared.detection.Phase.TheVariants.{Probing, Announcing, Held, Over}
use Rattle.arp_acd.specs.Table as detection
use Rattle.arp_acd.proofs.Standing.{mk}
use Rattle.ipv4ll.specs.declared.link_local.Fallback.TheVariants.{Choose, GoOff}
use Rattle.ipv4ll.specs.declared.link_local.State.{State}
use Rattle.ipv4ll.specs.declared.link_local.State.TheVariants.{Off, Armed, Chosen, Waiting}
use Rattle.ipv4ll.specs.declared.link_local.Waits.{Waits}
use Rattle.ipv4ll.specs.Table.{due_of, held_in}
use Rattle.ipv4ll.specs.History.{LlEvent, Arm, Tick, Heard, Unsent, Drop, moment, ll_step, ll_after, arms_at}
use Rattle.progress.specs.GoingWell.{moment_in, NotAfter, NobodyContests, LinkTakes, CarrierStays, IsPrompt, IsFair, Prompt, Fair}
use Rattle.progress.specs.LocalHeld.{HeldInTime, HeldSince}
use Rattle.progress.proofs.Staying.{at_state, event_stays}

-- Until the address is held, the next due moment stays so far before the end as the probes that are left may take.

abbrev pub Probed : (end now n due : ℕ) → Type 0
Probed end now n due = (n ≤ 3) × (now ≤ due) × (due + 6000 ≤ end + 2000 * n)

abbrev pub PendingPhase : (end now : ℕ) → Phase → Type 0
PendingPhase end now (Probing n due) = Probed end now n due
PendingPhase end now (Announcing due last) = ⊥
PendingPhase end now (Held last) = ⊥
PendingPhase end now Over = ⊥

abbrev pub Pending : (end now : ℕ) → State → Type 0
Pending end now Off = ⊥
Pending end now (Armed due waits fallback) = (fallback ≡ Choose) × (now ≤ due) × (due + 7000 ≤ end)
Pending end now (Chosen conflicts acd) = PendingPhase end now acd.phase
Pending end now (Waiting conflicts due) = ⊥

pub record Gained (end now : ℕ) (state : State) : Type 0 where
  pub addr : Ip4
  pub held : held_in state ≡ Some addr
  pub in_time : now ≤ end

abbrev pub After : (end now : ℕ) → State → Type 0
After end now state = Pending end now state ⊎ Gained end now state

-- ---- moments

in_time : (due last at : ℕ) → at ≤ max due last → last ≤ due → at ≤ due
in_time due last at h le = grind arith

drawn : (x : ℕ) → x % 1001 ≤ 1000
drawn x = omega arith

-- the next due moment after a probe
abbrev Next : (at : ℕ) → ℕ → Type 0
Next at due = (at ≤ due) × (due ≤ at + 2000)

gap : (at x : ℕ) → x ≤ 1000 → Next at (at + 1000 + x)
gap at x le = (omega arith, omega arith)

quiet : (at : ℕ) → Next at (at + 2000)
quiet at = (omega arith, omega arith)

next : (i : IfIndex) (n at salt : ℕ) → Next at (detection.due_after i n at salt)
next i n at salt =
    gated (Next at) (nat_eq n 3) (at + 2000) (at + 1000 + draw_of salt i 1001) (quiet at)
    (gap at (draw_of salt i 1001) (drawn (salt % 4294967296 + i.number)))

fewer : (n : ℕ) → nat_lt n 3 ≡ true → n + 1 ≤ 3
fewer n h = grind (arith, nat_tests)

probe_more : (end at n due later : ℕ) → at ≤ due → due + 6000 ≤ end + 2000 * n → later ≤ at + 2000 → later + 6000 ≤ end + 2000 * (n + 1)
probe_more end at n due later le h near = omega arith

over : (end at n due : ℕ) → n ≤ 3 → at ≤ due → due + 6000 ≤ end + 2000 * n → at ≤ end
over end at n due few le h = omega arith

first : (end at due x : ℕ) → at ≤ due → due + 7000 ≤ end → x ≤ 1000 → Probed end at 0 (at + x)
first end at due x le h small = (lit≤ tt, omega arith, omega arith)

early_le : (due at : ℕ) → nat_le due at ≡ false → at ≤ due
early_le due at h = grind (arith, nat_tests)

-- ---- one event

probing_goes : (own : List Mac) (iface : IfIndex) (conflicts : ℕ) (i : IfIndex) (a : Ip4) (n due end last : ℕ) (event : LlEvent)
    → Probed end last n due → moment event ≤ due → LinkTakes event → CarrierStays event
    → NobodyContests own (Chosen conflicts (mk i a (Probing n due))) event
    → After end (moment event) (ll_step own (at_state iface (Chosen conflicts (mk i a (Probing n due)))) event).ll.state
probing_goes own iface conflicts i a n due end last (Arm at due' waits fallback) p le taken up alone = inl (p.0, le, p.2)
probing_goes own iface conflicts i a n due end last (Tick at salt) p le taken up alone =
    split (nat_le due at)
    (λ come. rw come (split (nat_lt n 3)
    (λ few. rw few (inl (
      fewer n few,
      (next i (n + 1) at salt).0,
      probe_more end at n due (detection.due_after i (n + 1) at salt) le p.2 (next i (n + 1) at salt).1,
    )))
    (λ all. rw all (inr (record { addr = a; held = refl; in_time = over end at n due p.0 le p.2 })))))
    (λ early. rw early (inl (p.0, le, p.2)))
probing_goes own iface conflicts i a n due end last (Heard arp at salt) p le taken up alone = rw alone (inl (p.0, le, p.2))
probing_goes own iface conflicts i a n due end last (Unsent at salt) p le taken up alone = absurd taken
probing_goes own iface conflicts i a n due end last (Drop at) p le taken up alone = absurd up

armed_goes : (own : List Mac) (iface : IfIndex) (due : ℕ) (waits : Waits) (end last : ℕ) (event : LlEvent)
    → due + 7000 ≤ end → moment event ≤ due → CarrierStays event
    → After end (moment event) (ll_step own (at_state iface (Armed due waits Choose)) event).ll.state
armed_goes own iface due waits end last (Arm at due' waits' fallback) h le up = inl (refl, le, h)
armed_goes own iface due waits end last (Tick at salt) h le up =
    split (nat_le due at)
    (λ come. rw come (inl (first end at due (draw_of salt iface 1001) le h (drawn (salt % 4294967296 + iface.number)))))
    (λ early. rw early (inl (refl, le, h)))
armed_goes own iface due waits end last (Heard arp at salt) h le up = inl (refl, le, h)
armed_goes own iface due waits end last (Unsent at salt) h le up = inl (refl, le, h)
armed_goes own iface due waits end last (Drop at) h le up = absurd up

phase_goes : (own : List Mac) (iface : IfIndex) (conflicts : ℕ) (i : IfIndex) (a : Ip4) (phase : Phase) (end last : ℕ) (event : LlEvent)
    → PendingPhase end last phase → NotAfter (detection.due_of phase) last (moment event) → LinkTakes event → CarrierStays event
    → NobodyContests own (Chosen conflicts (mk i a phase)) event
    → After end (moment event) (ll_step own (at_state iface (Chosen conflicts (mk i a phase))) event).ll.state
phase_goes own iface conflicts i a (Probing n due) end last event p prompt taken up alone =
    probing_goes own iface conflicts i a n due end last event p (in_time due last (moment event) prompt p.1) taken up alone
phase_goes own iface conflicts i a (Announcing due last') end last event p prompt taken up alone = absurd p
phase_goes own iface conflicts i a (Held last') end last event p prompt taken up alone = absurd p
phase_goes own iface conflicts i a Over end last event p prompt taken up alone = absurd p

pub step_goes : (own : List Mac) (iface : IfIndex) (state : State) (end last : ℕ) (event : LlEvent)
    → Pending end last state → NotAfter (due_of state) last (moment event) → LinkTakes event → CarrierStays event
    → NobodyContests own state event
    → After end (moment event) (ll_step own (at_state iface state) event).ll.state
step_goes own iface Off end last event p prompt taken up alone = absurd p
step_goes own iface (Armed due waits Choose) end last event p prompt taken up alone =
    armed_goes own iface due waits end last event p.2 (in_time due last (moment event) prompt p.1) up
step_goes own iface (Armed due waits GoOff) end last event p prompt taken up alone = absurd (cc)
step_goes own iface (Chosen conflicts acd) end last event p prompt taken up alone =
    phase_goes own iface conflicts acd.iface acd.addr acd.phase end last event p prompt taken up alone
step_goes own iface (Waiting conflicts due) end last event p prompt taken up alone = absurd p

-- ---- all events

abbrev So : List Mac → IfIndex → (end : ℕ) → List LlEvent → Type 0
So own iface end past = Pending end (moment_in past) (ll_after own iface past).state ⊎ HeldSince own iface past end

since_now : (own : List Mac) (iface : IfIndex) (end : ℕ) (past : List LlEvent)
    → After end (moment_in past) (ll_after own iface past).state → So own iface end past
since_now own iface end past (inl pending) = inl pending
since_now own iface end past (inr g) =
    inr (record { later = []; earlier = past; cut = refl; in_time = g.in_time; addr = g.addr; gained = g.held; kept = g.held })

one_more : (own : List Mac) (iface : IfIndex) (end : ℕ) (event : LlEvent) (past : List LlEvent)
    → So own iface end past → IsPrompt own iface event past → IsFair own iface event past → So own iface end (event ∷ past)
one_more own iface end event past (inl pending) prompt fair =
    since_now own iface end (event ∷ past)
    (step_goes own (ll_after own iface past).iface (ll_after own iface past).state end (moment_in past) event pending prompt.in_time
    fair.taken fair.up fair.alone)
one_more own iface end event past (inr h) prompt fair = inr (record {
  later = event ∷ h.later;
  earlier = h.earlier;
  cut = ap (λ p. event ∷ p) h.cut;
  in_time = h.in_time;
  addr = h.addr;
  gained = h.gained;
  kept = event_stays own iface event past h.addr h.kept fair;
})

goes : (own : List Mac) (iface : IfIndex) (end : ℕ) (later earlier : List LlEvent)
    → So own iface end earlier → Prompt own iface later earlier → Fair own iface later earlier → So own iface end (later ++ earlier)
goes own iface end [] earlier so prompt fair = so
goes own iface end (event ∷ later) earlier so prompt fair =
    one_more own iface end event (later ++ earlier) (goes own iface end later earlier so prompt.1 fair.1) prompt.0 fair.0

-- nothing is pending past the end

too_late : (end now due : ℕ) → end < now → now ≤ due → due ≤ end → ⊥
too_late end now due past le h = grind arith

before : (end due : ℕ) → due + 7000 ≤ end → due ≤ end
before end due h = omega arith

pub same : (n : ℕ) → n ≤ n
same n = omega arith

none_probing : (end now : ℕ) (phase : Phase) → end < now → PendingPhase end now phase → ⊥
none_probing end now (Probing n due) past p = too_late end now due past p.1 (over end due n due p.0 (same due) p.2)
none_probing end now (Announcing due last) past p = p
none_probing end now (Held last) past p = p
none_probing end now Over past p = p

pub none_left : (end now : ℕ) (state : State) → end < now → Pending end now state → ⊥
none_left end now Off past p = p
none_left end now (Armed due waits fallback) past p = too_late end now due past p.1 (before end due p.2)
none_left end now (Chosen conflicts acd) past p = none_probing end now acd.phase past p
none_left end now (Waiting conflicts due) past p = p

-- the machine is armed
armed_so : (state : State) (iface : IfIndex) (own : List Mac) (at due : ℕ) (waits : Waits) → arms_at state (Arm at due waits Choose) ≡ true
    → at ≤ due → Pending (due + 7000) at (ll_step own (at_state iface state) (Arm at due waits Choose)).ll.state
armed_so Off iface own at due waits arms le = (refl, le, same (due + 7000))
armed_so (Armed due' waits' fallback) iface own at due waits arms le = absurd (cc)
armed_so (Chosen conflicts acd) iface own at due waits arms le = absurd (cc)
armed_so (Waiting conflicts due') iface own at due waits arms le = absurd (cc)

done : (own : List Mac) (iface : IfIndex) (end : ℕ) (past : List LlEvent) → end < moment_in past → So own iface end past
    → HeldSince own iface past end
done own iface end past late (inl pending) = absurd (none_left end (moment_in past) (ll_after own iface past).state late pending)
done own iface end past late (inr h) = h

pub held_in_time : HeldInTime
held_in_time own iface later earlier at due waits arms le prompt fair late =
    done own iface (due + 7000) (later ++ Arm at due waits Choose ∷ earlier) late
    (goes own iface (due + 7000) later (Arm at due waits Choose ∷ earlier)
    (inl (armed_so (ll_after own iface earlier).state (ll_after own iface earlier).iface own at due waits arms le)) prompt fair)
