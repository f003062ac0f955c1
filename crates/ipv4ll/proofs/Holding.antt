use Rattle.std.proofs.Common.{◌≡◌, ℕ, zero, suc, ◌+◌, ◌-◌, ◌<◌, ◌≤◌, Bool, true, false, List, [], ◌∷◌, Option, Some, None, nat_le, nat_lt, inl, inr, refl, sym, ◌∙◌, ap, subst, add-one, arith, lit≤}
use Rattle.std.proofs.lemmas.Bool.Decides.{nat_tests}
use Rattle.std.specs.Prelude.{IfSome, MatchOption, if◌then◌else◌}
use Rattle.machine.specs.Since.{Since}
use Rattle.machine.proofs.Entries.{since-map}
use Rattle.net_types.specs.declared.address.Ip4.{Ip4}
use Rattle.net_types.specs.declared.address.Mac.{Mac}
use Rattle.net_types.specs.declared.interface.IfIndex.{IfIndex}
use Rattle.frame_link.specs.declared.arp.ArpView.{ArpView}
use Rattle.arp_acd.specs.declared.detection.ArpSay.TheVariants.{Probe}
use Rattle.arp_acd.specs.declared.detection.Phase.{Phase}
use Rattle.arp_acd.specs.declared.detection.Phase.TheVariants.{Probing, Announcing, Held, Over}
use Rattle.arp_acd.specs.Conflict.{is_used, is_contested}
use Rattle.arp_acd.specs.Table as detection
use Rattle.arp_acd.proofs.Standing.{mk, wait_after, waits, one_second, test-le, test-lt}
use Rattle.net_types.proofs.CaseLaws.{split, gated}
use Rattle.ipv4ll.specs.declared.link_local.LinkLocal.{LinkLocal}
use Rattle.ipv4ll.specs.declared.link_local.LlNews.TheVariants.{Nothing}
use Rattle.ipv4ll.specs.declared.link_local.LlOut.{LlOut}
use Rattle.ipv4ll.specs.declared.link_local.State.{State}
use Rattle.ipv4ll.specs.declared.link_local.State.TheVariants.{Off, Armed, Chosen, Waiting}
use Rattle.ipv4ll.specs.Choice.{IsChoice}
use Rattle.ipv4ll.specs.declared.link_local.Waits.{Waits}
use Rattle.ipv4ll.specs.declared.link_local.Fallback.{Fallback}
use Rattle.ipv4ll.specs.Table.{chooses, news_after, LlStep, moves, tells, announces, choosing, after_conflict, one_more, said_row, tick_row, held_in}
use Rattle.ipv4ll.specs.History.{LlEvent, Arm, Tick, Heard, Unsent, Drop, LlEntry, moment, ll_step, ll_after, ll_history, IsCalm, Probes}
use Rattle.ipv4ll.specs.Laws.{Gains, Stays, MayStay, last_contest, Rests, HoldsProbed}
use Rattle.ipv4ll.proofs.Chosen.{in_range, InState}

-- What each state carries of the history, and that an address is held only where it was probed.

abbrev Carries : List Mac → Ip4 → Phase → List LlEntry → Type 0
Carries own addr (Probing n due) past = (n ≤ 3) × Probes own addr n (wait_after n) due past
Carries own addr (Announcing due last) past = (last_contest own addr past ≡ last) × Since (Stays own addr) (Gains own addr) past
Carries own addr (Held last) past = (last_contest own addr past ≡ last) × Since (Stays own addr) (Gains own addr) past
Carries own addr Over past = Unit {0}

abbrev Bears : List Mac → State → List LlEntry → Type 0
Bears own Off past = Unit {0}
Bears own (Armed due waits fallback) past = Unit {0}
Bears own (Chosen conflicts acd) past = Carries own acd.addr acd.phase past
Bears own (Waiting conflicts due) past = Unit {0}

abbrev entry : LlEvent → LlOut → LlEntry
entry event out = record { event = event; out = out }

abbrev BearsAfter : List Mac → LlEvent → List LlEntry → LlStep → Type 0
BearsAfter own event past step = Bears own step.ll.state (entry event step.out ∷ past)

abbrev at_state : IfIndex → State → LinkLocal
at_state iface state = record { iface = iface; state = state }

probes-on : (own : List Mac) (addr : Ip4) (n w b : ℕ) (e : LlEntry) (past : List LlEntry)
    → IsCalm own addr e.event → Probes own addr n w b past → Probes own addr n w b (e ∷ past)
probes-on own addr zero w b e past calm h = tt
probes-on own addr (suc n) w b e past calm h = inr (calm, h)

probes-later : (own : List Mac) (addr : Ip4) (n w b later : ℕ) (past : List LlEntry)
    → b ≤ later → Probes own addr n w b past → Probes own addr n w later past
probes-later own addr zero w b later past le h = tt
probes-later own addr (suc n) w b later past le h =
    since-map _ _ _ (λ e earlier q. (q.0, q.1, bound (moment e.event) w b later q.2 le, q.3)) past h
  where
    bound : (m w b later : ℕ) → m + w ≤ b → b ≤ later → m + w ≤ later
    bound m w b later h le = omega arith

abbrev probe : Ip4 → LlOut
probe addr = record { arp = Some (Probe addr); news = Nothing }

probe_said : (own : List Mac) (iface : IfIndex) (addr : Ip4) (n due at salt : ℕ) (past : List LlEntry)
    → n < 3 → due ≤ at → Probes own addr n (wait_after n) due past
    → Probes own addr (n + 1) (wait_after (n + 1)) (detection.due_after iface (n + 1) at salt) (entry (Tick at salt) (probe addr) ∷ past)
probe_said own iface addr n due at salt past few le h =
    subst (λ k. Probes own addr k (wait_after k) (detection.due_after iface k at salt) (entry (Tick at salt) (probe addr) ∷ past))
    (sym (add-one n))
    (inl (
      tt,
      refl,
      waits iface (suc n) at salt,
      probes-later own addr n 1000 due at past le (subst (λ w. Probes own addr n w due past) (one_second n few) h),
    ))

one_more_probe : (n : ℕ) → nat_lt n 3 ≡ true → n + 1 ≤ 3
one_more_probe n h = grind (arith, nat_tests)

three : (n : ℕ) → n ≤ 3 → nat_lt n 3 ≡ false → n ≡ 3
three n le h = grind (arith, nat_tests)

chosen_anew : (own : List Mac) (iface : IfIndex) (conflicts at salt : ℕ) (past : List LlEntry)
    → Bears own (choosing iface conflicts at salt) past
chosen_anew own iface conflicts at salt past = (lit≤ tt, tt)

after_bears : (own : List Mac) (iface : IfIndex) (conflicts at salt : ℕ) (past : List LlEntry)
    → Bears own (after_conflict iface conflicts at salt) past
after_bears own iface conflicts at salt past =
    gated (λ s. Bears own s past) (nat_lt conflicts 10) (choosing iface conflicts at salt) (Waiting conflicts (at + 60000))
    (chosen_anew own iface conflicts at salt past) tt

tick_bears : (own : List Mac) (iface i : IfIndex) (conflicts : ℕ) (addr : Ip4) (phase : Phase) (at salt : ℕ) (past : List LlEntry)
    → Carries own addr phase past
    → BearsAfter own (Tick at salt) past (ll_step own (at_state iface (Chosen conflicts (mk i addr phase))) (Tick at salt))
tick_bears own iface i conflicts addr (Probing n due) at salt past c =
    split (nat_le due at)
    (λ come. rw come (split (nat_lt n 3)
    (λ few. rw few
    (one_more_probe n few, probe_said own i addr n due at salt past (test-lt n 3 few) (test-le due at come) c.1))
    (λ all. rw all (
    let e : n ≡ 3 = three n c.0 all in (
      refl,
      inl (record {
        gained = refl;
        probed = probes-later own addr 3 2000 due at past (test-le due at come)
            (subst (λ k. Probes own addr k (wait_after k) due past) e c.1);
      }),
    )))))
    (λ early. rw early (c.0, probes-on own addr n (wait_after n) due _ past tt c.1))
tick_bears own iface i conflicts addr (Announcing due last) at salt past c =
    split (nat_le due at)
    (λ come. rw come (c.0, inr (record { stays = tt; says = refl }, c.1)))
    (λ early. rw early (c.0, inr (record { stays = tt; says = tt }, c.1)))
tick_bears own iface i conflicts addr (Held last) at salt past c = (c.0, inr (record { stays = tt; says = tt }, c.1))
tick_bears own iface i conflicts addr Over at salt past c = tt

-- a packet that uses the held address
used_bears : (own : List Mac) (iface i : IfIndex) (conflicts : ℕ) (addr : Ip4) (phase : Phase) (arp : ArpView) (at salt : ℕ)
    (last : Option ℕ) (past : List LlEntry) (defended : Phase)
    → ((past' : List LlEntry) → last_contest own addr past' ≡ Some at → Since (Stays own addr) (Gains own addr) past'
    → Carries own addr defended past')
    → is_used own addr arp ≡ true → last_contest own addr past ≡ last → Since (Stays own addr) (Gains own addr) past
    → BearsAfter own (Heard arp at salt) past
    (said_row iface conflicts (detection.contested_row (mk i addr phase) last at defended).acd at salt
    (detection.contested_row (mk i addr phase) last at defended).says)
used_bears own iface i conflicts addr phase arp at salt None past defended f used c h =
    f (entry (Heard arp at salt) (announces addr Nothing) ∷ past)
    (ap (λ b. if b then Some at else last_contest own addr past) used)
    (inr (
      record {
        stays = λ _. subst (λ o. MatchOption o (Unit {0}) (λ before. before + 10000 ≤ at)) (sym c) tt;
        says = refl;
      },
      h,
    ))
used_bears own iface i conflicts addr phase arp at salt (Some last) past defended f used c h =
    split (nat_le 10000 (at - last))
    (λ late. rw late (f (entry (Heard arp at salt) (announces addr Nothing) ∷ past)
    (ap (λ b. if b then Some at else last_contest own addr past) used)
    (inr (
      record {
        stays = λ _. subst (λ o. MatchOption o (Unit {0}) (λ before. before + 10000 ≤ at)) (sym c) (apart last at late);
        says = refl;
      },
      h,
    ))))
    (λ soon. rw soon (after_bears own iface (one_more conflicts) at salt _))
  where
    apart : (last at : ℕ) → nat_le 10000 (at - last) ≡ true → last + 10000 ≤ at
    apart last at h = grind (arith, nat_tests)

-- a packet that doesn't use the held address
unused : (own : List Mac) (addr : Ip4) (arp : ArpView) (at salt : ℕ) (past : List LlEntry)
    → is_used own addr arp ≡ false
    → MayStay own addr (Heard arp at salt) (last_contest own addr past)
unused own addr arp at salt past none used = absurd (apart (is_used own addr arp) none used)
  where
    apart : (b : Bool) → b ≡ false → b ≡ true → ⊥
    apart b p q = cc

heard_bears : (own : List Mac) (iface i : IfIndex) (conflicts : ℕ) (addr : Ip4) (phase : Phase) (arp : ArpView) (at salt : ℕ)
    (past : List LlEntry) → Carries own addr phase past
    → BearsAfter own (Heard arp at salt) past
    (ll_step own (at_state iface (Chosen conflicts (mk i addr phase))) (Heard arp at salt))
heard_bears own iface i conflicts addr (Probing n due) arp at salt past c =
    split (is_contested own addr arp)
    (λ taken. rw taken (after_bears own iface (one_more conflicts) at salt _))
    (λ calm. rw calm (c.0, probes-on own addr n (wait_after n) due _ past calm c.1))
heard_bears own iface i conflicts addr (Announcing due last) arp at salt past c =
    split (is_used own addr arp)
    (λ used. rw used (used_bears own iface i conflicts addr (Announcing due last) arp at salt last past
    (Announcing due (Some at)) (λ past' e s. (e, s)) used c.0 c.1))
    (λ none. rw none (
      ap (λ b. if b then Some at else last_contest own addr past) none ∙ c.0,
      inr (record { stays = unused own addr arp at salt past none; says = tt }, c.1),
    ))
heard_bears own iface i conflicts addr (Held last) arp at salt past c =
    split (is_used own addr arp)
    (λ used. rw used (used_bears own iface i conflicts addr (Held last) arp at salt last past
    (Held (Some at)) (λ past' e s. (e, s)) used c.0 c.1))
    (λ none. rw none (
      ap (λ b. if b then Some at else last_contest own addr past) none ∙ c.0,
      inr (record { stays = unused own addr arp at salt past none; says = tt }, c.1),
    ))
heard_bears own iface i conflicts addr Over arp at salt past c = tt

unsent_bears : (own : List Mac) (iface i : IfIndex) (conflicts : ℕ) (addr : Ip4) (phase : Phase) (at salt : ℕ) (past : List LlEntry)
    → Carries own addr phase past
    → BearsAfter own (Unsent at salt) past (ll_step own (at_state iface (Chosen conflicts (mk i addr phase))) (Unsent at salt))
unsent_bears own iface i conflicts addr (Probing n due) at salt past c =
    split (nat_lt 0 n) (λ some. rw some (lit≤ tt, tt)) (λ none. rw none (unsent_none n none))
  where
    unsent_none : (k : ℕ) → nat_lt 0 k ≡ false → Carries own addr (Probing k due) (entry (Unsent at salt) (tells Nothing) ∷ past)
    unsent_none zero h = (lit≤ tt, tt)
    unsent_none (suc k) h = grind (arith, nat_tests)
unsent_bears own iface i conflicts addr (Announcing due last) at salt past c = (c.0, inr (record { stays = tt; says = tt }, c.1))
unsent_bears own iface i conflicts addr (Held last) at salt past c = (c.0, inr (record { stays = tt; says = tt }, c.1))
unsent_bears own iface i conflicts addr Over at salt past c = tt

arm_bears : (own : List Mac) (iface i : IfIndex) (conflicts : ℕ) (addr : Ip4) (phase : Phase) (at due : ℕ)
    (waits : Waits) (fallback : Fallback) (past : List LlEntry) → Carries own addr phase past
    → Carries own addr phase (entry (Arm at due waits fallback) (tells Nothing) ∷ past)
arm_bears own iface i conflicts addr (Probing n due') at due waits fallback past c =
    (c.0, probes-on own addr n (wait_after n) due' _ past tt c.1)
arm_bears own iface i conflicts addr (Announcing due' last) at due waits fallback past c =
    (c.0, inr (record { stays = tt; says = tt }, c.1))
arm_bears own iface i conflicts addr (Held last) at due waits fallback past c =
    (c.0, inr (record { stays = tt; says = tt }, c.1))
arm_bears own iface i conflicts addr Over at due waits fallback past c = tt

step_bears : (own : List Mac) (iface : IfIndex) (state : State) (event : LlEvent) (past : List LlEntry) → Bears own state past
    → BearsAfter own event past (ll_step own (at_state iface state) event)
step_bears own iface Off (Arm at due waits fallback) past h = tt
step_bears own iface (Armed due' before other) (Arm at due waits fallback) past h = tt
step_bears own iface (Chosen conflicts acd) (Arm at due waits fallback) past h =
    arm_bears own iface acd.iface conflicts acd.addr acd.phase at due waits fallback past h
step_bears own iface (Waiting conflicts due') (Arm at due waits fallback) past h = tt
step_bears own iface Off (Tick at salt) past h = tt
step_bears own iface (Armed due waits fallback) (Tick at salt) past h =
    gated (BearsAfter own (Tick at salt) past) (nat_le due at) (tick_row iface (Armed due waits fallback) at salt)
    (moves iface (Armed due waits fallback) (tells Nothing))
    (gated (λ s. Bears own s (entry (Tick at salt) (tells (news_after waits)) ∷ past)) (chooses fallback)
    (choosing iface 0 at salt) Off (chosen_anew own iface 0 at salt past) tt)
    tt
step_bears own iface (Chosen conflicts acd) (Tick at salt) past h =
    tick_bears own iface acd.iface conflicts acd.addr acd.phase at salt past h
step_bears own iface (Waiting conflicts due) (Tick at salt) past h =
    gated (BearsAfter own (Tick at salt) past) (nat_le due at) (tick_row iface (Waiting conflicts due) at salt)
    (moves iface (Waiting conflicts due) (tells Nothing)) (chosen_anew own iface conflicts at salt past) tt
step_bears own iface Off (Heard arp at salt) past h = tt
step_bears own iface (Armed due waits fallback) (Heard arp at salt) past h = tt
step_bears own iface (Chosen conflicts acd) (Heard arp at salt) past h =
    heard_bears own iface acd.iface conflicts acd.addr acd.phase arp at salt past h
step_bears own iface (Waiting conflicts due) (Heard arp at salt) past h = tt
step_bears own iface Off (Unsent at salt) past h = tt
step_bears own iface (Armed due waits fallback) (Unsent at salt) past h = tt
step_bears own iface (Chosen conflicts acd) (Unsent at salt) past h =
    unsent_bears own iface acd.iface conflicts acd.addr acd.phase at salt past h
step_bears own iface (Waiting conflicts due) (Unsent at salt) past h = tt
step_bears own iface state (Drop at) past h = tt

bears : (own : List Mac) (iface : IfIndex) (past : List LlEvent)
    → Bears own (ll_after own iface past).state (ll_history own iface past)
bears own iface [] = tt
bears own iface (event ∷ past) =
    step_bears own (ll_after own iface past).iface (ll_after own iface past).state event (ll_history own iface past)
    (bears own iface past)

abbrev Holding : List Mac → State → List LlEntry → Type 0
Holding own state past = IfSome (held_in state) (λ addr. Rests own addr past)

holding_phase : (own : List Mac) (addr : Ip4) (phase : Phase) (past : List LlEntry) → IsChoice addr → Carries own addr phase past
    → IfSome (detection.held_in addr phase) (λ a. Rests own a past)
holding_phase own addr (Probing n due) past r c = tt
holding_phase own addr (Announcing due last) past r c = record { in_range = r; since = c.1 }
holding_phase own addr (Held last) past r c = record { in_range = r; since = c.1 }
holding_phase own addr Over past r c = tt

holding : (own : List Mac) (state : State) (past : List LlEntry) → InState state → Bears own state past → Holding own state past
holding own Off past r h = tt
holding own (Armed due waits fallback) past r h = tt
holding own (Chosen conflicts acd) past r h = holding_phase own acd.addr acd.phase past r h
holding own (Waiting conflicts due) past r h = tt

pub holds_probed_lem : HoldsProbed
holds_probed_lem own iface past =
    holding own (ll_after own iface past).state (ll_history own iface past) (in_range own iface past) (bears own iface past)
