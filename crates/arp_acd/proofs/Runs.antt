use Rattle.std.proofs.Common.{◌≡◌, ℕ, ◌+◌, ◌-◌, ◌<◌, ◌≤◌, true, false, List, [], ◌∷◌, Option, Some, None, nat_le, nat_lt, refl, sym, ◌∙◌, subst, arith, lit≤}
use Rattle.std.proofs.lemmas.Bool.Decides.{nat_tests}
use Rattle.std.specs.Prelude.{MatchOption}
use Rattle.net_types.specs.declared.address.Ip4.{Ip4}
use Rattle.net_types.specs.declared.address.Mac.{Mac}
use Rattle.net_types.specs.declared.interface.IfIndex.{IfIndex}
use Rattle.frame_link.specs.declared.arp.ArpView.{ArpView}
use Rattle.arp_acd.specs.declared.detection.Acd.{Acd}
use Rattle.arp_acd.specs.declared.detection.AcdSays.TheVariants.{SayAnnounce, Passed}
use Rattle.arp_acd.specs.declared.detection.Phase.{Phase}
use Rattle.arp_acd.specs.declared.detection.Phase.TheVariants.{Probing, Announcing, Held, Over}
use Rattle.arp_acd.specs.Conflict.{is_used, is_contested}
use Rattle.arp_acd.specs.Table.{acd_begun, acd_hears, contested_row}
use Rattle.arp_acd.specs.History.{AcdEvent, Tick, Heard, Unsent, AcdEntry, moment, acd_step, acd_after, acd_history, Probes, probes_sent, last_defence}
use Rattle.arp_acd.specs.Laws.{PassesAfterProbes, IsInUse, AnswersConflict, GivesUpContestedTwice}
use Rattle.arp_acd.proofs.Standing.{test-le, wait_after, Carries, Stands, StandsAfter, mk, probes-later, tick_keeps, heard_keeps, unsent_keeps}
use Rattle.net_types.proofs.CaseLaws.{split}

-- What each phase carries holds after every list of events; the laws follow.

moved : (own : List Mac) (iface iface' : IfIndex) (addr addr' : Ip4) (acd : Acd) (past : List AcdEntry)
    → iface' ≡ iface → addr' ≡ addr → Stands own iface' addr' acd past → Stands own iface addr acd past
moved own iface iface' addr addr' acd past p q h = record {
  same_iface = h.same_iface ∙ p;
  same_addr = h.same_addr ∙ q;
  on = subst (λ a. Carries own a acd.phase past) q h.on;
}

here : (own : List Mac) (iface : IfIndex) (addr : Ip4) (acd : Acd) (past : List AcdEntry)
    → Stands own iface addr acd past → Carries own acd.addr acd.phase past
here own iface addr acd past s = subst (λ a. Carries own a acd.phase past) (sym s.same_addr) s.on

step_keeps : (own : List Mac) (iface : IfIndex) (addr : Ip4) (acd : Acd) (event : AcdEvent) (past : List AcdEntry)
    → Stands own iface addr acd past → StandsAfter own iface addr event past (acd_step own acd event)
step_keeps own iface addr acd (Tick at salt) past s =
    moved own iface acd.iface addr acd.addr _ _ s.same_iface s.same_addr
    (tick_keeps own acd.iface acd.addr acd.phase at salt past (here own iface addr acd past s))
step_keeps own iface addr acd (Heard arp at) past s =
    moved own iface acd.iface addr acd.addr _ _ s.same_iface s.same_addr
    (heard_keeps own acd.iface acd.addr acd.phase arp at past (here own iface addr acd past s))
step_keeps own iface addr acd (Unsent at salt) past s =
    moved own iface acd.iface addr acd.addr _ _ s.same_iface s.same_addr
    (unsent_keeps own acd.iface acd.addr acd.phase at salt past (here own iface addr acd past s))

pub stands : (own : List Mac) (iface : IfIndex) (addr : Ip4) (at salt : ℕ) (past : List AcdEvent)
    → Stands own iface addr (acd_after own (acd_begun iface addr at salt) past) (acd_history own (acd_begun iface addr at salt) past)
stands own iface addr at salt [] = record { same_iface = refl; same_addr = refl; on = (lit≤ tt, refl, refl, tt) }
stands own iface addr at salt (event ∷ past) =
    step_keeps own iface addr (acd_after own (acd_begun iface addr at salt) past) event
    (acd_history own (acd_begun iface addr at salt) past) (stands own iface addr at salt past)

three : (n : ℕ) → n ≤ 3 → nat_lt n 3 ≡ false → n ≡ 3
three n le h = grind (arith, nat_tests)

abbrev Passing : List Mac → Ip4 → AcdEvent → List AcdEntry → Type 0
Passing own addr event past = Probes own addr 3 2000 (moment event) past × (probes_sent past ≡ 3)

no_pass : (acd : Acd) (last : Option ℕ) (at : ℕ) (defended : Phase) → (contested_row acd last at defended).says ≡ Passed → ⊥
no_pass acd None at defended = λ h. (cc)
no_pass acd (Some last) at defended =
    split (nat_le 10000 (at - last)) (λ y. rw y (λ h. (cc))) (λ n. rw n (λ h. (cc)))

-- only the tick of a probing with three probes passes the address
passing : (own : List Mac) (iface : IfIndex) (addr : Ip4) (phase : Phase) (event : AcdEvent) (past : List AcdEntry)
    → Carries own addr phase past → (acd_step own (mk iface addr phase) event).says ≡ Passed → Passing own addr event past
passing own iface addr (Probing n due) (Tick at salt) past c =
    split (nat_le due at)
    (λ yes. rw yes (split (nat_lt n 3)
    (λ few. rw few (λ h. absurd (cc)))
    (λ all. rw all (λ h.
    let e : n ≡ 3 = three n c.0 all in (
      probes-later own addr 3 2000 due at past (test-le due at yes)
          (subst (λ k. Probes own addr k (wait_after k) due past) e c.3),
      c.1 ∙ e,
    )))))
    (λ no. rw no (λ h. absurd (cc)))
passing own iface addr (Announcing due last) (Tick at salt) past c =
    split (nat_le due at) (λ yes. rw yes (λ h. absurd (cc))) (λ no. rw no (λ h. absurd (cc)))
passing own iface addr (Held last) (Tick at salt) past c = λ h. absurd (cc)
passing own iface addr Over (Tick at salt) past c = λ h. absurd (cc)
passing own iface addr (Probing n due) (Heard arp at) past c =
    split (is_contested own addr arp) (λ yes. rw yes (λ h. absurd (cc))) (λ no. rw no (λ h. absurd (cc)))
passing own iface addr (Announcing due last) (Heard arp at) past c =
    split (is_used own addr arp)
    (λ yes. rw yes (λ h. absurd (no_pass (mk iface addr (Announcing due last)) last at (Announcing due (Some at)) h)))
    (λ no. rw no (λ h. absurd (cc)))
passing own iface addr (Held last) (Heard arp at) past c =
    split (is_used own addr arp)
    (λ yes. rw yes (λ h. absurd (no_pass (mk iface addr (Held last)) last at (Held (Some at)) h)))
    (λ no. rw no (λ h. absurd (cc)))
passing own iface addr Over (Heard arp at) past c = λ h. absurd (cc)
passing own iface addr phase (Unsent at salt) past c = λ h. absurd (cc)

pub passes_after_probes_lem : PassesAfterProbes
passes_after_probes_lem own iface addr at salt past event h =
    let start : Acd = acd_begun iface addr at salt in
    let acd : Acd = acd_after own start past in
    let hist : List AcdEntry = acd_history own start past in
    let s : Stands own iface addr acd hist = stands own iface addr at salt past in
    let p : Passing own acd.addr event hist =
    passing own acd.iface acd.addr acd.phase event hist (here own iface addr acd hist s) h in
    record {
      probed = subst (λ a. Probes own a 3 2000 (moment event) hist) s.same_addr p.0;
      counted = p.1;
    }

-- the answer to a conflict over an address in use
answers : (acd : Acd) (last : Option ℕ) (at : ℕ) (defended : Phase)
    → MatchOption last ((contested_row acd last at defended).says ≡ SayAnnounce)
    (λ before. AnswersConflict before at (contested_row acd last at defended))
answers acd None at defended = refl
answers acd (Some before) at defended = record {
  soon = λ lt. let n : nat_le 10000 (at - before) ≡ false = near before at lt in rw n (record { told = refl; over = refl });
  late = λ le. let y : nat_le 10000 (at - before) ≡ true = far before at le in rw y refl;
}
  where
    near : (before at : ℕ) → at < before + 10000 → nat_le 10000 (at - before) ≡ false
    near before at lt = grind (arith, nat_tests)

    far : (before at : ℕ) → before + 10000 ≤ at → nat_le 10000 (at - before) ≡ true
    far before at le = grind (arith, nat_tests)

abbrev Answering : List Mac → Acd → List AcdEntry → ArpView → ℕ → Type 0
Answering own acd past arp at =
    MatchOption (last_defence past) ((acd_hears own acd arp at).says ≡ SayAnnounce)
    (λ before. AnswersConflict before at (acd_hears own acd arp at))

answering : (own : List Mac) (iface : IfIndex) (addr : Ip4) (phase : Phase) (arp : ArpView) (at : ℕ) (past : List AcdEntry)
    → Carries own addr phase past → IsInUse phase → is_used own addr arp ≡ true
    → Answering own (mk iface addr phase) past arp at
answering own iface addr (Probing n due) arp at past c used h = absurd used
answering own iface addr (Announcing due last) arp at past c used h =
    rw (c, h) (answers (mk iface addr (Announcing due last)) last at (Announcing due (Some at)))
answering own iface addr (Held last) arp at past c used h =
    rw (c, h) (answers (mk iface addr (Held last)) last at (Held (Some at)))
answering own iface addr Over arp at past c used h = absurd used

pub gives_up_contested_twice_lem : GivesUpContestedTwice
gives_up_contested_twice_lem own iface addr at salt past arp now used h =
    let start : Acd = acd_begun iface addr at salt in
    let acd : Acd = acd_after own start past in
    let hist : List AcdEntry = acd_history own start past in
    let s : Stands own iface addr acd hist = stands own iface addr at salt past in
    answering own acd.iface acd.addr acd.phase arp now hist (here own iface addr acd hist s) used
    (subst (λ a. is_used own a arp ≡ true) (sym s.same_addr) h)
