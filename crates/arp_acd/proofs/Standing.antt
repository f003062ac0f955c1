use Rattle.std.proofs.Common.{◌≡◌, ℕ, zero, suc, ◌+◌, ◌-◌, ◌<◌, ◌≤◌, true, false, List, ◌∷◌, Option, Some, None, nat_eq, nat_le, nat_lt, inl, inr, refl, sym, ap, subst, add-one, arith, lit≤}
use Rattle.std.proofs.lemmas.Bool.Decides.{nat_tests}
use Rattle.std.specs.Prelude.{if◌then◌else◌}
use Rattle.machine.proofs.Entries.{since-map}
use Rattle.net_types.specs.declared.address.Ip4.{Ip4}
use Rattle.net_types.specs.declared.address.Mac.{Mac}
use Rattle.net_types.specs.declared.interface.IfIndex.{IfIndex}
use Rattle.frame_link.specs.declared.arp.ArpView.{ArpView}
use Rattle.arp_acd.specs.declared.detection.Acd.{Acd}
use Rattle.arp_acd.specs.declared.detection.AcdSays.{AcdSays}
use Rattle.arp_acd.specs.declared.detection.AcdSays.TheVariants.{Quiet, SayProbe, SayAnnounce}
use Rattle.arp_acd.specs.declared.detection.Phase.{Phase}
use Rattle.arp_acd.specs.declared.detection.Phase.TheVariants.{Probing, Announcing, Held, Over}
use Rattle.arp_acd.specs.Conflict.{is_used, is_contested}
use Rattle.arp_acd.specs.Table.{AcdStep, acd_tick, acd_hears, acd_restarts, due_after, contested_row}
use Rattle.arp_acd.specs.History.{AcdEvent, Tick, Heard, Unsent, AcdEntry, moment, IsCalm, Probes, probes_sent, last_defence}
use Rattle.net_types.proofs.CaseLaws.{split}

-- What each phase carries of the history.

-- the quiet after the probe that makes them n
abbrev pub wait_after : ℕ → ℕ
wait_after n = if nat_eq n 3 then 2000 else 1000

abbrev pub Carries : List Mac → Ip4 → Phase → List AcdEntry → Type 0
Carries own addr (Probing n due) past =
    (n ≤ 3) × (probes_sent past ≡ n) × (last_defence past ≡ None) × Probes own addr n (wait_after n) due past
Carries own addr (Announcing due last) past = last_defence past ≡ last
Carries own addr (Held last) past = last_defence past ≡ last
Carries own addr Over past = Unit {0}

pub record Stands (own : List Mac) (iface : IfIndex) (addr : Ip4) (acd : Acd) (past : List AcdEntry) : Type 0 where
  pub same_iface : acd.iface ≡ iface
  pub same_addr : acd.addr ≡ addr
  pub on : Carries own addr acd.phase past

abbrev pub entry : AcdEvent → AcdSays → AcdEntry
entry event says = record { event = event; says = says }

abbrev pub StandsAfter : List Mac → IfIndex → Ip4 → AcdEvent → List AcdEntry → AcdStep → Type 0
StandsAfter own iface addr event past step = Stands own iface addr step.acd (entry event step.says ∷ past)

abbrev pub mk : IfIndex → Ip4 → Phase → Acd
mk iface addr phase = record { iface = iface; addr = addr; phase = phase }

-- probes stay said, as long as what comes is calm
pub probes-on : (own : List Mac) (addr : Ip4) (n w b : ℕ) (e : AcdEntry) (past : List AcdEntry)
    → IsCalm own addr e.event → Probes own addr n w b past → Probes own addr n w b (e ∷ past)
probes-on own addr zero w b e past calm h = tt
probes-on own addr (suc n) w b e past calm h = inr (calm, h)

pub probes-later : (own : List Mac) (addr : Ip4) (n w b later : ℕ) (past : List AcdEntry)
    → b ≤ later → Probes own addr n w b past → Probes own addr n w later past
probes-later own addr zero w b later past le h = tt
probes-later own addr (suc n) w b later past le h =
    since-map _ _ _ (λ e earlier q. (q.0, q.1, bound (moment e.event) w b later q.2 le, q.3)) past h
  where
    bound : (m w b later : ℕ) → m + w ≤ b → b ≤ later → m + w ≤ later
    bound m w b later h le = omega arith

pub waits : (iface : IfIndex) (n at salt : ℕ) → at + wait_after n ≤ due_after iface n at salt
waits iface n at salt = split (nat_eq n 3) (λ y. rw y (omega arith)) (λ n. rw n (omega arith))

pub one_second : (n : ℕ) → n < 3 → wait_after n ≡ 1000
one_second n lt = let h : nat_eq n 3 ≡ false = grind (arith, nat_tests) in rw h refl

pub probe_said : (own : List Mac) (iface : IfIndex) (addr : Ip4) (n due at salt : ℕ) (past : List AcdEntry)
    → n < 3 → due ≤ at → Probes own addr n (wait_after n) due past
    → Probes own addr (n + 1) (wait_after (n + 1)) (due_after iface (n + 1) at salt) (entry (Tick at salt) SayProbe ∷ past)
probe_said own iface addr n due at salt past few le h =
    subst (λ k. Probes own addr k (wait_after k) (due_after iface k at salt) (entry (Tick at salt) SayProbe ∷ past))
    (sym (add-one n))
    (inl (
      tt,
      refl,
      waits iface (suc n) at salt,
      probes-later own addr n 1000 due at past le (subst (λ w. Probes own addr n w due past) (one_second n few) h),
    ))

pub test-le : (m n : ℕ) → nat_le m n ≡ true → m ≤ n
test-le m n h = grind (arith, nat_tests)

pub test-lt : (m n : ℕ) → nat_lt m n ≡ true → m < n
test-lt m n h = grind (arith, nat_tests)

pub tick_keeps : (own : List Mac) (iface : IfIndex) (addr : Ip4) (phase : Phase) (at salt : ℕ) (past : List AcdEntry)
    → Carries own addr phase past
    → StandsAfter own iface addr (Tick at salt) past (acd_tick (mk iface addr phase) at salt)
tick_keeps own iface addr (Probing n due) at salt past c =
    split (nat_le due at)
    (λ yes. rw yes (split (nat_lt n 3)
    (λ few. rw few (record {
      same_iface = refl;
      same_addr = refl;
      on = (
        grind (arith, nat_tests),
        ap (λ k. k + 1) c.1,
        c.2,
        probe_said own iface addr n due at salt past (test-lt n 3 few) (test-le due at yes) c.3,
      );
    }))
    (λ all. rw all (record { same_iface = refl; same_addr = refl; on = c.2 }))))
    (λ no. rw no (record {
      same_iface = refl;
      same_addr = refl;
      on = (c.0, c.1, c.2, probes-on own addr n (wait_after n) due _ past tt c.3);
    }))
tick_keeps own iface addr (Announcing due last) at salt past c =
    split (nat_le due at)
    (λ yes. rw yes (record { same_iface = refl; same_addr = refl; on = c }))
    (λ no. rw no (record { same_iface = refl; same_addr = refl; on = c }))
tick_keeps own iface addr (Held last) at salt past c = record { same_iface = refl; same_addr = refl; on = c }
tick_keeps own iface addr Over at salt past c = record { same_iface = refl; same_addr = refl; on = tt }

-- a conflict over an address in use
pub contested_keeps : (own : List Mac) (iface : IfIndex) (addr : Ip4) (phase defended : Phase) (arp : ArpView) (at : ℕ)
    (last : Option ℕ) (past : List AcdEntry)
    → Carries own addr defended (entry (Heard arp at) SayAnnounce ∷ past)
    → StandsAfter own iface addr (Heard arp at) past (contested_row (mk iface addr phase) last at defended)
contested_keeps own iface addr phase defended arp at None past h = record { same_iface = refl; same_addr = refl; on = h }
contested_keeps own iface addr phase defended arp at (Some last) past h =
    split (nat_le 10000 (at - last))
    (λ late. rw late (record { same_iface = refl; same_addr = refl; on = h }))
    (λ soon. rw soon (record { same_iface = refl; same_addr = refl; on = tt }))

pub heard_keeps : (own : List Mac) (iface : IfIndex) (addr : Ip4) (phase : Phase) (arp : ArpView) (at : ℕ) (past : List AcdEntry)
    → Carries own addr phase past
    → StandsAfter own iface addr (Heard arp at) past (acd_hears own (mk iface addr phase) arp at)
heard_keeps own iface addr (Probing n due) arp at past c =
    split (is_contested own addr arp)
    (λ yes. rw yes (record { same_iface = refl; same_addr = refl; on = tt }))
    (λ no. rw no (record {
      same_iface = refl;
      same_addr = refl;
      on = (c.0, c.1, c.2, probes-on own addr n (wait_after n) due _ past no c.3);
    }))
heard_keeps own iface addr (Announcing due last) arp at past c =
    split (is_used own addr arp)
    (λ yes. rw yes (contested_keeps own iface addr (Announcing due last) (Announcing due (Some at)) arp at last past refl))
    (λ no. rw no (record { same_iface = refl; same_addr = refl; on = c }))
heard_keeps own iface addr (Held last) arp at past c =
    split (is_used own addr arp)
    (λ yes. rw yes (contested_keeps own iface addr (Held last) (Held (Some at)) arp at last past refl))
    (λ no. rw no (record { same_iface = refl; same_addr = refl; on = c }))
heard_keeps own iface addr Over arp at past c = record { same_iface = refl; same_addr = refl; on = tt }

pub unsent_keeps : (own : List Mac) (iface : IfIndex) (addr : Ip4) (phase : Phase) (at salt : ℕ) (past : List AcdEntry)
    → Carries own addr phase past
    → Stands own iface addr (acd_restarts (mk iface addr phase) at salt) (entry (Unsent at salt) Quiet ∷ past)
unsent_keeps own iface addr (Probing n due) at salt past c =
    split (nat_lt 0 n)
    (λ some. rw some (record { same_iface = refl; same_addr = refl; on = (lit≤ tt, refl, c.2, tt) }))
    (λ none. rw none (record { same_iface = refl; same_addr = refl; on = unsent_none n none }))
  where
    unsent_none : (k : ℕ) → nat_lt 0 k ≡ false → Carries own addr (Probing k due) (entry (Unsent at salt) Quiet ∷ past)
    unsent_none zero h = (lit≤ tt, refl, c.2, tt)
    unsent_none (suc k) h = grind (arith, nat_tests)
unsent_keeps own iface addr (Announcing due last) at salt past c = record { same_iface = refl; same_addr = refl; on = c }
unsent_keeps own iface addr (Held last) at salt past c = record { same_iface = refl; same_addr = refl; on = c }
unsent_keeps own iface addr Over at salt past c = record { same_iface = refl; same_addr = refl; on = tt }
