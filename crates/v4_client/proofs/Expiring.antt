-- A lease that is held when its expiry has come ends at the next tick.
use Rattle.std.proofs.Common.{◌≡◌, ℕ, ◌+◌, ◌*◌, ◌≤◌, Bool, true, false, Option, Some, None, IfSome, refl, sym, ◌∙◌, ap, subst, eqb, arith, if◌then◌else◌}
use Rattle.std.proofs.lemmas.Bool.Decides.{nat_tests}
use Rattle.machine.specs.Moment.{is_due, moment_of}
use Rattle.arp_acd.specs.declared.detection.Acd.{Acd}
use Rattle.arp_acd.specs.Table as detection
use Rattle.lease_text.specs.declared.lease.TheConstants.{INFINITE_LEASE}
use Rattle.lease_text.specs.declared.lease.Terms4.{Terms4}
use Rattle.lease_text.specs.Bounds.{FitsTerms}
use Rattle.v4_client.specs.declared.moments.TheConstants.{SECOND}
use Rattle.v4_client.specs.declared.states.News4.TheVariants as news
use Rattle.v4_client.specs.declared.states.State4.{State4}
use Rattle.v4_client.specs.declared.states.State4.TheVariants.{Off, Init, Selecting, Requesting, Rebooting, Checking, Waiting, Bound, Renewing, Rebinding}
use Rattle.v4_client.specs.declared.states.Step4.{Step4}
use Rattle.v4_client.specs.declared.states.Turn4.{Turn4}
use Rattle.v4_client.specs.Clients.{held_terms, turn_of}
use Rattle.v4_client.specs.History.{tick_step}
use Rattle.v4_client.specs.Laws.{EndsAtExpiry}
use Rattle.v4_client.specs.Moments.{earlier, expiry, rebinding_at, renewal_at}
use Rattle.v4_client.specs.Sound.{FitsState}
use Rattle.v4_client.specs.Steps.{rests}
use Rattle.v4_client.specs.Ticks.{tick_row}
use Rattle.v4_client.specs.Due.{acd_due, due_of}

-- a moment that isn't after the expiry, and that of conflict detection, where there is one
due_with : (due at : ℕ) (detects : Option ℕ) → due ≤ at → is_due (earlier (Some due) detects) at ≡ true
due_with due at None before = grind (arith, nat_tests)
due_with due at (Some other) before = grind (arith, nat_tests)

due_by : (due at : ℕ) (end detects : Option ℕ) → IfSome end (λ last. due ≤ last) → is_due end at ≡ true
    → is_due (earlier (Some due) detects) at ≡ true
due_by due at None detects wakes come = absurd cc
due_by due at (Some end) detects wakes come =
    let before : end ≤ at = grind (arith, nat_tests) in due_with due at detects (omega arith)

-- T1 isn't after the expiry
renewed_by : (endless : Bool) (renews ends at : ℕ) (detects : Option ℕ) → renews ≤ ends
    → is_due (if endless then None else Some ends) at ≡ true
    → is_due (earlier (if endless then None else Some renews) detects) at ≡ true
renewed_by true renews ends at detects before come = absurd cc
renewed_by false renews ends at detects before come =
    let passed : ends ≤ at = grind (arith, nat_tests) in due_with renews at detects (omega arith)

bound_due : (terms : Terms4) (at : ℕ) (acd : Option Acd) → FitsTerms terms → is_due (expiry terms) at ≡ true
    → is_due (earlier (renewal_at terms) (acd_due acd)) at ≡ true
bound_due terms at acd fits come =
    let renews : terms.t1 ≤ terms.t2 = fits.renews in
    let rebinds : terms.t2 ≤ terms.lease = fits.rebinds in
    let before : terms.first + SECOND * terms.t1 ≤ terms.first + SECOND * terms.lease = omega arith in
    renewed_by (eqb terms.lease INFINITE_LEASE) (terms.first + SECOND * terms.t1) (terms.first + SECOND * terms.lease) at
    (acd_due acd) before come

-- T2 isn't after the expiry
rebound_by : (endless : Bool) (rebinds ends due : ℕ) → rebinds ≤ ends
    → IfSome (if endless then None else Some rebinds) (λ last. due ≤ last) → IfSome (if endless then None else Some ends) (λ last. due ≤ last)
rebound_by true rebinds ends due before wakes = tt
rebound_by false rebinds ends due before wakes = omega (arith, wakes)

pub renewing_by : (terms : Terms4) (due : ℕ) → FitsTerms terms → IfSome (rebinding_at terms) (λ last. due ≤ last)
    → IfSome (expiry terms) (λ last. due ≤ last)
renewing_by terms due fits wakes =
    let rebinds : terms.t2 ≤ terms.lease = fits.rebinds in
    let before : terms.first + SECOND * terms.t2 ≤ terms.first + SECOND * terms.lease = omega arith in
    rebound_by (eqb terms.lease INFINITE_LEASE) (terms.first + SECOND * terms.t2) (terms.first + SECOND * terms.lease) due before wakes

-- the end of the kept lease on which a client stands
due_later : (one other : Option ℕ) (at : ℕ) → is_due other at ≡ true → is_due (earlier one other) at ≡ true
due_later None other at come = come
due_later (Some first) None at come = absurd cc
due_later (Some first) (Some second) at come = let before : second ≤ at = grind (arith, nat_tests) in grind (arith, nat_tests)

-- the tick is due, and ends the lease
record Expires (turn : Turn4) (state : State4) : Type 0 where
  due : is_due (due_of state) turn.at ≡ true
  over : held_terms (tick_row turn state).state ≡ None
  told : (tick_row turn state).news ≡ news.Expire

holds : (one other : Terms4) → Some one ≡ Some other → one ≡ other
holds one other e = cc

expires_in : (turn : Turn4) (state : State4) (terms : Terms4) → FitsState state → held_terms state ≡ Some terms
    → is_due (expiry terms) turn.at ≡ true → Expires turn state
expires_in turn Off terms fits held come = absurd cc
expires_in turn (Init due) terms fits held come = absurd cc
expires_in turn (Selecting xid began secs backoff due) terms fits held come = absurd cc
expires_in turn (Requesting exchange secs backoff due) terms fits held come = absurd cc
expires_in turn (Rebooting exchange backoff end due None) terms fits held come = absurd cc
expires_in turn (Rebooting exchange backoff end due (Some other)) terms fits held come =
    let over : is_due (expiry other) turn.at ≡ true = subst (λ (t : Terms4). is_due (expiry t) turn.at ≡ true) (sym (holds other terms held)) come in
    record { due = due_later (Some due) (expiry other) turn.at over; over = rw over refl; told = rw over refl }
expires_in turn (Checking xid checks origin acd None) terms fits held come = absurd cc
expires_in turn (Checking xid checks origin acd (Some other)) terms fits held come =
    let over : is_due (expiry other) turn.at ≡ true = subst (λ (t : Terms4). is_due (expiry t) turn.at ≡ true) (sym (holds other terms held)) come in
    record {
      due = due_later (earlier (detection.due_of acd.phase) (expiry checks)) (expiry other) turn.at over;
      over = rw over refl;
      told = rw over refl;
    }
expires_in turn (Waiting due) terms fits held come = absurd cc
expires_in turn (Bound xid other acd) terms fits held come =
    let over : is_due (expiry other) turn.at ≡ true = subst (λ (t : Terms4). is_due (expiry t) turn.at ≡ true) (sym (holds other terms held)) come in
    record { due = bound_due other turn.at acd fits over; over = rw over refl; told = rw over refl }
expires_in turn (Renewing exchange other acd due) terms fits held come =
    let over : is_due (expiry other) turn.at ≡ true = subst (λ (t : Terms4). is_due (expiry t) turn.at ≡ true) (sym (holds other terms held)) come in
    record {
      due = due_by due turn.at (expiry other) (acd_due acd) (renewing_by other due fits.renewal.holds fits.wakes) over;
      over = rw over refl;
      told = rw over refl;
    }
expires_in turn (Rebinding exchange other acd due) terms fits held come =
    let over : is_due (expiry other) turn.at ≡ true = subst (λ (t : Terms4). is_due (expiry t) turn.at ≡ true) (sym (holds other terms held)) come in
    record { due = due_by due turn.at (expiry other) (acd_due acd) fits.wakes over; over = rw over refl; told = rw over refl }

pub ends_at_expiry : EndsAtExpiry
ends_at_expiry c terms at salt sound held come =
    let turn : Turn4 = turn_of (moment_of at) salt c in
    let ending : Expires turn c.state = expires_in turn c.state terms sound.state held come in
    let step : tick_step (moment_of at) salt c ≡ tick_row turn c.state =
    ap (λ (b : Bool). if b then tick_row turn c.state else rests turn c.state) ending.due in
    record { over = ap (λ (s : Step4). held_terms s.state) step ∙ ending.over; told = ap (λ (s : Step4). s.news) step ∙ ending.told }
