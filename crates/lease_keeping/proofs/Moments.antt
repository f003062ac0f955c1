-- The moments of a lease at a turn that comes in time.
use Rattle.std.proofs.Common.{◌≡◌, ℕ, ◌+◌, ◌*◌, ◌%◌, ◌<◌, ◌≤◌, max, min, Bool, true, false, Option, Some, None, IfSome, nat_eq, nat_le, nat_lt, refl, arith, lit≤, if◌then◌else◌}
use Rattle.std.proofs.lemmas.Bool.Decides.{nat_tests}
use Rattle.machine.specs.Draw.{draw_of}
use Rattle.machine.specs.Moment.{is_due}
use Rattle.net_types.proofs.CaseLaws.{gated}
use Rattle.net_types.specs.declared.interface.IfIndex.{IfIndex}
use Rattle.arp_acd.specs.Table as detection
use Rattle.v4_client.specs.Moments.{earlier}
use Rattle.lease_progress.specs.LeaseStays.{IsBefore}
use Rattle.lease_progress.specs.Prompt.{NotAfter}
use Rattle.lease_keeping.proofs.Carrying.{Probed}

-- ---- in time

-- what comes no later than the earlier of two moments comes no later than the first of them, nor than the second
pub sooner : (first second : Option ℕ) (last at : ℕ) → NotAfter (earlier first second) last at → NotAfter first last at
sooner None second last at h = tt
sooner (Some a) None last at h = h
sooner (Some a) (Some b) last at h = nearer a b last at h
  where
    nearer : (a b last at : ℕ) → at ≤ max (min a b) last → at ≤ max a last
    nearer a b last at h = grind arith

pub before_it : (due last at : ℕ) → at ≤ max due last → last ≤ due → at ≤ due
before_it due last at h le = grind arith

not_come : (end at : ℕ) → at < end → nat_le end at ≡ false
not_come end at h = grind (arith, nat_tests)

-- ---- a moment of a lease, which never comes where that is endless

abbrev pub of_lease : (endless : Bool) → ℕ → Option ℕ
of_lease endless at = if endless then None else Some at

-- no later than T1, and servers that answer each REQUEST are asked then
pub record RenewsNow (endless : Bool) (renews rebinds ends at gap : ℕ) : Type 0 where
  pub lasts : is_due (of_lease endless ends) at ≡ false
  pub early : is_due (of_lease endless rebinds) at ≡ false
  pub ahead : IfSome (of_lease endless renews) (λ due. at ≤ due)
  pub enough : IfSome (of_lease endless rebinds) (λ end. at + gap < end)

pub renews_now : (endless : Bool) (renews rebinds ends last at gap : ℕ) → rebinds ≤ ends
    → IfSome (of_lease endless renews) (λ due. last ≤ due) → IsBefore gap (of_lease endless renews) (of_lease endless rebinds)
    → NotAfter (of_lease endless renews) last at → RenewsNow endless renews rebinds ends at gap
renews_now true renews rebinds ends last at gap le ahead before prompt = record { lasts = refl; early = refl; ahead = tt; enough = tt }
renews_now false renews rebinds ends last at gap le ahead before prompt =
    let now : at ≤ renews = before_it renews last at prompt ahead in
    let soon : renews + gap < rebinds = before in
    record {
      lasts = not_come ends at (omega (arith, now, soon, le));
      early = not_come rebinds at (omega (arith, now, soon));
      ahead = now;
      enough = omega (arith, now, soon);
    }

-- no later than T2, and servers that answer broadcasts alone are asked then
pub record RebindsNow (endless : Bool) (rebinds ends at gap : ℕ) : Type 0 where
  pub lasts : is_due (of_lease endless ends) at ≡ false
  pub ahead : IfSome (of_lease endless rebinds) (λ due. at ≤ due)
  pub enough : IfSome (of_lease endless ends) (λ end. at + gap < end)

pub rebinds_now : (endless : Bool) (asked rebinds ends last at gap : ℕ) → IfSome (of_lease endless rebinds) (λ due. asked ≤ due)
    → IfSome (of_lease endless rebinds) (λ due. last ≤ due) → IsBefore gap (of_lease endless rebinds) (of_lease endless ends)
    → (endless ≡ false → at ≤ max asked last) → RebindsNow endless rebinds ends at gap
rebinds_now true asked rebinds ends last at gap le ahead before prompt = record { lasts = refl; ahead = tt; enough = tt }
rebinds_now false asked rebinds ends last at gap le ahead before prompt =
    let now : at ≤ rebinds = between asked rebinds last at le ahead (prompt refl) in
    let soon : rebinds + gap < ends = before in
    record { lasts = not_come ends at (omega (arith, now, soon)); ahead = now; enough = omega (arith, now, soon) }
  where
    between : (asked rebinds last at : ℕ) → asked ≤ rebinds → last ≤ rebinds → at ≤ max asked last → at ≤ rebinds
    between asked rebinds last at a b h = grind arith

-- T1 comes no later than T2, where both come
pub renews_first : (endless : Bool) (renews rebinds : ℕ) → renews ≤ rebinds → IfSome (of_lease endless rebinds) (λ due. renews ≤ due)
renews_first true renews rebinds le = tt
renews_first false renews rebinds le = le

pub finite : (endless : Bool) (due last at : ℕ) → NotAfter (of_lease endless due) last at → endless ≡ false → at ≤ max due last
finite true due last at h e = absurd cc
finite false due last at h e = h

-- a turn comes by the moment at which an answer is there, so that the lease isn't over
pub record AwaitsNow (endless : Bool) (needed ends at : ℕ) : Type 0 where
  pub lasts : is_due (of_lease endless ends) at ≡ false
  pub early : is_due (of_lease endless needed) at ≡ false

pub awaits_now : (endless : Bool) (by needed ends at : ℕ) → needed ≤ ends → IfSome (of_lease endless needed) (λ end. by < end) → at ≤ by
    → AwaitsNow endless needed ends at
awaits_now true by needed ends at le enough h = record { lasts = refl; early = refl }
awaits_now false by needed ends at le enough h =
    let soon : by < needed = enough in
    record { lasts = not_come ends at (omega (arith, le, soon, h)); early = not_come needed at (omega (arith, soon, h)) }

-- ---- the end of the probing

drawn : (x : ℕ) → x % 1001 ≤ 1000
drawn x = omega arith

-- the next due moment after a probe
abbrev Next : (at : ℕ) → ℕ → Type 0
Next at due = (at ≤ due) × (due ≤ at + 2000)

pub next : (i : IfIndex) (n at salt : ℕ) → Next at (detection.due_after i n at salt)
next i n at salt =
    gated (Next at) (nat_eq n 3) (at + 2000) (at + 1000 + draw_of salt i 1001) (quiet at) (gap at (draw_of salt i 1001) (drawn (salt % 4294967296 + i.number)))
  where
    quiet : (at : ℕ) → Next at (at + 2000)
    quiet at = (omega arith, omega arith)

    gap : (at x : ℕ) → x ≤ 1000 → Next at (at + 1000 + x)
    gap at x le = (omega arith, omega arith)

pub fewer : (n : ℕ) → nat_lt n 3 ≡ true → n + 1 ≤ 3
fewer n h = grind (arith, nat_tests)

pub probe_more : (end at n due later : ℕ) → at ≤ due → due + 6000 ≤ end + 2000 * n → later ≤ at + 2000 → later + 6000 ≤ end + 2000 * (n + 1)
probe_more end at n due later le h near = omega arith

pub over : (end at n due : ℕ) → n ≤ 3 → at ≤ due → due + 6000 ≤ end + 2000 * n → at ≤ end
over end at n due few le h = omega arith

pub first_probe : (end at : ℕ) (i : IfIndex) (salt : ℕ) → at + 7000 ≤ end → Probed end at 0 (at + draw_of salt i 1001)
first_probe end at i salt h = begun end at (draw_of salt i 1001) h (drawn (salt % 4294967296 + i.number))
  where
    begun : (end at x : ℕ) → at + 7000 ≤ end → x ≤ 1000 → Probed end at 0 (at + x)
    begun end at x h small = (lit≤ tt, omega arith, omega arith)
