-- What the tests of whole kinds of lines come to.
use Rattle.std.proofs.Common.{◌≡◌, ℕ, zero, suc, ◌+◌, ◌*◌, ◌-◌, ◌^◌, ◌<◌, ◌≤◌, true, eqb, leb, List, [], ◌∷◌, length, refl, subst, arith}
use Rattle.std.specs.List.{AllByRecursion}
use Rattle.std.proofs.Math.Pow.{pow_mono}
use Rattle.std.proofs.lemmas.Bool.{and_parts, and_from, eqb-true, eq-eqb, leb-true, le-leb}
use Rattle.net_types.specs.declared.interface.IfSpec.{IfSpec}
use Rattle.world.specs.declared.wakes.Event.{Event}
use Rattle.world.specs.declared.wakes.Event.TheVariants.{Frame, Carrier, Duplicate, Release, Rebind, Stop, Quiet, End}
use Rattle.script_model.specs.Scripts.{CountsFrom, FitInterfaces, FitsEvent}
use Rattle.iface_lists.proofs.UnlikeLaws.{pairs_sound, pairs_whole}
use Rattle.script_lines.specs.KindTests.{counts_from, interfaces_fit, is_listed}
use Rattle.script_lines.proofs.LineLaws.{FitsSpec}

-- a bit more
pub doubled : (up count : ℕ) → 0 < count → up < 2 ^ (count - 1) → 2 * up + 1 < 2 ^ count
doubled up zero some small = absurd (omega arith)
doubled up (suc k) some small =
    let less : suc k - 1 ≡ k = omega arith in
    let small' : up < 2 ^ k = subst (λ n. up < 2 ^ n) less small in
    omega arith

pub doubled_fits : (up count : ℕ) → 0 < count → count ≤ 64 → up < 2 ^ (count - 1) → 2 * up + 1 < 18446744073709551616
doubled_fits up count some few small = omega (arith, doubled up count some small, pow_mono {i = count} {j = 64} few)

-- ---- interfaces

counted_sound : (index : ℕ) (specs : List IfSpec) → AllByRecursion FitsSpec specs → counts_from index specs ≡ true → CountsFrom index specs
counted_sound index [] fits e = tt
counted_sound index (spec ∷ specs) fits e =
    let parts = and_parts (eqb spec.index.number index) _ e in
    (eqb-true _ _ parts.0, fits.0.name, fits.0.mac, counted_sound (index + 1) specs fits.1 parts.1)

counted_whole : (index : ℕ) (specs : List IfSpec) → 1 ≤ index → index + length specs ≤ 65 → CountsFrom index specs
    → AllByRecursion FitsSpec specs × (counts_from index specs ≡ true)
counted_whole index [] some few counts = (tt, refl)
counted_whole index (spec ∷ specs) some few counts =
    let others = counted_whole (index + 1) specs (omega arith) (omega arith) counts.3 in
    let is : spec.index.number ≡ index = counts.0 in
    let low : 1 ≤ spec.index.number = omega arith in
    let high : spec.index.number ≤ 64 = omega arith in
    ((record { index = (low, high); name = counts.1; mac = counts.2 }, others.0), and_from _ _ (eq-eqb _ _ is) others.1)

pub record AreInterfaces (specs : List IfSpec) : Type 0 where
  pub each : AllByRecursion FitsSpec specs
  pub test : interfaces_fit specs ≡ true

pub interfaces_sound : (specs : List IfSpec) → AreInterfaces specs → FitInterfaces specs
unfolding interfaces_fit
interfaces_sound specs are =
    let outer = and_parts (leb (length specs) 64) _ are.test in
    let inner = and_parts (counts_from 1 specs) _ outer.1 in
    record { few = leb-true _ _ outer.0; counted = counted_sound 1 specs are.each inner.0; unlike = pairs_sound specs inner.1 }

pub interfaces_whole : (specs : List IfSpec) → FitInterfaces specs → AreInterfaces specs
unfolding interfaces_fit
interfaces_whole specs fit =
    let few = fit.few in
    let counted = counted_whole 1 specs (omega arith) (omega arith) fit.counted in
    record { each = counted.0; test = and_from _ _ (le-leb _ _ few) (and_from _ _ counted.1 (pairs_whole 1 specs fit.counted fit.unlike)) }

-- ---- turns

pub listed_sound : (count : ℕ) (event : Event) → FitsEvent 64 event → is_listed count event ≡ true → FitsEvent count event
listed_sound count (Frame iface len) fits e = (fits.0, leb-true _ _ e)
listed_sound count (Carrier iface up) fits e = (fits.0, leb-true _ _ e)
listed_sound count (Duplicate iface addr) fits e = ((fits.0.0, leb-true _ _ e), fits.1)
listed_sound count (Release iface) fits e = (fits.0, leb-true _ _ e)
listed_sound count (Rebind iface) fits e = (fits.0, leb-true _ _ e)
listed_sound count Stop fits e = tt
listed_sound count Quiet fits e = tt
listed_sound count End fits e = absurd fits

within : (count iface : ℕ) → count ≤ 64 → (1 ≤ iface) × (iface ≤ count) → ((1 ≤ iface) × (iface ≤ 64)) × (leb iface count ≡ true)
within count iface few fits = let last = fits.1 in ((fits.0, omega arith), le-leb _ _ last)

pub listed_whole : (count : ℕ) (event : Event) → count ≤ 64 → FitsEvent count event → FitsEvent 64 event × (is_listed count event ≡ true)
listed_whole count (Frame iface len) few fits = within count iface few fits
listed_whole count (Carrier iface up) few fits = within count iface few fits
listed_whole count (Duplicate iface addr) few fits = let is = within count iface few fits.0 in ((is.0, fits.1), is.1)
listed_whole count (Release iface) few fits = within count iface few fits
listed_whole count (Rebind iface) few fits = within count iface few fits
listed_whole count Stop few fits = (tt, refl)
listed_whole count Quiet few fits = (tt, refl)
listed_whole count End few fits = absurd fits
