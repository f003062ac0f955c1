-- Each address that was probed three times is among those of which an entry tells so.
use Rattle.std.proofs.Common.{◌≡◌, ℕ, Bool, true, false, ◌&&◌, ◌||◌, cond, if◌then◌else◌, List, [], ◌∷◌, map, refl, ap, ◌∙◌}
use Rattle.std.specs.List.{list_any}
use Rattle.net_types.specs.declared.address.Ip4.{Ip4}
use Rattle.probe_table.specs.ByAddress.{is_addr, is_for}
use Rattle.probe_table.specs.ProbeTimes.{is_past}
use Rattle.probe_table.specs.Table.{AreProbed, addr_of, thrice_in, times_at}
use Rattle.probe_table.specs.declared.table.ProbeTable.{ProbeTable}
use Rattle.probe_table.specs.declared.table.Probing.{Probing}
use Rattle.probe_table.specs.declared.times.ProbeTimes.{ProbeTimes}

module _ (wait now : ℕ) (addr : Ip4) where
  abbrev is_ready : ProbeTimes → Bool
  is_ready times = is_past wait times.third now

  if_here : (here : Bool) (mine other : ProbeTimes) → is_ready (if here then mine else other) ≡ true → here ≡ true → is_ready mine ≡ true
  if_here true mine other h is = h
  if_here false mine other h is = absurd cc

  if_not : (here : Bool) (mine other : ProbeTimes) → is_ready (if here then mine else other) ≡ true → here ≡ false → is_ready other ≡ true
  if_not true mine other h is = absurd cc
  if_not false mine other h is = h

  with_true : (b : Bool) → b ≡ (b && true)
  with_true true = refl
  with_true false = refl

  with_false : (b : Bool) → false ≡ (b && false)
  with_false true = refl
  with_false false = refl

  abbrev among : List Ip4 → Bool
  among addrs = list_any (is_addr addr) addrs

  first_of : (ready : Bool) (p : Probing) (rest : List Probing)
      → among (map addr_of (cond ready (p ∷ rest) rest)) ≡ ((is_for addr_of addr p && ready) || among (map addr_of rest))
  first_of true p rest = ap (λ (b : Bool). b || among (map addr_of rest)) (with_true (is_for addr_of addr p))
  first_of false p rest = ap (λ (b : Bool). b || among (map addr_of rest)) (with_false (is_for addr_of addr p))

  one_of : (here ready others : Bool) → (here ≡ true → ready ≡ true) → (here ≡ false → others ≡ true) → ((here && ready) || others) ≡ true
  one_of true true others h k = refl
  one_of true false others h k = let e : false ≡ true = h refl in absurd cc
  one_of false ready others h k = k refl

  pub are_among : (ps : List Probing) → is_ready (times_at ps addr) ≡ true → among (thrice_in wait now ps) ≡ true
  are_among [] h = absurd cc
  are_among (p ∷ ps) h =
      first_of (is_ready p.times) p _
      ∙ one_of (is_for addr_of addr p) (is_ready p.times) (among (thrice_in wait now ps)) (if_here (is_for addr_of addr p) p.times (times_at ps addr) h)
      (λ n. are_among ps (if_not (is_for addr_of addr p) p.times (times_at ps addr) h n))

pub probed_so : (wait now : ℕ) (table : ProbeTable) (ps : List Probing) (addrs : List Ip4) → ps ≡ table.probings.items → addrs ≡ thrice_in wait now ps
    → AreProbed wait now table addrs
probed_so wait now table ps addrs these is =
    λ addr ready. ap (list_any (is_addr addr)) (is ∙ ap (thrice_in wait now) these) ∙ are_among wait now addr table.probings.items ready
