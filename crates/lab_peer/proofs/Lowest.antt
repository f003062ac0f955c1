-- The first of some numbers one after another, and of what comes then.
use Rattle.std.proofs.Common.{◌≡◌, ℕ, zero, suc, ◌+◌, ◌-◌, ◌<◌, ◌≤◌, Bool, true, false, Option, Some, None, refl, sym, ap, ◌∙◌, arith}
use Rattle.std.specs.Prelude.{List, [], ◌∷◌, ◌++◌, map, find, if◌then◌else◌}
use Rattle.net_types.specs.declared.address.Ip4.{Ip4}
use Rattle.lab_peer.specs.Pools.{addresses_from}

-- those from a number up to another one, and one more
abbrev pub addresses_to : (at : ℕ) → Ip4 → List Ip4
addresses_to at end = addresses_from at (end.number - at) ++ end ∷ []

one_less : (at end : ℕ) → at < end → end - at ≡ suc (end - (at + 1))
one_less at end below = omega (arith, below)

pub not_this : (p : Ip4 → Bool) (at : ℕ) (end : Ip4) → at < end.number → p (record { number = at }) ≡ false
    → find p (addresses_to at end) ≡ find p (addresses_to (at + 1) end)
not_this p at end below other =
    ap (λ (n : ℕ). find p (addresses_from at n ++ end ∷ [])) (one_less at end.number below) ∙ rw other refl

pub this_one : (p : Ip4 → Bool) (at : ℕ) (end : Ip4) → at < end.number → p (record { number = at }) ≡ true
    → Some (record { number = at }) ≡ find p (addresses_to at end)
this_one p at end below is =
    sym (ap (λ (n : ℕ). find p (addresses_from at n ++ end ∷ [])) (one_less at end.number below) ∙ rw is refl)

none_left : (p : Ip4 → Bool) (at : ℕ) (end : Ip4) → end.number ≤ at → find p (addresses_to at end) ≡ find p (end ∷ [])
none_left p at end over =
    let none : end.number - at ≡ 0 = omega (arith, over) in
    ap (λ (n : ℕ). find p (addresses_from at n ++ end ∷ [])) none

pub last_one : (p : Ip4 → Bool) (at : ℕ) (end : Ip4) → end.number ≤ at → p end ≡ true → Some end ≡ find p (addresses_to at end)
last_one p at end over is = sym (none_left p at end over ∙ rw is refl)

pub not_last : (p : Ip4 → Bool) (at : ℕ) (end : Ip4) → end.number ≤ at → p end ≡ false → None ≡ find p (addresses_to at end)
not_last p at end over other = sym (none_left p at end over ∙ rw other refl)
