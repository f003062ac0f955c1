-- How often interfaces are asked when they are due.
use Rattle.std.proofs.Common.{◌≡◌, ℕ, zero, suc, ◌+◌, ◌*◌, ◌<◌, ◌≤◌, true, refl, ap, subst, ◌∙◌, arith, ltb}
use Rattle.std.specs.Prelude.{min}
use Rattle.iface_core.specs.Looks.{looked}
use Rattle.client_core.specs.Due.{looks_after}

-- ---- of the machines of an interface, one after another

-- before the first nothing was counted
abbrev pub IsLooked : (times before now : ℕ) → Type 0
IsLooked zero before now = now ≡ before
IsLooked (suc times) before now = now ≡ looked (suc times) before

pub looked_on : (rank : ℕ) → rank < 3 → (before now after : ℕ) → IsLooked (min rank 3) before now → after ≡ looked 1 now
    → IsLooked (min (rank + 1) 3) before after
looked_on zero lt before now after is one = one ∙ ap (looked 1) is
looked_on (suc zero) lt before now after is one = grind (arith, is, one)
looked_on (suc (suc zero)) lt before now after is one = grind (arith, is, one)
looked_on (suc (suc (suc rank))) lt before now after is one = absurd (omega arith)

pub looked_all : (rank before now : ℕ) → 3 ≤ rank → IsLooked (min rank 3) before now → now ≡ looked 3 before
looked_all rank before now all is =
    let three : min rank 3 ≡ 3 = grind (arith, all) in
    subst (λ (times : ℕ). IsLooked times before now) three is

-- ---- of interfaces

-- one interface more, of up to 64, is six questions more
pub six_more : (count place turns before between after : ℕ) → place < count → count ≤ 64 → turns ≤ place → before ≡ 6 * turns
    → between ≡ looked 3 before → after ≡ looks_after place between → after ≡ 6 * (turns + 1)
six_more count place turns before between after within few less is turned kept =
    let low : ltb place 64 ≡ true = grind (arith, within, few) in
    let three : looks_after place between ≡ looked 3 between = rw low refl in
    let all : after ≡ looked 3 between = kept ∙ three in
    grind (arith, within, few, less, is, turned, all)
