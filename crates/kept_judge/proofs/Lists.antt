-- What is among a list, by a test.
use Rattle.std.proofs.Common.{◌≡◌, ℕ, ◌<◌, Bool, true, List, [], ◌∷◌, length, get_or, zero, suc, sym, subst, arith}
use Rattle.std.proofs.lemmas.Bool.{or_left, or_right}
use Rattle.std.specs.List.{Contains, list_any}

any_at : {X : Type 0} (test : X → Bool) (xs : List X) (x : X) (k : ℕ) → (k < length xs) × (get_or xs k x ≡ x) → test x ≡ true
    → list_any test xs ≡ true
any_at test [] x k at t = absurd (let less = at.0 in omega (arith, less))
any_at test (y ∷ ys) x zero at t = or_left (test y) (list_any test ys) (subst (λ z. test z ≡ true) (sym at.1) t)
any_at test (y ∷ ys) x (suc k) at t =
    let less = at.0 in or_right (test y) (list_any test ys) (any_at test ys x k (omega (arith, less), at.1) t)

pub has_any : {X : Type 0} (test : X → Bool) (xs : List X) (x : X) → Contains xs x → test x ≡ true → list_any test xs ≡ true
has_any test xs x among t = any_at test xs x among.0 (among.1, among.2) t
