-- By cases on a test.
use Rattle.std.proofs.Common.{◌≡◌, Bool, true, false, cond, refl}

-- a value in each case, with what the test says in it
pub split : {A : Type 0} (b : Bool) → (b ≡ true → A) → (b ≡ false → A) → A
split true when_true when_false = when_true refl
split false when_true when_false = when_false refl

-- what holds of both arms holds of the choice between them
pub gated : {A : Type 0} (P : A → Type 0) (b : Bool) (x y : A) → P x → P y → P (cond b x y)
gated P true x y one other = one
gated P false x y one other = other
