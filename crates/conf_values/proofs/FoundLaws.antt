-- What holds of what was found.
use Rattle.std.proofs.Common.{◌≡◌, Option, Some, None, refl, subst}
use Rattle.std.specs.Prelude.{IfSome}
use Rattle.net_types.specs.Cutting.{◌>>=◌}

pub bound : {X Y : Type 0} (Fits : Y → Type 0) (found : Option X) (next : X → Option Y) → ((x : X) → found ≡ Some x → IfSome (next x) Fits)
    → IfSome (found >>= next) Fits
bound Fits None next all = tt
bound Fits (Some x) next all = all x refl

pub at_some : {X : Type 0} (Fits : X → Type 0) (found : Option X) (x : X) → found ≡ Some x → IfSome found Fits → Fits x
at_some Fits found x e fits = subst (λ o. IfSome o Fits) e fits
