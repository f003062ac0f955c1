-- What stands in front of bytes.
use Rattle.std.proofs.Common.{◌≡◌, ℕ, List, [], ◌∷◌, ◌++◌, length, take, refl}
use Rattle.net_types.specs.Cutting.{StandsInFront}

-- where more stands in front, less does
pub less_stands : (less more bytes : List ℕ) → StandsInFront (less ++ more) bytes → StandsInFront less bytes
less_stands [] more bytes e = refl
less_stands (first ∷ less) more [] e = cc
less_stands (first ∷ less) more (byte ∷ bytes) e =
    let same : byte ≡ first = cc in
    let others : StandsInFront (less ++ more) bytes = cc in
    let front = less_stands less more bytes others in
    cc
