-- What stands at the front of an area says what follows.
use Rattle.std.proofs.Common.{◌≡◌, Bool, true, false, ℕ, zero, suc, ◌+◌, List, [], ◌∷◌, length, take, drop, refl, sym, ap, ◌∙◌, arith}
use Rattle.std.proofs.lemmas.List.{drop_all}
use Rattle.v4_options.specs.declared.area.Front.{Front}
use Rattle.v4_options.specs.declared.area.Front.TheVariants.{Pad, End, Cut, Whole}
use Rattle.v4_options.specs.OptionArea.{Instance, front_of, instances_after, instances_in, malformed_after, malformed_in}
use Rattle.std.specs.Prelude.{◌==◌, if◌then◌else◌, slice_index}
use Rattle.v4_options.specs.OptionValue.{pieces}
use Rattle.v4_options.specs.Overload.{overload_by, first_overload, overload_in}
use Rattle.v4_options.specs.AreaSteps.{InstancesBy, MalformedBy, OverloadBy}

instances_skip : (k : ℕ) (area : List ℕ) → instances_after k area ≡ instances_after 0 (drop k area)
instances_skip zero area = refl
instances_skip (suc k) [] = refl
instances_skip (suc k) (b ∷ rest) = instances_skip k rest

malformed_skip : (at k : ℕ) (area : List ℕ) → malformed_after at k area ≡ malformed_after (at + k) 0 (drop k area)
malformed_skip at zero area = ap (λ (n : ℕ). malformed_after n 0 area) (omega arith)
malformed_skip at (suc k) [] = refl
malformed_skip at (suc k) (b ∷ rest) = malformed_skip (suc at) k rest ∙ ap (λ (n : ℕ). malformed_after n 0 (drop k rest)) (omega arith)

drop_more : (n : ℕ) (rest : List ℕ) → drop (suc n) rest ≡ drop n (drop 1 rest)
drop_more n [] = sym (drop_all n [] (omega arith))
drop_more n (b ∷ rest) = refl

pub instances_by : (area : List ℕ) (front : Front) → front_of area ≡ front → InstancesBy area front
unfolding front_of instances_in
instances_by [] Pad e = absurd cc
instances_by [] End e = refl
instances_by [] Cut e = absurd cc
instances_by [] (Whole n) e = absurd cc
instances_by (code ∷ rest) Pad e = rw e refl
instances_by (code ∷ rest) End e = rw (e, instances_skip (length rest) rest, drop_all (length rest) rest (omega arith)) refl
instances_by (code ∷ rest) Cut e = rw (e, instances_skip (length rest) rest, drop_all (length rest) rest (omega arith)) refl
instances_by (code ∷ rest) (Whole n) e = rw (e, instances_skip (suc n) rest, drop_more n rest) refl

pub malformed_by : (at : ℕ) (area : List ℕ) (front : Front) → front_of area ≡ front → MalformedBy at area front
unfolding front_of malformed_in
malformed_by at [] Pad e = absurd cc
malformed_by at [] End e = refl
malformed_by at [] Cut e = absurd cc
malformed_by at [] (Whole n) e = absurd cc
malformed_by at (code ∷ rest) Pad e = rw e (ap (λ (n : ℕ). malformed_after n 0 rest) (omega arith))
malformed_by at (code ∷ rest) End e = rw (e, malformed_skip (suc at) (length rest) rest, drop_all (length rest) rest (omega arith)) refl
malformed_by at (code ∷ rest) Cut e = rw e refl
malformed_by at (code ∷ rest) (Whole n) e =
    let place : suc at + suc n ≡ at + (2 + n) = omega arith in
    rw (e, malformed_skip (suc at) (suc n) rest, drop_more n rest, place) refl

-- what the first option says where the code is tested
first_told : (b : Bool) (code : ℕ) (value : List ℕ) (others : List Instance) → (code == 52) ≡ b
    → first_overload (pieces 52 ((code, value) ∷ others)) ≡ (if b then overload_by value else first_overload (pieces 52 others))
first_told true code value others e = rw e refl
first_told false code value others e = rw e refl

pub told_by : (area : List ℕ) (front : Front) → InstancesBy area front → OverloadBy area front
unfolding overload_in
told_by area Pad e = rw e refl
told_by area End e = rw e refl
told_by area Cut e = rw e refl
told_by area (Whole n) e =
    rw e (first_told (slice_index area 0 == 52) (slice_index area 0) (take n (drop 2 area)) (instances_in (drop n (drop 2 area))) refl)

pub instances_empty : instances_in [] ≡ []
unfolding instances_in
instances_empty = refl
