-- The route at the front of a value, or why there is none.
use Rattle.std.proofs.Common.{◌≡◌, ℕ, zero, suc, ◌+◌, ◌<◌, ◌≤◌, true, false, List, [], ◌∷◌, length, get_or, drop, Option, Some, None, refl, sym, arith}
use Rattle.std.specs.Prelude.{is_some}
use Rattle.std.specs.Option.{option_map}
use Rattle.std.proofs.lemmas.List.{drop-drop}
use Rattle.v4_options.specs.Routes.{sent_bytes, route_of, has_route, routes_after, all_routes}

routes_skip : (k : ℕ) (value : List ℕ) → routes_after k value ≡ routes_after 0 (drop k value)
routes_skip zero value = refl
routes_skip (suc k) [] = refl
routes_skip (suc k) (b ∷ rest) = routes_skip k rest

pub too_wide : (value : List ℕ) → 0 < length value → 32 < get_or value 0 0 → all_routes value ≡ None
unfolding all_routes
too_wide [] some wide = absurd (omega arith)
too_wide (width ∷ rest) some wide = let no : has_route width rest ≡ false = grind (arith) in rw no refl

pub too_short : (value : List ℕ) → 0 < length value → length (drop 1 value) < sent_bytes (get_or value 0 0) + 4 → all_routes value ≡ None
unfolding all_routes
too_short [] some short = absurd (omega arith)
too_short (width ∷ rest) some short = let no : has_route width rest ≡ false = grind (arith) in rw no refl

pub one_route : (value : List ℕ) → 0 < length value → get_or value 0 0 ≤ 32 → sent_bytes (get_or value 0 0) + 4 ≤ length (drop 1 value)
    → all_routes value
    ≡ option_map (λ routes. route_of (get_or value 0 0) (drop 1 value) ∷ routes) (all_routes (drop 4 (drop (sent_bytes (get_or value 0 0)) (drop 1 value))))
unfolding all_routes
one_route [] some narrow long = absurd (omega arith)
one_route (width ∷ rest) some narrow long =
    let yes : has_route width rest ≡ true = grind (arith) in
    let cut : drop (sent_bytes width + 4) rest ≡ drop 4 (drop (sent_bytes width) rest) = sym (drop-drop 4 (sent_bytes width) rest) in
    rw (yes, routes_skip (sent_bytes width + 4) rest, cut) refl

pub no_routes : (value : List ℕ) → length value ≡ 0 → all_routes value ≡ Some []
unfolding all_routes
no_routes [] none = refl
no_routes (b ∷ rest) none = absurd (omega arith)

pub mapped_is_some : {A B : Type 0} (f : A → B) (o : Option A) → is_some (option_map f o) ≡ is_some o
mapped_is_some f None = refl
mapped_is_some f (Some x) = refl
