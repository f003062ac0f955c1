-- Which places the interfaces of an index have.
use Rattle.std.specs.Prelude.{◌≡◌, ℕ, zero, suc, ◌<◌, ◌==◌, Bool, false, List, [], ◌∷◌, slice_index_or}
use Rattle.client_core.specs.declared.named.Named.{Named}
use Rattle.client_core.specs.declared.places.Places.{Places}
use Rattle.client_core.specs.Places.{has, no_places}

-- the places of an index, and none of one past the table
abbrev pub named_as : Named → ℕ → Places
named_as named index = slice_index_or named.table index no_places

-- whether the interface at a place has an index, where these are all indices in order of place
abbrev pub is_named : List ℕ → (place index : ℕ) → Bool
is_named [] place index = false
is_named (first ∷ indices) zero index = first == index
is_named (first ∷ indices) (suc place) index = is_named indices place index

abbrev pub AreNamed : List ℕ → Named → Type 0
AreNamed indices named =
    (index place : ℕ) → place < 64 → has (named_as named index) place ≡ is_named indices place index
