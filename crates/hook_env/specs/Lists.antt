-- Lists of texts.
use Rattle.std.specs.Prelude.{ℕ, List, [], ◌∷◌, ◌++◌, flat_map, codes, Option, Some, None}
use Rattle.net_types.specs.AddressText.{ip4_text, net4_text}
use Rattle.v4_options.specs.declared.routes.ClasslessRoute.{ClasslessRoute}

abbrev pub after_blank : List ℕ → List ℕ
after_blank text = 32 ∷ text

-- with a blank between each two
abbrev pub listed : List (List ℕ) → List ℕ
listed [] = []
listed (first ∷ others) = first ++ flat_map after_blank others

-- a list of one text or more
abbrev pub some_listed : List (List ℕ) → Option (List ℕ)
some_listed [] = None
some_listed (first ∷ others) = Some (listed (first ∷ others))

-- a route's destination and its gateway
abbrev pub route_text : ClasslessRoute → List ℕ
route_text route = net4_text route.dest ++ codes " " ++ ip4_text route.via
