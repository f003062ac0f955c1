-- Steps of the walks over the items of a Reply.
use Rattle.std.specs.Prelude.{ℕ, Bool, if◌then◌else◌, List, [], ◌∷◌, Option, Some, None}
use Rattle.std.specs.List.{filter_map}
use Rattle.net_types.specs.declared.address.Net6.{Net6}
use Rattle.v6_options.specs.declared.ia.ItemSaid.{ItemSaid}
use Rattle.v6_options.specs.Ias.{IaContent}
use Rattle.v6_items.specs.Reading.{read_item}
use Rattle.lease6_judge.specs.Terms.{Term, gives, longer, not_held, term_of}

-- what is revised is let go
abbrev pub if_revised : (revised : Bool) → Term → Term
if_revised revised term = if revised then not_held else term

-- an item of a Reply, if it is this one and valid for some time, makes its term longer
abbrev pub with_said : (came : ℕ) → Net6 → ItemSaid → Term → Term
with_said came net said term = if gives net said then longer (term_of came said.valid) term else term

abbrev pub with_read : (came : ℕ) → Net6 → Option ItemSaid → Term → Term
with_read came net None term = term
with_read came net (Some said) term = with_said came net said term

-- one item after another
abbrev pub with_saids : (came : ℕ) → Net6 → List ItemSaid → Term → Term
with_saids came net [] term = term
with_saids came net (said ∷ saids) term = with_saids came net saids (with_said came net said term)

-- the items of an IA that are read, if all went well with it
abbrev pub front_all : IaContent → List ItemSaid
front_all ia = filter_map (read_item ia.kind) ia.items
