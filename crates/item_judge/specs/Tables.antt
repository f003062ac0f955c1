-- A table of the items of one IA, and how long each is held.
use Rattle.std.specs.Prelude.{Bool, ◌==◌, ◌&&◌, if◌then◌else◌, Option, Some, None}
use Rattle.std.specs.Map.{lookup}
use Rattle.net_types.specs.declared.address.Net6.{Net6}
use Rattle.lease6_judge.specs.Terms as judge
use Rattle.lease6_judge.specs.Terms.{longer}
use Rattle.item_judge.specs.declared.terms.Place.{Place}
use Rattle.item_judge.specs.declared.terms.Term.{Term}
use Rattle.item_judge.specs.declared.terms.Term.TheVariants.{Until, Forever}
use Rattle.item_judge.specs.declared.terms.Terms.{Terms}

-- where an item stands
abbrev pub place_of : Net6 → Place
place_of net = record { number = net.ip.number; len = net.len }

abbrev pub is_place : Net6 → Place → Bool
is_place net place = (net.ip.number == place.number) && (net.len == place.len)

abbrev pub term_content : Option Term → judge.Term
term_content None = judge.not_held
term_content (Some (Until end)) = judge.held_until end
term_content (Some Forever) = judge.held_forever

-- what stands in a table for an item, else nothing
abbrev pub term_at : Terms → Net6 → judge.Term
term_at table net = term_content (lookup (is_place net) table.terms.entries)

-- the item alone is held for a further term
abbrev pub extended_at : Net6 → judge.Term → (net : Net6) → (before : judge.Term) → judge.Term
extended_at item term net before = if judge.is_same_net item net then longer term before else before

-- the item alone is let go
abbrev pub removed_at : Net6 → (net : Net6) → (before : judge.Term) → judge.Term
removed_at item net before = if judge.is_same_net item net then judge.not_held else before
