-- What a turn takes from a table.
use Rattle.std.proofs.Common.{◌≡◌, ℕ, Bool, true, false, not, ◌&&◌, ◌||◌, refl, sym, ap, ◌∙◌}
use Rattle.std.specs.Prelude.{◌==◌, if◌then◌else◌}
use Rattle.std.proofs.lemmas.Bool.{eq-eqb}
use Rattle.net_types.specs.declared.address.Ip6.{Ip6}
use Rattle.net_types.specs.declared.address.Net6.{Net6}
use Rattle.lease6_judge.specs.Terms.{Term, not_held, if_left, is_same_net}
use Rattle.item_judge.specs.Tables.{removed_at}
use Rattle.item_judge.specs.Walks.{if_revised}

revised_by : (same named : Bool) (term : Term) → (if same then not_held else (if_revised named term)) ≡ if_revised (named || same) term
revised_by true true term = refl
revised_by true false term = refl
revised_by false true term = refl
revised_by false false term = refl

-- an item more is let go
pub revised_more : (item net : Net6) (named : Bool) (term : Term)
    → removed_at item net (if_revised named term) ≡ if_revised (named || is_same_net item net) term
revised_more item net named term = revised_by (is_same_net item net) named term

pub unbound_all : (named unbound : Bool) (term : Term) → unbound ≡ true → not_held ≡ if_revised (named || unbound) term
unbound_all true true term h = refl
unbound_all false true term h = refl
unbound_all named false term h = absurd cc

pub bound_names : (named unbound : Bool) (term : Term) → unbound ≡ false → if_revised named term ≡ if_revised (named || unbound) term
bound_names true false term h = refl
bound_names false false term h = refl
bound_names named true term h = absurd cc

with_len : (here len : Bool) (term : Term) → len ≡ true → (if here && len then not_held else term) ≡ if_left (not here) term
with_len true true term h = refl
with_len false true term h = refl
with_len here false term h = absurd cc

-- an address that another host uses is let go
pub reported_left : (ip : Ip6) (net : Net6) (term : Term) → net.len ≡ 128
    → removed_at (record { ip = ip; len = 128 }) net term ≡ if_left (not (ip.number == net.ip.number)) term
reported_left ip net term len = with_len (ip.number == net.ip.number) (128 == net.len) term (eq-eqb 128 net.len (sym len))
