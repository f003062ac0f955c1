use Rattle.std.proofs.Common.{rules, ◌≡◌, ◌<◌, ◌+◌, ◌++◌, [], ◌∷◌, ℕ, List, length, get_or, set, sym, ap, subst, ◌∙◌, arith, length-append}
use Rattle.std.specs.List.{AllByRecursion}
use Rattle.net_types.proofs.AllLaws.{all_join}
use Rattle.world.specs.declared.rows.HostRow.{HostRow}
use Rattle.world.specs.Rows.{IsRow}
use Rattle.host_tables.specs.Unions.{Unites, AllFit}
use Rattle.host_tables.proofs.Exchanges.{with_empty, empty_last, filled_last}
use Rattle.host_tables.proofs.tables.Tables.push.Goals as goal

pub invariant_of-self-2 : goal.invariant_of-self-2
invariant_of-self-2 c =
    let places : List (List HostRow) = c.self.inside.places.items in
    let more : List (List HostRow) = places ++ [] ∷ [] in
    let at : c.len-place.result ≡ length places = c.len-place.ensures ∙ c.reserve.ensures.len ∙ c.self.inside.places.ok.0 in
    let long : length more ≡ length places + length {A = List HostRow} ([] ∷ []) = length-append places ([] ∷ []) in
    let here : c.len-place.result < length more = omega arith in
    let unites : Unites (set more c.len-place.result c.as_slice.result.now) c.exchange.new.self =
    (c.in_ok-_diff.ensures.exchanges more here (empty_last places ∙ ap (λ (n : ℕ). get_or more n []) (sym at))
    (with_empty places c.self.inside.union c.self.invariant.0)).unites
    in
    let filled : set more c.len-place.result c.as_slice.result.now ≡ places ++ c.args.rows ∷ [] =
    ap (λ (n : ℕ). set more n c.as_slice.result.now) at ∙ filled_last places c.as_slice.result.now
    ∙ ap (λ (rows : List HostRow). places ++ rows ∷ []) c.as_slice.ensures.rows in
    let pushed : c.push.new.self.items ≡ places ++ c.args.rows ∷ [] = search rules in (
      subst (λ (all : List (List HostRow)). Unites all c.exchange.new.self) (filled ∙ sym pushed) unites,
      subst AllFit (sym pushed)
          (all_join (AllByRecursion IsRow) places (c.args.rows ∷ []) c.self.invariant.1
          (subst (AllByRecursion IsRow) c.as_slice.ensures.rows c.as_slice.ensures.fit, tt)),
    )
