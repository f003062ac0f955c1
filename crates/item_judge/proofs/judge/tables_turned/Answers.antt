use Rattle.std.proofs.Common.{◌≡◌, List, [], ◌∷◌, ◌++◌, ◌∙◌, length, refl, ap, subst, sym, append_assoc, arith}
use Rattle.std.specs.Vec.Iter.{into_iter_items}
use Rattle.std.proofs.lemmas.List.{append-nil}
use Rattle.item_judge.specs.declared.table.ItemTable.{ItemTable}
use Rattle.item_judge.specs.Judging.{AreTurned}
use Rattle.item_judge.proofs.judge.tables_turned.Goals as goal

pub tables-preserved : goal.tables-preserved
tables-preserved c =
    let at = c.tables in
    let turn = c.args.turn.now in
    let one : ItemTable = c.in_ok-turned.field-0 in
    let next : into_iter_items at.table-iterator ≡ c.in-Some.table ∷ into_iter_items c.next.new.self = c.in-Some.ensures.steps.0 in
    record {
      turned = λ rest are.
          let was = at.invariant.turned (one ∷ rest)
          (subst (λ (xs : List ItemTable). AreTurned turn xs (one ∷ rest)) (sym next) (c.in_ok-turned.ensures, are)) in
          let all = ap (λ (xs : List ItemTable). xs ++ rest) c.in_ok-push.ensures.items ∙ append_assoc at.nexts.items (one ∷ []) rest in
          subst (λ (xs : List ItemTable). AreTurned turn c.args.tables.items xs) (sym all) was;
      count = let was = at.invariant.count in let gone = c.in-Some.ensures.steps.1 in let short = ap length next in omega arith;
    }

no_items : (tables : List ItemTable) → length tables ≡ 0 → tables ≡ []
no_items [] none = refl
no_items (table ∷ tables) none = absurd (omega (arith, none))

pub returns : goal.returns
returns c =
    let none : into_iter_items c.tables.table-iterator ≡ [] =
    no_items (into_iter_items c.tables.table-iterator) (sym c.tables.invariant.count ∙ c.in-None.ensures.steps.0) in
    subst (λ (xs : List ItemTable). AreTurned c.args.turn.now c.args.tables.items xs) (append-nil c.tables.nexts.items)
    (c.tables.invariant.turned [] (subst (λ (xs : List ItemTable). AreTurned c.args.turn.now xs []) (sym none) tt))
