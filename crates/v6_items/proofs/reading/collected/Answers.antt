use Rattle.std.proofs.Common.{◌≡◌, List, [], ◌∷◌, ◌++◌, ◌∙◌, Option, Some, None, ap, sym, take, arith, append_assoc, rules}
use Rattle.std.specs.List.{cons_option, filter_map}
use Rattle.v6_options.specs.declared.ia.ItemSaid.{ItemSaid}
use Rattle.v6_options.specs.IaViews.{items_left}
use Rattle.v6_items.specs.Reading.{read_item}
use Rattle.v6_items.proofs.GrownLists.{take_front}
use Rattle.v6_items.proofs.reading.collected.Goals as goal

goes_on : (read : Option ItemSaid) (before rest : List ItemSaid) → (before ++ cons_option read []) ++ rest ≡ before ++ cons_option read rest
goes_on None before rest = append_assoc before [] rest
goes_on (Some item) before rest = append_assoc before (item ∷ []) rest

pub items-preserved : goal.items-preserved
items-preserved c =
    let rest : List ItemSaid = filter_map (read_item c.args.ia.kind) (items_left c.next.new.self) in
    let read : Option ItemSaid = read_item c.args.ia.kind c.in-Some.said in
    let left : items_left c.items.said-iterator ≡ c.in-Some.said ∷ items_left c.next.new.self = search rules in
    record {
      saids =
          ap (λ s. take 4 (s ++ rest)) c.in_ok-push_read.ensures.saids
          ∙ take_front 4 (c.items.saids.items ++ cons_option read []) rest
          ∙ ap (take 4) (goes_on read c.items.saids.items rest)
          ∙ ap (λ s. take 4 (c.items.saids.items ++ filter_map (read_item c.args.ia.kind) s)) (sym left)
          ∙ c.items.invariant.saids;
      few = omega (arith, c.in_ok-push_read.ensures.few);
    }
