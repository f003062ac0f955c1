use Rattle.std.proofs.Common.{◌≡◌, ℕ, suc, ◌+◌, ◌<◌, ◌≤◌, List, [], ◌∷◌, ◌++◌, ◌∙◌, drop, length, map, sym, subst, ap, arith, append_assoc}
use Rattle.std.proofs.lemmas.List.{append-nil}
use Rattle.settings.specs.declared.dhcp6_conf.IaConf.{IaConf}
use Rattle.evidence_words.specs.ClientModel.ClientSettings6.{ask_for}
use Rattle.item_judge.specs.declared.table.ItemTable.{ItemTable}
use Rattle.item_judge.specs.Judging.{TellsTables}
use Rattle.item_judge.proofs.OwnWalks.{first_more, none_after}
use Rattle.item_judge.proofs.judge.first_tables.Goals as goal

pub confs-preserved : goal.confs-preserved
confs-preserved c = λ site rest tells.
    let confs = c.args.confs.now in
    let one : ItemTable = record { ask = c.ask_for.result; terms = c.new.result } in
    let less : c.confs.conf-index < length confs = omega (arith, c.confs-test.true) in
    let next : c.confs.conf-index + 1 ≡ suc c.confs.conf-index = omega arith in
    let after = subst (λ (k : ℕ). TellsTables site [] rest (map ask_for (drop k confs))) next tells in
    let was = c.confs.invariant site (one ∷ rest) (first_more site confs c.confs.conf-index _ less one rest c.ask_for.ensures c.new.ensures after) in
    let all = ap (λ (xs : List ItemTable). xs ++ rest) c.in_ok-push.ensures.items ∙ append_assoc c.confs.tables.items (one ∷ []) rest in
    subst (λ (xs : List ItemTable). TellsTables site [] xs (map ask_for confs)) (sym all) was

pub returns : goal.returns
returns c = λ site.
    let confs = c.args.confs.now in
    let over : length confs ≤ c.confs.conf-index = omega (arith, c.confs-test.false) in
    let none : drop c.confs.conf-index confs ≡ [] = none_after confs c.confs.conf-index over in
    subst (λ (xs : List ItemTable). TellsTables site [] xs (map ask_for confs)) (append-nil c.confs.tables.items)
    (c.confs.invariant site [] (subst (λ (xs : List IaConf). TellsTables site [] [] (map ask_for xs)) (sym none) tt))
