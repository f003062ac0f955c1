use Rattle.std.specs.String.{string_bytes}
use Rattle.std.proofs.lemmas.List.{map_push}
use Rattle.domain_names.proofs.Names.{one_more_name, no_name_more, names_whole, names_some}
use Rattle.domain_names.proofs.search.read_names.Goals as goal

pub returns-in_default : goal.returns-in_default
returns-in_default c = no_name_more _ _ _ c.names.invariant (rw c.in_default.is at c.in_ok-name.ensures.name) c.names-test.true

pub names-preserved : goal.names-preserved
names-preserved c =
    let more = one_more_name _ _ _ c.names.invariant (string_bytes c.in-Some.name) c.in-Some.next (rw c.in-Some.is at c.in_ok-name.ensures.name) in
    rw (c.in_ok-push.ensures.items, map_push (λ name. string_bytes name) c.names.names.items c.in-Some.name) more

pub returns : goal.returns
returns c =
    let whole = names_whole _ _ _ c.names.invariant c.names-test.false in
    (names_some (λ name. string_bytes name) c.args.value.now c.names.names.items c.requires whole, whole)
