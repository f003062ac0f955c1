use Rattle.std.proofs.Common.{[], ◌∷◌, ◌++◌, Result, Ok, Err, OnErr, ap, ◌∙◌, subst, append_assoc}
use Rattle.net_types.specs.Cutting.{StandsInFront}
use Rattle.line_grammar.proofs.Fronts.{less_stands}
use Rattle.line_grammar.proofs.field.Tuple2AppendField.append.Goals as goal

on_any_err : {T E P : Type 0} (result : Result T E) → P → OnErr result P
on_any_err (Ok value) proof = tt
on_any_err (Err error) proof = proof

pub returns-in_err-append-2-clause-err : goal.returns-in_err-append-2-clause-err
returns-in_err-append-2-clause-err g c =
    let front = c.in_ok-append_bytes.ensures.ok ∙ ap (λ bytes. bytes ++ 32 ∷ []) c.in_ok-append.ensures.ok ∙ append_assoc c.args.into.now.items _ (32 ∷ []) in
    on_any_err c.from_residual-in_err-append-2.result
    (less_stands c.args.into.now.items _ c.append-2.new.into.items
    (subst (λ bytes. StandsInFront bytes c.append-2.new.into.items) front c.in_err-append-2.ensures.err))
