use Rattle.std.proofs.Common.{◌++◌, length, take, drop, refl, sym, ap, ◌∙◌, append_assoc, Result, Ok, Err, OnErr}
use Rattle.std.proofs.lemmas.List.{take-append-drop, take_at}
use Rattle.lease_text.proofs.printing.append_values.Goals as goal

on_any_err : {T E P : Type 0} (result : Result T E) → P → OnErr result P
on_any_err (Ok value) proof = tt
on_any_err (Err error) proof = proof

pub returns-in_err-append_value-clause-err : goal.returns-in_err-append_value-clause-err
returns-in_err-append_value-clause-err c =
    let old = c.args.into.now.items in
    let before = c.loop-value.into.items in
    let new = c.append_value.new.into.items in
    let rest = drop (length before) new in
    let front = c.in_err-append_value.ensures.err ∙ c.loop-value.invariant in
    let whole = sym (take-append-drop (length before) new) ∙ ap (λ bytes. bytes ++ rest) front ∙ append_assoc old _ rest in
    on_any_err c.from_residual.result (ap (take (length old)) whole ∙ take_at old (_ ++ rest) (length old) refl)
