use Rattle.std.proofs.Common.{◌≡◌, ◌+◌, ◌<◌, true, false, length, take, drop, arith, eqb}
use Rattle.std.proofs.lemmas.Bool.{eqb-false}
use Rattle.domain_names.specs.DomainName.{is_label}
use Rattle.domain_names.specs.CompressedSteps.{with_label}
use Rattle.domain_names.proofs.Reading.{read_label, read_pointer, read_end, refuses_label, refuses_long}
use Rattle.domain_names.proofs.compressed.read_name.Goals as goal

pub returns-then-not-is_label : goal.returns-then-not-is_label
returns-then-not-is_label c =
    let bad : is_label (take c.in-Label.len (drop (c.pieces.at + 1) c.args.value.now)) ≡ false = cc in
    refuses_label _ _ _ _ _ _ c.pieces.invariant c.in-Label.len c.in-Label.ensures.exact bad

pub returns-in-Err : goal.returns-in-Err
returns-in-Err c =
    let long : 253 < length (with_label c.pieces.name.items (take c.in-Label.len (drop (c.pieces.at + 1) c.args.value.now))) =
    rw (← c.label_at-label.ensures) c.in-Err.ensures.long in
    refuses_long _ _ _ _ _ _ c.pieces.invariant c.in-Label.len c.in-Label.ensures.exact long

pub pieces-preserved-in-Ok : goal.pieces-preserved-in-Ok
pieces-preserved-in-Ok c =
    let good : is_label c.label_at-label.result.now ≡ true = cc in
    let next = read_label _ _ _ _ _ _ c.pieces.invariant c.in-Label.len c.label_at-label.result.now c.in-Label.ensures.exact c.label_at-label.ensures good
    c.in-Ok.ensures.short in
    rw (← c.in-Ok.ensures.added) at next

pub pieces-preserved : goal.pieces-preserved
pieces-preserved c =
    let next = read_pointer _ _ _ _ _ _ c.pieces.invariant c.in-Pointer.target c.in-Pointer.ensures.exact in
    rw (← c.unwrap_or.ensures) at next

pub returns-in-End : goal.returns-in-End
returns-in-End c =
    let filled : eqb (length c.pieces.name.items) 0 ≡ false = cc in
    let named = read_end _ _ _ _ _ _ c.pieces.invariant c.in-End.ensures.exact (omega (arith, eqb-false _ _ filled)) in
    rw (← c.unwrap_or-in-End.ensures) at named
