-- Each number whose bit is set is written in its turn.
use Rattle.std.proofs.Common.{sym, ap, ◌∙◌, arith}
use Rattle.std.proofs.lemmas.Result.{IfOk-weaker}
use Rattle.transcript_text.proofs.CarrierSteps.{written_none, written_up, written_down, all_with_some, all_with_none}
use Rattle.transcript_text.proofs.carriers.append_carriers.Goals as goal
use Rattle.transcript_text.proofs.carriers.append_carriers.Goals.{then-is_up+in_default, else-is_up}

pub loop-index-init : goal.loop-index-init
loop-index-init c = written_none c.args.up c.args.into.now.items

pub loop-index-preserved : goal.loop-index-preserved
loop-index-preserved c = elim c.if-is_up.branch [
  | then-is_up+in_default w ↦
      written_up c.args.up c.args.into.now.items c.loop-index.into.items c.if-is_up.into.items c.loop-index.some c.if-is_up.some c.loop-index.index
      (omega arith) (sym w.if-is_up.ensures) (ap (λ v. v.items) w.into-is ∙ w.in_default.ensures.ok) w.some-is c.loop-index.invariant
  | else-is_up w ↦
      rw (w.into-is, w.some-is) (written_down c.args.up c.args.into.now.items c.loop-index.into.items c.loop-index.some c.loop-index.index
      (omega arith) (sym w.if-is_up.ensures) c.loop-index.invariant)
]

pub returns-then-some-clause-ok : goal.returns-then-some-clause-ok
returns-then-some-clause-ok c =
    all_with_some c.args.up c.args.into.now.items c.loop-index.into.items c.loop-index.some c.loop-index.index c.if-some.true
    (omega arith) c.loop-index.invariant

pub returns-else-some-clause-ok : goal.returns-else-some-clause-ok
returns-else-some-clause-ok c =
    IfOk-weaker c.append_bytes.result _ _
    (λ _ text. all_with_none c.args.up c.args.into.now.items c.loop-index.into.items c.append_bytes.new.into.items c.loop-index.some c.loop-index.index
    c.if-some.false
    (omega arith) text c.loop-index.invariant)
    c.append_bytes.ensures.ok
