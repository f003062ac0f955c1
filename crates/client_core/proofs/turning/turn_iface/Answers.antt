use Rattle.std.proofs.Common.{◌≡◌, ◌&&◌, not, false, Bool, sym, subst, ◌∙◌}
use Rattle.std.specs.Option.{is_some}
use Rattle.iface_core.specs.Inputs.{turn_of}
use Rattle.iface_core.specs.Outcomes.{asked_in}
use Rattle.client_core.proofs.SameRows.{keeps_leases, keeps_shown, no_more}
use Rattle.client_core.proofs.turning.turn_iface.Goals as goal

pub returns-then-is_gone-clause-leaves : goal.returns-then-is_gone-clause-leaves
returns-then-is_gone-clause-leaves c =
    keeps_shown c.args.own.now (turn_of c.args.turn.now) c.args.iface.now c.iface_turn.new.iface (asked_in c.args.outs.now) (asked_in c.iface_turn.new.outs)
    c.in_ok-iface_turn.ensures.goes
    (no_more c.len-told.result c.len.result _ _ (c.len-told.ensures ∙ c.args.outs.now.news.ok.0)
    (c.len.ensures ∙ c.iface_turn.new.outs.news.ok.0) c.if-is_new.false)

pub returns-clause-leaves : goal.returns-clause-leaves
returns-clause-leaves c =
    let few =
    no_more c.len-told.result c.len.result _ _ (c.len-told.ensures ∙ c.args.outs.now.news.ok.0)
    (c.len.ensures ∙ c.iface_turn.new.outs.news.ok.0) c.if-is_new.false in (
      keeps_shown c.args.own.now (turn_of c.args.turn.now) c.args.iface.now c.iface_turn.new.iface (asked_in c.args.outs.now) (asked_in c.iface_turn.new.outs)
          c.in_ok-iface_turn.ensures.goes few,
      keeps_leases c.args.own.now (turn_of c.args.turn.now) c.args.iface.now c.iface_turn.new.iface (asked_in c.args.outs.now) (asked_in c.iface_turn.new.outs)
          c.in_ok-iface_turn.ensures.goes few
          (subst (λ (had : Bool). (had && not (is_some c.iface_turn.new.iface.dhcp4.kept)) ≡ false) c.keeps_lease-had_lease.ensures
          (subst (λ (has : Bool). (c.keeps_lease-had_lease.result && not has) ≡ false) c.keeps_lease-has_lease.ensures
          (sym c.is_lost-is_gone.ensures ∙ c.if-is_gone.false))),
    )
