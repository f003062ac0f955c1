use Rattle.std.proofs.Common.{◌≡◌, length, refl, rules}
use Rattle.row_reasons.specs.declared.lived.Lived.{Lived}
use Rattle.row_reasons.proofs.TurnLaws.{lived_on}
use Rattle.row_reasons.proofs.lived.Lived.with_turn.Goals as goal

pub returns : goal.returns
returns c = λ living judged at event bytes closes holds.
    let next : Lived = record { opening = c.args.self.opening; turns = c.push.new.self; judged = c.judged_after-judged.result } in
    let number : c.len-number.result ≡ length c.args.self.turns.items = search rules in
    let count : c.len.result ≡ length c.push.new.self.items = search rules in
    lived_on c.args.self next c.args.turn c.len-number.result c.len.result refl c.in_ok-push.ensures.items number count c.args.rows
    living closes judged holds at event bytes c.judged_after-judged.ensures
