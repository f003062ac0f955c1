use Rattle.std.proofs.Common.{◌≡◌, Bool, true, false, not, refl, rules}
use Rattle.lab_text.proofs.SeenExchanges.{sees_new}
use Rattle.lab_text.proofs.exchanges.Seen.with.Goals as goal

lacks : (is_new has : Bool) → is_new ≡ true → is_new ≡ not has → has ≡ false
lacks is_new true new is = cc
lacks is_new false new is = refl

pub returns-then-is_new : goal.returns-then-is_new
returns-then-is_new c =
    sees_new _ (λ a b. search rules) c.args.self (record { keys = c.insert.new.self; xids = c.args.self.xids }) c.args.exchange
    (lacks _ _ c.if-is_new.true c.in_ok-is_new.ensures.added)
    c.in_ok-is_new.ensures.updates.0 refl
