use Rattle.std.proofs.Common.{ℕ, ◌≡◌, ◌∷◌, sym, ap, subst, ◌∙◌, take, drop, length, ◌-◌}
use Rattle.std.specs.Prelude.{map}
use Rattle.client_core.specs.IfaceMachines.declared.outs.Sending.{Sending}
use Rattle.client_core.specs.IfaceMachines.Outcomes.{sending_of}
use Rattle.device_calls.specs.Does.{Does}
use Rattle.turn_model.specs.Turns.{offering}
use Rattle.life_asks.proofs.Parts.{offering_none, offering_more, first_and_rest}
use Rattle.life_devices.proofs.Successes.{if_ok}
use Rattle.device_calls.specs.Fronts.{HasBegun}
use Rattle.life_devices.proofs.Begins.{on_err, err_so}
use Rattle.life_asks.proofs.BegunParts.{offering_begun, offering_later}
use Rattle.life_asks.proofs.sends.+offer_all.Goals as goal

pub returns-in-empty-clause-does : goal.returns-in-empty-clause-does
returns-in-empty-clause-does g t c = offering_none c.args.sends.now c.args.unsent _ _ c.in-empty.len_below

pub returns-in_ok-taken-in-len1-up-clause-does : goal.returns-in_ok-taken-in-len1-up-clause-does
returns-in_ok-taken-in-len1-up-clause-does g t c =
    let parts : c.args.sends.now ≡ c.first-item.result ∷ take (length c.args.sends.now - 1) (drop 1 c.args.sends.now) =
    first_and_rest c.args.sends.now c.first-item.result c.in-len1-up.len_at_least
    ∙ ap (λ (s : Sending). s ∷ take (length c.args.sends.now - 1) (drop 1 c.args.sends.now)) (sym c.first-item.is) in
    if_ok c.offer_all.result
    (λ set does. offering_more c.args.sends.now
    (take (length c.args.sends.now - 1) (drop 1 c.args.sends.now)) c.first-item.result c.args.unsent set c.in_ok-taken-in-len1-up.taken _ _ _ _ _ _ parts
    c.in_ok-taken-in-len1-up.ensures.does
    (subst
    (λ (n : ℕ). Does (offering (map sending_of (take (length c.args.sends.now - 1) (drop 1 c.args.sends.now))) n) set (g.W.Outside.seen c.offer.new.outside)
    (g.W.Outside.seen c.offer_all.new.outside) c.offer.new.text.items c.offer_all.new.text.items)
    c.marked.ensures does))
    c.offer_all.ensures.does

pub returns-in_err-taken-in-len1-up-clause-begun : goal.returns-in_err-taken-in-len1-up-clause-begun
returns-in_err-taken-in-len1-up-clause-begun g t c =
    let parts : c.args.sends.now ≡ c.first-item.result ∷ take (length c.args.sends.now - 1) (drop 1 c.args.sends.now) =
    first_and_rest c.args.sends.now c.first-item.result c.in-len1-up.len_at_least
    ∙ ap (λ (s : Sending). s ∷ take (length c.args.sends.now - 1) (drop 1 c.args.sends.now)) (sym c.first-item.is) in
    on_err c.from_residual.result
    (offering_begun c.args.sends.now
    (take (length c.args.sends.now - 1) (drop 1 c.args.sends.now)) c.first-item.result c.args.unsent _ _ parts c.in_err-taken-in-len1-up.ensures.begun)

pub returns-in_ok-taken-in-len1-up-clause-begun : goal.returns-in_ok-taken-in-len1-up-clause-begun
returns-in_ok-taken-in-len1-up-clause-begun g t c =
    let parts : c.args.sends.now ≡ c.first-item.result ∷ take (length c.args.sends.now - 1) (drop 1 c.args.sends.now) =
    first_and_rest c.args.sends.now c.first-item.result c.in-len1-up.len_at_least
    ∙ ap (λ (s : Sending). s ∷ take (length c.args.sends.now - 1) (drop 1 c.args.sends.now)) (sym c.first-item.is) in
    err_so c.offer_all.result
    (λ begun. offering_later c.args.sends.now
    (take (length c.args.sends.now - 1) (drop 1 c.args.sends.now)) c.first-item.result c.args.unsent c.in_ok-taken-in-len1-up.taken _ _ _ _ _ parts
    c.in_ok-taken-in-len1-up.ensures.does
    (subst
    (λ (n : ℕ). HasBegun (offering (map sending_of (take (length c.args.sends.now - 1) (drop 1 c.args.sends.now))) n) (g.W.Outside.seen c.offer.new.outside)
    (g.W.Outside.seen c.offer_all.new.outside))
    c.marked.ensures begun))
    c.offer_all.ensures.begun
