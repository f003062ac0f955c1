use Rattle.std.proofs.Common.{List, Some, ap, subst}
use Rattle.std.specs.Prelude.{map, String}
use Rattle.std.specs.Global.{Global}
use Rattle.std.specs.String.{string_bytes}
use Rattle.device_calls.specs.Does.{Does}
use Rattle.turn_model.specs.Opening.{clearing_listed}
use Rattle.life_devices.specs.Answered.{names_of}
use Rattle.life_devices.proofs.Successes.{if_ok}
use Rattle.daemon.proofs.OpeningSteps.{cleared_unlisted, cleared}
use Rattle.device_calls.specs.Calls.{ListAsides}
use Rattle.device_calls.specs.Fronts.{HasBegun}
use Rattle.device_calls.proofs.Begun.{begun_ask}
use Rattle.life_devices.proofs.Begins.{on_err, err_so}
use Rattle.life_files.proofs.BegunFiles.{cleared_later}
use Rattle.daemon.proofs.openings.clear.Goals as goal

pub returns-in-None-clause-does : goal.returns-in-None-clause-does
returns-in-None-clause-does g c = cleared_unlisted (names_of c.in_ok-list.field-0) _ _ _ _ _ (ap names_of c.in-None.is) c.in_ok-list.ensures.does

pub returns-in-Some-clause-does : goal.returns-in-Some-clause-does
returns-in-Some-clause-does g c = if_ok c.remove_all.result
    (λ x did. cleared (names_of c.in_ok-list.field-0) (map string_bytes c.in-Some.names.items) x _ _ _ _ _ _
    (ap names_of c.in-Some.is) c.in_ok-list.ensures.does
    (subst
    (λ (names : List (String Global)). Does (clearing_listed (Some (map string_bytes names))) x (g.W.Outside.seen c.list.new.outside)
    (g.W.Outside.seen c.remove_all.new.outside) c.list.new.text.items c.remove_all.new.text.items)
    c.deref.ensures.value did))
    c.remove_all.ensures.does

pub returns-in_err-list-clause-begun : goal.returns-in_err-list-clause-begun
returns-in_err-list-clause-begun g c =
    on_err c.from_residual.result (begun_ask ListAsides clearing_listed _ _ c.in_err-list.ensures.begun)

pub returns-in-Some-clause-begun : goal.returns-in-Some-clause-begun
returns-in-Some-clause-begun g c =
    err_so c.remove_all.result
    (λ begun. cleared_later (names_of c.in_ok-list.field-0) (map string_bytes c.in-Some.names.items) _ _ _ _ _
    (ap names_of c.in-Some.is) c.in_ok-list.ensures.does
    (subst
    (λ (names : List (String Global)). HasBegun (clearing_listed (Some (map string_bytes names))) (g.W.Outside.seen c.list.new.outside)
    (g.W.Outside.seen c.remove_all.new.outside))
    c.deref.ensures.value begun))
    c.remove_all.ensures.begun
