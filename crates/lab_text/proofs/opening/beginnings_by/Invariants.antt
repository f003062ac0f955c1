use Rattle.std.proofs.Common.{◌≡◌, map, take}
use Rattle.client_model.specs.Fitting.{AreBeginnings}
use Rattle.duid_text.specs.DuidTexts.{link_layer_duid}
use Rattle.iface_core.specs.Beginnings.{beginning_of}
use Rattle.lab_model.specs.Labs as model
use Rattle.lab_text.proofs.opening.beginnings_by.Given as goal

abbrev pub invariant-loop-one : goal.invariant-loop-one
invariant-loop-one l = record {
  are : map beginning_of l.all.items ≡ map (model.beginning (link_layer_duid l.first)) (take l.one-index l.managed);
  fit : AreBeginnings (map beginning_of l.all.items);
}
