use Rattle.std.proofs.Common.{ℕ, ◌≡◌, List, ◌++◌, map, drop}
use Rattle.std.specs.Prelude.{flat_map}
use Rattle.client_model.specs.Fitting.{AreBeginnings}
use Rattle.client_core.specs.IfaceMachines.Beginnings as code
use Rattle.device_calls.specs.Worlds.{Seen}
use Rattle.device_calls.specs.Does.{Does}
use Rattle.device_calls.specs.Fronts.{HasBegun}
use Rattle.turn_model.specs.Loading.{Loaded, loading, files_by, beginning_of}
use Rattle.life_files.proofs.files.load_leases.Given as goal

abbrev pub invariant-loop-m : goal.invariant-loop-m
invariant-loop-m g l = record {
  front : List Loaded;
  -- what the rest does, and this before it, all do
  so_far : (rest : List Loaded) (new : Seen) (text : List ℕ)
      → Does (loading (drop l.m-index l.managed)) rest (g.W.Outside.seen l.outside) new l.text.items text
      → Does (loading l.managed) (front ++ rest) (g.W.Outside.seen l.fn.outside) new l.fn.text.items text;
  -- and so where it is cut off
  begun : (new : Seen)
      → HasBegun (loading (drop l.m-index l.managed)) (g.W.Outside.seen l.outside) new → HasBegun (loading l.managed) (g.W.Outside.seen l.fn.outside) new;
  beginnings_are : map code.beginning_of l.beginnings.items ≡ map (beginning_of l.duid.bytes.items) front;
  files_are : l.files.items ≡ l.fn.files.items ++ flat_map files_by front;
  fit : AreBeginnings (map code.beginning_of l.beginnings.items);
  waiting : (g.W.Outside.seen l.outside).waiting ≡ (g.W.Outside.seen l.fn.outside).waiting;
}
