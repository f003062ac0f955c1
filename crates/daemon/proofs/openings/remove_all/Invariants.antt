use Rattle.std.proofs.Common.{ℕ, ◌≡◌, List, drop}
use Rattle.std.specs.Prelude.{map}
use Rattle.std.specs.String.{string_bytes}
use Rattle.device_calls.specs.Worlds.{Seen}
use Rattle.device_calls.specs.Does.{Does}
use Rattle.device_calls.specs.Fronts.{HasBegun}
use Rattle.turn_model.specs.Opening.{removing}
use Rattle.daemon.proofs.openings.remove_all.Given as goal

abbrev pub invariant-loop-name : goal.invariant-loop-name
invariant-loop-name g l = record {
  -- what the rest does, and this before it, all do
  so_far : (x : Unit {0}) (new : Seen) (text : List ℕ)
      → Does (removing (map string_bytes (drop l.name-index l.names))) x (g.W.Outside.seen l.outside) new l.text.items text
      → Does (removing (map string_bytes l.names)) x (g.W.Outside.seen l.fn.outside) new l.fn.text.items text;
  -- and so where it is cut off
  begun : (new : Seen)
      → HasBegun (removing (map string_bytes (drop l.name-index l.names))) (g.W.Outside.seen l.outside) new
      → HasBegun (removing (map string_bytes l.names)) (g.W.Outside.seen l.fn.outside) new;
  waiting : (g.W.Outside.seen l.outside).waiting ≡ (g.W.Outside.seen l.fn.outside).waiting;
}
