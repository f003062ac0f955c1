use Rattle.std.proofs.Common.{ℕ, ◌≡◌, List, Option, Some, take, drop}
use Rattle.world.specs.declared.rows.HostRow.{HostRow}
use Rattle.host_model.specs.HostTurn.{after_changes}
use Rattle.device_calls.specs.Worlds.{Seen}
use Rattle.device_calls.specs.Does.{Does}
use Rattle.device_calls.specs.Fronts.{HasBegun}
use Rattle.turn_model.specs.Turns.{changing}
use Rattle.life_asks.specs.Tables.{known_in}
use Rattle.life_asks.proofs.hosts.make_changes.Given as goal

abbrev pub invariant-loop-one : goal.invariant-loop-one
invariant-loop-one g l = record {
  -- what the rest does, and this before it, all do
  so_far : (known : List HostRow) (result : Option (List HostRow)) (new : Seen) (text : List ℕ)
      → Does (changing (drop l.one-index l.changes) (known_in l.table (after_changes (take l.one-index l.changes) known))) result
      (g.W.Outside.seen l.outside) new l.text.items text
      → Does (changing l.changes (Some known)) result (g.W.Outside.seen l.fn.outside) new l.fn.text.items text;
  -- and so where it is cut off
  begun : (known : List HostRow) (new : Seen)
      → HasBegun (changing (drop l.one-index l.changes) (known_in l.table (after_changes (take l.one-index l.changes) known))) (g.W.Outside.seen l.outside) new
      → HasBegun (changing l.changes (Some known)) (g.W.Outside.seen l.fn.outside) new;
  waiting : (g.W.Outside.seen l.outside).waiting ≡ (g.W.Outside.seen l.fn.outside).waiting;
}
