use Rattle.std.proofs.Common.{ℕ, ◌≡◌, List, ◌++◌, take, drop, length}
use Rattle.device_calls.specs.Worlds.{Seen}
use Rattle.device_calls.specs.Does.{Does}
use Rattle.device_calls.specs.Fronts.{HasBegun}
use Rattle.turn_model.specs.KeptFiles.{KeptFile, keeping}
use Rattle.life_files.specs.Keeping.{AreKept, AreKeptBut}
use Rattle.life_files.proofs.keeping.keep_each.Given as goal

abbrev pub invariant-loop-file : goal.invariant-loop-file
invariant-loop-file g l = record {
  -- what the rest does, and this before it, all do
  so_far : (rest : List KeptFile) (new : Seen) (text : List ℕ)
      → Does (keeping l.core.ifaces (drop l.file-index l.files)) rest (g.W.Outside.seen l.outside) new l.text.items text
      → Does (keeping l.core.ifaces l.initial.files) (take l.file-index l.files ++ rest) (g.W.Outside.seen l.initial.outside) new l.initial.text.items text;
  -- and so where it is cut off
  begun : (new : Seen)
      → HasBegun (keeping l.core.ifaces (drop l.file-index l.files)) (g.W.Outside.seen l.outside) new
      → HasBegun (keeping l.core.ifaces l.initial.files) (g.W.Outside.seen l.initial.outside) new;
  count : length l.files ≡ length l.initial.files;
  kept : AreKept l.core.ifaces (take l.file-index l.files);
  later : AreKeptBut l.touched l.core.ifaces (drop l.file-index l.files);
  waiting : (g.W.Outside.seen l.outside).waiting ≡ (g.W.Outside.seen l.initial.outside).waiting;
}
