use Rattle.std.proofs.Common.{◌≡◌, ◌≤◌, ◌<◌, true, length, take}
use Rattle.std.specs.Prelude.{map}
use Rattle.world.specs.StoreCalls.{Missing}
use Rattle.lease_file.specs.Quiet.{IsQuiet}
use Rattle.lease_file.specs.ToldStore.{told_files, told_calls, with_calls}
use Rattle.lease_file.specs.FileReads.{any_unread, got_reading, reading_calls}
use Rattle.lease_file.proofs.reading.read_files.Given as goal

abbrev pub invariant-loop-name : goal.invariant-loop-name
invariant-loop-name g l = record {
  later : g.S.Store.faults l.fn.store ≤ g.S.Store.faults l.store;
  failing : g.S.Store.failing l.store ≡ g.S.Store.failing l.fn.store;
  cause : any_unread l.gots.items ≡ true → g.S.Store.faults l.fn.store < g.S.Store.faults l.store;
  count : length l.gots.items ≡ l.name-index;
  quiet : IsQuiet (g.S.Store.failing l.fn.store) (g.S.Store.told l.fn.store)
      → (map got_reading l.gots.items ≡ map (λ _. Missing) (take l.name-index l.names)) × IsQuiet (g.S.Store.failing l.store) (g.S.Store.told l.store);
  calls : told_calls (g.S.Store.told l.store)
      ≡ with_calls (reading_calls (map (λ name. name.now) (take l.name-index l.names)) l.gots.items) (told_calls (g.S.Store.told l.fn.store));
  files : told_files (g.S.Store.told l.store) ≡ told_files (g.S.Store.told l.fn.store);
}
