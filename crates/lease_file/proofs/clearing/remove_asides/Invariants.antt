use Rattle.std.proofs.Common.{◌≡◌, ◌≤◌, ◌<◌, ◌++◌, true, length}
use Rattle.std.specs.Prelude.{option_map, IsSome}
use Rattle.std.specs.List.{AllByRecursion}
use Rattle.std.specs.String.{string_bytes}
use Rattle.std.specs.Vec.Iter.{into_iter_items, into_iter_len}
use Rattle.world.specs.FileNames.{IsFileName}
use Rattle.lease_file.specs.ToldStore.{told_files, told_calls, with_calls}
use Rattle.lease_file.specs.AsideCalls.{any_left, removal_calls}
use Rattle.file_choices.specs.StoreWalks.{Answered}
use Rattle.lease_file.specs.AsideFiles.{without, TakesFiles}
use Rattle.lease_file.proofs.Removals.{names_of}
use Rattle.lease_file.proofs.clearing.remove_asides.Given as goal

abbrev pub invariant-loop-name : goal.invariant-loop-name
invariant-loop-name g l = record {
  later : g.S.Store.faults l.fn.store ≤ g.S.Store.faults l.store;
  failing : g.S.Store.failing l.store ≡ g.S.Store.failing l.fn.store;
  cause : any_left l.removed.items ≡ true → g.S.Store.faults l.fn.store < g.S.Store.faults l.store;
  names : names_of l.removed.items ++ into_iter_items l.name-iterator ≡ l.fn.names.items;
  count : into_iter_len l.name-iterator ≡ length (into_iter_items l.name-iterator);
  fit : AllByRecursion (λ name. IsFileName (string_bytes name)) (into_iter_items l.name-iterator);
  calls : told_calls (g.S.Store.told l.store) ≡ with_calls (removal_calls l.removed.items) (told_calls (g.S.Store.told l.fn.store));
  taken : TakesFiles (g.S.Store.failing l.fn.store) l.removed.items (told_files (g.S.Store.told l.fn.store)) (told_files (g.S.Store.told l.store));
  files : IsSome (g.S.Store.failing l.fn.store)
      → told_files (g.S.Store.told l.store) ≡ option_map (without l.removed.items) (told_files (g.S.Store.told l.fn.store));
  answered : Answered (g.S.Store.failing l.fn.store) (removal_calls l.removed.items) (g.S.Store.told l.fn.store) (g.S.Store.told l.store);
}
