use Rattle.std.proofs.Common.{◌+◌, ◌≤◌, length}
use Rattle.std.specs.Prelude.{vec_len}
use Rattle.std.specs.Vec.{vec_capacity}
use Rattle.counted_search.proofs.Merges.{Merged}
use Rattle.counted_search.proofs.merge.beyond_into.Given as goal

abbrev pub invariant-lacked : goal.invariant-lacked
invariant-lacked g l = record {
  merged : Merged g.met.K.Ord.total l.keys l.others l.found.items l.key-index l.place;
  filled : vec_len l.found ≤ l.key-index;
  room : length l.keys ≤ vec_capacity l.found;
  within : l.place ≤ length l.others;
  grows : l.initial.steps ≤ l.steps;
  steps : l.steps ≤ l.initial.steps + l.key-index + l.place;
}
