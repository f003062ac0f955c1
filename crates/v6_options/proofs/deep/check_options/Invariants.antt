use Rattle.std.proofs.Common.{◌+◌, ◌≤◌, ◌≡◌, length}
use Rattle.v6_options.specs.Nesting.{malformed_in}
use Rattle.v6_options.specs.AreaSteps.{malformed_from}
use Rattle.v6_options.proofs.deep.check_options.Given as goal

abbrev pub invariant-options : goal.invariant-options
invariant-options l = record {
  judged : malformed_from l.cursor ≡ malformed_in l.begins l.area;
  place : l.cursor.at + length l.cursor.rest.now ≤ l.begins + length l.area;
}

abbrev pub decreases-options : goal.decreases-options
decreases-options l = length l.cursor.rest.now
