use Rattle.std.proofs.Common.{◌≡◌, ◌+◌, length}
use Rattle.std.specs.Prelude.{unwrap_or}
use Rattle.v4_options.specs.OptionArea.{malformed_in}
use Rattle.v4_options.specs.Overload.{overload_in}
use Rattle.v4_options.proofs.area.check_area.Given as goal

abbrev pub invariant-options : goal.invariant-options
invariant-options l = record {
  goes_on : malformed_in l.begins l.area ≡ malformed_in l.at l.rest;
  place : l.at + length l.rest ≡ l.begins + length l.area;
  told : unwrap_or l.overload (overload_in l.rest) ≡ overload_in l.area;
}

abbrev pub decreases-options : goal.decreases-options
decreases-options l = length l.rest
