use Rattle.std.proofs.Common.{◌+◌, ◌≡◌, length}
use Rattle.v6_options.proofs.WholeAreas.{IsPassed}
use Rattle.v6_options.proofs.deep.first_bad.Given as goal

abbrev pub invariant-options : goal.invariant-options
invariant-options l = record { passed : IsPassed l.area l.rest l.at; place : l.at + length l.rest ≡ length l.area }

abbrev pub decreases-options : goal.decreases-options
decreases-options l = length l.rest
