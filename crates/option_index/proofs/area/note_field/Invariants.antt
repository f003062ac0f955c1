use Rattle.std.proofs.Common.{◌++◌, List, ◌-◌, ◌≤◌, length, drop}
use Rattle.v4_options.specs.OptionArea.{Instance, instances_in}
use Rattle.option_index.specs.Places.{Knows}
use Rattle.option_index.proofs.area.note_field.Given as goal

abbrev pub invariant-options : goal.invariant-options
invariant-options l = record {
  within : l.at ≤ length l.area;
  told : (all later : List Instance) → Knows l.areas all (instances_in l.area ++ later) l.initial.places
      → Knows l.areas all (instances_in (drop l.at l.area) ++ later) l.places;
}

abbrev pub decreases-options : goal.decreases-options
decreases-options l = length l.area - l.at
