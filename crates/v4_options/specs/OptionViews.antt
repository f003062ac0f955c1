-- What a view of a message's options holds.
use Rattle.std.specs.Prelude.{ℕ, ◌+◌, List, ◌++◌, length, Option}
use Rattle.v4_options.specs.declared.view.Areas.{Areas}
use Rattle.v4_options.specs.declared.view.OptionView.{OptionView}
use Rattle.v4_options.specs.declared.instances.Pieces.{Pieces}
use Rattle.v4_options.specs.OptionArea.{Instance}
use Rattle.v4_options.specs.OptionValue.{pieces_in}
use Rattle.v4_options.specs.Overload.{Begins, overload_in, instances_over, malformed_over}

-- the bytes of the areas options, file and sname
abbrev pub area_bytes : Areas → List ℕ × List ℕ × List ℕ
area_bytes areas = (areas.options.now, areas.file.now, areas.sname.now)

-- the three areas laid end to end
abbrev pub end_to_end : Areas → Begins
end_to_end areas = record {
  options = 0;
  file = length areas.options.now;
  sname = length areas.options.now + length areas.file.now;
}

-- the first malformed option of the areas that are read
abbrev pub malformed_of : Areas → Option ℕ
malformed_of areas =
    malformed_over (end_to_end areas) (overload_in areas.options.now) areas.options.now areas.file.now areas.sname.now

-- the instances of a view, in the order options, file, sname
abbrev pub view_instances : OptionView → List Instance
view_instances view = instances_over view.overload view.areas.options.now view.areas.file.now view.areas.sname.now

-- the values of a code that are left of a walk
abbrev pub pieces_left : Pieces → List (List ℕ)
pieces_left walk =
    pieces_in walk.code walk.options.now ++ pieces_in walk.code walk.file.now ++ pieces_in walk.code walk.sname.now
