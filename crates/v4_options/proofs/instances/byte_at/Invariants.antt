use Rattle.std.proofs.Common.{◌≡◌, ◌++◌}
use Rattle.std.specs.Option.{option_to_list}
use Rattle.std.specs.List.{flat_map}
use Rattle.v4_options.specs.OptionValue.{only_byte, byte_of}
use Rattle.v4_options.specs.OptionViews.{view_instances, pieces_left}
use Rattle.v4_options.proofs.instances.byte_at.Given as goal

abbrev pub invariant-pieces : goal.invariant-pieces
invariant-pieces l =
    only_byte (option_to_list l.only ++ flat_map (λ piece. piece) (pieces_left l.piece-iterator))
    ≡ byte_of l.code (view_instances l.view)
