use Rattle.std.proofs.Common.{◌≡◌, ◌++◌}
use Rattle.std.specs.List.{flat_map}
use Rattle.v4_options.specs.OptionValue.{bytes_at}
use Rattle.v4_options.specs.OptionViews.{view_instances, pieces_left}
use Rattle.v4_client.proofs.options.joined_at.Given as goal

abbrev pub invariant-pieces : goal.invariant-pieces
invariant-pieces l =
    l.bytes.items ++ flat_map (λ piece. piece) (pieces_left l.piece-iterator)
    ≡ bytes_at l.code (view_instances l.view)
