use Rattle.std.proofs.Common.{◌≡◌, ◌++◌}
use Rattle.std.specs.List.{flat_map}
use Rattle.v4_options.specs.OptionViews.{pieces_left}
use Rattle.v4_options.proofs.instances.join.Given as goal

abbrev pub invariant-loop-piece : goal.invariant-loop-piece
invariant-loop-piece l =
    l.value.items ++ flat_map (λ piece. piece) (pieces_left l.piece-iterator)
    ≡ l.initial.value.items ++ flat_map (λ piece. piece) (pieces_left l.initial.piece-iterator)
