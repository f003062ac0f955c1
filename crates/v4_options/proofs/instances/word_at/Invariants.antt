use Rattle.std.proofs.Common.{◌≡◌, ◌≤◌, ◌++◌, length, take}
use Rattle.std.specs.List.{flat_map}
use Rattle.v4_options.specs.OptionValue.{bytes_at}
use Rattle.v4_options.specs.OptionViews.{view_instances, pieces_left}
use Rattle.v4_options.proofs.instances.word_at.Given as goal

abbrev pub invariant-pieces : goal.invariant-pieces
invariant-pieces l =
    (length l.word ≡ 4)
    × (l.filled ≤ 4)
    × (take l.filled l.word ++ flat_map (λ piece. piece) (pieces_left l.piece-iterator) ≡ bytes_at l.code (view_instances l.view))
