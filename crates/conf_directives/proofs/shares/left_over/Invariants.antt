use Rattle.std.proofs.Common.{◌≡◌, map, flat_map, take}
use Rattle.conf_directives.specs.Shares.{left_over}
use Rattle.conf_directives.proofs.shares.left_over.Given as goal

abbrev pub invariant-loop-word : goal.invariant-loop-word
invariant-loop-word l = map (λ part. part.now) l.parts.items ≡ flat_map left_over (map (λ word. word.now) (take l.word-index l.words))
