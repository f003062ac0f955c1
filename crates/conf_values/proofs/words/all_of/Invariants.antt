use Rattle.std.proofs.Common.{◌≡◌, ◌++◌, map, drop, option_map}
use Rattle.net_types.specs.Cutting.{read_all}
use Rattle.conf_values.proofs.words.all_of.Given as goal

abbrev pub invariant-loop-word : goal.invariant-loop-word
invariant-loop-word g l =
    read_all g.T.Word.spelled (map (λ word. word.now) l.words)
    ≡ option_map (λ values. l.read.items ++ values) (read_all g.T.Word.spelled (map (λ word. word.now) (drop l.word-index l.words)))
