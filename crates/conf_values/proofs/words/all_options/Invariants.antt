use Rattle.std.proofs.Common.{◌≡◌, map, flat_map, take}
use Rattle.conf_values.specs.Words.{options_of}
use Rattle.conf_values.proofs.words.all_options.Given as goal

abbrev pub invariant-loop-text : goal.invariant-loop-text
invariant-loop-text l = map (λ word. word.now) l.words.items ≡ flat_map options_of (map (λ text. text.now) (take l.text-index l.texts))
