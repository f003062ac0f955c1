use Rattle.live_words.proofs.SpecsRead.{SpecsSoFar}
use Rattle.live_words.proofs.iface_words.specs_of.Given as goal

abbrev pub invariant-loop-word : goal.invariant-loop-word
invariant-loop-word l = SpecsSoFar l.words l.word-index l.number l.specs
