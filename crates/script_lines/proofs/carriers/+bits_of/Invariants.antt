use Rattle.script_lines.proofs.carriers.+bits_of.Given as goal

abbrev pub decreases-bits_of : goal.decreases-bits_of
decreases-bits_of l = l.count
