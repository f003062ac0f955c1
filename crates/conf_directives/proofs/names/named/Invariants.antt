use Rattle.std.proofs.Common.{◌≡◌, map, drop}
use Rattle.conf_directives.specs.Names.{named}
use Rattle.conf_directives.proofs.names.named.Given as goal

abbrev pub invariant-loop-name : goal.invariant-loop-name
invariant-loop-name g l = named (map (λ row. (row.0.now, row.1)) (drop l.name-index l.rows)) l.word ≡ named (map (λ row. (row.0.now, row.1)) l.rows) l.word
