use Rattle.std.proofs.Common.{replicate, sym}
use Rattle.std.specs.Cmp.Lexicographic.{bytes_decides}
use Rattle.net_types.proofs.HexBlocks.{zeros_read}
use Rattle.net_types.proofs.hexadecimal.block_of.Goals as goal

pub returns-then-eq : goal.returns-then-eq
returns-then-eq c = sym (zeros_read c.args.block.now ((bytes_decides c.args.block.now (replicate 32 48)).0 (sym c.if-eq.ensures)))
