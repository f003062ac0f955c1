use Rattle.net_types.proofs.Checksum.{sum_plain, fit_bytes}
use Rattle.net_types.proofs.sum.calls.block_of.Goals as goal

pub returns-clause-sum : goal.returns-clause-sum
returns-clause-sum c = let e = sum_plain c.args.block.now (fit_bytes c.args.block.now c.type_inv.block) in cc
