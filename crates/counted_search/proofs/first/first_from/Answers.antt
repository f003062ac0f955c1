use Rattle.counted_search.proofs.FirstKeys.{none_read, first_read}
use Rattle.counted_search.proofs.first.first_from.Goals as goal

pub returns-clause-none : goal.returns-clause-none
returns-clause-none g c =
    none_read g.met.K.Ord.total c.args.key.now c.args.keys.now c.requires
    (λ x. x.now) c.beginning.result c.get.result c.beginning.ensures.begins c.get.ensures.lookup.3

pub returns-clause-first : goal.returns-clause-first
returns-clause-first g c =
    first_read g.met.K.Ord.total c.args.key.now c.args.keys.now c.requires
    (λ x. x.now) c.beginning.result c.get.result c.beginning.ensures.begins c.get.ensures.lookup.3
