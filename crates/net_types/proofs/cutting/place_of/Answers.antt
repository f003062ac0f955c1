use Rattle.std.specs.Prelude.{◌==◌}
use Rattle.net_types.proofs.FirstPlace.{first_place}
use Rattle.net_types.proofs.cutting.place_of.Goals as goal

pub returns-clause-place : goal.returns-clause-place
returns-clause-place c = first_place (λ byte. byte == c.args.separator) c.args.bytes.now c.memchr.result c.memchr.ensures
