-- A lease that was kept is the interface's own.
use Rattle.std.specs.Prelude.{flat_map}
use Rattle.device_calls.specs.Calls.{store_call}
use Rattle.evidence_words.specs.TurnModel.Loading.{lease4_file, lease6_file}
use Rattle.evidence_words.proofs.TurnModel.OwnLeases.{loaded, loaded6}
use Rattle.evidence_words.specs.HostDuids.{read_among}
use Rattle.evidence.specs.KeptOwn.{KeptAreOwn}

pub kept_are_own : KeptAreOwn
kept_are_own opening m = record {
  four = loaded m.spec (read_among (lease4_file m) (flat_map store_call opening));
  six = loaded6 m.spec (read_among (lease6_file m) (flat_map store_call opening));
}
