use Rattle.world.proofs.SoundStores.{settled_goes}
use Rattle.world.proofs.SoundLaws.{sound_start, sound_after, reads_image, undone_image}
use Rattle.world.proofs.crash_laws.what_a_crash_leaves.Goals as goal

pub returns : goal.returns
returns c = record {
  begins = sound_start;
  goes_on = λ told call files sound leaves. sound_after told sound call files leaves;
  reads = λ told sound. reads_image told sound;
  undoes = λ told sound. undone_image told sound;
  settles = λ told name is. settled_goes name _ told.disk is;
}
