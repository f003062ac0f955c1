-- That a lease which stays held isn't over meanwhile. Moments are in milliseconds.
use Rattle.std.specs.Prelude.{◌≡◌, ℕ, true, List, ◌∷◌, ◌++◌, Some}
use Rattle.machine.specs.Since.{Always}
use Rattle.net_types.specs.declared.address.Mac.{Mac}
use Rattle.lease_text.specs.Leases.{LeaseContent}
use Rattle.v4_client.specs.Answers.{is_unexpired}
use Rattle.v4_client.specs.Clients.{held_of, is_bound}
use Rattle.client_model.specs.KeptLeases.{Beginning}
use Rattle.evidence_words.specs.IfaceLives.{Opening, Met, site_of, shown, iface_after}
use Rattle.lease_progress.specs.FairTurns.{GoesWell}
use Rattle.lease_progress.specs.LeaseStays.{Renewable}
use Rattle.lease_progress.specs.Serving.{Answered}

-- After some turns a lease is held, and it isn't over at this moment.
pub record HoldsAt (own : List Mac) (b : Beginning) (o : Opening) (mets : List Met) (at : ℕ) : Type 0 where
  pub lease : LeaseContent
  pub held : held_of (iface_after own b o mets).dhcp4 ≡ Some lease
  pub unexpired : is_unexpired lease.first lease.lease at ≡ true

-- Since one was granted a lease is held after each turn, and isn't over before the next one comes.
abbrev pub HoldsMeanwhile : Type 0
HoldsMeanwhile = (own : List Mac) (b : Beginning) (o : Opening) (met : Met) (mets later earlier : List Met)
    (answered : Answered) (wait : ℕ) → GoesWell own b o (met ∷ mets) answered wait
    → Always (Renewable (site_of own b o) answered wait) (shown o (met ∷ mets))
    → mets ≡ later ++ earlier → is_bound (iface_after own b o earlier).dhcp4.state ≡ true
    → HoldsAt own b o mets met.turn.at
