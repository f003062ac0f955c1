-- The messages that the turns of a life show are those of what the interface says.
use Rattle.std.proofs.Common.{◌≡◌, List, ◌∷◌, map}
use Rattle.net_types.specs.declared.address.Mac.{Mac}
use Rattle.client_model.specs.ClientSettings.{ask_of}
use Rattle.client_model.specs.Fitting.{FitsBeginning}
use Rattle.client_model.specs.IfaceTurns.{iface_turned}
use Rattle.client_model.specs.KeptLeases.{Beginning}
use Rattle.client_model.proofs.AskFitting.{ask_fits}
use Rattle.evidence_words.specs.IfaceLives.{Opening, Met, site_of, entry_of, iface_after, IsLived}
use Rattle.evidence_words.specs.Inputs.{offers_at}
use Rattle.lease_evidence.specs.Exchanges.{messages_at}
use Rattle.lease_evidence.specs.HeldLeases.{KeepsTyped}
use Rattle.lease_evidence.proofs.HeldRuns.{turn_said_fits, turn_said_own}
use Rattle.lease_evidence.proofs.Spoken.{message_said, messages_are}
use Rattle.lease_progress.proofs.Lived.{each_offered}

pub messages : (own : List Mac) (b : Beginning) (fits : FitsBeginning b) (typed : KeepsTyped b) (o : Opening) (met : Met) (mets : List Met)
    → IsLived own b o (met ∷ mets)
    → messages_at (site_of own b o) (entry_of met) ≡ map message_said (iface_turned own met.turn (iface_after own b o mets)).said
messages own b fits typed o met mets lived =
    messages_are (site_of own b o) (ask_fits b.duid b.managed fits.duid fits.managed) fits.managed.mac.six ⊥
    (iface_turned own met.turn (iface_after own b o mets)).said (offers_at (site_of own b o) (entry_of met))
    (each_offered b.managed.spec (ask_of b.duid b.managed) ⊥ (iface_turned own met.turn (iface_after own b o mets)).said
    (offers_at (site_of own b o) (entry_of met)) lived.3 (λ never. absurd never))
    (turn_said_fits own b o met mets fits typed lived) (turn_said_own own b o met mets fits typed lived)
