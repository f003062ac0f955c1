-- Each message that a client of a lab says, in its opening and in a turn, is one that some client may say, and fits its fields.
use Rattle.std.proofs.Common.{◌≡◌, ◌||◌, Bool, true, false, List, [], ◌∷◌, map, Option, IfSome, refl, sym, subst}
use Rattle.std.specs.List.{AllByRecursion}
use Rattle.net_types.proofs.AllLaws.{all_both}
use Rattle.net_types.specs.declared.address.Mac.{Mac}
use Rattle.lease_text.specs.Bounds.{IsTyped}
use Rattle.lease_text.specs.Leases.{LeaseContent}
use Rattle.v4_frames.specs.declared.sent.Sent4.{Sent4}
use Rattle.v4_frames.specs.declared.speaker.Speaker.{Speaker}
use Rattle.v4_frames.specs.InRange.{FitsMac, FitsSent}
use Rattle.v4_frames.specs.Ours.{is_ours}
use Rattle.v4_client.specs.declared.states.Say4.{Say4}
use Rattle.v4_client.specs.Saying.{sent_of}
use Rattle.settings.specs.declared.interfaces.Managed.{Managed}
use Rattle.client_model.specs.declared.interfaces.Iface.{Iface}
use Rattle.client_model.specs.IfaceTurns.{Turn, iface_turned}
use Rattle.client_model.specs.Messages.{Said, Dhcp4, Arp, Dhcp6}
use Rattle.evidence_words.specs.IfaceLives.{Met}
use Rattle.lease_evidence.specs.HeldLeases.{KeepsTyped}
use Rattle.lease_evidence.specs.OwnMessages.{speaker_of}
use Rattle.lease_evidence.proofs.HeldRuns.{opening_said_fits, opening_said_own, turn_said_fits, turn_said_own}
use Rattle.lease_evidence.proofs.OwnProofs.{own_mac}
use Rattle.lease_evidence.proofs.Spoken.{FitsSaid, OwnSaid}
use Rattle.lab_peer.specs.ClientFrames.{is_of_a_client, speaker}
use Rattle.lab_laws.specs.Messages.{Start, step_after}
use Rattle.lab_laws.specs.LabClients.{FitsStart, FitsTurn}
use Rattle.lab_laws.proofs.Lived.{lived, mets, offer, opening, stands}

-- ---- what a client says

module _ (start : Start) (fits : FitsStart start) where
  abbrev one : Managed
  one = start.beginning.managed

  pub typed : KeepsTyped start.beginning
  typed = subst (λ (kept : Option LeaseContent). IfSome kept IsTyped) (sym fits.none) tt

  abbrev met : Turn → List Turn → Met
  met turn turns = record { turn = turn; offers = map (offer start) (step_after start (turn ∷ turns)).said }

  pub said_fits : (turns : List Turn) → AllByRecursion FitsTurn turns → AllByRecursion FitsSaid (step_after start turns).said
  said_fits [] h = opening_said_fits start.own start.beginning (opening start) fits.fits typed (lived start fits [] tt)
  said_fits (turn ∷ turns) h =
      subst (λ (f : Iface). AllByRecursion FitsSaid (iface_turned start.own turn f).said) (stands start turns)
      (turn_said_fits start.own start.beginning (opening start) (met turn turns) (mets start turns) fits.fits typed (lived start fits (turn ∷ turns) h))

  pub said_own : (turns : List Turn) → AllByRecursion FitsTurn turns → AllByRecursion (OwnSaid (speaker_of one)) (step_after start turns).said
  said_own [] h = opening_said_own start.own start.beginning (opening start) fits.fits typed (lived start fits [] tt)
  said_own (turn ∷ turns) h =
      subst (λ (f : Iface). AllByRecursion (OwnSaid (speaker_of one)) (iface_turned start.own turn f).said) (stands start turns)
      (turn_said_own start.own start.beginning (opening start) (met turn turns) (mets start turns) fits.fits typed (lived start fits (turn ∷ turns) h))

-- ---- as the peer reads it

-- a message that is read as that of the client at this hardware address
pub record IsFair (mac : Mac) (say : Say4) : Type 0 where
  pub fits : FitsSent (sent_of say)
  pub own : is_of_a_client (sent_of say) ≡ true
  pub mac_is : say.said.mac ≡ mac

abbrev pub FairSaid : Mac → Said → Type 0
FairSaid mac (Dhcp4 say) = IsFair mac say
FairSaid mac (Arp say) = Unit {0}
FairSaid mac (Dhcp6 sent) = FitsMac sent.mac

or_first : (a b : Bool) → a ≡ true → (a || b) ≡ true
or_first true b h = refl
or_first false b h = absurd cc

or_second : (a b : Bool) → b ≡ true → (a || b) ≡ true
or_second true b h = refl
or_second false b h = h

by_flag : (sent : Sent4) (broadcast : Bool) → is_ours (speaker sent broadcast) sent ≡ true → is_of_a_client sent ≡ true
unfolding is_of_a_client
by_flag sent false h = or_first (is_ours (speaker sent false) sent) (is_ours (speaker sent true) sent) h
by_flag sent true h = or_second (is_ours (speaker sent false) sent) (is_ours (speaker sent true) sent) h

-- what is a client's own may be said by the client at the message's hardware address
of_a_client : (client : Speaker) (sent : Sent4) → is_ours client sent ≡ true → is_of_a_client sent ≡ true
of_a_client client sent h =
    by_flag sent client.broadcast
    (subst (λ (mac : Mac). is_ours (record { mac = mac; broadcast = client.broadcast }) sent ≡ true) (sym (own_mac client sent h)) h)

fair_so : (client : Speaker) (say : Said) → FitsSaid say → OwnSaid client say → FairSaid client.mac say
fair_so client (Dhcp4 say) fits own =
    record { fits = fits; own = of_a_client client (sent_of say) own; mac_is = own_mac client (sent_of say) own }
fair_so client (Arp say) fits own = tt
fair_so client (Dhcp6 sent) fits own = fits

pub life_fair : (start : Start) (turns : List Turn) → FitsStart start → AllByRecursion FitsTurn turns
    → AllByRecursion (FairSaid start.beginning.managed.spec.mac) (step_after start turns).said
life_fair start turns fits all =
    all_both FitsSaid (OwnSaid (speaker_of start.beginning.managed)) (FairSaid start.beginning.managed.spec.mac) (fair_so (speaker_of start.beginning.managed))
    (step_after start turns).said (said_fits start fits turns all) (said_own start fits turns all)
