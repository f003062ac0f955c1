-- The exchange that a client of a lab has open began no later than each REQUEST of its number.
use Rattle.std.proofs.Common.{◌≡◌, ℕ, ◌≤◌, List, [], ◌∷◌, map, Option, None, refl, sym, ap, subst, ◌∙◌, arith}
use Rattle.std.specs.List.{AllByRecursion}
use Rattle.v4_message.specs.Requests.{AskContent}
use Rattle.v4_message.specs.declared.writing.Said4.{Said4}
use Rattle.v4_frames.specs.declared.sent.Sent4.{Sent4}
use Rattle.world.specs.declared.wakes.Event.TheVariants.{Quiet}
use Rattle.settings.specs.declared.interfaces.Managed.{Managed}
use Rattle.client_model.specs.ClientSettings.{ask_of}
use Rattle.client_model.specs.IfaceTurns.{Turn}
use Rattle.client_model.specs.Messages.{Said}
use Rattle.client_model.proofs.AskFitting.{ask_fits}
use Rattle.evidence_words.specs.Entries.{Offer}
use Rattle.evidence_words.specs.IfaceLives.{shown}
use Rattle.evidence_words.specs.Inputs.{offers_at}
use Rattle.evidence_words.proofs.Offers.{Offered}
use Rattle.lease_evidence.specs.Exchanges.{Seen, message_of, seen_in, show}
use Rattle.lease_evidence.specs.OwnMessages.{speaker_of}
use Rattle.lease_evidence.proofs.Spoken.{FitsSaid, OwnSaid, message_said, messages_are}
use Rattle.lab_laws.specs.LabClients.{FitsStart, FitsTurn}
use Rattle.lab_laws.specs.Messages.{Start, messages_after, said_onto, step_after}
use Rattle.lab_laws.proofs.Lived.{mets, offer, opening, own_offers, site}
use Rattle.lab_laws.proofs.SaidTurns.{said_fits, said_own}
use Rattle.lab_laws.proofs.Timed.{GoWell, OpenSo, Timed, all_so, none_open, saids, saids_after, timed_after, timed_onto, well_before}

-- ---- moments

-- the moment of the last turn
abbrev pub moment_in : (begin : ℕ) → List Turn → ℕ
moment_in begin [] = begin
moment_in begin (turn ∷ turns) = turn.at

-- no turn is before the one that came before it
abbrev pub Rising : (begin : ℕ) → List Turn → Type 0
Rising begin [] = Unit {0}
Rising begin (turn ∷ turns) = (moment_in begin turns ≤ turn.at) × Rising begin turns

-- ---- what a client says

module _ (start : Start) (fits : FitsStart start) where
  abbrev one : Managed
  one = start.beginning.managed

  abbrev ask : AskContent
  ask = ask_of start.beginning.duid one

  all_offered : (said : List Said) → Offered one.spec ask (Unit {0}) said (map (offer start) said)
  all_offered [] = tt
  all_offered (say ∷ said) = (refl, (λ k. refl), all_offered said)

  -- each message is in range, and the client's own
  record AreSaid (said : List Said) : Type 0 where
    fit : AllByRecursion FitsSaid said
    own : AllByRecursion (OwnSaid (speaker_of one)) said

  are_said : (turns : List Turn) → AllByRecursion FitsTurn turns → AreSaid (step_after start turns).said
  are_said turns h = record { fit = said_fits start fits turns h; own = said_own start fits turns h }

  messages_so : (said : List Said) → AreSaid said → map (message_of (site start)) (map (offer start) said) ≡ map message_said said
  messages_so said all =
      messages_are (site start) (ask_fits start.beginning.duid one fits.fits.duid fits.fits.managed) fits.fits.managed.mac.six (Unit {0}) said
      (map (offer start) said) (all_offered said) all.fit all.own

  -- what a turn shows
  shown_so : (at : ℕ) (said : List Said) (seen : Seen) → AreSaid said
      → show at (map message_said said) seen ≡ show at (map (message_of (site start))
      (offers_at (site start) (record { moment = at; event = Quiet; bytes = []; offers = map (offer start) said }))) seen
  shown_so at said seen all =
      sym (ap (λ (offers : List Offer). show at (map (message_of (site start)) offers) seen) (own_offers start said)
      ∙ ap (λ (messages : List (Option Sent4)). show at messages seen) (messages_so said all))

  abbrev OpenAfter : List Turn → Type 0
  OpenAfter turns = OpenSo (seen_in (site start) (shown (opening start) (mets start turns))).current (moment_in start.at turns) (timed_after start turns)

  turn_so : (at : ℕ) (said : List Said) (seen : Seen) (now : ℕ) (timed : List Timed) → now ≤ at → AreSaid said
      → GoWell (said_onto said (saids timed))
      → OpenSo seen.current now timed
      → OpenSo (show at (map (message_of (site start)) (offers_at (site start)
      (record { moment = at; event = Quiet; bytes = []; offers = map (offer start) said }))) seen).current at
      (timed_onto at said timed)
  turn_so at said seen now timed le all well so =
      subst (λ (s : Seen). OpenSo s.current at (timed_onto at said timed)) (shown_so at said seen all) (all_so now at said seen timed le well so)

  pub open_after : (turns : List Turn) → AllByRecursion FitsTurn turns → Rising start.at turns → GoWell (messages_after start turns) → OpenAfter turns
  open_after [] h rising well =
      turn_so start.at (step_after start []).said (record { count = 0; current = None }) 0 [] (omega arith) (are_said [] tt) well (none_open 0)
  open_after (turn ∷ turns) h rising well =
      let before : OpenAfter turns = open_after turns h.1 rising.1 (well_before (step_after start (turn ∷ turns)).said (messages_after start turns) well) in
      turn_so turn.at (step_after start (turn ∷ turns)).said (seen_in (site start) (shown (opening start) (mets start turns))) (moment_in start.at turns)
      (timed_after start turns)
      rising.0 (are_said (turn ∷ turns) h)
      (subst (λ (past : List Said4). GoWell (said_onto (step_after start (turn ∷ turns)).said past)) (sym (saids_after start turns)) well) before
