-- Each frame of a client that the peer reads is a message that the client said.
use Rattle.std.proofs.Common.{◌≡◌, ℕ, ◌≤◌, ◌⊎◌, inl, inr, List, [], ◌∷◌, map, Option, Some, IfSome, refl, sym, subst, ◌∙◌, arith}
use Rattle.std.specs.Prelude.{flat_map}
use Rattle.std.specs.List.{AllByRecursion, Contains}
use Rattle.std.proofs.lemmas.List.Elements.{All-contains_itself, recursion_from_All}
use Rattle.net_types.proofs.AllLaws.{all_join}
use Rattle.v4_frames.specs.declared.sent.Sent4.{Sent4}
use Rattle.v4_frames.specs.InRange.{FitsSent}
use Rattle.machine.specs.Moment.{moment_of}
use Rattle.settings.specs.declared.interfaces.Managed.{Managed}
use Rattle.client_model.specs.ClientSettings.{ask_of}
use Rattle.client_model.specs.Clients.{Sending, sends_of, spelled}
use Rattle.client_model.specs.IfaceTurns.{Turn}
use Rattle.client_model.specs.Messages.{Said, Arp, Dhcp4, Dhcp6}
use Rattle.lab_peer.specs.ClientFrames.{client_sent}
use Rattle.lab_schedule.specs.Schedules.{Schedule}
use Rattle.lease_evidence.proofs.Spoken.{FitsSaid, message_said}
use Rattle.lab_laws.specs.LabClients.{AreClients, FitsTurn}
use Rattle.lab_laws.specs.Lives.{start_in}
use Rattle.lab_laws.specs.Messages.{Start, step_after}
use Rattle.lab_laws.proofs.Apart.{frames, frames_so, last_steps}
use Rattle.lab_laws.proofs.Lived.{starts_fit}
use Rattle.lab_laws.proofs.OpenExchanges.{moment_in}
use Rattle.lab_laws.proofs.SaidRead.{IsRead, each_is_read}
use Rattle.lab_laws.proofs.Timed.{Timed, timed_after, timed_onto}

-- ---- a message among others

abbrev pub IsIn : Timed → List Timed → Type 0
IsIn t [] = ⊥
IsIn t (x ∷ xs) = (x ≡ t) ⊎ IsIn t xs

pub of_each : (P : Timed → Type 0) (t : Timed) (xs : List Timed) → AllByRecursion P xs → IsIn t xs → P t
of_each P t [] all here = absurd here
of_each P t (x ∷ xs) all (inl is) = subst P is all.0
of_each P t (x ∷ xs) all (inr more) = of_each P t xs all.1 more

pub still_in : (at : ℕ) (said : List Said) (t : Timed) (past : List Timed) → IsIn t past → IsIn t (timed_onto at said past)
still_in at [] t past here = here
still_in at (Dhcp4 say ∷ said) t past here = still_in at said t (record { at = at; said = say.said } ∷ past) (inr here)
still_in at (Arp say ∷ said) t past here = still_in at said t past here
still_in at (Dhcp6 sent ∷ said) t past here = still_in at said t past here

-- the message of what is said, with its moment
abbrev IsAmong : (at : ℕ) → List Timed → Said → Type 0
IsAmong at timed say = IfSome (message_said say) (λ sent. IsIn (record { at = at; said = sent.said }) timed)

each_in : (at : ℕ) (said : List Said) (past : List Timed) → AllByRecursion (IsAmong at (timed_onto at said past)) said
each_in at [] past = tt
each_in at (Dhcp4 say ∷ said) past = (
  still_in at said (record { at = at; said = say.said }) (record { at = at; said = say.said } ∷ past) (inl refl),
  each_in at said (record { at = at; said = say.said } ∷ past),
)
each_in at (Arp say ∷ said) past = (tt, each_in at said past)
each_in at (Dhcp6 sent ∷ said) past = (tt, each_in at said past)

-- what a client said last is among its messages, at the moment of its last turn
said_last : (start : Start) (turns : List Turn) → AllByRecursion (IsAmong (moment_in start.at turns) (timed_after start turns)) (step_after start turns).said
said_last start [] = each_in start.at (step_after start []).said []
said_last start (turn ∷ turns) = each_in turn.at (step_after start (turn ∷ turns)).said (timed_after start turns)

-- ---- the frames of all clients

module _ (managed : List Managed) (schedule : Schedule) where
  abbrev pub start : Managed → Start
  start one = start_in schedule managed one

  -- a client said this message in these turns, no later than a moment
  pub record IsSaidBy (turns : List Turn) (clock : ℕ) (sent : Sent4) : Type 0 where
    pub one : Managed
    pub among : Contains managed one
    pub from : sent.said.mac ≡ one.spec.mac
    pub fits : FitsSent sent
    pub at : ℕ
    pub was : IsIn (record { at = at; said = sent.said }) (timed_after (start one) turns)
    pub before : at ≤ clock

  -- the message of a frame, where it is one
  abbrev pub WasSaid : List Turn → (clock : ℕ) → Sending → Type 0
  WasSaid turns clock sending = (sent : Sent4) → client_sent sending.bytes ≡ Some sent → IsSaidBy turns clock sent

  pub still_said : (turn : Turn) (turns : List Turn) (clock : ℕ) (sending : Sending) → clock ≤ turn.at → WasSaid turns clock sending
      → WasSaid (turn ∷ turns) turn.at sending
  still_said turn turns clock sending le was sent is =
      let by : IsSaidBy turns clock sent = was sent is in
      record {
        one = by.one;
        among = by.among;
        from = by.from;
        fits = by.fits;
        at = by.at;
        was = still_in turn.at (step_after (start by.one) (turn ∷ turns)).said (record { at = by.at; said = sent.said })
            (timed_after (start by.one) turns) by.was;
        before = omega (arith, le, by.before);
      }

  pub later_said : (turns : List Turn) (clock now : ℕ) (sending : Sending) → clock ≤ now → WasSaid turns clock sending → WasSaid turns now sending
  later_said turns clock now sending le was sent is =
      let by : IsSaidBy turns clock sent = was sent is in
      record { one = by.one; among = by.among; from = by.from; fits = by.fits; at = by.at; was = by.was; before = omega (arith, le, by.before) }

  module _ (clients : AreClients managed) (turns : List Turn) (fit : AllByRecursion FitsTurn turns) where
    abbrev now : ℕ
    now = moment_in (moment_of schedule.begin.at) turns

    frame_said : (one : Managed) → Contains managed one → (say : Said) → IsRead one (start one).beginning.duid say
        → IsAmong now (timed_after (start one) turns) say
        → WasSaid turns now (spelled one.spec (ask_of (start one).beginning.duid one) say)
    frame_said one among say read here sent is =
        let told : message_said say ≡ Some sent = sym read.heard ∙ is in
        record {
          one = one;
          among = among;
          from = subst (λ (m : Option Sent4). IfSome m (λ s. s.said.mac ≡ one.spec.mac)) told read.from;
          fits = said_sent say sent told read.fits;
          at = now;
          was = subst (λ (m : Option Sent4). IfSome m (λ s. IsIn (record { at = now; said = s.said }) (timed_after (start one) turns))) told here;
          before = omega arith;
        }
      where
        said_sent : (say : Said) (sent : Sent4) → message_said say ≡ Some sent → FitsSaid say → FitsSent sent
        said_sent (Dhcp4 say) sent e fits = subst FitsSent (one_is _ sent e) fits
          where
            one_is : (a b : Sent4) → Some a ≡ Some b → a ≡ b
            one_is a b e = cc
        said_sent (Arp say) sent e fits = absurd cc
        said_sent (Dhcp6 other) sent e fits = absurd cc

    frames_said : (one : Managed) → Contains managed one → (said : List Said) → AllByRecursion (IsRead one (start one).beginning.duid) said
        → AllByRecursion (IsAmong now (timed_after (start one) turns)) said
        → AllByRecursion (WasSaid turns now) (frames (start one) said)
    frames_said one among [] read here = tt
    frames_said one among (say ∷ said) read here = (frame_said one among say read.0 here.0, frames_said one among said read.1 here.1)

    client_said : (one : Managed) → Contains managed one → AllByRecursion (WasSaid turns now) (sends_of (step_after (start one) turns))
    client_said one among =
        subst (AllByRecursion (WasSaid turns now)) (sym (frames_so (start one) turns))
        (frames_said one among (step_after (start one) turns).said (each_is_read (start one) turns (starts_fit managed schedule clients one among) fit)
        (said_last (start one) turns))

    some_said : (some : List Managed) → AllByRecursion (Contains managed) some
        → AllByRecursion (WasSaid turns now) (flat_map sends_of (map (λ (one : Managed). step_after (start one) turns) some))
    some_said [] among = tt
    some_said (one ∷ some) among =
        all_join (WasSaid turns now) (sends_of (step_after (start one) turns)) (flat_map sends_of (map (λ (one : Managed). step_after (start one) turns) some))
        (client_said one among.0) (some_said some among.1)

    -- all that is sent in the last turn
    pub all_said : AllByRecursion (WasSaid turns now) (flat_map sends_of (last_steps managed schedule turns))
    all_said = some_said managed (recursion_from_All (Contains managed) managed (All-contains_itself managed))
