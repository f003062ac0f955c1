-- A lease that a client of a lab holds was granted by the peer, and ends no later than its binding.
use Rattle.std.proofs.Common.{◌≡◌, ℕ, ◌+◌, ◌*◌, ◌≤◌, ◌<◌, inl, inr, ◌||◌, Bool, true, false, List, [], ◌∷◌, map, length, Option, Some, None, IfSome, refl, sym, ap, subst, ◌∙◌, arith, get_or, nat_lt}
use Rattle.std.specs.Prelude.{◌==◌, AllPairs, if◌then◌else◌}
use Rattle.std.specs.List.{AllByRecursion, Contains}
use Rattle.std.proofs.lemmas.Bool.Decides.{nat_tests}
use Rattle.std.proofs.lemmas.List.{get_or_default}
use Rattle.machine.specs.Since.{Always, Since}
use Rattle.net_types.specs.declared.address.Ip4.{Ip4}
use Rattle.lease_text.specs.declared.lease.TheConstants.{INFINITE_LEASE}
use Rattle.lease_text.specs.declared.lease.Terms4.{Terms4}
use Rattle.lease_text.specs.Leases.{LeaseContent}
use Rattle.v4_client.specs.Answers.{is_unexpired}
use Rattle.v4_client.specs.Clients.{held_of}
use Rattle.world.specs.declared.wakes.Event.{Event}
use Rattle.world.specs.declared.wakes.Event.TheVariants as wakes
use Rattle.settings.specs.declared.interfaces.Managed.{Managed}
use Rattle.client_model.specs.declared.interfaces.Iface.{Iface}
use Rattle.client_model.specs.IfaceTurns.{Turn}
use Rattle.server_data.specs.declared.reply.Reply.{Reply}
use Rattle.evidence_words.specs.Entries.{Entry}
use Rattle.evidence_words.specs.IfaceLives.{entry_of, opening_entry, shown, now_in}
use Rattle.lease_evidence.specs.Exchanges.{Numbered, seen_in}
use Rattle.lease_evidence.specs.HeldLeases.{IsAsGranted}
use Rattle.lease_evidence.specs.LeaseBasis.{CalmFor, FirstAck}
use Rattle.lease_evidence.proofs.KeptNeedsProofs.{plain_leases_as_granted}
use Rattle.lab_peer.specs.Bindings.{binding_of, is_over, lease_end}
use Rattle.lab_peer.specs.Granting.{IsBoundUntil, IsNoLater}
use Rattle.lab_schedule.specs.Schedules.{Schedule}
use Rattle.lab_model.specs.Labs.{Lab}
use Rattle.lab_laws.specs.HeardReplies.{IsFrameHere, IsOfReply}
use Rattle.lab_laws.specs.LabClients.{AreApart, AreClients, FitsStart, FitsTurn}
use Rattle.lab_laws.specs.Messages.{Start, messages_after, step_after}
use Rattle.lab_laws.proofs.Bounds.{Stands}
use Rattle.lab_laws.proofs.FramesSaid.{IsIn, of_each, start, still_in}
use Rattle.lab_laws.proofs.HeardBack.{acks_come_in_frames, acks_of_peer}
use Rattle.lab_laws.proofs.LabFacts.{IsGiven, IsAsked, IsReply, LabSo, begin}
use Rattle.lab_laws.proofs.Lived.{lived, mets, offer, opening, site, stands, starts_fit}
use Rattle.lab_laws.proofs.OpenExchanges.{Rising, moment_in, open_after}
use Rattle.lab_laws.proofs.SaidTurns.{typed}
use Rattle.lab_laws.proofs.Timed.{GoWell, NotBefore, OpenSo, Timed, timed_after, well_before}

-- ---- clients by their hardware addresses

one_client : (managed : List Managed) → AllPairs AreApart managed → (a b : Managed) → Contains managed a → Contains managed b → a.spec.mac ≡ b.spec.mac → a ≡ b
one_client managed apart a b here there same = by_order (nat_lt here.0 there.0) refl (nat_lt there.0 here.0) refl
  where
    there_by : (d : Managed) → get_or managed there.0 d ≡ b
    there_by d = get_or_default managed there.0 d b there.1 ∙ there.2

    here_by : (d : Managed) → get_or managed here.0 d ≡ a
    here_by d = get_or_default managed here.0 d a here.1 ∙ here.2

    apart_at : (i j : ℕ) → nat_lt i j ≡ true → j < length managed → AreApart (get_or managed i a) (get_or managed j a)
    apart_at i j lt within = apart i j a (grind (arith, nat_tests, lt)) within

    same_place : (i j : ℕ) → nat_lt i j ≡ false → nat_lt j i ≡ false → i ≡ j
    same_place i j one other = grind (arith, nat_tests, one, other)

    by_order : (before : Bool) → nat_lt here.0 there.0 ≡ before → (after : Bool) → nat_lt there.0 here.0 ≡ after → a ≡ b
    by_order true lt after e = absurd ((apart_at here.0 there.0 lt there.1).macs
        (ap (λ (m : Managed). m.spec.mac) (here_by a) ∙ same ∙ sym (ap (λ (m : Managed). m.spec.mac) (there_by a))))
    by_order false lt true gt = absurd ((apart_at there.0 here.0 gt here.1).macs
        (ap (λ (m : Managed). m.spec.mac) (there_by a) ∙ sym same ∙ sym (ap (λ (m : Managed). m.spec.mac) (here_by a))))
    by_order false lt false gt =
        sym (here_by a) ∙ ap (λ (k : ℕ). get_or managed k a) (same_place here.0 there.0 lt gt) ∙ there_by a

-- ---- ends

not_over_yet : (lease first heard now : ℕ) → is_unexpired first lease now ≡ true → first ≤ heard → is_over (lease_end lease heard) now ≡ false
not_over_yet lease first heard now unexpired le = by (lease == INFINITE_LEASE) (first + 1000 * lease) (heard + 1000 * lease) (omega (arith, le)) unexpired
  where
    by : (endless : Bool) (end later : ℕ) → end ≤ later → (endless || nat_lt now end) ≡ true → is_over (if endless then None else Some later) now ≡ false
    by true end later le h = refl
    by false end later le h = grind (arith, nat_tests, le, h)

ends_sooner : (lease first heard : ℕ) → first ≤ heard → IsNoLater (lease_end lease first) (lease_end lease heard)
ends_sooner lease first heard le = by (lease == INFINITE_LEASE) (first + 1000 * lease) (heard + 1000 * lease) (omega (arith, le))
  where
    by : (endless : Bool) (end later : ℕ) → end ≤ later → IsNoLater (if endless then None else Some end) (if endless then None else Some later)
    by true end later le = tt
    by false end later le = le

no_later_both : (a b c : Option ℕ) → IsNoLater a b → IsNoLater b c → IsNoLater a c
no_later_both a b None h k = tt
no_later_both a None (Some z) h k = absurd k
no_later_both None (Some y) (Some z) h k = absurd h
no_later_both (Some x) (Some y) (Some z) h k = omega (arith, h, k)

-- ---- the grant

module _ (managed : List Managed) (schedule : Schedule) (are : AreClients managed) (lab : Lab) (one : Managed) (among : Contains managed one) where
  abbrev life : Start
  life = start managed schedule one

  fits : FitsStart life
  fits = starts_fit managed schedule are one among

  abbrev Past : List Turn → List Entry
  Past turns = shown (opening life) (mets life turns)

  -- the ACK of a basis, in the peer's words
  record IsGrantedBy (opened : Numbered) (terms : Terms4) : Type 0 where
    reply : Reply
    of_reply : IsOfReply one.spec.mac opened.exchange terms reply
    heard : ℕ
    began : opened.exchange.first ≤ heard
    stands : Stands reply.yiaddr reply.chaddr (lease_end reply.lease heard) lab

  -- what is known of the turns
  record TurnsSo (turns : List Turn) : Type 0 where
    fit : AllByRecursion FitsTurn turns
    rising : Rising life.at turns
    well : GoWell (messages_after life turns)
    given : Always (IsGiven managed schedule lab) turns

  fewer : (turn : Turn) (turns : List Turn) → TurnsSo (turn ∷ turns) → TurnsSo turns
  fewer turn turns so = record {
    fit = so.fit.1;
    rising = so.rising.1;
    well = well_before (step_after life (turn ∷ turns)).said (messages_after life turns) so.well;
    given = so.given.1;
  }

  -- the REQUEST that the peer heard is one of this client, and its exchange had begun then
  began_before : (turn : Turn) (turns : List Turn) → TurnsSo (turn ∷ turns) → (opened : Numbered)
      → (seen_in (site life) (Past (turn ∷ turns))).current ≡ Some opened
      → (heard : ℕ) (reply : Reply) → reply.xid ≡ opened.exchange.xid → reply.chaddr ≡ one.spec.mac → IsAsked managed schedule turns heard reply
      → opened.exchange.first ≤ heard
  began_before turn turns so opened is heard reply same_xid to asked =
      let own : asked.one ≡ one = one_client managed are.apart asked.one one asked.among among (sym asked.to ∙ to) in
      let message : Timed = record { at = asked.at; said = asked.said } in
      let was : IsIn message (timed_after life turns) =
      subst (λ (client : Managed). IsIn message (timed_after (start managed schedule client) turns)) own asked.was in
      let here : IsIn message (timed_after life (turn ∷ turns)) = still_in turn.at (step_after life (turn ∷ turns)).said message (timed_after life turns) was in
      let known : OpenSo (seen_in (site life) (Past (turn ∷ turns))).current turn.at (timed_after life (turn ∷ turns)) =
      open_after life fits (turn ∷ turns) so.fit so.rising so.well in
      let first : AllByRecursion (NotBefore opened) (timed_after life (turn ∷ turns)) =
      subst (λ (current : Option Numbered). IfSome current (λ x. AllByRecursion (NotBefore x) (timed_after life (turn ∷ turns)))) is known.first in
      let le : opened.exchange.first ≤ asked.at =
      of_each (NotBefore opened) message (timed_after life (turn ∷ turns)) first here asked.request (asked.same_xid ∙ same_xid) in
      omega (arith, le, asked.before)

  granted_in : (turn : Turn) (turns : List Turn) → TurnsSo (turn ∷ turns) → (opened : Numbered) (terms : Terms4)
      → FirstAck (site life) opened terms (entry_of (record { turn = turn; offers = map (offer life) (step_after life (turn ∷ turns)).said })) (Past turns)
      → IsGrantedBy opened terms
  granted_in turn turns so opened terms ack =
      let e : Entry = entry_of (record { turn = turn; offers = map (offer life) (step_after life (turn ∷ turns)).said }) in
      let here : IsFrameHere (site life) e = acks_come_in_frames (site life) opened.exchange e terms ack.good.grants in
      let r : IsReply managed schedule lab turns turn.bytes = by turn.event _ here.len here.is so.given.0 in
      let of : IsOfReply one.spec.mac opened.exchange terms r.reply =
      acks_of_peer (site life) opened.exchange e terms r.reply r.frame r.fits r.lease ack.good.grants in
      record {
        reply = r.reply;
        of_reply = of;
        heard = r.heard;
        began = began_before turn turns so opened ack.good.is_open r.heard r.reply of.same_xid of.to_client (r.asked of.is_ack);
        stands = r.stands of.is_ack;
      }
    where
      by : (event : Event) (index len : ℕ) → event ≡ wakes.Frame index len → IsGiven managed schedule lab (record turn { event = event }) turns
          → IsReply managed schedule lab turns turn.bytes
      by event index len is given = subst (λ (ev : Event). IsGiven managed schedule lab (record turn { event = ev }) turns) is given

  found : (turns : List Turn) → TurnsSo turns → (opened : Numbered) (terms : Terms4)
      → Since (CalmFor (site life) opened) (FirstAck (site life) opened terms) (Past turns)
      → IsGrantedBy opened terms
  found [] so opened terms (inl ack) =
      absurd (no_frame (acks_come_in_frames (site life) opened.exchange (opening_entry (opening life)) terms ack.good.grants))
    where
      quiet : (index len : ℕ) → wakes.Quiet ≡ wakes.Frame index len → ⊥
      quiet index len h = cc

      no_frame : IsFrameHere (site life) (opening_entry (opening life)) → ⊥
      no_frame here = quiet _ here.len here.is
  found [] so opened terms (inr later) = absurd later.1
  found (turn ∷ turns) so opened terms (inl ack) = granted_in turn turns so opened terms ack
  found (turn ∷ turns) so opened terms (inr later) = found turns (fewer turn turns so) opened terms later.1

  now_is : (turns : List Turn) → now_in (Past turns) ≡ moment_in (begin managed schedule) turns
  now_is [] = refl
  now_is (turn ∷ turns) = refl

  -- a grant whose lease isn't over is bound still
  bound_still : (opened : Numbered) (terms : Terms4) → IsGrantedBy opened terms → is_unexpired opened.exchange.first terms.lease lab.clock ≡ true
      → IsBoundUntil terms.net.ip one.spec.mac (lease_end terms.lease opened.exchange.first) lab.peer
  bound_still opened terms g unexpired = by g.stands
    where
      end : Option ℕ
      end = lease_end g.reply.lease g.heard

      open_still : is_over end lab.clock ≡ false
      open_still =
          subst (λ (lease : ℕ). is_over (lease_end lease g.heard) lab.clock ≡ false) g.of_reply.lasts
          (not_over_yet terms.lease opened.exchange.first g.heard lab.clock unexpired g.began)

      sooner : IsNoLater (lease_end terms.lease opened.exchange.first) end
      sooner =
          subst (λ (lease : ℕ). IsNoLater (lease_end terms.lease opened.exchange.first) (lease_end lease g.heard)) g.of_reply.lasts
          (ends_sooner terms.lease opened.exchange.first g.heard g.began)

      differ : (b : Bool) → b ≡ false → b ≡ true → ⊥
      differ b n y = cc

      by : Stands g.reply.yiaddr g.reply.chaddr end lab → IsBoundUntil terms.net.ip one.spec.mac (lease_end terms.lease opened.exchange.first) lab.peer
      by (inl over) = absurd (differ (is_over end lab.clock) open_still over)
      by (inr b) = record {
        bound = b.bound;
        is = ap (λ (addr : Ip4). binding_of addr lab.peer.bindings) g.of_reply.gives ∙ b.is;
        of_client = b.of_client ∙ g.of_reply.to_client;
        lasts = no_later_both (lease_end terms.lease opened.exchange.first) end b.bound.until sooner b.lasts;
      }

  -- the lease that the client holds right after a turn
  pub lease_bound : (turns : List Turn) → LabSo managed schedule lab turns → lab.clock ≡ moment_in (begin managed schedule) turns
      → GoWell (messages_after life turns)
      → (lease : LeaseContent) → held_of (step_after life turns).iface.dhcp4 ≡ Some lease
      → IsBoundUntil lease.net.ip one.spec.mac (lease_end lease.lease lease.first) lab.peer
  lease_bound turns so clock well lease held =
      let known : IsAsGranted (site life) lease (now_in (Past turns)) (Past turns) =
      plain_leases_as_granted life.own life.beginning (opening life) (mets life turns) lease fits.fits (typed life fits) (lived life fits turns so.fit) (inr tt)
      (ap (λ (f : Iface). held_of f.dhcp4) (stands life turns) ∙ held) in
      let g : IsGrantedBy known.basis.opened known.basis.terms =
      found turns (record { fit = so.fit; rising = so.rising; well = well; given = so.given }) known.basis.opened known.basis.terms known.basis.granted in
      let unexpired : is_unexpired known.basis.opened.exchange.first known.basis.terms.lease lab.clock ≡ true =
      subst (λ (now : ℕ). is_unexpired known.basis.opened.exchange.first known.basis.terms.lease now ≡ true) (now_is turns ∙ sym clock) known.basis.unexpired in
      let b : IsBoundUntil known.basis.terms.net.ip one.spec.mac (lease_end known.basis.terms.lease known.basis.opened.exchange.first) lab.peer =
      bound_still known.basis.opened known.basis.terms g unexpired in
      subst (λ (first : ℕ). IsBoundUntil lease.net.ip one.spec.mac (lease_end lease.lease first) lab.peer) (sym known.first)
      (subst (λ (terms : Terms4). IsBoundUntil terms.net.ip one.spec.mac (lease_end terms.lease known.basis.opened.exchange.first) lab.peer)
      (sym known.terms) b)
