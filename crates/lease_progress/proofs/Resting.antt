-- The turns of a life that is written out: those in which nothing comes in, and those with a frame of its server.
use Rattle.std.proofs.Common.{◌≡◌, ℕ, ◌+◌, false, List, [], ◌∷◌, Option, None, refl, ap}
use Rattle.std.specs.List.{list_any}
use Rattle.machine.specs.Since.{Always}
use Rattle.lease_text.specs.declared.lease.Terms4.{Terms4}
use Rattle.v4_frames.specs.declared.sent.Sent4.{Sent4}
use Rattle.v4_client.specs.declared.states.Answer4.TheVariants as answer
use Rattle.world.specs.declared.wakes.Event.TheVariants.{Frame, Quiet}
use Rattle.evidence_words.specs.Entries.{Entry, Offer}
use Rattle.evidence_words.specs.Inputs.{Site}
use Rattle.evidence_words.specs.IfaceLives.{has_failed}
use Rattle.lease_evidence.specs.Exchanges.{messages_at}
use Rattle.lease_evidence.specs.SevenTurns.{announces, probes, reply_frame}
use Rattle.lease_progress.specs.FairTurns.{Fair}
use Rattle.lease_progress.specs.Serving.{EachRequest, Serves, asks, seeks}
use Rattle.lease_progress.proofs.Paying.{ForGood, all_serve, more_for_good}

abbrev pub at_rest : ℕ → List Offer → Entry
at_rest at offers = record { moment = at; event = Quiet; bytes = []; offers = offers }

abbrev pub by_frame : ℕ → ℕ → List Offer → Entry
by_frame at number offers = record { moment = at; event = Frame 1 304; bytes = reply_frame number; offers = offers }

-- the turns after that of an ACK: three probes, the gain, the second announcement, and a minute later
abbrev pub after_ack : (ack : ℕ) → List Entry → List Entry
after_ack ack past =
    at_rest (ack + 62500) [] ∷ at_rest (ack + 6003) announces ∷ at_rest (ack + 4003) announces ∷ at_rest (ack + 2003) probes
    ∷ at_rest (ack + 1002) probes ∷ at_rest (ack + 1) probes ∷ past

none_sought : (messages : List (Option Sent4)) → messages ≡ None ∷ [] → (xid : ℕ) → list_any (seeks xid) messages ≡ false
none_sought messages is xid = ap (list_any (seeks xid)) is

none_asked : (messages : List (Option Sent4)) → messages ≡ None ∷ [] → (xid : ℕ) → list_any (asks EachRequest xid) messages ≡ false
none_asked messages is xid = ap (list_any (asks EachRequest xid)) is

pub no_reply : {A : Type 0} → answer.Nothing ≡ answer.Nak → A
no_reply h = absurd cc

pub no_grant : {A : Type 0} (terms : Terms4) → answer.Nothing ≡ answer.Ack terms → A
no_grant terms h = absurd cc

module _ (site : Site) where
  pub rest_fair : (at : ℕ) (offers : List Offer) (past : List Entry) → has_failed site (at_rest at offers) ≡ false
      → Serves site EachRequest 1000 (at_rest at offers ∷ past) → Fair site EachRequest 1000 (at_rest at offers) past
  rest_fair at offers past taken served = record {
    stays = tt;
    taken = taken;
    unrefused = λ opened nak. no_reply nak.refuses;
    alone = λ opened terms some. refl;
    lasts = λ opened terms good. no_grant terms good.grants;
    served = served;
  }

  -- frames that are an ARP packet alone, which the link takes
  pub record AreArp (offers : List Offer) : Type 0 where
    pub none : (at : ℕ) → messages_at site (at_rest at offers) ≡ None ∷ []
    pub taken : (at : ℕ) → has_failed site (at_rest at offers) ≡ false

  -- turns that are fair, and owe nothing
  pub record Going (past : List Entry) : Type 0 where
    pub good : ForGood site EachRequest 1000 past
    pub fair : Always (Fair site EachRequest 1000) past

  goes_on : (at : ℕ) (offers : List Offer) (past : List Entry) → has_failed site (at_rest at offers) ≡ false
      → ForGood site EachRequest 1000 (at_rest at offers ∷ past) → Going past → Going (at_rest at offers ∷ past)
  goes_on at offers past taken good going = record {
    good = good;
    fair = (rest_fair at offers past taken (all_serve site EachRequest 1000 (at_rest at offers ∷ past) (good at [])), going.fair);
  }

  arp_goes : (at : ℕ) (offers : List Offer) (past : List Entry) → AreArp offers → Going past → Going (at_rest at offers ∷ past)
  arp_goes at offers past arp going =
      goes_on at offers past (arp.taken at)
      (more_for_good site EachRequest 1000 (at_rest at offers) past (none_sought (messages_at site (at_rest at offers)) (arp.none at))
      (none_asked (messages_at site (at_rest at offers)) (arp.none at)) going.good) going

  silent_goes : (at : ℕ) (past : List Entry) → Going past → Going (at_rest at [] ∷ past)
  silent_goes at past going =
      goes_on at [] past refl (more_for_good site EachRequest 1000 (at_rest at []) past (λ xid. refl) (λ xid. refl) going.good) going

  pub ack_goes : (ack : ℕ) (past : List Entry) → AreArp probes → AreArp announces → Going past → Going (after_ack ack past)
  ack_goes ack past probing announcing going =
      silent_goes (ack + 62500) _ (arp_goes (ack + 6003) announces _ announcing (arp_goes (ack + 4003) announces _ announcing
      (arp_goes (ack + 2003) probes _ probing (arp_goes (ack + 1002) probes _ probing (arp_goes (ack + 1) probes past probing going)))))
