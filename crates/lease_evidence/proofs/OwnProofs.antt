-- What is read in frames as the client's own.
use Rattle.std.proofs.Common.{◌≡◌, ℕ, Bool, true, false, ◌&&◌, not, ◌<◌, ◌^◌, List, [], ◌∷◌, Option, Some, None, refl, sym, ap, ◌∙◌, lit<, if◌then◌else◌}
use Rattle.std.specs.Prelude.{◌==◌, bytes_eq, is_none, is_some, option_and_then}
use Rattle.std.specs.List.{AllByRecursion}
use Rattle.std.proofs.lemmas.Bool.{eqb-true}
use Rattle.std.proofs.lemmas.Slice.Eq.{bytes_eq-Decides}
use Rattle.net_types.proofs.AllLaws.{all_both}
use Rattle.net_types.specs.declared.address.Ip4.{Ip4}
use Rattle.net_types.specs.declared.address.Mac.{Mac}
use Rattle.frame_link.specs.Frames.{broadcast}
use Rattle.udp_frame.specs.Udp4Frames.{udp4_frame_text, udp4_text}
use Rattle.v4_message.specs.Requests.{AskContent, AskFits}
use Rattle.v4_message.specs.declared.writing.Kind4.{Kind4}
use Rattle.v4_message.specs.declared.writing.Kind4.TheVariants.{Discover, Request, Decline, Release}
use Rattle.v4_frames.specs.declared.sent.Sent4.{Sent4}
use Rattle.v4_frames.specs.declared.speaker.Speaker.{Speaker}
use Rattle.v4_frames.specs.declared.speaker.TheConstants.{BROADCAST_FLAG}
use Rattle.v4_frames.specs.Heard.{same_mac}
use Rattle.v4_frames.specs.InRange.{FitsMac, FitsSent}
use Rattle.v4_frames.specs.Ours.{asks_for_answers, goes_to, has_address, has_no_address, is_our_kind, is_our_request, is_ours, is_plain}
use Rattle.v4_frames.specs.Spelled.{frame_of, if_spelled, seen_in, sent_in}
use Rattle.v4_frames.proofs.FramesBack.{reads_back, spelled_alone}
use Rattle.evidence_words.specs.ClientModel.ClientSettings.{ask_of, codes_of}
use Rattle.evidence_words.specs.ClientModel.Fitting.{FitsBeginning}
use Rattle.evidence_words.specs.ClientModel.KeptLeases.{Beginning}
use Rattle.evidence_words.specs.ClientModel.Messages.{Said, Arp, Dhcp4, Dhcp6}
use Rattle.evidence_words.proofs.ClientModel.AskFitting.{ask_fits}
use Rattle.evidence_words.specs.IfaceLives.{IsLived, Met, Opening, site_of}
use Rattle.evidence_words.specs.Inputs.{Site}
use Rattle.lease_evidence.specs.HeldLeases.{KeepsTyped}
use Rattle.lease_evidence.specs.OwnFrames.{EachMessageIsOwn, IsOwnFrame, IsReadAsOwn, OwnFramesAlone, awaits_address, configured, discover_from, discover_with, first_discover, own_read, said_last, tells_seconds, without_list}
use Rattle.lease_evidence.specs.OwnMessages.{if_ours, own_in, speaker_of}
use Rattle.lease_evidence.specs.PlainIface.{client_mac}
use Rattle.lease_evidence.specs.SevenTurns.{duid, interface, server_mac}
use Rattle.lease_evidence.proofs.HeldRuns.{opening_said_fits, opening_said_own, turn_said_fits, turn_said_own}
use Rattle.lease_evidence.proofs.SevenTurnsHeard.{beginning_fits, interface_fits}
use Rattle.lease_evidence.proofs.Spoken.{FitsSaid, OwnSaid, spells_own}

-- ---- each message of the client

module _ (own : List Mac) (beginning : Beginning) (opening : Opening) (fits : FitsBeginning beginning) (typed : KeepsTyped beginning) where
  said_fits : (mets : List Met) → IsLived own beginning opening mets → AllByRecursion FitsSaid (said_last own beginning opening mets)
  said_fits [] lived = opening_said_fits own beginning opening fits typed lived
  said_fits (met ∷ mets) lived = turn_said_fits own beginning opening met mets fits typed lived

  said_own : (mets : List Met) → IsLived own beginning opening mets
      → AllByRecursion (OwnSaid (speaker_of beginning.managed)) (said_last own beginning opening mets)
  said_own [] lived = opening_said_own own beginning opening fits typed lived
  said_own (met ∷ mets) lived = turn_said_own own beginning opening met mets fits typed lived

  asked : AskFits (ask_of beginning.duid beginning.managed)
  asked = ask_fits beginning.duid beginning.managed fits.duid fits.managed

  read_so : (say : Said) → FitsSaid say → OwnSaid (speaker_of beginning.managed) say → IsReadAsOwn beginning.managed beginning.duid say
  read_so (Dhcp4 say) fit ours = spells_own (site_of own beginning opening) asked fits.managed.mac.six (Unit {0}) (Dhcp4 say) fit ours
  read_so (Arp say) fit ours = spells_own (site_of own beginning opening) asked fits.managed.mac.six (Unit {0}) (Arp say) fit ours
  read_so (Dhcp6 sent) fit ours = spells_own (site_of own beginning opening) asked fits.managed.mac.six (Unit {0}) (Dhcp6 sent) fit ours

pub each_message_is_own : EachMessageIsOwn
each_message_is_own own beginning opening mets fits typed lived =
    all_both FitsSaid (OwnSaid (speaker_of beginning.managed)) (IsReadAsOwn beginning.managed beginning.duid) (read_so own beginning opening fits typed)
    (said_last own beginning opening mets) (said_fits own beginning opening fits typed mets lived) (said_own own beginning opening fits typed mets lived)

-- ---- no other message

both : (a b : Bool) → (a && b) ≡ true → (a ≡ true) × (b ≡ true)
both true true h = (refl, refl)
both true false h = absurd cc
both false b h = absurd cc

same_so : (a b : Mac) → same_mac a b ≡ true → a ≡ b
same_so a b h = ap (λ (bytes : List ℕ). record { bytes = bytes }) ((bytes_eq-Decides a.bytes b.bytes).0 h)

module _ (speaker : Speaker) (sent : Sent4) where
  abbrev same_said : Bool
  same_said = same_mac sent.said.mac speaker.mac

  abbrev same_source : Bool
  same_source = same_mac sent.ends.from_mac speaker.mac

  abbrev our_kind : Bool
  our_kind = is_our_kind speaker sent sent.said.kind

  macs_so : is_ours speaker sent ≡ true → (same_said ≡ true) × (same_source ≡ true)
  macs_so h = both same_said same_source (both (same_said && same_source) our_kind h).0

  pub own_mac : is_ours speaker sent ≡ true → sent.said.mac ≡ speaker.mac
  own_mac h = same_so sent.said.mac speaker.mac (macs_so h).0

  own_source : is_ours speaker sent ≡ true → sent.ends.from_mac ≡ speaker.mac
  own_source h = same_so sent.ends.from_mac speaker.mac (macs_so h).1

  -- what its kind tells of a message
  record Facts (awaits tells : Bool) : Type 0 where
    flags : sent.said.flags ≡ (if awaits && speaker.broadcast then BROADCAST_FLAG else 0)
    secs : tells ≡ false → sent.said.secs ≡ 0
    from : sent.ends.from.number ≡ sent.said.ciaddr.number
    to : sent.said.ciaddr.number ≡ 0 → sent.ends.to.number ≡ 0xffffffff

  record Unaddressed : Type 0 where
    test : (sent.said.ciaddr.number == 0) ≡ true
    from : sent.ends.from.number ≡ sent.said.ciaddr.number
    to : sent.ends.to.number ≡ 0xffffffff

  unaddressed : has_no_address sent ≡ true → Unaddressed
  unaddressed h =
      let a : Bool = sent.said.ciaddr.number == 0 in
      let b : Bool = sent.ends.from.number == 0 in
      let c : Bool = sent.ends.to.number == 0xffffffff in
      let three = both (a && b) c (both (a && b && c) (same_mac sent.ends.to_mac broadcast) h).0 in
      let two = both a b three.0 in
      record {
        test = two.0;
        from = eqb-true sent.ends.from.number 0 two.1 ∙ sym (eqb-true sent.said.ciaddr.number 0 two.0);
        to = eqb-true sent.ends.to.number 0xffffffff three.1;
      }

  record Addressed : Type 0 where
    test : (sent.said.ciaddr.number == 0) ≡ false
    from : sent.ends.from.number ≡ sent.said.ciaddr.number

  addressed : has_address sent ≡ true → Addressed
  addressed h =
      let parts = both (not (sent.said.ciaddr.number == 0)) (sent.ends.from.number == sent.said.ciaddr.number) h in
      record { test = unset (sent.said.ciaddr.number == 0) parts.0; from = eqb-true sent.ends.from.number sent.said.ciaddr.number parts.1 }
    where
      unset : (b : Bool) → not b ≡ true → b ≡ false
      unset true h = absurd cc
      unset false h = refl

  -- an address isn't none
  not_none : Addressed → sent.said.ciaddr.number ≡ 0 → sent.ends.to.number ≡ 0xffffffff
  not_none a zero = absurd (unlike (sym (ap (λ n. n == 0) zero) ∙ a.test))
    where
      unlike : true ≡ false → ⊥
      unlike h = cc

  asks_so : asks_for_answers speaker sent.said ≡ true → sent.said.flags ≡ (if speaker.broadcast then BROADCAST_FLAG else 0)
  asks_so h = eqb-true sent.said.flags (if speaker.broadcast then BROADCAST_FLAG else 0) h

  plain_so : is_plain sent.said ≡ true → (sent.said.flags ≡ 0) × (sent.said.secs ≡ 0)
  plain_so h =
      let parts = both (sent.said.flags == 0) (sent.said.secs == 0) h in
      (eqb-true sent.said.flags 0 parts.0, eqb-true sent.said.secs 0 parts.1)

  -- where no address is held
  waiting : (tells : Bool) → has_no_address sent ≡ true → asks_for_answers speaker sent.said ≡ true → (tells ≡ false → sent.said.secs ≡ 0)
      → Facts (sent.said.ciaddr.number == 0) tells
  waiting tells none asks secs =
      let u : Unaddressed = unaddressed none in
      record {
        flags = asks_so asks ∙ ap (λ (awaits : Bool). if awaits && speaker.broadcast then BROADCAST_FLAG else 0) (sym u.test);
        secs = secs;
        from = u.from;
        to = λ zero. u.to;
      }

  request_facts : (asked server : Option Ip4) → is_our_request speaker sent asked server ≡ true → Facts (sent.said.ciaddr.number == 0) (is_some server)
  request_facts (Some asked) (Some server) h =
      let parts = both (has_no_address sent) (asks_for_answers speaker sent.said) h in
      waiting true parts.0 parts.1 (λ no. absurd cc)
  request_facts (Some asked) None h =
      let outer = both (has_no_address sent && asks_for_answers speaker sent.said) (sent.said.secs == 0) h in
      let parts = both (has_no_address sent) (asks_for_answers speaker sent.said) outer.0 in
      waiting false parts.0 parts.1 (λ no. eqb-true sent.said.secs 0 outer.1)
  request_facts None None h =
      let parts = both (has_address sent) (is_plain sent.said) h in
      let a : Addressed = addressed parts.0 in
      record {
        flags = (plain_so parts.1).0 ∙ ap (λ (awaits : Bool). if awaits && speaker.broadcast then BROADCAST_FLAG else 0) (sym a.test);
        secs = λ no. (plain_so parts.1).1;
        from = a.from;
        to = not_none a;
      }
  request_facts None (Some server) h = absurd cc

  kind_facts : (kind : Kind4) → is_our_kind speaker sent kind ≡ true → Facts (awaits_address sent.said kind) (tells_seconds sent.said kind)
  kind_facts Discover h =
      let a : Bool = has_no_address sent in
      let b : Bool = asks_for_answers speaker sent.said in
      let three = both (a && b) (is_none sent.said.asked) (both (a && b && is_none sent.said.asked) (is_none sent.said.server) h).0 in
      let two = both a b three.0 in
      let u : Unaddressed = unaddressed two.0 in
      record { flags = asks_so two.1; secs = λ no. absurd cc; from = u.from; to = λ zero. u.to }
  kind_facts Request h = request_facts sent.said.asked sent.said.server h
  kind_facts Decline h =
      let a : Bool = has_no_address sent in
      let b : Bool = is_plain sent.said in
      let three = both (a && b) (is_some sent.said.asked) (both (a && b && is_some sent.said.asked) (is_some sent.said.server) h).0 in
      let two = both a b three.0 in
      let u : Unaddressed = unaddressed two.0 in
      record { flags = (plain_so two.1).0; secs = λ no. (plain_so two.1).1; from = u.from; to = λ zero. u.to }
  kind_facts Release h =
      let a : Bool = has_address sent in
      let b : Bool = is_plain sent.said in
      let three = both (a && b) (is_none sent.said.asked) (both (a && b && is_none sent.said.asked) (goes_to sent.said.server sent) h).0 in
      let two = both a b three.0 in
      let held : Addressed = addressed two.0 in
      record { flags = (plain_so two.1).0; secs = λ no. (plain_so two.1).1; from = held.from; to = not_none held }

module _ (site : Site) (frame : List ℕ) where
  abbrev speaker : Speaker
  speaker = speaker_of site.managed

  abbrev ask : AskContent
  ask = ask_of site.duid site.managed

  own_frame : (sent : Sent4) → sent_in ask frame ≡ Some sent → is_ours speaker sent ≡ true → IsOwnFrame site frame sent
  own_frame sent spelled ours =
      let facts : Facts speaker sent (awaits_address sent.said sent.said.kind) (tells_seconds sent.said sent.said.kind) =
      kind_facts speaker sent sent.said.kind (both (same_said speaker sent && same_source speaker sent) (our_kind speaker sent) ours).1 in
      record {
        spelled = spelled_alone ask frame sent spelled;
        mac = own_mac speaker sent ours;
        source = own_source speaker sent ours;
        flags = facts.flags;
        secs = facts.secs;
        from = facts.from;
        to = facts.to;
      }

  by_test : (seen sent : Sent4) (ours : Bool) → sent_in ask frame ≡ Some seen → is_ours speaker seen ≡ ours → (if ours then Some seen else None) ≡ Some sent
      → IsOwnFrame site frame sent
  by_test seen sent true spelled is h = own_frame sent (spelled ∙ h) (ap (is_ours speaker) (sym (one_seen seen sent h)) ∙ is)
    where
      one_seen : (a b : Sent4) → Some a ≡ Some b → a ≡ b
      one_seen a b e = cc
  by_test seen sent false spelled is h = absurd cc

  by_spelled : (seen : Option Sent4) (sent : Sent4) → sent_in ask frame ≡ seen → option_and_then (if_ours speaker) seen ≡ Some sent → IsOwnFrame site frame sent
  by_spelled None sent is h = absurd cc
  by_spelled (Some seen) sent is h = by_test seen sent (is_ours speaker seen) is refl h

pub own_frames_alone : OwnFramesAlone
unfolding own_in
own_frames_alone site offer sent h = by_spelled site offer.bytes (sent_in (ask_of site.duid site.managed) offer.bytes) sent refl h

-- ---- the example

configured_fits : AskFits configured
configured_fits = ask_fits duid interface beginning_fits.duid interface_fits

without_fits : AskFits without_list
without_fits = record { client_id = configured_fits.client_id; vendor = configured_fits.vendor; host = configured_fits.host; list = lit< tt }

abbrev discover_as : Mac → (flags : ℕ) → Sent4
discover_as mac flags = record {
  ends = record first_discover.ends { from_mac = mac };
  said = record first_discover.said { mac = mac; flags = flags };
}

discover_fits : (mac : Mac) (flags : ℕ) → FitsMac mac → flags < 2 ^ 16 → FitsSent (discover_as mac flags)
discover_fits mac flags six small = record {
  from_mac = six;
  to_mac = refl;
  from = lit< tt;
  to = lit< tt;
  xid = lit< tt;
  secs = lit< tt;
  flags = small;
  ciaddr = lit< tt;
  mac = six;
  asked = tt;
  server = tt;
}

-- a message with the options as configured is the client's own by its fields
read_by : (sent : Sent4) → FitsSent sent → own_read configured sent ≡ if_ours (speaker_of interface) sent
unfolding own_in
read_by sent fits = ap (option_and_then (if_ours (speaker_of interface))) (reads_back configured sent configured_fits fits)

pub first_is_read : own_read configured first_discover ≡ Some first_discover
first_is_read = read_by first_discover (discover_fits client_mac 0 refl (lit< tt))

pub other_mac_is_none : own_read configured (discover_from server_mac) ≡ None
other_mac_is_none = read_by (discover_from server_mac) (discover_fits server_mac 0 refl (lit< tt))

pub odd_flags_are_none : own_read configured (discover_with BROADCAST_FLAG) ≡ None
odd_flags_are_none = read_by (discover_with BROADCAST_FLAG) (discover_fits client_mac BROADCAST_FLAG refl (lit< tt))

-- what a frame seems to say doesn't depend on the options that are looked for
one_is : (a b : Sent4) → Some a ≡ Some b → a ≡ b
one_is a b e = cc

unspelled : (ask other : AskContent) (frame : List ℕ) (sent : Sent4) (seen : Option Sent4) → bytes_eq frame (frame_of other sent) ≡ false
    → option_and_then (if_spelled ask frame) seen ≡ Some sent → option_and_then (if_spelled other frame) seen ≡ None
unspelled ask other frame sent None unlike h = absurd cc
unspelled ask other frame sent (Some seen) unlike h = by_test (bytes_eq frame (frame_of ask seen)) h
  where
    by_test : (same : Bool) → (if same then Some seen else None) ≡ Some sent → if_spelled other frame seen ≡ None
    by_test true h =
        ap (λ (s : Sent4). if_spelled other frame s) (one_is seen sent h) ∙ ap (λ (same : Bool). if same then Some sent else None) unlike
    by_test false h = absurd cc

unlike_frames : bytes_eq (frame_of without_list first_discover) (frame_of configured first_discover) ≡ false
unfolding udp4_frame_text udp4_text codes_of
unlike_frames = refl

no_list_spells : sent_in configured (frame_of without_list first_discover) ≡ None
unfolding sent_in
no_list_spells =
    unspelled without_list configured (frame_of without_list first_discover) first_discover (seen_in (frame_of without_list first_discover)) unlike_frames
    (reads_back without_list first_discover without_fits (discover_fits client_mac 0 refl (lit< tt)))

pub no_list_is_none : own_read without_list first_discover ≡ None
unfolding own_in
no_list_is_none = ap (option_and_then (if_ours (speaker_of interface))) no_list_spells
