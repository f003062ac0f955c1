-- What a client carries of the probes that were shown, and its ticks.
use Rattle.std.proofs.Common.{◌≡◌, ℕ, ◌+◌, ◌≤◌, ◌⊎◌, inl, inr, Bool, true, false, List, [], ◌∷◌, ◌++◌, Option, Some, None, refl, sym, ap, subst, ◌∙◌, nat_le, nat_lt, arith, append_assoc, bytes_eq}
use Rattle.std.proofs.lemmas.Bool.Decides.{nat_tests}
use Rattle.machine.specs.Moment.{is_due}
use Rattle.net_types.proofs.CaseLaws.{split, gated}
use Rattle.arp_acd.specs.declared.detection.Acd.{Acd}
use Rattle.arp_acd.specs.declared.detection.AcdSays.{AcdSays}
use Rattle.arp_acd.specs.declared.detection.AcdSays.TheVariants.{Quiet, SayProbe, SayAnnounce, Passed, Conflict, GivenUp}
use Rattle.arp_acd.specs.Table as detection
use Rattle.lease_text.specs.declared.lease.Terms4.{Terms4}
use Rattle.v4_client.specs.declared.moments.Backoff.TheVariants.{Four, Eight, Sixteen, ThirtyTwo, SixtyFour}
use Rattle.v4_client.specs.declared.states.Origin4.{Origin4}
use Rattle.v4_client.specs.declared.states.State4.{State4}
use Rattle.v4_client.specs.declared.states.State4.TheVariants.{Off, Init, Selecting, Requesting, Rebooting, Checking, Waiting, Bound, Renewing, Rebinding}
use Rattle.v4_client.specs.declared.states.Step4.{Step4}
use Rattle.v4_client.specs.declared.states.Turn4.{Turn4}
use Rattle.v4_client.specs.Detection.{checked, defended, with_acd}
use Rattle.v4_client.specs.Moments.{earlier, expiry, renewal_at, rebinding_at, standing_until}
use Rattle.v4_client.specs.Steps.{rests}
use Rattle.std.proofs.lemmas.Slice.Eq.{bytes_eq-Decides}
use Rattle.net_types.specs.declared.address.Ip4.{Ip4}
use Rattle.net_types.specs.declared.interface.IfIndex.{IfIndex}
use Rattle.frame_link.specs.Packets.{probe_text}
use Rattle.arp_acd.specs.declared.detection.ArpSay.TheVariants.{Probe}
use Rattle.arp_acd.specs.declared.detection.Phase.{Phase}
use Rattle.arp_acd.specs.declared.detection.Phase.TheVariants.{Probing, Announcing, Held, Over}
use Rattle.arp_acd.proofs.Standing.{mk, test-le, test-lt}
use Rattle.v4_message.specs.Requests.{AskContent}
use Rattle.v4_client.specs.Ticks.{detects, tick_row}
use Rattle.evidence_words.specs.ClientModel.Messages.{Said, Arp}
use Rattle.evidence_words.specs.ClientModel.Dhcp4Steps.{said_in}
use Rattle.evidence_words.specs.Entries.{Entry, Offer}
use Rattle.evidence_words.specs.Inputs.{Site, offers_at, contests}
use Rattle.evidence_words.specs.Probed.{TurnWord, probe_taken, Probes, Probed}
use Rattle.evidence_words.proofs.Offers as frames
use Rattle.evidence_words.proofs.Probing.{ProbesOf, probe_said, probes-on, three_said}
use Rattle.lease_evidence.specs.LeaseBasis.{tells_end, Calm}
use Rattle.lease_evidence.proofs.Watching.{message_in}

module _ (site : Site) where
  abbrev pub C : TurnWord
  C = Calm site

  -- ---- after a turn

  -- an address is probed, where addresses are
  abbrev pub IsProbed : Ip4 → List Entry → Type 0
  IsProbed addr past = site.managed.conf.flags.noarp ≡ false → Probed C C site addr past

  -- of the probes that were said only where no send of the last turn failed
  abbrev pub Probes4 : (clean : Type 0) → Ip4 → Phase → List Entry → Type 0
  Probes4 clean addr (Probing n due) past = (n ≤ 3) × (clean → ProbesOf C site addr n due past)
  Probes4 clean addr (Announcing due last) past = ⊥
  Probes4 clean addr (Held last) past = ⊥
  Probes4 clean addr Over past = ⊥

  abbrev pub Bears : (clean : Type 0) → State4 → List Entry → Type 0
  Bears clean Off past = Unit {0}
  Bears clean (Init due) past = Unit {0}
  Bears clean (Selecting xid began secs backoff due) past = Unit {0}
  Bears clean (Requesting exchange secs backoff due) past = Unit {0}
  Bears clean (Rebooting exchange backoff end due stands) past = Unit {0}
  Bears clean (Checking xid terms origin acd stands) past = (acd.addr ≡ terms.net.ip) × Probes4 clean acd.addr acd.phase past
  Bears clean (Waiting due) past = Unit {0}
  Bears clean (Bound xid terms acd) past = IsProbed terms.net.ip past
  Bears clean (Renewing exchange terms acd due) past = (exchange.address ≡ terms.net.ip) × IsProbed terms.net.ip past
  Bears clean (Rebinding exchange terms acd due) past = (exchange.address ≡ terms.net.ip) × IsProbed terms.net.ip past

  -- ---- within a turn, after the tick: what the input does isn't known yet

  module _ (ask : AskContent) (clean : Type 0) (e : Entry) (past : List Entry) where
    abbrev pub OfferedHere : List Said → Type 0
    OfferedHere said = frames.Offered site.managed.spec ask clean said (offers_at site e)

    abbrev pub IsProbedAmid : Ip4 → Type 0
    IsProbedAmid addr = site.managed.conf.flags.noarp ≡ false → Probed C C site addr past ⊎ Probes C C site addr 3 2000 e.moment past

    abbrev pub Probes4Amid : List Said → Ip4 → Phase → Type 0
    Probes4Amid said addr (Probing n due) =
        (n ≤ 3) × ((more : List Said) → OfferedHere (said ++ more) → clean → C e past → contests site addr e ≡ false → ProbesOf C site addr n due (e ∷ past))
    Probes4Amid said addr (Announcing due last) = ⊥
    Probes4Amid said addr (Held last) = ⊥
    Probes4Amid said addr Over = ⊥

    -- `ended` is whether an end was told
    abbrev pub BearsAmid : List Said → (ended : Bool) → State4 → Type 0
    BearsAmid said ended Off = Unit {0}
    BearsAmid said ended (Init due) = Unit {0}
    BearsAmid said ended (Selecting xid began secs backoff due) = Unit {0}
    BearsAmid said ended (Requesting exchange secs backoff due) = Unit {0}
    BearsAmid said ended (Rebooting exchange backoff end due stands) = Unit {0}
    BearsAmid said ended (Checking xid terms origin acd stands) = (ended ≡ false) × (acd.addr ≡ terms.net.ip) × Probes4Amid said acd.addr acd.phase
    BearsAmid said ended (Waiting due) = Unit {0}
    BearsAmid said ended (Bound xid terms acd) = (ended ≡ false) × IsProbedAmid terms.net.ip
    BearsAmid said ended (Renewing exchange terms acd due) = (ended ≡ false) × (exchange.address ≡ terms.net.ip) × IsProbedAmid terms.net.ip
    BearsAmid said ended (Rebinding exchange terms acd due) = (ended ≡ false) × (exchange.address ≡ terms.net.ip) × IsProbedAmid terms.net.ip

    -- ---- the end of the turn

    past_cut : (later : List Entry) (fourth : Entry) (earlier : List Entry) → past ≡ later ++ fourth ∷ earlier → C e past
        → C e ((later ++ fourth ∷ []) ++ earlier)
    past_cut later fourth earlier cut h = subst (λ turns. C e turns) (cut ∙ sym (append_assoc later (fourth ∷ []) earlier)) h

    probed_on : (addr : Ip4) → C e past → Probed C C site addr past ⊎ Probes C C site addr 3 2000 e.moment past → Probed C C site addr (e ∷ past)
    probed_on addr calm (inl h) = record {
      later = e ∷ h.later;
      fourth = h.fourth;
      earlier = h.earlier;
      cut = ap (λ turns. e ∷ turns) h.cut;
      probes = h.probes;
      since = (past_cut h.later h.fourth h.earlier h.cut calm, h.since);
    }
    probed_on addr calm (inr h) = record { later = []; fourth = e; earlier = past; cut = refl; probes = h; since = (calm, tt) }

    pub is_probed_on : (addr : Ip4) → C e past → IsProbedAmid addr → IsProbed addr (e ∷ past)
    is_probed_on addr calm h noarp = probed_on addr calm (h noarp)

    probes_on : (said more : List Said) (addr : Ip4) (phase : Phase) → OfferedHere (said ++ more) → C e past → contests site addr e ≡ false
        → Probes4Amid said addr phase → Probes4 clean addr phase (e ∷ past)
    probes_on said more addr (Probing n due) h calm none m = (m.0, λ k. m.1 more h k calm none)
    probes_on said more addr (Announcing due last) h calm none m = m
    probes_on said more addr (Held last) h calm none m = m
    probes_on said more addr Over h calm none m = m

    -- the state stays as it is, in a calm turn in which nobody contests the address that is probed
    pub bears_on : (said more : List Said) (ended : Bool) (state : State4) → OfferedHere (said ++ more) → (ended ≡ false → C e past)
        →
        ((xid : ℕ) (terms : Terms4) (origin : Origin4) (acd : Acd) (stands : Option Terms4) → state ≡ Checking xid terms origin acd stands
        → contests site acd.addr e ≡ false)
        → BearsAmid said ended state → Bears clean state (e ∷ past)
    bears_on said more ended Off h calm none b = tt
    bears_on said more ended (Init due) h calm none b = tt
    bears_on said more ended (Selecting xid began secs backoff due) h calm none b = tt
    bears_on said more ended (Requesting exchange secs backoff due) h calm none b = tt
    bears_on said more ended (Rebooting exchange backoff end due stands) h calm none b = tt
    bears_on said more ended (Checking xid terms origin acd stands) h calm none b =
        (b.1, probes_on said more acd.addr acd.phase h (calm b.0) (none xid terms origin acd stands refl) b.2)
    bears_on said more ended (Waiting due) h calm none b = tt
    bears_on said more ended (Bound xid terms acd) h calm none b = is_probed_on terms.net.ip (calm b.0) b.1
    bears_on said more ended (Renewing exchange terms acd due) h calm none b = (b.1, is_probed_on terms.net.ip (calm b.0) b.2)
    bears_on said more ended (Rebinding exchange terms acd due) h calm none b = (b.1, is_probed_on terms.net.ip (calm b.0) b.2)

    -- ---- the tick

    abbrev pub AfterTick : Step4 → Type 0
    AfterTick step = BearsAmid (said_in step) (tells_end (message_in step)) step.state

    still_probed : (addr : Ip4) → IsProbed addr past → IsProbedAmid addr
    still_probed addr h noarp = inl (h noarp)

    early_amid : (addr : Ip4) (phase : Phase) → Probes4 (Unit {0}) addr phase past → Probes4Amid [] addr phase
    early_amid addr (Probing n due) c = (c.0, λ more h k calm none. probes-on C site addr n _ due e past calm none (c.1 tt))
    early_amid addr (Announcing due last) c = c
    early_amid addr (Held last) c = c
    early_amid addr Over c = c

    pub rested_amid : (turn : Turn4) (state : State4) → Bears (Unit {0}) state past → AfterTick (rests turn state)
    rested_amid turn Off b = tt
    rested_amid turn (Init due) b = tt
    rested_amid turn (Selecting xid began secs backoff due) b = tt
    rested_amid turn (Requesting exchange secs backoff due) b = tt
    rested_amid turn (Rebooting exchange backoff end due stands) b = tt
    rested_amid turn (Checking xid terms origin acd stands) b = (refl, b.0, early_amid acd.addr acd.phase b.1)
    rested_amid turn (Waiting due) b = tt
    rested_amid turn (Bound xid terms acd) b = (refl, still_probed terms.net.ip b)
    rested_amid turn (Renewing exchange terms acd due) b = (refl, b.0, still_probed terms.net.ip b.1)
    rested_amid turn (Rebinding exchange terms acd due) b = (refl, b.0, still_probed terms.net.ip b.1)

    one_more_probe : (n : ℕ) → nat_lt n 3 ≡ true → n + 1 ≤ 3
    one_more_probe n h = grind (arith, nat_tests)

    three : (n : ℕ) → n ≤ 3 → nat_lt n 3 ≡ false → n ≡ 3
    three n le h = grind (arith, nat_tests)

    probe_offered : (addr : Ip4) (more : List Said) (offers : List Offer) → frames.Offered site.managed.spec ask clean (Arp (Probe addr) ∷ more) offers → clean
        → probe_taken site addr offers ≡ true
    probe_offered addr more [] h k = absurd h
    probe_offered addr more (o ∷ offers) h k =
        let same : bytes_eq o.bytes (probe_text site.managed.spec.mac addr) ≡ true = (bytes_eq-Decides o.bytes (probe_text site.managed.spec.mac addr)).1 h.0 in
        rw (h.1 k) (rw same refl)

    module _ (turn : Turn4) (now : turn.at ≡ e.moment) where
      checking_amid : (xid : ℕ) (terms : Terms4) (origin : Origin4) (i : IfIndex) (addr : Ip4) (phase : Phase) (stands : Option Terms4) → addr ≡ terms.net.ip
          → Probes4 (Unit {0}) addr phase past
          → AfterTick
          (checked turn xid terms origin (detection.acd_tick (mk i addr phase) turn.at turn.salt).acd stands
          (detection.acd_tick (mk i addr phase) turn.at turn.salt).says)
      checking_amid xid terms origin i addr (Probing n due) stands same c =
          split (nat_le due turn.at)
          (λ come. rw come (
          let le : due ≤ e.moment = subst (λ at. due ≤ at) now (test-le due turn.at come) in
          split (nat_lt n 3)
          (λ few. rw few (
            refl,
            same,
            (
              one_more_probe n few,
              λ more h k calm none.
                  subst (λ at. ProbesOf C site addr (n + 1) (detection.due_after i (n + 1) at turn.salt) (e ∷ past)) (sym now)
                  (probe_said C site addr i n due turn.salt e past (test-lt n 3 few) le (c.1 tt) calm none
                  (subst (λ a. probe_taken site a (offers_at site e) ≡ true) (sym same) (probe_offered terms.net.ip more (offers_at site e) h k))),
            ),
          ))
          (λ all. rw all (
            refl,
            λ noarp. inr (subst (λ a. Probes C C site a 3 2000 e.moment past) same (three_said C site addr n due e past (three n c.0 all) le (c.1 tt))),
          ))))
          (λ early. rw early (refl, same, early_amid addr (Probing n due) c))
      checking_amid xid terms origin i addr (Announcing due last) stands same c = absurd c
      checking_amid xid terms origin i addr (Held last) stands same c = absurd c
      checking_amid xid terms origin i addr Over stands same c = absurd c

      defends_amid : (xid : ℕ) (terms : Terms4) (state : State4) (says : AcdSays) → ((said : List Said) → BearsAmid said false state)
          → AfterTick (defended turn xid terms state says)
      defends_amid xid terms state Quiet on = on (said_in (defended turn xid terms state Quiet))
      defends_amid xid terms state SayProbe on = on (said_in (defended turn xid terms state SayProbe))
      defends_amid xid terms state SayAnnounce on = on (said_in (defended turn xid terms state SayAnnounce))
      defends_amid xid terms state Passed on = on (said_in (defended turn xid terms state Passed))
      defends_amid xid terms state Conflict on = on (said_in (defended turn xid terms state Conflict))
      defends_amid xid terms state GivenUp on = tt

      detects_amid : (xid : ℕ) (terms : Terms4) (state : State4) (acd : Option Acd)
          → ((acd : Acd) (said : List Said) → BearsAmid said false (with_acd state acd))
          → ((said : List Said) → BearsAmid said false state) → AfterTick (detects turn xid terms state acd)
      detects_amid xid terms state None with_on on = on []
      detects_amid xid terms state (Some acd) with_on on =
          defends_amid xid terms (with_acd state (detection.acd_tick acd turn.at turn.salt).acd) (detection.acd_tick acd turn.at turn.salt).says
          (with_on (detection.acd_tick acd turn.at turn.salt).acd)

      pub tick_amid : (state : State4) → Bears (Unit {0}) state past → AfterTick (tick_row turn state)
      tick_amid Off b = tt
      tick_amid (Init due) b = tt
      tick_amid (Waiting due) b = tt
      tick_amid (Selecting xid began secs backoff due) b = tt
      tick_amid (Requesting exchange secs Four due) b = tt
      tick_amid (Requesting exchange secs Eight due) b = tt
      tick_amid (Requesting exchange secs Sixteen due) b = tt
      tick_amid (Requesting exchange secs ThirtyTwo due) b = tt
      tick_amid (Requesting exchange secs SixtyFour due) b = tt
      tick_amid (Rebooting exchange backoff end due stands) b =
          gated AfterTick (is_due (standing_until stands) turn.at) _ _ tt (gated AfterTick (nat_le end turn.at) _ _ tt tt)
      tick_amid (Checking xid terms origin acd stands) b =
          gated AfterTick (is_due (standing_until stands) turn.at) _ _ (refl, b.0, early_amid acd.addr acd.phase b.1)
          (gated AfterTick (is_due (expiry terms) turn.at) _ _ tt (checking_amid xid terms origin acd.iface acd.addr acd.phase stands b.0 b.1))
      tick_amid (Bound xid terms acd) b =
          let p : IsProbedAmid terms.net.ip = still_probed terms.net.ip b in
          gated AfterTick (is_due (expiry terms) turn.at) _ _ tt
          (gated AfterTick (is_due (rebinding_at terms) turn.at) _ _ (refl, refl, p)
          (gated AfterTick (is_due (renewal_at terms) turn.at) _ _ (refl, refl, p)
          (detects_amid xid terms (Bound xid terms acd) acd (λ next said. (refl, p)) (λ said. (refl, p)))))
      tick_amid (Renewing exchange terms acd due) b =
          let p : IsProbedAmid terms.net.ip = still_probed terms.net.ip b.1 in
          gated AfterTick (is_due (expiry terms) turn.at) _ _ tt
          (gated AfterTick (is_due (rebinding_at terms) turn.at) _ _ (refl, refl, p)
          (gated AfterTick (nat_le due turn.at) _ _ (refl, b.0, p)
          (detects_amid exchange.xid terms (Renewing exchange terms acd due) acd (λ next said. (refl, b.0, p)) (λ said. (refl, b.0, p)))))
      tick_amid (Rebinding exchange terms acd due) b =
          let p : IsProbedAmid terms.net.ip = still_probed terms.net.ip b.1 in
          gated AfterTick (is_due (expiry terms) turn.at) _ _ tt
          (gated AfterTick (nat_le due turn.at) _ _ (refl, b.0, p)
          (detects_amid exchange.xid terms (Rebinding exchange terms acd due) acd (λ next said. (refl, b.0, p)) (λ said. (refl, b.0, p))))
