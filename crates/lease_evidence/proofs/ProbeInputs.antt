-- Inputs keep what a client carries of the probes that were shown.
use Rattle.std.proofs.Common.{◌≡◌, ℕ, zero, suc, ◌||◌, Bool, true, false, List, ◌∷◌, ◌++◌, Option, Some, None, refl, sym, ap, subst, ◌∙◌, nat_lt, eqb, arith, lit≤}
use Rattle.std.proofs.lemmas.Bool.Decides.{nat_tests}
use Rattle.machine.specs.Moment.{is_due}
use Rattle.net_types.proofs.CaseLaws.{split, gated}
use Rattle.net_types.specs.declared.address.Mac.{Mac}
use Rattle.frame_link.specs.declared.arp.ArpView.{ArpView}
use Rattle.arp_acd.specs.declared.detection.Acd.{Acd}
use Rattle.arp_acd.specs.declared.detection.AcdSays.{AcdSays}
use Rattle.arp_acd.specs.declared.detection.AcdSays.TheVariants.{Quiet, SayProbe, SayAnnounce, Passed, Conflict, GivenUp}
use Rattle.arp_acd.specs.Table as detection
use Rattle.lease_text.specs.declared.lease.Terms4.{Terms4}
use Rattle.v4_client.specs.declared.states.Answer4.{Answer4}
use Rattle.v4_client.specs.declared.states.Answer4.TheVariants as answer
use Rattle.v4_client.specs.declared.states.Exchange4.{Exchange4}
use Rattle.v4_client.specs.declared.states.News4.{News4}
use Rattle.v4_client.specs.declared.states.News4.TheVariants as news
use Rattle.v4_client.specs.declared.states.Origin4.{Origin4}
use Rattle.v4_client.specs.declared.states.State4.{State4}
use Rattle.v4_client.specs.declared.states.State4.TheVariants.{Off, Init, Selecting, Requesting, Rebooting, Checking, Waiting, Bound, Renewing, Rebinding}
use Rattle.v4_client.specs.declared.states.Step4.{Step4}
use Rattle.v4_client.specs.declared.states.Tell.{Tell}
use Rattle.v4_client.specs.declared.states.Tell.TheVariants.{Server, Nobody}
use Rattle.v4_client.specs.declared.states.Turn4.{Turn4}
use Rattle.v4_client.specs.Detection.{checked, defended, with_acd}
use Rattle.v4_client.specs.Moments.{expiry}
use Rattle.v4_client.specs.Steps.{rests}
use Rattle.v4_client.specs.Answers.{answering, offer_by, reply_in, answer_of}
use Rattle.v4_client.specs.Hearing.{offered, granted, answered, renewed, heard_row, contested, arp_row}
use Rattle.v4_client.specs.Inputs.{begins, begin_row, released, released_standing, release_row, rebind_row, unsent_row}
use Rattle.v4_client.specs.Messages.{Arrival}
use Rattle.v4_client.specs.Settings.{SettingsContent}
use Rattle.net_types.specs.declared.address.Ip4.{Ip4}
use Rattle.net_types.specs.declared.interface.IfIndex.{IfIndex}
use Rattle.arp_acd.specs.Conflict.{is_contested}
use Rattle.arp_acd.specs.declared.detection.Phase.{Phase}
use Rattle.arp_acd.specs.declared.detection.Phase.TheVariants.{Probing, Announcing, Held, Over}
use Rattle.arp_acd.proofs.Standing.{mk}
use Rattle.v4_message.specs.Requests.{AskContent}
use Rattle.evidence_words.specs.ClientModel.Messages.{Said}
use Rattle.evidence_words.specs.Entries.{Entry}
use Rattle.evidence_words.specs.Inputs.{Site, index_at, arp_on, tells_contest, contests}
use Rattle.lease_evidence.specs.LeaseBasis.{tells_end, Calm}
use Rattle.lease_evidence.proofs.ReplyFacts.{is_granted}
use Rattle.lease_evidence.proofs.Watching.{message_in}
use Rattle.v4_client.specs.declared.states.Origin4.TheVariants as origin
use Rattle.lease_evidence.proofs.ReplyFacts.{IsGranted}
use Rattle.lease_evidence.proofs.ProbeTicks.{Bears, BearsAmid, bears_on, is_probed_on, IsProbed, IsProbedAmid, Probes4, OfferedHere}

module _ (site : Site) (ask : AskContent) (clean : Type 0) (e : Entry) (past : List Entry) (said more : List Said) (ended : Bool) where
  module _ (offers : OfferedHere site ask clean e past (said ++ more)) where
    -- after the step of the input, where the turn was calm unless an end was told
    abbrev pub Then : Step4 → Type 0
    Then step = (ended ≡ false → tells_end (message_in step) ≡ false → Calm site e past) → Bears site clean step.state (e ∷ past)

    abbrev Amid : State4 → Type 0
    Amid state = BearsAmid site ask clean e past said ended state

    abbrev Uncontested : State4 → Type 0
    Uncontested state = (xid : ℕ) (terms : Terms4) (origin : Origin4) (acd : Acd) (stands : Option Terms4) → state ≡ Checking xid terms origin acd stands
        → contests site acd.addr e ≡ false

    stays : (turn : Turn4) (state : State4) → Uncontested state → Amid state → Then (rests turn state)
    stays turn state none b calm = bears_on site ask clean e past said more ended state offers (λ q. calm q refl) none b

    -- ---- a message

    module _ (settings : SettingsContent) (arrival : Arrival) (turn : Turn4) (arped : turn.site.flags.noarp ≡ site.managed.conf.flags.noarp)
        (silent : arp_on (index_at site) e.event e.bytes ≡ None) where
      none : (state : State4) → Uncontested state
      none state xid terms origin acd stands is = ap (tells_contest site.own acd.addr) silent

      offering : (xid secs : ℕ) (state : State4) (said : Answer4) → Bears site clean state (e ∷ past) → Then (offered turn xid secs state said)
      offering xid secs state answer.Nothing b calm = b
      offering xid secs state (answer.Offer address server) b calm = tt
      offering xid secs state (answer.Ack terms) b calm = b
      offering xid secs state answer.Nak b calm = b

      granting : (xid : ℕ) (terms : Terms4) (origin : Origin4) (stands : Option Terms4) → Then (granted turn xid terms origin stands)
      granting xid terms origin stands =
          split turn.site.flags.noarp
          (λ off. rw off (λ calm on. absurd (both off (arped ∙ on))))
          (λ on. rw on (λ calm. (refl, (lit≤ tt, λ k. tt))))
        where
          both : turn.site.flags.noarp ≡ true → turn.site.flags.noarp ≡ false → ⊥
          both a b = cc

      answering_said : (xid : ℕ) (origin : Origin4) (stands : Option Terms4) (state : State4) (said : Answer4) → Bears site clean state (e ∷ past)
          → Then (answered turn xid origin stands state said)
      answering_said xid origin stands state answer.Nothing b = λ calm. b
      answering_said xid origin stands state (answer.Offer address server) b = λ calm. b
      answering_said xid origin stands state (answer.Ack terms) b = granting xid terms origin stands
      answering_said xid origin stands state answer.Nak b = λ calm. tt

      renewing_said : (exchange : Exchange4) (terms : Terms4) (news : News4) (acd : Option Acd) (state : State4) (said : Answer4)
          → reply_in settings arrival exchange ≡ said → ended ≡ false → exchange.address ≡ terms.net.ip → IsProbedAmid site ask clean e past terms.net.ip
          → (Calm site e past → Bears site clean state (e ∷ past)) → Then (renewed turn exchange.xid news acd state said)
      renewing_said exchange terms news acd state answer.Nothing is q same b on calm = on (calm q refl)
      renewing_said exchange terms news acd state (answer.Offer address server) is q same b on calm = on (calm q refl)
      renewing_said exchange terms news acd state (answer.Ack granted) is q same b on calm =
          let g : IsGranted settings exchange arrival granted = is_granted settings exchange arrival granted is in
          subst (λ (a : Ip4). IsProbed site a (e ∷ past)) (sym same ∙ sym g.address)
          (is_probed_on site ask clean e past terms.net.ip (calm q refl) b)
      renewing_said exchange terms news acd state answer.Nak is q same b on calm = tt

      pub heard_bears : (state : State4) → Amid state → Then (heard_row turn (answer_of settings arrival state) state)
      heard_bears Off b = λ calm. tt
      heard_bears (Init due) b = λ calm. tt
      heard_bears (Selecting xid began secs backoff due) b =
          offering xid secs (Selecting xid began secs backoff due) (offer_by settings arrival (answering settings xid arrival)) tt
      heard_bears (Requesting exchange secs backoff due) b =
          answering_said exchange.xid origin.Offered None (Requesting exchange secs backoff due) (reply_in settings arrival exchange) tt
      heard_bears (Rebooting exchange backoff end due stands) b =
          answering_said exchange.xid origin.Rebooted stands (Rebooting exchange backoff end due stands) (reply_in settings arrival exchange) tt
      heard_bears (Checking xid terms origin acd stands) b = stays turn (Checking xid terms origin acd stands) (none (Checking xid terms origin acd stands)) b
      heard_bears (Waiting due) b = λ calm. tt
      heard_bears (Bound xid terms acd) b = stays turn (Bound xid terms acd) (none (Bound xid terms acd)) b
      heard_bears (Renewing exchange terms acd due) b =
          renewing_said exchange terms news.Renew acd (Renewing exchange terms acd due) (reply_in settings arrival exchange) refl b.0 b.1 b.2
          (λ calm. (b.1, is_probed_on site ask clean e past terms.net.ip calm b.2))
      heard_bears (Rebinding exchange terms acd due) b =
          renewing_said exchange terms news.Rebind acd (Rebinding exchange terms acd due) (reply_in settings arrival exchange) refl b.0 b.1 b.2
          (λ calm. (b.1, is_probed_on site ask clean e past terms.net.ip calm b.2))

    -- ---- an ARP packet

    module _ (turn : Turn4) (arp : ArpView) (heard : arp_on (index_at site) e.event e.bytes ≡ Some arp) where
      defends : (xid : ℕ) (terms : Terms4) (state : State4) (says : AcdSays) → ended ≡ false → (Calm site e past → Bears site clean state (e ∷ past))
          → Then (defended turn xid terms state says)
      defends xid terms state Quiet q on calm = on (calm q refl)
      defends xid terms state SayProbe q on calm = on (calm q refl)
      defends xid terms state SayAnnounce q on calm = on (calm q refl)
      defends xid terms state Passed q on calm = on (calm q refl)
      defends xid terms state Conflict q on calm = on (calm q refl)
      defends xid terms state GivenUp q on calm = tt

      contests_held : (own : List Mac) (xid : ℕ) (terms : Terms4) (state : State4) (acd : Option Acd) → ended ≡ false
          → ((acd : Acd) → Calm site e past → Bears site clean (with_acd state acd) (e ∷ past))
          → (Calm site e past → Bears site clean state (e ∷ past)) → Then (contested own turn arp xid terms state acd)
      contests_held own xid terms state None q with_on on = λ calm. on (calm q refl)
      contests_held own xid terms state (Some acd) q with_on on =
          defends xid terms (with_acd state (detection.acd_hears own acd arp turn.at).acd) (detection.acd_hears own acd arp turn.at).says q
          (with_on (detection.acd_hears own acd arp turn.at).acd)

      checking_heard : (xid : ℕ) (terms : Terms4) (origin : Origin4) (i : IfIndex) (addr : Ip4) (phase : Phase) (stands : Option Terms4)
          → Amid (Checking xid terms origin (mk i addr phase) stands)
          → Then
          (checked turn xid terms origin (detection.acd_hears site.own (mk i addr phase) arp turn.at).acd stands
          (detection.acd_hears site.own (mk i addr phase) arp turn.at).says)
      checking_heard xid terms origin i addr (Probing n due) stands b =
          split (is_contested site.own addr arp)
          (λ taken. rw taken (λ calm. tt))
          (λ free. rw free (stays turn (Checking xid terms origin (mk i addr (Probing n due)) stands)
          (λ xid2 terms2 origin2 acd2 stands2 is. ap (λ (a : Ip4). tells_contest site.own a (arp_on (index_at site) e.event e.bytes)) (sym (address_of is))
          ∙ ap (tells_contest site.own addr) heard ∙ free)
          b))
        where
          checked_address : State4 → Ip4
          checked_address (Checking xid terms origin acd stands) = acd.addr
          checked_address state = addr

          address_of : {xid2 : ℕ} {terms2 : Terms4} {origin2 : Origin4} {acd2 : Acd} {stands2 : Option Terms4}
              → Checking xid terms origin (mk i addr (Probing n due)) stands ≡ Checking xid2 terms2 origin2 acd2 stands2
              → addr ≡ acd2.addr
          address_of is = ap checked_address is
      checking_heard xid terms origin i addr (Announcing due last) stands b = absurd b.2
      checking_heard xid terms origin i addr (Held last) stands b = absurd b.2
      checking_heard xid terms origin i addr Over stands b = absurd b.2

      pub arp_bears : (state : State4) → Amid state → Then (arp_row site.own turn arp state)
      arp_bears Off b = λ calm. tt
      arp_bears (Init due) b = λ calm. tt
      arp_bears (Selecting xid began secs backoff due) b = λ calm. tt
      arp_bears (Requesting exchange secs backoff due) b = λ calm. tt
      arp_bears (Rebooting exchange backoff end due stands) b = λ calm. tt
      arp_bears (Checking xid terms origin acd stands) b = checking_heard xid terms origin acd.iface acd.addr acd.phase stands b
      arp_bears (Waiting due) b = λ calm. tt
      arp_bears (Bound xid terms acd) b =
          let on : Calm site e past → IsProbed site terms.net.ip (e ∷ past) = λ calm. is_probed_on site ask clean e past terms.net.ip calm b.1 in
          contests_held site.own xid terms (Bound xid terms acd) acd b.0 (λ next. on) on
      arp_bears (Renewing exchange terms acd due) b =
          let on : Calm site e past → (exchange.address ≡ terms.net.ip) × IsProbed site terms.net.ip (e ∷ past) =
          λ calm. (b.1, is_probed_on site ask clean e past terms.net.ip calm b.2) in
          contests_held site.own exchange.xid terms (Renewing exchange terms acd due) acd b.0 (λ next. on) on
      arp_bears (Rebinding exchange terms acd due) b =
          let on : Calm site e past → (exchange.address ≡ terms.net.ip) × IsProbed site terms.net.ip (e ∷ past) =
          λ calm. (b.1, is_probed_on site ask clean e past terms.net.ip calm b.2) in
          contests_held site.own exchange.xid terms (Rebinding exchange terms acd due) acd b.0 (λ next. on) on

    -- ---- the other inputs

    module _ (turn : Turn4) (silent : arp_on (index_at site) e.event e.bytes ≡ None) where
      no_arp : (state : State4) → Uncontested state
      no_arp state xid terms origin acd stands is = ap (tells_contest site.own acd.addr) silent

      pub rests_bears : (state : State4) → Amid state → Then (rests turn state)
      rests_bears state b = stays turn state (no_arp state) b

      begun : (may_stand : Bool) (kept : Option Terms4) → Then (begins turn may_stand kept)
      begun may_stand None = λ calm. tt
      begun may_stand (Some terms) =
          gated (λ (step : Step4). Then (record step { spends = true })) (is_due (expiry terms) turn.at || eqb turn.site.times.reboot 0) _ _ (λ calm. tt)
          (λ calm. tt)

      pub begin_bears : (may_stand : Bool) (kept : Option Terms4) (state : State4) → Amid state → Then (begin_row turn may_stand kept state)
      begin_bears may_stand kept Off b = begun may_stand kept
      begin_bears may_stand kept (Init due) b = rests_bears (Init due) b
      begin_bears may_stand kept (Selecting xid began secs backoff due) b = rests_bears (Selecting xid began secs backoff due) b
      begin_bears may_stand kept (Requesting exchange secs backoff due) b = rests_bears (Requesting exchange secs backoff due) b
      begin_bears may_stand kept (Rebooting exchange backoff end due stands) b = rests_bears (Rebooting exchange backoff end due stands) b
      begin_bears may_stand kept (Checking xid terms origin acd stands) b = rests_bears (Checking xid terms origin acd stands) b
      begin_bears may_stand kept (Waiting due) b = rests_bears (Waiting due) b
      begin_bears may_stand kept (Bound xid terms acd) b = rests_bears (Bound xid terms acd) b
      begin_bears may_stand kept (Renewing exchange terms acd due) b = rests_bears (Renewing exchange terms acd due) b
      begin_bears may_stand kept (Rebinding exchange terms acd due) b = rests_bears (Rebinding exchange terms acd due) b

      pub rebind_bears : (kept : Option Terms4) (state : State4) → Amid state → Then (rebind_row turn kept state)
      rebind_bears kept Off b = begun false kept
      rebind_bears kept (Init due) b = rests_bears (Init due) b
      rebind_bears kept (Selecting xid began secs backoff due) b = rests_bears (Selecting xid began secs backoff due) b
      rebind_bears kept (Requesting exchange secs backoff due) b = rests_bears (Requesting exchange secs backoff due) b
      rebind_bears kept (Rebooting exchange backoff end due stands) b = rests_bears (Rebooting exchange backoff end due stands) b
      rebind_bears kept (Checking xid terms origin acd stands) b = rests_bears (Checking xid terms origin acd stands) b
      rebind_bears kept (Waiting due) b = rests_bears (Waiting due) b
      rebind_bears kept (Bound xid terms acd) b = λ calm. (refl, is_probed_on site ask clean e past terms.net.ip (calm b.0 refl) b.1)
      rebind_bears kept (Renewing exchange terms acd due) b = λ calm. (refl, is_probed_on site ask clean e past terms.net.ip (calm b.0 refl) b.2)
      rebind_bears kept (Rebinding exchange terms acd due) b = rests_bears (Rebinding exchange terms acd due) b

-- ---- a client that stops is off

released_off : (turn : Turn4) (tell : Tell) (terms : Terms4) → (released turn tell terms).state ≡ Off
released_off turn Server terms = refl
released_off turn Nobody terms = refl

standing_off : (turn : Turn4) (tell : Tell) (stands : Option Terms4) → (released_standing turn tell stands).state ≡ Off
standing_off turn tell None = refl
standing_off turn tell (Some terms) = released_off turn tell terms

pub stops : (turn : Turn4) (tell : Tell) (state : State4) → (release_row turn tell state).state ≡ Off
stops turn tell Off = refl
stops turn tell (Init due) = refl
stops turn tell (Selecting xid began secs backoff due) = refl
stops turn tell (Requesting exchange secs backoff due) = refl
stops turn tell (Rebooting exchange backoff end due stands) = standing_off turn tell stands
stops turn tell (Checking xid terms origin acd stands) = standing_off turn tell stands
stops turn tell (Waiting due) = refl
stops turn tell (Bound xid terms acd) = released_off turn tell terms
stops turn tell (Renewing exchange terms acd due) = released_off turn tell terms
stops turn tell (Rebinding exchange terms acd due) = released_off turn tell terms

-- and can't stand on its kept lease any more
released_spends : (turn : Turn4) (tell : Tell) (terms : Terms4) → (released turn tell terms).spends ≡ true
released_spends turn Server terms = refl
released_spends turn Nobody terms = refl

standing_spends : (turn : Turn4) (tell : Tell) (stands : Option Terms4) → (released_standing turn tell stands).spends ≡ true
standing_spends turn tell None = refl
standing_spends turn tell (Some terms) = released_spends turn tell terms

pub stops_spend : (turn : Turn4) (tell : Tell) (state : State4) → (release_row turn tell state).spends ≡ true
stops_spend turn tell Off = refl
stops_spend turn tell (Init due) = refl
stops_spend turn tell (Selecting xid began secs backoff due) = refl
stops_spend turn tell (Requesting exchange secs backoff due) = refl
stops_spend turn tell (Rebooting exchange backoff end due stands) = standing_spends turn tell stands
stops_spend turn tell (Checking xid terms origin acd stands) = standing_spends turn tell stands
stops_spend turn tell (Waiting due) = refl
stops_spend turn tell (Bound xid terms acd) = released_spends turn tell terms
stops_spend turn tell (Renewing exchange terms acd due) = released_spends turn tell terms
stops_spend turn tell (Rebinding exchange terms acd due) = released_spends turn tell terms

-- ---- a failed send of the turn before

module _ (site : Site) (clean : Type 0) (past : List Entry) where
  restarted_phase : (i : IfIndex) (addr : Ip4) (phase : Phase) (at salt : ℕ) → Probes4 site clean addr phase past
      → Probes4 site (Unit {0}) addr (detection.acd_restarts (mk i addr phase) at salt).phase past
  restarted_phase i addr (Probing n due) at salt c =
      split (nat_lt 0 n) (λ some. rw some (lit≤ tt, λ k. tt)) (λ none. rw none (none_sent n none))
    where
      none_sent : (n : ℕ) → nat_lt 0 n ≡ false → Probes4 site (Unit {0}) addr (Probing n due) past
      none_sent zero h = (lit≤ tt, λ k. tt)
      none_sent (suc n) h = grind (arith, nat_tests)
  restarted_phase i addr (Announcing due last) at salt c = absurd c
  restarted_phase i addr (Held last) at salt c = absurd c
  restarted_phase i addr Over at salt c = absurd c

  pub unsent_bears : (turn : Turn4) (state : State4) → Bears site clean state past → Bears site (Unit {0}) (unsent_row turn state) past
  unsent_bears turn Off b = tt
  unsent_bears turn (Init due) b = tt
  unsent_bears turn (Selecting xid began secs backoff due) b = tt
  unsent_bears turn (Requesting exchange secs backoff due) b = tt
  unsent_bears turn (Rebooting exchange backoff end due stands) b = tt
  unsent_bears turn (Checking xid terms origin acd stands) b = (b.0, restarted_phase acd.iface acd.addr acd.phase turn.at turn.salt b.1)
  unsent_bears turn (Waiting due) b = tt
  unsent_bears turn (Bound xid terms acd) b = b
  unsent_bears turn (Renewing exchange terms acd due) b = b
  unsent_bears turn (Rebinding exchange terms acd due) b = b

  clean_phase : (addr : Ip4) (phase : Phase) → clean → Probes4 site clean addr phase past → Probes4 site (Unit {0}) addr phase past
  clean_phase addr (Probing n due) k c = (c.0, λ _. c.1 k)
  clean_phase addr (Announcing due last) k c = c
  clean_phase addr (Held last) k c = c
  clean_phase addr Over k c = c

  pub clean_bears : (state : State4) → clean → Bears site clean state past → Bears site (Unit {0}) state past
  clean_bears Off k b = tt
  clean_bears (Init due) k b = tt
  clean_bears (Selecting xid began secs backoff due) k b = tt
  clean_bears (Requesting exchange secs backoff due) k b = tt
  clean_bears (Rebooting exchange backoff end due stands) k b = tt
  clean_bears (Checking xid terms origin acd stands) k b = (b.0, clean_phase acd.addr acd.phase k b.1)
  clean_bears (Waiting due) k b = tt
  clean_bears (Bound xid terms acd) k b = b
  clean_bears (Renewing exchange terms acd due) k b = b
  clean_bears (Rebinding exchange terms acd due) k b = b
