-- What is heard in a turn keeps what a client carries, where no server refuses and nobody contests the address.
use Rattle.std.proofs.Common.{◌≡◌, ℕ, ◌+◌, ◌≤◌, ◌||◌, Bool, true, false, List, ◌∷◌, Option, Some, None, IfSome, refl, sym, ap, subst, ◌∙◌, arith, if◌then◌else◌}
use Rattle.net_types.proofs.CaseLaws.{split, gated}
use Rattle.net_types.specs.declared.address.Ip4.{Ip4}
use Rattle.net_types.specs.declared.address.Mac.{Mac}
use Rattle.net_types.specs.declared.interface.IfIndex.{IfIndex}
use Rattle.frame_link.specs.declared.arp.ArpView.{ArpView}
use Rattle.arp_acd.specs.Conflict.{is_used, is_probed, is_contested}
use Rattle.arp_acd.specs.declared.detection.Acd.{Acd}
use Rattle.arp_acd.specs.declared.detection.Phase.{Phase}
use Rattle.arp_acd.specs.declared.detection.Phase.TheVariants.{Probing, Announcing, Held, Over}
use Rattle.arp_acd.specs.Table as detection
use Rattle.arp_acd.proofs.Standing.{mk}
use Rattle.lease_text.specs.declared.lease.Terms4.{Terms4}
use Rattle.v4_frames.specs.declared.sent.Sent4.{Sent4}
use Rattle.v4_client.specs.declared.states.Answer4.{Answer4}
use Rattle.v4_client.specs.declared.states.Answer4.TheVariants as answer
use Rattle.v4_client.specs.declared.states.Exchange4.{Exchange4}
use Rattle.v4_client.specs.declared.states.News4.{News4}
use Rattle.v4_client.specs.declared.states.News4.TheVariants as news
use Rattle.v4_client.specs.declared.states.Origin4.{Origin4}
use Rattle.v4_client.specs.declared.states.Origin4.TheVariants.{Offered, Rebooted}
use Rattle.v4_client.specs.declared.states.State4.{State4}
use Rattle.v4_client.specs.declared.states.State4.TheVariants.{Off, Init, Selecting, Requesting, Rebooting, Checking, Waiting, Bound, Renewing, Rebinding}
use Rattle.v4_client.specs.declared.states.Step4.{Step4}
use Rattle.v4_client.specs.declared.states.Turn4.{Turn4}
use Rattle.v4_client.specs.Answers.{answering, offer_by, reply_in, answer_of}
use Rattle.v4_client.specs.Detection.{checked, defended, with_acd}
use Rattle.v4_client.specs.Hearing.{offered, answered, renewed, heard_row, contested, arp_row}
use Rattle.v4_client.specs.Messages.{Arrival}
use Rattle.v4_client.specs.Moves.{is_grant}
use Rattle.v4_client.specs.Settings.{SettingsContent}
use Rattle.v4_client.specs.Steps.{rests}
use Rattle.evidence_words.specs.Entries.{Entry}
use Rattle.evidence_words.specs.Inputs.{Site}
use Rattle.lease_evidence.specs.Exchanges.{Numbered}
use Rattle.lease_evidence.proofs.Observer.{Grant}
use Rattle.lease_evidence.proofs.ReplyFacts.{is_granted}
use Rattle.lease_evidence.proofs.Watching.{Asks, On, message_in}
use Rattle.lease_progress.specs.FairTurns.{probing}
use Rattle.lease_progress.specs.LeaseStays.{IsBefore, asked_at, needed_by}
use Rattle.lease_progress.specs.Serving.{Answered, EachRequest, BroadcastAlone}
use Rattle.lease_keeping.proofs.Asking.{AskedIn}
use Rattle.lease_keeping.proofs.Carrying.{Pends, DetectsIp, WhileRenewing, WhileRebinding, Keeps, AskedSoFar, Amid}
use Rattle.lease_keeping.proofs.Moments.{first_probe}

-- ---- a packet that contests nothing

not_used : (used probed : Bool) → (used || probed) ≡ false → used ≡ false
not_used true probed h = absurd cc
not_used false probed h = refl

-- is none to the conflict detection
undetected : (own : List Mac) (i : IfIndex) (a : Ip4) (phase : Phase) (arp : ArpView) (at : ℕ) → is_contested own a arp ≡ false
    → detection.acd_hears own (mk i a phase) arp at ≡ detection.stays (mk i a phase)
undetected own i a (Probing n due) arp at h = rw h refl
undetected own i a (Announcing due last) arp at h = rw (not_used (is_used own a arp) (is_probed own a arp) h) refl
undetected own i a (Held last) arp at h = rw (not_used (is_used own a arp) (is_probed own a arp) h) refl
undetected own i a Over arp at h = refl

-- the address that is checked or held is detected, and the packet doesn't contest it
abbrev pub Unharmed : List Mac → ArpView → State4 → Type 0
Unharmed own arp (Checking xid terms from acd stands) = (acd.addr ≡ terms.net.ip) × (is_contested own terms.net.ip arp ≡ false)
Unharmed own arp (Bound xid terms acd) = DetectsIp terms.net.ip acd × (is_contested own terms.net.ip arp ≡ false)
Unharmed own arp (Renewing exchange terms acd due) = DetectsIp terms.net.ip acd × (is_contested own terms.net.ip arp ≡ false)
Unharmed own arp (Rebinding exchange terms acd due) = DetectsIp terms.net.ip acd × (is_contested own terms.net.ip arp ≡ false)
Unharmed own arp _ = Unit {0}

-- such a packet changes nothing
module _ (own : List Mac) (turn : Turn4) (arp : ArpView) where
  same_ip : (addr ip : Ip4) → addr ≡ ip → is_contested own ip arp ≡ false → is_contested own addr arp ≡ false
  same_ip addr ip same h = subst (λ (a : Ip4). is_contested own a arp ≡ false) (sym same) h

  held_rests : (xid : ℕ) (terms : Terms4) (state : State4) (acd : Option Acd) → DetectsIp terms.net.ip acd → is_contested own terms.net.ip arp ≡ false
      → ((a : Acd) → acd ≡ Some a → with_acd state a ≡ state) → contested own turn arp xid terms state acd ≡ rests turn state
  held_rests xid terms state None detected h same = refl
  held_rests xid terms state (Some acd) detected h same =
      ap (λ (step : detection.AcdStep). defended turn xid terms (with_acd state step.acd) step.says)
      (undetected own acd.iface acd.addr acd.phase arp turn.at (same_ip acd.addr terms.net.ip detected h))
      ∙ ap (rests turn) (same acd refl)

  pub packet_rests : (state : State4) → Unharmed own arp state → arp_row own turn arp state ≡ rests turn state
  packet_rests Off h = refl
  packet_rests (Init due) h = refl
  packet_rests (Selecting xid began secs backoff due) h = refl
  packet_rests (Requesting exchange secs backoff due) h = refl
  packet_rests (Rebooting exchange backoff end due stands) h = refl
  packet_rests (Checking xid terms from acd stands) h =
      ap (λ (step : detection.AcdStep). checked turn xid terms from step.acd stands step.says)
      (undetected own acd.iface acd.addr acd.phase arp turn.at (same_ip acd.addr terms.net.ip h.0 h.1))
  packet_rests (Waiting due) h = refl
  packet_rests (Bound xid terms acd) h =
      held_rests xid terms (Bound xid terms acd) acd h.0 h.1 (λ a is. ap (λ (x : Option Acd). Bound xid terms x) (sym is))
  packet_rests (Renewing exchange terms acd due) h =
      held_rests exchange.xid terms (Renewing exchange terms acd due) acd h.0 h.1 (λ a is. ap (λ (x : Option Acd). Renewing exchange terms x due) (sym is))
  packet_rests (Rebinding exchange terms acd due) h =
      held_rests exchange.xid terms (Rebinding exchange terms acd due) acd h.0 h.1 (λ a is. ap (λ (x : Option Acd). Rebinding exchange terms x due) (sym is))

-- ---- a message

-- an address that is granted
weaker : (end : Option ℕ) (at long : ℕ) → IfSome end (λ due. at + long ≤ due) → IfSome end (λ due. at ≤ due)
weaker None at long h = tt
weaker (Some end) at long h = least at long end h
  where
    least : (at long end : ℕ) → at + long ≤ end → at ≤ end
    least at long end h = omega (arith, h)

begun_pends : (end : Option ℕ) (at : ℕ) (i : IfIndex) (salt : ℕ) → IfSome end (λ due. at + 7000 ≤ due) → Pends end at (detection.probing_anew i at salt)
begun_pends None at i salt h = tt
begun_pends (Some end) at i salt h = first_probe end at i salt h

module _ (site : Site) (answered_so : Answered) (wait : ℕ) (free : Type 0) (past : List Entry) (e : Entry) (first : Option Sent4)
    (current : Option Numbered) (k : ℕ) where
  abbrev AmidSo : State4 → Type 0
  AmidSo state = Amid site answered_so wait free past e.moment first state

  abbrev KeepsSo : State4 → Type 0
  KeepsSo state = Keeps site answered_so wait free (e ∷ past) e.moment state

  -- no answer came in this turn
  abbrev pub Settles : Exchange4 → Type 0
  Settles exchange = AskedSoFar site answered_so wait past e.moment first exchange → AskedIn site answered_so exchange (e ∷ past)

  renewing_on : (which : Answered) (now : ℕ) (A B : Type 0) (exchange : Exchange4) (terms : Terms4) → (A → B)
      → WhileRenewing site answered_so wait which now A exchange terms → WhileRenewing site answered_so wait which now B exchange terms
  renewing_on EachRequest now A B exchange terms f h = record { asked = f h.asked; enough = h.enough }
  renewing_on BroadcastAlone now A B exchange terms f h = h

  rebinding_on : (which : Answered) (A B : Type 0) (exchange : Exchange4) (terms : Terms4) → (A → B)
      → WhileRebinding site answered_so wait which A exchange terms → WhileRebinding site answered_so wait which B exchange terms
  rebinding_on EachRequest A B exchange terms f h = absurd h
  rebinding_on BroadcastAlone A B exchange terms f h = record { asked = f h.asked; enough = h.enough }

  -- the state stays as it is
  pub settled : (K : Terms4 → Type 0) (grant : Option Grant) (state : State4) → On K state current k grant
      → ((exchange : Exchange4) → Asks exchange k current → Settles exchange) → AmidSo state → KeepsSo state
  settled K grant Off on f h = h
  settled K grant (Init due) on f h = h
  settled K grant (Selecting xid began secs backoff due) on f h = h
  settled K grant (Requesting exchange secs backoff due) on f h = h
  settled K grant (Rebooting exchange backoff end due stands) on f h = h
  settled K grant (Checking xid terms from acd stands) on f h = h
  settled K grant (Waiting due) on f h = h
  settled K grant (Bound xid terms acd) on f h = h
  settled K grant (Renewing exchange terms acd due) on f h = (h.0, h.1, renewing_on answered_so e.moment _ _ exchange terms (f exchange on.0) h.2)
  settled K grant (Rebinding exchange terms acd due) on f h = (h.0, h.1, rebinding_on answered_so _ _ exchange terms (f exchange on.0) h.2)

  -- what is granted lasts so long
  pub record Granted (terms : Terms4) : Type 0 where
    pub probed : IfSome (asked_at answered_so terms) (λ due. e.moment + probing site.managed.conf ≤ due)
    pub enough : IsBefore wait (asked_at answered_so terms) (needed_by answered_so terms)

  module _ (settings : SettingsContent) (arrival : Arrival) (turn : Turn4) (now : turn.at ≡ e.moment)
      (noarp : turn.site.flags.noarp ≡ site.managed.conf.flags.noarp) where
    -- what the message says in an exchange that is asked
    pub record HeardWell (exchange : Exchange4) : Type 0 where
      pub granted : (terms : Terms4) → reply_in settings arrival exchange ≡ answer.Ack terms → Granted terms
      pub unrefused : reply_in settings arrival exchange ≡ answer.Nak → ⊥
      pub settles : is_grant (reply_in settings arrival exchange) ≡ false → Settles exchange

    bound_so : (xid : ℕ) (terms : Terms4) (acd : Option Acd) → DetectsIp terms.net.ip acd → Granted terms → KeepsSo (Bound xid terms acd)
    bound_so xid terms acd detected g =
        (detected, record { ahead = weaker (asked_at answered_so terms) e.moment (probing site.managed.conf) g.probed; enough = g.enough })

    checking_so : (xid : ℕ) (terms : Terms4) (from : Origin4) (stands : Option Terms4) → free → turn.site.flags.noarp ≡ false → Granted terms
        → KeepsSo (Checking xid terms from (detection.acd_begun turn.site.iface.index terms.net.ip turn.at turn.salt) stands)
    checking_so xid terms from stands it probes g =
        let long : IfSome (asked_at answered_so terms) (λ due. e.moment + 7000 ≤ due) =
        subst (λ (b : Bool). IfSome (asked_at answered_so terms) (λ due. e.moment + (if b then 0 else 7000) ≤ due)) (sym noarp ∙ probes) g.probed in (
          it,
          refl,
          g.enough,
          subst (λ (at : ℕ). Pends (asked_at answered_so terms) e.moment (detection.probing_anew turn.site.iface.index at turn.salt)) (sym now)
              (begun_pends (asked_at answered_so terms) e.moment turn.site.iface.index turn.salt long),
        )

    answering_so : (xid : ℕ) (from : Origin4) (stands : Option Terms4) (state : State4) (said : Answer4) → free → KeepsSo state
        → ((terms : Terms4) → said ≡ answer.Ack terms → Granted terms) → KeepsSo (answered turn xid from stands state said).state
    answering_so xid from stands state (answer.Ack terms) it on granted =
        split turn.site.flags.noarp (λ none. rw none (bound_so xid terms None tt (granted terms refl)))
        (λ probes. rw probes (checking_so xid terms from stands it probes (granted terms refl)))
    answering_so xid from stands state answer.Nak it on granted = it
    answering_so xid from stands state answer.Nothing it on granted = on
    answering_so xid from stands state (answer.Offer address server) it on granted = on

    -- none of these says anything
    answered_silent : (xid : ℕ) (from : Origin4) (stands : Option Terms4) (state : State4) (said : Answer4)
        → message_in (answered turn xid from stands state said) ≡ None
    answered_silent xid from stands state (answer.Ack terms) = gated (λ (step : Step4). message_in step ≡ None) turn.site.flags.noarp _ _ refl refl
    answered_silent xid from stands state answer.Nak = refl
    answered_silent xid from stands state answer.Nothing = refl
    answered_silent xid from stands state (answer.Offer address server) = refl

    renewed_silent : (xid : ℕ) (told : News4) (acd : Option Acd) (state : State4) (said : Answer4) → message_in (renewed turn xid told acd state said) ≡ None
    renewed_silent xid told acd state (answer.Ack terms) = refl
    renewed_silent xid told acd state answer.Nak = refl
    renewed_silent xid told acd state answer.Nothing = refl
    renewed_silent xid told acd state (answer.Offer address server) = refl

    renewing_so : (exchange : Exchange4) (told : News4) (old : Terms4) (acd : Option Acd) (state : State4) (said : Answer4)
        → reply_in settings arrival exchange ≡ said
        → DetectsIp old.net.ip acd → exchange.address ≡ old.net.ip → HeardWell exchange → (is_grant said ≡ false → KeepsSo state)
        → KeepsSo (renewed turn exchange.xid told acd state said).state
    renewing_so exchange told old acd state (answer.Ack terms) is detected asked well on =
        let address : terms.net.ip ≡ exchange.address = (is_granted settings exchange arrival terms is).address in
        bound_so exchange.xid terms acd (subst (λ (ip : Ip4). DetectsIp ip acd) (sym (address ∙ asked)) detected) (well.granted terms is)
    renewing_so exchange told old acd state answer.Nak is detected asked well on = absurd (well.unrefused is)
    renewing_so exchange told old acd state answer.Nothing is detected asked well on = on refl
    renewing_so exchange told old acd state (answer.Offer address server) is detected asked well on = on refl

    offering_so : (xid secs : ℕ) (state : State4) (said : Answer4) → free → KeepsSo state → KeepsSo (offered turn xid secs state said).state
    offering_so xid secs state (answer.Offer address server) it on = it
    offering_so xid secs state answer.Nothing it on = on
    offering_so xid secs state (answer.Ack terms) it on = on
    offering_so xid secs state answer.Nak it on = on

    abbrev step_of : State4 → Step4
    step_of state = heard_row turn (answer_of settings arrival state) state

    pub heard_so : (K : Terms4 → Type 0) (grant : Option Grant) (state : State4) → On K state current k grant
        → ((exchange : Exchange4) → Asks exchange k current → message_in (step_of state) ≡ None → HeardWell exchange)
        → AmidSo state → KeepsSo (step_of state).state
    heard_so K grant Off on well h = h
    heard_so K grant (Init due) on well h = h
    heard_so K grant (Selecting xid began secs backoff due) on well h =
        offering_so xid secs (Selecting xid began secs backoff due) (offer_by settings arrival (answering settings xid arrival)) h h
    heard_so K grant (Requesting exchange secs backoff due) on well h =
        let said : Answer4 = reply_in settings arrival exchange in
        answering_so exchange.xid Offered None (Requesting exchange secs backoff due) said h h
        (well exchange on (answered_silent exchange.xid Offered None (Requesting exchange secs backoff due) said)).granted
    heard_so K grant (Rebooting exchange backoff end due stands) on well h =
        let said : Answer4 = reply_in settings arrival exchange in
        answering_so exchange.xid Rebooted stands (Rebooting exchange backoff end due stands) said h h
        (well exchange on.0 (answered_silent exchange.xid Rebooted stands (Rebooting exchange backoff end due stands) said)).granted
    heard_so K grant (Checking xid terms from acd stands) on well h = h
    heard_so K grant (Waiting due) on well h = h
    heard_so K grant (Bound xid terms acd) on well h = h
    heard_so K grant (Renewing exchange terms acd due) on well h =
        let said : Answer4 = reply_in settings arrival exchange in
        let w : HeardWell exchange = well exchange on.0 (renewed_silent exchange.xid news.Renew acd (Renewing exchange terms acd due) said) in
        renewing_so exchange news.Renew terms acd (Renewing exchange terms acd due) said refl h.0 h.1 w
        (λ none. (h.0, h.1, renewing_on answered_so e.moment _ _ exchange terms (w.settles none) h.2))
    heard_so K grant (Rebinding exchange terms acd due) on well h =
        let said : Answer4 = reply_in settings arrival exchange in
        let w : HeardWell exchange = well exchange on.0 (renewed_silent exchange.xid news.Rebind acd (Rebinding exchange terms acd due) said) in
        renewing_so exchange news.Rebind terms acd (Rebinding exchange terms acd due) said refl h.0 h.1 w
        (λ none. (h.0, h.1, rebinding_on answered_so _ _ exchange terms (w.settles none) h.2))
