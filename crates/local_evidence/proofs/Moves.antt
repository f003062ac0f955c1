-- What a step of the DHCPv4 client says beside link-local, and what it makes of link-local.
use Rattle.std.proofs.Common.{ℕ, ◌≡◌, ◌+◌, ◌*◌, ◌||◌, Bool, true, false, List, Option, Some, None, nat_le, nat_eq, refl, sym, subst}
use Rattle.std.specs.List.{AllByRecursion}
use Rattle.net_types.proofs.CaseLaws.{gated}
use Rattle.net_types.specs.declared.address.Mac.{Mac}
use Rattle.frame_link.specs.declared.arp.ArpView.{ArpView}
use Rattle.machine.specs.Moment.{is_due}
use Rattle.arp_acd.specs.declared.detection.Acd.{Acd}
use Rattle.arp_acd.specs.declared.detection.AcdSays.{AcdSays}
use Rattle.arp_acd.specs.declared.detection.AcdSays.TheVariants.{Quiet, SayProbe, SayAnnounce, Passed, Conflict, GivenUp}
use Rattle.arp_acd.specs.Table as detection
use Rattle.ipv4ll.specs.declared.link_local.LinkLocal.{LinkLocal}
use Rattle.ipv4ll.specs.declared.link_local.State.TheVariants as local
use Rattle.lease_text.specs.declared.lease.Terms4.{Terms4}
use Rattle.lease_text.specs.Bounds.{FitsTerms}
use Rattle.v4_client.specs.declared.moments.Backoff.TheVariants.{Four}
use Rattle.v4_client.specs.declared.moments.TheConstants.{SECOND}
use Rattle.v4_client.specs.declared.states.Answer4.{Answer4}
use Rattle.v4_client.specs.declared.states.Answer4.TheVariants as answer
use Rattle.v4_client.specs.declared.states.News4.{News4}
use Rattle.v4_client.specs.declared.states.News4.TheVariants as news
use Rattle.v4_client.specs.declared.states.Origin4.{Origin4}
use Rattle.v4_client.specs.declared.states.Origin4.TheVariants.{Offered, Rebooted}
use Rattle.v4_client.specs.declared.states.State4.{State4}
use Rattle.v4_client.specs.declared.states.State4.TheVariants.{Off, Init, Selecting, Requesting, Rebooting, Checking, Waiting, Bound, Renewing, Rebinding}
use Rattle.v4_client.specs.declared.states.Step4.{Step4}
use Rattle.v4_client.specs.declared.states.Turn4.{Turn4}
use Rattle.v4_client.specs.Clients.{is_bound, is_held}
use Rattle.v4_client.specs.Detection.{checked, defended, with_acd}
use Rattle.v4_client.specs.Hearing.{offered, granted, answered, renewed, heard_row, contested, arp_row}
use Rattle.v4_client.specs.Inputs.{begins, begin_row, rebind_row, stood}
use Rattle.v4_client.specs.Moments.{doubled, expiry, rebinding_at, renewal_at, standing_until}
use Rattle.v4_client.specs.Sound.{FitsState}
use Rattle.v4_client.specs.Steps.{binds, bound_news, discovers, expires, new_exchange, rebinding, rebooting, renewing, requesting, rests, standing_news, to_init}
use Rattle.v4_client.specs.Ticks.{detects, falls, is_longest, tick_row}
use Rattle.v4_client.specs.IfaceSettings.declared.interfaces.IfConf.{IfConf}
use Rattle.evidence_words.specs.ClientModel.Dhcp4Steps.{followed, said_in}
use Rattle.local_evidence.proofs.Announced.{AnnouncesNone}

-- link-local is off while a lease is bound; beside one on which the client stands it may go on
abbrev pub IsAside : (bound : Bool) → LinkLocal → Type 0
IsAside bound link_local = bound ≡ true → link_local.state ≡ local.Off

module _ (turn : Turn4) where
  -- Where no lease was bound and none is, nothing is announced; and link-local stays aside.
  pub record IsFair (old : State4) (step : Step4) : Type 0 where
    pub says : is_bound old ≡ false → is_bound step.state ≡ false → AllByRecursion (AnnouncesNone turn.site.iface.mac) (said_in step)
    pub aside : (conf : IfConf) (at : ℕ) (link_local : LinkLocal) → IsAside (is_bound old) link_local
        → IsAside (is_bound step.state) (followed conf at (is_held old) step.news link_local)

  rests_fair : (state : State4) → IsFair state (rests turn state)
  rests_fair state = record { says = λ old new. tt; aside = λ conf at link_local off held. off held }

  -- a step after which no lease is bound, and which says nothing
  unheard : (old : State4) → IsFair old (to_init turn)
  unheard old = record { says = λ before after. tt; aside = λ conf at link_local off held. cc }

  binds_fair : (old : State4) (xid : ℕ) (terms : Terms4) (origin : Origin4) (acd : Option Acd) → IsFair old (binds turn xid terms (bound_news origin) acd)
  binds_fair old xid terms Offered acd = record { says = λ before after. cc; aside = λ conf at link_local off held. refl }
  binds_fair old xid terms Rebooted acd = record { says = λ before after. cc; aside = λ conf at link_local off held. refl }

  -- ---- conflict detection

  checked_fair : (old : State4) (xid : ℕ) (terms : Terms4) (origin : Origin4) (acd : Acd) (stands : Option Terms4) (says : AcdSays) → FitsTerms terms
      → IsFair old (checked turn xid terms origin acd stands says)
  checked_fair old xid terms origin acd stands SayProbe fits =
      record { says = λ before after. (fits.address, tt); aside = λ conf at link_local off held. cc }
  checked_fair old xid terms Offered acd stands Passed fits = record { says = λ before after. cc; aside = λ conf at link_local off held. refl }
  checked_fair old xid terms Rebooted acd stands Passed fits = record { says = λ before after. cc; aside = λ conf at link_local off held. refl }
  checked_fair old xid terms origin acd stands Conflict fits =
      record { says = λ before after. ((refl, refl), tt); aside = λ conf at link_local off held. cc }
  checked_fair old xid terms origin acd stands Quiet fits = record { says = λ before after. tt; aside = λ conf at link_local off held. cc }
  checked_fair old xid terms origin acd stands SayAnnounce fits = record { says = λ before after. tt; aside = λ conf at link_local off held. cc }
  checked_fair old xid terms origin acd stands GivenUp fits = record { says = λ before after. tt; aside = λ conf at link_local off held. cc }

  -- of a lease that was bound
  defended_fair : (old state : State4) (xid : ℕ) (terms : Terms4) (says : AcdSays) → is_bound old ≡ true
      → IsFair old (defended turn xid terms state says)
  defended_fair old state xid terms SayAnnounce held = record { says = λ before after. cc; aside = λ conf at link_local off after. off held }
  defended_fair old state xid terms GivenUp held = record { says = λ before after. cc; aside = λ conf at link_local off after. cc }
  defended_fair old state xid terms Quiet held = record { says = λ before after. tt; aside = λ conf at link_local off after. off held }
  defended_fair old state xid terms SayProbe held = record { says = λ before after. tt; aside = λ conf at link_local off after. off held }
  defended_fair old state xid terms Passed held = record { says = λ before after. tt; aside = λ conf at link_local off after. off held }
  defended_fair old state xid terms Conflict held = record { says = λ before after. tt; aside = λ conf at link_local off after. off held }

  detects_fair : (state : State4) (xid : ℕ) (terms : Terms4) (acd : Option Acd) → is_bound state ≡ true → IsFair state (detects turn xid terms state acd)
  detects_fair state xid terms None held = rests_fair state
  detects_fair state xid terms (Some acd) held =
      defended_fair state (with_acd state (detection.acd_tick acd turn.at turn.salt).acd) xid terms (detection.acd_tick acd turn.at turn.salt).says held

  contested_fair : (own : List Mac) (arp : ArpView) (state : State4) (xid : ℕ) (terms : Terms4) (acd : Option Acd) → is_bound state ≡ true
      → IsFair state (contested own turn arp xid terms state acd)
  contested_fair own arp state xid terms None held = rests_fair state
  contested_fair own arp state xid terms (Some acd) held =
      defended_fair state (with_acd state (detection.acd_hears own acd arp turn.at).acd) xid terms (detection.acd_hears own acd arp turn.at).says held

  -- ---- ticks

  pub tick_fair : (state : State4) → FitsState state → IsFair state (tick_row turn state)
  tick_fair Off fits = rests_fair Off
  tick_fair (Init due) fits = record { says = λ before after. ((refl, refl), tt); aside = λ conf at link_local off held. cc }
  tick_fair (Waiting due) fits = record { says = λ before after. ((refl, refl), tt); aside = λ conf at link_local off held. cc }
  tick_fair (Selecting xid began secs backoff due) fits =
      record { says = λ before after. ((refl, refl), tt); aside = λ conf at link_local off held. cc }
  tick_fair (Requesting exchange secs backoff due) fits =
      let here : State4 = Requesting exchange secs backoff due in
      gated (IsFair here) (is_longest backoff) (to_init turn) (requesting turn exchange secs (doubled backoff)) (unheard here)
      (record { says = λ before after. ((refl, refl), tt); aside = λ conf at link_local off held. cc })
  tick_fair (Rebooting exchange backoff end due stands) fits =
      let here : State4 = Rebooting exchange backoff end due stands in
      gated (IsFair here) (is_due (standing_until stands) turn.at) (expires turn) _
      (record { says = λ before after. tt; aside = λ conf at link_local off held. cc })
      (gated (IsFair here) (nat_le end turn.at) (record (discovers turn) { news = standing_news stands })
      (rebooting turn exchange (doubled backoff) end stands)
      (record { says = λ before after. ((refl, refl), tt); aside = λ conf at link_local off held. cc })
      (record { says = λ before after. ((refl, refl), tt); aside = λ conf at link_local off held. cc }))
  tick_fair (Checking xid terms origin acd stands) fits =
      let here : State4 = Checking xid terms origin acd stands in
      gated (IsFair here) (is_due (standing_until stands) turn.at) (falls turn (Checking xid terms origin acd None)) _
      (record { says = λ before after. tt; aside = λ conf at link_local off held. cc })
      (gated (IsFair here) (is_due (expiry terms) turn.at) (record (to_init turn) { news = standing_news stands })
      (checked turn xid terms origin (detection.acd_tick acd turn.at turn.salt).acd stands (detection.acd_tick acd turn.at turn.salt).says)
      (record { says = λ before after. tt; aside = λ conf at link_local off held. cc })
      (checked_fair here xid terms origin (detection.acd_tick acd turn.at turn.salt).acd stands (detection.acd_tick acd turn.at turn.salt).says fits.checks))
  tick_fair (Bound xid terms acd) fits =
      let here : State4 = Bound xid terms acd in
      gated (IsFair here) (is_due (expiry terms) turn.at) (expires turn) _
      (record { says = λ before after. cc; aside = λ conf at link_local off held. cc })
      (gated (IsFair here) (is_due (rebinding_at terms) turn.at) (rebinding turn (new_exchange turn terms.net.ip) terms acd) _
      (record { says = λ before after. cc; aside = λ conf at link_local off held. off refl })
      (gated (IsFair here) (is_due (renewal_at terms) turn.at) (renewing turn (new_exchange turn terms.net.ip) terms acd) _
      (record { says = λ before after. cc; aside = λ conf at link_local off held. off refl })
      (detects_fair here xid terms acd refl)))
  tick_fair (Renewing exchange terms acd due) fits =
      let here : State4 = Renewing exchange terms acd due in
      gated (IsFair here) (is_due (expiry terms) turn.at) (expires turn) _
      (record { says = λ before after. cc; aside = λ conf at link_local off held. cc })
      (gated (IsFair here) (is_due (rebinding_at terms) turn.at) (rebinding turn (new_exchange turn terms.net.ip) terms acd) _
      (record { says = λ before after. cc; aside = λ conf at link_local off held. off refl })
      (gated (IsFair here) (nat_le due turn.at) (renewing turn exchange terms acd) _
      (record { says = λ before after. cc; aside = λ conf at link_local off held. off refl })
      (detects_fair here exchange.xid terms acd refl)))
  tick_fair (Rebinding exchange terms acd due) fits =
      let here : State4 = Rebinding exchange terms acd due in
      gated (IsFair here) (is_due (expiry terms) turn.at) (expires turn) _
      (record { says = λ before after. cc; aside = λ conf at link_local off held. cc })
      (gated (IsFair here) (nat_le due turn.at) (rebinding turn exchange terms acd) _
      (record { says = λ before after. cc; aside = λ conf at link_local off held. off refl })
      (detects_fair here exchange.xid terms acd refl))

  -- ---- messages and packets

  granted_fair : (old : State4) (xid : ℕ) (terms : Terms4) (origin : Origin4) (stands : Option Terms4) → IsFair old (granted turn xid terms origin stands)
  granted_fair old xid terms origin stands =
      gated (IsFair old) turn.site.flags.noarp (binds turn xid terms (bound_news origin) None) _ (binds_fair old xid terms origin None)
      (record { says = λ before after. tt; aside = λ conf at link_local off held. cc })

  offered_fair : (state : State4) (xid secs : ℕ) (said : Answer4) → IsFair state (offered turn xid secs state said)
  offered_fair state xid secs (answer.Offer address server) =
      record { says = λ before after. ((refl, refl), tt); aside = λ conf at link_local off held. cc }
  offered_fair state xid secs answer.Nothing = rests_fair state
  offered_fair state xid secs (answer.Ack terms) = rests_fair state
  offered_fair state xid secs answer.Nak = rests_fair state

  answered_fair : (state : State4) (xid : ℕ) (origin : Origin4) (stands : Option Terms4) (said : Answer4)
      → IsFair state (answered turn xid origin stands state said)
  answered_fair state xid origin stands (answer.Ack terms) = granted_fair state xid terms origin stands
  answered_fair state xid origin stands answer.Nak = record { says = λ before after. tt; aside = λ conf at link_local off held. cc }
  answered_fair state xid origin stands answer.Nothing = rests_fair state
  answered_fair state xid origin stands (answer.Offer address server) = rests_fair state

  -- news of a renewal, which leaves link-local as it is
  abbrev LeavesLocal : News4 → Type 0
  LeavesLocal said = (conf : IfConf) (at : ℕ) (held : Bool) (link_local : LinkLocal) → followed conf at held said link_local ≡ link_local

  renewed_fair : (state : State4) (xid : ℕ) (said : News4) (acd : Option Acd) (reply : Answer4) → LeavesLocal said → is_bound state ≡ true
      → IsFair state (renewed turn xid said acd state reply)
  renewed_fair state xid said acd (answer.Ack terms) leaves held = record {
    says = λ before after. cc;
    aside = λ conf at link_local off after.
        subst (λ (l : LinkLocal). l.state ≡ local.Off) (sym (leaves conf at (is_held state) link_local)) (off held);
  }
  renewed_fair state xid said acd answer.Nak leaves held = record { says = λ before after. tt; aside = λ conf at link_local off after. cc }
  renewed_fair state xid said acd answer.Nothing leaves held = rests_fair state
  renewed_fair state xid said acd (answer.Offer address server) leaves held = rests_fair state

  pub heard_fair : (said : Answer4) (state : State4) → IsFair state (heard_row turn said state)
  heard_fair said Off = rests_fair Off
  heard_fair said (Init due) = rests_fair (Init due)
  heard_fair said (Selecting xid began secs backoff due) = offered_fair (Selecting xid began secs backoff due) xid secs said
  heard_fair said (Requesting exchange secs backoff due) = answered_fair (Requesting exchange secs backoff due) exchange.xid Offered None said
  heard_fair said (Rebooting exchange backoff end due stands) = answered_fair (Rebooting exchange backoff end due stands) exchange.xid Rebooted stands said
  heard_fair said (Checking xid terms origin acd stands) = rests_fair (Checking xid terms origin acd stands)
  heard_fair said (Waiting due) = rests_fair (Waiting due)
  heard_fair said (Bound xid terms acd) = rests_fair (Bound xid terms acd)
  heard_fair said (Renewing exchange terms acd due) =
      renewed_fair (Renewing exchange terms acd due) exchange.xid news.Renew acd said (λ conf at held link_local. refl) refl
  heard_fair said (Rebinding exchange terms acd due) =
      renewed_fair (Rebinding exchange terms acd due) exchange.xid news.Rebind acd said (λ conf at held link_local. refl) refl

  pub arp_fair : (own : List Mac) (arp : ArpView) (state : State4) → FitsState state → IsFair state (arp_row own turn arp state)
  arp_fair own arp Off fits = rests_fair Off
  arp_fair own arp (Init due) fits = rests_fair (Init due)
  arp_fair own arp (Selecting xid began secs backoff due) fits = rests_fair (Selecting xid began secs backoff due)
  arp_fair own arp (Requesting exchange secs backoff due) fits = rests_fair (Requesting exchange secs backoff due)
  arp_fair own arp (Rebooting exchange backoff end due stands) fits = rests_fair (Rebooting exchange backoff end due stands)
  arp_fair own arp (Checking xid terms origin acd stands) fits =
      checked_fair (Checking xid terms origin acd stands) xid terms origin (detection.acd_hears own acd arp turn.at).acd stands
      (detection.acd_hears own acd arp turn.at).says fits.checks
  arp_fair own arp (Waiting due) fits = rests_fair (Waiting due)
  arp_fair own arp (Bound xid terms acd) fits = contested_fair own arp (Bound xid terms acd) xid terms acd refl
  arp_fair own arp (Renewing exchange terms acd due) fits = contested_fair own arp (Renewing exchange terms acd due) exchange.xid terms acd refl
  arp_fair own arp (Rebinding exchange terms acd due) fits = contested_fair own arp (Rebinding exchange terms acd due) exchange.xid terms acd refl

  -- ---- the other inputs

  begins_fair : (may_stand : Bool) (kept : Option Terms4) → IsFair Off (begins turn may_stand kept)
  begins_fair may_stand None = record { says = λ before after. tt; aside = λ conf at link_local off held. cc }
  begins_fair may_stand (Some terms) =
      gated (λ (step : Step4). IsFair Off (record step { spends = true })) (is_due (expiry terms) turn.at || nat_eq turn.site.times.reboot 0) (to_init turn)
      (rebooting turn (new_exchange turn terms.net.ip) Four (turn.at + SECOND * turn.site.times.reboot) (stood turn may_stand terms))
      (record { says = λ before after. tt; aside = λ conf at link_local off held. cc })
      (record { says = λ before after. ((refl, refl), tt); aside = λ conf at link_local off held. cc })

  pub begin_fair : (may_stand : Bool) (kept : Option Terms4) (state : State4) → IsFair state (begin_row turn may_stand kept state)
  begin_fair may_stand kept Off = begins_fair may_stand kept
  begin_fair may_stand kept (Init due) = rests_fair (Init due)
  begin_fair may_stand kept (Selecting xid began secs backoff due) = rests_fair (Selecting xid began secs backoff due)
  begin_fair may_stand kept (Requesting exchange secs backoff due) = rests_fair (Requesting exchange secs backoff due)
  begin_fair may_stand kept (Rebooting exchange backoff end due stands) = rests_fair (Rebooting exchange backoff end due stands)
  begin_fair may_stand kept (Checking xid terms origin acd stands) = rests_fair (Checking xid terms origin acd stands)
  begin_fair may_stand kept (Waiting due) = rests_fair (Waiting due)
  begin_fair may_stand kept (Bound xid terms acd) = rests_fair (Bound xid terms acd)
  begin_fair may_stand kept (Renewing exchange terms acd due) = rests_fair (Renewing exchange terms acd due)
  begin_fair may_stand kept (Rebinding exchange terms acd due) = rests_fair (Rebinding exchange terms acd due)

  rebinds_fair : (state : State4) (terms : Terms4) (acd : Option Acd) → is_bound state ≡ true
      → IsFair state (rebinding turn (new_exchange turn terms.net.ip) terms acd)
  rebinds_fair state terms acd held = record { says = λ before after. cc; aside = λ conf at link_local off after. off held }

  pub rebind_fair : (kept : Option Terms4) (state : State4) → IsFair state (rebind_row turn kept state)
  rebind_fair kept Off = begins_fair false kept
  rebind_fair kept (Init due) = rests_fair (Init due)
  rebind_fair kept (Selecting xid began secs backoff due) = rests_fair (Selecting xid began secs backoff due)
  rebind_fair kept (Requesting exchange secs backoff due) = rests_fair (Requesting exchange secs backoff due)
  rebind_fair kept (Rebooting exchange backoff end due stands) = rests_fair (Rebooting exchange backoff end due stands)
  rebind_fair kept (Checking xid terms origin acd stands) = rests_fair (Checking xid terms origin acd stands)
  rebind_fair kept (Waiting due) = rests_fair (Waiting due)
  rebind_fair kept (Bound xid terms acd) = rebinds_fair (Bound xid terms acd) terms acd refl
  rebind_fair kept (Renewing exchange terms acd due) = rebinds_fair (Renewing exchange terms acd due) terms acd refl
  rebind_fair kept (Rebinding exchange terms acd due) = rests_fair (Rebinding exchange terms acd due)
