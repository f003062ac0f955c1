-- Which message of a DHCPv4 client may follow which with one transaction number, and that each row of its table keeps to that.
use Rattle.std.proofs.Common.{◌≡◌, ℕ, ◌||◌, inl, inr, Bool, false, List, [], ◌∷◌, Option, Some, None, refl, ap, ◌∙◌, nat_le, if◌then◌else◌}
use Rattle.std.specs.Prelude.{◌==◌, ◌+◌, ◌*◌}
use Rattle.std.proofs.lemmas.Bool.Decides.{nat_tests}
use Rattle.std.proofs.Common.{arith}
use Rattle.machine.specs.Moment.{is_due}
use Rattle.net_types.proofs.CaseLaws.{gated}
use Rattle.net_types.specs.declared.address.Ip4.{Ip4}
use Rattle.net_types.specs.declared.address.Mac.{Mac}
use Rattle.frame_link.specs.declared.arp.ArpView.{ArpView}
use Rattle.arp_acd.specs.declared.detection.Acd.{Acd}
use Rattle.arp_acd.specs.declared.detection.AcdSays.{AcdSays}
use Rattle.arp_acd.specs.declared.detection.AcdSays.TheVariants.{Quiet, SayProbe, SayAnnounce, Passed, Conflict, GivenUp}
use Rattle.arp_acd.specs.Table as detection
use Rattle.lease_text.specs.declared.lease.Terms4.{Terms4}
use Rattle.v4_message.specs.declared.writing.Kind4.{Kind4}
use Rattle.v4_message.specs.declared.writing.Kind4.TheVariants.{Discover, Request, Decline, Release}
use Rattle.v4_message.specs.declared.writing.Said4.{Said4}
use Rattle.v4_client.specs.declared.moments.Backoff.{Backoff}
use Rattle.v4_client.specs.declared.moments.Backoff.TheVariants.{Four, Eight, Sixteen, ThirtyTwo, SixtyFour}
use Rattle.v4_client.specs.declared.moments.TheConstants.{SECOND}
use Rattle.v4_client.specs.declared.states.Answer4.{Answer4}
use Rattle.v4_client.specs.declared.states.Answer4.TheVariants as answer
use Rattle.v4_client.specs.declared.states.Exchange4.{Exchange4}
use Rattle.v4_client.specs.declared.states.News4.{News4}
use Rattle.v4_client.specs.declared.states.News4.TheVariants as news
use Rattle.v4_client.specs.declared.states.Origin4.{Origin4}
use Rattle.v4_client.specs.declared.states.Origin4.TheVariants.{Offered, Rebooted}
use Rattle.v4_client.specs.declared.states.Say4.{Say4}
use Rattle.v4_client.specs.declared.states.State4.{State4}
use Rattle.v4_client.specs.declared.states.State4.TheVariants.{Off, Init, Selecting, Requesting, Rebooting, Checking, Waiting, Bound, Renewing, Rebinding}
use Rattle.v4_client.specs.declared.states.Step4.{Step4}
use Rattle.v4_client.specs.declared.states.Tell.{Tell}
use Rattle.v4_client.specs.declared.states.Tell.TheVariants.{Server, Nobody}
use Rattle.v4_client.specs.declared.states.Turn4.{Turn4}
use Rattle.v4_client.specs.Detection.{checked, defended, with_acd}
use Rattle.v4_client.specs.Due.{due_of}
use Rattle.v4_client.specs.Hearing.{offered, granted, answered, renewed, heard_row, contested, arp_row}
use Rattle.v4_client.specs.Inputs.{stood, entered, begins, begin_row, off_row, released, released_standing, release_row, rebind_row, unsent_row}
use Rattle.v4_client.specs.Moments.{expiry, renewal_at, rebinding_at, standing_until, doubled}
use Rattle.v4_client.specs.Steps.{rests, to_init, expires, selecting, discovers, new_xid, requesting, rebooting, new_exchange, renewing, rebinding, refused, declines, standing_news}
use Rattle.v4_client.specs.Ticks.{detects, tick_row}
use Rattle.lease_evidence.specs.Exchanges.{Numbered}
use Rattle.lease_evidence.proofs.Watching.{fresh}
use Rattle.lab_laws.specs.Messages.{MayComeAfter, MayFollow}

-- ---- what each state carries of them

abbrev pub LastIs : Kind4 → (xid : ℕ) → List Said4 → Type 0
LastIs kind xid [] = ⊥
LastIs kind xid (last ∷ past) = (last.kind ≡ kind) × (last.xid ≡ xid)

abbrev pub Drawn : (last : Option ℕ) → List Said4 → Type 0
Drawn drawn [] = Unit {0}
Drawn drawn (last ∷ past) = drawn ≡ Some last.xid

abbrev pub On : State4 → List Said4 → Type 0
On Off past = Unit {0}
On (Init due) past = Unit {0}
On (Selecting xid began secs backoff due) past = LastIs Discover xid past
On (Requesting exchange secs backoff due) past = LastIs Request exchange.xid past
On (Rebooting exchange backoff end due stands) past = LastIs Request exchange.xid past
On (Checking xid terms origin acd stands) past = LastIs Request xid past
On (Waiting due) past = Unit {0}
On (Bound xid terms acd) past = LastIs Request xid past
On (Renewing exchange terms acd due) past = LastIs Request exchange.xid past
On (Rebinding exchange terms acd due) past = LastIs Request exchange.xid past

abbrev pub onto : Option Say4 → List Said4 → List Said4
onto None past = past
onto (Some say) past = say.said ∷ past

abbrev pub SaysWell : Option Say4 → List Said4 → Type 0
SaysWell None past = Unit {0}
SaysWell (Some say) past = MayFollow say.said past

pub record After (past : List Said4) (step : Step4) : Type 0 where
  pub drawn : Drawn step.last (onto step.say past)
  pub on : On step.state (onto step.say past)
  pub well : SaysWell step.say past

-- ---- numbers

abbrev numbered : ℕ → Numbered
numbered xid = record { number = 0; exchange = record { xid = xid; address = record { number = 0 }; server = None; first = 0 } }

unlike : (a b : ℕ) → (a == b) ≡ false → b ≡ a → ⊥
unlike a b n e = grind (arith, nat_tests)

-- a number that is drawn is another than that of the last message
new_follows : (turn : Turn4) (past : List Said4) → Drawn turn.last past → (kind : Kind4) → MayComeAfter kind (new_xid turn) past
new_follows turn [] drawn kind = tt
new_follows turn (last ∷ past) drawn kind =
    λ same. absurd (unlike (new_xid turn) last.xid (fresh turn (Some (numbered last.xid)) drawn) same)

again_discover : (xid : ℕ) (past : List Said4) → LastIs Discover xid past → MayComeAfter Discover xid past
again_discover xid [] last = absurd last
again_discover xid (m ∷ past) last = λ same. last.0

to_offer : (xid : ℕ) (past : List Said4) → LastIs Discover xid past → MayComeAfter Request xid past
to_offer xid [] last = absurd last
to_offer xid (m ∷ past) last = λ same. inl last.0

again_request : (xid : ℕ) (past : List Said4) → LastIs Request xid past → MayComeAfter Request xid past
again_request xid [] last = absurd last
again_request xid (m ∷ past) last = λ same. inr last.0

declining : (xid : ℕ) (past : List Said4) → MayComeAfter Decline xid past
declining xid [] = tt
declining xid (m ∷ past) = λ same. tt

drawn_is : (drawn : Option ℕ) (xid : ℕ) (past : List Said4) → Drawn drawn past → LastIs Request xid past → drawn ≡ Some xid
drawn_is drawn xid [] d last = absurd last
drawn_is drawn xid (m ∷ past) d last = d ∙ ap (λ (n : ℕ). Some n) last.1

-- ---- the rows

module _ (turn : Turn4) (past : List Said4) (drawn : Drawn turn.last past) where
  stays : (state : State4) → On state past → After past (rests turn state)
  stays state on = record { drawn = drawn; on = on; well = tt }

  inits : After past (to_init turn)
  inits = record { drawn = drawn; on = tt; well = tt }

  ends : After past (expires turn)
  ends = record { drawn = drawn; on = tt; well = tt }

  refuses : After past (refused turn)
  refuses = record { drawn = drawn; on = tt; well = tt }

  discovered : After past (discovers turn)
  discovered = record { drawn = refl; on = (refl, refl); well = new_follows turn past drawn Discover }

  discovers_again : (xid began : ℕ) (backoff : Backoff) → LastIs Discover xid past → After past (selecting turn xid began backoff)
  discovers_again xid began backoff on = record { drawn = refl; on = (refl, refl); well = again_discover xid past on }

  takes_offer : (exchange : Exchange4) (secs : ℕ) (backoff : Backoff) → LastIs Discover exchange.xid past → After past (requesting turn exchange secs backoff)
  takes_offer exchange secs backoff on = record { drawn = refl; on = (refl, refl); well = to_offer exchange.xid past on }

  requests_again : (exchange : Exchange4) (secs : ℕ) (backoff : Backoff) → LastIs Request exchange.xid past → After past (requesting turn exchange secs backoff)
  requests_again exchange secs backoff on = record { drawn = refl; on = (refl, refl); well = again_request exchange.xid past on }

  reboots_again : (exchange : Exchange4) (backoff : Backoff) (end : ℕ) (stands : Option Terms4) → LastIs Request exchange.xid past
      → After past (rebooting turn exchange backoff end stands)
  reboots_again exchange backoff end stands on = record { drawn = refl; on = (refl, refl); well = again_request exchange.xid past on }

  reboots : (address : Ip4) (end : ℕ) (stands : Option Terms4) → After past (rebooting turn (new_exchange turn address) Four end stands)
  reboots address end stands = record { drawn = refl; on = (refl, refl); well = new_follows turn past drawn Request }

  renews : (terms : Terms4) (acd : Option Acd) → After past (renewing turn (new_exchange turn terms.net.ip) terms acd)
  renews terms acd = record { drawn = refl; on = (refl, refl); well = new_follows turn past drawn Request }

  renews_again : (exchange : Exchange4) (terms : Terms4) (acd : Option Acd) → LastIs Request exchange.xid past → After past (renewing turn exchange terms acd)
  renews_again exchange terms acd on = record { drawn = refl; on = (refl, refl); well = again_request exchange.xid past on }

  rebinds : (terms : Terms4) (acd : Option Acd) → After past (rebinding turn (new_exchange turn terms.net.ip) terms acd)
  rebinds terms acd = record { drawn = refl; on = (refl, refl); well = new_follows turn past drawn Request }

  rebinds_again : (exchange : Exchange4) (terms : Terms4) (acd : Option Acd) → LastIs Request exchange.xid past → After past (rebinding turn exchange terms acd)
  rebinds_again exchange terms acd on = record { drawn = refl; on = (refl, refl); well = again_request exchange.xid past on }

  refuses_address : (xid : ℕ) (terms : Terms4) (news : News4) → LastIs Request xid past → After past (declines turn xid terms news)
  refuses_address xid terms news on = record { drawn = drawn_is turn.last xid past drawn on; on = tt; well = declining xid past }

  -- ---- conflict detection

  defends : (xid : ℕ) (terms : Terms4) (state : State4) (says : AcdSays) → LastIs Request xid past → On state past
      → After past (defended turn xid terms state says)
  defends xid terms state Quiet last on = record { drawn = drawn; on = on; well = tt }
  defends xid terms state SayProbe last on = record { drawn = drawn; on = on; well = tt }
  defends xid terms state SayAnnounce last on = record { drawn = drawn; on = on; well = tt }
  defends xid terms state Passed last on = record { drawn = drawn; on = on; well = tt }
  defends xid terms state Conflict last on = record { drawn = drawn; on = on; well = tt }
  defends xid terms state GivenUp last on = refuses_address xid terms news.Expire last

  checks : (xid : ℕ) (terms : Terms4) (origin : Origin4) (acd : Acd) (stands : Option Terms4) (says : AcdSays) → LastIs Request xid past
      → After past (checked turn xid terms origin acd stands says)
  checks xid terms origin acd stands Quiet last = record { drawn = drawn; on = last; well = tt }
  checks xid terms origin acd stands SayProbe last = record { drawn = drawn; on = last; well = tt }
  checks xid terms origin acd stands SayAnnounce last = record { drawn = drawn; on = last; well = tt }
  checks xid terms origin acd stands Passed last = record { drawn = drawn; on = last; well = tt }
  checks xid terms origin acd stands Conflict last = refuses_address xid terms (standing_news stands) last
  checks xid terms origin acd stands GivenUp last = record { drawn = drawn; on = last; well = tt }

  detecting : (xid : ℕ) (terms : Terms4) (state : State4) (acd : Option Acd) → LastIs Request xid past → ((acd : Acd) → On (with_acd state acd) past)
      → On state past
      → After past (detects turn xid terms state acd)
  detecting xid terms state None last with_on on = stays state on
  detecting xid terms state (Some acd) last with_on on =
      defends xid terms (with_acd state (detection.acd_tick acd turn.at turn.salt).acd) (detection.acd_tick acd turn.at turn.salt).says last
      (with_on (detection.acd_tick acd turn.at turn.salt).acd)

  contests : (own : List Mac) (arp : ArpView) (xid : ℕ) (terms : Terms4) (state : State4) (acd : Option Acd) → LastIs Request xid past
      → ((acd : Acd) → On (with_acd state acd) past) → On state past → After past (contested own turn arp xid terms state acd)
  contests own arp xid terms state None last with_on on = stays state on
  contests own arp xid terms state (Some acd) last with_on on =
      defends xid terms (with_acd state (detection.acd_hears own acd arp turn.at).acd) (detection.acd_hears own acd arp turn.at).says last
      (with_on (detection.acd_hears own acd arp turn.at).acd)

  -- ---- ticks

  pub tick_follows : (state : State4) → On state past → After past (tick_row turn state)
  tick_follows Off on = stays Off on
  tick_follows (Init due) on = discovered
  tick_follows (Waiting due) on = discovered
  tick_follows (Selecting xid began secs backoff due) on = discovers_again xid began (doubled backoff) on
  tick_follows (Requesting exchange secs Four due) on = requests_again exchange secs (doubled Four) on
  tick_follows (Requesting exchange secs Eight due) on = requests_again exchange secs (doubled Eight) on
  tick_follows (Requesting exchange secs Sixteen due) on = requests_again exchange secs (doubled Sixteen) on
  tick_follows (Requesting exchange secs ThirtyTwo due) on = requests_again exchange secs (doubled ThirtyTwo) on
  tick_follows (Requesting exchange secs SixtyFour due) on = inits
  tick_follows (Rebooting exchange backoff end due stands) on =
      gated (After past) (is_due (standing_until stands) turn.at) _ _ ends
      (gated (After past) (nat_le end turn.at) _ _ (record { drawn = refl; on = (refl, refl); well = new_follows turn past drawn Discover })
      (reboots_again exchange (doubled backoff) end stands on))
  tick_follows (Checking xid terms origin acd stands) on =
      gated (After past) (is_due (standing_until stands) turn.at) _ _ (record { drawn = drawn; on = on; well = tt })
      (gated (After past) (is_due (expiry terms) turn.at) _ _ (record { drawn = drawn; on = tt; well = tt })
      (checks xid terms origin (detection.acd_tick acd turn.at turn.salt).acd stands (detection.acd_tick acd turn.at turn.salt).says on))
  tick_follows (Bound xid terms acd) on =
      gated (After past) (is_due (expiry terms) turn.at) _ _ ends
      (gated (After past) (is_due (rebinding_at terms) turn.at) _ _ (rebinds terms acd)
      (gated (After past) (is_due (renewal_at terms) turn.at) _ _ (renews terms acd)
      (detecting xid terms (Bound xid terms acd) acd on (λ next. on) on)))
  tick_follows (Renewing exchange terms acd due) on =
      gated (After past) (is_due (expiry terms) turn.at) _ _ ends
      (gated (After past) (is_due (rebinding_at terms) turn.at) _ _ (rebinds terms acd)
      (gated (After past) (nat_le due turn.at) _ _ (renews_again exchange terms acd on)
      (detecting exchange.xid terms (Renewing exchange terms acd due) acd on (λ next. on) on)))
  tick_follows (Rebinding exchange terms acd due) on =
      gated (After past) (is_due (expiry terms) turn.at) _ _ ends
      (gated (After past) (nat_le due turn.at) _ _ (rebinds_again exchange terms acd on)
      (detecting exchange.xid terms (Rebinding exchange terms acd due) acd on (λ next. on) on))

  -- ---- what is heard

  offering : (xid secs : ℕ) (state : State4) (said : Answer4) → LastIs Discover xid past → On state past → After past (offered turn xid secs state said)
  offering xid secs state (answer.Offer address server) last on =
      takes_offer (record { xid = xid; address = address; server = Some server; first = turn.at }) secs Four last
  offering xid secs state answer.Nothing last on = stays state on
  offering xid secs state (answer.Ack terms) last on = stays state on
  offering xid secs state answer.Nak last on = stays state on

  granting : (xid : ℕ) (terms : Terms4) (origin : Origin4) (stands : Option Terms4) → LastIs Request xid past
      → After past (granted turn xid terms origin stands)
  granting xid terms origin stands last =
      gated (After past) turn.site.flags.noarp _ _ (record { drawn = drawn; on = last; well = tt }) (record { drawn = drawn; on = last; well = tt })

  answering : (xid : ℕ) (origin : Origin4) (stands : Option Terms4) (state : State4) (said : Answer4) → LastIs Request xid past → On state past
      → After past (answered turn xid origin stands state said)
  answering xid origin stands state (answer.Ack terms) last on = granting xid terms origin stands last
  answering xid origin stands state answer.Nak last on = refuses
  answering xid origin stands state answer.Nothing last on = stays state on
  answering xid origin stands state (answer.Offer address server) last on = stays state on

  renewing_by : (xid : ℕ) (news : News4) (acd : Option Acd) (state : State4) (said : Answer4) → LastIs Request xid past → On state past
      → After past (renewed turn xid news acd state said)
  renewing_by xid news acd state (answer.Ack terms) last on = record { drawn = drawn; on = last; well = tt }
  renewing_by xid news acd state answer.Nak last on = refuses
  renewing_by xid news acd state answer.Nothing last on = stays state on
  renewing_by xid news acd state (answer.Offer address server) last on = stays state on

  pub heard_follows : (said : Answer4) (state : State4) → On state past → After past (heard_row turn said state)
  heard_follows said Off on = stays Off on
  heard_follows said (Init due) on = stays (Init due) on
  heard_follows said (Selecting xid began secs backoff due) on = offering xid secs (Selecting xid began secs backoff due) said on on
  heard_follows said (Requesting exchange secs backoff due) on = answering exchange.xid Offered None (Requesting exchange secs backoff due) said on on
  heard_follows said (Rebooting exchange backoff end due stands) on =
      answering exchange.xid Rebooted stands (Rebooting exchange backoff end due stands) said on on
  heard_follows said (Checking xid terms origin acd stands) on = stays (Checking xid terms origin acd stands) on
  heard_follows said (Waiting due) on = stays (Waiting due) on
  heard_follows said (Bound xid terms acd) on = stays (Bound xid terms acd) on
  heard_follows said (Renewing exchange terms acd due) on = renewing_by exchange.xid news.Renew acd (Renewing exchange terms acd due) said on on
  heard_follows said (Rebinding exchange terms acd due) on = renewing_by exchange.xid news.Rebind acd (Rebinding exchange terms acd due) said on on

  pub arp_follows : (own : List Mac) (arp : ArpView) (state : State4) → On state past → After past (arp_row own turn arp state)
  arp_follows own arp Off on = stays Off on
  arp_follows own arp (Init due) on = stays (Init due) on
  arp_follows own arp (Selecting xid began secs backoff due) on = stays (Selecting xid began secs backoff due) on
  arp_follows own arp (Requesting exchange secs backoff due) on = stays (Requesting exchange secs backoff due) on
  arp_follows own arp (Rebooting exchange backoff end due stands) on = stays (Rebooting exchange backoff end due stands) on
  arp_follows own arp (Checking xid terms origin acd stands) on =
      checks xid terms origin (detection.acd_hears own acd arp turn.at).acd stands (detection.acd_hears own acd arp turn.at).says on
  arp_follows own arp (Waiting due) on = stays (Waiting due) on
  arp_follows own arp (Bound xid terms acd) on = contests own arp xid terms (Bound xid terms acd) acd on (λ next. on) on
  arp_follows own arp (Renewing exchange terms acd due) on = contests own arp exchange.xid terms (Renewing exchange terms acd due) acd on (λ next. on) on
  arp_follows own arp (Rebinding exchange terms acd due) on = contests own arp exchange.xid terms (Rebinding exchange terms acd due) acd on (λ next. on) on

  -- ---- the other inputs

  enters : (may_stand : Bool) (kept : Option Terms4) → After past (entered turn may_stand kept)
  enters may_stand None = inits
  enters may_stand (Some terms) =
      gated (After past) (is_due (expiry terms) turn.at || (turn.site.times.reboot == 0)) _ _ inits
      (reboots terms.net.ip (turn.at + SECOND * turn.site.times.reboot) (stood turn may_stand terms))

  begun : (may_stand : Bool) (kept : Option Terms4) → After past (begins turn may_stand kept)
  begun may_stand kept =
      let entering : After past (entered turn may_stand kept) = enters may_stand kept in
      record { drawn = entering.drawn; on = entering.on; well = entering.well }

  pub begin_follows : (may_stand : Bool) (kept : Option Terms4) (state : State4) → On state past → After past (begin_row turn may_stand kept state)
  begin_follows may_stand kept Off on = begun may_stand kept
  begin_follows may_stand kept (Init due) on = stays (Init due) on
  begin_follows may_stand kept (Selecting xid began secs backoff due) on = stays (Selecting xid began secs backoff due) on
  begin_follows may_stand kept (Requesting exchange secs backoff due) on = stays (Requesting exchange secs backoff due) on
  begin_follows may_stand kept (Rebooting exchange backoff end due stands) on = stays (Rebooting exchange backoff end due stands) on
  begin_follows may_stand kept (Checking xid terms origin acd stands) on = stays (Checking xid terms origin acd stands) on
  begin_follows may_stand kept (Waiting due) on = stays (Waiting due) on
  begin_follows may_stand kept (Bound xid terms acd) on = stays (Bound xid terms acd) on
  begin_follows may_stand kept (Renewing exchange terms acd due) on = stays (Renewing exchange terms acd due) on
  begin_follows may_stand kept (Rebinding exchange terms acd due) on = stays (Rebinding exchange terms acd due) on

  pub rebind_follows : (kept : Option Terms4) (state : State4) → On state past → After past (rebind_row turn kept state)
  rebind_follows kept Off on = begun false kept
  rebind_follows kept (Init due) on = stays (Init due) on
  rebind_follows kept (Selecting xid began secs backoff due) on = stays (Selecting xid began secs backoff due) on
  rebind_follows kept (Requesting exchange secs backoff due) on = stays (Requesting exchange secs backoff due) on
  rebind_follows kept (Rebooting exchange backoff end due stands) on = stays (Rebooting exchange backoff end due stands) on
  rebind_follows kept (Checking xid terms origin acd stands) on = stays (Checking xid terms origin acd stands) on
  rebind_follows kept (Waiting due) on = stays (Waiting due) on
  rebind_follows kept (Bound xid terms acd) on = rebinds terms acd
  rebind_follows kept (Renewing exchange terms acd due) on = rebinds terms acd
  rebind_follows kept (Rebinding exchange terms acd due) on = stays (Rebinding exchange terms acd due) on

  pub off_follows : After past (off_row turn)
  off_follows = record { drawn = drawn; on = tt; well = tt }

  lets_go : (tell : Tell) (terms : Terms4) → After past (released turn tell terms)
  lets_go Server terms = record { drawn = refl; on = tt; well = new_follows turn past drawn Release }
  lets_go Nobody terms = record { drawn = drawn; on = tt; well = tt }

  lets_go_standing : (tell : Tell) (stands : Option Terms4) → After past (released_standing turn tell stands)
  lets_go_standing tell None = off_follows
  lets_go_standing tell (Some terms) = lets_go tell terms

  pub release_follows : (tell : Tell) (state : State4) → After past (release_row turn tell state)
  release_follows tell Off = off_follows
  release_follows tell (Init due) = off_follows
  release_follows tell (Selecting xid began secs backoff due) = off_follows
  release_follows tell (Requesting exchange secs backoff due) = off_follows
  release_follows tell (Rebooting exchange backoff end due stands) = lets_go_standing tell stands
  release_follows tell (Checking xid terms origin acd stands) = lets_go_standing tell stands
  release_follows tell (Waiting due) = off_follows
  release_follows tell (Bound xid terms acd) = lets_go tell terms
  release_follows tell (Renewing exchange terms acd due) = lets_go tell terms
  release_follows tell (Rebinding exchange terms acd due) = lets_go tell terms

  pub due_follows : (state : State4) → On state past → After past (if is_due (due_of state) turn.at then tick_row turn state else rests turn state)
  due_follows state on = gated (After past) (is_due (due_of state) turn.at) _ _ (tick_follows state on) (stays state on)

pub unsent_follows : (turn : Turn4) (past : List Said4) (state : State4) → On state past → On (unsent_row turn state) past
unsent_follows turn past Off on = on
unsent_follows turn past (Init due) on = on
unsent_follows turn past (Selecting xid began secs backoff due) on = on
unsent_follows turn past (Requesting exchange secs backoff due) on = on
unsent_follows turn past (Rebooting exchange backoff end due stands) on = on
unsent_follows turn past (Checking xid terms origin acd stands) on = on
unsent_follows turn past (Waiting due) on = on
unsent_follows turn past (Bound xid terms acd) on = on
unsent_follows turn past (Renewing exchange terms acd due) on = on
unsent_follows turn past (Rebinding exchange terms acd due) on = on
