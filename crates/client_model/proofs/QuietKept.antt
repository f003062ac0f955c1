-- A turn of which nothing is new leaves the DHCPv4 lease that an interface keeps, where nothing is said or one is kept after it.
use Rattle.std.proofs.Common.{ℕ, ◌≡◌, ◌+◌, ◌*◌, ◌||◌, Bool, true, false, cond, List, [], ◌∷◌, ◌++◌, map, Option, Some, None, nat_le, nat_eq, refl, sym, ap, ◌∙◌}
use Rattle.std.specs.Prelude.{option_to_list}
use Rattle.std.specs.Option.{is_some}
use Rattle.net_types.proofs.CaseLaws.{gated}
use Rattle.net_types.specs.declared.address.Mac.{Mac}
use Rattle.net_types.specs.declared.interface.Name.{Name}
use Rattle.frame_link.specs.declared.arp.ArpView.{ArpView}
use Rattle.v4_client.specs.Machine.Moment.{is_due}
use Rattle.v4_client.specs.ArpAcd.declared.detection.Acd.{Acd}
use Rattle.v4_client.specs.ArpAcd.declared.detection.AcdSays.{AcdSays}
use Rattle.v4_client.specs.ArpAcd.declared.detection.AcdSays.TheVariants as says
use Rattle.v4_client.specs.ArpAcd.Table as detection
use Rattle.v4_client.specs.LeaseText.declared.lease.Terms4.{Terms4}
use Rattle.v4_client.specs.LeaseText.Leases.{LeaseContent, ValueContent}
use Rattle.v4_client.specs.V4Frames.Heard.{HeardMessage, heard4_in}
use Rattle.v6_frames.specs.Heard.{HeardMessage6, heard6_in}
use Rattle.v6_client.specs.Runs.{rebind_turned}
use Rattle.v4_client.specs.declared.moments.Backoff.TheVariants.{Four}
use Rattle.v4_client.specs.declared.moments.TheConstants.{SECOND}
use Rattle.v4_client.specs.declared.states.Answer4.{Answer4}
use Rattle.v4_client.specs.declared.states.Answer4.TheVariants as answer
use Rattle.v4_client.specs.declared.states.Keep4.{Keep4}
use Rattle.v4_client.specs.declared.states.Keep4.TheVariants.{Stays, Clears, Takes}
use Rattle.v4_client.specs.declared.states.News4.TheVariants as news
use Rattle.v4_client.specs.declared.states.Origin4.{Origin4}
use Rattle.v4_client.specs.declared.states.Origin4.TheVariants.{Offered, Rebooted}
use Rattle.v4_client.specs.declared.states.Say4.{Say4}
use Rattle.v4_client.specs.declared.states.State4.{State4}
use Rattle.v4_client.specs.declared.states.State4.TheVariants.{Off, Init, Selecting, Requesting, Rebooting, Checking, Waiting, Bound, Renewing, Rebinding}
use Rattle.v4_client.specs.declared.states.Step4.{Step4}
use Rattle.v4_client.specs.declared.states.Tell.TheVariants.{Server}
use Rattle.v4_client.specs.declared.states.Turn4.{Turn4}
use Rattle.v4_client.specs.Calls.{answer_to, arp_step, brought, heard_step, rebind_step}
use Rattle.v4_client.specs.Clients.{ClientContent, kept_terms, turn_of}
use Rattle.v4_client.specs.Detection.{checked, defended, with_acd}
use Rattle.v4_client.specs.Due.{due_of}
use Rattle.v4_client.specs.Hearing.{offered, granted, answered, renewed, heard_row, contested, arp_row}
use Rattle.v4_client.specs.History.{tick_step}
use Rattle.v4_client.specs.Inputs.{begins, rebind_row, stood}
use Rattle.v4_client.specs.Moments.{doubled, expiry, rebinding_at, renewal_at, standing_until}
use Rattle.v4_client.specs.Moves.{kept_after}
use Rattle.v4_client.specs.Steps.{binds, discovers, expires, new_exchange, rebinding, rebooting, renewing, requesting, rests, standing_news, to_init}
use Rattle.v4_client.specs.Ticks.{detects, falls, is_longest, tick_row}
use Rattle.world.specs.declared.wakes.Event.{Event}
use Rattle.world.specs.declared.wakes.Event.TheVariants.{Frame, Carrier, Duplicate, Release, Rebind, Stop, Quiet, End}
use Rattle.script_model.specs.IfaceSets.{is_in}
use Rattle.client_model.specs.declared.interfaces.Iface.{Iface}
use Rattle.client_model.specs.declared.steps.News.{News}
use Rattle.client_model.specs.declared.steps.News.TheVariants.{CarrierCame, CarrierWent, Released, Stopped}
use Rattle.client_model.specs.Messages.{Said, Dhcp4}
use Rattle.client_model.specs.IfaceSteps.{Report, IfaceStep, index_of, news_of, silent, then_step, with_news}
use Rattle.client_model.specs.ClientSettings.{runs_dhcp4}
use Rattle.client_model.specs.ClientSettings6.{runs_dhcp6}
use Rattle.client_model.specs.LocalSteps.{armed, local_hears, tick_local}
use Rattle.client_model.specs.Dhcp4Steps.{arms, arrival_at, dhcp4_packet, dhcp4_step, holds_lease, rebind_dhcp4, tick_dhcp4}
use Rattle.client_model.specs.Dhcp6Steps.{contested as contested6, dhcp6_step, rebind_dhcp6, tick_dhcp6}
use Rattle.client_model.specs.Interfaces.{machines_drop, machines_rebind, machines_stop, restarted, unsent_in, ticked, carrier_comes, carrier_goes, carried, released, rebound, told_at_stop}
use Rattle.client_model.specs.Interfaces as run
use Rattle.client_model.specs.IfaceTurns.{arp_heard, hears, hears_either, hears_message, hears_message6, hears_packet, taken, input_step, Turn, iface_turned}
use Rattle.client_model.specs.Runs.{KeepsInQuiet}
use Rattle.client_model.proofs.QuietTurns.{none_first, none_next, no_lease_news, quiet_kept6, quiet_parts, quiet_rows}

-- ---- a step of the table

-- where it says no message the kept lease stays, and where it says one no other lease is kept
abbrev is_still : Option Say4 → Keep4 → Bool
is_still None Stays = true
is_still None Clears = false
is_still None (Takes terms) = false
is_still (Some say) Stays = true
is_still (Some say) Clears = true
is_still (Some say) (Takes terms) = false

abbrev Stilly : Step4 → Type 0
Stilly step = step.news ≡ news.Nothing → is_still step.say step.keep ≡ true

stays_unsaid : (say : Option Say4) (keep : Keep4) → is_still say keep ≡ true → say ≡ None → keep ≡ Stays
stays_unsaid None Stays still none = refl
stays_unsaid None Clears still none = cc
stays_unsaid None (Takes terms) still none = cc
stays_unsaid (Some say) keep still none = cc

no_other : (say : Option Say4) (keep : Keep4) (name : Name) (fresh : List ValueContent) (kept : Option LeaseContent) → is_still say keep ≡ true
    → is_some (kept_after keep name fresh kept) ≡ true → kept_after keep name fresh kept ≡ kept
no_other say Stays name fresh kept still some = refl
no_other say Clears name fresh kept still some = cc
no_other None (Takes terms) name fresh kept still some = cc
no_other (Some say) (Takes terms) name fresh kept still some = cc

checked_still : (turn : Turn4) (xid : ℕ) (terms : Terms4) (origin : Origin4) (acd : Acd) (stands : Option Terms4) (said : AcdSays)
    → Stilly (checked turn xid terms origin acd stands said)
checked_still turn xid terms origin acd stands says.SayProbe n = refl
checked_still turn xid terms Offered acd stands says.Passed n = cc
checked_still turn xid terms Rebooted acd stands says.Passed n = cc
checked_still turn xid terms origin acd stands says.Conflict n = refl
checked_still turn xid terms origin acd stands says.Quiet n = refl
checked_still turn xid terms origin acd stands says.SayAnnounce n = refl
checked_still turn xid terms origin acd stands says.GivenUp n = refl

defended_still : (turn : Turn4) (xid : ℕ) (terms : Terms4) (state : State4) (said : AcdSays) → Stilly (defended turn xid terms state said)
defended_still turn xid terms state says.SayAnnounce n = refl
defended_still turn xid terms state says.GivenUp n = cc
defended_still turn xid terms state says.Quiet n = refl
defended_still turn xid terms state says.SayProbe n = refl
defended_still turn xid terms state says.Passed n = refl
defended_still turn xid terms state says.Conflict n = refl

detects_still : (turn : Turn4) (xid : ℕ) (terms : Terms4) (state : State4) (acd : Option Acd) → Stilly (detects turn xid terms state acd)
detects_still turn xid terms state None n = refl
detects_still turn xid terms state (Some acd) n =
    defended_still turn xid terms (with_acd state (detection.acd_tick acd turn.at turn.salt).acd) (detection.acd_tick acd turn.at turn.salt).says n

contested_still : (own : List Mac) (turn : Turn4) (arp : ArpView) (xid : ℕ) (terms : Terms4) (state : State4) (acd : Option Acd)
    → Stilly (contested own turn arp xid terms state acd)
contested_still own turn arp xid terms state None n = refl
contested_still own turn arp xid terms state (Some acd) n =
    defended_still turn xid terms (with_acd state (detection.acd_hears own acd arp turn.at).acd) (detection.acd_hears own acd arp turn.at).says n

tick_still : (turn : Turn4) (state : State4) → Stilly (tick_row turn state)
tick_still turn Off = λ n. refl
tick_still turn (Init due) = λ n. refl
tick_still turn (Waiting due) = λ n. refl
tick_still turn (Selecting xid began secs backoff due) = λ n. refl
tick_still turn (Requesting exchange secs backoff due) =
    gated Stilly (is_longest backoff) (to_init turn) (requesting turn exchange secs (doubled backoff)) (λ n. refl) (λ n. refl)
tick_still turn (Rebooting exchange backoff end due stands) =
    gated Stilly (is_due (standing_until stands) turn.at) (expires turn) _ (λ n. cc)
    (gated Stilly (nat_le end turn.at) (record (discovers turn) { news = standing_news stands }) (rebooting turn exchange (doubled backoff) end stands)
    (λ n. refl) (λ n. refl))
tick_still turn (Checking xid terms origin acd stands) =
    gated Stilly (is_due (standing_until stands) turn.at) (falls turn (Checking xid terms origin acd None)) _ (λ n. cc)
    (gated Stilly (is_due (expiry terms) turn.at) (record (to_init turn) { news = standing_news stands })
    (checked turn xid terms origin (detection.acd_tick acd turn.at turn.salt).acd stands (detection.acd_tick acd turn.at turn.salt).says) (λ n. refl)
    (checked_still turn xid terms origin (detection.acd_tick acd turn.at turn.salt).acd stands (detection.acd_tick acd turn.at turn.salt).says))
tick_still turn (Bound xid terms acd) =
    gated Stilly (is_due (expiry terms) turn.at) (expires turn) _ (λ n. cc)
    (gated Stilly (is_due (rebinding_at terms) turn.at) (rebinding turn (new_exchange turn terms.net.ip) terms acd) _ (λ n. refl)
    (gated Stilly (is_due (renewal_at terms) turn.at) (renewing turn (new_exchange turn terms.net.ip) terms acd) _ (λ n. refl)
    (detects_still turn xid terms (Bound xid terms acd) acd)))
tick_still turn (Renewing exchange terms acd due) =
    gated Stilly (is_due (expiry terms) turn.at) (expires turn) _ (λ n. cc)
    (gated Stilly (is_due (rebinding_at terms) turn.at) (rebinding turn (new_exchange turn terms.net.ip) terms acd) _ (λ n. refl)
    (gated Stilly (nat_le due turn.at) (renewing turn exchange terms acd) _ (λ n. refl)
    (detects_still turn exchange.xid terms (Renewing exchange terms acd due) acd)))
tick_still turn (Rebinding exchange terms acd due) =
    gated Stilly (is_due (expiry terms) turn.at) (expires turn) _ (λ n. cc)
    (gated Stilly (nat_le due turn.at) (rebinding turn exchange terms acd) _ (λ n. refl)
    (detects_still turn exchange.xid terms (Rebinding exchange terms acd due) acd))

granted_still : (turn : Turn4) (xid : ℕ) (terms : Terms4) (origin : Origin4) (stands : Option Terms4) → Stilly (granted turn xid terms origin stands)
granted_still turn xid terms Offered stands = gated Stilly turn.site.flags.noarp (binds turn xid terms news.Bound None) _ (λ n. cc) (λ n. refl)
granted_still turn xid terms Rebooted stands = gated Stilly turn.site.flags.noarp (binds turn xid terms news.Reboot None) _ (λ n. cc) (λ n. refl)

offered_still : (turn : Turn4) (xid secs : ℕ) (state : State4) (said : Answer4) → Stilly (offered turn xid secs state said)
offered_still turn xid secs state (answer.Offer address server) n = refl
offered_still turn xid secs state answer.Nothing n = refl
offered_still turn xid secs state (answer.Ack terms) n = refl
offered_still turn xid secs state answer.Nak n = refl

answered_still : (turn : Turn4) (xid : ℕ) (origin : Origin4) (stands : Option Terms4) (state : State4) (said : Answer4)
    → Stilly (answered turn xid origin stands state said)
answered_still turn xid origin stands state (answer.Ack terms) = granted_still turn xid terms origin stands
answered_still turn xid origin stands state answer.Nak = λ n. cc
answered_still turn xid origin stands state answer.Nothing = λ n. refl
answered_still turn xid origin stands state (answer.Offer address server) = λ n. refl

renewed_still : (turn : Turn4) (xid : ℕ) (acd : Option Acd) (state : State4) (said : Answer4) → Stilly (renewed turn xid news.Renew acd state said)
renewed_still turn xid acd state (answer.Ack terms) n = cc
renewed_still turn xid acd state answer.Nak n = cc
renewed_still turn xid acd state answer.Nothing n = refl
renewed_still turn xid acd state (answer.Offer address server) n = refl

rebound_still : (turn : Turn4) (xid : ℕ) (acd : Option Acd) (state : State4) (said : Answer4) → Stilly (renewed turn xid news.Rebind acd state said)
rebound_still turn xid acd state (answer.Ack terms) n = cc
rebound_still turn xid acd state answer.Nak n = cc
rebound_still turn xid acd state answer.Nothing n = refl
rebound_still turn xid acd state (answer.Offer address server) n = refl

heard_still : (turn : Turn4) (said : Answer4) (state : State4) → Stilly (heard_row turn said state)
heard_still turn said Off = λ n. refl
heard_still turn said (Init due) = λ n. refl
heard_still turn said (Selecting xid began secs backoff due) = offered_still turn xid secs (Selecting xid began secs backoff due) said
heard_still turn said (Requesting exchange secs backoff due) = answered_still turn exchange.xid Offered None (Requesting exchange secs backoff due) said
heard_still turn said (Rebooting exchange backoff end due stands) =
    answered_still turn exchange.xid Rebooted stands (Rebooting exchange backoff end due stands) said
heard_still turn said (Checking xid terms origin acd stands) = λ n. refl
heard_still turn said (Waiting due) = λ n. refl
heard_still turn said (Bound xid terms acd) = λ n. refl
heard_still turn said (Renewing exchange terms acd due) = renewed_still turn exchange.xid acd (Renewing exchange terms acd due) said
heard_still turn said (Rebinding exchange terms acd due) = rebound_still turn exchange.xid acd (Rebinding exchange terms acd due) said

arp_still : (own : List Mac) (turn : Turn4) (arp : ArpView) (state : State4) → Stilly (arp_row own turn arp state)
arp_still own turn arp Off = λ n. refl
arp_still own turn arp (Init due) = λ n. refl
arp_still own turn arp (Selecting xid began secs backoff due) = λ n. refl
arp_still own turn arp (Requesting exchange secs backoff due) = λ n. refl
arp_still own turn arp (Rebooting exchange backoff end due stands) = λ n. refl
arp_still own turn arp (Checking xid terms origin acd stands) =
    checked_still turn xid terms origin (detection.acd_hears own acd arp turn.at).acd stands (detection.acd_hears own acd arp turn.at).says
arp_still own turn arp (Waiting due) = λ n. refl
arp_still own turn arp (Bound xid terms acd) = contested_still own turn arp xid terms (Bound xid terms acd) acd
arp_still own turn arp (Renewing exchange terms acd due) = contested_still own turn arp exchange.xid terms (Renewing exchange terms acd due) acd
arp_still own turn arp (Rebinding exchange terms acd due) = contested_still own turn arp exchange.xid terms (Rebinding exchange terms acd due) acd

begins_still : (turn : Turn4) (kept : Option Terms4) → Stilly (begins turn false kept)
begins_still turn None = λ n. refl
begins_still turn (Some terms) =
    gated Stilly (is_due (expiry terms) turn.at || nat_eq turn.site.times.reboot 0) (to_init turn)
    (rebooting turn (new_exchange turn terms.net.ip) Four (turn.at + SECOND * turn.site.times.reboot) (stood turn false terms)) (λ n. refl) (λ n. refl)

rebind_still : (turn : Turn4) (kept : Option Terms4) (state : State4) → Stilly (rebind_row turn kept state)
rebind_still turn kept Off = begins_still turn kept
rebind_still turn kept (Init due) = λ n. refl
rebind_still turn kept (Selecting xid began secs backoff due) = λ n. refl
rebind_still turn kept (Requesting exchange secs backoff due) = λ n. refl
rebind_still turn kept (Rebooting exchange backoff end due stands) = λ n. refl
rebind_still turn kept (Checking xid terms origin acd stands) = λ n. refl
rebind_still turn kept (Waiting due) = λ n. refl
rebind_still turn kept (Bound xid terms acd) = λ n. refl
rebind_still turn kept (Renewing exchange terms acd due) = λ n. refl
rebind_still turn kept (Rebinding exchange terms acd due) = λ n. refl

tick_step_still : (at salt : ℕ) (c : ClientContent) → Stilly (tick_step at salt c)
tick_step_still at salt c =
    gated Stilly (is_due (due_of c.state) at) (tick_row (turn_of at salt c) c.state) (rests (turn_of at salt c) c.state)
    (tick_still (turn_of at salt c) c.state) (λ n. refl)

-- ---- the interface

-- where it says nothing the kept lease stays, and where it keeps one that is the one of before
record Stays4 (said : List Said) (old new : Iface) : Type 0 where
  unsaid : said ≡ [] → new.dhcp4.kept ≡ old.dhcp4.kept
  kept : is_some new.dhcp4.kept ≡ true → new.dhcp4.kept ≡ old.dhcp4.kept

abbrev KeepsStill : Iface → IfaceStep → Type 0
KeepsStill old step = step.reports ≡ [] → Stays4 step.said old step.iface

same : (said : List Said) (old new : Iface) → new.dhcp4.kept ≡ old.dhcp4.kept → Stays4 said old new
same said old new e = record { unsaid = λ s. e; kept = λ some. e }

both_still : (iface : Iface) (first : IfaceStep) (next : Iface → IfaceStep) → KeepsStill iface first → KeepsStill first.iface (next first.iface)
    → KeepsStill iface (then_step first next)
both_still iface first next one two n =
    let now : IfaceStep = next first.iface in
    let before : Stays4 first.said iface first.iface = one (none_first first.reports now.reports n) in
    let after : Stays4 now.said first.iface now.iface = two (none_next first.reports now.reports n) in
    record {
      unsaid = λ s. after.unsaid (none_next first.said now.said s) ∙ before.unsaid (none_first first.said now.said s);
      kept = λ some. after.kept some ∙ before.kept (ap (λ (kept : Option LeaseContent). is_some kept) (sym (after.kept some)) ∙ some);
    }

silent_still : (iface : Iface) → KeepsStill iface (silent iface)
silent_still iface n = same [] iface iface refl

told : (old before : Iface) (news : News) (step : IfaceStep) → KeepsStill old (with_news news before step)
told old before news step n = absurd cc

none_told : (news : News) (iface : Iface) → (run.tells news iface).reports ≡ [] → ⊥
none_told news iface n = cc

told_last : (old : Iface) (news : News) (first : IfaceStep) → KeepsStill old (then_step first (run.tells news))
told_last old news first n = absurd (none_told news first.iface (none_next first.reports (run.tells news first.iface).reports n))

none_said : (say : Option Say4) (more : List Said) → map Dhcp4 (option_to_list say) ++ more ≡ [] → say ≡ None
none_said None more e = refl
none_said (Some say) more e = cc

dhcp4_still_from : (at : ℕ) (old before : Iface) (step : Step4) → before.dhcp4.kept ≡ old.dhcp4.kept → Stilly step → KeepsStill old (dhcp4_step at before step)
dhcp4_still_from at old before step was still n =
    let name : Name = before.dhcp4.settings.site.iface.name in
    let fresh : List ValueContent = before.dhcp4.fresh in
    let holds : is_still step.say step.keep ≡ true = still (no_lease_news _ step.news n) in
    record {
      unsaid = λ s. ap (λ (keep : Keep4). kept_after keep name fresh before.dhcp4.kept) (stays_unsaid step.say step.keep holds (none_said step.say _ s)) ∙ was;
      kept = λ some. no_other step.say step.keep name fresh before.dhcp4.kept holds some ∙ was;
    }

dhcp4_still : (at : ℕ) (iface : Iface) (step : Step4) → Stilly step → KeepsStill iface (dhcp4_step at iface step)
dhcp4_still at iface step still = dhcp4_still_from at iface iface step refl still

arms_still : (at : ℕ) (iface : Iface) → KeepsStill iface (arms at iface)
arms_still at iface =
    gated (KeepsStill iface) (holds_lease iface) (silent iface) (silent (record iface { local = armed iface.managed.conf at iface.local }))
    (λ n. same _ _ _ refl) (λ n. same _ _ _ refl)

rebind_dhcp4_still : (at salt : ℕ) (iface : Iface) → KeepsStill iface (rebind_dhcp4 at salt iface)
rebind_dhcp4_still at salt iface =
    gated (KeepsStill iface) (runs_dhcp4 iface.managed.conf) (dhcp4_step at iface (rebind_step at salt iface.dhcp4)) (silent iface)
    (dhcp4_still at iface (rebind_step at salt iface.dhcp4) (rebind_still (turn_of at salt iface.dhcp4) (kept_terms iface.dhcp4) iface.dhcp4.state))
    (λ n. same _ _ _ refl)

-- ---- the interface's turn

unsent_keeps : (set at salt : ℕ) (iface : Iface) → (unsent_in set at salt iface).dhcp4.kept ≡ iface.dhcp4.kept
unsent_keeps set at salt iface =
    gated (λ (new : Iface). new.dhcp4.kept ≡ iface.dhcp4.kept) (is_in set (index_of iface)) (restarted at salt iface) iface refl refl

carried_still : (at salt : ℕ) (up : Bool) (iface : Iface) → KeepsStill iface (carried at salt up iface)
carried_still at salt true iface =
    gated (KeepsStill iface) iface.up (silent iface) (carrier_comes at salt iface) (λ n. same _ _ _ refl)
    (told iface iface CarrierCame (run.begins at salt (record iface { up = true })))
carried_still at salt false iface =
    gated (KeepsStill iface) iface.up (carrier_goes at salt iface) (silent iface)
    (told iface iface CarrierWent (machines_drop at salt (record iface { up = false }))) (λ n. same _ _ _ refl)

rebind_dhcp6_still : (at salt : ℕ) (iface : Iface) → KeepsStill iface (rebind_dhcp6 at salt iface)
rebind_dhcp6_still at salt iface =
    gated (KeepsStill iface) (runs_dhcp6 iface.managed.conf) (dhcp6_step iface (rebind_turned at salt iface.dhcp6)) (silent iface) (λ n. same _ _ _ refl)
    (λ n. same _ _ _ refl)

rebinds_still : (at salt : ℕ) (iface : Iface) → KeepsStill iface (machines_rebind at salt iface)
rebinds_still at salt iface =
    let first : IfaceStep = rebind_dhcp4 at salt iface in
    let local : IfaceStep = then_step first (arms at) in
    both_still iface local (rebind_dhcp6 at salt) (both_still iface first (arms at) (rebind_dhcp4_still at salt iface) (arms_still at first.iface))
    (rebind_dhcp6_still at salt local.iface)

rebound_iface_still : (at salt : ℕ) (iface : Iface) → KeepsStill iface (rebound at salt iface)
rebound_iface_still at salt iface =
    gated (KeepsStill iface) iface.up (machines_rebind at salt iface) (silent iface) (rebinds_still at salt iface) (λ n. same _ _ _ refl)

module _ (own : List Mac) (at salt : ℕ) (bytes : List ℕ) where
  packet_still : (arp : ArpView) (iface : Iface) → KeepsStill iface (hears_packet own at salt arp iface)
  packet_still arp iface =
      both_still iface (dhcp4_packet own at salt arp iface) (local_hears own at salt arp)
      (dhcp4_still at iface (arp_step own at salt arp iface.dhcp4) (arp_still own (turn_of at salt iface.dhcp4) arp iface.dhcp4.state)) (λ n. same _ _ _ refl)

  message6_still : (message : Option HeardMessage6) (iface : Iface) → KeepsStill iface (hears_message6 at salt message iface)
  message6_still None iface = λ n. same _ _ _ refl
  message6_still (Some heard) iface = λ n. same _ _ _ refl

  message_still : (message : Option HeardMessage) (message6 : Option HeardMessage6) (iface : Iface)
      → KeepsStill iface (hears_message at salt message message6 iface)
  message_still None message6 iface = message6_still message6 iface
  message_still (Some heard) message6 iface =
      dhcp4_still_from at iface (record iface { dhcp4 = brought (arrival_at at heard) iface.dhcp4 }) (heard_step salt (arrival_at at heard) iface.dhcp4) refl
      (heard_still (turn_of at salt iface.dhcp4) (answer_to (arrival_at at heard) iface.dhcp4) iface.dhcp4.state)

  either_still : (arp : Option ArpView) (message : Option HeardMessage) (message6 : Option HeardMessage6) (iface : Iface)
      → KeepsStill iface (hears_either own at salt arp message message6 iface)
  either_still (Some arp) message message6 iface = packet_still arp iface
  either_still None message message6 iface = message_still message message6 iface

  hears_still : (iface : Iface) → KeepsStill iface (hears own at salt bytes iface)
  hears_still iface = either_still (arp_heard bytes) (heard4_in iface.managed.spec.mac bytes) (heard6_in iface.managed.spec.mac bytes) iface

  named_still : (index : ℕ) (iface : Iface) (step : IfaceStep) → KeepsStill iface step
      → KeepsStill iface (cond (nat_eq (index_of iface) index) step (silent iface))
  named_still index iface step still = gated (KeepsStill iface) (nat_eq (index_of iface) index) step (silent iface) still (λ n. same _ _ _ refl)

  taken_still : (event : Event) (iface : Iface) → KeepsStill iface (taken own at salt event bytes iface)
  taken_still (Frame index len) iface = named_still index iface (hears own at salt bytes iface) (hears_still iface)
  taken_still (Carrier index up) iface = named_still index iface (carried at salt up iface) (carried_still at salt up iface)
  taken_still (Duplicate index addr) iface = named_still index iface (contested6 at salt addr iface) (λ n. same _ _ _ refl)
  taken_still (Release index) iface = named_still index iface (released at salt iface) (told iface iface Released (machines_stop Server at salt iface))
  taken_still (Rebind index) iface = named_still index iface (rebound at salt iface) (rebound_iface_still at salt iface)
  taken_still Stop iface = told_last iface Stopped (machines_stop (told_at_stop iface.managed.conf) at salt (record iface { stopped = true }))
  taken_still Quiet iface = λ n. same _ _ _ refl
  taken_still End iface = λ n. same _ _ _ refl

  input_still : (event : Event) (iface : Iface) → KeepsStill iface (input_step own at salt event bytes iface)
  input_still event iface =
      gated (KeepsStill iface) iface.stopped (silent iface) (taken own at salt event bytes iface) (λ n. same _ _ _ refl) (taken_still event iface)

ticked_still : (at salt : ℕ) (iface : Iface) → KeepsStill iface (ticked at salt iface)
ticked_still at salt iface =
    let first : IfaceStep = tick_dhcp4 at salt iface in
    let local : IfaceStep = then_step first (tick_local at salt) in
    both_still iface local (tick_dhcp6 at salt)
    (both_still iface first (tick_local at salt) (dhcp4_still at iface (tick_step at salt iface.dhcp4) (tick_step_still at salt iface.dhcp4))
    (λ n. same _ _ _ refl))
    (λ n. same _ _ _ refl)

no_news_told : (reports : List Report) → map (λ (report : Report). report.news) reports ≡ [] → reports ≡ []
no_news_told [] none = refl
no_news_told (report ∷ reports) none = cc

still_in_turn : (own : List Mac) (turn : Turn) (iface : Iface) → news_of (iface_turned own turn iface) ≡ []
    → Stays4 (iface_turned own turn iface).said (unsent_in turn.unsent turn.at turn.salt iface) (iface_turned own turn iface).iface
still_in_turn own turn iface n =
    let anew : Iface = unsent_in turn.unsent turn.at turn.salt iface in
    let first : IfaceStep = ticked turn.at turn.salt anew in
    both_still anew first (input_step own turn.at turn.salt turn.event turn.bytes) (ticked_still turn.at turn.salt anew)
    (input_still own turn.at turn.salt turn.bytes turn.event first.iface) (no_news_told (iface_turned own turn iface).reports n)

pub keeps_in_quiet : (own : List Mac) (turn : Turn) (iface : Iface) → KeepsInQuiet own turn iface
keeps_in_quiet own turn iface =
    let was = unsent_keeps turn.unsent turn.at turn.salt iface in
    record {
      rows = λ n. quiet_rows own turn iface (no_news_told (iface_turned own turn iface).reports n);
      parts = λ n. quiet_parts own turn iface (no_news_told (iface_turned own turn iface).reports n);
      kept6 = λ n. quiet_kept6 own turn iface (no_news_told (iface_turned own turn iface).reports n);
      kept4 = λ n s. (still_in_turn own turn iface n).unsaid s ∙ was;
      same4 = λ n some. (still_in_turn own turn iface n).kept some ∙ was;
    }
