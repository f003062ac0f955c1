-- Each call of a client keeps its numbers in range, and so is the message that it says.
use Rattle.std.proofs.Common.{◌≡◌, ℕ, ◌+◌, ◌/◌, ◌%◌, ◌^◌, ◌<◌, ◌≤◌, ◌||◌, Bool, true, false, is_some, List, length, Option, Some, None, IfSome, refl, arith, leb, lit<, bytes_eq}
use Rattle.std.proofs.lemmas.Bool.{and_from}
use Rattle.std.proofs.lemmas.Slice.Eq.{bytes_eq-Decides}
use Rattle.std.specs.List.{AllByRecursion}
use Rattle.std.specs.Prelude.{if◌then◌else◌, ◌==◌, option_map}
use Rattle.machine.specs.Moment.{is_due}
use Rattle.net_types.proofs.CaseLaws.{gated}
use Rattle.v6_message.specs.declared.kind.Kind6.{Kind6}
use Rattle.v6_message.specs.declared.kind.Kind6.TheVariants as kind
use Rattle.v6_retrans.specs.declared.parameters.TheConstants.{REQUEST, DECLINE}
use Rattle.v4_frames.specs.InRange.{FitsMac}
use Rattle.lease6_text.specs.Leases.{Lease6Content}
use Rattle.v6_client.specs.declared.exchange.Exchange6.{Exchange6}
use Rattle.v6_client.specs.V6Items.declared.asks.IaAsk.{IaAsk}
use Rattle.v6_client.specs.declared.states.Answer6.{Answer6}
use Rattle.v6_client.specs.declared.states.Answer6.TheVariants as answer
use Rattle.v6_client.specs.V6Items.declared.scope.Dates6.{Dates6}
use Rattle.v6_client.specs.declared.states.Keep6.{Keep6}
use Rattle.v6_client.specs.declared.states.Keep6.TheVariants.{Stays, Clears, Takes}
use Rattle.v6_client.specs.declared.states.News6.{News6}
use Rattle.v6_client.specs.declared.states.News6.TheVariants as news
use Rattle.v6_client.specs.V6Items.declared.scope.Parting6.{Parting6}
use Rattle.v6_client.specs.declared.states.Say6.{Say6}
use Rattle.v6_client.specs.V6Items.declared.scope.Scope6.{Scope6}
use Rattle.v6_client.specs.declared.states.State6.{State6}
use Rattle.v6_client.specs.declared.states.State6.TheVariants.{Off, Waiting, Soliciting, Requesting, Bound, Renewing, Rebinding, Restarting, Declining}
use Rattle.v6_client.specs.declared.states.Step6.{Step6}
use Rattle.v6_client.specs.declared.states.Tell6.{Tell6}
use Rattle.v6_client.specs.declared.states.Tell6.TheVariants.{Server, Nobody}
use Rattle.v6_client.specs.declared.turn.Turn6.{Turn6}
use Rattle.v6_client.specs.Clients.{PleaContent, holds, pleads}
use Rattle.v6_client.specs.Exchanges.{is_again_due, is_used_up, new_xid, other_than}
use Rattle.v6_client.specs.Hearing.{heard_row, is_better, is_kept_offer, is_taken_at_once, replied}
use Rattle.v6_client.specs.Inputs.{begin_row, begins, contested, duplicate_row, off_row, rebind_row, release_row, released, stops}
use Rattle.v6_client.specs.Moves.{kept_after, plea_after}
use Rattle.v6_client.specs.Saying.{spoken_by}
use Rattle.v6_client.specs.Steps.{emptied, expires, is_last, requests, rests, tells_parting, to_waiting}
use Rattle.v6_client.specs.Ticks.{restarting_tick, tick_row}
use Rattle.v6_client.specs.Times.{elapsed}
use Rattle.lease_evidence.specs.EvidenceWords.Inputs.{Site}
use Rattle.lease6_evidence.specs.Replies6.{asks_at}
use Rattle.lease6_evidence.proofs.Fields6.{FitsAsk6, FitsKept, FitsPlea, said_asked, server_short}
use Rattle.lease6_evidence.proofs.OwnSaid6.{AsksWith, IsAsked, said_own}
use Rattle.lease6_evidence.proofs.Spoken6.{FitsOwn}
use Rattle.lease6_evidence.proofs.Steps6.{sent_from}

-- ---- states and what is said

-- A REQUEST, and the states before and after it, have what it asks for, as `Has` says.
abbrev pub HasOffer : (Has : Type 0) → Option ℕ → Type 0
HasOffer Has None = Unit {0}
HasOffer Has (Some preference) = Has

abbrev pub FitsState6 : (Has : Type 0) → State6 → Type 0
FitsState6 Has Off = Unit {0}
FitsState6 Has (Waiting due) = Unit {0}
FitsState6 Has (Soliciting exchange offer) = (exchange.xid < 2 ^ 24) × HasOffer Has offer
FitsState6 Has (Requesting exchange) = (exchange.xid < 2 ^ 24) × Has
FitsState6 Has Bound = Unit {0}
FitsState6 Has (Renewing exchange) = exchange.xid < 2 ^ 24
FitsState6 Has (Rebinding exchange) = exchange.xid < 2 ^ 24
FitsState6 Has (Restarting exchange end since stands) = exchange.xid < 2 ^ 24
FitsState6 Has (Declining exchange) = exchange.xid < 2 ^ 24

pub record FitsSay (Has : Type 0) (say : Say6) : Type 0 where
  pub xid : say.xid < 2 ^ 24
  pub elapsed : say.elapsed < 2 ^ 16
  pub pleads : AsksWith Has say.kind

pub record FitsStep6 (Has : Type 0) (step : Step6) : Type 0 where
  pub state : FitsState6 Has step.state
  pub say : IfSome step.say (FitsSay Has)

-- what it asks for may be had otherwise
module _ (Has Now : Type 0) (now : Has → Now) where
  offer_now : (offer : Option ℕ) → HasOffer Has offer → HasOffer Now offer
  offer_now None h = tt
  offer_now (Some preference) h = now h

  pub state_now : (state : State6) → FitsState6 Has state → FitsState6 Now state
  state_now Off h = tt
  state_now (Waiting due) h = tt
  state_now (Soliciting exchange offer) h = (h.0, offer_now offer h.1)
  state_now (Requesting exchange) h = (h.0, now h.1)
  state_now Bound h = tt
  state_now (Renewing exchange) h = h
  state_now (Rebinding exchange) h = h
  state_now (Restarting exchange end since stands) h = h
  state_now (Declining exchange) h = h

  kind_now : (k : Kind6) → AsksWith Has k → AsksWith Now k
  kind_now kind.Request h = now h
  kind_now kind.Solicit h = tt
  kind_now kind.Renew h = tt
  kind_now kind.Rebind h = tt
  kind_now kind.Release h = tt
  kind_now kind.Decline h = tt

  say_now : (say : Option Say6) → IfSome say (FitsSay Has) → IfSome say (FitsSay Now)
  say_now None h = tt
  say_now (Some say) h = record { xid = h.xid; elapsed = h.elapsed; pleads = kind_now say.kind h.pleads }

  pub step_now : (step : Step6) → FitsStep6 Has step → FitsStep6 Now step
  step_now step h = record { state = state_now step.state h.state; say = say_now step.say h.say }

-- while items are held nothing of it is asked for
pub holding_fits : (Has Now : Type 0) (state : State6) → holds state ≡ true → FitsState6 Has state → FitsState6 Now state
holding_fits Has Now Off held h = tt
holding_fits Has Now (Waiting due) held h = tt
holding_fits Has Now (Soliciting exchange offer) held h = absurd cc
holding_fits Has Now (Requesting exchange) held h = absurd cc
holding_fits Has Now Bound held h = tt
holding_fits Has Now (Renewing exchange) held h = h
holding_fits Has Now (Rebinding exchange) held h = h
holding_fits Has Now (Restarting exchange end since stands) held h = h
holding_fits Has Now (Declining exchange) held h = h

drawn_small : (last : Option ℕ) (xid : ℕ) → xid < 2 ^ 24 → other_than last xid < 2 ^ 24
drawn_small None xid h = h
drawn_small (Some last) xid h = gated (λ n. n < 2 ^ 24) (last == xid) ((xid + 1) % 2 ^ 24) xid (omega arith) h

elapsed_fits : (began at : ℕ) → elapsed began at < 2 ^ 16
elapsed_fits began at = omega arith

module _ (Has : Type 0) (turn : Turn6) where
  new_small : new_xid turn < 2 ^ 24
  new_small = drawn_small turn.last ((turn.salt / 2 ^ 32 + turn.site.iface.index.number) % 2 ^ 24) (omega arith)

  rests_fits : (state : State6) → FitsState6 Has state → FitsStep6 Has (rests turn state)
  rests_fits state fits = record { state = fits; say = tt }

  either : (b : Bool) (one other : Step6) → FitsStep6 Has one → FitsStep6 Has other → FitsStep6 Has (if b then one else other)
  either b one other h k = gated (FitsStep6 Has) b one other h k

  parting_fits : (parting : Parting6) (step : Step6) → FitsStep6 Has step → FitsStep6 Has (tells_parting parting step)
  parting_fits parting step h = gated (FitsStep6 Has) parting.goes _ _ (record { state = h.state; say = h.say }) h

  waiting_fits : FitsStep6 Has (to_waiting turn)
  waiting_fits = record { state = tt; say = tt }

  emptied_fits : (stands : Bool) → FitsStep6 Has (emptied turn stands)
  emptied_fits stands = either stands _ _ (record { state = tt; say = tt }) (record { state = tt; say = tt })

  restarting_fits : (parting : Parting6) (exchange : Exchange6) (end since : ℕ) (stands : Bool) → exchange.xid < 2 ^ 24
      → FitsStep6 Has (restarting_tick turn parting exchange end since stands)
  restarting_fits parting exchange end since stands h =
      either (is_last parting) _ _ (emptied_fits stands) (either (leb end turn.at) _ _ (record { state = tt; say = tt })
      (either (is_again_due turn exchange) _ _
      (record { state = h; say = record { xid = h; elapsed = elapsed_fits exchange.began turn.at; pleads = tt } })
      (record { state = h; say = tt })))

  requests_fits : Has → FitsStep6 Has (requests turn)
  requests_fits has =
      record { state = (new_small, has); say = record { xid = new_small; elapsed = elapsed_fits turn.at turn.at; pleads = has } }

  pub tick_fits : (dates : Dates6) (parting : Parting6) (state : State6) → FitsState6 Has state
      → FitsStep6 Has (tick_row turn dates parting state)
  tick_fits dates parting Off h = rests_fits Off tt
  tick_fits dates parting (Waiting due) h =
      record { state = (new_small, tt); say = record { xid = new_small; elapsed = elapsed_fits turn.at turn.at; pleads = tt } }
  tick_fits dates parting (Soliciting exchange None) h =
      record { state = (h.0, tt); say = record { xid = h.0; elapsed = elapsed_fits exchange.began turn.at; pleads = tt } }
  tick_fits dates parting (Soliciting exchange (Some preference)) h = requests_fits h.1
  tick_fits dates parting (Requesting exchange) h =
      either (is_used_up REQUEST exchange) _ _ waiting_fits
      (record { state = h; say = record { xid = h.0; elapsed = elapsed_fits exchange.began turn.at; pleads = h.1 } })
  tick_fits dates parting Bound h =
      parting_fits parting _ (either (is_last parting) _ _ (record { state = tt; say = tt })
      (either (is_due dates.t2 turn.at) _ _
      (record { state = new_small; say = record { xid = new_small; elapsed = elapsed_fits turn.at turn.at; pleads = tt } })
      (either (is_due dates.t1 turn.at) _ _
      (record { state = new_small; say = record { xid = new_small; elapsed = elapsed_fits turn.at turn.at; pleads = tt } })
      (record { state = tt; say = tt }))))
  tick_fits dates parting (Renewing exchange) h =
      parting_fits parting _ (either (is_last parting) _ _ (record { state = tt; say = tt })
      (either (is_due dates.t2 turn.at) _ _
      (record { state = new_small; say = record { xid = new_small; elapsed = elapsed_fits turn.at turn.at; pleads = tt } })
      (either (is_again_due turn exchange) _ _
      (record { state = h; say = record { xid = h; elapsed = elapsed_fits exchange.began turn.at; pleads = tt } })
      (record { state = h; say = tt }))))
  tick_fits dates parting (Rebinding exchange) h =
      parting_fits parting _ (either (is_last parting) _ _ (record { state = tt; say = tt })
      (either (is_again_due turn exchange) _ _
      (record { state = h; say = record { xid = h; elapsed = elapsed_fits exchange.began turn.at; pleads = tt } })
      (record { state = h; say = tt })))
  tick_fits dates parting (Restarting exchange end since true) h =
      parting_fits parting _ (restarting_fits parting exchange end since true h)
  tick_fits dates parting (Restarting exchange end since false) h = restarting_fits parting exchange end since false h
  tick_fits dates parting (Declining exchange) h =
      parting_fits parting _ (either (is_again_due turn exchange) _ _
      (either (is_used_up DECLINE exchange) _ _ (either parting.stays _ _ (record { state = tt; say = tt })
      (record { state = tt; say = tt }))
      (record { state = h; say = record { xid = h; elapsed = elapsed_fits exchange.began turn.at; pleads = tt } }))
      (record { state = h; say = tt }))

  replied_fits : (told : News6) (emptied : Step6) (state : State6) (a : Answer6) → FitsStep6 Has emptied → FitsState6 Has state
      → FitsStep6 Has (replied turn told emptied state a)
  replied_fits told emptied state answer.Grants e h = record { state = tt; say = tt }
  replied_fits told emptied state answer.Empties e h = e
  replied_fits told emptied state answer.Keeps e h = rests_fits state h
  replied_fits told emptied state answer.Nothing e h = rests_fits state h
  replied_fits told emptied state (answer.Offer preference) e h = rests_fits state h

  -- an offer that is kept is asked for
  offered_fits : (exchange : Exchange6) (offer : Option ℕ) (preference : ℕ) (at_once better : Bool) → ((at_once || better) ≡ true → Has)
      → FitsState6 Has (Soliciting exchange offer)
      → FitsStep6 Has (if at_once then requests turn
      else if better then rests turn (Soliciting exchange (Some preference))
      else rests turn (Soliciting exchange offer))
  offered_fits exchange offer preference true better has h = requests_fits (has refl)
  offered_fits exchange offer preference false true has h = record { state = (h.0, has refl); say = tt }
  offered_fits exchange offer preference false false has h = record { state = h; say = tt }

  pub heard_fits : (a : Answer6) (state : State6) → (is_kept_offer a state ≡ true → Has) → FitsState6 Has state
      → FitsStep6 Has (heard_row turn a state)
  heard_fits a Off has h = rests_fits Off tt
  heard_fits a (Waiting due) has h = rests_fits (Waiting due) tt
  heard_fits (answer.Offer preference) (Soliciting exchange offer) has h =
      offered_fits exchange offer preference (is_taken_at_once exchange preference) (is_better offer preference) has h
  heard_fits answer.Grants (Soliciting exchange offer) has h = record { state = tt; say = tt }
  heard_fits answer.Empties (Soliciting exchange offer) has h = waiting_fits
  heard_fits answer.Keeps (Soliciting exchange offer) has h = record { state = h; say = tt }
  heard_fits answer.Nothing (Soliciting exchange offer) has h = record { state = h; say = tt }
  heard_fits a (Requesting exchange) has h = replied_fits news.Bound (to_waiting turn) (Requesting exchange) a waiting_fits h
  heard_fits a Bound has h = rests_fits Bound tt
  heard_fits a (Renewing exchange) has h = replied_fits news.Renew (expires turn) (Renewing exchange) a
      (record { state = tt; say = tt }) h
  heard_fits a (Rebinding exchange) has h = replied_fits news.Rebind (expires turn) (Rebinding exchange) a
      (record { state = tt; say = tt }) h
  heard_fits a (Restarting exchange end since stands) has h = replied_fits news.Reboot (emptied turn stands)
      (Restarting exchange end since stands) a (emptied_fits stands) h
  heard_fits answer.Keeps (Declining exchange) has h = record { state = tt; say = tt }
  heard_fits answer.Empties (Declining exchange) has h = record { state = tt; say = tt }
  heard_fits answer.Grants (Declining exchange) has h = record { state = h; say = tt }
  heard_fits answer.Nothing (Declining exchange) has h = record { state = h; say = tt }
  heard_fits (answer.Offer preference) (Declining exchange) has h = record { state = h; say = tt }

  begins_fits : (stands : Bool) (parting : Parting6) → FitsStep6 Has (begins turn stands parting)
  begins_fits stands parting =
      gated (λ (step : Step6). FitsStep6 Has (record step { spends = true })) parting.stays _ _
      (record { state = new_small; say = record { xid = new_small; elapsed = elapsed_fits turn.at turn.at; pleads = tt } })
      (record { state = tt; say = tt })

  pub begin_fits : (stands : Bool) (parting : Parting6) (state : State6) → FitsState6 Has state
      → FitsStep6 Has (begin_row turn stands parting state)
  begin_fits stands parting Off h = begins_fits stands parting
  begin_fits stands parting (Waiting due) h = rests_fits (Waiting due) h
  begin_fits stands parting (Soliciting exchange offer) h = rests_fits (Soliciting exchange offer) h
  begin_fits stands parting (Requesting exchange) h = rests_fits (Requesting exchange) h
  begin_fits stands parting Bound h = rests_fits Bound h
  begin_fits stands parting (Renewing exchange) h = rests_fits (Renewing exchange) h
  begin_fits stands parting (Rebinding exchange) h = rests_fits (Rebinding exchange) h
  begin_fits stands parting (Restarting exchange end since stood) h = rests_fits (Restarting exchange end since stood) h
  begin_fits stands parting (Declining exchange) h = rests_fits (Declining exchange) h

  pub rebind_fits : (parting : Parting6) (state : State6) → FitsState6 Has state → FitsStep6 Has (rebind_row turn parting state)
  rebind_fits parting Off h = begins_fits false parting
  rebind_fits parting (Waiting due) h = rests_fits (Waiting due) h
  rebind_fits parting (Soliciting exchange offer) h = rests_fits (Soliciting exchange offer) h
  rebind_fits parting (Requesting exchange) h = rests_fits (Requesting exchange) h
  rebind_fits parting Bound h =
      record { state = new_small; say = record { xid = new_small; elapsed = elapsed_fits turn.at turn.at; pleads = tt } }
  rebind_fits parting (Renewing exchange) h =
      record { state = new_small; say = record { xid = new_small; elapsed = elapsed_fits turn.at turn.at; pleads = tt } }
  rebind_fits parting (Rebinding exchange) h = rests_fits (Rebinding exchange) h
  rebind_fits parting (Restarting exchange end since stands) h = rests_fits (Restarting exchange end since stands) h
  rebind_fits parting (Declining exchange) h = rests_fits (Declining exchange) h

  pub off_fits : FitsStep6 Has (off_row turn)
  off_fits = record { state = tt; say = tt }

  contested_fits : (parting : Parting6) (state : State6) → FitsState6 Has state → FitsStep6 Has (contested turn parting state)
  contested_fits parting state h =
      either parting.goes _ _
      (record { state = new_small; say = record { xid = new_small; elapsed = elapsed_fits turn.at turn.at; pleads = tt } })
      (rests_fits state h)

  pub duplicate_fits : (parting : Parting6) (state : State6) → FitsState6 Has state → FitsStep6 Has (duplicate_row turn parting state)
  duplicate_fits parting Off h = rests_fits Off h
  duplicate_fits parting (Waiting due) h = rests_fits (Waiting due) h
  duplicate_fits parting (Soliciting exchange offer) h = rests_fits (Soliciting exchange offer) h
  duplicate_fits parting (Requesting exchange) h = rests_fits (Requesting exchange) h
  duplicate_fits parting Bound h = contested_fits parting Bound h
  duplicate_fits parting (Renewing exchange) h = contested_fits parting (Renewing exchange) h
  duplicate_fits parting (Rebinding exchange) h = contested_fits parting (Rebinding exchange) h
  duplicate_fits parting (Restarting exchange end since true) h =
      parting_fits parting _ (either (is_last parting) _ _ (record { state = tt; say = tt })
      (rests_fits (Restarting exchange end since true) h))
  duplicate_fits parting (Restarting exchange end since false) h = rests_fits (Restarting exchange end since false) h
  duplicate_fits parting (Declining exchange) h = contested_fits parting (Declining exchange) h

  stops_fits : (tell : Tell6) → FitsStep6 Has (stops turn tell)
  stops_fits Server = record { state = tt; say = record { xid = new_small; elapsed = lit< tt; pleads = tt } }
  stops_fits Nobody = record { state = tt; say = tt }

  released_fits : (tell : Tell6) (held : Bool) → FitsStep6 Has (released turn tell held)
  released_fits tell held = either held _ _ (stops_fits tell) off_fits

  pub release_fits : (tell : Tell6) (held : Bool) (state : State6) → FitsStep6 Has (release_row turn tell held state)
  release_fits tell held Off = off_fits
  release_fits tell held (Waiting due) = off_fits
  release_fits tell held (Soliciting exchange offer) = off_fits
  release_fits tell held (Requesting exchange) = off_fits
  release_fits tell held Bound = released_fits tell held
  release_fits tell held (Renewing exchange) = released_fits tell held
  release_fits tell held (Rebinding exchange) = released_fits tell held
  release_fits tell held (Restarting exchange end since true) = released_fits tell held
  release_fits tell held (Restarting exchange end since false) = off_fits
  release_fits tell held (Declining exchange) = released_fits tell held

-- ---- the message of a step

own_bytes : (bytes : List ℕ) → bytes_eq bytes bytes ≡ true
own_bytes bytes = (bytes_eq-Decides bytes bytes).1 refl

module _ (site : Site) (mac : FitsMac site.managed.spec.mac) (duid : length site.duid ≤ 130)
    (asks : AllByRecursion FitsAsk6 (asks_at site)) where
  pub say_fits : (s : Scope6) (kept : Option Lease6Content) (plea : Option PleaContent) (say : Option Say6)
      → IfSome kept FitsKept → IfSome plea FitsPlea → IfSome plea (IsAsked (asks_at site))
      → IfSome say (FitsSay (is_some plea ≡ true))
      → IfSome (option_map (sent_from site.managed.spec.mac site.duid)
      (option_map (spoken_by site.managed.conf.dhcp6.rapid s (asks_at site) kept plea) say)) (FitsOwn site)
  say_fits s kept plea None kept_fits plea_fits asked fits = tt
  say_fits s kept plea (Some say) kept_fits plea_fits asked fits = record {
    fits = record {
      mac = mac;
      said = record {
        xid = fits.xid;
        client = duid;
        server = server_short kept plea kept_fits plea_fits say.kind;
        elapsed = fits.elapsed;
        ias = said_asked kept plea kept_fits plea_fits say.kind s (asks_at site) asks;
      };
    };
    own = and_from _ _ (and_from _ _ (own_bytes site.managed.spec.mac.bytes) (own_bytes site.duid))
        (said_own site.managed site.duid s kept plea say asked fits.pleads);
  }

-- ---- what a client has after a step

pub plea_stays : (state : State6) (plea : Option PleaContent) → IfSome plea FitsPlea → IfSome (plea_after state plea) FitsPlea
plea_stays state plea fits = gated (λ (p : Option PleaContent). IfSome p FitsPlea) (pleads state) _ _ fits tt

pub kept_stays_fit : (keep : Keep6) (fresh kept : Option Lease6Content) → IfSome fresh FitsKept → IfSome kept FitsKept
    → IfSome (kept_after keep fresh kept) FitsKept
kept_stays_fit Stays fresh kept new old = old
kept_stays_fit Clears fresh kept new old = tt
kept_stays_fit Takes fresh kept new old = new

pub plea_stays_asked : (asks : List IaAsk) (state : State6) (plea : Option PleaContent) → IfSome plea (IsAsked asks)
    → IfSome (plea_after state plea) (IsAsked asks)
plea_stays_asked asks state plea asked = gated (λ (p : Option PleaContent). IfSome p (IsAsked asks)) (pleads state) _ _ asked tt

-- what is asked for stays as long as it is
pub state_stays : (state : State6) (plea : Option PleaContent) → FitsState6 (is_some plea ≡ true) state
    → FitsState6 (is_some (plea_after state plea) ≡ true) state
state_stays Off plea h = tt
state_stays (Waiting due) plea h = tt
state_stays (Soliciting exchange offer) plea h = h
state_stays (Requesting exchange) plea h = h
state_stays Bound plea h = tt
state_stays (Renewing exchange) plea h = h
state_stays (Rebinding exchange) plea h = h
state_stays (Restarting exchange end since stands) plea h = h
state_stays (Declining exchange) plea h = h
