-- What each row of the table makes of the items that are held: one walk over the states for each input. What holds of the calls
-- follows from it.
use Rattle.std.proofs.Common.{◌≡◌, ℕ, Bool, true, false, cond, ◌&&◌, Option, Some, None, is_some, refl, sym, ap, ◌∙◌, leb}
use Rattle.machine.specs.Moment.{is_due}
use Rattle.net_types.proofs.CaseLaws.{gated, split}
use Rattle.v6_retrans.specs.declared.parameters.TheConstants.{REQUEST, DECLINE}
use Rattle.lease6_text.specs.Leases.{Lease6Content}
use Rattle.v6_client.specs.declared.exchange.Exchange6.{Exchange6}
use Rattle.v6_client.specs.declared.states.Answer6.{Answer6}
use Rattle.v6_client.specs.declared.states.Answer6.TheVariants as answer
use Rattle.v6_items.specs.declared.scope.Dates6.{Dates6}
use Rattle.v6_client.specs.declared.states.Keep6.TheVariants.{Stays, Clears, Takes}
use Rattle.v6_client.specs.declared.states.News6.{News6}
use Rattle.v6_client.specs.declared.states.News6.TheVariants as news
use Rattle.v6_items.specs.declared.scope.Parting6.{Parting6}
use Rattle.v6_client.specs.declared.states.State6.{State6}
use Rattle.v6_client.specs.declared.states.State6.TheVariants.{Off, Waiting, Soliciting, Requesting, Bound, Renewing, Rebinding, Restarting, Declining}
use Rattle.v6_client.specs.declared.states.Step6.{Step6}
use Rattle.v6_client.specs.declared.states.Tell6.{Tell6}
use Rattle.v6_client.specs.declared.states.Tell6.TheVariants.{Server, Nobody}
use Rattle.v6_client.specs.declared.turn.Turn6.{Turn6}
use Rattle.v6_client.specs.Clients.{holds, is_at_end, is_off}
use Rattle.v6_client.specs.Exchanges.{is_again_due, is_used_up}
use Rattle.v6_client.specs.Hearing.{declined, heard_row, is_better, is_taken_at_once, replied, solicited}
use Rattle.v6_client.specs.Inputs.{begin_row, duplicate_row, rebind_row, release_row}
use Rattle.v6_client.specs.Steps.{emptied, expires, is_last, news_or_changed, tells_parting, to_waiting, unanswered}
use Rattle.v6_client.specs.Ticks.{restarting_tick, tick_row}

abbrev pub held_in : State6 → Option Lease6Content → Option Lease6Content
held_in state kept = cond (holds state) kept None

-- the kept lease stays, and is held as it was
pub record Leaves (kept : Option Lease6Content) (state : State6) (step : Step6) : Type 0 where
  pub same : step.keep ≡ Stays
  pub held : held_in step.state kept ≡ held_in state kept

abbrev pub IsTold : Step6 → Type 0
IsTold step = step.news ≡ news.Nothing → ⊥

-- a step without news leaves the leases, and after one that takes no lease items are held only where they were
pub record RowFacts (kept : Option Lease6Content) (state : State6) (step : Step6) : Type 0 where
  pub quiet : step.news ≡ news.Nothing → Leaves kept state step
  pub starts : holds step.state ≡ true → step.keep ≡ Stays → holds state ≡ true

-- ---- truth values

both_true : (b : Bool) → b ≡ false → b ≡ true → ⊥
both_true true f t = cc
both_true false f t = cc

unheld : (b goes : Bool) → b ≡ false → (b && goes) ≡ true → ⊥
unheld true goes f both = cc
unheld false goes f both = cc

never_both : (b : Bool) → (b && false) ≡ true → ⊥
never_both true both = cc
never_both false both = cc

goes_alone : (b : Bool) → (b && true) ≡ false → b ≡ false
goes_alone true e = e
goes_alone false e = refl

last_stays : (stay : Bool) → is_last (record { goes = true; stays = stay }) ≡ true → stay ≡ false
last_stays true e = absurd cc
last_stays false e = refl

-- ---- forms of steps

-- the client holds what it held, whatever it says
stays : {kept : Option Lease6Content} {state : State6} {step : Step6} → step.keep ≡ Stays → held_in step.state kept ≡ held_in state kept
    → (holds step.state ≡ true → holds state ≡ true) → RowFacts kept state step
stays same held starts = record { quiet = λ e. record { same = same; held = held }; starts = λ h k. starts h }

-- it takes a lease
takes : {kept : Option Lease6Content} {state : State6} {step : Step6} → step.keep ≡ Takes → IsTold step → RowFacts kept state step
takes is told = record { quiet = λ e. absurd (told e); starts = λ h k. absurd (let never = k in cc) }

-- it tells so, and holds none afterwards
ends : {kept : Option Lease6Content} {state : State6} {step : Step6} → IsTold step → holds step.state ≡ false → RowFacts kept state step
ends {step = step} told none =
    record { quiet = λ e. absurd (told e); starts = λ h k. absurd (both_true (holds step.state) none h) }

-- it tells that items went
tells : {kept : Option Lease6Content} {state : State6} {step : Step6} → IsTold step → (holds step.state ≡ true → holds state ≡ true)
    → RowFacts kept state step
tells told starts = record { quiet = λ e. absurd (told e); starts = λ h k. starts h }

-- ---- a message

-- a Reply: its items are held, or none is left
replied_facts : (turn : Turn6) (told : News6) (emptied : Step6) (kept : Option Lease6Content) (state : State6) (a : Answer6)
    → (told ≡ news.Nothing → ⊥) → RowFacts kept state emptied → RowFacts kept state (replied turn told emptied state a)
replied_facts turn told emptied kept state answer.Grants is_news gone = takes refl is_news
replied_facts turn told emptied kept state answer.Empties is_news gone = gone
replied_facts turn told emptied kept state answer.Keeps is_news gone = stays refl refl (λ h. h)
replied_facts turn told emptied kept state answer.Nothing is_news gone = stays refl refl (λ h. h)
replied_facts turn told emptied kept state (answer.Offer preference) is_news gone = stays refl refl (λ h. h)

solicited_facts : (turn : Turn6) (exchange : Exchange6) (offer : Option ℕ) (kept : Option Lease6Content) (a : Answer6)
    → RowFacts kept (Soliciting exchange offer) (solicited turn exchange offer a)
solicited_facts turn exchange offer kept (answer.Offer preference) =
    gated (RowFacts kept (Soliciting exchange offer)) (is_taken_at_once exchange preference) _ _ (stays refl refl (λ h. h))
    (gated (RowFacts kept (Soliciting exchange offer)) (is_better offer preference) _ _ (stays refl refl (λ h. h)) (stays refl refl (λ h. h)))
solicited_facts turn exchange offer kept answer.Grants = takes refl (λ e. cc)
solicited_facts turn exchange offer kept answer.Empties = stays refl refl (λ h. h)
solicited_facts turn exchange offer kept answer.Keeps = stays refl refl (λ h. h)
solicited_facts turn exchange offer kept answer.Nothing = stays refl refl (λ h. h)

declined_facts : (turn : Turn6) (exchange : Exchange6) (kept : Option Lease6Content) (a : Answer6)
    → RowFacts kept (Declining exchange) (declined turn (Declining exchange) a)
declined_facts turn exchange kept answer.Empties = ends (λ e. cc) refl
declined_facts turn exchange kept answer.Grants = stays refl refl (λ h. h)
declined_facts turn exchange kept answer.Keeps = stays refl refl (λ h. h)
declined_facts turn exchange kept answer.Nothing = stays refl refl (λ h. h)
declined_facts turn exchange kept (answer.Offer preference) = stays refl refl (λ h. h)

-- no item of a restart is left
emptied_facts : (turn : Turn6) (stands : Bool) (kept : Option Lease6Content) (state : State6) → RowFacts kept state (emptied turn stands)
emptied_facts turn stands kept state = gated (RowFacts kept state) stands _ _ (ends (λ e. cc) refl) (ends (λ e. cc) refl)

pub heard_facts : (turn : Turn6) (a : Answer6) (kept : Option Lease6Content) (state : State6) → RowFacts kept state (heard_row turn a state)
heard_facts turn a kept Off = stays refl refl (λ h. h)
heard_facts turn a kept (Waiting due) = stays refl refl (λ h. h)
heard_facts turn a kept (Soliciting exchange offer) = solicited_facts turn exchange offer kept a
heard_facts turn a kept (Requesting exchange) =
    replied_facts turn news.Bound (to_waiting turn) kept (Requesting exchange) a (λ e. cc) (stays refl refl (λ h. h))
heard_facts turn a kept Bound = stays refl refl (λ h. h)
heard_facts turn a kept (Renewing exchange) =
    replied_facts turn news.Renew (expires turn) kept (Renewing exchange) a (λ e. cc) (ends (λ e. cc) refl)
heard_facts turn a kept (Rebinding exchange) =
    replied_facts turn news.Rebind (expires turn) kept (Rebinding exchange) a (λ e. cc) (ends (λ e. cc) refl)
heard_facts turn a kept (Restarting exchange end since stands) =
    replied_facts turn news.Reboot (emptied turn stands) kept (Restarting exchange end since stands) a (λ e. cc)
    (emptied_facts turn stands kept (Restarting exchange end since stands))
heard_facts turn a kept (Declining exchange) = declined_facts turn exchange kept a

-- ---- the other inputs

-- an address that goes is told
pub record GivingFacts (parting : Parting6) (kept : Option Lease6Content) (state : State6) (step : Step6) : Type 0 where
  pub told : (holds state && parting.goes) ≡ true → IsTold step
  pub row : RowFacts kept state step

gives_none : {parting : Parting6} {kept : Option Lease6Content} {state : State6} {step : Step6} → (holds state && parting.goes) ≡ false
    → RowFacts kept state step → GivingFacts parting kept state step
gives_none {parting} {kept} {state} none row =
    record { told = λ both. absurd (both_true (holds state && parting.goes) none both); row = row }

duplicate_by : (turn : Turn6) (goes stay : Bool) (kept : Option Lease6Content) (state : State6)
    → GivingFacts (record { goes = goes; stays = stay }) kept state (duplicate_row turn (record { goes = goes; stays = stay }) state)
duplicate_by turn goes stay kept Off = gives_none refl (stays refl refl (λ h. h))
duplicate_by turn goes stay kept (Waiting due) = gives_none refl (stays refl refl (λ h. h))
duplicate_by turn goes stay kept (Soliciting exchange offer) = gives_none refl (stays refl refl (λ h. h))
duplicate_by turn goes stay kept (Requesting exchange) = gives_none refl (stays refl refl (λ h. h))
duplicate_by turn true stay kept Bound = record { told = λ both e. cc; row = tells (λ e. cc) (λ h. refl) }
duplicate_by turn false stay kept Bound = gives_none refl (stays refl refl (λ h. h))
duplicate_by turn true stay kept (Renewing exchange) = record { told = λ both e. cc; row = tells (λ e. cc) (λ h. refl) }
duplicate_by turn false stay kept (Renewing exchange) = gives_none refl (stays refl refl (λ h. h))
duplicate_by turn true stay kept (Rebinding exchange) = record { told = λ both e. cc; row = tells (λ e. cc) (λ h. refl) }
duplicate_by turn false stay kept (Rebinding exchange) = gives_none refl (stays refl refl (λ h. h))
duplicate_by turn true true kept (Restarting exchange end since true) = record { told = λ both e. cc; row = tells (λ e. cc) (λ h. refl) }
duplicate_by turn true false kept (Restarting exchange end since true) = record { told = λ both e. cc; row = ends (λ e. cc) refl }
duplicate_by turn false stay kept (Restarting exchange end since true) = gives_none refl (stays refl refl (λ h. h))
duplicate_by turn goes stay kept (Restarting exchange end since false) = gives_none refl (stays refl refl (λ h. h))
duplicate_by turn true stay kept (Declining exchange) = record { told = λ both e. cc; row = tells (λ e. cc) (λ h. refl) }
duplicate_by turn false stay kept (Declining exchange) = gives_none refl (stays refl refl (λ h. h))

pub duplicate_facts : (turn : Turn6) (parting : Parting6) (kept : Option Lease6Content) (state : State6)
    → GivingFacts parting kept state (duplicate_row turn parting state)
duplicate_facts turn parting kept state = duplicate_by turn parting.goes parting.stays kept state

-- a client that doesn't stand on its lease
abbrev Spent : Option Lease6Content → Step6 → Type 0
Spent kept step = RowFacts kept Off (record step { spends = true })

pub begin_facts : (turn : Turn6) (parting : Parting6) (kept : Option Lease6Content) (state : State6)
    → RowFacts kept state (begin_row turn false parting state)
begin_facts turn parting kept Off = gated (Spent kept) parting.stays _ _ (stays refl refl (λ h. h)) (stays refl refl (λ h. h))
begin_facts turn parting kept (Waiting due) = stays refl refl (λ h. h)
begin_facts turn parting kept (Soliciting exchange offer) = stays refl refl (λ h. h)
begin_facts turn parting kept (Requesting exchange) = stays refl refl (λ h. h)
begin_facts turn parting kept Bound = stays refl refl (λ h. h)
begin_facts turn parting kept (Renewing exchange) = stays refl refl (λ h. h)
begin_facts turn parting kept (Rebinding exchange) = stays refl refl (λ h. h)
begin_facts turn parting kept (Restarting exchange end since stands) = stays refl refl (λ h. h)
begin_facts turn parting kept (Declining exchange) = stays refl refl (λ h. h)

-- a client that stands on it tells so
stood_by : (turn : Turn6) (goes stay : Bool) (state : State6) → is_off state ≡ true → stay ≡ true
    → IsTold (begin_row turn true (record { goes = goes; stays = stay }) state)
stood_by turn goes true Off off e = λ n. cc
stood_by turn goes false Off off e = absurd cc
stood_by turn goes stay (Waiting due) off e = absurd cc
stood_by turn goes stay (Soliciting exchange offer) off e = absurd cc
stood_by turn goes stay (Requesting exchange) off e = absurd cc
stood_by turn goes stay Bound off e = absurd cc
stood_by turn goes stay (Renewing exchange) off e = absurd cc
stood_by turn goes stay (Rebinding exchange) off e = absurd cc
stood_by turn goes stay (Restarting exchange end since stands) off e = absurd cc
stood_by turn goes stay (Declining exchange) off e = absurd cc

pub stood_tells : (turn : Turn6) (parting : Parting6) (state : State6) → is_off state ≡ true → parting.stays ≡ true
    → IsTold (begin_row turn true parting state)
stood_tells turn parting state off e = stood_by turn parting.goes parting.stays state off e

pub rebind_facts : (turn : Turn6) (parting : Parting6) (kept : Option Lease6Content) (state : State6)
    → RowFacts kept state (rebind_row turn parting state)
rebind_facts turn parting kept Off = gated (Spent kept) parting.stays _ _ (stays refl refl (λ h. h)) (stays refl refl (λ h. h))
rebind_facts turn parting kept (Waiting due) = stays refl refl (λ h. h)
rebind_facts turn parting kept (Soliciting exchange offer) = stays refl refl (λ h. h)
rebind_facts turn parting kept (Requesting exchange) = stays refl refl (λ h. h)
rebind_facts turn parting kept Bound = stays refl refl (λ h. h)
rebind_facts turn parting kept (Renewing exchange) = stays refl refl (λ h. h)
rebind_facts turn parting kept (Rebinding exchange) = stays refl refl (λ h. h)
rebind_facts turn parting kept (Restarting exchange end since stands) = stays refl refl (λ h. h)
rebind_facts turn parting kept (Declining exchange) = stays refl refl (λ h. h)

-- where none is kept none is held in any state
released_facts : (turn : Turn6) (tell : Tell6) (kept : Option Lease6Content) (state : State6) → held_in state None ≡ None
    → RowFacts kept state (release_row turn tell (is_some kept) Bound)
released_facts turn Server (Some lease) state none = ends (λ e. cc) refl
released_facts turn Nobody (Some lease) state none = ends (λ e. cc) refl
released_facts turn tell None state none = stays refl (sym none) (λ h. absurd cc)

pub release_facts : (turn : Turn6) (tell : Tell6) (kept : Option Lease6Content) (state : State6)
    → RowFacts kept state (release_row turn tell (is_some kept) state)
release_facts turn tell kept Off = stays refl refl (λ h. absurd cc)
release_facts turn tell kept (Waiting due) = stays refl refl (λ h. absurd cc)
release_facts turn tell kept (Soliciting exchange offer) = stays refl refl (λ h. absurd cc)
release_facts turn tell kept (Requesting exchange) = stays refl refl (λ h. absurd cc)
release_facts turn tell kept Bound = released_facts turn tell kept Bound refl
release_facts turn tell kept (Renewing exchange) = released_facts turn tell kept (Renewing exchange) refl
release_facts turn tell kept (Rebinding exchange) = released_facts turn tell kept (Rebinding exchange) refl
release_facts turn tell kept (Restarting exchange end since true) =
    released_facts turn tell kept (Restarting exchange end since true) refl
release_facts turn tell kept (Restarting exchange end since false) = stays refl refl (λ h. absurd cc)
release_facts turn tell kept (Declining exchange) = released_facts turn tell kept (Declining exchange) refl

-- ---- a tick

-- Items that go are told; without news the leases stay. None is held anew, and where the last one goes none is held, or none is kept.
pub record TickFacts (parting : Parting6) (kept : Option Lease6Content) (state : State6) (step : Step6) : Type 0 where
  pub told : (holds state && parting.goes) ≡ true → IsTold step
  pub quiet : (holds state && parting.goes) ≡ false → step.news ≡ news.Nothing → Leaves kept state step
  pub none : holds state ≡ false → holds step.state ≡ false
  pub ends : is_last parting ≡ true → holds step.state ≡ true → step.keep ≡ Clears

changed_is_news : (told : News6) → news_or_changed told ≡ news.Nothing → ⊥
changed_is_news news.Nothing e = cc
changed_is_news news.Bound e = cc
changed_is_news news.Reboot e = cc
changed_is_news news.Renew e = cc
changed_is_news news.Rebind e = cc
changed_is_news news.Changed e = cc
changed_is_news news.Expire e = cc
changed_is_news news.Stop e = cc

-- none is held before, and none afterwards
idle : {parting : Parting6} {kept : Option Lease6Content} {state : State6} {step : Step6} → holds state ≡ false → holds step.state ≡ false
    → (step.news ≡ news.Nothing → step.keep ≡ Stays) → TickFacts parting kept state step
idle {parting} {kept} {state} {step} before after same = record {
  told = λ both. absurd (unheld (holds state) parting.goes before both);
  quiet = λ none e. record {
    same = same e;
    held = ap (λ b. cond b kept None) after ∙ sym (ap (λ b. cond b kept None) before);
  };
  none = λ h. after;
  ends = λ last held. absurd (both_true (holds step.state) after held);
}

-- items are held on, and none goes
still : {stay : Bool} {kept : Option Lease6Content} {state : State6} {step : Step6} → holds state ≡ true
    → (step.news ≡ news.Nothing → Leaves kept state step) → TickFacts (record { goes = false; stays = stay }) kept state step
still {stay} {kept} {state} held quiet = record {
  told = λ both. absurd (never_both (holds state) both);
  quiet = λ none. quiet;
  none = λ h. absurd (both_true (holds state) h held);
  ends = λ last. absurd cc;
}

-- some items go
going : {stay : Bool} {kept : Option Lease6Content} {state : State6} (step : Step6) → holds state ≡ true
    → (stay ≡ false → holds step.state ≡ true → step.keep ≡ Clears)
    → TickFacts (record { goes = true; stays = stay }) kept state (tells_parting (record { goes = true; stays = stay }) step)
going {stay} {kept} {state} step held ends = record {
  told = λ both. changed_is_news step.news;
  quiet = λ none. absurd (both_true (holds state) (goes_alone (holds state) none) held);
  none = λ h. absurd (both_true (holds state) h held);
  ends = λ last. ends (last_stays stay last);
}

-- a step that rests or speaks, where items are held
held_on : {kept : Option Lease6Content} {state : State6} {step : Step6} → step.keep ≡ Stays → held_in step.state kept ≡ held_in state kept
    → step.news ≡ news.Nothing → Leaves kept state step
held_on same held e = record { same = same; held = held }

-- none is held afterwards, or none is kept
abbrev EndsHeld : Step6 → Type 0
EndsHeld step = holds step.state ≡ true → step.keep ≡ Clears

module _ (turn : Turn6) (dates : Dates6) (kept : Option Lease6Content) where
  abbrev row : Bool → Bool → State6 → Step6
  row goes stay state = tick_row turn dates (record { goes = goes; stays = stay }) state

  abbrev Ticked : Bool → Bool → State6 → Step6 → Type 0
  Ticked goes stay state step = TickFacts (record { goes = goes; stays = stay }) kept state step

  bound_facts : (goes stay : Bool) → Ticked goes stay Bound (row goes stay Bound)
  bound_facts true true = going _ refl (λ s. absurd cc)
  bound_facts true false = going (expires turn) refl (λ s h. absurd cc)
  bound_facts false stay =
      gated (Ticked false stay Bound) (is_due dates.t2 turn.at) _ _ (still refl (held_on refl refl))
      (gated (Ticked false stay Bound) (is_due dates.t1 turn.at) _ _ (still refl (held_on refl refl)) (still refl (held_on refl refl)))

  renewing_facts : (goes stay : Bool) (exchange : Exchange6) → Ticked goes stay (Renewing exchange) (row goes stay (Renewing exchange))
  renewing_facts true true exchange = going _ refl (λ s. absurd cc)
  renewing_facts true false exchange = going (expires turn) refl (λ s h. absurd cc)
  renewing_facts false stay exchange =
      gated (Ticked false stay (Renewing exchange)) (is_due dates.t2 turn.at) _ _ (still refl (held_on refl refl))
      (gated (Ticked false stay (Renewing exchange)) (is_again_due turn exchange) _ _ (still refl (held_on refl refl))
      (still refl (held_on refl refl)))

  rebinding_facts : (goes stay : Bool) (exchange : Exchange6) → Ticked goes stay (Rebinding exchange) (row goes stay (Rebinding exchange))
  rebinding_facts true true exchange = going _ refl (λ s. absurd cc)
  rebinding_facts true false exchange = going (expires turn) refl (λ s h. absurd cc)
  rebinding_facts false stay exchange =
      gated (Ticked false stay (Rebinding exchange)) (is_again_due turn exchange) _ _ (still refl (held_on refl refl))
      (still refl (held_on refl refl))

  restarting_facts : (goes stay : Bool) (exchange : Exchange6) (end since : ℕ)
      → Ticked goes stay (Restarting exchange end since false) (row goes stay (Restarting exchange end since false))
  restarting_facts goes stay exchange end since =
      let state : State6 = Restarting exchange end since false in
      gated (Ticked goes stay state) (is_last (record { goes = goes; stays = stay })) _ _
      (idle refl refl (λ e. absurd cc))
      (gated (Ticked goes stay state) (leb end turn.at) _ _ (idle refl refl (λ e. refl))
      (gated (Ticked goes stay state) (is_again_due turn exchange) _ _ (idle refl refl (λ e. refl))
      (idle refl refl (λ e. refl))))

  standing_facts : (goes stay : Bool) (exchange : Exchange6) (end since : ℕ)
      → Ticked goes stay (Restarting exchange end since true) (row goes stay (Restarting exchange end since true))
  standing_facts true true exchange end since = going _ refl (λ s. absurd cc)
  standing_facts true false exchange end since = going (expires turn) refl (λ s h. absurd cc)
  standing_facts false stay exchange end since =
      let state : State6 = Restarting exchange end since true in
      gated (Ticked false stay state) (leb end turn.at) _ _ (still refl (λ e. absurd cc))
      (gated (Ticked false stay state) (is_again_due turn exchange) _ _ (still refl (held_on refl refl))
      (still refl (held_on refl refl)))

  declining_facts : (goes stay : Bool) (exchange : Exchange6) → Ticked goes stay (Declining exchange) (row goes stay (Declining exchange))
  declining_facts true true exchange = going _ refl (λ s. absurd cc)
  declining_facts true false exchange =
      going _ refl (λ s. gated EndsHeld (is_again_due turn exchange) _ _
      (gated EndsHeld (is_used_up DECLINE exchange) _ _ (λ h. absurd cc) (λ h. refl)) (λ h. refl))
  declining_facts false stay exchange =
      gated (Ticked false stay (Declining exchange)) (is_again_due turn exchange) _ _
      (gated (Ticked false stay (Declining exchange)) (is_used_up DECLINE exchange) _ _
      (gated (Ticked false stay (Declining exchange)) stay _ _ (still refl (held_on refl refl)) (still refl (λ e. absurd cc)))
      (still refl (held_on refl refl)))
      (still refl (held_on refl refl))

  facts : (goes stay : Bool) (state : State6) → Ticked goes stay state (row goes stay state)
  facts goes stay Off = idle refl refl (λ e. refl)
  facts goes stay (Waiting due) = idle refl refl (λ e. refl)
  facts goes stay (Soliciting exchange None) = idle refl refl (λ e. refl)
  facts goes stay (Soliciting exchange (Some preference)) = idle refl refl (λ e. refl)
  facts goes stay (Requesting exchange) =
      gated (Ticked goes stay (Requesting exchange)) (is_used_up REQUEST exchange) _ _ (idle refl refl (λ e. refl))
      (idle refl refl (λ e. refl))
  facts goes stay Bound = bound_facts goes stay
  facts goes stay (Renewing exchange) = renewing_facts goes stay exchange
  facts goes stay (Rebinding exchange) = rebinding_facts goes stay exchange
  facts goes stay (Restarting exchange end since true) = standing_facts goes stay exchange end since
  facts goes stay (Restarting exchange end since false) = restarting_facts goes stay exchange end since
  facts goes stay (Declining exchange) = declining_facts goes stay exchange

  pub tick_facts : (parting : Parting6) (state : State6) → TickFacts parting kept state (tick_row turn dates parting state)
  tick_facts parting state = facts parting.goes parting.stays state

-- ---- the end of a restart

-- the first of two arms
first_arm : (P : Step6 → Type 0) (b : Bool) (one other : Step6) → b ≡ true → P one → P (cond b one other)
first_arm P true one other e p = p
first_arm P false one other e p = absurd cc

abbrev HoldsNone : Step6 → Type 0
HoldsNone step = holds step.state ≡ false

-- no item is held afterwards
ended_holds : (turn : Turn6) (parting : Parting6) (exchange : Exchange6) (end since : ℕ) → leb end turn.at ≡ true
    → HoldsNone (restarting_tick turn parting exchange end since true)
ended_holds turn parting exchange end since e =
    gated HoldsNone (is_last parting) (emptied turn true) _ refl (first_arm HoldsNone (leb end turn.at) (unanswered turn true) _ e refl)

told_holds : (parting : Parting6) (step : Step6) → HoldsNone step → HoldsNone (tells_parting parting step)
told_holds parting step none = gated HoldsNone parting.goes (record step { news = news_or_changed step.news }) step none none

-- where items are held after a tick, no restart was at its end
pub ticks_before_end : (turn : Turn6) (dates : Dates6) (parting : Parting6) (state : State6)
    → holds (tick_row turn dates parting state).state ≡ true → is_at_end turn.at state ≡ false
ticks_before_end turn dates parting Off h = refl
ticks_before_end turn dates parting (Waiting due) h = refl
ticks_before_end turn dates parting (Soliciting exchange offer) h = refl
ticks_before_end turn dates parting (Requesting exchange) h = refl
ticks_before_end turn dates parting Bound h = refl
ticks_before_end turn dates parting (Renewing exchange) h = refl
ticks_before_end turn dates parting (Rebinding exchange) h = refl
ticks_before_end turn dates parting (Restarting exchange end since true) h =
    split (leb end turn.at)
    (λ e. absurd (both_true _ (told_holds parting (restarting_tick turn parting exchange end since true)
    (ended_holds turn parting exchange end since e)) h))
    (λ e. e)
ticks_before_end turn dates parting (Restarting exchange end since false) h =
    absurd (both_true _ ((tick_facts turn dates None parting (Restarting exchange end since false)).none refl) h)
ticks_before_end turn dates parting (Declining exchange) h = refl
