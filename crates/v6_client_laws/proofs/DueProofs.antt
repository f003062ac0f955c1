-- The client asks to be woken at the first moment at which a row of its table fits.
use Rattle.std.proofs.Common.{◌≡◌, ℕ, ◌≤◌, ◌⊎◌, inl, inr, Bool, true, false, not, cond, ◌&&◌, List, [], filter, min, Option, Some, None, refl, arith, leb}
use Rattle.std.specs.Bool.{Decides}
use Rattle.std.specs.List.{Contains, list_any}
use Rattle.std.proofs.lemmas.Bool.{and_parts, false_from_ne_true}
use Rattle.std.proofs.lemmas.Bool.Decides.{Decides-not}
use Rattle.machine.specs.Moment.{is_due}
use Rattle.lease6_text.specs.declared.lease.Item6.{Item6}
use Rattle.lease6_text.specs.Leases.{IaLeaseContent, Lease6Content}
use Rattle.v6_client.specs.declared.exchange.Exchange6.{Exchange6}
use Rattle.v6_items.specs.declared.asks.IaAsk.{IaAsk}
use Rattle.v6_items.specs.declared.scope.Cause6.TheVariants.{Lapse}
use Rattle.v6_items.specs.declared.scope.Dates6.{Dates6}
use Rattle.v6_client.specs.declared.states.Keep6.TheVariants.{Stays}
use Rattle.v6_client.specs.declared.states.News6.TheVariants as news
use Rattle.v6_items.specs.declared.scope.Parting6.{Parting6}
use Rattle.v6_items.specs.declared.scope.Scope6.{Scope6}
use Rattle.v6_items.specs.declared.scope.Scope6.TheVariants as scope
use Rattle.v6_client.specs.declared.states.State6.{State6}
use Rattle.v6_client.specs.declared.states.State6.TheVariants.{Off, Waiting, Soliciting, Requesting, Bound, Renewing, Rebinding, Restarting, Declining}
use Rattle.v6_client.specs.declared.states.Step6.{Step6}
use Rattle.v6_client.specs.declared.turn.Turn6.{Turn6}
use Rattle.v6_client.specs.Calls.{dates_in, due_of}
use Rattle.v6_client.specs.Clients.{ClientContent, holds, is_at_end, scope_of, turn_of}
use Rattle.v6_client.specs.Due.{due_row}
use Rattle.v6_client.specs.Exchanges.{is_again_due}
use Rattle.v6_items.specs.Items.{asked_at, dates_of, goes_of, ias_of, is_in, lapse_in, lapse_of, parting_of, stays_in}
use Rattle.v6_client.specs.Moves.{parting_at}
use Rattle.v6_items.specs.Taking.{t1_of, t2_of}
use Rattle.v6_client.specs.Ticks.{restarting_tick, tick_row}
use Rattle.v6_items.specs.Times.{earlier}
use Rattle.v6_client_laws.specs.DueRows.{FitsAt, HasCome, IsOver, IsOwn, LooksAtMoments, RestartFits, RestsBefore, RestsElsewhere, RowFits, WakesInTime, state_later}
use Rattle.v6_client_laws.specs.Least.{LeastOf}
use Rattle.v6_client_laws.proofs.Given.{Met, met}
use Rattle.v6_client_laws.proofs.Leasts.{SomeOf, all_least, come_decides, come_least, earlier_least, filter_in, in_filter, not_before, not_due, to_least}

-- ---- items that are over

own_decides : (s : Scope6) (item : Item6) → Decides (is_in s item) (IsOwn s item)
own_decides scope.Nothing item = (λ e. absurd cc, λ own. absurd own)
own_decides scope.All item = (λ e. tt, λ own. refl)
own_decides (scope.Since since) item = Decides-not (is_due item.valid since) (come_decides item.valid since)

-- some own item of an IA is over
abbrev OverOf : Scope6 → List IaLeaseContent → IaAsk → ℕ → Type 0
OverOf s ias ask = SomeOf (λ (item : Item6). HasCome item.valid) (filter (is_in s) (asked_at ask ias))

lapse_least : (s : Scope6) (ias : List IaLeaseContent) (asks : List IaAsk) → LeastOf (SomeOf (OverOf s ias) asks) (lapse_in s ias asks)
lapse_least s ias asks =
    all_least (OverOf s ias) (λ ask. lapse_of s (asked_at ask ias))
    (λ ask. all_least (λ (item : Item6). HasCome item.valid) (λ item. item.valid) (λ item. come_least item.valid)
    (filter (is_in s) (asked_at ask ias))) asks

over_from : (s : Scope6) (lease : Lease6Content) (asks : List IaAsk) (at : ℕ) → SomeOf (OverOf s lease.ias) asks at
    → IsOver (Some lease) asks s at
over_from s lease asks at some =
    let item = some.is in
    let there = filter_in (is_in s) (asked_at some.x lease.ias) item.x item.among in
    record {
      ask = some.x;
      asked = some.among;
      item = item.x;
      among = there.0;
      own = (own_decides s item.x).0 there.1;
      over = item.is;
    }

from_over : (s : Scope6) (lease : Lease6Content) (asks : List IaAsk) (at : ℕ) → IsOver (Some lease) asks s at
    → SomeOf (OverOf s lease.ias) asks at
from_over s lease asks at over = record {
  x = over.ask;
  among = over.asked;
  is = record {
    x = over.item;
    among = in_filter (is_in s) (asked_at over.ask lease.ias) over.item over.among ((own_decides s over.item).1 over.own);
    is = over.over;
  };
}

none_there : (ask : IaAsk) (item : Item6) → Contains (asked_at ask []) item → ⊥
none_there ask item among = let less = among.1 in omega (arith, less)

over_least : (s : Scope6) (kept : Option Lease6Content) (asks : List IaAsk) → LeastOf (IsOver kept asks s) (dates_of s kept asks).lapse
over_least s None asks = λ at over. none_there over.ask over.item over.among
over_least s (Some lease) asks =
    to_least (SomeOf (OverOf s lease.ias) asks) (IsOver (Some lease) asks s) (lapse_in s lease.ias asks) (over_from s lease asks)
    (from_over s lease asks) (lapse_least s lease.ias asks)

t1_least : (s : Scope6) (kept : Option Lease6Content) (asks : List IaAsk) → LeastOf (HasCome (t1_of kept)) (dates_of s kept asks).t1
t1_least s None asks = come_least None
t1_least s (Some lease) asks = come_least lease.t1

t2_least : (s : Scope6) (kept : Option Lease6Content) (asks : List IaAsk) → LeastOf (HasCome (t2_of kept)) (dates_of s kept asks).t2
t2_least s None asks = come_least None
t2_least s (Some lease) asks = come_least lease.t2

-- ---- the moment asked for

module _ (kept : Option Lease6Content) (asks : List IaAsk) where
  abbrev dates : Scope6 → Dates6
  dates s = dates_of s kept asks

  said_or : (exchange : Exchange6) (P : ℕ → Type 0) (first : Option ℕ) → LeastOf P first
      → LeastOf (λ at. (exchange.due ≤ at) ⊎ P at) (earlier (Some exchange.due) first)
  said_or exchange P first least = earlier_least (λ at. exchange.due ≤ at) P (Some exchange.due) first (come_least (Some exchange.due)) least

  t2_or : LeastOf (λ at. HasCome (t2_of kept) at ⊎ IsOver kept asks scope.All at) (earlier (dates scope.All).t2 (dates scope.All).lapse)
  t2_or =
      earlier_least (HasCome (t2_of kept)) (IsOver kept asks scope.All) (dates scope.All).t2 (dates scope.All).lapse
      (t2_least scope.All kept asks) (over_least scope.All kept asks)

  ended_or : (s : Scope6) (exchange : Exchange6) (end : ℕ)
      → LeastOf (RestartFits kept asks s exchange.due end) (earlier (Some (min exchange.due end)) (dates s).lapse)
  ended_or s exchange end =
      let Over : ℕ → Type 0 = IsOver kept asks s in
      to_least (λ at. ((exchange.due ≤ at) ⊎ (end ≤ at)) ⊎ Over at) (RestartFits kept asks s exchange.due end)
      (earlier (Some (min exchange.due end)) (dates s).lapse) (λ at one. there at one) (λ at one. back at one)
      (earlier_least (λ at. (exchange.due ≤ at) ⊎ (end ≤ at)) Over (Some (min exchange.due end)) (dates s).lapse
      (said_or exchange (λ at. end ≤ at) (Some end) (come_least (Some end))) (over_least s kept asks))
    where
      there : (at : ℕ) → (((exchange.due ≤ at) ⊎ (end ≤ at)) ⊎ IsOver kept asks s at)
          → RestartFits kept asks s exchange.due end at
      there at (inl (inl due)) = inl due
      there at (inl (inr ends)) = inr (inl ends)
      there at (inr over) = inr (inr over)

      back : (at : ℕ) → RestartFits kept asks s exchange.due end at
          → (((exchange.due ≤ at) ⊎ (end ≤ at)) ⊎ IsOver kept asks s at)
      back at (inl due) = inl (inl due)
      back at (inr (inl ends)) = inl (inr ends)
      back at (inr (inr over)) = inr over

  wakes : (state : State6) → LeastOf (RowFits kept asks state) (due_row (dates (scope_of state)) state)
  wakes Off = λ at fits. fits
  wakes (Waiting due) = come_least (Some due)
  wakes (Soliciting exchange offer) = come_least (Some exchange.due)
  wakes (Requesting exchange) = come_least (Some exchange.due)
  wakes Bound =
      earlier_least (HasCome (t1_of kept)) (λ at. HasCome (t2_of kept) at ⊎ IsOver kept asks scope.All at) (dates scope.All).t1
      (earlier (dates scope.All).t2 (dates scope.All).lapse) (t1_least scope.All kept asks) t2_or
  wakes (Renewing exchange) =
      said_or exchange (λ at. HasCome (t2_of kept) at ⊎ IsOver kept asks scope.All at)
      (earlier (dates scope.All).t2 (dates scope.All).lapse) t2_or
  wakes (Rebinding exchange) =
      said_or exchange (IsOver kept asks scope.All) (dates scope.All).lapse (over_least scope.All kept asks)
  wakes (Restarting exchange end since true) = ended_or scope.All exchange end
  wakes (Restarting exchange end since false) = ended_or (scope.Since since) exchange end
  wakes (Declining exchange) =
      said_or exchange (IsOver kept asks scope.All) (dates scope.All).lapse (over_least scope.All kept asks)

  -- ---- the table

  goes_none : (s : Scope6) (at : ℕ) → (IsOver kept asks s at → ⊥) → (parting_of (Lapse at) s (ias_of kept) asks).goes ≡ false
  goes_none s at never =
      false_from_ne_true (list_any (goes_of (Lapse at) s (ias_of kept)) asks) (λ e.
      let one : Met (goes_of (Lapse at) s (ias_of kept)) asks = met (goes_of (Lapse at) s (ias_of kept)) asks e in
      let item : Met (λ (item : Item6). is_in s item && not (stays_in (Lapse at) one.x.kind item)) (asked_at one.x (ias_of kept)) =
      met _ (asked_at one.x (ias_of kept)) one.passes in
      let parts = and_parts (is_in s item.x) (not (not (is_due item.x.valid at))) item.passes in
      never (record {
        ask = one.x;
        asked = one.among;
        item = item.x;
        among = item.among;
        own = (own_decides s item.x).0 parts.0;
        over = (come_decides item.x.valid at).0 (twice (is_due item.x.valid at) parts.1);
      }))
    where
      twice : (b : Bool) → not (not b) ≡ true → b ≡ true
      twice true e = refl
      twice false e = absurd cc

  t1_same : (s : Scope6) (at : ℕ) → (HasCome (t1_of kept) at → ⊥) → is_due (dates s).t1 at ≡ false
  t1_same s at never = of_kept kept never
    where
      of_kept : (k : Option Lease6Content) → (HasCome (t1_of k) at → ⊥) → is_due (dates_of s k asks).t1 at ≡ false
      of_kept None never = refl
      of_kept (Some lease) never = not_due lease.t1 at never

  t2_same : (s : Scope6) (at : ℕ) → (HasCome (t2_of kept) at → ⊥) → is_due (dates s).t2 at ≡ false
  t2_same s at never = of_kept kept never
    where
      of_kept : (k : Option Lease6Content) → (HasCome (t2_of k) at → ⊥) → is_due (dates_of s k asks).t2 at ≡ false
      of_kept None never = refl
      of_kept (Some lease) never = not_due lease.t2 at never

-- a step that does nothing
record IsRest (turn : Turn6) (state : State6) (step : Step6) : Type 0 where
  state_is : step.state ≡ state_later turn.at state
  last : step.last ≡ turn.last
  keep : step.keep ≡ Stays
  say : step.say ≡ None
  news : step.news ≡ news.Nothing

-- the second of two arms
second : {A : Type 0} (P : A → Type 0) (b : Bool) (x y : A) → b ≡ false → P y → P (cond b x y)
second P true x y e p = absurd cc
second P false x y e p = p

rest : {turn : Turn6} {state : State6} {step : Step6} → step.state ≡ state_later turn.at state → step.last ≡ turn.last
    → step.keep ≡ Stays → step.say ≡ None → step.news ≡ news.Nothing → IsRest turn state step
rest state last keep say told = record { state_is = state; last = last; keep = keep; say = say; news = told }

unsaid : (turn : Turn6) (exchange : Exchange6) → (exchange.due ≤ turn.at → ⊥) → is_again_due turn exchange ≡ false
unsaid turn exchange never = not_due (Some exchange.due) turn.at never

module _ (turn : Turn6) (kept : Option Lease6Content) (asks : List IaAsk) where
  abbrev dated : Scope6 → Dates6
  dated s = dates_of s kept asks

  bound_rests : (stays : Bool) → (RowFits kept asks Bound turn.at → ⊥)
      → IsRest turn Bound (tick_row turn (dated scope.All) (record { goes = false; stays = stays }) Bound)
  bound_rests stays never =
      second (IsRest turn Bound) (is_due (dated scope.All).t2 turn.at) _ _ (t2_same kept asks scope.All turn.at (λ come. never (inr (inl come))))
      (second (IsRest turn Bound) (is_due (dated scope.All).t1 turn.at) _ _ (t1_same kept asks scope.All turn.at (λ come. never (inl come)))
      (rest refl refl refl refl refl))

  renewing_rests : (stays : Bool) (exchange : Exchange6) → (RowFits kept asks (Renewing exchange) turn.at → ⊥)
      → IsRest turn (Renewing exchange) (tick_row turn (dated scope.All) (record { goes = false; stays = stays }) (Renewing exchange))
  renewing_rests stays exchange never =
      second (IsRest turn (Renewing exchange)) (is_due (dated scope.All).t2 turn.at) _ _
      (t2_same kept asks scope.All turn.at (λ come. never (inr (inl come))))
      (second (IsRest turn (Renewing exchange)) (is_again_due turn exchange) _ _ (unsaid turn exchange (λ due. never (inl due)))
      (rest refl refl refl refl refl))

  rebinding_rests : (stays : Bool) (exchange : Exchange6) → (RowFits kept asks (Rebinding exchange) turn.at → ⊥)
      → IsRest turn (Rebinding exchange) (tick_row turn (dated scope.All) (record { goes = false; stays = stays }) (Rebinding exchange))
  rebinding_rests stays exchange never =
      second (IsRest turn (Rebinding exchange)) (is_again_due turn exchange) _ _ (unsaid turn exchange (λ due. never (inl due)))
      (rest refl refl refl refl refl)

  restarting_rests : (s : Scope6) (stays : Bool) (exchange : Exchange6) (end since : ℕ) (stands : Bool)
      → (RestartFits kept asks s exchange.due end turn.at → ⊥)
      → IsRest turn (Restarting exchange end since stands)
      (restarting_tick turn (record { goes = false; stays = stays }) exchange end since stands)
  restarting_rests s stays exchange end since stands never =
      second (IsRest turn (Restarting exchange end since stands)) (leb end turn.at) _ _
      (not_due (Some end) turn.at (λ ends. never (inr (inl ends))))
      (second (IsRest turn (Restarting exchange end since stands)) (is_again_due turn exchange) _ _
      (unsaid turn exchange (λ due. never (inl due))) (rest refl refl refl refl refl))

  declining_rests : (stays : Bool) (exchange : Exchange6) → (RowFits kept asks (Declining exchange) turn.at → ⊥)
      → IsRest turn (Declining exchange) (tick_row turn (dated scope.All) (record { goes = false; stays = stays }) (Declining exchange))
  declining_rests stays exchange never =
      second (IsRest turn (Declining exchange)) (is_again_due turn exchange) _ _ (unsaid turn exchange (λ due. never (inl due)))
      (rest refl refl refl refl refl)

  -- what is so where nothing goes
  by_goes : (P : Parting6 → Type 0) → ((stays : Bool) → P (record { goes = false; stays = stays })) → (goes stays : Bool) → goes ≡ false
      → P (record { goes = goes; stays = stays })
  by_goes P each true stays e = absurd cc
  by_goes P each false stays e = each stays

  abbrev parted : Scope6 → Parting6
  parted s = parting_of (Lapse turn.at) s (ias_of kept) asks

  row_rests : (state : State6) → LooksAtMoments state → (RowFits kept asks state turn.at → ⊥)
      → IsRest turn state (tick_row turn (dated (scope_of state)) (parted (scope_of state)) state)
  row_rests Off looks never = rest refl refl refl refl refl
  row_rests (Waiting due) looks never = absurd looks
  row_rests (Soliciting exchange offer) looks never = absurd looks
  row_rests (Requesting exchange) looks never = absurd looks
  row_rests Bound looks never =
      by_goes (λ p. IsRest turn Bound (tick_row turn (dated scope.All) p Bound)) (λ stays. bound_rests stays never)
      (parted scope.All).goes (parted scope.All).stays (goes_none kept asks scope.All turn.at (λ over. never (inr (inr over))))
  row_rests (Renewing exchange) looks never =
      by_goes (λ p. IsRest turn (Renewing exchange) (tick_row turn (dated scope.All) p (Renewing exchange)))
      (λ stays. renewing_rests stays exchange never) (parted scope.All).goes (parted scope.All).stays
      (goes_none kept asks scope.All turn.at (λ over. never (inr (inr over))))
  row_rests (Rebinding exchange) looks never =
      by_goes (λ p. IsRest turn (Rebinding exchange) (tick_row turn (dated scope.All) p (Rebinding exchange)))
      (λ stays. rebinding_rests stays exchange never) (parted scope.All).goes (parted scope.All).stays
      (goes_none kept asks scope.All turn.at (λ over. never (inr over)))
  row_rests (Restarting exchange end since true) looks never =
      let state : State6 = Restarting exchange end since true in
      by_goes (λ p. IsRest turn state (tick_row turn (dated scope.All) p state))
      (λ stays. restarting_rests scope.All stays exchange end since true never) (parted scope.All).goes (parted scope.All).stays
      (goes_none kept asks scope.All turn.at (λ over. never (inr (inr over))))
  row_rests (Restarting exchange end since false) looks never =
      let state : State6 = Restarting exchange end since false in
      by_goes (λ p. IsRest turn state (tick_row turn (dated (scope.Since since)) p state))
      (λ stays. restarting_rests (scope.Since since) stays exchange end since false never) (parted (scope.Since since)).goes
      (parted (scope.Since since)).stays (goes_none kept asks (scope.Since since) turn.at (λ over. never (inr (inr over))))
  row_rests (Declining exchange) looks never =
      by_goes (λ p. IsRest turn (Declining exchange) (tick_row turn (dated scope.All) p (Declining exchange)))
      (λ stays. declining_rests stays exchange never) (parted scope.All).goes (parted scope.All).stays
      (goes_none kept asks scope.All turn.at (λ over. never (inr over)))

  -- where items are held none goes
  none_goes : (state : State6) → (RowFits kept asks state turn.at → ⊥) → (holds state && (parted (scope_of state)).goes) ≡ false
  none_goes Off never = refl
  none_goes (Waiting due) never = refl
  none_goes (Soliciting exchange offer) never = refl
  none_goes (Requesting exchange) never = refl
  none_goes Bound never = goes_none kept asks scope.All turn.at (λ over. never (inr (inr over)))
  none_goes (Renewing exchange) never = goes_none kept asks scope.All turn.at (λ over. never (inr (inr over)))
  none_goes (Rebinding exchange) never = goes_none kept asks scope.All turn.at (λ over. never (inr over))
  none_goes (Restarting exchange end since true) never = goes_none kept asks scope.All turn.at (λ over. never (inr (inr over)))
  none_goes (Restarting exchange end since false) never = refl
  none_goes (Declining exchange) never = goes_none kept asks scope.All turn.at (λ over. never (inr over))

pub wakes_in_time : WakesInTime
wakes_in_time c = wakes c.kept c.settings.asks c.state

neither : (one other : Bool) → one ≡ false → (one && other) ≡ false
neither true other e = absurd cc
neither false other e = refl

arm_is : (b : Bool) (d c : ClientContent) → b ≡ false → cond b d c ≡ c
arm_is true d c e = absurd cc
arm_is false d c e = refl

pub rests_elsewhere : RestsElsewhere
rests_elsewhere c at salt looks never =
    let still : IsRest (turn_of at salt c) c.state
    (tick_row (turn_of at salt c) (dates_in c) (parting_at (Lapse at) c) c.state) =
    row_rests (turn_of at salt c) c.kept c.settings.asks c.state looks never in
    record {
      state = still.state_is;
      last = still.last;
      keep = still.keep;
      say = still.say;
      news = still.news;
      items = arm_is (holds c.state && (parting_at (Lapse at) c).goes && not (is_at_end at c.state)) _ c
          (neither (holds c.state && (parting_at (Lapse at) c).goes) (not (is_at_end at c.state))
          (none_goes (turn_of at salt c) c.kept c.settings.asks c.state never));
    }

pub rests_before : RestsBefore
rests_before c at salt looks early =
    rests_elsewhere c at salt looks (not_before (FitsAt c) (due_of c) at (wakes_in_time c) early)
