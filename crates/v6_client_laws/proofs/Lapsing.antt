-- After a tick no item is held whose valid lifetime is over.
use Rattle.std.proofs.Common.{◌≡◌, ℕ, Bool, true, false, not, cond, ◌&&◌, List, [], ◌∷◌, filter, fold, min, nat_le, Option, Some, None, option_map, refl, sym, ap, ◌∙◌, subst, arith}
use Rattle.std.specs.List.{AllByRecursion, list_any}
use Rattle.std.proofs.lemmas.Bool.{and_from, not_from_false}
use Rattle.std.proofs.lemmas.Bool.Decides.{nat_tests}
use Rattle.machine.specs.Moment.{is_due, moment_of}
use Rattle.net_types.proofs.AllLaws.{all_join}
use Rattle.net_types.proofs.CaseLaws.{split}
use Rattle.v6_options.specs.declared.ia.IaKind.{IaKind}
use Rattle.lease6_text.specs.declared.lease.Item6.{Item6}
use Rattle.lease6_text.specs.Leases.{IaLeaseContent, Lease6Content}
use Rattle.lease6_text.specs.LineParts.{is_ia}
use Rattle.v6_items.specs.declared.asks.IaAsk.{IaAsk}
use Rattle.v6_items.specs.declared.scope.Cause6.TheVariants.{Lapse}
use Rattle.v6_items.specs.declared.scope.Dates6.{Dates6}
use Rattle.v6_client.specs.declared.states.Keep6.{Keep6}
use Rattle.v6_client.specs.declared.states.Keep6.TheVariants.{Stays, Clears, Takes}
use Rattle.v6_items.specs.declared.scope.Parting6.{Parting6}
use Rattle.v6_items.specs.declared.scope.Scope6.{Scope6}
use Rattle.v6_items.specs.declared.scope.Scope6.TheVariants as scope
use Rattle.v6_client.specs.declared.states.State6.{State6}
use Rattle.v6_client.specs.declared.states.State6.TheVariants.{Off, Waiting, Soliciting, Requesting, Bound, Renewing, Rebinding, Restarting, Declining}
use Rattle.v6_client.specs.declared.states.Step6.{Step6}
use Rattle.v6_client.specs.declared.turn.Turn6.{Turn6}
use Rattle.v6_client.specs.Calls.{IsTicked, dates_in, due_of}
use Rattle.v6_client.specs.Clients.{ClientContent, holds, is_all, is_at_end, scope_of, turn_of}
use Rattle.v6_client.specs.Due.{due_row}
use Rattle.v6_items.specs.Items.{asked_at, dates_of, goes_of, is_in, ia_with, ias_of, is_live, items_at, lapse_of, staying, thinned, without}
use Rattle.v6_client.specs.Laws.{HoldsNothingOver, is_over_at}
use Rattle.v6_client.specs.Moves.{OutContent, kept_after, lapsed, out_content, parting_at, thinned_lease}
use Rattle.v6_client.specs.Ticks.{tick_row}
use Rattle.v6_items.specs.Times.{earlier}
use Rattle.v6_client.proofs.RowFacts.{tick_facts, ticks_before_end}

-- ---- what is left isn't over

-- an item that is over at the moment
abbrev is_gone : (at : ℕ) → Item6 → Bool
is_gone at item = not (is_live at item)

kept_live : (at : ℕ) (items : List Item6) → list_any (is_gone at) (filter (is_live at) items) ≡ false
kept_live at [] = refl
kept_live at (item ∷ items) =
    split (is_live at item)
    (λ e. rw e (rw e (kept_live at items)))
    (λ e. rw e (kept_live at items))

abbrev IsLeft : (at : ℕ) → IaLeaseContent → Type 0
IsLeft at ia = list_any (is_gone at) ia.items ≡ false

with_left : (at : ℕ) (kind : IaKind) (iaid : ℕ) (items : List Item6) → list_any (is_gone at) items ≡ false
    → AllByRecursion (IsLeft at) (ia_with kind iaid items)
with_left at kind iaid [] e = tt
with_left at kind iaid (item ∷ items) e = (e, tt)

all_left : (at : ℕ) (ias : List IaLeaseContent) → AllByRecursion (IsLeft at) (without (Lapse at) ias)
all_left at [] = tt
all_left at (ia ∷ ias) =
    all_join (IsLeft at) (thinned (Lapse at) ia) (without (Lapse at) ias)
    (with_left at ia.kind ia.iaid (staying (Lapse at) ia.kind ia.items) (kept_live at ia.items)) (all_left at ias)

found_left : (at : ℕ) (kind : IaKind) (iaid : ℕ) (ias : List IaLeaseContent) → AllByRecursion (IsLeft at) ias
    → list_any (is_gone at) (items_at kind iaid ias) ≡ false
found_left at kind iaid [] all = refl
found_left at kind iaid (ia ∷ ias) all =
    split (is_ia (kind, iaid) ia) (λ e. rw e all.0) (λ e. rw e (found_left at kind iaid ias all.1))

none_of : (f : IaAsk → Bool) → ((ask : IaAsk) → f ask ≡ false) → (asks : List IaAsk) → list_any f asks ≡ false
none_of f each [] = refl
none_of f each (ask ∷ asks) = rw (each ask) (none_of f each asks)

pub left_over : (at : ℕ) (ias : List IaLeaseContent) (asks : List IaAsk)
    → list_any (goes_of (Lapse at) scope.All (without (Lapse at) ias)) asks ≡ false
left_over at ias asks =
    none_of (goes_of (Lapse at) scope.All (without (Lapse at) ias))
    (λ ask. found_left at ask.kind ask.iaid (without (Lapse at) ias) (all_left at ias)) asks

none_over : (at : ℕ) (asks : List IaAsk) → list_any (goes_of (Lapse at) scope.All []) asks ≡ false
none_over at asks = none_of (goes_of (Lapse at) scope.All []) (λ ask. refl) asks

-- ---- the step of a tick

-- a tick makes no client hold items that doesn't
pub start_row : (turn : Turn6) (dates : Dates6) (parting : Parting6) (state : State6) → holds state ≡ false
    → holds (tick_row turn dates parting state).state ≡ false
start_row turn dates parting state e = (tick_facts turn dates None parting state).none e

after_step : (at : ℕ) (asks : List IaAsk) (kept : Option Lease6Content) (keep : Keep6) (goes stays : Bool)
    → list_any (goes_of (Lapse at) scope.All (ias_of kept)) asks ≡ goes → (goes ≡ true → stays ≡ false → keep ≡ Clears)
    → list_any (goes_of (Lapse at) scope.All
    (ias_of (kept_after keep None (cond goes (cond stays (option_map (thinned_lease (Lapse at)) kept) kept) kept)))) asks ≡ false
after_step at asks kept Stays false stays e last = e
after_step at asks None Stays true true e last = none_over at asks
after_step at asks (Some lease) Stays true true e last = left_over at lease.ias asks
after_step at asks kept Stays true false e last = let never : Stays ≡ Clears = last refl refl in absurd cc
after_step at asks kept Clears goes stays e last = none_over at asks
after_step at asks kept Takes goes stays e last = none_over at asks

-- ---- a tick

kept_of : (b : Bool) (c d : ClientContent) → (cond b d c).kept ≡ cond b d.kept c.kept
kept_of true c d = refl
kept_of false c d = refl

all_scope : (s : Scope6) → is_all s ≡ true → s ≡ scope.All
all_scope scope.Nothing e = absurd cc
all_scope scope.All e = refl
all_scope (scope.Since at) e = absurd cc

-- what holds before the end of a restart
held_goes : (b g end : Bool) → b ≡ true → end ≡ false → (b && g && not end) ≡ g
held_goes true true false h e = refl
held_goes true false false h e = refl
held_goes true g true h e = absurd cc
held_goes false g end h e = absurd cc

asks_of : (b : Bool) (c d : ClientContent) → d.settings ≡ c.settings → (cond b d c).settings ≡ c.settings
asks_of true c d e = e
asks_of false c d e = refl

pub ticked : (c new : ClientContent) (at salt : ℕ) (out : OutContent) → IsTicked at salt c new out → holds new.state ≡ true
    → is_over_at at new ≡ false
ticked c new at salt out goes held =
    let p : Parting6 = parting_at (Lapse at) c in
    let turn : Turn6 = turn_of at salt c in
    let step : Step6 = tick_row turn (dates_in c) p c.state in
    let holds_step : holds step.state ≡ true = sym (ap (λ (n : ClientContent). holds n.state) goes.goes_on) ∙ held in
    split (holds c.state)
    (λ h.
    let whole : scope_of c.state ≡ scope.All = all_scope (scope_of c.state) h in
    let same : list_any (goes_of (Lapse at) scope.All (ias_of c.kept)) c.settings.asks ≡ p.goes =
    ap (λ s. list_any (goes_of (Lapse at) s (ias_of c.kept)) c.settings.asks) (sym whole) in
    let lapsed_kept : (lapsed at p c).kept ≡ cond p.goes (cond p.stays (option_map (thinned_lease (Lapse at)) c.kept) c.kept) c.kept =
    kept_of (holds c.state && p.goes && not (is_at_end at c.state)) c _
    ∙ ap (λ b. cond b (cond p.stays (option_map (thinned_lease (Lapse at)) c.kept) c.kept) c.kept)
    (held_goes (holds c.state) p.goes (is_at_end at c.state) h (ticks_before_end turn (dates_in c) p c.state holds_step)) in
    let kept : new.kept ≡ kept_after step.keep None (cond p.goes (cond p.stays (option_map (thinned_lease (Lapse at)) c.kept) c.kept) c.kept) =
    ap (λ (n : ClientContent). n.kept) goes.goes_on ∙ ap (kept_after step.keep None) lapsed_kept in
    let settings : new.settings ≡ c.settings =
    ap (λ (n : ClientContent). n.settings) goes.goes_on ∙ asks_of (holds c.state && p.goes && not (is_at_end at c.state)) c _ refl in
    (λ i. list_any (goes_of (Lapse at) scope.All (ias_of (kept i))) (settings i).asks)
    ∙ after_step at c.settings.asks c.kept step.keep p.goes p.stays same
    (λ g s. (tick_facts turn (dates_in c) c.kept p c.state).ends (and_from p.goes (not p.stays) g (not_from_false p.stays s)) holds_step))
    (λ h.
    let none : holds step.state ≡ false = start_row turn (dates_in c) p c.state h in
    absurd (never (holds step.state) holds_step none))
  where
    never : (b : Bool) → b ≡ true → b ≡ false → ⊥
    never true e f = cc
    never false e f = cc

-- ---- before the due moment

earlier_not : (one other : Option ℕ) (at : ℕ) → is_due (earlier one other) at ≡ false → (is_due one at ≡ false) × (is_due other at ≡ false)
earlier_not None other at e = (refl, e)
earlier_not (Some one) None at e = (e, refl)
earlier_not (Some one) (Some other) at e = (below one other at e, above one other at e)
  where
    below : (one other at : ℕ) → nat_le (min one other) at ≡ false → nat_le one at ≡ false
    below one other at e = grind (arith, nat_tests)

    above : (one other at : ℕ) → nat_le (min one other) at ≡ false → nat_le other at ≡ false
    above one other at e = grind (arith, nat_tests)

items_rest : (at : ℕ) (items : List Item6) (first : Option ℕ)
    → is_due (fold (λ first (item : Item6). earlier first item.valid) first (filter (is_in scope.All) items)) at ≡ false
    → (is_due first at ≡ false) × (list_any (is_gone at) items ≡ false)
items_rest at [] first e = (e, refl)
items_rest at (item ∷ items) first e =
    let rest = items_rest at items (earlier first item.valid) e in
    let parts = earlier_not first item.valid at rest.0 in
    (parts.0, rw parts.1 rest.1)

asks_rest : (at : ℕ) (ias : List IaLeaseContent) (asks : List IaAsk) (first : Option ℕ)
    → is_due (fold (λ first ask. earlier first (lapse_of scope.All (asked_at ask ias))) first asks) at ≡ false
    → (is_due first at ≡ false) × (list_any (goes_of (Lapse at) scope.All ias) asks ≡ false)
asks_rest at ias [] first e = (e, refl)
asks_rest at ias (ask ∷ asks) first e =
    let rest = asks_rest at ias asks (earlier first (lapse_of scope.All (asked_at ask ias))) e in
    let parts = earlier_not first (lapse_of scope.All (asked_at ask ias)) at rest.0 in
    (parts.0, rw (items_rest at (asked_at ask ias) None parts.1).1 rest.1)

-- where items are held, the client is due when the first of them is over
lapse_awaited : (dates : Dates6) (state : State6) (at : ℕ) → holds state ≡ true → is_due (due_row dates state) at ≡ false
    → is_due dates.lapse at ≡ false
lapse_awaited dates Off at h e = absurd cc
lapse_awaited dates (Waiting due) at h e = absurd cc
lapse_awaited dates (Soliciting exchange offer) at h e = absurd cc
lapse_awaited dates (Requesting exchange) at h e = absurd cc
lapse_awaited dates Bound at h e =
    (earlier_not dates.t2 dates.lapse at (earlier_not dates.t1 (earlier dates.t2 dates.lapse) at e).1).1
lapse_awaited dates (Renewing exchange) at h e =
    (earlier_not dates.t2 dates.lapse at (earlier_not (Some exchange.due) (earlier dates.t2 dates.lapse) at e).1).1
lapse_awaited dates (Rebinding exchange) at h e = (earlier_not (Some exchange.due) dates.lapse at e).1
lapse_awaited dates (Restarting exchange end since true) at h e = (earlier_not (Some (min exchange.due end)) dates.lapse at e).1
lapse_awaited dates (Restarting exchange end since false) at h e = absurd cc
lapse_awaited dates (Declining exchange) at h e = (earlier_not (Some exchange.due) dates.lapse at e).1

kept_rest : (at : ℕ) (kept : Option Lease6Content) (asks : List IaAsk) → is_due (dates_of scope.All kept asks).lapse at ≡ false
    → list_any (goes_of (Lapse at) scope.All (ias_of kept)) asks ≡ false
kept_rest at None asks e = none_over at asks
kept_rest at (Some lease) asks e = (asks_rest at lease.ias asks None e).1

pub rested : (c : ClientContent) (at : ℕ) → holds c.state ≡ true → is_due (due_of c) at ≡ false → is_over_at at c ≡ false
rested c at h e =
    let whole : scope_of c.state ≡ scope.All = all_scope (scope_of c.state) h in
    kept_rest at c.kept c.settings.asks
    (subst (λ s. is_due (dates_of s c.kept c.settings.asks).lapse at ≡ false) whole (lapse_awaited (dates_in c) c.state at h e))

pub holds_nothing_over : HoldsNothingOver
holds_nothing_over c new at salt out ticks held =
    split (is_due (due_of c) (moment_of at))
    (λ e. ticked c new (moment_of at) salt (out_content out) (ticks.goes e) held)
    (λ e.
    let same : new ≡ c = (ticks.rests e).0 in
    subst (λ (n : ClientContent). is_over_at (moment_of at) n ≡ false) (sym same)
    (rested c (moment_of at) (sym (ap (λ (n : ClientContent). holds n.state) same) ∙ held) e))
