-- The items that are held are of IAs that are asked for.
use Rattle.std.proofs.Common.{◌≡◌, ℕ, Bool, true, false, not, cond, ◌&&◌, ◌||◌, List, [], ◌∷◌, Option, Some, None, option_map, refl, sym, subst}
use Rattle.std.specs.List.{flat_map}
use Rattle.std.specs.Option.{option_and_then}
use Rattle.net_types.proofs.AllLaws.{all_join, all_map}
use Rattle.net_types.proofs.CaseLaws.{gated, split}
use Rattle.std.proofs.lemmas.Bool.{and_from, eq-eqb}
use Rattle.v6_options.specs.declared.ia.IaKind.{IaKind}
use Rattle.v6_options.specs.declared.ia.IaKind.TheVariants.{Na, Pd}
use Rattle.v6_message.specs.declared.kind.ServerKind6.{ServerKind6}
use Rattle.v6_message.specs.declared.kind.ServerKind6.TheVariants.{Advertise, Reply}
use Rattle.v6_message.specs.Replies.{Content6}
use Rattle.lease6_text.specs.declared.lease.Item6.{Item6}
use Rattle.lease6_text.specs.Leases.{IaLeaseContent, Lease6Content}
use Rattle.lease6_text.specs.LineParts.{is_ia, is_same_kind}
use Rattle.v6_items.specs.declared.asks.IaAsk.{IaAsk}
use Rattle.v6_client.specs.declared.states.Carrier6.TheVariants.{Up, Down}
use Rattle.v6_items.specs.declared.scope.Cause6.{Cause6}
use Rattle.v6_items.specs.declared.scope.Cause6.TheVariants.{Lapse, Duplicate}
use Rattle.v6_items.specs.declared.scope.Dates6.{Dates6}
use Rattle.v6_client.specs.declared.states.Keep6.{Keep6}
use Rattle.v6_client.specs.declared.states.Keep6.TheVariants.{Stays, Clears, Takes}
use Rattle.v6_items.specs.declared.scope.Parting6.{Parting6}
use Rattle.v6_client.specs.declared.states.State6.{State6}
use Rattle.v6_client.specs.declared.states.Step6.{Step6}
use Rattle.v6_client.specs.declared.turn.Turn6.{Turn6}
use Rattle.v6_client.specs.Answers.{advertise_answer, counts, granted, is_taken, learnt, meeting_of, server_of}
use Rattle.v6_items.specs.Bounds.{ask_key}
use Rattle.v6_client.specs.Calls.{IsAnswered, answer_in, dates_in, fresh_in, parting_begun, pruned, pruned_lease, stands_at}
use Rattle.v6_client.specs.Clients.{ClientContent, holds, is_at_end, is_restarting, turn_of}
use Rattle.v6_client.specs.Hearing.{heard_row, is_kept_offer}
use Rattle.v6_client.specs.Inputs.{begin_row, duplicate_row, off_row}
use Rattle.v6_items.specs.Items.{asked_at, ia_with, ias_of, is_nonempty, staying, thinned, without}
use Rattle.v6_client.specs.Moves.{IsStep6, OutContent, given_up, kept_after, kept_left, lapsed, moved, parting_at, thinned_lease}
use Rattle.v6_client.specs.OwnLeases.{AreAsked, CarriersOwn, DuplicatesOwn, GrantsOwn, HeldOwn, MadeOwn, MessagesOwn, OwnIas, RebindsOwn, ReleasesOwn, TicksOwn, is_asked}
use Rattle.v6_items.specs.Taking.{Meeting, ias_granted, taken_by}
use Rattle.v6_client.specs.Ticks.{tick_row}
use Rattle.v6_client_laws.proofs.Lapsing.{start_row}
use Rattle.v6_client.proofs.RowFacts.{begin_facts, duplicate_facts, heard_facts, rebind_facts, release_facts}

-- ---- IAs

with_asked : (asks : List IaAsk) (ia : IaLeaseContent) (items : List Item6) → is_asked asks ia ≡ true
    → AreAsked asks (ia_with ia.kind ia.iaid items)
with_asked asks ia [] e = tt
with_asked asks ia (item ∷ items) e = (e, tt)

without_asked : (asks : List IaAsk) (cause : Cause6) (ias : List IaLeaseContent) → AreAsked asks ias → AreAsked asks (without cause ias)
without_asked asks cause [] all = tt
without_asked asks cause (ia ∷ ias) all =
    all_join (λ ia. is_asked asks ia ≡ true) (thinned cause ia) (without cause ias)
    (with_asked asks ia (staying cause ia.kind ia.items) all.0) (without_asked asks cause ias all.1)

thinned_asked : (asks : List IaAsk) (cause : Cause6) (kept : Option Lease6Content) → AreAsked asks (ias_of kept)
    → AreAsked asks (ias_of (option_map (thinned_lease cause) kept))
thinned_asked asks cause None all = tt
thinned_asked asks cause (Some lease) all = without_asked asks cause lease.ias all

left_asked : (asks : List IaAsk) (cause : Cause6) (parting : Parting6) (kept : Option Lease6Content) → AreAsked asks (ias_of kept)
    → AreAsked asks (ias_of (kept_left cause parting kept))
left_asked asks cause parting kept all =
    gated (λ lease. AreAsked asks (ias_of lease)) parting.stays _ _ (thinned_asked asks cause kept all) all

-- ---- the lease that a Reply grants, or that a client stands on

same_kind : (kind : IaKind) → is_same_kind kind kind ≡ true
same_kind Na = refl
same_kind Pd = refl

first_true : (one other : Bool) → one ≡ true → (one || other) ≡ true
first_true true other e = refl
first_true false other e = absurd cc

other_true : (one other : Bool) → other ≡ true → (one || other) ≡ true
other_true true other e = refl
other_true false other e = e

its_own : (ask : IaAsk) (asks : List IaAsk) (items : List Item6)
    → AreAsked (ask ∷ asks) (ia_with ask.kind ask.iaid items)
its_own ask asks [] = tt
its_own ask asks (item ∷ items) =
    (first_true _ _ (and_from _ _ (same_kind ask.kind) (eq-eqb ask.iaid ask.iaid refl)), tt)

-- IAs of what is asked for, whatever their items
abbrev with_items : (IaAsk → List Item6) → IaAsk → List IaLeaseContent
with_items items ask = ia_with ask.kind ask.iaid (items ask)

each_asked : (items : IaAsk → List Item6) (asks : List IaAsk) → AreAsked asks (flat_map (with_items items) asks)
each_asked items [] = tt
each_asked items (ask ∷ asks) =
    all_join (λ ia. is_asked (ask ∷ asks) ia ≡ true) (with_items items ask) (flat_map (with_items items) asks)
    (its_own ask asks (items ask))
    (all_map (λ ia. is_asked asks ia ≡ true) (λ ia. is_asked (ask ∷ asks) ia ≡ true)
    (λ ia e. other_true (is_ia (ask_key ask) ia) (is_asked asks ia) e) (flat_map (with_items items) asks) (each_asked items asks))

granted_asked : (m : Meeting) (asks : List IaAsk) → AreAsked asks (ias_granted m asks)
granted_asked m asks = each_asked (λ ask. (taken_by m ask).items) asks

pruned_asked : (at : ℕ) (asks : List IaAsk) (kept : Option Lease6Content) → AreAsked asks (ias_of (option_map (pruned_lease at asks) kept))
pruned_asked at asks None = tt
pruned_asked at asks (Some lease) = each_asked (λ ask. staying (Lapse at) ask.kind (asked_at ask lease.ias)) asks

from_server : (at : ℕ) (c : ClientContent) (message : Content6) (server : Option (List ℕ))
    → AreAsked c.settings.asks (ias_of (option_and_then (granted at c message) server))
from_server at c message None = tt
from_server at c message (Some server) =
    gated (λ lease. AreAsked c.settings.asks (ias_of lease)) (is_nonempty (ias_granted (meeting_of at c message) c.settings.asks)) _ _
    (granted_asked (meeting_of at c message) c.settings.asks) tt

fresh_asked : (at : ℕ) (c : ClientContent) (message : Content6) → AreAsked c.settings.asks (ias_of (fresh_in at c message))
fresh_asked at c message =
    gated (λ lease. AreAsked c.settings.asks (ias_of lease)) (is_taken c message) _ _ (from_server at c message (server_of message)) tt

pub grants_own : GrantsOwn
grants_own c message at lease e = subst (λ lease. AreAsked c.settings.asks (ias_of lease)) e (fresh_asked at c message)

pub made_own : MadeOwn
made_own settings kept h = absurd cc

pub held_own : HeldOwn
held_own c lease own e = by_state (holds c.state) refl e
  where
    by_state : (b : Bool) → holds c.state ≡ b → cond b c.kept None ≡ Some lease → AreAsked c.settings.asks lease.ias
    by_state true h e = subst (λ lease. AreAsked c.settings.asks (ias_of lease)) e (own h)
    by_state false h e = absurd cc

-- ---- rows

-- after a step that takes no lease items are held only where they were
abbrev Starts : State6 → Step6 → Type 0
Starts state step = holds step.state ≡ true → step.keep ≡ Stays → holds state ≡ true

never : (b : Bool) → b ≡ true → b ≡ false → ⊥
never true e f = cc
never false e f = cc

tick_starts : (turn : Turn6) (dates : Dates6) (parting : Parting6) (state : State6) → Starts state (tick_row turn dates parting state)
tick_starts turn dates parting state h k =
    split (holds state) (λ e. e) (λ e. absurd (never _ h (start_row turn dates parting state e)))

-- ---- calls

kept_own : (asks : List IaAsk) (keep : Keep6) (fresh kept : Option Lease6Content) → AreAsked asks (ias_of fresh)
    → (keep ≡ Stays → AreAsked asks (ias_of kept)) → AreAsked asks (ias_of (kept_after keep fresh kept))
kept_own asks Stays fresh kept granted own = own refl
kept_own asks Clears fresh kept granted own = tt
kept_own asks Takes fresh kept granted own = granted

step_own : (step : Step6) (fresh : Option Lease6Content) (c new : ClientContent) (out : OutContent) → AreAsked c.settings.asks (ias_of fresh)
    → Starts c.state step → OwnIas c → IsStep6 step fresh c new out → OwnIas new
step_own step fresh c new out granted starts own goes =
    let after : OwnIas (moved step fresh c) =
    λ h. kept_own c.settings.asks step.keep fresh c.kept granted (λ k. own (starts h k)) in
    subst (λ (n : ClientContent). OwnIas n) (sym goes.goes_on) after

-- what a step starts from
record IsStart (step : Step6) (c : ClientContent) : Type 0 where
  starts : Starts c.state step
  own : OwnIas c

go_own : (step : Step6) (c new : ClientContent) (out : OutContent) → IsStart step c → IsStep6 step None c new out → OwnIas new
go_own step c new out start goes = step_own step None c new out tt start.starts start.own goes

pub ticks_own : TicksOwn
ticks_own c new at salt out own goes =
    let p : Parting6 = parting_at (Lapse at) c in
    let step : Step6 = tick_row (turn_of at salt c) (dates_in c) p c.state in
    let row : Starts c.state step = tick_starts (turn_of at salt c) (dates_in c) p c.state in
    go_own step (lapsed at p c) new out
    (gated (IsStart step) (holds c.state && p.goes && not (is_at_end at c.state)) _ _
    (record { starts = row; own = λ h. left_asked c.settings.asks (Lapse at) p c.kept (own h) }) (record { starts = row; own = own })) goes

pub duplicates_own : DuplicatesOwn
duplicates_own c new address at salt out own goes =
    let p : Parting6 = parting_at (Duplicate address) c in
    let step : Step6 = duplicate_row (turn_of at salt c) p c.state in
    let row : Starts c.state step = (duplicate_facts (turn_of at salt c) p c.kept c.state).row.starts in
    go_own step (given_up address p c) new out
    (gated (IsStart step) (holds c.state && p.goes) _ _
    (gated (IsStart step) (is_restarting c.state) _ _
    (record { starts = row; own = λ h. left_asked c.settings.asks (Duplicate address) p c.kept (own h) })
    (record { starts = row; own = λ h. thinned_asked c.settings.asks (Duplicate address) c.kept (own h) }))
    (record { starts = row; own = own })) goes

pub answers_own : (kind : ServerKind6) (c new : ClientContent) (message : Content6) (at salt : ℕ) (out : OutContent) → OwnIas c
    → IsAnswered at salt message kind c new out → OwnIas new
answers_own Advertise c new message at salt out own goes =
    let step : Step6 = heard_row (turn_of at salt c) (advertise_answer c message) c.state in
    let row : Starts c.state step = (heard_facts (turn_of at salt c) (advertise_answer c message) c.kept c.state).starts in
    go_own step _ new out
    (gated (IsStart step) (is_kept_offer (advertise_answer c message) c.state) _ _ (record { starts = row; own = own })
    (record { starts = row; own = own })) goes
answers_own Reply c new message at salt out own goes =
    step_own _ (fresh_in at c message) c new out (fresh_asked at c message)
    (heard_facts (turn_of at salt c) (answer_in at c message) c.kept c.state).starts own goes

pub messages_own : MessagesOwn
messages_own c new message at salt out own hears =
    split (counts c message)
    (λ counted. answers_own message.kind (learnt message.sol_max c) new message at salt out own (hears.goes counted))
    (λ ignored. subst (λ (n : ClientContent). OwnIas n) (sym (hears.ignores ignored).0) own)

-- what a client stands on is asked for
begun_own : (stands : Bool) (step : Step6) (c new : ClientContent) (at : ℕ) (out : OutContent)
    → (stands ≡ false → Starts c.state step) → OwnIas c → IsStep6 step None (pruned at stands c) new out → OwnIas new
begun_own true step c new at out starts own goes =
    let after : OwnIas (moved step None (pruned at true c)) =
    λ h. kept_own c.settings.asks step.keep None (option_map (pruned_lease at c.settings.asks) c.kept) tt
    (λ k. pruned_asked at c.settings.asks c.kept) in
    subst (λ (n : ClientContent). OwnIas n) (sym goes.goes_on) after
begun_own false step c new at out starts own goes = step_own step None c new out tt (starts refl) own goes

pub carriers_own : CarriersOwn
carriers_own c new Up at salt out own goes =
    let turn : Turn6 = turn_of at salt c in
    let p : Parting6 = parting_begun at c in
    begun_own (stands_at at c) (begin_row turn (stands_at at c) p c.state) c new at out
    (λ e. subst (λ stands. Starts c.state (begin_row turn stands p c.state)) (sym e) (begin_facts turn p c.kept c.state).starts) own goes
carriers_own c new Down at salt out own goes = step_own (off_row (turn_of at salt c)) None c new out tt (λ h k. absurd cc) own goes

pub releases_own : ReleasesOwn
releases_own c new tell at salt out own goes =
    step_own _ None c new out tt (release_facts (turn_of at salt c) tell c.kept c.state).starts own goes

pub rebinds_own : RebindsOwn
rebinds_own c new at salt out own goes =
    step_own _ None c new out tt (rebind_facts (turn_of at salt c) (parting_begun at c) c.kept c.state).starts own goes
