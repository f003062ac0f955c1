-- A client asks to be woken at the first moment at which a timed row of the table fits, and does something at each such moment.
use Rattle.std.proofs.Common.{◌≡◌, ℕ, ◌+◌, ◌*◌, ◌≤◌, Bool, true, false, ◌||◌, Option, Some, None, IfSome, refl, sym, ◌∙◌, ap, subst, eqb, nat_le, nat_lt, arith, if◌then◌else◌}
use Rattle.std.proofs.lemmas.Bool.Decides.{nat_tests}
use Rattle.machine.specs.Moment.{is_due, moment_of}
use Rattle.net_types.proofs.CaseLaws.{gated, split}
use Rattle.arp_acd.specs.declared.detection.Acd.{Acd}
use Rattle.arp_acd.specs.declared.detection.AcdSays.{AcdSays}
use Rattle.arp_acd.specs.declared.detection.AcdSays.TheVariants.{Quiet, SayProbe, SayAnnounce, Passed, Conflict, GivenUp}
use Rattle.arp_acd.specs.declared.detection.Phase.{Phase}
use Rattle.arp_acd.specs.declared.detection.Phase.TheVariants.{Probing, Announcing, Held, Over}
use Rattle.arp_acd.specs.Table as detection
use Rattle.lease_text.specs.declared.lease.TheConstants.{INFINITE_LEASE}
use Rattle.lease_text.specs.declared.lease.Terms4.{Terms4}
use Rattle.lease_text.specs.Bounds.{FitsTerms}
use Rattle.v4_client.specs.declared.moments.Backoff.TheVariants.{Four, Eight, Sixteen, ThirtyTwo, SixtyFour}
use Rattle.v4_client.specs.declared.moments.TheConstants.{SECOND}
use Rattle.v4_client.specs.declared.states.Exchange4.{Exchange4}
use Rattle.v4_client.specs.declared.states.Origin4.{Origin4}
use Rattle.v4_client.specs.declared.states.State4.{State4}
use Rattle.v4_client.specs.declared.states.State4.TheVariants.{Off, Init, Selecting, Requesting, Rebooting, Checking, Waiting, Bound, Renewing, Rebinding}
use Rattle.v4_client.specs.declared.states.Step4.{Step4}
use Rattle.v4_client.specs.declared.states.Turn4.{Turn4}
use Rattle.v4_client.specs.Clients.{ClientContent, held_terms, turn_of}
use Rattle.v4_client.specs.Detection.{checked, defended, with_acd}
use Rattle.v4_client.specs.Due.{acd_due, due_of}
use Rattle.v4_client.specs.History.{Tick, tick_step}
use Rattle.v4_client.specs.InTime.{WakesInTime, has_row}
use Rattle.v4_client.specs.Laws.{ChangesNothing}
use Rattle.v4_client.specs.Moments.{earlier, expiry, renewal_at, rebinding_at, standing_until}
use Rattle.v4_client.specs.Moves.{IsQuiet, moved, told}
use Rattle.v4_client.specs.Sound.{FitsState}
use Rattle.v4_client.specs.Steps.{rests}
use Rattle.v4_client.specs.Ticks.{bound_tick, checking_tick, detects, rebinding_tick, renewing_tick, tick_row}

-- ---- the first moment

alone : (b : Bool) → b ≡ (b || false)
alone true = refl
alone false = refl

not_due : false ≡ true → ⊥
not_due e = cc

-- a later moment adds nothing to an earlier one
absorbed : (a b c : Bool) → (b ≡ true → a ≡ true) → (a || c) ≡ (a || (b || c))
absorbed true b c before = refl
absorbed false true c before = absurd (not_due (before refl))
absorbed false false c before = refl

-- the earlier one of two has come where one of them has
either : (one other : Option ℕ) (at : ℕ) → is_due (earlier one other) at ≡ (is_due one at || is_due other at)
either None other at = refl
either (Some one) None at = alone (nat_le one at)
either (Some one) (Some other) at = grind (arith, nat_tests)

rotated : (a b c : Bool) → ((a || b) || c) ≡ (b || (c || a))
rotated true true c = refl
rotated true false true = refl
rotated true false false = refl
rotated false true c = refl
rotated false false true = refl
rotated false false false = refl

swapped : (a b : Bool) → (a || b) ≡ (b || a)
swapped true true = refl
swapped true false = refl
swapped false true = refl
swapped false false = refl

comes : (one other at : ℕ) → one ≤ other → nat_le other at ≡ true → nat_le one at ≡ true
comes one other at before come = grind (arith, nat_tests)

comes_in : (endless : Bool) (one other at : ℕ) → one ≤ other → is_due (if endless then None else Some other) at ≡ true
    → is_due (if endless then None else Some one) at ≡ true
comes_in true one other at before come = come
comes_in false one other at before come = comes one other at before come

due_comes : (end : Option ℕ) (due at : ℕ) → IfSome end (λ last. due ≤ last) → is_due end at ≡ true → nat_le due at ≡ true
due_comes None due at wakes come = absurd cc
due_comes (Some end) due at wakes come = comes due end at wakes come

t1_comes : (terms : Terms4) (at : ℕ) → FitsTerms terms → is_due (rebinding_at terms) at ≡ true → is_due (renewal_at terms) at ≡ true
t1_comes terms at fits come =
    let renews : terms.t1 ≤ terms.t2 = fits.renews in
    comes_in (eqb terms.lease INFINITE_LEASE) (terms.first + SECOND * terms.t1) (terms.first + SECOND * terms.t2) at (omega arith) come

t2_comes : (terms : Terms4) (at : ℕ) → FitsTerms terms → is_due (expiry terms) at ≡ true → is_due (rebinding_at terms) at ≡ true
t2_comes terms at fits come =
    let rebinds : terms.t2 ≤ terms.lease = fits.rebinds in
    comes_in (eqb terms.lease INFINITE_LEASE) (terms.first + SECOND * terms.t2) (terms.first + SECOND * terms.lease) at (omega arith) come

-- the rows of a held lease, of which the first one comes before its ends
bound_first : (terms : Terms4) (acd : Option ℕ) (at : ℕ) → FitsTerms terms
    → is_due (earlier (renewal_at terms) acd) at
    ≡ (is_due (renewal_at terms) at || (is_due (rebinding_at terms) at || (is_due (expiry terms) at || is_due acd at)))
bound_first terms acd at fits =
    either (renewal_at terms) acd at
    ∙ absorbed (is_due (renewal_at terms) at) (is_due (expiry terms) at) (is_due acd at) (λ e. t1_comes terms at fits (t2_comes terms at fits e))
    ∙ absorbed (is_due (renewal_at terms) at) (is_due (rebinding_at terms) at) (is_due (expiry terms) at || is_due acd at) (t1_comes terms at fits)

renewing_first : (terms : Terms4) (due : ℕ) (acd : Option ℕ) (at : ℕ) → FitsTerms terms → IfSome (rebinding_at terms) (λ last. due ≤ last)
    → is_due (earlier (Some due) acd) at
    ≡ (nat_le due at || (is_due (rebinding_at terms) at || (is_due (expiry terms) at || is_due acd at)))
renewing_first terms due acd at fits wakes =
    either (Some due) acd at
    ∙ absorbed (nat_le due at) (is_due (expiry terms) at) (is_due acd at) (λ e. due_comes (rebinding_at terms) due at wakes (t2_comes terms at fits e))
    ∙ absorbed (nat_le due at) (is_due (rebinding_at terms) at) (is_due (expiry terms) at || is_due acd at) (due_comes (rebinding_at terms) due at wakes)

rebinding_first : (terms : Terms4) (due : ℕ) (acd : Option ℕ) (at : ℕ) → IfSome (expiry terms) (λ last. due ≤ last)
    → is_due (earlier (Some due) acd) at ≡ (nat_le due at || (is_due (expiry terms) at || is_due acd at))
rebinding_first terms due acd at wakes =
    either (Some due) acd at
    ∙ absorbed (nat_le due at) (is_due (expiry terms) at) (is_due acd at) (due_comes (expiry terms) due at wakes)

first : (state : State4) (at : ℕ) → FitsState state → is_due (due_of state) at ≡ has_row state at
first Off at fits = refl
first (Init due) at fits = alone (nat_le due at)
first (Waiting due) at fits = alone (nat_le due at)
first (Selecting xid began secs backoff due) at fits = alone (nat_le due at)
first (Requesting exchange secs backoff due) at fits = alone (nat_le due at)
first (Rebooting exchange backoff end due stands) at fits =
    either (Some due) (standing_until stands) at
    ∙ (absorbed (nat_le due at) (nat_le end at) (is_due (standing_until stands) at) (comes due end at fits.wakes)
    ∙ ap (λ (b : Bool). nat_le due at || (nat_le end at || b)) (alone (is_due (standing_until stands) at)))
first (Checking xid terms origin acd stands) at fits =
    either (earlier (detection.due_of acd.phase) (expiry terms)) (standing_until stands) at
    ∙ (ap (λ (b : Bool). b || is_due (standing_until stands) at) (either (detection.due_of acd.phase) (expiry terms) at)
    ∙ rotated (is_due (detection.due_of acd.phase) at) (is_due (expiry terms) at) (is_due (standing_until stands) at))
first (Bound xid terms None) at fits = bound_first terms None at fits
first (Bound xid terms (Some acd)) at fits = bound_first terms (detection.due_of acd.phase) at fits
first (Renewing exchange terms None due) at fits = renewing_first terms due None at fits.renewal.holds fits.wakes
first (Renewing exchange terms (Some acd) due) at fits =
    renewing_first terms due (detection.due_of acd.phase) at fits.renewal.holds fits.wakes
first (Rebinding exchange terms None due) at fits = rebinding_first terms due None at fits.wakes
first (Rebinding exchange terms (Some acd) due) at fits = rebinding_first terms due (detection.due_of acd.phase) at fits.wakes

-- ---- a tick that is due does something

-- the step says nothing, and the client stands as before
record IsIdle (state : State4) (step : Step4) : Type 0 where
  same : step.state ≡ state
  silent : step.say ≡ None

-- unlike states
abbrev rank : State4 → ℕ
rank Off = 0
rank (Init due) = 1
rank (Selecting xid began secs backoff due) = 2
rank (Requesting exchange secs backoff due) = 3
rank (Rebooting exchange backoff end due stands) = 4
rank (Checking xid terms origin acd stands) = 5
rank (Waiting due) = 6
rank (Bound xid terms acd) = 7
rank (Renewing exchange terms acd due) = 8
rank (Rebinding exchange terms acd due) = 9

unlike : (m n : ℕ) → m ≡ n → eqb m n ≡ false → ⊥
unlike m n e other = let same : eqb m n ≡ true = grind (arith, nat_tests) in let no : false ≡ true = sym other ∙ same in cc

spoken : {A : Type 0} (x : A) → Some x ≡ None → ⊥
spoken x e = cc

-- conflict detection that is due goes on
abbrev sent_in : Phase → ℕ
sent_in (Probing sent due) = sent
sent_in _ = 0

abbrev phase_rank : Phase → ℕ
phase_rank (Probing sent due) = 0
phase_rank (Announcing due last) = 1
phase_rank (Held last) = 2
phase_rank Over = 3

one_more : (sent : ℕ) → sent + 1 ≡ sent → ⊥
one_more sent e = omega (arith, e)

phase_moves : (acd : Acd) (phase : Phase) (at salt : ℕ) → is_due (detection.due_of phase) at ≡ true
    → (detection.tick_row acd phase at salt).acd.phase ≡ phase → ⊥
phase_moves acd (Probing sent due) at salt come =
    split (nat_lt sent 3) (λ e. rw e (λ f. one_more sent (ap sent_in f))) (λ e. rw e (λ f. unlike _ _ (ap phase_rank f) refl))
phase_moves acd (Announcing due last) at salt come = λ f. unlike _ _ (ap phase_rank f) refl
phase_moves acd (Held last) at salt come = absurd (not_due come)
phase_moves acd Over at salt come = absurd (not_due come)

acd_moves : (acd : Acd) (at salt : ℕ) → is_due (detection.due_of acd.phase) at ≡ true → (detection.acd_tick acd at salt).acd ≡ acd → ⊥
acd_moves acd at salt come =
    rw come (λ e. phase_moves acd acd.phase at salt come (ap (λ (a : Acd). a.phase) e))

abbrev acd_in : State4 → Option Acd
acd_in (Checking xid terms origin acd stands) = Some acd
acd_in (Bound xid terms acd) = acd
acd_in (Renewing exchange terms acd due) = acd
acd_in (Rebinding exchange terms acd due) = acd
acd_in _ = None

same_acd : (here state : State4) (acd next : Acd) → acd_in here ≡ Some acd → acd_in state ≡ Some next → state ≡ here → next ≡ acd
same_acd here state acd next is was e = let same : Some next ≡ Some acd = sym was ∙ (ap acd_in e ∙ is) in cc

checks : (turn : Turn4) (xid : ℕ) (terms : Terms4) (origin : Origin4) (acd next : Acd) (stands : Option Terms4) (says : AcdSays) → (next ≡ acd → ⊥)
    → IsIdle (Checking xid terms origin acd stands) (checked turn xid terms origin next stands says) → ⊥
checks turn xid terms origin acd next stands Quiet moves idle =
    moves (same_acd (Checking xid terms origin acd stands) (Checking xid terms origin next stands) acd next refl refl idle.same)
checks turn xid terms origin acd next stands SayProbe moves idle =
    moves (same_acd (Checking xid terms origin acd stands) (Checking xid terms origin next stands) acd next refl refl idle.same)
checks turn xid terms origin acd next stands SayAnnounce moves idle =
    moves (same_acd (Checking xid terms origin acd stands) (Checking xid terms origin next stands) acd next refl refl idle.same)
checks turn xid terms origin acd next stands GivenUp moves idle =
    moves (same_acd (Checking xid terms origin acd stands) (Checking xid terms origin next stands) acd next refl refl idle.same)
checks turn xid terms origin acd next stands Passed moves idle = unlike _ _ (ap rank idle.same) refl
checks turn xid terms origin acd next stands Conflict moves idle = unlike _ _ (ap rank idle.same) refl

defends : (turn : Turn4) (xid : ℕ) (terms : Terms4) (here state : State4) (acd next : Acd) (says : AcdSays) → acd_in here ≡ Some acd
    → acd_in state ≡ Some next → (next ≡ acd → ⊥) → eqb 6 (rank here) ≡ false → IsIdle here (defended turn xid terms state says) → ⊥
defends turn xid terms here state acd next Quiet is was moves other idle = moves (same_acd here state acd next is was idle.same)
defends turn xid terms here state acd next SayProbe is was moves other idle = moves (same_acd here state acd next is was idle.same)
defends turn xid terms here state acd next SayAnnounce is was moves other idle = moves (same_acd here state acd next is was idle.same)
defends turn xid terms here state acd next Passed is was moves other idle = moves (same_acd here state acd next is was idle.same)
defends turn xid terms here state acd next Conflict is was moves other idle = moves (same_acd here state acd next is was idle.same)
defends turn xid terms here state acd next GivenUp is was moves other idle = unlike 6 (rank here) (ap rank idle.same) other

detecting : (turn : Turn4) (xid : ℕ) (terms : Terms4) (here : State4) (acd : Option Acd) → acd_in here ≡ acd
    → ((next : Acd) → acd_in (with_acd here next) ≡ Some next) → eqb 6 (rank here) ≡ false → is_due (acd_due acd) turn.at ≡ true
    → IsIdle here (detects turn xid terms here acd) → ⊥
detecting turn xid terms here None is takes other come = absurd (not_due come)
detecting turn xid terms here (Some acd) is takes other come =
    let next : Acd = (detection.acd_tick acd turn.at turn.salt).acd in
    defends turn xid terms here (with_acd here next) acd next (detection.acd_tick acd turn.at turn.salt).says is (takes next)
    (acd_moves acd turn.at turn.salt come) other

-- the second of two moments, where the first one hasn't come
or_right : (a b : Bool) → (a || b) ≡ true → a ≡ false → b ≡ true
or_right true b e none = absurd cc
or_right false b e none = e

later : (one other : Option ℕ) (at : ℕ) → is_due (earlier one other) at ≡ true → is_due one at ≡ false → is_due other at ≡ true
later one other at come early = or_right (is_due one at) (is_due other at) (sym (either one other at) ∙ come) early

sooner : (one other : Option ℕ) (at : ℕ) → is_due (earlier one other) at ≡ true → is_due other at ≡ false → is_due one at ≡ true
sooner one other at come early =
    or_right (is_due other at) (is_due one at) (swapped (is_due other at) (is_due one at) ∙ (sym (either one other at) ∙ come)) early

-- a client that stands on its kept lease doesn't stand on none
fallen : (stands : Option Terms4) (at : ℕ) → is_due (standing_until stands) at ≡ true → None ≡ stands → ⊥
fallen None at come e = not_due come
fallen (Some terms) at come e = cc

busy_checking : (turn : Turn4) (xid : ℕ) (terms : Terms4) (origin : Origin4) (acd : Acd) (stands : Option Terms4)
    → is_due (earlier (earlier (detection.due_of acd.phase) (expiry terms)) (standing_until stands)) turn.at ≡ true
    → IsIdle (Checking xid terms origin acd stands) (checking_tick turn xid terms origin acd stands) → ⊥
busy_checking turn xid terms origin acd stands come =
    let probes : Option ℕ = detection.due_of acd.phase in
    split (is_due (standing_until stands) turn.at)
    (λ e. rw e (λ idle. fallen stands turn.at e (ap held_terms idle.same)))
    (λ e. rw e (split (is_due (expiry terms) turn.at) (λ f. rw f (λ idle. unlike _ _ (ap rank idle.same) refl))
    (λ f. rw f (checks turn xid terms origin acd (detection.acd_tick acd turn.at turn.salt).acd stands
    (detection.acd_tick acd turn.at turn.salt).says
    (acd_moves acd turn.at turn.salt
    (sooner probes (expiry terms) turn.at (sooner (earlier probes (expiry terms)) (standing_until stands) turn.at come e) f))))))

busy_bound : (turn : Turn4) (xid : ℕ) (terms : Terms4) (acd : Option Acd) → is_due (earlier (renewal_at terms) (acd_due acd)) turn.at ≡ true
    → IsIdle (Bound xid terms acd) (bound_tick turn xid terms acd) → ⊥
busy_bound turn xid terms acd come =
    split (is_due (expiry terms) turn.at) (λ e. rw e (λ idle. unlike _ _ (ap rank idle.same) refl))
    (λ e. rw e (split (is_due (rebinding_at terms) turn.at) (λ f. rw f (λ idle. unlike _ _ (ap rank idle.same) refl))
    (λ f. rw f (split (is_due (renewal_at terms) turn.at) (λ g. rw g (λ idle. unlike _ _ (ap rank idle.same) refl))
    (λ g. rw g (detecting turn xid terms (Bound xid terms acd) acd refl (λ next. refl) refl (later (renewal_at terms) (acd_due acd) turn.at come g)))))))

busy_renewing : (turn : Turn4) (exchange : Exchange4) (terms : Terms4) (acd : Option Acd) (due : ℕ)
    → is_due (earlier (Some due) (acd_due acd)) turn.at ≡ true
    → IsIdle (Renewing exchange terms acd due) (renewing_tick turn exchange terms acd due) → ⊥
busy_renewing turn exchange terms acd due come =
    split (is_due (expiry terms) turn.at) (λ e. rw e (λ idle. unlike _ _ (ap rank idle.same) refl))
    (λ e. rw e (split (is_due (rebinding_at terms) turn.at) (λ f. rw f (λ idle. unlike _ _ (ap rank idle.same) refl))
    (λ f. rw f (split (nat_le due turn.at) (λ g. rw g (λ idle. spoken _ idle.silent))
    (λ g. rw g (detecting turn exchange.xid terms (Renewing exchange terms acd due) acd refl (λ next. refl) refl
    (later (Some due) (acd_due acd) turn.at come g)))))))

busy_rebinding : (turn : Turn4) (exchange : Exchange4) (terms : Terms4) (acd : Option Acd) (due : ℕ)
    → is_due (earlier (Some due) (acd_due acd)) turn.at ≡ true
    → IsIdle (Rebinding exchange terms acd due) (rebinding_tick turn exchange terms acd due) → ⊥
busy_rebinding turn exchange terms acd due come =
    split (is_due (expiry terms) turn.at) (λ e. rw e (λ idle. unlike _ _ (ap rank idle.same) refl))
    (λ e. rw e (split (nat_le due turn.at) (λ g. rw g (λ idle. spoken _ idle.silent))
    (λ g. rw g (detecting turn exchange.xid terms (Rebinding exchange terms acd due) acd refl (λ next. refl) refl
    (later (Some due) (acd_due acd) turn.at come g)))))

busy : (turn : Turn4) (state : State4) → is_due (due_of state) turn.at ≡ true → IsIdle state (tick_row turn state) → ⊥
busy turn Off come idle = not_due come
busy turn (Init due) come idle = unlike _ _ (ap rank idle.same) refl
busy turn (Waiting due) come idle = unlike _ _ (ap rank idle.same) refl
busy turn (Selecting xid began secs backoff due) come idle = spoken _ idle.silent
busy turn (Requesting exchange secs Four due) come idle = spoken _ idle.silent
busy turn (Requesting exchange secs Eight due) come idle = spoken _ idle.silent
busy turn (Requesting exchange secs Sixteen due) come idle = spoken _ idle.silent
busy turn (Requesting exchange secs ThirtyTwo due) come idle = spoken _ idle.silent
busy turn (Requesting exchange secs SixtyFour due) come idle = unlike _ _ (ap rank idle.same) refl
busy turn (Rebooting exchange backoff end due stands) come idle =
    let P : Step4 → Type 0 = λ (step : Step4). (IsIdle (Rebooting exchange backoff end due stands) step → ⊥) in
    gated P (is_due (standing_until stands) turn.at) _ _ (λ over. unlike _ _ (ap rank over.same) refl)
    (gated P (nat_le end turn.at) _ _ (λ over. unlike _ _ (ap rank over.same) refl) (λ again. spoken _ again.silent)) idle
busy turn (Checking xid terms origin acd stands) come idle = busy_checking turn xid terms origin acd stands come idle
busy turn (Bound xid terms acd) come idle = busy_bound turn xid terms acd come idle
busy turn (Renewing exchange terms acd due) come idle = busy_renewing turn exchange terms acd due come idle
busy turn (Rebinding exchange terms acd due) come idle = busy_rebinding turn exchange terms acd due come idle

-- ---- ticks

chosen : (turn : Turn4) (state : State4) (b : Bool) → is_due (due_of state) turn.at ≡ b
    → (if is_due (due_of state) turn.at then tick_row turn state else rests turn state) ≡ (if b then tick_row turn state else rests turn state)
chosen turn state b e = ap (λ (b : Bool). if b then tick_row turn state else rests turn state) e

acts : (c : ClientContent) (at salt : ℕ) → is_due (due_of c.state) (moment_of at) ≡ true → ChangesNothing (Tick at salt) c → ⊥
acts c at salt come nothing =
    let turn : Turn4 = turn_of (moment_of at) salt c in
    let same : (tick_step (moment_of at) salt c).state ≡ c.state = ap (λ (d : ClientContent). d.state) nothing.unchanged in
    let silent : (tick_step (moment_of at) salt c).say ≡ None = nothing.quiet.no_message in
    busy turn c.state come (subst (IsIdle c.state) (chosen turn c.state true come) (record { same = same; silent = silent }))

stays : (c : ClientContent) (at salt : ℕ) → is_due (due_of c.state) (moment_of at) ≡ false → ChangesNothing (Tick at salt) c
stays c at salt early =
    let turn : Turn4 = turn_of (moment_of at) salt c in
    let step : tick_step (moment_of at) salt c ≡ rests turn c.state = chosen turn c.state false early in
    record {
      unchanged = ap (λ (s : Step4). moved s c) step;
      quiet = subst (λ (s : Step4). IsQuiet (told s c)) (sym step) (record { no_message = refl; no_arp = refl; no_news = refl; no_lease = refl });
    }

pub wakes_in_time : WakesInTime
wakes_in_time c sound = record {
  first = λ at. first c.state at sound.state;
  acts = λ at salt come. acts c at salt (first c.state (moment_of at) sound.state ∙ come);
  rests = λ at salt early. stays c at salt (first c.state (moment_of at) sound.state ∙ early);
}
