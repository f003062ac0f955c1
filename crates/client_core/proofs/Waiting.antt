-- A walk over interfaces in order of place, once what is due was taken: those before a place have their moments, and the others
-- those that haven't come.
use Rattle.std.proofs.Common.{ℕ, ◌≡◌, ◌+◌, ◌<◌, ◌≤◌, Bool, true, false, cond, ◌&&◌, ◌||◌, ◌⊎◌, inl, inr, List, [], ◌∷◌, ◌++◌, zero, suc, get_or, length, set, take, Option, None, nat_eq, refl, sym, ap, subst, ◌∙◌, arith}
use Rattle.std.specs.Prelude.{nat_lt}
use Rattle.std.specs.List.{list_any}
use Rattle.std.specs.FinMap as finite
use Rattle.std.specs.Ordering.{nat_cmp, eq_by_cmp}
use Rattle.std.proofs.lemmas.Bool.{lt-ltb, le-ltb, eq-eqb, eqb-true, eqb-false, cases_lt, cases_eq}
use Rattle.std.proofs.lemmas.List.{get_or-take, get_or-set_same, get_or-set_other}
use Rattle.client_model.specs.declared.machines.TimedMachine.{TimedMachine}
use Rattle.client_core.specs.Due.{MachineDues, never, key_due, number_of, place_in, machine_in, AreMoments, PutsMoments, is_taken}
use Rattle.timer_queue.specs.Moments.{Moments, has_come, due_after, due_by}
use Rattle.counted_search.specs.Ordered.{has_key}
use Rattle.timer_queue.proofs.MomentLaws.{get_after, keys_due}
use Rattle.timer_queue.proofs.Tables.{key_itself, same_key}
use Rattle.client_core.proofs.Numbers.{placed, ranked}

-- ---- the moment of a key

pub never_due : (machine : TimedMachine) → never machine ≡ None
never_due machine = refl

past_end : {X : Type 0} (xs : List X) (n i : ℕ) (d : X) → length xs ≤ i → get_or (take n xs) i d ≡ d
past_end [] zero i d past = refl
past_end [] (suc n) i d past = refl
past_end (x ∷ xs) zero i d past = refl
past_end (x ∷ xs) (suc n) zero d past = absurd (omega arith)
past_end (x ∷ xs) (suc n) (suc i) d past = past_end xs n i d (omega arith)

pub past_front : {X : Type 0} (xs : List X) (n i : ℕ) (d : X) → n ≤ i → get_or (take n xs) i d ≡ d
past_front [] zero i d past = refl
past_front [] (suc n) i d past = refl
past_front (x ∷ xs) zero i d past = refl
past_front (x ∷ xs) (suc n) zero d past = absurd (omega arith)
past_front (x ∷ xs) (suc n) (suc i) d past = past_front xs n i d (omega arith)

-- the moment of a machine of the interface at a place
abbrev pub at_place : List MachineDues → ℕ → TimedMachine → Option ℕ
at_place dues place machine = get_or (take 64 dues) place never machine

-- what the moments of one more interface leave as they were
set_apart : (dues : List MachineDues) (place other : ℕ) (new : MachineDues) (machine : TimedMachine) → (other ≡ place → ⊥)
    → at_place (set dues place new) other machine ≡ at_place dues other machine
set_apart dues place other new machine apart = within (cases_lt other 64)
  where
    within : (other < 64) ⊎ (64 ≤ other) → at_place (set dues place new) other machine ≡ at_place dues other machine
    within (inl lt) =
        ap (λ (d : MachineDues). d machine)
        (get_or-take 64 (set dues place new) other never lt ∙ get_or-set_other dues place other new never apart ∙ sym (get_or-take 64 dues other never lt))
    within (inr ge) = ap (λ (d : MachineDues). d machine) (past_front (set dues place new) 64 other never ge ∙ sym (past_front dues 64 other never ge))

set_here : (dues : List MachineDues) (place : ℕ) (new : MachineDues) (machine : TimedMachine) → place < length dues → place < 64
    → at_place (set dues place new) place machine ≡ new machine
set_here dues place new machine lt near =
    ap (λ (d : MachineDues). d machine) (get_or-take 64 (set dues place new) place never near ∙ get_or-set_same dues place new never lt)

-- ---- the walk

abbrev pub waiting : (done : Bool) → ℕ → Option ℕ → Option ℕ
waiting true at due = due
waiting false at due = cond (has_come due at) None due

abbrev pub Waits : (place at : ℕ) → List MachineDues → Moments → Type 0
Waits place at dues moments = (key : ℕ) → finite.get moments key ≡ waiting (nat_lt (place_in key) place) at (key_due dues key)

waiting_none : (done : Bool) (at : ℕ) → waiting done at None ≡ None
waiting_none true at = refl
waiting_none false at = refl

not_come : (done : Bool) (at : ℕ) (due : Option ℕ) → has_come due at ≡ false → waiting done at due ≡ due
not_come true at due none = refl
not_come false at due none = ap (λ (b : Bool). cond b None due) none

pub waits_first : (at : ℕ) (dues : List MachineDues) (before now : Moments) → AreMoments dues before → now ≡ due_after at before → Waits 0 at dues now
waits_first at dues before now are left key =
    ap (λ (m : Moments). finite.get m key) left ∙ get_after at before key ∙ ap (λ (due : Option ℕ). cond (has_come due at) None due) (are key)
    ∙ ap (λ (done : Bool). waiting done at (key_due dues key)) (sym (le-ltb (place_in key) 0 (omega arith)))

pub waits_last : (at place : ℕ) (dues : List MachineDues) (moments : Moments) → length dues ≤ place → Waits place at dues moments → AreMoments dues moments
waits_last at place dues moments past waits key = waits key ∙ by (cases_lt (place_in key) place)
  where
    by : ((place_in key) < place) ⊎ (place ≤ (place_in key)) → waiting (nat_lt (place_in key) place) at (key_due dues key) ≡ key_due dues key
    by (inl lt) = ap (λ (done : Bool). waiting done at (key_due dues key)) (lt-ltb (place_in key) place lt)
    by (inr ge) =
        let none : key_due dues key ≡ None =
        ap (λ (d : MachineDues). d (machine_in key)) (past_end dues 64 (place_in key) never (omega arith)) ∙ never_due (machine_in key) in
        ap (waiting (nat_lt (place_in key) place) at) none ∙ waiting_none (nat_lt (place_in key) place) at ∙ sym none

pub further : (place other : ℕ) → (other ≡ place → ⊥) → nat_lt other (place + 1) ≡ nat_lt other place
further place other apart = by (cases_lt other place)
  where
    by : (other < place) ⊎ (place ≤ other) → nat_lt other (place + 1) ≡ nat_lt other place
    by (inl lt) = lt-ltb other (place + 1) (omega arith) ∙ sym (lt-ltb other place lt)
    by (inr ge) = le-ltb other (place + 1) (beyond (cases_lt place other)) ∙ sym (le-ltb other place ge)
      where
        beyond : (place < other) ⊎ (other ≤ place) → place + 1 ≤ other
        beyond (inl lt) = omega arith
        beyond (inr le) = let same : other ≡ place = omega arith in absurd (apart same)

-- an interface of which nothing is due has its moments
pub waits_skip : (at place : ℕ) (dues : List MachineDues) (moments : Moments)
    → ((machine : TimedMachine) → has_come (at_place dues place machine) at ≡ false) → Waits place at dues moments → Waits (place + 1) at dues moments
waits_skip at place dues moments none waits key = waits key ∙ by (cases_eq (place_in key) place)
  where
    by : ((place_in key) ≡ place) ⊎ ((place_in key) ≡ place → ⊥)
        → waiting (nat_lt (place_in key) place) at (key_due dues key) ≡ waiting (nat_lt (place_in key) (place + 1)) at (key_due dues key)
    by (inl same) =
        let no : has_come (key_due dues key) at ≡ false = ap (λ (i : ℕ). has_come (at_place dues i (machine_in key)) at) same ∙ none (machine_in key) in
        not_come (nat_lt (place_in key) place) at (key_due dues key) no ∙ sym (not_come (nat_lt (place_in key) (place + 1)) at (key_due dues key) no)
    by (inr apart) = ap (λ (done : Bool). waiting done at (key_due dues key)) (sym (further place (place_in key) apart))

-- one whose moments were put has them
pub waits_put : (at place : ℕ) (dues : List MachineDues) (new : MachineDues) (before now : Moments) → place < length dues
    → PutsMoments place new before now
    → Waits place at dues before → Waits (place + 1) at (set dues place new) now
waits_put at place dues new before now lt put waits key = put key ∙ by (cases_eq (place_in key) place)
  where
    here : (place < 64) ⊎ (64 ≤ place) → (place_in key) ≡ place
        → cond (nat_lt place 64 && nat_eq (place_in key) place) (new (machine_in key)) (finite.get before key)
        ≡ waiting (nat_lt (place_in key) (place + 1)) at (key_due (set dues place new) key)
    here (inl near) same =
        ap (λ (b : Bool). cond (b && nat_eq (place_in key) place) (new (machine_in key)) (finite.get before key)) (lt-ltb place 64 near)
        ∙ ap (λ (b : Bool). cond b (new (machine_in key)) (finite.get before key)) (eq-eqb (place_in key) place same)
        ∙ sym (ap (λ (done : Bool). waiting done at (key_due (set dues place new) key)) (lt-ltb (place_in key) (place + 1) (omega arith))
        ∙ ap (λ (i : ℕ). at_place (set dues place new) i (machine_in key)) same ∙ set_here dues place new (machine_in key) lt near)
    here (inr far) same =
        let old : key_due dues key ≡ None =
        ap (λ (d : MachineDues). d (machine_in key)) (past_front dues 64 (place_in key) never (omega arith)) ∙ never_due (machine_in key) in
        let none : key_due (set dues place new) key ≡ None =
        ap (λ (d : MachineDues). d (machine_in key)) (past_front (set dues place new) 64 (place_in key) never (omega arith)) ∙ never_due (machine_in key) in
        ap (λ (b : Bool). cond (b && nat_eq (place_in key) place) (new (machine_in key)) (finite.get before key)) (le-ltb place 64 far)
        ∙ waits key ∙ ap (waiting (nat_lt (place_in key) place) at) old ∙ waiting_none (nat_lt (place_in key) place) at
        ∙ sym (ap (waiting (nat_lt (place_in key) (place + 1)) at) none ∙ waiting_none (nat_lt (place_in key) (place + 1)) at)

    other : (b : Bool) → nat_eq (place_in key) place ≡ false
        → cond (b && nat_eq (place_in key) place) (new (machine_in key)) (finite.get before key) ≡ finite.get before key
    other true off = ap (λ (c : Bool). cond c (new (machine_in key)) (finite.get before key)) off
    other false off = refl

    by : ((place_in key) ≡ place) ⊎ ((place_in key) ≡ place → ⊥)
        → cond (nat_lt place 64 && nat_eq (place_in key) place) (new (machine_in key)) (finite.get before key)
        ≡ waiting (nat_lt (place_in key) (place + 1)) at (key_due (set dues place new) key)
    by (inl same) = here (cases_lt place 64) same
    by (inr apart) =
        other (nat_lt place 64) (apart_eqb (nat_eq (place_in key) place) refl) ∙ waits key
        ∙ ap (λ (done : Bool). waiting done at (key_due dues key)) (sym (further place (place_in key) apart))
        ∙ ap (waiting (nat_lt (place_in key) (place + 1)) at) (sym (set_apart dues place (place_in key) new (machine_in key) apart))
      where
        apart_eqb : (b : Bool) → nat_eq (place_in key) place ≡ b → b ≡ false
        apart_eqb true e = absurd (apart (eqb-true (place_in key) place e))
        apart_eqb false e = refl

-- ---- no interface

pub moments_none : (dues : List MachineDues) (moments : Moments) → dues ≡ [] → moments ≡ finite.empty → AreMoments dues moments
moments_none dues moments none empty key =
    ap (λ (m : Moments). finite.get m key) empty ∙ finite.get-empty nat_cmp key
    ∙ sym
    (ap (λ (all : List MachineDues). key_due all key) none
    ∙ ap (λ (d : MachineDues). d (machine_in key)) (past_end [] 64 (place_in key) never (omega arith)) ∙ never_due (machine_in key))

-- ---- what is taken

pub neither : (a b : Bool) → (a || b) ≡ false → (a ≡ false) × (b ≡ false)
neither true b none = absurd cc
neither false b none = (refl, none)

untaken_key : (keys : List ℕ) (key : ℕ) → list_any (λ (k : ℕ). nat_eq (place_in k) (place_in key)) keys ≡ false → has_key nat_cmp keys key ≡ false
untaken_key [] key none = refl
untaken_key (k ∷ keys) key none = by (eq_by_cmp nat_cmp key k) refl (untaken_key keys key)
  where
    apart : (nat_eq (place_in k) (place_in key) ≡ false) × (list_any (λ (q : ℕ). nat_eq (place_in q) (place_in key)) keys ≡ false)
    apart = neither (nat_eq (place_in k) (place_in key)) (list_any (λ (q : ℕ). nat_eq (place_in q) (place_in key)) keys) none

    by : (b : Bool) → eq_by_cmp nat_cmp key k ≡ b
        → (list_any (λ (q : ℕ). nat_eq (place_in q) (place_in key)) keys ≡ false → has_key nat_cmp keys key ≡ false) → (b || has_key nat_cmp keys key) ≡ false
    by true e rest = absurd (eqb-false (place_in k) (place_in key) apart.0 (ap (λ (q : ℕ). (place_in q)) (sym (same_key key k e))))
    by false e rest = rest apart.1

-- of an interface that wasn't taken no machine is due
pub untaken : (at : ℕ) (dues : List MachineDues) (moments : Moments) (place : ℕ) → AreMoments dues moments → is_taken at moments place ≡ false
    → (machine : TimedMachine) → has_come (at_place dues place machine) at ≡ false
untaken at dues moments place are none machine =
    let key : ℕ = number_of place machine in
    let keys : List ℕ = finite.keys (due_by at moments) in
    ap (λ (due : Option ℕ). has_come due at) (sym (are key ∙ (λ i. at_place dues (placed place machine i) (ranked place machine i))))
    ∙ sym (keys_due at moments key)
    ∙ untaken_key keys key (subst (λ (here : ℕ). list_any (λ (k : ℕ). nat_eq (place_in k) here) keys ≡ false) (sym (placed place machine)) none)

or_true : (b : Bool) → (b || true) ≡ true
or_true true = refl
or_true false = refl

some_key : (keys : List ℕ) (place : ℕ) → list_any (λ (k : ℕ). nat_eq (place_in k) place) keys ≡ true
    → (key : ℕ) × (place_in key ≡ place) × (has_key nat_cmp keys key ≡ true)
some_key [] place some = let never : false ≡ true = some in absurd cc
some_key (k ∷ keys) place some = by (nat_eq (place_in k) place) refl some (some_key keys place)
  where
    by : (b : Bool) → nat_eq (place_in k) place ≡ b → (b || list_any (λ (q : ℕ). nat_eq (place_in q) place) keys) ≡ true
        → (list_any (λ (q : ℕ). nat_eq (place_in q) place) keys ≡ true → (key : ℕ) × (place_in key ≡ place) × (has_key nat_cmp keys key ≡ true))
        → (key : ℕ) × (place_in key ≡ place) × (has_key nat_cmp (k ∷ keys) key ≡ true)
    by true e some rest = (k, eqb-true (place_in k) place e, ap (λ (b : Bool). b || has_key nat_cmp keys k) (key_itself k))
    by false e some rest =
        let further = rest some in
        (further.0, further.1, ap (λ (b : Bool). eq_by_cmp nat_cmp further.0 k || b) further.2 ∙ or_true (eq_by_cmp nat_cmp further.0 k))

-- of one that was taken a machine is due
pub taken_due : (at : ℕ) (dues : List MachineDues) (moments : Moments) (place : ℕ) → AreMoments dues moments → is_taken at moments place ≡ true
    → (machine : TimedMachine) × (has_come (at_place dues place machine) at ≡ true)
taken_due at dues moments place are taken =
    let found = some_key (finite.keys (due_by at moments)) place taken in
    let key : ℕ = found.0 in
    let machine : TimedMachine = machine_in key in (
      machine,
      ap (λ (here : ℕ). has_come (at_place dues here machine) at) (sym found.1) ∙ ap (λ (due : Option ℕ). has_come due at) (sym (are key))
          ∙ sym (keys_due at moments key) ∙ found.2,
    )

-- ---- the moments while they are put, one interface after another

grown_apart : (dues : List MachineDues) (other : ℕ) (new : MachineDues) (machine : TimedMachine) → (other ≡ length dues → ⊥)
    → at_place (dues ++ new ∷ []) other machine ≡ at_place dues other machine
grown_apart dues other new machine apart = ap (λ (d : MachineDues). d machine) (first dues 64 other apart)
  where
    first : (xs : List MachineDues) (n i : ℕ) → (i ≡ length xs → ⊥) → get_or (take n (xs ++ new ∷ [])) i never ≡ get_or (take n xs) i never
    first [] zero i apart = refl
    first [] (suc n) zero apart = absurd (apart refl)
    first [] (suc n) (suc i) apart = past_end [] n i never (omega arith)
    first (x ∷ xs) zero i apart = refl
    first (x ∷ xs) (suc n) zero apart = refl
    first (x ∷ xs) (suc n) (suc i) apart = first xs n i (λ e. apart (ap suc e))

grown_here : (dues : List MachineDues) (new : MachineDues) (machine : TimedMachine) → length dues < 64
    → at_place (dues ++ new ∷ []) (length dues) machine ≡ new machine
grown_here dues new machine near = ap (λ (d : MachineDues). d machine) (get_or-take 64 (dues ++ new ∷ []) (length dues) never near ∙ last dues)
  where
    last : (xs : List MachineDues) → get_or (xs ++ new ∷ []) (length xs) never ≡ new
    last [] = refl
    last (x ∷ xs) = last xs

pub moments_more : (dues : List MachineDues) (place : ℕ) (new : MachineDues) (before now : Moments) → length dues ≡ place
    → PutsMoments place new before now
    → AreMoments dues before → AreMoments (dues ++ new ∷ []) now
moments_more dues place new before now long put are key = put key ∙ by (cases_eq (place_in key) place)
  where
    here : (place < 64) ⊎ (64 ≤ place) → (place_in key) ≡ place
        → cond (nat_lt place 64 && nat_eq (place_in key) place) (new (machine_in key)) (finite.get before key) ≡ key_due (dues ++ new ∷ []) key
    here (inl near) same =
        ap (λ (b : Bool). cond (b && nat_eq (place_in key) place) (new (machine_in key)) (finite.get before key)) (lt-ltb place 64 near)
        ∙ ap (λ (b : Bool). cond b (new (machine_in key)) (finite.get before key)) (eq-eqb (place_in key) place same)
        ∙ sym
        (ap (λ (i : ℕ). at_place (dues ++ new ∷ []) i (machine_in key)) (same ∙ sym long)
        ∙ grown_here dues new (machine_in key) (omega (arith, near, long)))
    here (inr far) same =
        ap (λ (b : Bool). cond (b && nat_eq (place_in key) place) (new (machine_in key)) (finite.get before key)) (le-ltb place 64 far)
        ∙ are key
        ∙ ap (λ (d : MachineDues). d (machine_in key))
        (past_front dues 64 (place_in key) never (omega arith) ∙ sym (past_front (dues ++ new ∷ []) 64 (place_in key) never (omega arith)))

    other : (b : Bool) → nat_eq (place_in key) place ≡ false
        → cond (b && nat_eq (place_in key) place) (new (machine_in key)) (finite.get before key) ≡ finite.get before key
    other true off = ap (λ (c : Bool). cond c (new (machine_in key)) (finite.get before key)) off
    other false off = refl

    by : ((place_in key) ≡ place) ⊎ ((place_in key) ≡ place → ⊥)
        → cond (nat_lt place 64 && nat_eq (place_in key) place) (new (machine_in key)) (finite.get before key) ≡ key_due (dues ++ new ∷ []) key
    by (inl same) = here (cases_lt place 64) same
    by (inr apart) =
        other (nat_lt place 64) (apart_eqb (nat_eq (place_in key) place) refl) ∙ are key
        ∙ sym (grown_apart dues (place_in key) new (machine_in key) (λ e. apart (e ∙ long)))
      where
        apart_eqb : (b : Bool) → nat_eq (place_in key) place ≡ b → b ≡ false
        apart_eqb true e = absurd (apart (eqb-true (place_in key) place e))
        apart_eqb false e = refl
