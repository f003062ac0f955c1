-- What is put of one machine after another.
use Rattle.std.proofs.Common.{ℕ, ◌≡◌, ◌+◌, ◌<◌, ◌≤◌, ◌&&◌, Bool, true, false, cond, ◌⊎◌, inl, inr, Option, Some, None, nat_eq, refl, sym, ap, ◌∙◌, arith}
use Rattle.std.specs.Prelude.{nat_lt}
use Rattle.std.specs.FinMap as finite
use Rattle.std.specs.Cmp.{nat_cmp_total}
use Rattle.std.specs.Ordering.{nat_cmp, eq_by_cmp}
use Rattle.std.proofs.lemmas.Bool.{eq-eqb, eqb-true, lt-ltb, le-ltb, cases_eq}
use Rattle.client_model.specs.declared.machines.TimedMachine.{TimedMachine}
use Rattle.timer_queue.specs.Moments.{Moments}
use Rattle.timer_queue.proofs.Tables.{same_key, key_itself}
use Rattle.client_core.specs.Due.{MachineDues, PutsMoments, machine_in, number_of, place_in, rank_of}
use Rattle.client_core.proofs.Numbers.{numbered, placed, rank_below, rank_exact, ranked}
use Rattle.client_core.proofs.Waiting.{further}

off : (b : Bool) → (b ≡ true → ⊥) → b ≡ false
off true never = absurd (never refl)
off false never = refl

same_test : (a b : ℕ) → eq_by_cmp nat_cmp a b ≡ nat_eq a b
same_test a b = by (cases_eq a b)
  where
    by : (a ≡ b) ⊎ (a ≡ b → ⊥) → eq_by_cmp nat_cmp a b ≡ nat_eq a b
    by (inl same) = sym (ap (eq_by_cmp nat_cmp a) same) ∙ key_itself a ∙ sym (eq-eqb a b same)
    by (inr apart) = off (eq_by_cmp nat_cmp a b) (λ e. apart (same_key a b e)) ∙ sym (off (nat_eq a b) (λ e. apart (eqb-true a b e)))

-- what one put leaves
abbrev pub PutsOne : ℕ → Option ℕ → (old new : Moments) → Type 0
PutsOne number due old new = (key : ℕ) → finite.get new key ≡ cond (nat_eq key number) due (finite.get old key)

pub put_some : (old new : Moments) (number at : ℕ) (due : Option ℕ) → due ≡ Some at → new ≡ finite.insert old number at → PutsOne number due old new
put_some old new number at due is set key =
    ap (λ (m : Moments). finite.get m key) set ∙ finite.get-insert nat_cmp_total old number at key
    ∙ ap (λ (b : Bool). cond b (Some at) (finite.get old key)) (same_test key number)
    ∙ ap (λ (d : Option ℕ). cond (nat_eq key number) d (finite.get old key)) (sym is)

pub put_none : (old new : Moments) (number : ℕ) (due : Option ℕ) → due ≡ None → new ≡ finite.remove old number → PutsOne number due old new
put_none old new number due is cleared key =
    ap (λ (m : Moments). finite.get m key) cleared ∙ finite.get-remove nat_cmp_total old number key
    ∙ ap (λ (b : Bool). cond b None (finite.get old key)) (same_test key number)
    ∙ ap (λ (d : Option ℕ). cond (nat_eq key number) d (finite.get old key)) (sym is)

-- ---- the machines of an interface, by rank

-- those below a rank have their moments
abbrev pub PutsBelow : (place rank : ℕ) → MachineDues → (old new : Moments) → Type 0
PutsBelow place rank dues old new =
    (key : ℕ) → finite.get new key ≡ cond (nat_eq (place_in key) place && nat_lt (rank_of (machine_in key)) rank) (dues (machine_in key)) (finite.get old key)

and_false : (b : Bool) → (b && false) ≡ false
and_false true = refl
and_false false = refl

pub puts_none : (place : ℕ) (dues : MachineDues) (old : Moments) → PutsBelow place 0 dues old old
puts_none place dues old key =
    sym
    (ap (λ (b : Bool). cond (nat_eq (place_in key) place && b) (dues (machine_in key)) (finite.get old key))
    (le-ltb (rank_of (machine_in key)) 0 (omega arith))
    ∙ ap (λ (b : Bool). cond b (dues (machine_in key)) (finite.get old key)) (and_false (nat_eq (place_in key) place)))

module _ (place rank : ℕ) (machine : TimedMachine) (dues : MachineDues) (old before now : Moments) (is : rank_of machine ≡ rank)
    (below : PutsBelow place rank dues old before) (one : PutsOne (number_of place machine) (dues machine) before now) where
  abbrev chosen : (here under : Bool) → (key : ℕ) → Option ℕ
  chosen here under key = cond (here && under) (dues (machine_in key)) (finite.get old key)

  this : (key : ℕ) → key ≡ number_of place machine
      → finite.get now key ≡ chosen (nat_eq (place_in key) place) (nat_lt (rank_of (machine_in key)) (rank + 1)) key
  this key same =
      let who : machine_in key ≡ machine = ap machine_in same ∙ ranked place machine in
      let where_it_is : place_in key ≡ place = ap place_in same ∙ placed place machine in
      let under : rank_of (machine_in key) ≡ rank = ap rank_of who ∙ is in
      one key ∙ ap (λ (b : Bool). cond b (dues machine) (finite.get before key)) (eq-eqb key (number_of place machine) same)
      ∙ sym (ap (λ (b : Bool). chosen b (nat_lt (rank_of (machine_in key)) (rank + 1)) key) (eq-eqb (place_in key) place where_it_is)
      ∙ ap (λ (b : Bool). chosen true b key) (lt-ltb (rank_of (machine_in key)) (rank + 1) (omega arith))
      ∙ ap dues who)

  apart_here : (key : ℕ) → (key ≡ number_of place machine → ⊥) → (place_in key ≡ place) ⊎ (place_in key ≡ place → ⊥)
      → chosen (nat_eq (place_in key) place) (nat_lt (rank_of (machine_in key)) rank) key
      ≡ chosen (nat_eq (place_in key) place) (nat_lt (rank_of (machine_in key)) (rank + 1)) key
  apart_here key apart (inl same) =
      ap (λ (b : Bool). chosen (nat_eq (place_in key) place) b key)
      (sym (further rank (rank_of (machine_in key))
      (λ e. apart (sym (numbered key) ∙ (λ i. number_of (same i) (rank_exact (machine_in key) machine (e ∙ sym is) i))))))
  apart_here key apart (inr other) =
      let no : nat_eq (place_in key) place ≡ false = off (nat_eq (place_in key) place) (λ e. other (eqb-true (place_in key) place e)) in
      ap (λ (b : Bool). chosen b (nat_lt (rank_of (machine_in key)) rank) key) no
      ∙ sym (ap (λ (b : Bool). chosen b (nat_lt (rank_of (machine_in key)) (rank + 1)) key) no)

  pub puts_more : PutsBelow place (rank + 1) dues old now
  puts_more key = by (cases_eq key (number_of place machine))
    where
      by : (key ≡ number_of place machine) ⊎ (key ≡ number_of place machine → ⊥)
          → finite.get now key ≡ chosen (nat_eq (place_in key) place) (nat_lt (rank_of (machine_in key)) (rank + 1)) key
      by (inl same) = this key same
      by (inr apart) =
          one key
          ∙ ap (λ (b : Bool). cond b (dues machine) (finite.get before key))
          (off (nat_eq key (number_of place machine)) (λ e. apart (eqb-true key (number_of place machine) e)))
          ∙ below key ∙ apart_here key apart (cases_eq (place_in key) place)

-- of all machines
pub puts_all : (place rank : ℕ) (dues : MachineDues) (old new : Moments) → place < 64 → 3 ≤ rank → PutsBelow place rank dues old new
    → PutsMoments place dues old new
puts_all place rank dues old new near all below key =
    below key
    ∙ ap (λ (b : Bool). cond (nat_eq (place_in key) place && b) (dues (machine_in key)) (finite.get old key))
    (lt-ltb (rank_of (machine_in key)) rank (omega (arith, all, rank_below (machine_in key))))
    ∙ ap (λ (b : Bool). cond b (dues (machine_in key)) (finite.get old key)) (turned (nat_eq (place_in key) place))
    ∙ sym (ap (λ (b : Bool). cond (b && nat_eq (place_in key) place) (dues (machine_in key)) (finite.get old key)) (lt-ltb place 64 near))
  where
    turned : (b : Bool) → (b && true) ≡ (true && b)
    turned true = refl
    turned false = refl
