-- What timers and their table say of keys, and what a change of both makes of that.
use Rattle.std.proofs.Common.{◌≡◌, ℕ, zero, suc, ◌+◌, ◌*◌, ◌<◌, ◌≤◌, Bool, true, false, cond, eqb, not, ◌||◌, ◌&&◌, List, [], ◌∷◌, map, length, set, Option, Some, None, is_some, refl, sym, ap, subst, ◌∙◌, ⊎_elim, arith, eq-eqb}
use Rattle.std.specs.Prelude.{count_by}
use Rattle.std.specs.List.Sorted.{IsStrictlySortedBy}
use Rattle.std.specs.declared.cmp.Ordering.{Ordering}
use Rattle.std.specs.declared.cmp.Ordering.TheVariants.{Less, Equal, Greater}
use Rattle.std.specs.Ordering.{nat_cmp, eq_by_cmp, is_eq, ordering_then}
use Rattle.std.specs.Cmp.{Equal-is, tied_itself, nat_cmp_total}
use Rattle.std.specs.FinMap.{find, get, insert, remove, IsAntisymmetric, nat_cmp-IsAntisymmetric, same_map, get-from_entries, get-remove, get-insert}
use Rattle.std.proofs.lemmas.Bool.{cases_Bool, cases_lt, false≢true}
use Rattle.std.proofs.lemmas.Bool.Decides.{nat_tests}
use Rattle.std.proofs.lemmas.List.{get_or-set_same, get_or-set_other, get_or_past}
use Rattle.std.proofs.lemmas.List.Folds.{sum_by-replicate}
use Rattle.std.proofs.lemmas.List.Sums.{sum_by-set, sum_by-cons, count_by-le-length}
use Rattle.std.proofs.Math.ListN.{length-set, replicate}
use Rattle.timer_queue.specs.declared.timer.Timer.{Timer}
use Rattle.timer_queue.specs.Timers.{timer_cmp, timer_cmp_total}
use Rattle.counted_search.specs.Ordered.{has_key}
use Rattle.timer_queue.specs.Moments.{Moments}
use Rattle.timer_queue.specs.Mirrors.{entry_of, moments_of, moment_at, is_moment, Mirrors}

-- ---- keys and timers that tie are one

pub same_key : (a b : ℕ) → eq_by_cmp nat_cmp a b ≡ true → a ≡ b
same_key a b e = nat_cmp-IsAntisymmetric a b ((Equal-is (nat_cmp a b)).0 e)

pub key_itself : (key : ℕ) → eq_by_cmp nat_cmp key key ≡ true
key_itself key = ap is_eq (tied_itself nat_cmp_total key)

then_equal : (a b : Ordering) → ordering_then a b ≡ Equal → (a ≡ Equal) × (b ≡ Equal)
then_equal Less b e = cc
then_equal Equal b e = (refl, e)
then_equal Greater b e = cc

pub timer_exact : IsAntisymmetric timer_cmp
timer_exact s t e =
    let both = then_equal (nat_cmp t.due s.due) (nat_cmp t.key s.key) e in
    let dues : s.due ≡ t.due = sym (nat_cmp-IsAntisymmetric t.due s.due both.0) in
    let keys : s.key ≡ t.key = sym (nat_cmp-IsAntisymmetric t.key s.key both.1) in
    λ i. record { due = dues i; key = keys i }

same_timer : (s t : Timer) → eq_by_cmp timer_cmp s t ≡ true → s ≡ t
same_timer s t e = timer_exact s t ((Equal-is (timer_cmp s t)).0 e)

itself : (t : Timer) → eq_by_cmp timer_cmp t t ≡ true
itself t = ap is_eq (tied_itself timer_cmp_total t)

or_true : (a : Bool) → (a || true) ≡ true
or_true true = refl
or_true false = refl

-- ---- what is found among timers

find_has : (q : ℕ) (d : ℕ) (timers : List Timer) → find nat_cmp q (map entry_of timers) ≡ Some d → has_key timer_cmp timers (record { due = d; key = q }) ≡ true
find_has q d [] e = cc
find_has q d (t ∷ ts) e = by (find_has q d ts) (eq_by_cmp nat_cmp q t.key) refl e
  where
    by : (find nat_cmp q (map entry_of ts) ≡ Some d → has_key timer_cmp ts (record { due = d; key = q }) ≡ true) → (b : Bool) → eq_by_cmp nat_cmp q t.key ≡ b
        → cond b (Some t.due) (find nat_cmp q (map entry_of ts)) ≡ Some d → has_key timer_cmp (t ∷ ts) (record { due = d; key = q }) ≡ true
    by later true same is =
        let dues : t.due ≡ d = cc in
        let keys : t.key ≡ q = sym (same_key q t.key same) in
        subst (λ (s : Timer). has_key timer_cmp (t ∷ ts) s ≡ true) (λ i. record { due = dues i; key = keys i })
        (ap (λ b. b || has_key timer_cmp ts t) (itself t))
    by later false other is = ap (λ b. eq_by_cmp timer_cmp (record { due = d; key = q }) t || b) (later is) ∙ or_true _

has_find : (s : Timer) (timers : List Timer) → has_key timer_cmp timers s ≡ true → is_some (find nat_cmp s.key (map entry_of timers)) ≡ true
has_find s [] h = absurd (false≢true h)
has_find s (t ∷ ts) h = by (has_find s ts) (eq_by_cmp nat_cmp s.key t.key) refl
  where
    key_of : eq_by_cmp timer_cmp s t ≡ true → eq_by_cmp nat_cmp s.key t.key ≡ true
    key_of e = subst (λ (u : Timer). eq_by_cmp nat_cmp s.key u.key ≡ true) (same_timer s t e) (ap is_eq (tied_itself nat_cmp_total s.key))

    later : (b : Bool) → (b ≡ true → eq_by_cmp nat_cmp s.key t.key ≡ true) → eq_by_cmp nat_cmp s.key t.key ≡ false → (b || has_key timer_cmp ts s) ≡ true
        → has_key timer_cmp ts s ≡ true
    later true k n h = absurd (false≢true (sym n ∙ k refl))
    later false k n h = h

    by : (has_key timer_cmp ts s ≡ true → is_some (find nat_cmp s.key (map entry_of ts)) ≡ true) → (b : Bool) → eq_by_cmp nat_cmp s.key t.key ≡ b
        → is_some (cond b (Some t.due) (find nat_cmp s.key (map entry_of ts))) ≡ true
    by rest true same = refl
    by rest false other = rest (later (eq_by_cmp timer_cmp s t) key_of other h)

pub is_moment_of : (m : Option ℕ) (d : ℕ) → is_moment m d ≡ true → m ≡ Some d
is_moment_of None d e = absurd (false≢true e)
is_moment_of (Some m) d e = let same : m ≡ d = grind (arith, nat_tests) in ap Some same

-- a queue says of a key what its table has at the key's place
pub get_mirrored : (timers : List Timer) (table : List (Option ℕ)) → Mirrors timers table → (q : ℕ) → get (moments_of timers) q ≡ moment_at table q
get_mirrored timers table m q =
    get-from_entries nat_cmp_total (map entry_of timers) q ∙ by (find nat_cmp q (map entry_of timers)) (moment_at table q) refl refl
  where
    by : (found at : Option ℕ) → find nat_cmp q (map entry_of timers) ≡ found → moment_at table q ≡ at → found ≡ at
    by (Some d) at f a = sym (is_moment_of at d (ap (λ o. is_moment o d) (sym a) ∙ sym (m.mirrored (record { due = d; key = q })) ∙ find_has q d timers f))
    by None None f a = refl
    by None (Some d) f a =
        let there : has_key timer_cmp timers (record { due = d; key = q }) ≡ true =
        m.mirrored (record { due = d; key = q }) ∙ ap (λ o. is_moment o d) a ∙ eq-eqb d d refl in
        absurd (false≢true (sym (ap is_some f) ∙ has_find (record { due = d; key = q }) timers there))

-- ---- a place of the table that changes

pub table_set : (table : List (Option ℕ)) (key q : ℕ) (v : Option ℕ) → key < length table
    → moment_at (set table key v) q ≡ cond (eq_by_cmp nat_cmp q key) v (moment_at table q)
table_set table key q v within = by (eq_by_cmp nat_cmp q key) refl
  where
    by : (b : Bool) → eq_by_cmp nat_cmp q key ≡ b → moment_at (set table key v) q ≡ cond b v (moment_at table q)
    by true same = ap (λ (k : ℕ). moment_at (set table key v) k) (same_key q key same) ∙ get_or-set_same table key v None within
    by false other = get_or-set_other table key q v None (λ e. false≢true (sym other ∙ ap is_eq (ap (λ n. nat_cmp n key) e ∙ tied_itself nat_cmp_total key)))

-- ---- a timer less

module _ (timers after : List Timer) (table : List (Option ℕ)) (key : ℕ) (d : ℕ) (m : Mirrors timers table) (within : key < length table)
    (is : moment_at table key ≡ Some d) (sorted : IsStrictlySortedBy timer_cmp after)
    (has : (q : Timer) → has_key timer_cmp after q ≡ (not (eq_by_cmp timer_cmp q (record { due = d; key = key })) && has_key timer_cmp timers q)) where
  abbrev gone : Timer
  gone = record { due = d; key = key }

  pub had : has_key timer_cmp timers gone ≡ true
  had = m.mirrored gone ∙ ap (λ o. is_moment o d) is ∙ eq-eqb d d refl

  pub mirrors_cleared : Mirrors after (set table key None)
  mirrors_cleared =
      record {
        ordered = sorted;
        mirrored = λ s. has s ∙ by s (eq_by_cmp nat_cmp s.key key) refl ∙ ap (λ o. is_moment o s.due) (sym (table_set table key s.key None within));
      }
    where
      apart : (s : Timer) → eq_by_cmp nat_cmp s.key key ≡ false → eq_by_cmp timer_cmp s gone ≡ false
      apart s n =
          ⊎_elim
          (λ e. absurd
          (false≢true (sym n ∙ ap (λ (t : Timer). eq_by_cmp nat_cmp t.key key) (same_timer s gone e) ∙ ap is_eq (tied_itself nat_cmp_total key))))
          (λ f. f) (cases_Bool (eq_by_cmp timer_cmp s gone))

      none : (s : Timer) → s.key ≡ key → (b : Bool) → eq_by_cmp timer_cmp s gone ≡ b → (not b && has_key timer_cmp timers s) ≡ false
      none s k true e = refl
      none s k false e = ⊎_elim
          (λ h. let dues : s.due ≡ d = let found : Some d ≡ Some s.due = sym is ∙ ap (λ (x : ℕ). moment_at table x) (sym k)
          ∙ is_moment_of _ s.due (sym (m.mirrored s) ∙ h) in cc in
          absurd (false≢true (sym e ∙ subst (λ (t : Timer). eq_by_cmp timer_cmp s t ≡ true) (λ i. record { due = dues i; key = k i }) (itself s))))
          (λ f. f) (cases_Bool (has_key timer_cmp timers s))

      by : (s : Timer) (b : Bool) → eq_by_cmp nat_cmp s.key key ≡ b
          → (not (eq_by_cmp timer_cmp s gone) && has_key timer_cmp timers s) ≡ is_moment (cond b None (moment_at table s.key)) s.due
      by s true same = none s (same_key s.key key same) (eq_by_cmp timer_cmp s gone) refl
      by s false other = ap (λ b. not b && has_key timer_cmp timers s) (apart s other) ∙ m.mirrored s

  pub moments_cleared : moments_of after ≡ remove (moments_of timers) key
  moments_cleared = same_map nat_cmp_total nat_cmp-IsAntisymmetric _ _ (λ q.
      get_mirrored after (set table key None) mirrors_cleared q ∙ table_set table key q None within
      ∙ ap (λ o. cond (eq_by_cmp nat_cmp q key) None o) (sym (get_mirrored timers table m q)) ∙ sym (get-remove nat_cmp_total (moments_of timers) key q))

-- what isn't set isn't taken away
pub moments_same : (moments : Moments) (key : ℕ) → get moments key ≡ None → moments ≡ remove moments key
moments_same moments key none =
    same_map nat_cmp_total nat_cmp-IsAntisymmetric _ _ (λ q. by q (eq_by_cmp nat_cmp q key) refl ∙ sym (get-remove nat_cmp_total moments key q))
  where
    by : (q : ℕ) (b : Bool) → eq_by_cmp nat_cmp q key ≡ b → get moments q ≡ cond b None (get moments q)
    by q true same = ap (get moments) (same_key q key same) ∙ none
    by q false other = refl

-- ---- a timer more

module _ (timers after : List Timer) (table : List (Option ℕ)) (key : ℕ) (d : ℕ) (m : Mirrors timers table) (within : key < length table)
    (is : moment_at table key ≡ None) (sorted : IsStrictlySortedBy timer_cmp after)
    (has : (q : Timer) → has_key timer_cmp after q ≡ (eq_by_cmp timer_cmp q (record { due = d; key = key }) || has_key timer_cmp timers q)) where
  abbrev come : Timer
  come = record { due = d; key = key }

  pub lacked : has_key timer_cmp timers come ≡ false
  lacked = m.mirrored come ∙ ap (λ o. is_moment o d) is

  pub mirrors_set : Mirrors after (set table key (Some d))
  mirrors_set =
      record {
        ordered = sorted;
        mirrored = λ s. has s ∙ by s (eq_by_cmp nat_cmp s.key key) refl ∙ ap (λ o. is_moment o s.due) (sym (table_set table key s.key (Some d) within));
      }
    where
      apart : (s : Timer) → eq_by_cmp nat_cmp s.key key ≡ false → eq_by_cmp timer_cmp s come ≡ false
      apart s n =
          ⊎_elim
          (λ e. absurd
          (false≢true (sym n ∙ ap (λ (t : Timer). eq_by_cmp nat_cmp t.key key) (same_timer s come e) ∙ ap is_eq (tied_itself nat_cmp_total key))))
          (λ f. f) (cases_Bool (eq_by_cmp timer_cmp s come))

      one : (s : Timer) → s.key ≡ key → (b : Bool) → eq_by_cmp timer_cmp s come ≡ b → b ≡ eqb d s.due
      one s k true e = sym (eq-eqb d s.due (ap (λ (t : Timer). t.due) (sym (same_timer s come e))))
      one s k false e = ⊎_elim
          (λ h. let dues : s.due ≡ d = grind (arith, nat_tests) in
          absurd (false≢true (sym e ∙ subst (λ (t : Timer). eq_by_cmp timer_cmp s t ≡ true) (λ i. record { due = dues i; key = k i }) (itself s))))
          (λ f. sym f) (cases_Bool (eqb d s.due))

      or_false : (b : Bool) → (b || false) ≡ b
      or_false true = refl
      or_false false = refl

      by : (s : Timer) (b : Bool) → eq_by_cmp nat_cmp s.key key ≡ b
          → (eq_by_cmp timer_cmp s come || has_key timer_cmp timers s) ≡ is_moment (cond b (Some d) (moment_at table s.key)) s.due
      by s true same =
          let k : s.key ≡ key = same_key s.key key same in
          ap (λ b. eq_by_cmp timer_cmp s come || b) (m.mirrored s ∙ ap (λ o. is_moment o s.due) (ap (λ (x : ℕ). moment_at table x) k ∙ is))
          ∙ or_false (eq_by_cmp timer_cmp s come) ∙ one s k (eq_by_cmp timer_cmp s come) refl
      by s false other = ap (λ b. b || has_key timer_cmp timers s) (apart s other) ∙ m.mirrored s

  pub moments_set : moments_of after ≡ insert (moments_of timers) key d
  moments_set = same_map nat_cmp_total nat_cmp-IsAntisymmetric _ _ (λ q.
      get_mirrored after (set table key (Some d)) mirrors_set q ∙ table_set table key q (Some d) within
      ∙ ap (λ o. cond (eq_by_cmp nat_cmp q key) (Some d) o) (sym (get_mirrored timers table m q)) ∙ sym (get-insert nat_cmp_total (moments_of timers) key d q))

-- ---- how many are set

one_less : (a b c : ℕ) → a + c ≡ b + 0 → c ≡ 1 → a + 1 ≡ b
one_less a b c e is = omega arith

one_more : (a b c : ℕ) → a + c ≡ b + 1 → c ≡ 0 → a ≡ b + 1
one_more a b c e is = omega arith

abbrev set_or_not : Option ℕ → ℕ
set_or_not o = cond (is_some o) 1 0

pub count_cleared : (table : List (Option ℕ)) (i d : ℕ) → i < length table → moment_at table i ≡ Some d
    → count_by is_some (set table i None) + 1 ≡ count_by is_some table
count_cleared table i d within is = one_less _ _ _ (sum_by-set set_or_not table i None None within) (ap set_or_not is)

pub count_set : (table : List (Option ℕ)) (i d : ℕ) → i < length table → moment_at table i ≡ None
    → count_by is_some (set table i (Some d)) ≡ count_by is_some table + 1
count_set table i d within is = one_more _ _ _ (sum_by-set set_or_not table i (Some d) None within) (ap set_or_not is)

pub count_below : (table : List (Option ℕ)) (i : ℕ) → i < length table → moment_at table i ≡ None → count_by is_some table + 1 ≤ length table
count_below table i within is =
    let more = count_set table i 0 within is in
    let most = count_by-le-length is_some (set table i (Some 0)) in
    let same = length-set table i (Some 0) in
    bound _ _ _ _ more most same
  where
    bound : (a b c d : ℕ) → a ≡ b + 1 → a ≤ c → c ≡ d → b + 1 ≤ d
    bound a b c d e h f = omega arith

-- ---- maps

pub none_of : (o : Option ℕ) → ((d : ℕ) → o ≡ Some d → ⊥) → o ≡ None
none_of None h = refl
none_of (Some d) h = absurd (h d refl)

pub removed_none : (moments : Moments) (key : ℕ) → get (remove moments key) key ≡ None
removed_none moments key = get-remove nat_cmp_total moments key key ∙ ap (λ b. cond b None (get moments key)) (ap is_eq (tied_itself nat_cmp_total key))

pub insert_removed : (moments : Moments) (key : ℕ) (d : ℕ) → insert (remove moments key) key d ≡ insert moments key d
insert_removed moments key d = same_map nat_cmp_total nat_cmp-IsAntisymmetric _ _ (λ q.
    get-insert nat_cmp_total (remove moments key) key d q ∙ ap (cond (eq_by_cmp nat_cmp q key) (Some d)) (get-remove nat_cmp_total moments key q)
    ∙ by (eq_by_cmp nat_cmp q key) (get moments q) ∙ sym (get-insert nat_cmp_total moments key d q))
  where
    by : (b : Bool) (o : Option ℕ) → cond b (Some d) (cond b None o) ≡ cond b (Some d) o
    by true o = refl
    by false o = refl

-- ---- a queue in which nothing is set

no_sum : (n : ℕ) → 1 + n ≡ 0 → ⊥
no_sum n e = omega arith

none_set : (table : List (Option ℕ)) (i : ℕ) → count_by is_some table ≡ 0 → moment_at table i ≡ None
none_set [] i e = refl
none_set (None ∷ table) zero e = refl
none_set (None ∷ table) (suc i) e = none_set table i e
none_set (Some d ∷ table) i e = absurd (no_sum _ (sym (sum_by-cons set_or_not (Some d) table) ∙ e))

pub empty_mirrors : (timers : List Timer) (table : List (Option ℕ)) → timers ≡ [] → count_by is_some table ≡ 0 → Mirrors timers table
unfolding IsStrictlySortedBy
empty_mirrors timers table e none = record {
  ordered = subst (IsStrictlySortedBy timer_cmp) (sym e) tt;
  mirrored = λ timer. ap (λ l. has_key timer_cmp l timer) e ∙ sym (ap (λ o. is_moment o timer.due) (none_set table timer.key none));
}

pub none_counted : (n : ℕ) → count_by is_some (replicate {A = Option ℕ} n None) ≡ 0
none_counted n = let none : n * 0 ≡ 0 = omega arith in sum_by-replicate set_or_not n None ∙ none

-- where a moment is, there is a place
pub placed : (table : List (Option ℕ)) (i d : ℕ) → moment_at table i ≡ Some d → i < length table
placed table i d e = ⊎_elim (λ lt. lt) (λ ge. cc (sym e ∙ get_or_past table i None ge)) (cases_lt i (length table))
