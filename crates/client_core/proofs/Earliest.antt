-- The earliest moment of all interfaces: that of a queue, or one of those that the queue hasn't.
use Rattle.std.proofs.Common.{ℕ, zero, suc, ◌≡◌, ◌+◌, ◌-◌, ◌<◌, ◌≤◌, ◌⊎◌, inl, inr, ◌&&◌, ◌||◌, nat_eq, List, [], ◌∷◌, ◌++◌, Option, Some, None, get_or, length, map, min, take, drop, take-append-drop, refl, sym, ap, subst, ◌∙◌, arith}
use Rattle.std.specs.Prelude.{IfSome, MatchOption}
use Rattle.std.specs.FinMap as finite
use Rattle.std.proofs.lemmas.Bool.{cases_lt}
use Rattle.std.proofs.lemmas.List.{drop_all, length-drop, length-map, length-take-le, map_more, take-map, take_all}
use Rattle.std.proofs.Math.Nat.{min-eq_left, min-eq_right, min-le_left}
use Rattle.client_model.specs.declared.interfaces.Iface.{Iface}
use Rattle.client_model.specs.Clients.{client_due, earlier}
use Rattle.client_model.specs.IfaceSteps.{index_of}
use Rattle.client_model.specs.Interfaces.{iface_due, machine_due}
use Rattle.client_core.specs.declared.named.Named.{Named}
use Rattle.client_model.specs.declared.machines.TimedMachine.{TimedMachine}
use Rattle.client_model.specs.declared.machines.TimedMachine.TheVariants.{Dhcp4, LinkLocal, Dhcp6}
use Rattle.client_core.specs.Due.{AreMoments, MachineDues, PutsMoments, dues_of, machine_in, never, number_of, place_in}
use Rattle.std.specs.Ordering.{nat_cmp}
use Rattle.timer_queue.specs.Moments.{Moments, IsEarliest}
use Rattle.client_core.specs.Names.{AreNamed, named_as}
use Rattle.client_core.specs.Places.{has}
use Rattle.client_core.proofs.Naming.{named_more}
use Rattle.client_core.proofs.Numbers.{placed, ranked}
use Rattle.client_core.proofs.Waiting.{moments_more, never_due}

-- ---- the earlier of two moments

abbrev AtLeast : ℕ → Option ℕ → Type 0
AtLeast d due = IfSome due (λ moment. d ≤ moment)

min_least : (d a b : ℕ) → d ≤ a → d ≤ b → d ≤ min a b
min_least d a b la lb = by (cases_lt a b)
  where
    by : (a < b) ⊎ (b ≤ a) → d ≤ min a b
    by (inl lt) = subst (λ (m : ℕ). d ≤ m) (sym (min-eq_left (omega arith))) la
    by (inr ge) = subst (λ (m : ℕ). d ≤ m) (sym (min-eq_right ge)) lb

both_least : (d : ℕ) (a b : Option ℕ) → AtLeast d a → AtLeast d b → AtLeast d (earlier a b)
both_least d None b la lb = lb
both_least d (Some a) None la lb = la
both_least d (Some a) (Some b) la lb = min_least d a b la lb

first_least : (d : ℕ) (a b : Option ℕ) → a ≡ Some d → AtLeast d b → earlier a b ≡ Some d
first_least d a None is lb = ap (λ (o : Option ℕ). earlier o None) is
first_least d a (Some b) is lb = ap (λ (o : Option ℕ). earlier o (Some b)) is ∙ ap (λ (m : ℕ). Some m) (min-eq_left lb)

second_least : (d : ℕ) (a b : Option ℕ) → AtLeast d a → b ≡ Some d → earlier a b ≡ Some d
second_least d None b la is = is
second_least d (Some a) b la is = ap (earlier (Some a)) is ∙ ap (λ (m : ℕ). Some m) (min-eq_right la)

min_apart : (a b c : ℕ) → min (min a b) c ≡ min a (min b c)
min_apart a b c = by (cases_lt a b)
  where
    by : (a < b) ⊎ (b ≤ a) → min (min a b) c ≡ min a (min b c)
    by (inl lt) = ap (λ (m : ℕ). min m c) (min-eq_left (omega arith)) ∙ last (cases_lt b c)
      where
        last : (b < c) ⊎ (c ≤ b) → min a c ≡ min a (min b c)
        last (inl less) =
            min-eq_left (omega arith) ∙ sym (min-eq_left (omega arith)) ∙ ap (λ (m : ℕ). min a m) (sym (min-eq_left (omega arith)))
        last (inr ge) = ap (λ (m : ℕ). min a m) (sym (min-eq_right ge))
    by (inr ge) =
        ap (λ (m : ℕ). min m c) (min-eq_right ge)
        ∙ sym (min-eq_right (omega (arith, ge, min-le_left b c)))

pub earlier_apart : (a b c : Option ℕ) → earlier (earlier a b) c ≡ earlier a (earlier b c)
earlier_apart None b c = refl
earlier_apart (Some a) None c = refl
earlier_apart (Some a) (Some b) None = refl
earlier_apart (Some a) (Some b) (Some c) = ap (λ (m : ℕ). Some m) (min_apart a b c)

pub earliest_apart : (xs ys : List Iface) → client_due (xs ++ ys) ≡ earlier (client_due xs) (client_due ys)
earliest_apart [] ys = refl
earliest_apart (x ∷ xs) ys = ap (earlier (iface_due x)) (earliest_apart xs ys) ∙ sym (earlier_apart (iface_due x) (client_due xs) (client_due ys))

-- ---- the moments of one interface

iface_least : (d : ℕ) (iface : Iface) → ((machine : TimedMachine) → AtLeast d (dues_of iface machine)) → AtLeast d (iface_due iface)
iface_least d iface all =
    both_least d (earlier (machine_due Dhcp4 iface) (machine_due LinkLocal iface)) (machine_due Dhcp6 iface)
    (both_least d (machine_due Dhcp4 iface) (machine_due LinkLocal iface) (all Dhcp4) (all LinkLocal)) (all Dhcp6)

iface_reached : (d : ℕ) (iface : Iface) (machine : TimedMachine) → dues_of iface machine ≡ Some d
    → ((other : TimedMachine) → AtLeast d (dues_of iface other)) → iface_due iface ≡ Some d
iface_reached d iface Dhcp4 is all =
    first_least d (earlier (machine_due Dhcp4 iface) (machine_due LinkLocal iface)) (machine_due Dhcp6 iface)
    (first_least d (machine_due Dhcp4 iface) (machine_due LinkLocal iface) is (all LinkLocal)) (all Dhcp6)
iface_reached d iface LinkLocal is all =
    first_least d (earlier (machine_due Dhcp4 iface) (machine_due LinkLocal iface)) (machine_due Dhcp6 iface)
    (second_least d (machine_due Dhcp4 iface) (machine_due LinkLocal iface) (all Dhcp4) is) (all Dhcp6)
iface_reached d iface Dhcp6 is all =
    second_least d (earlier (machine_due Dhcp4 iface) (machine_due LinkLocal iface)) (machine_due Dhcp6 iface)
    (both_least d (machine_due Dhcp4 iface) (machine_due LinkLocal iface) (all Dhcp4) (all LinkLocal)) is

iface_never : (iface : Iface) → ((machine : TimedMachine) → dues_of iface machine ≡ None) → iface_due iface ≡ None
iface_never iface none = λ i. earlier (earlier (none Dhcp4 i) (none LinkLocal i)) (none Dhcp6 i)

-- ---- the moments of all

-- the moment of a machine of the interface at a place
abbrev due_at : List Iface → ℕ → TimedMachine → Option ℕ
due_at ifaces place machine = get_or (map dues_of ifaces) place never machine

all_least : (d : ℕ) (ifaces : List Iface) → ((place : ℕ) (machine : TimedMachine) → AtLeast d (due_at ifaces place machine)) → AtLeast d (client_due ifaces)
all_least d [] all = tt
all_least d (iface ∷ ifaces) all =
    both_least d (iface_due iface) (client_due ifaces) (iface_least d iface (all 0)) (all_least d ifaces (λ (place : ℕ). all (suc place)))

all_reached : (d : ℕ) (ifaces : List Iface) (place : ℕ) (machine : TimedMachine) → due_at ifaces place machine ≡ Some d
    → ((other : ℕ) (machine : TimedMachine) → AtLeast d (due_at ifaces other machine)) → client_due ifaces ≡ Some d
all_reached d [] place machine is all = let none : None ≡ Some d = sym (never_due machine) ∙ is in absurd cc
all_reached d (iface ∷ ifaces) zero machine is all =
    first_least d (iface_due iface) (client_due ifaces) (iface_reached d iface machine is (all 0)) (all_least d ifaces (λ (place : ℕ). all (suc place)))
all_reached d (iface ∷ ifaces) (suc place) machine is all =
    second_least d (iface_due iface) (client_due ifaces) (iface_least d iface (all 0)) (all_reached d ifaces place machine is (λ (other : ℕ). all (suc other)))

all_never : (ifaces : List Iface) → ((place : ℕ) (machine : TimedMachine) → due_at ifaces place machine ≡ None) → client_due ifaces ≡ None
all_never [] none = refl
all_never (iface ∷ ifaces) none = λ i. earlier (iface_never iface (none 0) i) (all_never ifaces (λ (place : ℕ). none (suc place)) i)

-- ---- the queue has those of the first interfaces

module _ (ifaces : List Iface) (moments : Moments) (are : AreMoments (map dues_of ifaces) moments) where
  keyed : (key : ℕ) → finite.get moments key ≡ due_at (take 64 ifaces) (place_in key) (machine_in key)
  keyed key = are key ∙ ap (λ (all : List MachineDues). get_or all (place_in key) never (machine_in key)) (take-map dues_of 64 ifaces)

  numbered_at : (place : ℕ) (machine : TimedMachine) → finite.get moments (number_of place machine) ≡ due_at (take 64 ifaces) place machine
  numbered_at place machine = keyed (number_of place machine) ∙ (λ i. due_at (take 64 ifaces) (placed place machine i) (ranked place machine i))

  queue_first : (first : Option ℕ) → MatchOption first (moments ≡ finite.empty) (IsEarliest moments) → first ≡ client_due (take 64 ifaces)
  queue_first None empty =
      sym (all_never (take 64 ifaces) (λ (place : ℕ) (machine : TimedMachine).
      let key : ℕ = number_of place machine in
      sym (numbered_at place machine) ∙ ap (λ (m : Moments). finite.get m key) empty ∙ finite.get-empty nat_cmp key))
  queue_first (Some d) first =
      sym
      (all_reached d (take 64 ifaces) (place_in first.key) (machine_in first.key) (sym (keyed first.key) ∙ first.set)
      (λ (place : ℕ) (machine : TimedMachine).
      subst (AtLeast d) (numbered_at place machine) (first.least (number_of place machine))))

  others_are : (n : ℕ) → n ≡ min 64 (length ifaces) → take (length ifaces - n) (drop n ifaces) ≡ drop 64 ifaces
  others_are n is =
      take_all (length ifaces - n) (drop n ifaces) (subst (λ (left : ℕ). left ≤ length ifaces - n) (sym (length-drop n ifaces)) (omega arith))
      ∙ ap (λ (m : ℕ). drop m ifaces) is ∙ by (cases_lt 64 (length ifaces))
    where
      by : (64 < length ifaces) ⊎ (length ifaces ≤ 64) → drop (min 64 (length ifaces)) ifaces ≡ drop 64 ifaces
      by (inl lt) = ap (λ (n : ℕ). drop n ifaces) (min-eq_left (omega arith))
      by (inr ge) =
          ap (λ (n : ℕ). drop n ifaces) (min-eq_right ge) ∙ drop_all (length ifaces) ifaces (omega arith) ∙ sym (drop_all 64 ifaces ge)

  pub first_of_all : (first : Option ℕ) (n : ℕ) → MatchOption first (moments ≡ finite.empty) (IsEarliest moments) → n ≡ min 64 (length ifaces)
      → earlier first (client_due (take (length ifaces - n) (drop n ifaces))) ≡ client_due ifaces
  first_of_all first n earliest is =
      (λ i. earlier (queue_first first earliest i) (client_due (others_are n is i)))
      ∙ sym (earliest_apart (take 64 ifaces) (drop 64 ifaces)) ∙ ap client_due (take-append-drop 64 ifaces)

-- ---- a queue of a further place

pub due_more : (ifaces : List Iface) (place : ℕ) (d iface : Iface) (before now : Moments) → place < length ifaces
    → AreMoments (map dues_of (take place ifaces)) before → iface ≡ get_or ifaces place d → PutsMoments place (dues_of iface) before now
    → AreMoments (map dues_of (take (place + 1) ifaces)) now
due_more ifaces place d iface before now lt are is puts =
    let long : length (map dues_of (take place ifaces)) ≡ place =
    length-map (take place ifaces) dues_of ∙ length-take-le place ifaces (omega arith) in
    subst (λ (all : List MachineDues). AreMoments all now)
    (ap (λ (last : Iface). map dues_of (take place ifaces) ++ dues_of last ∷ []) is ∙ sym (map_more dues_of ifaces place d lt))
    (moments_more (map dues_of (take place ifaces)) place (dues_of iface) before now long puts are)

-- ---- the names of a further place

pub name_more : (ifaces : List Iface) (place : ℕ) (d : Iface) (old new : Named) → place < length ifaces → AreNamed (map index_of (take place ifaces)) old
    → ((index at : ℕ) → has (named_as new index) at ≡ ((nat_eq index (index_of (get_or ifaces place d)) && nat_eq at place) || has (named_as old index) at))
    → AreNamed (map index_of (take (place + 1) ifaces)) new
name_more ifaces place d old new lt named adds =
    let long : place ≡ length (map index_of (take place ifaces)) =
    sym (length-map (take place ifaces) index_of ∙ length-take-le place ifaces (omega arith)) in
    subst (λ (indices : List ℕ). AreNamed indices new) (sym (map_more index_of ifaces place d lt))
    (named_more (map index_of (take place ifaces)) (index_of (get_or ifaces place d)) place old new long adds named)
