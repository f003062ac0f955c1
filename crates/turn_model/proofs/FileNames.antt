-- The files that a life keeps have unlike names, and none is another's aside.
use Rattle.std.proofs.Common.{◌≡◌, ℕ, Bool, true, false, List, [], ◌∷◌, ◌++◌, bytes_eq, refl, sym, ap, ◌∙◌, arith}
use Rattle.std.specs.Prelude.{codes, map, flat_map}
use Rattle.std.specs.List.{AllByRecursion, IsDistinct}
use Rattle.std.proofs.lemmas.List.{append_cancel_right}
use Rattle.std.proofs.lemmas.Slice.Eq.{bytes_eq-Decides}
use Rattle.net_types.specs.NameText.{name_text}
use Rattle.world.specs.FileNames.{aside_of, is_name}
use Rattle.world.proofs.NameOrder.{unlike_name}
use Rattle.client_model.specs.IfaceSettings.declared.interfaces.Managed.{Managed}
use Rattle.client_model.specs.ClientSettings.{runs_dhcp4}
use Rattle.client_model.specs.ClientSettings6.{runs_dhcp6, some_need_duid}
use Rattle.turn_model.specs.KeptFiles.{Keeps, Duid, Lease4, Lease6, Resolver}
use Rattle.turn_model.specs.Loading.{duid_file, resolver_file, lease4_file, lease6_file}
use Rattle.turn_model.specs.FilesInLife.{AreNamedApart, Filed, filed_if, filed_for, filed_by}

-- a name is neither another nor its aside
pub record Clear (name other : List ℕ) : Type 0 where
  pub file : is_name name other ≡ false
  pub aside : is_name name (aside_of other) ≡ false

pub record Apart (a b : Filed) : Type 0 where
  pub one : Clear a.name b.name
  pub two : Clear b.name a.name

abbrev pub AreApart : List Filed → Type 0
AreApart [] = Unit {0}
AreApart (filed ∷ others) = AllByRecursion (Apart filed) others × AreApart others

-- ---- names and their ends

last_of : ℕ → List ℕ → ℕ
last_of d [] = d
last_of d (x ∷ xs) = last_of x xs

last_is : (d : ℕ) (front : List ℕ) (x : ℕ) (end : List ℕ) → last_of d (front ++ x ∷ end) ≡ last_of x end
unfolding last_of
last_is d [] x end = refl
last_is d (y ∷ front) x end = last_is y front x end

-- an aside's name ends in this letter
abbrev w : ℕ
w = 119

-- the name of a file ends in this byte, which no aside's name ends in
record EndsIn (byte : ℕ) (name : List ℕ) : Type 0 where
  last : last_of 0 name ≡ byte
  other : byte ≡ w → ⊥

aside_ends : (name : List ℕ) → last_of 0 (aside_of name) ≡ w
unfolding last_of
aside_ends name = last_is 0 name 46 (codes "new")

clear : (x : ℕ) (a b : List ℕ) → EndsIn x a → (a ≡ b → ⊥) → Clear a b
clear x a b ends unlike = record {
  file = unlike_name a b unlike;
  aside = unlike_name a (aside_of b) (λ e. ends.other (sym ends.last ∙ ap (last_of 0) e ∙ aside_ends b));
}

-- two files with unlike names
apart : (x y : ℕ) (a b : Filed) → EndsIn x a.name → EndsIn y b.name → (a.name ≡ b.name → ⊥) → Apart a b
apart x y a b here there unlike = record {
  one = clear x a.name b.name here unlike;
  two = clear y b.name a.name there (λ e. unlike (sym e));
}

-- names with unlike ends are unlike
ends_differ : (x y : ℕ) (a b : List ℕ) → EndsIn x a → EndsIn y b → (x ≡ y → ⊥) → a ≡ b → ⊥
ends_differ x y a b here there unlike e = unlike (sym here.last ∙ ap (last_of 0) e ∙ there.last)

-- ---- the files of a life

abbrev filed : Keeps → List ℕ → Filed
filed keeps name = record { keeps = keeps; name = name }

abbrev filed4 : Managed → Filed
filed4 m = filed (Lease4 m.spec.index.number) (lease4_file m)

abbrev filed6 : Managed → Filed
filed6 m = filed (Lease6 m.spec.index.number) (lease6_file m)

duid_ends : EndsIn 100 duid_file
unfolding last_of
duid_ends = record { last = refl; other = λ e. absurd (omega (arith, e)) }

resolver_ends : EndsIn 102 resolver_file
unfolding last_of
resolver_ends = record { last = refl; other = λ e. absurd (omega (arith, e)) }

ends4 : (m : Managed) → EndsIn 52 (lease4_file m)
unfolding last_of
ends4 m = record { last = last_is 0 (name_text m.spec.name) 46 (codes "lease4"); other = λ e. absurd (omega (arith, e)) }

ends6 : (m : Managed) → EndsIn 54 (lease6_file m)
unfolding last_of
ends6 m = record { last = last_is 0 (name_text m.spec.name) 46 (codes "lease6"); other = λ e. absurd (omega (arith, e)) }

abbrev AreUnlike : Managed → Managed → Type 0
AreUnlike a b = bytes_eq (name_text a.spec.name) (name_text b.spec.name) ≡ false

names_differ : (end : List ℕ) (a b : Managed) → AreUnlike a b → name_text a.spec.name ++ end ≡ name_text b.spec.name ++ end → ⊥
names_differ end a b unlike e =
    absurd (let bad : true ≡ false = sym ((bytes_eq-Decides _ _).1 (append_cancel_right (name_text a.spec.name) (name_text b.spec.name) end e)) ∙ unlike in cc)

both4 : (a b : Managed) → AreUnlike a b → Apart (filed4 a) (filed4 b)
both4 a b unlike = apart 52 52 (filed4 a) (filed4 b) (ends4 a) (ends4 b) (names_differ (codes ".lease4") a b unlike)

both6 : (a b : Managed) → AreUnlike a b → Apart (filed6 a) (filed6 b)
both6 a b unlike = apart 54 54 (filed6 a) (filed6 b) (ends6 a) (ends6 b) (names_differ (codes ".lease6") a b unlike)

four_six : (a b : Managed) → Apart (filed4 a) (filed6 b)
four_six a b =
    apart 52 54 (filed4 a) (filed6 b) (ends4 a) (ends6 b)
    (ends_differ 52 54 (lease4_file a) (lease6_file b) (ends4 a) (ends6 b) (λ e. absurd (omega (arith, e))))

six_four : (a b : Managed) → Apart (filed6 a) (filed4 b)
six_four a b =
    apart 54 52 (filed6 a) (filed4 b) (ends6 a) (ends4 b)
    (ends_differ 54 52 (lease6_file a) (lease4_file b) (ends6 a) (ends4 b) (λ e. absurd (omega (arith, e))))

duid_four : (duid : List ℕ) (m : Managed) → Apart (filed (Duid duid) duid_file) (filed4 m)
duid_four duid m =
    apart 100 52 (filed (Duid duid) duid_file) (filed4 m) duid_ends (ends4 m)
    (ends_differ 100 52 duid_file (lease4_file m) duid_ends (ends4 m) (λ e. absurd (omega (arith, e))))

duid_six : (duid : List ℕ) (m : Managed) → Apart (filed (Duid duid) duid_file) (filed6 m)
duid_six duid m =
    apart 100 54 (filed (Duid duid) duid_file) (filed6 m) duid_ends (ends6 m)
    (ends_differ 100 54 duid_file (lease6_file m) duid_ends (ends6 m) (λ e. absurd (omega (arith, e))))

abbrev filed_resolver : Filed
filed_resolver = filed Resolver resolver_file

resolver_four : (m : Managed) → Apart filed_resolver (filed4 m)
resolver_four m =
    apart 102 52 filed_resolver (filed4 m) resolver_ends (ends4 m)
    (ends_differ 102 52 resolver_file (lease4_file m) resolver_ends (ends4 m) (λ e. absurd (omega (arith, e))))

resolver_six : (m : Managed) → Apart filed_resolver (filed6 m)
resolver_six m =
    apart 102 54 filed_resolver (filed6 m) resolver_ends (ends6 m)
    (ends_differ 102 54 resolver_file (lease6_file m) resolver_ends (ends6 m) (λ e. absurd (omega (arith, e))))

duid_resolver : (duid : List ℕ) → Apart (filed (Duid duid) duid_file) filed_resolver
duid_resolver duid =
    apart 100 102 (filed (Duid duid) duid_file) filed_resolver duid_ends resolver_ends
    (ends_differ 100 102 duid_file resolver_file duid_ends resolver_ends (λ e. absurd (omega (arith, e))))

-- ---- all of them

module _ (one : Filed) where
  -- a file is apart from those of an interface, and from the rest
  with_those : (m : Managed) (runs4 runs6 : Bool) (rest : List Filed) → Apart one (filed4 m) → Apart one (filed6 m) → AllByRecursion (Apart one) rest
      → AllByRecursion (Apart one)
      ((filed_if runs4 (Lease4 m.spec.index.number) (lease4_file m) ++ filed_if runs6 (Lease6 m.spec.index.number) (lease6_file m)) ++ rest)
  with_those m true true rest four six those = (four, (six, those))
  with_those m true false rest four six those = (four, those)
  with_those m false true rest four six those = (six, those)
  with_those m false false rest four six those = those

  from_all : (Other : Managed → Type 0) → ((m : Managed) → Other m → Apart one (filed4 m)) → ((m : Managed) → Other m → Apart one (filed6 m))
      → (others : List Managed) → AllByRecursion Other others → AllByRecursion (Apart one) (flat_map filed_for others)
  from_all Other four six [] all = tt
  from_all Other four six (m ∷ others) all =
      with_those m (runs_dhcp4 m.conf) (runs_dhcp6 m.conf) (flat_map filed_for others) (four m all.0) (six m all.0) (from_all Other four six others all.1)

-- those of an interface are apart, and apart from the rest
module _ (a : Managed) (rest : List Filed) (four : AllByRecursion (Apart (filed4 a)) rest) (six : AllByRecursion (Apart (filed6 a)) rest)
    (are : AreApart rest) where
  with_own : (runs4 runs6 : Bool)
      → AreApart ((filed_if runs4 (Lease4 a.spec.index.number) (lease4_file a) ++ filed_if runs6 (Lease6 a.spec.index.number) (lease6_file a)) ++ rest)
  with_own true true = ((four_six a a, four), (six, are))
  with_own true false = (four, are)
  with_own false true = (six, are)
  with_own false false = are

all_unlike : (a : Managed) (others : List Managed)
    → AllByRecursion (λ name. bytes_eq (name_text a.spec.name) name ≡ false) (map (λ (m : Managed). name_text m.spec.name) others)
    → AllByRecursion (AreUnlike a) others
all_unlike a [] h = tt
all_unlike a (b ∷ others) h = (h.0, all_unlike a others h.1)

leases_apart : (managed : List Managed) → AreNamedApart managed → AreApart (flat_map filed_for managed)
unfolding IsDistinct
leases_apart [] h = tt
leases_apart (a ∷ others) h =
    let unlike : AllByRecursion (AreUnlike a) others = all_unlike a others h.0 in
    with_own a (flat_map filed_for others)
    (from_all (filed4 a) (AreUnlike a) (λ m other. both4 a m other) (λ m other. four_six a m) others unlike)
    (from_all (filed6 a) (AreUnlike a) (λ m other. six_four a m) (λ m other. both6 a m other) others unlike)
    (leases_apart others h.1) (runs_dhcp4 a.conf) (runs_dhcp6 a.conf)

any_of : (managed : List Managed) → AllByRecursion (λ (m : Managed). Unit {0}) managed
any_of [] = tt
any_of (m ∷ managed) = (tt, any_of managed)

-- one file more, behind the others
from_last : (one last : Filed) (files : List Filed) → AllByRecursion (Apart one) files → Apart one last → AllByRecursion (Apart one) (files ++ last ∷ [])
from_last one last [] those here = (here, tt)
from_last one last (file ∷ files) those here = (those.0, from_last one last files those.1 here)

with_last : (last : Filed) (files : List Filed) → AllByRecursion (Apart last) files → AreApart files → AreApart (files ++ last ∷ [])
with_last last [] those are = (tt, tt)
with_last last (file ∷ files) those are =
    (from_last file last files are.0 (record { one = those.0.two; two = those.0.one }), with_last last files those.1 are.1)

with_resolver : (managed : List Managed) → AreApart (flat_map filed_for managed) → AreApart (flat_map filed_for managed ++ filed_if true Resolver resolver_file)
with_resolver managed are =
    with_last filed_resolver (flat_map filed_for managed)
    (from_all filed_resolver (λ m. Unit {0}) (λ m other. resolver_four m) (λ m other. resolver_six m) managed (any_of managed)) are

with_duid : (is_kept : Bool) (duid : List ℕ) (managed : List Managed) → AreApart (flat_map filed_for managed ++ filed_if true Resolver resolver_file)
    → AreApart (filed_if is_kept (Duid duid) duid_file ++ (flat_map filed_for managed ++ filed_if true Resolver resolver_file))
with_duid true duid managed are =
    let one : Filed = filed (Duid duid) duid_file in
    let leases = from_all one (λ m. Unit {0}) (λ m other. duid_four duid m) (λ m other. duid_six duid m) managed (any_of managed) in
    (from_last one filed_resolver (flat_map filed_for managed) leases (duid_resolver duid), are)
with_duid false duid managed are = are

pub are_apart : (duid : List ℕ) (managed : List Managed) → AreNamedApart managed → AreApart (filed_by duid managed)
are_apart duid managed h = with_duid (some_need_duid managed) duid managed (with_resolver managed (leases_apart managed h))
