-- The interfaces that a configuration has managed are some of a script's, so they are as unlike as these.
use Rattle.std.proofs.Common.{ℕ, ◌≡◌, ◌<◌, Bool, true, false, nat_eq, List, [], ◌∷◌, map, length, get_or, Some, None, refl, sym, ap, subst, ◌∙◌, arith}
use Rattle.std.specs.Prelude.{filter, AllPairs, if◌then◌else◌}
use Rattle.std.specs.List.{AllByRecursion, IsDistinct, cons_option}
use Rattle.std.proofs.lemmas.Bool.Decides.{nat_tests}
use Rattle.std.proofs.lemmas.List.{get_or-map, length-map}
use Rattle.std.proofs.lemmas.List.Kept.{AllPairs-filter}
use Rattle.std.proofs.lemmas.Map.Keys.{apart_from_distinct}
use Rattle.net_types.specs.declared.interface.IfSpec.{IfSpec}
use Rattle.settings.specs.declared.interfaces.Managed.{Managed}
use Rattle.settings.specs.Fitting.{AreManaged}
use Rattle.script_model.specs.Scripts.{CountsFrom, FitInterfaces, Unlike}
use Rattle.conf_text.specs.Configurations.{Configuration}
use Rattle.conf_text.specs.Choosing.{is_managed}
use Rattle.conf_text.specs.Settings.{settings_for, managed_with, managed_among, managed_of}
use Rattle.audit_reasons.specs.Evidence.Laws.{AreNumbered}
use Rattle.audit_reasons.proofs.Evidence.Numbered.{counted}
use Rattle.lab_laws.specs.LabClients.{AreApart, AreClients}

-- ---- what is left of a list

module _ {A B : Type 0} (f : A → B) (keeps : A → Bool) where
  all_kept : (P : B → Type 0) (xs : List A) → AllByRecursion P (map f xs) → AllByRecursion P (map f (filter keeps xs))
  all_kept P [] all = tt
  all_kept P (x ∷ xs) all =
      elim (keeps x) as (λ kept. AllByRecursion P (map f (if kept then x ∷ filter keeps xs else filter keeps xs))) [
        | true ↦ (all.0, all_kept P xs all.1)
        | false ↦ all_kept P xs all.1
      ]

  distinct_kept : (alike : B → B → Bool) (xs : List A) → IsDistinct alike (map f xs) → IsDistinct alike (map f (filter keeps xs))
  unfolding IsDistinct
  distinct_kept alike [] distinct = tt
  distinct_kept alike (x ∷ xs) distinct =
      elim (keeps x) as (λ kept. IsDistinct alike (map f (if kept then x ∷ filter keeps xs else filter keeps xs))) [
        | true ↦ (all_kept (λ y. alike (f x) y ≡ false) xs distinct.0, distinct_kept alike xs distinct.1)
        | false ↦ distinct_kept alike xs distinct.1
      ]

-- ---- the managed interfaces

abbrev spec_of : Managed → IfSpec
spec_of managed = managed.spec

abbrev number_in : IfSpec → ℕ
number_in spec = spec.index.number

each_number : (managed : List Managed) → map (λ (m : Managed). m.spec.index.number) managed ≡ map number_in (map spec_of managed)
each_number [] = refl
each_number (m ∷ managed) = ap (λ others. m.spec.index.number ∷ others) (each_number managed)

module _ (conf : Configuration) (all : List IfSpec) where
  abbrev keeps : IfSpec → Bool
  keeps spec = is_managed conf spec.name

  managed_specs : (specs : List IfSpec) → map spec_of (managed_among conf all specs) ≡ filter keeps specs
  managed_specs [] = refl
  managed_specs (spec ∷ specs) =
      elim (keeps spec) as (λ kept.
      map spec_of (cons_option (managed_with spec (if kept then Some (settings_for conf all spec) else None)) (managed_among conf all specs))
      ≡ (if kept then spec ∷ filter keeps specs else filter keeps specs)) [
        | true ↦ ap (λ others. spec ∷ others) (managed_specs specs)
        | false ↦ managed_specs specs
      ]

  -- as if all were managed
  abbrev all_of : List IfSpec → List Managed
  all_of specs = map (λ (spec : IfSpec). record { spec = spec; conf = settings_for conf all spec }) specs

  all_specs : (specs : List IfSpec) → map spec_of (all_of specs) ≡ specs
  all_specs [] = refl
  all_specs (spec ∷ specs) = ap (λ others. spec ∷ others) (all_specs specs)

pub managed_unlike : (conf : Configuration) (specs : List IfSpec) → AllPairs Unlike specs
    → AllPairs Unlike (map (λ (m : Managed). m.spec) (managed_of conf specs))
managed_unlike conf specs pairs = subst (AllPairs Unlike) (sym (managed_specs conf specs specs)) (AllPairs-filter Unlike (keeps conf specs) specs pairs)

-- those that count from 1 have unlike numbers, and so have some of them
pub managed_numbered : (conf : Configuration) (specs : List IfSpec) → CountsFrom 1 specs → AreNumbered (managed_of conf specs)
managed_numbered conf specs counts =
    let together : List Managed = all_of conf specs specs in
    let all : AreNumbered together = counted 1 together (subst (CountsFrom 1) (sym (all_specs conf specs specs)) counts) in
    let apart : IsDistinct nat_eq (map number_in specs) =
    subst (IsDistinct nat_eq) (each_number together ∙ ap (map number_in) (all_specs conf specs specs)) all in
    subst (IsDistinct nat_eq) (sym (each_number (managed_of conf specs) ∙ ap (map number_in) (managed_specs conf specs specs)))
    (distinct_kept number_in (keeps conf specs) nat_eq specs apart)

-- ---- clients of a lab

itself : (n : ℕ) → nat_eq n n ≡ true
itself n = grind (arith, nat_tests)

module _ (managed : List Managed) (unlike : AllPairs Unlike (map spec_of managed)) (numbered : AreNumbered managed) where
  spec_at : (i : ℕ) (d : Managed) → i < length managed → get_or (map spec_of managed) i d.spec ≡ (get_or managed i d).spec
  spec_at i d within = get_or-map spec_of managed i d d.spec within

  number_at : (i : ℕ) (d : Managed) → i < length managed
      → get_or (map (λ (m : Managed). m.spec.index.number) managed) i d.spec.index.number ≡ (get_or managed i d).spec.index.number
  number_at i d within = get_or-map (λ (m : Managed). m.spec.index.number) managed i d d.spec.index.number within

  all_apart : AllPairs AreApart managed
  all_apart i j d before within =
      let first : i < length managed = omega (arith, before, within) in
      let pair : Unlike (get_or managed i d).spec (get_or managed j d).spec =
      subst (λ (s : IfSpec). Unlike s (get_or managed j d).spec) (spec_at i d first)
      (subst (λ (s : IfSpec). Unlike (get_or (map spec_of managed) i d.spec) s) (spec_at j d within)
      (unlike i j d.spec before (omega (arith, within, length-map managed spec_of)))) in
      let differ : nat_eq (get_or managed i d).spec.index.number (get_or managed j d).spec.index.number ≡ false =
      subst (λ (n : ℕ). nat_eq n (get_or managed j d).spec.index.number ≡ false) (number_at i d first)
      (subst (λ (n : ℕ). nat_eq (get_or (map (λ (m : Managed). m.spec.index.number) managed) i d.spec.index.number) n ≡ false) (number_at j d within)
      (apart_from_distinct nat_eq (map (λ (m : Managed). m.spec.index.number) managed) i j d.spec.index.number numbered before
      (omega (arith, within, length-map managed (λ (m : Managed). m.spec.index.number))))) in
      record {
        numbers = λ same. not_both
            (subst (λ (n : ℕ). nat_eq (get_or managed i d).spec.index.number n ≡ true) same (itself (get_or managed i d).spec.index.number)) differ;
        macs = pair.1;
      }
    where
      not_both : {b : Bool} → b ≡ true → b ≡ false → ⊥
      not_both y n = let no : true ≡ false = sym y ∙ n in cc

-- those of a schedule are clients
pub clients_are : (conf : Configuration) (specs : List IfSpec) → FitInterfaces specs → AreManaged (managed_of conf specs) → AreClients (managed_of conf specs)
clients_are conf specs fits managed = record {
  fit = managed;
  apart = all_apart (managed_of conf specs) (managed_unlike conf specs fits.unlike) (managed_numbered conf specs fits.counted);
}
