-- Rows of shares lead to managed interfaces.
use Rattle.std.proofs.Common.{◌≡◌, ℕ, ◌==◌, Bool, true, false, not, ◌&&◌, ◌||◌, cond, List, [], ◌∷◌, ◌++◌, find, Option, Some, None, option_map, refl, sym, ap, subst}
use Rattle.std.specs.Prelude.{IfSome, option_and_then}
use Rattle.std.specs.List.{AllByRecursion, cons_option, flat_map, list_any}
use Rattle.std.proofs.lemmas.Bool.{eq-eqb}
use Rattle.net_types.specs.declared.interface.IfSpec.{IfSpec}
use Rattle.net_types.specs.declared.interface.Name.{Name}
use Rattle.prefix_share.specs.declared.share.Share.{Share}
use Rattle.settings.specs.declared.interfaces.Managed.{Managed}
use Rattle.settings.specs.ManagedRows.{has_index, LeadsToManaged, SharesAreManaged}
use Rattle.conf_text.specs.Associations.{Association, associations}
use Rattle.conf_text.specs.Choosing.{is_managed, scope_for, spec_named}
use Rattle.conf_text.specs.Configurations.{Configuration}
use Rattle.conf_text.specs.Places.{is_named}
use Rattle.conf_text.specs.Settings.{managed_among, managed_of, managed_with, settings_for, settings_of}
use Rattle.conf_text.specs.Shares.{given_by, outlet_by, outlet_of, share_with, shared_by, shares_taken}
use Rattle.conf_laws.proofs.FoundFits.{all_found, all_join}

-- ---- a managed interface is among those managed

any_with : {X : Type 0} (p : X → Bool) (o : Option X) (xs : List X) → list_any p xs ≡ true → list_any p (cons_option o xs) ≡ true
any_with p None xs e = e
any_with p (Some x) xs e = by (p x)
  where
    by : (b : Bool) → (b || list_any p xs) ≡ true
    by true = refl
    by false = e

itself_among : (number : ℕ) (others : Bool) → (number == number || others) ≡ true
itself_among number others = ap (λ b. b || others) (eq-eqb number number refl)

module _ (conf : Configuration) (specs : List IfSpec) where
  first_among : (spec : IfSpec) (these : List IfSpec) → is_managed conf spec.name ≡ true
      → has_index spec.index.number (managed_among conf specs (spec ∷ these)) ≡ true
  first_among spec these managed =
      subst
      (λ b. has_index spec.index.number
      (cons_option (managed_with spec (cond b (Some (settings_for conf specs spec)) None)) (managed_among conf specs these))
      ≡ true)
      (sym managed)
      (itself_among spec.index.number (has_index spec.index.number (managed_among conf specs these)))

  found_among : (test : IfSpec → Bool) (these : List IfSpec)
      → IfSome (find test these) (λ spec. is_managed conf spec.name ≡ true → has_index spec.index.number (managed_among conf specs these) ≡ true)
  found_among test [] = tt
  found_among test (one ∷ these) = by (test one) (found_among test these)
    where
      IsAmong : List IfSpec → IfSpec → Type 0
      IsAmong among spec = is_managed conf spec.name ≡ true → has_index spec.index.number (managed_among conf specs among) ≡ true

      later : (o : Option IfSpec) → IfSome o (IsAmong these) → IfSome o (IsAmong (one ∷ these))
      later None among = tt
      later (Some spec) among =
          λ managed. any_with (λ (m : Managed). m.spec.index.number == spec.index.number) (managed_with one (settings_of conf specs one))
          (managed_among conf specs these) (among managed)

      by : (b : Bool) → IfSome (find test these) (IsAmong these) → IfSome (cond b (Some one) (find test these)) (IsAmong (one ∷ these))
      by true among = first_among one these
      by false among = later (find test these) among

  -- ---- what shares give

  given_leads : (upstream : Name) (iaid : ℕ) (share : Share) → IfSome (given_by conf specs upstream iaid share) (LeadsToManaged (managed_of conf specs))
  given_leads upstream iaid share = by (spec_named specs share.name) (found_among (λ spec. is_named share.name spec.name) specs)
    where
      there : (spec : IfSpec) (b c : Bool) → (b ≡ true → has_index spec.index.number (managed_of conf specs) ≡ true)
          → IfSome (option_map (share_with iaid share) (cond (b && c) (Some (outlet_of conf spec)) None)) (LeadsToManaged (managed_of conf specs))
      there spec true true among = among refl
      there spec true false among = tt
      there spec false c among = tt

      by : (o : Option IfSpec) → IfSome o (λ spec. is_managed conf spec.name ≡ true → has_index spec.index.number (managed_of conf specs) ≡ true)
          → IfSome (option_map (share_with iaid share) (option_and_then (outlet_by conf upstream) o)) (LeadsToManaged (managed_of conf specs))
      by None among = tt
      by (Some spec) among = there spec (is_managed conf spec.name) (not (is_named upstream spec.name)) among

  shared_lead : (upstream : Name) (all : List Association)
      → AllByRecursion (LeadsToManaged (managed_of conf specs)) (flat_map (shared_by conf specs upstream) all)
  shared_lead upstream [] = tt
  shared_lead upstream (one ∷ all) =
      all_join (LeadsToManaged (managed_of conf specs)) (shared_by conf specs upstream one) (flat_map (shared_by conf specs upstream) all)
      (all_found (given_by conf specs upstream one.ia.iaid) (LeadsToManaged (managed_of conf specs)) (given_leads upstream one.ia.iaid)
      (shares_taken specs one.ia.hint one.shares))
      (shared_lead upstream all)

  abbrev Leads : Managed → Type 0
  Leads managed = AllByRecursion (LeadsToManaged (managed_of conf specs)) managed.conf.dhcp6.shares

  one_leads : (spec : IfSpec) → IfSome (managed_with spec (settings_of conf specs spec)) Leads
  one_leads spec = by (is_managed conf spec.name)
    where
      by : (b : Bool) → IfSome (managed_with spec (cond b (Some (settings_for conf specs spec)) None)) Leads
      by true = shared_lead spec.name (associations spec.index.number (conf.global.ias ++ (scope_for conf.blocks spec.name).ias))
      by false = tt

  pub shares_lead : SharesAreManaged (managed_of conf specs)
  shares_lead = all_found (λ spec. managed_with spec (settings_of conf specs spec)) Leads one_leads specs
