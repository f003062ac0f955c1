-- A configuration gives no interface a share of its own prefixes.
use Rattle.std.proofs.Common.{ℕ, zero, suc, ◌≡◌, ◌≢◌, ◌+◌, ◌<◌, Bool, true, false, not, ◌&&◌, cond, List, [], ◌∷◌, ◌++◌, length, get_or, find, filter_map, Option, Some, None, option_map, refl, sym, ap, ◌∙◌, arith}
use Rattle.std.specs.Prelude.{IfSome, option_and_then}
use Rattle.std.specs.List.{AllByRecursion, Contains, cons_option, flat_map}
use Rattle.std.proofs.lemmas.Bool.{true≢false}
use Rattle.std.proofs.lemmas.List.{get_or_default}
use Rattle.std.proofs.lemmas.List.Elements.{All-contains_itself, recursion_from_All}
use Rattle.net_types.proofs.AllLaws.{all_join}
use Rattle.net_types.specs.declared.interface.IfIndex.{IfIndex}
use Rattle.net_types.specs.declared.interface.IfSpec.{IfSpec}
use Rattle.net_types.specs.NameText.{name_text}
use Rattle.prefix_share.specs.declared.share.Share.{Share}
use Rattle.settings.specs.declared.dhcp6_conf.ShareConf.{ShareConf}
use Rattle.script_model.specs.Scripts.{CountsFrom}
use Rattle.conf_text.specs.Associations.{Association, associations}
use Rattle.conf_text.specs.Choosing.{is_managed, scope_for, spec_named}
use Rattle.conf_text.specs.Configurations.{Configuration}
use Rattle.conf_text.specs.Places.{is_named}
use Rattle.conf_text.specs.Settings.{managed_of, managed_with, settings_for, settings_of}
use Rattle.conf_text.specs.Shares.{given_by, outlet_by, outlet_of, share_with, shared_by, shares_taken}
use Rattle.conf_text.proofs.NameLaws.{same_named}
use Rattle.audit_reasons.specs.Evidence.Laws.{AreSharedWithOthers}
use Rattle.audit_reasons.specs.Evidence.ShareBasis.{SharesWithOthers}

-- ---- what is found in a list

with_found : {X : Type 0} (P : X → Type 0) (o : Option X) (xs : List X) → IfSome o P → AllByRecursion P xs → AllByRecursion P (cons_option o xs)
with_found P None xs found all = all
with_found P (Some x) xs found all = (found, all)

all_found : {C X : Type 0} (f : C → Option X) (Q : C → Type 0) (P : X → Type 0) → ((c : C) → Q c → IfSome (f c) P) → (cs : List C) → AllByRecursion Q cs
    → AllByRecursion P (filter_map f cs)
all_found f Q P each [] all = tt
all_found f Q P each (c ∷ cs) all = with_found P (f c) (filter_map f cs) (each c all.0) (all_found f Q P each cs all.1)

found_in : {X : Type 0} (P : X → Type 0) (p : X → Bool) (xs : List X) → AllByRecursion P xs → IfSome (find p xs) P
found_in P p [] all = tt
found_in P p (x ∷ xs) all = by (p x) (found_in P p xs all.1)
  where
    by : (b : Bool) → IfSome (find p xs) P → IfSome (cond b (Some x) (find p xs)) P
    by true later = all.0
    by false later = later

nothing_asked : {X : Type 0} (xs : List X) → AllByRecursion (λ x. Unit {0}) xs
nothing_asked [] = tt
nothing_asked (x ∷ xs) = (tt, nothing_asked xs)

-- ---- interfaces that count up are told apart by their numbers

number_at : (first : ℕ) (specs : List IfSpec) → CountsFrom first specs → (i : ℕ) (default : IfSpec) → i < length specs
    → (get_or specs i default).index.number ≡ first + i
number_at first [] counts i default within = absurd (omega (arith, within))
number_at first (spec ∷ specs) counts zero default within = counts.0 ∙ omega arith
number_at first (spec ∷ specs) counts (suc i) default within =
    let later : (get_or specs i default).index.number ≡ first + 1 + i = number_at (first + 1) specs counts.3 i default (omega (arith, within)) in
    omega (arith, later)

same_place : (specs : List IfSpec) (i j : ℕ) (a b : IfSpec) → i ≡ j → i < length specs → get_or specs i a ≡ a → get_or specs j b ≡ b → a ≡ b
same_place specs i j a b same within here there =
    sym here ∙ get_or_default specs i a b within ∙ ap (λ (k : ℕ). get_or specs k b) same ∙ there

one_of_each : (specs : List IfSpec) → CountsFrom 1 specs → (a b : IfSpec) → Contains specs a → Contains specs b → a.index ≡ b.index → a ≡ b
one_of_each specs counts a b among other same =
    let first : a.index.number ≡ 1 + among.0 =
    sym (ap (λ (spec : IfSpec). spec.index.number) among.2) ∙ number_at 1 specs counts among.0 a among.1 in
    let second : b.index.number ≡ 1 + other.0 =
    sym (ap (λ (spec : IfSpec). spec.index.number) other.2) ∙ number_at 1 specs counts other.0 b other.1 in
    let number : a.index.number ≡ b.index.number = ap (λ (index : IfIndex). index.number) same in
    let place : among.0 ≡ other.0 = omega (arith, first, second, number) in
    same_place specs among.0 other.0 a b place among.1 among.2 other.2

-- ---- what shares give

module _ (conf : Configuration) (specs : List IfSpec) (counts : CountsFrom 1 specs) where
  all_among : AllByRecursion (Contains specs) specs
  all_among = recursion_from_All (Contains specs) specs (All-contains_itself specs)

  module _ (upstream : IfSpec) (among : Contains specs upstream) where
    abbrev LeadsElsewhere : ShareConf → Type 0
    LeadsElsewhere share = share.outlet.iface ≢ upstream.index

    -- an interface of another name has another index
    unlike : (other : IfSpec) → Contains specs other → is_named upstream.name other.name ≡ false → other.index ≢ upstream.index
    unlike other there named same =
        let one : other ≡ upstream = one_of_each specs counts other upstream there among same in
        let own : is_named upstream.name other.name ≡ true = same_named upstream.name other.name (ap (λ (spec : IfSpec). name_text spec.name) one) in
        true≢false (sym own ∙ named)

    given_elsewhere : (iaid : ℕ) (share : Share) → IfSome (given_by conf specs upstream.name iaid share) LeadsElsewhere
    given_elsewhere iaid share = by (spec_named specs share.name) (found_in (Contains specs) (λ spec. is_named share.name spec.name) specs all_among)
      where
        there : (other : IfSpec) → Contains specs other → (managed named : Bool) → is_named upstream.name other.name ≡ named
            → IfSome (option_map (share_with iaid share) (cond (managed && not named) (Some (outlet_of conf other)) None)) LeadsElsewhere
        there other within true true e = tt
        there other within true false e = unlike other within e
        there other within false named e = tt

        by : (o : Option IfSpec) → IfSome o (Contains specs)
            → IfSome (option_map (share_with iaid share) (option_and_then (outlet_by conf upstream.name) o)) LeadsElsewhere
        by None within = tt
        by (Some other) within = there other within (is_managed conf other.name) (is_named upstream.name other.name) refl

    shared_elsewhere : (all : List Association) → AllByRecursion LeadsElsewhere (flat_map (shared_by conf specs upstream.name) all)
    shared_elsewhere [] = tt
    shared_elsewhere (one ∷ all) =
        all_join LeadsElsewhere (shared_by conf specs upstream.name one) (flat_map (shared_by conf specs upstream.name) all)
        (all_found (given_by conf specs upstream.name one.ia.iaid) (λ share. Unit {0}) LeadsElsewhere (λ share none. given_elsewhere one.ia.iaid share)
        (shares_taken specs one.ia.hint one.shares) (nothing_asked (shares_taken specs one.ia.hint one.shares)))
        (shared_elsewhere all)

  one_shares : (spec : IfSpec) → Contains specs spec → IfSome (managed_with spec (settings_of conf specs spec)) SharesWithOthers
  one_shares spec among = by (is_managed conf spec.name)
    where
      by : (b : Bool) → IfSome (managed_with spec (cond b (Some (settings_for conf specs spec)) None)) SharesWithOthers
      by true = shared_elsewhere spec among (associations spec.index.number (conf.global.ias ++ (scope_for conf.blocks spec.name).ias))
      by false = tt

  pub shared_with_others : AreSharedWithOthers (managed_of conf specs)
  shared_with_others = all_found (λ spec. managed_with spec (settings_of conf specs spec)) (Contains specs) SharesWithOthers one_shares specs all_among
