-- What reading the files gives, whatever the answers: one result for each managed interface, in order, and leases that are within
-- the bounds.
use Rattle.std.proofs.Common.{◌≡◌, ℕ, List, [], ◌∷◌, map, Option, Some, None, refl, ap, ap₂, ◌∙◌}
use Rattle.std.specs.Prelude.{IfSome, bytes_eq, option_and_then}
use Rattle.std.specs.List.{AllByRecursion}
use Rattle.net_types.proofs.CaseLaws.{gated}
use Rattle.net_types.specs.declared.interface.IfSpec.{IfSpec}
use Rattle.net_types.specs.declared.interface.Name.{Name}
use Rattle.net_types.specs.NameText.{name_text}
use Rattle.client_model.specs.LeaseText.Bounds.{HasText}
use Rattle.client_model.specs.LeaseText.Leases.{LeaseContent}
use Rattle.client_model.specs.Lease6Text.Bounds.{HasText6}
use Rattle.client_model.specs.Lease6Text.Leases.{Lease6Content}
use Rattle.world.specs.StoreCalls.{Reading, Found, Missing, Unread}
use Rattle.client_model.specs.IfaceSettings.declared.interfaces.Managed.{Managed}
use Rattle.client_model.specs.ClientSettings.{runs_dhcp4}
use Rattle.client_model.specs.ClientSettings6.{runs_dhcp6, some_need_duid}
use Rattle.client_model.specs.KeptLeases.{Beginning, is_own, lease_spelled, own_lease, kept_by}
use Rattle.client_model.specs.KeptLeases6.{lease6_spelled, own_lease6, kept6_by}
use Rattle.client_model.proofs.KeptTexts.{is_reading}
use Rattle.client_model.proofs.KeptTexts6.{is_reading6}
use Rattle.device_calls.specs.Calls.{Call, Read}
use Rattle.device_calls.specs.Programs.{Asks, Done, Then, after, Makes}
use Rattle.device_calls.proofs.Programs.{MakesBoth, makes_both}
use Rattle.turn_model.specs.Loading.{reading_if, Loaded, loaded, loading_one, loading, FilesLoaded, files_loaded, loading_files, duid_file, resolver_file, lease4_file, lease6_file, duid_with, beginning_of, beginnings_of}

-- what was asked first, what then, and what both made
record MadeOf {A B C : Type 0} (first : Asks A) (then_that : Asks B) (make : A → B → C) (result : C) : Type 0 where
  a : A
  b : B
  calls : List Call
  later : List Call
  makes : Makes first calls a
  makes_later : Makes then_that later b
  is : result ≡ make a b

made_of : {A B C : Type 0} (first : Asks A) (then_that : Asks B) (make : A → B → C) (calls : List Call) (result : C)
    → Makes (after first (λ a. after then_that (λ b. Done (make a b)))) calls result → MadeOf first then_that make result
made_of {A} {B} {C} first then_that make calls result makes =
    let one : MakesBoth first (λ a. after then_that (λ b. Done (make a b))) calls result =
    makes_both first (λ a. after then_that (λ b. Done (make a b))) calls result makes in
    let two : MakesBoth then_that (λ b. Done (make one.between b)) one.later result =
    makes_both then_that (λ b. Done (make one.between b)) one.later result one.makes_later in
    record {
      a = one.between;
      b = two.between;
      calls = one.first;
      later = two.first;
      makes = one.makes_first;
      makes_later = two.makes_first;
      is = two.makes_later.result_is;
    }

abbrev managed_of : Loaded → Managed
managed_of one = one.managed

one_is_loaded : (m : Managed) (calls : List Call) (one : Loaded) → Makes (loading_one m) calls one → one.managed ≡ m
one_is_loaded m calls one makes =
    ap managed_of (made_of (reading_if (runs_dhcp4 m.conf) (lease4_file m)) (reading_if (runs_dhcp6 m.conf) (lease6_file m)) (loaded m) calls one makes).is

all_are_loaded : (managed : List Managed) (calls : List Call) (all : List Loaded) → Makes (loading managed) calls all → map managed_of all ≡ managed
all_are_loaded [] calls all makes = ap (map managed_of) makes.result_is
all_are_loaded (m ∷ managed) calls all makes =
    let made : MadeOf (loading_one m) (loading managed) (λ one more. one ∷ more) all =
    made_of (loading_one m) (loading managed) (λ one more. one ∷ more) calls all makes in
    ap (map managed_of) made.is
    ∙ ap₂ (λ (n : Managed) (more : List Managed). n ∷ more) (one_is_loaded m made.calls made.a made.makes)
    (all_are_loaded managed made.later made.b made.makes_later)

pub files_are_loaded : (managed : List Managed) (calls : List Call) (files : FilesLoaded) → Makes (loading_files managed) calls files
    → map managed_of files.ifaces ≡ managed
files_are_loaded managed calls files makes =
    let duid_asks : Asks (Option Reading) = reading_if (some_need_duid managed) duid_file in
    let resolver_asks : Option Reading → List Loaded → Asks FilesLoaded =
    λ duid ifaces. Then (Read resolver_file) (λ resolver. Done (files_loaded duid ifaces resolver)) in
    let first : MakesBoth duid_asks (λ duid. after (loading managed) (resolver_asks duid)) calls files =
    makes_both duid_asks (λ duid. after (loading managed) (resolver_asks duid)) calls files makes in
    let later : MakesBoth (loading managed) (resolver_asks first.between) first.later files =
    makes_both (loading managed) (resolver_asks first.between) first.later files first.makes_later in
    ap (λ (f : FilesLoaded). map managed_of f.ifaces) later.makes_later.result_is ∙ all_are_loaded managed later.first later.between later.makes_first

-- the interfaces begin in their order
pub beginnings_managed : (duid : List ℕ) (all : List Loaded) → map (λ (b : Beginning). b.managed) (map (beginning_of duid) all) ≡ map managed_of all
beginnings_managed duid [] = refl
beginnings_managed duid (one ∷ all) = ap (λ (more : List Managed). one.managed ∷ more) (beginnings_managed duid all)

-- ---- the leases that were kept

own_fits : (spec : IfSpec) (lease : LeaseContent) → HasText lease → IfSome (own_lease spec lease) HasText
own_fits spec lease fits = gated (λ (k : Option LeaseContent). IfSome k HasText) (is_own spec lease.name lease.origin) (Some lease) None fits tt

spelled_fits : (spec : IfSpec) (text : List ℕ) (found : Option LeaseContent) → lease_spelled text ≡ found
    → IfSome (option_and_then (own_lease spec) found) HasText
spelled_fits spec text None e = tt
spelled_fits spec text (Some lease) e = own_fits spec lease ((is_reading text lease).sound e).spells.1

pub kept_fits : (spec : IfSpec) (reading : Reading) → IfSome (kept_by spec reading) HasText
kept_fits spec (Found bytes) = spelled_fits spec bytes (lease_spelled bytes) refl
kept_fits spec Missing = tt
kept_fits spec Unread = tt

own_fits6 : (spec : IfSpec) (lease : Lease6Content) → HasText6 lease → IfSome (own_lease6 spec lease) HasText6
own_fits6 spec lease fits = gated (λ (k : Option Lease6Content). IfSome k HasText6) (is_own spec lease.name lease.origin) (Some lease) None fits tt

spelled_fits6 : (spec : IfSpec) (text : List ℕ) (found : Option Lease6Content) → lease6_spelled text ≡ found
    → IfSome (option_and_then (own_lease6 spec) found) HasText6
spelled_fits6 spec text None e = tt
spelled_fits6 spec text (Some lease) e = own_fits6 spec lease ((is_reading6 text lease).sound e).spells.1

pub kept_fits6 : (spec : IfSpec) (reading : Reading) → IfSome (kept6_by spec reading) HasText6
kept_fits6 spec (Found bytes) = spelled_fits6 spec bytes (lease6_spelled bytes) refl
kept_fits6 spec Missing = tt
kept_fits6 spec Unread = tt

-- the DUID of an interface's beginning is this one, and its leases are within the bounds
pub record KeepsFitting (duid : List ℕ) (b : Beginning) : Type 0 where
  pub duid_is : b.duid ≡ duid
  pub kept4 : IfSome b.kept4 HasText
  pub kept6 : IfSome b.kept6 HasText6

-- where a reading gives what fits, so does one that need not have been
if_read : {X : Type 0} (Fits : X → Type 0) (kept : Reading → Option X) → ((reading : Reading) → IfSome (kept reading) Fits) → (read : Option Reading)
    → IfSome (option_and_then kept read) Fits
if_read Fits kept fits None = tt
if_read Fits kept fits (Some reading) = fits reading

one_fits : (duid : List ℕ) (one : Loaded) → KeepsFitting duid (beginning_of duid one)
one_fits duid one = record {
  duid_is = refl;
  kept4 = if_read HasText (kept_by one.managed.spec) (kept_fits one.managed.spec) one.lease4;
  kept6 = if_read HasText6 (kept6_by one.managed.spec) (kept_fits6 one.managed.spec) one.lease6;
}

all_fit : (duid : List ℕ) (all : List Loaded) → AllByRecursion (KeepsFitting duid) (map (beginning_of duid) all)
all_fit duid [] = tt
all_fit duid (one ∷ all) = (one_fits duid one, all_fit duid all)

pub beginnings_fit : (managed : List Managed) (files : FilesLoaded) → AllByRecursion (KeepsFitting (duid_with managed files)) (beginnings_of managed files)
beginnings_fit managed files = all_fit (duid_with managed files) files.ifaces
