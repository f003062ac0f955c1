-- Before its opening an interface keeps leases that have texts, whatever its files say.
use Rattle.std.proofs.Common.{◌≡◌, ◌≢◌, ℕ, suc, ◌≤◌, List, [], ◌∷◌, length, map, Option, Some, None, IfSome, refl, sym, ap, subst, arith, lit≤}
use Rattle.std.specs.List.{AllByRecursion, Contains}
use Rattle.std.proofs.lemmas.List.Elements.{All-contains_itself, recursion_from_All}
use Rattle.net_types.proofs.AllLaws.{all_both, all_mapped}
use Rattle.lease_text.specs.Bounds.{FitsLease, HasText}
use Rattle.lease_text.specs.Leases.{LeaseContent}
use Rattle.lease6_text.proofs.Apart.{Apart, apart_from, pairs_from}
use Rattle.lease6_text.specs.Bounds.{FitsLease6, HasText6, IsDuid}
use Rattle.lease6_text.specs.Leases.{Lease6Content}
use Rattle.v4_client.specs.Clients as dhcp4
use Rattle.v6_client.specs.V6Items.Bounds.{FitsAsks, ask_key}
use Rattle.v6_client.specs.Clients as dhcp6
use Rattle.settings.specs.Dhcp6Settings.{FitsIaConf, conf_key}
use Rattle.settings.specs.Fitting.{AreManaged, FitsManaged}
use Rattle.settings.specs.declared.dhcp6_conf.IaConf.{IaConf}
use Rattle.settings.specs.declared.interfaces.Managed.{Managed}
use Rattle.client_model.proofs.AskFitting.{ask_fits}
use Rattle.client_model.proofs.HostDuids.{host_duid_fits}
use Rattle.client_model.specs.ClientSettings.{settings_of}
use Rattle.client_model.specs.ClientSettings6.{ask_for, settings6_of}
use Rattle.client_model.specs.Interfaces.{resting}
use Rattle.client_model.specs.KeptLeases.{Beginning}
use Rattle.turn_model.proofs.Loading.{KeepsFitting, beginnings_fit}
use Rattle.turn_model.specs.Loading.{FilesLoaded, beginnings_of, duid_with}
use Rattle.safe_texts.proofs.KeptOctets.{HasOctets, all_begin}
use Rattle.exact_texts.proofs.Clients4.{Exact4, typed_of}
use Rattle.exact_texts.proofs.Clients6.{Exact6, typed6_of}
use Rattle.exact_texts.proofs.ExactSteps.{IsExactIface}
use Rattle.exact_texts.proofs.TypedLeases6.{IsNumbered}

-- ---- the client of DHCPv4

lease_fits : (kept : Option LeaseContent) → IfSome kept HasText → IfSome kept FitsLease
lease_fits None has = tt
lease_fits (Some lease) has = has.fits

made4 : (duid : List ℕ) (m : Managed) (kept : Option LeaseContent) → IsDuid duid → FitsManaged m → IfSome kept HasText
    → Exact4 (dhcp4.client_made (settings_of duid m) kept)
made4 duid m kept is fits has = record {
  sound = record {
    name = fits.name;
    ask = ask_fits duid m is fits;
    state = tt;
    kept = lease_fits kept has;
    held = tt;
    fresh = record { each = tt; rising = tt };
  };
  mac = fits.mac;
  state = tt;
  kept = typed_of kept has;
}

-- ---- the client of DHCPv6

lease6_fits : (kept : Option Lease6Content) → IfSome kept HasText6 → IfSome kept FitsLease6
lease6_fits None has = tt
lease6_fits (Some lease) has = has.fits

mapped_len : (ias : List IaConf) → length (map ask_for ias) ≡ length ias
mapped_len [] = refl
mapped_len (ia ∷ ias) = ap suc (mapped_len ias)

numbered : (ias : List IaConf) → AllByRecursion FitsIaConf ias → AllByRecursion IsNumbered (map ask_for ias)
numbered [] each = tt
numbered (ia ∷ ias) each = (each.0.iaid, numbered ias each.1)

abbrev ConfsUnlike : IaConf → IaConf → Type 0
ConfsUnlike one other = conf_key one ≢ conf_key other

each_mapped : (ia : IaConf) (ias : List IaConf) → AllByRecursion (ConfsUnlike ia) ias
    → AllByRecursion (λ other. ask_key (ask_for ia) ≢ ask_key other) (map ask_for ias)
each_mapped ia [] all = tt
each_mapped ia (other ∷ ias) all = (all.0, each_mapped ia ias all.1)

apart_mapped : (ias : List IaConf) → Apart ConfsUnlike ias → Apart (λ one other. ask_key one ≢ ask_key other) (map ask_for ias)
apart_mapped [] apart = tt
apart_mapped (ia ∷ ias) apart = (each_mapped ia ias apart.0, apart_mapped ias apart.1)

asks_fit : (ias : List IaConf) → length ias ≤ 6 → Apart ConfsUnlike ias → FitsAsks (map ask_for ias)
asks_fit ias few apart = record {
  few = (let same : length (map ask_for ias) ≡ length ias = mapped_len ias in omega (arith, same, few));
  unlike = pairs_from (λ one other. ask_key one ≢ ask_key other) (map ask_for ias) (apart_mapped ias apart);
}

made6 : (duid : List ℕ) (m : Managed) (kept : Option Lease6Content) → FitsManaged m → IfSome kept HasText6
    → Exact6 (dhcp6.client_made (settings6_of duid m) kept)
made6 duid m kept fits has = record {
  sound = record {
    name = fits.name;
    asks = asks_fit m.conf.dhcp6.ias fits.dhcp6.few (apart_from ConfsUnlike m.conf.dhcp6.ias fits.dhcp6.unlike);
    day = lit≤ tt;
    kept = lease6_fits kept has;
  };
  mac = fits.mac;
  asks = numbered m.conf.dhcp6.ias fits.dhcp6.each;
  kept = typed6_of kept has;
}

-- ---- the interface

-- one that is managed, with settings that fit
record IsHolder (managed : List Managed) (m : Managed) : Type 0 where
  among : Contains managed m
  fits : FitsManaged m

all_holders : (managed : List Managed) → AreManaged managed → AllByRecursion (IsHolder managed) managed
all_holders managed fit =
    all_both FitsManaged (Contains managed) (IsHolder managed) (λ m fits among. record { among = among; fits = fits }) managed fit
    (recursion_from_All (Contains managed) managed (All-contains_itself managed))

record BeginsSo (managed : List Managed) (duid : List ℕ) (b : Beginning) : Type 0 where
  holder : IsHolder managed b.managed
  keeps : KeepsFitting duid b

module _ (managed : List Managed) (duid : List ℕ) (is : IsDuid duid) where
  rests_exact : (b : Beginning) → BeginsSo managed duid b → HasOctets (resting b) → IsExactIface managed (resting b)
  rests_exact b so values =
      let own : IsDuid b.duid = subst IsDuid (sym so.keeps.duid_is) is in
      record {
        among = so.holder.among;
        fits = so.holder.fits;
        values = values;
        four = made4 b.duid b.managed b.kept4 own so.holder.fits so.keeps.kept4;
        range = tt;
        six = made6 b.duid b.managed b.kept6 so.holder.fits so.keeps.kept6;
      }

abbrev AllManaged : List Managed → FilesLoaded → Type 0
AllManaged managed files = map (λ (b : Beginning). b.managed) (beginnings_of managed files) ≡ managed

none_begins : (P : Beginning → Type 0) (beginnings : List Beginning) → map (λ (b : Beginning). b.managed) beginnings ≡ [] → AllByRecursion P beginnings
none_begins P [] none = tt
none_begins P (b ∷ beginnings) none = absurd cc

by_duid : (managed : List Managed) → AreManaged managed → (files : FilesLoaded) → AllManaged managed files → IsDuid (duid_with managed files)
    → AllByRecursion (λ (b : Beginning). IsExactIface managed (resting b)) (beginnings_of managed files)
by_duid managed fit files same is =
    let duid : List ℕ = duid_with managed files in
    let beginnings : List Beginning = beginnings_of managed files in
    let holders : AllByRecursion (λ (b : Beginning). IsHolder managed b.managed) beginnings =
    all_mapped (IsHolder managed) (λ (b : Beginning). b.managed) beginnings
    (subst (AllByRecursion (IsHolder managed)) (sym same) (all_holders managed fit)) in
    all_both (BeginsSo managed duid) (λ (b : Beginning). HasOctets (resting b)) (λ (b : Beginning). IsExactIface managed (resting b))
    (rests_exact managed duid is) beginnings
    (all_both (λ (b : Beginning). IsHolder managed b.managed) (KeepsFitting duid) (BeginsSo managed duid)
    (λ b holder keeps. record { holder = holder; keeps = keeps }) beginnings holders (beginnings_fit managed files))
    (all_begin duid files.ifaces)

pub all_rest : (managed : List Managed) → AreManaged managed → (files : FilesLoaded) → AllManaged managed files
    → AllByRecursion (λ (b : Beginning). IsExactIface managed (resting b)) (beginnings_of managed files)
all_rest [] fit files same = none_begins (λ (b : Beginning). IsExactIface [] (resting b)) (beginnings_of [] files) same
all_rest (m ∷ others) fit files same = by_duid (m ∷ others) fit files same (host_duid_fits m others files.duid fit.0.mac)
