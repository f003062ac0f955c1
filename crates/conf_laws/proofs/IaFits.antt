-- What is said of identity associations and of shares within bounds comes to such within bounds.
use Rattle.std.proofs.Common.{ℕ, ◌+◌, ◌-◌, ◌<◌, ◌^◌, Bool, true, false, not, ◌&&◌, cond, List, [], ◌∷◌, ◌++◌, map, Option, Some, None, option_map, arith}
use Rattle.std.specs.Prelude.{IfSome, min, option_and_then, unwrap_or}
use Rattle.std.specs.List.{AllByRecursion, filter, filter_map, flat_map}
use Rattle.net_types.specs.declared.interface.IfSpec.{IfSpec}
use Rattle.net_types.specs.declared.interface.Name.{Name}
use Rattle.prefix_share.specs.declared.share.Share.{Share}
use Rattle.prefix_share.specs.Rules.{is_plan}
use Rattle.prefix_share.specs.Subnets.{FitsShare}
use Rattle.settings.specs.Dhcp6Settings.{FitsIaConf, FitsShareConf}
use Rattle.conf_directives.specs.declared.values.ShareLine.{ShareLine}
use Rattle.conf_directives.specs.Contents.{IaContent}
use Rattle.conf_directives.specs.SayLaws.{FitsLine}
use Rattle.conf_text.specs.Associations.{Association, association, associations, each_once, is_kept, is_same_ia}
use Rattle.conf_text.specs.Choosing.{is_managed, scope_for, spec_named}
use Rattle.conf_text.specs.Configurations.{Configuration}
use Rattle.conf_text.specs.Fits.{FitsSpec}
use Rattle.conf_text.specs.Places.{is_named}
use Rattle.conf_text.specs.Shares.{given_by, outlet_by, outlet_of, share_of, share_with, shared_by, shares_taken, sla_of, taken_after, taken_with}
use Rattle.conf_text.specs.ConfScopes.Values.{first_said}
use Rattle.conf_laws.proofs.FoundFits.{all_made, all_join, all_kept, either_fits, found_fit, found_in}
use Rattle.conf_text.proofs.OnceLaws.{ia_in}
use Rattle.conf_laws.proofs.SaidFits.{FitsIa}

-- ---- associations

pub record FitsAssociation (one : Association) : Type 0 where
  pub ia : FitsIaConf one.ia
  pub shares : AllByRecursion FitsLine one.shares

all_once : (P : Association → Type 0) (all : List Association) → AllByRecursion P all → AllByRecursion P (each_once all)
all_once P [] fit = tt
all_once P (first ∷ all) fit = (fit.0, all_kept P (λ other. not (is_same_ia first.ia other.ia)) (each_once all) (all_once P all fit.1))

iaid_below : (iaid : Option ℕ) (index : ℕ) → IfSome iaid (λ n. n < 2 ^ 32) → index < 2 ^ 32 → unwrap_or iaid index < 2 ^ 32
iaid_below None index fits below = below
iaid_below (Some iaid) index fits below = fits

pub associations_fit : (index : ℕ) → index < 2 ^ 32 → (lines : List IaContent) → AllByRecursion FitsIa lines
    → AllByRecursion FitsAssociation (associations index lines)
associations_fit index below lines fit =
    all_once FitsAssociation (map (association index) (filter (is_kept index lines) lines))
    (all_made FitsIa FitsAssociation (association index)
    (λ line fits. record { ia = record { iaid = iaid_below line.iaid index fits.0 below; hint = fits.1 }; shares = fits.2 })
    (filter (is_kept index lines) lines)
    (all_kept FitsIa (is_kept index lines) lines fit))

pub ias_fit : (all : List Association) → AllByRecursion FitsAssociation all → AllByRecursion FitsIaConf (map ia_in all)
ias_fit all fit = all_made FitsAssociation FitsIaConf ia_in (λ one fits. fits.ia) all fit

-- ---- shares

one_share : (hint : ℕ) (line : ShareLine) (sla : Option ℕ) → FitsLine line
    → IfSome (option_map (λ (n : ℕ). let share : Share = record { name = line.name; sla = n; len = line.len; hint = hint } in share) sla) FitsShare
one_share hint line None fits = tt
one_share hint line (Some sla) fits = record { least = fits.least; most = fits.most }

one_more_taken : (taken : List Share) (share : Share) → AllByRecursion FitsShare taken → FitsShare share → AllByRecursion FitsShare (taken_with taken share)
one_more_taken taken share fit fits = by (is_plan (taken ++ share ∷ []))
  where
    by : (b : Bool) → AllByRecursion FitsShare (cond b (taken ++ share ∷ []) taken)
    by true = all_join FitsShare taken (share ∷ []) fit (fits, tt)
    by false = fit

taken_fit : (taken shares : List Share) → AllByRecursion FitsShare taken → AllByRecursion FitsShare shares → AllByRecursion FitsShare (taken_after taken shares)
taken_fit taken [] fit others = fit
taken_fit taken (share ∷ shares) fit others = taken_fit (taken_with taken share) shares (one_more_taken taken share fit others.0) others.1

shares_fit : (specs : List IfSpec) (hint : ℕ) (lines : List ShareLine) → AllByRecursion FitsLine lines
    → AllByRecursion FitsShare (shares_taken specs hint lines)
shares_fit specs hint lines fit =
    taken_fit [] (filter_map (share_of specs hint) lines) tt
    (found_fit (share_of specs hint) FitsLine FitsShare (λ line fits. one_share hint line (sla_of specs line) fits) lines fit)

-- ---- what they give

-- metrics that are said fit
pub record FitMetrics (conf : Configuration) : Type 0 where
  pub global : IfSome conf.global.metric (λ n. n < 2 ^ 32)
  pub block : (name : Name) → IfSome (scope_for conf.blocks name).metric (λ n. n < 2 ^ 32)

metric_fits : (said : Option ℕ) (number : ℕ) → IfSome said (λ n. n < 2 ^ 32) → unwrap_or said (min (1000 + number) (2 ^ 32 - 1)) < 2 ^ 32
metric_fits None number fits = omega arith
metric_fits (Some metric) number fits = fits

module _ (conf : Configuration) (metrics : FitMetrics conf) (specs : List IfSpec) (each : AllByRecursion FitsSpec specs) (upstream : Name) where
  given_fits : (iaid : ℕ) (share : Share) → FitsShare share → IfSome (given_by conf specs upstream iaid share) FitsShareConf
  given_fits iaid share fits = by (spec_named specs share.name) (found_in FitsSpec (λ spec. is_named share.name spec.name) specs each)
    where
      there : (spec : IfSpec) → FitsSpec spec → (b : Bool)
          → IfSome (option_map (share_with iaid share) (cond b (Some (outlet_of conf spec)) None)) FitsShareConf
      there spec one true = record {
        share = fits;
        outlet = record {
          index = one.index;
          metric = metric_fits (first_said (scope_for conf.blocks spec.name).metric conf.global.metric) spec.index.number
              (either_fits (λ n. n < 2 ^ 32) (scope_for conf.blocks spec.name).metric conf.global.metric (metrics.block spec.name) metrics.global);
        };
      }
      there spec one false = tt

      by : (o : Option IfSpec) → IfSome o FitsSpec → IfSome (option_map (share_with iaid share) (option_and_then (outlet_by conf upstream) o)) FitsShareConf
      by None fit = tt
      by (Some spec) one = there spec one (is_managed conf spec.name && not (is_named upstream spec.name))

  pub shared_fit : (all : List Association) → AllByRecursion FitsAssociation all → AllByRecursion FitsShareConf (flat_map (shared_by conf specs upstream) all)
  shared_fit [] fit = tt
  shared_fit (one ∷ all) fit =
      all_join FitsShareConf (shared_by conf specs upstream one) (flat_map (shared_by conf specs upstream) all)
      (found_fit (given_by conf specs upstream one.ia.iaid) FitsShare FitsShareConf (given_fits one.ia.iaid) (shares_taken specs one.ia.hint one.shares)
      (shares_fit specs one.ia.hint one.shares fit.0.shares))
      (shared_fit all fit.1)
