-- Each association stands once, by its kind and its IAID, and there are no more than lines.
use Rattle.std.proofs.Common.{◌≡◌, ◌≢◌, ℕ, ◌≤◌, Bool, true, false, not, cond, List, [], ◌∷◌, length, map, refl, sym, ap, subst, ◌∙◌, arith}
use Rattle.std.specs.Prelude.{AllPairs}
use Rattle.std.specs.List.{filter}
use Rattle.std.proofs.lemmas.Bool.{true≢false, eq-eqb, and_from}
use Rattle.std.proofs.lemmas.List.{length-map}
use Rattle.std.proofs.lemmas.List.Elements.{All-weaker, filter_passes}
use Rattle.std.proofs.lemmas.List.Kept.{AllPairs-cons, AllPairs-filter}
use Rattle.std.proofs.lemmas.List.Sums.{count_by-le-length, length-filter}
use Rattle.v6_options.specs.declared.ia.IaKind.{IaKind}
use Rattle.v6_options.specs.declared.ia.IaKind.TheVariants.{Na, Pd}
use Rattle.settings.specs.declared.dhcp6_conf.IaConf.{IaConf}
use Rattle.settings.specs.Dhcp6Settings.{conf_key}
use Rattle.conf_directives.specs.Contents.{IaContent}
use Rattle.conf_text.specs.Associations.{Association, association, associations, each_once, ias_of, is_kept, is_same_ia}
use Rattle.conf_text.specs.ConfScopes.Limits.{is_same_kind}
use Rattle.conf_text.proofs.OnceLaws.{by_key, ia_in}

same_kind : (kind : IaKind) → is_same_kind kind kind ≡ true
same_kind Na = refl
same_kind Pd = refl

itself : (ia : IaConf) → is_same_ia ia ia ≡ true
itself ia = and_from (is_same_kind ia.kind ia.kind) _ (same_kind ia.kind) (eq-eqb ia.iaid ia.iaid refl)

unlike_key : (one other : IaConf) → not (is_same_ia one other) ≡ true → conf_key one ≢ conf_key other
unlike_key one other apart e = true≢false (sym (itself one) ∙ by_key one one other e ∙ apart_is (is_same_ia one other) apart)
  where
    apart_is : (b : Bool) → not b ≡ true → b ≡ false
    apart_is true h = absurd (true≢false (sym h))
    apart_is false h = refl

pub kept_of_map : {X Y : Type 0} (p : Y → Bool) (f : X → Y) (xs : List X) → filter p (map f xs) ≡ map f (filter (λ x. p (f x)) xs)
kept_of_map p f [] = refl
kept_of_map p f (x ∷ xs) = by (p (f x)) (kept_of_map p f xs)
  where
    by : (b : Bool) → filter p (map f xs) ≡ map f (filter (λ x. p (f x)) xs)
        → cond b (f x ∷ filter p (map f xs)) (filter p (map f xs)) ≡ map f (cond b (x ∷ filter (λ x. p (f x)) xs) (filter (λ x. p (f x)) xs))
    by true same = ap (λ ys. f x ∷ ys) same
    by false same = same

pub each_unlike : (all : List Association) → AllPairs (λ one other. conf_key one ≢ conf_key other) (map ia_in (each_once all))
each_unlike [] = λ i j d less within. absurd (omega arith)
each_unlike (first ∷ all) =
    let p : IaConf → Bool = λ other. not (is_same_ia first.ia other) in
    let ias : List IaConf = map ia_in (each_once all) in
    subst (λ (others : List IaConf). AllPairs (λ one other. conf_key one ≢ conf_key other) (first.ia ∷ others)) (kept_of_map p ia_in (each_once all))
    (AllPairs-cons (λ (one other : IaConf). conf_key one ≢ conf_key other) first.ia (filter p ias)
    (All-weaker (λ other. p other ≡ true) (λ other. conf_key first.ia ≢ conf_key other) (λ other apart. unlike_key first.ia other apart) (filter p ias)
    (filter_passes p ias))
    (AllPairs-filter (λ (one other : IaConf). conf_key one ≢ conf_key other) p ias (each_unlike all)))

few_kept : {X : Type 0} (p : X → Bool) (xs : List X) → length (filter p xs) ≤ length xs
few_kept p xs = omega (arith, length-filter p xs, count_by-le-length p xs)

once_few : (all : List Association) → length (each_once all) ≤ length all
once_few [] = omega arith
once_few (first ∷ all) = omega (arith, few_kept (λ (other : Association). not (is_same_ia first.ia other.ia)) (each_once all), once_few all)

pub ias_few : (index : ℕ) (lines : List IaContent) → length (ias_of index lines) ≤ length lines
ias_few index lines =
    let kept : List IaContent = filter (is_kept index lines) lines in
    omega (
      arith,
      length-map (associations index lines) ia_in,
      once_few (map (association index) kept),
      length-map kept (association index),
      few_kept (is_kept index lines) lines,
    )
