-- The walks over the IAs of a message.
use Rattle.std.proofs.Common.{◌≡◌, ℕ, zero, suc, ◌<◌, ◌≤◌, Bool, true, false, ◌&&◌, List, [], ◌∷◌, length, drop, get_or, map, refl, sym, ap, ◌∙◌, arith}
use Rattle.std.specs.Prelude.{if◌then◌else◌}
use Rattle.settings.specs.declared.dhcp6_conf.IaConf.{IaConf}
use Rattle.v6_options.specs.Ias.{IaContent}
use Rattle.v6_message.specs.ReadBack.{asked_in}
use Rattle.v6_message.specs.Requests.{AskedContent}
use Rattle.v6_items.specs.declared.asks.IaAsk.{IaAsk}
use Rattle.evidence_words.specs.ClientModel.ClientSettings6.{ask_for}
use Rattle.evidence_words.specs.Inputs.{Site}
use Rattle.lease6_evidence.specs.OwnMessages6 as own
use Rattle.lease6_judge.specs.Terms.{not_held}
use Rattle.item_judge.specs.declared.table.ItemTable.{ItemTable}
use Rattle.item_judge.specs.Judging.{TellsTables}
use Rattle.item_judge.specs.Own.{is_given_back}
use Rattle.item_judge.specs.Tables.{term_at}

-- where an IA is still asked for, and none is left, they aren't all
pub none_more : (test : IaAsk → AskedContent → Bool) (confs : List IaConf) (i : ℕ) → i < length confs
    → own.are_all test (map ask_for (drop i confs)) [] ≡ false
none_more test [] i less = absurd (omega (arith, less))
none_more test (conf ∷ confs) zero less = refl
none_more test (conf ∷ confs) (suc i) less = none_more test confs i (omega (arith, less))

none_left : (asks : List IaAsk) → own.are_some asks [] ≡ true
none_left [] = refl
none_left (ask ∷ asks) = refl

module _ (ask : IaAsk) (asks : List IaAsk) where
  pub without_ias : (ias : List IaContent) → ias ≡ [] → own.are_some (ask ∷ asks) (map asked_in ias) ≡ own.are_some asks (map asked_in ias)
  without_ias ias is =
      ap (λ (x : List IaContent). own.are_some (ask ∷ asks) (map asked_in x)) is
      ∙ sym (none_left asks)
      ∙ ap (λ (x : List IaContent). own.are_some asks (map asked_in x)) (sym is)

  by : (b : Bool) (one other : Bool) → b ≡ true → (if b then one else other) ≡ one
  by true one other h = refl
  by false one other h = absurd cc

  by_not : (b : Bool) (one other : Bool) → b ≡ false → (if b then one else other) ≡ other
  by_not false one other h = refl
  by_not true one other h = absurd cc

  pub taken_next : (ia : IaContent) (rest ias : List IaContent) → ias ≡ ia ∷ rest → is_given_back ask (asked_in ia) ≡ true
      → own.are_some (ask ∷ asks) (map asked_in ias) ≡ own.are_some asks (map asked_in rest)
  taken_next ia rest ias is given =
      ap (λ (x : List IaContent). own.are_some (ask ∷ asks) (map asked_in x)) is
      ∙ by (is_given_back ask (asked_in ia)) (own.are_some asks (map asked_in rest)) (own.are_some asks (map asked_in (ia ∷ rest))) given

  pub left_there : (ia : IaContent) (rest ias : List IaContent) → ias ≡ ia ∷ rest → is_given_back ask (asked_in ia) ≡ false
      → own.are_some (ask ∷ asks) (map asked_in ias) ≡ own.are_some asks (map asked_in ias)
  left_there ia rest ias is given =
      ap (λ (x : List IaContent). own.are_some (ask ∷ asks) (map asked_in x)) is
      ∙ by_not (is_given_back ask (asked_in ia)) (own.are_some asks (map asked_in rest)) (own.are_some asks (map asked_in (ia ∷ rest))) given
      ∙ ap (λ (x : List IaContent). own.are_some asks (map asked_in x)) (sym is)

-- ---- empty tables

pub first_more : (site : Site) (confs : List IaConf) (i : ℕ) (d : IaConf) → i < length confs → (one : ItemTable) (rest : List ItemTable)
    → one.ask ≡ ask_for (get_or confs i d) → ((net : _) → term_at one.terms net ≡ not_held)
    → TellsTables site [] rest (map ask_for (drop (suc i) confs)) → TellsTables site [] (one ∷ rest) (map ask_for (drop i confs))
first_more site [] i d less one rest is empty tells = absurd (omega (arith, less))
first_more site (conf ∷ confs) zero d less one rest is empty tells = (record { ask_is = is; terms = λ net fits. empty net }, tells)
first_more site (conf ∷ confs) (suc i) d less one rest is empty tells =
    first_more site confs i d (omega (arith, less)) one rest is empty tells

pub none_after : (confs : List IaConf) (i : ℕ) → length confs ≤ i → drop i confs ≡ []
none_after [] zero less = refl
none_after [] (suc i) less = refl
none_after (conf ∷ confs) zero less = absurd (omega (arith, less))
none_after (conf ∷ confs) (suc i) less = none_after confs i (omega (arith, less))
