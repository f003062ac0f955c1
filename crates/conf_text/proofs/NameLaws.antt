-- The names of the interfaces that have blocks.
use Rattle.std.proofs.Common.{◌≡◌, ℕ, suc, Bool, true, false, ◌||◌, cond, List, [], ◌∷◌, ◌++◌, map, Option, Some, None, option_map, refl, sym, ap, ◌∙◌, subst}
use Rattle.std.specs.Prelude.{slice_get, bytes_eq}
use Rattle.std.specs.List.{list_any}
use Rattle.std.proofs.lemmas.Bool.{or_parts, true≢false}
use Rattle.std.proofs.lemmas.List.Folds.{list_any-append}
use Rattle.std.proofs.lemmas.Option.{none-some, same_Some}
use Rattle.std.proofs.lemmas.Slice.Eq.{bytes_eq-Decides}
use Rattle.net_types.specs.declared.interface.Name.{Name}
use Rattle.net_types.specs.NameText.{name_text}
use Rattle.conf_text.specs.Configurations.{BlockContent}
use Rattle.conf_text.specs.Faults.{added, unlike_after}
use Rattle.conf_text.specs.Places.{Place, Global, Block, Skipped, is_named, is_place}
use Rattle.conf_text.specs.Steps.{first_place, set_to}

-- ---- names with one text

pub named_same : (name other : Name) → is_named name other ≡ true → name_text other ≡ name_text name
named_same name other e = (bytes_eq-Decides (name_text other) (name_text name)).0 e

pub same_named : (name other : Name) → name_text other ≡ name_text name → is_named name other ≡ true
same_named name other e = (bytes_eq-Decides (name_text other) (name_text name)).1 e

pub named_alike : (name other : Name) → name_text other ≡ name_text name → (third : Name) → is_named other third ≡ is_named name third
named_alike name other e third = ap (bytes_eq (name_text third)) e

pub named_back : (name other : Name) → is_named name other ≡ is_named other name
named_back name other =
    elim (is_named name other) as (λ b. is_named name other ≡ b → b ≡ is_named other name) [
      | true ↦ (λ e. sym (same_named other name (sym (named_same name other e))))
      | false ↦ (λ e.
          elim (is_named other name) as (λ b. is_named other name ≡ b → false ≡ b)
          [ true ↦ (λ h. absurd (true≢false (sym (same_named name other (sym (named_same other name h))) ∙ e))) | false ↦ (λ h. refl) ]
          refl)
    ]
    refl

pub place_alike : (name other : Name) → name_text other ≡ name_text name → (place : Place) → is_place (Block other) place ≡ is_place (Block name) place
place_alike name other e Global = refl
place_alike name other e (Block third) = named_alike name other e third
place_alike name other e Skipped = refl

-- ---- tests of lists

any_alike : (one other : Name → Bool) → ((name : Name) → one name ≡ other name) → (names : List Name) → list_any one names ≡ list_any other names
any_alike one other same [] = refl
any_alike one other same (name ∷ names) = ap (λ b. b || list_any one names) (same name) ∙ ap (λ b. other name || b) (any_alike one other same names)

none_or : (a b : Bool) → a ≡ false → b ≡ false → (a || b) ≡ false
none_or a b e h = ap (λ c. c || b) e ∙ h

-- ---- names, each at its first place

pub unlike_more : (before names : List Name) (name : Name) → unlike_after before (names ++ name ∷ []) ≡ added (unlike_after before names) name
unlike_more before [] name = refl
unlike_more before (first ∷ names) name = unlike_more (added before first) names name

abbrev pub AreUnlike : List Name → Type 0
AreUnlike [] = Unit {0}
AreUnlike (name ∷ names) = (list_any (is_named name) names ≡ false) × AreUnlike names

unlike_join : (names : List Name) (name : Name) → list_any (is_named name) names ≡ false → AreUnlike names → AreUnlike (names ++ name ∷ [])
unlike_join [] name none unlike = (refl, tt)
unlike_join (first ∷ names) name none unlike =
    let parts = or_parts (is_named name first) (list_any (is_named name) names) none in
    let last : list_any (is_named first) (name ∷ []) ≡ false = none_or (is_named first name) false (named_back first name ∙ parts.0) refl in (
      list_any-append (is_named first) names (name ∷ []) ∙ none_or (list_any (is_named first) names) (list_any (is_named first) (name ∷ [])) unlike.0 last,
      unlike_join names name parts.1 unlike.1,
    )

unlike_added : (names : List Name) (name : Name) → AreUnlike names → AreUnlike (added names name)
unlike_added names name unlike =
    elim (list_any (is_named name) names) as (λ b. list_any (is_named name) names ≡ b → AreUnlike (cond b names (names ++ name ∷ [])))
    [ true ↦ (λ e. unlike) | false ↦ (λ e. unlike_join names name e unlike) ]
    refl

pub unlike_all : (before names : List Name) → AreUnlike before → AreUnlike (unlike_after before names)
unlike_all before [] unlike = unlike
unlike_all before (name ∷ names) unlike = unlike_all (added before name) names (unlike_added before name unlike)

-- what isn't among the names that were left isn't among all of them
none_added : (before : List Name) (first name : Name) → list_any (is_named name) (added before first) ≡ false
    → (list_any (is_named name) before ≡ false) × (is_named name first ≡ false)
none_added before first name =
    elim (list_any (is_named first) before) as
    (λ b. list_any (is_named first) before ≡ b → list_any (is_named name) (cond b before (before ++ first ∷ [])) ≡ false
    → (list_any (is_named name) before ≡ false) × (is_named name first ≡ false)) [
      | true ↦ (λ e none. (
        none,
        elim (is_named name first) as (λ b. is_named name first ≡ b → b ≡ false) [
          | true ↦
              (λ h. absurd (true≢false (sym e ∙ any_alike (is_named first) (is_named name) (named_alike name first (named_same name first h)) before ∙ none)))
          | false ↦
              (λ h. refl)
        ]
            refl,
      ))
      | false ↦ (λ e none.
          let parts =
          or_parts (list_any (is_named name) before) (list_any (is_named name) (first ∷ []))
          (sym (list_any-append (is_named name) before (first ∷ [])) ∙ none) in
          (parts.0, (or_parts (is_named name first) false parts.1).0))
    ]
    refl

pub none_unlike : (before names : List Name) (name : Name) → list_any (is_named name) (unlike_after before names) ≡ false
    → (list_any (is_named name) before ≡ false) × (list_any (is_named name) names ≡ false)
none_unlike before [] name none = (none, refl)
none_unlike before (first ∷ names) name none =
    let later = none_unlike (added before first) names name none in
    let here = none_added before first name later.0 in
    (here.0, none_or (is_named name first) (list_any (is_named name) names) here.1 later.1)

-- ---- the block of a name

suc_of : (o : Option ℕ) (k : ℕ) → option_map suc o ≡ Some k → (j : ℕ) × (o ≡ Some j) × (k ≡ suc j)
suc_of None k e = absurd (none-some k e)
suc_of (Some j) k e = (j, refl, sym (same_Some (suc j) k e))

pub record AtPlace (name : Name) (names : List Name) (place : ℕ) : Type 0 where
  pub there : Name
  pub gets : slice_get names place ≡ Some there
  pub named : is_named name there ≡ true

pub at_place : (name : Name) (names : List Name) (place : ℕ) → first_place (is_named name) names ≡ Some place → AtPlace name names place
at_place name [] place e = absurd (none-some place e)
at_place name (first ∷ names) place e =
    elim (is_named name first) as
    (λ b. is_named name first ≡ b → cond b (Some 0) (option_map suc (first_place (is_named name) names)) ≡ Some place → AtPlace name (first ∷ names) place) [
      | true ↦ (λ h e. subst (AtPlace name (first ∷ names)) (same_Some 0 place e) record { there = first; gets = refl; named = h })
      | false ↦ (λ h e.
          let later = suc_of (first_place (is_named name) names) place e in
          let found = at_place name names later.0 later.1 in
          subst (AtPlace name (first ∷ names)) (sym later.2) record { there = found.there; gets = found.gets; named = found.named })
    ]
    refl e

map_alike : {X : Type 0} (f g : Name → X) (test : Name → Bool) (names : List Name) → list_any test names ≡ false
    → ((name : Name) → test name ≡ false → g name ≡ f name) → map g names ≡ map f names
map_alike f g test [] none same = refl
map_alike f g test (name ∷ names) none same =
    let parts = or_parts (test name) (list_any test names) none in
    ap (λ x. x ∷ map g names) (same name parts.0) ∙ ap (λ xs. f name ∷ xs) (map_alike f g test names parts.1 same)

set_later : (block : BlockContent) (blocks : List BlockContent) (place : ℕ) (o : Option BlockContent)
    → set_to (block ∷ blocks) (suc place) o ≡ block ∷ set_to blocks place o
set_later block blocks place None = refl
set_later block blocks place (Some other) = refl

-- one name's block is changed, at its place
pub set_block : (name : Name) (f g : Name → BlockContent) (step : BlockContent → BlockContent) (names : List Name) (place : ℕ) → AreUnlike names
    → first_place (is_named name) names ≡ Some place → ((other : Name) → is_named name other ≡ false → g other ≡ f other)
    → ((other : Name) → is_named name other ≡ true → g other ≡ step (f other))
    → map g names ≡ set_to (map f names) place (option_map step (slice_get (map f names) place))
set_block name f g step [] place unlike e same changed = absurd (none-some place e)
set_block name f g step (first ∷ names) place unlike e same changed =
    elim (is_named name first) as
    (λ b. is_named name first ≡ b → cond b (Some 0) (option_map suc (first_place (is_named name) names)) ≡ Some place
    → map g (first ∷ names) ≡ set_to (map f (first ∷ names)) place (option_map step (slice_get (map f (first ∷ names)) place))) [
      | true ↦ (λ h at.
          let others : list_any (is_named name) names ≡ false =
          sym (any_alike (is_named first) (is_named name) (named_alike name first (named_same name first h)) names) ∙ unlike.0 in
          subst (λ k. map g (first ∷ names) ≡ set_to (map f (first ∷ names)) k (option_map step (slice_get (map f (first ∷ names)) k))) (same_Some 0 place at)
          (ap (λ x. x ∷ map g names) (changed first h) ∙ ap (λ xs. step (f first) ∷ xs) (map_alike f g (is_named name) names others same)))
      | false ↦ (λ h at.
          let later = suc_of (first_place (is_named name) names) place at in
          subst (λ k. map g (first ∷ names) ≡ set_to (map f (first ∷ names)) k (option_map step (slice_get (map f (first ∷ names)) k))) (sym later.2)
          (ap (λ x. x ∷ map g names) (same first h) ∙ ap (λ xs. f first ∷ xs) (set_block name f g step names later.0 unlike.1 later.1 same changed)
          ∙ sym (set_later (f first) (map f names) later.0 (option_map step (slice_get (map f names) later.0)))))
    ]
    refl e
