-- Lines that stand one after another, and what they say at a place.
use Rattle.std.proofs.Common.{◌≡◌, Bool, true, false, cond, List, [], ◌∷◌, ◌++◌, filter_map, Option, Some, None, unwrap_or, refl, sym, ap, ◌∙◌, subst}
use Rattle.std.specs.List.{cons_option, list_any}
use Rattle.std.proofs.lemmas.Bool.{or_parts}
use Rattle.net_types.specs.declared.interface.Name.{Name}
use Rattle.net_types.specs.NameText.{name_text}
use Rattle.conf_words.specs.Directives.{Directive}
use Rattle.conf_directives.specs.declared.names.HeadingName.{HeadingName}
use Rattle.conf_directives.specs.declared.names.HeadingName.TheVariants.{Interface, Profile, Ssid}
use Rattle.conf_directives.specs.Names.{heading_at}
use Rattle.conf_directives.specs.Contents.{DirectiveContent}
use Rattle.conf_text.specs.Places.{Place, Global, Block, Skipped, is_named, is_place, interface_of}
use Rattle.conf_text.specs.Standings.{Standing, StandsUnder, Stands, StandFrom, place_after, place_from}
use Rattle.conf_text.specs.Sayings.{directive_of, said_there, said_at_place}
use Rattle.conf_scopes.specs.ScopeSteps.{list_with}
use Rattle.conf_text.proofs.ListLaws.{list_found}
use Rattle.conf_text.proofs.NameLaws.{place_alike}

-- ---- one line more

pub place_from_more : (place : Place) (front : List Standing) (stands : Standing) → place_from place (front ++ stands ∷ []) ≡ place_after stands
place_from_more place [] stands = refl
place_from_more place (first ∷ front) stands = place_from_more (place_after first) front stands

pub stand_more : (place : Place) (lines : List Directive) (front : List Standing) (line : Directive) (rest : List Directive) (stands : Standing)
    → StandFrom place lines front (line ∷ rest) → Stands (place_from place front) line stands → StandFrom place lines (front ++ stands ∷ []) rest
stand_more place lines [] line rest stands before here = subst (λ (ls : List Directive). StandFrom place ls (stands ∷ []) rest) (sym before) (here, refl)
stand_more place [] (first ∷ front) line rest stands before here = absurd before
stand_more place (one ∷ lines) (first ∷ front) line rest stands before here =
    (before.0, stand_more (place_after first) lines front line rest stands before.1 here)

-- each line stands where the one in front of it leaves it
abbrev pub Chained : Place → List Standing → Type 0
Chained place [] = Unit {0}
Chained place (stands ∷ front) = (stands.place ≡ place) × Chained (place_after stands) front

pub stands_there : (heading : Option HeadingName) (place : Place) (line : Directive) (stands : Standing) → StandsUnder heading place line stands
    → stands.place ≡ place
stands_there (Some Interface) place line stands here = ap (λ s. s.place) here.2
stands_there (Some Profile) place line stands here = ap (λ s. s.place) here
stands_there (Some Ssid) place line stands here = ap (λ s. s.place) here
stands_there None place line stands here = ap (λ s. s.place) here.2

pub stands_number : (heading : Option HeadingName) (place : Place) (line : Directive) (stands : Standing) → StandsUnder heading place line stands
    → stands.number ≡ line.number
stands_number (Some Interface) place line stands here = ap (λ s. s.number) here.2
stands_number (Some Profile) place line stands here = ap (λ s. s.number) here
stands_number (Some Ssid) place line stands here = ap (λ s. s.number) here
stands_number None place line stands here = ap (λ s. s.number) here.2

pub chained : (place : Place) (lines : List Directive) (front : List Standing) (rest : List Directive) → StandFrom place lines front rest → Chained place front
chained place lines [] rest stand = tt
chained place [] (stands ∷ front) rest stand = absurd stand
chained place (line ∷ lines) (stands ∷ front) rest stand =
    (stands_there (heading_at line.word) place line stands stand.0, chained (place_after stands) lines front rest stand.1)

-- ---- what they say

pub said_more : (place : Place) (front : List Standing) (stands : Standing) (said : Option DirectiveContent) → said_there place stands ≡ said
    → said_at_place place (front ++ stands ∷ []) ≡ list_with (said_at_place place front) said
said_more place front stands said e = list_found (said_there place) front stands ∙ ap (list_with (said_at_place place front)) e

said_nowhere : {X : Type 0} (b : Bool) (x : X) → cond b x x ≡ x
said_nowhere true x = refl
said_nowhere false x = refl

pub nothing_there : (place : Place) (stands : Standing) → directive_of stands ≡ None → said_there place stands ≡ None
nothing_there place stands none =
    ap (λ (o : Option DirectiveContent). cond (is_place place stands.place) o None) none ∙ said_nowhere (is_place place stands.place) None

pub not_there : (place : Place) (stands : Standing) → is_place place stands.place ≡ false → said_there place stands ≡ None
not_there place stands apart = ap (λ b. cond b (directive_of stands) None) apart

pub said_here : (place : Place) (stands : Standing) (said : Option DirectiveContent) → is_place place stands.place ≡ true → directive_of stands ≡ said
    → said_there place stands ≡ said
said_here place stands said here e = ap (λ b. cond b (directive_of stands) None) here ∙ e

-- names with one text have one block
said_alike : (name other : Name) → name_text other ≡ name_text name → (front : List Standing)
    → said_at_place (Block other) front ≡ said_at_place (Block name) front
said_alike name other e [] = refl
said_alike name other e (stands ∷ front) =
    ap (λ b. cons_option (cond b (directive_of stands) None) (said_at_place (Block other) front)) (place_alike name other e stands.place)
    ∙ ap (cons_option (said_there (Block name) stands)) (said_alike name other e front)

pub said_by_text : (name other : Name) → name_text other ≡ name_text name → (front : List Standing)
    → said_at_place (Block other) front ≡ said_at_place (Block name) front
said_by_text name other e front = said_alike name other e front

-- ---- an interface that has no block yet

abbrev pub begun : Standing → Option Name
begun stands = interface_of stands.begins

apart_after : (name : Name) (begins : Option Place) (place : Place) (names : List Name) → is_place (Block name) place ≡ false
    → list_any (is_named name) (cons_option (interface_of begins) names) ≡ false
    → (is_place (Block name) (unwrap_or begins place) ≡ false) × (list_any (is_named name) names ≡ false)
apart_after name None place names apart none = (apart, none)
apart_after name (Some Global) place names apart none = (refl, none)
apart_after name (Some (Block other)) place names apart none = or_parts (is_named name other) (list_any (is_named name) names) none
apart_after name (Some Skipped) place names apart none = (refl, none)

pub none_said : (name : Name) (place : Place) (front : List Standing) → Chained place front → is_place (Block name) place ≡ false
    → list_any (is_named name) (filter_map begun front) ≡ false → said_at_place (Block name) front ≡ []
none_said name place [] chain apart none = refl
none_said name place (stands ∷ front) chain apart none =
    let here : is_place (Block name) stands.place ≡ false = ap (is_place (Block name)) chain.0 ∙ apart in
    let later = apart_after name stands.begins stands.place (filter_map begun front) here none in
    ap (λ (o : Option DirectiveContent). cons_option o (said_at_place (Block name) front)) (not_there (Block name) stands here)
    ∙ none_said name (place_after stands) front chain.1 later.0 later.1
