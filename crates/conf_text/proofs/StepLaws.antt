-- A step of the reader is what the definitions say of one line more.
use Rattle.std.proofs.Common.{◌≡◌, ℕ, suc, Bool, true, false, not, ◌&&◌, ◌||◌, cond, List, [], ◌∷◌, ◌++◌, length, map, filter_map, Option, Some, None, option_map, Result, Ok, Err, refl, sym, ap, ◌∙◌, subst}
use Rattle.std.specs.Prelude.{nat_le}
use Rattle.std.specs.List.{flat_map, last_or, list_any}
use Rattle.std.specs.Option.{option_or}
use Rattle.std.proofs.Math.Bool.{and-false}
use Rattle.std.proofs.lemmas.Grind.{flat_map-append}
use Rattle.std.proofs.lemmas.List.{append-nil, append_assoc, length-map, map-append}
use Rattle.std.proofs.lemmas.Option.{none-some, slice_get-map}
use Rattle.net_types.specs.declared.interface.Name.{Name}
use Rattle.conf_words.specs.Directives.{Directive}
use Rattle.conf_directives.specs.declared.names.InterfaceList.TheVariants.{Allowed, Denied}
use Rattle.conf_values.specs.declared.patterns.Pattern.{Pattern}
use Rattle.conf_directives.specs.Names.{heading_at}
use Rattle.conf_directives.specs.Contents.{DirectiveContent, SaidContent}
use Rattle.conf_text.specs.declared.answers.ConfCause.{ConfCause}
use Rattle.conf_text.specs.declared.answers.ConfCause.TheVariants.{BadArgument, TooMany}
use Rattle.conf_text.specs.declared.answers.ConfFault.{ConfFault}
use Rattle.conf_scopes.specs.declared.counting.TheConstants.{MOST_BLOCKS}
use Rattle.conf_text.specs.declared.reader.Spot.{Spot}
use Rattle.conf_text.specs.declared.reader.Spot.TheVariants as Spots
use Rattle.conf_text.specs.Configurations.{NoticeContent, BlockContent, Configuration, block_of, configured, interfaces_of, notices_of}
use Rattle.conf_text.specs.Faults.{added, cause_at, cause_from, cause_of, cause_of_heading, cause_of_said, fault, fault_at, first_fault, first_from, names_in, unlike_after}
use Rattle.conf_text.specs.Laws.{HasFault}
use Rattle.conf_text.specs.Places.{Place, Global, Block, Skipped, interface_of, is_named}
use Rattle.conf_text.specs.Sayings.{directive_of, said_there, said_at_place, said_for, said_of}
use Rattle.conf_scopes.specs.Scopes.{ScopeContent, scope_of}
use Rattle.conf_text.specs.Standings.{Standing, Stand, Stands, place_after, place_of}
use Rattle.conf_scopes.specs.ScopeSteps.{both_counts, list_with, scope_counts}
use Rattle.conf_text.specs.Steps.{ReadSoFar, IsAt, TakesLine, block_with, cause_now, conf_counts, directive_step, enter, entered, first_place, global_with, noticed_step, notices_with, say_at, say_now, scope_or_empty, step, take_step, taken, with_block}
use Rattle.conf_scopes.specs.Values.{interfaces_said, script_said}
use Rattle.conf_text.proofs.CountLaws.{cause_alone, cause_join}
use Rattle.conf_text.proofs.ListLaws.{first_place_map, last_found, lists_found, with_found}
use Rattle.conf_text.proofs.NameLaws.{at_place, named_back, named_same, same_named, none_unlike, set_block, unlike_all, unlike_more}
use Rattle.conf_text.proofs.SayingLaws.{begun, chained, Chained, none_said, not_there, nothing_there, place_from_more, said_by_text, said_here, said_more, stand_more, stands_number, stands_there}
use Rattle.conf_text.proofs.ScopeLaws.{scope_more}

-- ---- where the reader is

-- it is at the place of these names where lines stand
abbrev pub IsSpot : List Name → Place → Spot → Type 0
IsSpot names Global Spots.Global = Unit {0}
IsSpot names (Block name) (Spots.Block index) = first_place (is_named name) names ≡ Some index
IsSpot names Skipped Spots.Skipped = Unit {0}
IsSpot _ _ _ = ⊥

is_at : (names : List Name) (place : Place) (spot : Spot) → IsSpot names place spot → IsAt place spot
is_at names Global Spots.Global at = tt
is_at names Global (Spots.Block index) at = absurd at
is_at names Global Spots.Skipped at = absurd at
is_at names (Block name) Spots.Global at = absurd at
is_at names (Block name) (Spots.Block index) at = tt
is_at names (Block name) Spots.Skipped at = absurd at
is_at names Skipped Spots.Global at = absurd at
is_at names Skipped (Spots.Block index) at = absurd at
is_at names Skipped Spots.Skipped at = tt

abbrev pub state : List Standing → Spot → ReadSoFar
state front spot = record { conf = configured front; spot = spot }

-- ---- parts of a configuration with one line more

pub record Parts : Type 0 where
  pub global : ScopeContent
  pub blocks : List BlockContent
  pub allowed : List Pattern
  pub denied : List Pattern
  pub script : Option (List ℕ)

abbrev conf_from : Parts → List NoticeContent → Configuration
conf_from parts notices = record {
  global = parts.global;
  blocks = parts.blocks;
  allowed = parts.allowed;
  denied = parts.denied;
  script = parts.script;
  notices = notices;
}

abbrev parts_of : Configuration → Parts
parts_of conf = record { global = conf.global; blocks = conf.blocks; allowed = conf.allowed; denied = conf.denied; script = conf.script }

notices_more : (front : List Standing) (stands : Standing) → flat_map notices_of (front ++ stands ∷ []) ≡ flat_map notices_of front ++ notices_of stands
notices_more front stands =
    flat_map-append notices_of front (stands ∷ []) ∙ ap (λ (ns : List NoticeContent). flat_map notices_of front ++ ns) (append-nil (notices_of stands))

-- what a line adds to notices, whatever it does to the other parts
next_conf : (front : List Standing) (stands : Standing) (parts : Parts) → parts_of (configured (front ++ stands ∷ [])) ≡ parts
    → configured (front ++ stands ∷ []) ≡ conf_from parts ((configured front).notices ++ notices_of stands)
unfolding configured
next_conf front stands parts e =
    ap (λ (p : Parts). conf_from p (flat_map notices_of (front ++ stands ∷ []))) e ∙ ap (conf_from parts) (notices_more front stands)

abbrev names_with : List Name → Option Name → List Name
names_with names None = names
names_with names (Some name) = added names name

names_more : (front : List Standing) (stands : Standing) (name : Option Name) → begun stands ≡ name
    → names_in (front ++ stands ∷ []) ≡ names_with (names_in front) name
names_more front stands name e =
    with_found begun (unlike_after []) names_with (λ names. refl) (unlike_more []) front stands ∙ ap (names_with (names_in front)) e

map_same : {X : Type 0} (f g : Name → X) → ((name : Name) → g name ≡ f name) → (names : List Name) → map g names ≡ map f names
map_same f g same [] = refl
map_same f g same (name ∷ names) = ap (λ x. x ∷ map g names) (same name) ∙ ap (λ xs. f name ∷ xs) (map_same f g same names)

block_same : (front : List Standing) (stands : Standing) (name : Name) → said_there (Block name) stands ≡ None
    → block_of (front ++ stands ∷ []) name ≡ block_of front name
block_same front stands name none =
    ap (λ (lines : List DirectiveContent). let block : BlockContent = record { name = name; scope = scope_of lines } in block)
    (said_more (Block name) front stands None none)

block_more : (front : List Standing) (stands : Standing) (name : Name) (said : DirectiveContent) → said_there (Block name) stands ≡ Some said
    → block_of (front ++ stands ∷ []) name ≡ block_with said (block_of front name)
block_more front stands name said there =
    ap (λ (lines : List DirectiveContent). let block : BlockContent = record { name = name; scope = scope_of lines } in block)
    (said_more (Block name) front stands (Some said) there)
    ∙ ap (λ (scope : ScopeContent). let block : BlockContent = record { name = name; scope = scope } in block)
    (scope_more (said_at_place (Block name) front) said)

-- the global parts, where a line says nothing there
abbrev global_parts : List DirectiveContent → List BlockContent → Parts
global_parts lines blocks = record {
  global = scope_of lines;
  blocks = blocks;
  allowed = interfaces_of Allowed lines;
  denied = interfaces_of Denied lines;
  script = last_or None (filter_map script_said lines);
}

parts_so : (front : List Standing) → parts_of (configured front) ≡ global_parts (said_at_place Global front) (map (block_of front) (names_in front))
unfolding configured
parts_so front = refl

parts_next : (front : List Standing) (stands : Standing) (said : Option DirectiveContent) (blocks : List BlockContent) → said_there Global stands ≡ said
    → map (block_of (front ++ stands ∷ [])) (names_in (front ++ stands ∷ [])) ≡ blocks
    → parts_of (configured (front ++ stands ∷ [])) ≡ global_parts (list_with (said_at_place Global front) said) blocks
parts_next front stands said blocks there e =
    parts_so (front ++ stands ∷ [])
    ∙ ap (λ (lines : List DirectiveContent). global_parts lines (map (block_of (front ++ stands ∷ [])) (names_in (front ++ stands ∷ []))))
    (said_more Global front stands said there)
    ∙ ap (global_parts (list_with (said_at_place Global front) said)) e

-- one global line more
global_more : (lines : List DirectiveContent) (said : DirectiveContent) (blocks : List BlockContent) (conf : Configuration)
    → parts_of conf ≡ global_parts lines blocks → global_parts (lines ++ said ∷ []) blocks ≡ parts_of (global_with said conf)
global_more lines said blocks conf e =
    let scope = scope_more lines said in
    let allowed = lists_found (interfaces_said Allowed) lines said in
    let denied = lists_found (interfaces_said Denied) lines said in
    let script = last_found script_said lines said in
    let global : conf.global ≡ scope_of lines = ap (λ (p : Parts). p.global) e in
    let others : conf.blocks ≡ blocks = ap (λ (p : Parts). p.blocks) e in
    let allow : conf.allowed ≡ interfaces_of Allowed lines = ap (λ (p : Parts). p.allowed) e in
    let deny : conf.denied ≡ interfaces_of Denied lines = ap (λ (p : Parts). p.denied) e in
    let path : conf.script ≡ last_or None (filter_map script_said lines) = ap (λ (p : Parts). p.script) e in
    cc

-- ---- lines that say nothing in a scope

-- a line without directive leaves all but names and notices
quiet_conf : (front : List Standing) (stands : Standing) (blocks : List BlockContent) → directive_of stands ≡ None
    → map (block_of (front ++ stands ∷ [])) (names_in (front ++ stands ∷ [])) ≡ blocks
    → configured (front ++ stands ∷ []) ≡ record (configured front) { blocks = blocks; notices = (configured front).notices ++ notices_of stands }
unfolding configured
quiet_conf front stands blocks none e =
    next_conf front stands (global_parts (said_at_place Global front) blocks) (parts_next front stands None blocks (nothing_there Global stands none) e)

quiet_blocks : (front : List Standing) (stands : Standing) → directive_of stands ≡ None → (names : List Name)
    → map (block_of (front ++ stands ∷ [])) names ≡ map (block_of front) names
quiet_blocks front stands none names =
    map_same (block_of front) (block_of (front ++ stands ∷ [])) (λ name. block_same front stands name (nothing_there (Block name) stands none)) names

quiet_next : (front : List Standing) (stands : Standing) → directive_of stands ≡ None → begun stands ≡ None
    → configured (front ++ stands ∷ []) ≡ notices_with stands.number (said_of stands).notices (configured front)
unfolding configured
quiet_next front stands none nameless =
    quiet_conf front stands (map (block_of front) (names_in front)) none
    (ap (map (block_of (front ++ stands ∷ []))) (names_more front stands None nameless) ∙ quiet_blocks front stands none (names_in front))

-- ---- one step

pub record Goes (front : List Standing) (stands : Standing) (next : ReadSoFar) : Type 0 where
  pub good : cause_at front stands ≡ None
  pub is : next.conf ≡ configured (front ++ stands ∷ [])
  pub at : IsSpot (names_in (front ++ stands ∷ [])) (place_after stands) next.spot

abbrev pub Outcome : List Standing → Standing → Result ReadSoFar ConfCause → Type 0
Outcome front stands (Err cause) = cause_at front stands ≡ Some cause
Outcome front stands (Ok next) = Goes front stands next

abbrev pub stand_so : ℕ → Place → Option Place → Option SaidContent → Standing
stand_so number place begins said = record { number = number; place = place; begins = begins; said = said }

any_placed : (name : Name) (names : List Name) (index : ℕ) → first_place (is_named name) names ≡ Some index → list_any (is_named name) names ≡ true
any_placed name [] index e = absurd (none-some index e)
any_placed name (first ∷ names) index e = at (is_named name first) (any_placed name names) e
  where
    placed : (o : Option ℕ) → ((k : ℕ) → o ≡ Some k → list_any (is_named name) names ≡ true) → option_map suc o ≡ Some index
        → list_any (is_named name) names ≡ true
    placed None later e = absurd (none-some index e)
    placed (Some k) later e = later k refl

    at : (b : Bool) → ((k : ℕ) → first_place (is_named name) names ≡ Some k → list_any (is_named name) names ≡ true)
        → cond b (Some 0) (option_map suc (first_place (is_named name) names)) ≡ Some index → (b || list_any (is_named name) names) ≡ true
    at true later e = refl
    at false later e = placed (first_place (is_named name) names) later e

none_placed : (name : Name) (names : List Name) → first_place (is_named name) names ≡ None → list_any (is_named name) names ≡ false
none_placed name [] e = refl
none_placed name (first ∷ names) e = at (is_named name first) (none_placed name names) e
  where
    placed : (o : Option ℕ) → (o ≡ None → list_any (is_named name) names ≡ false) → option_map suc o ≡ None → list_any (is_named name) names ≡ false
    placed None later e = later refl
    placed (Some k) later e = absurd (none-some (suc k) (sym e))

    at : (b : Bool) → (first_place (is_named name) names ≡ None → list_any (is_named name) names ≡ false)
        → cond b (Some 0) (option_map suc (first_place (is_named name) names)) ≡ None → (b || list_any (is_named name) names) ≡ false
    at true later e = absurd (none-some 0 (sym e))
    at false later e = placed (first_place (is_named name) names) later e

last_placed : (name : Name) (names : List Name) → first_place (is_named name) names ≡ None
    → first_place (is_named name) (names ++ name ∷ []) ≡ Some (length names)
last_placed name [] e = ap (λ b. cond b (Some 0) None) (same_named name name refl)
last_placed name (first ∷ names) e = at (is_named name first) (last_placed name names) e
  where
    placed : (o : Option ℕ) → (o ≡ None → first_place (is_named name) (names ++ name ∷ []) ≡ Some (length names)) → option_map suc o ≡ None
        → first_place (is_named name) (names ++ name ∷ []) ≡ Some (length names)
    placed None later e = later refl
    placed (Some k) later e = absurd (none-some (suc k) (sym e))

    at : (b : Bool) → (first_place (is_named name) names ≡ None → first_place (is_named name) (names ++ name ∷ []) ≡ Some (length names))
        → cond b (Some 0) (option_map suc (first_place (is_named name) names)) ≡ None
        → cond b (Some 0) (option_map suc (first_place (is_named name) (names ++ name ∷ []))) ≡ Some (suc (length names))
    at true later e = absurd (none-some 0 (sym e))
    at false later e = ap (option_map suc) (placed (first_place (is_named name) names) later e)

-- ---- a block begins

goes_on_in : (front : List Standing) (number : ℕ) (place : Place) (name : Name) (said : SaidContent) (index : ℕ)
    → first_place (is_named name) (names_in front) ≡ Some index
    → Goes front (stand_so number place (Some (Block name)) (Some said))
    (record { conf = notices_with number said.notices (configured front); spot = Spots.Block index })
unfolding cause_at configured
goes_on_in front number place name said index e =
    let stands : Standing = stand_so number place (Some (Block name)) (Some said) in
    let any = any_placed name (names_in front) index e in
    let names : names_in (front ++ stands ∷ []) ≡ names_in front =
    names_more front stands (Some name) refl ∙ ap (λ b. cond b (names_in front) (names_in front ++ name ∷ [])) any in
    record {
      good =
          ap (λ b. cond (nat_le MOST_BLOCKS (length (names_in front)) && not b) (Some TooMany) None) any
          ∙ ap (λ b. cond b (Some TooMany) None) (and-false (nat_le MOST_BLOCKS (length (names_in front))));
      is =
          sym
          (quiet_conf front stands (map (block_of front) (names_in front)) refl
          (ap (map (block_of (front ++ stands ∷ []))) names ∙ quiet_blocks front stands refl (names_in front)));
      at = subst (λ (ns : List Name). first_place (is_named name) ns ≡ Some index) (sym names) e;
    }

begins_new : (front : List Standing) (spot : Spot) (number : ℕ) (place : Place) (name : Name) (said : SaidContent) → Chained Global front
    → first_place (is_named name) (names_in front) ≡ None → nat_le MOST_BLOCKS (length (names_in front)) ≡ false
    → Goes front (stand_so number place (Some (Block name)) (Some said))
    (record { conf = notices_with number said.notices (with_block name (state front spot)).conf; spot = (with_block name (state front spot)).spot })
unfolding cause_at configured
begins_new front spot number place name said chain e room =
    let stands : Standing = stand_so number place (Some (Block name)) (Some said) in
    let none = none_placed name (names_in front) e in
    let names : names_in (front ++ stands ∷ []) ≡ names_in front ++ name ∷ [] =
    names_more front stands (Some name) refl ∙ ap (λ b. cond b (names_in front) (names_in front ++ name ∷ [])) none in
    let empty : said_at_place (Block name) front ≡ [] = none_said name Global front chain refl (none_unlike [] (filter_map begun front) name none).1 in
    let fresh : BlockContent = record { name = name; scope = scope_of [] } in
    let blocks : map (block_of (front ++ stands ∷ [])) (names_in (front ++ stands ∷ [])) ≡ map (block_of front) (names_in front) ++ fresh ∷ [] =
    ap (map (block_of (front ++ stands ∷ []))) names
    ∙ quiet_blocks front stands refl (names_in front ++ name ∷ [])
    ∙ map-append (block_of front) (names_in front) (name ∷ [])
    ∙ ap
    (λ (lines : List DirectiveContent). let block : BlockContent = record { name = name; scope = scope_of lines } in map (block_of front) (names_in front)
    ++ block ∷ [])
    empty in
    record {
      good =
          ap (λ b. cond (nat_le MOST_BLOCKS (length (names_in front)) && not b) (Some TooMany) None) none ∙ ap (λ b. cond (b && true) (Some TooMany) None) room;
      is = sym (quiet_conf front stands (map (block_of front) (names_in front) ++ fresh ∷ []) refl blocks);
      at = subst (λ (ns : List Name). first_place (is_named name) ns ≡ Some (length (map (block_of front) (names_in front)))) (sym names)
          (last_placed name (names_in front) e ∙ ap (λ n. Some n) (sym (length-map (names_in front) (block_of front))));
    }

no_room : (front : List Standing) (number : ℕ) (place : Place) (name : Name) (said : SaidContent) → first_place (is_named name) (names_in front) ≡ None
    → nat_le MOST_BLOCKS (length (names_in front)) ≡ true → cause_at front (stand_so number place (Some (Block name)) (Some said)) ≡ Some TooMany
unfolding cause_at
no_room front number place name said e full =
    ap (λ b. cond (nat_le MOST_BLOCKS (length (names_in front)) && not b) (Some TooMany) None) (none_placed name (names_in front) e)
    ∙ ap (λ b. cond (b && true) (Some TooMany) None) full

enter_law : (front : List Standing) (spot : Spot) (number : ℕ) (place : Place) (name : Name) (said : SaidContent) → Chained Global front
    → Outcome front (stand_so number place (Some (Block name)) (Some said)) (noticed_step number said.notices (enter (state front spot) name))
unfolding configured
enter_law front spot number place name said chain =
    subst (λ (o : Option ℕ). Outcome front stands (noticed_step number said.notices (entered (state front spot) name o)))
    (sym (first_place_map (λ (block : BlockContent). is_named name block.name) (block_of front) (names_in front)))
    (at (first_place (is_named name) (names_in front)) refl)
  where
    stands : Standing
    stands = stand_so number place (Some (Block name)) (Some said)

    full : (b : Bool) → first_place (is_named name) (names_in front) ≡ None → nat_le MOST_BLOCKS (length (names_in front)) ≡ b
        → Outcome front stands (noticed_step number said.notices (cond b (Err TooMany) (Ok (with_block name (state front spot)))))
    full true e h = no_room front number place name said e h
    full false e h = begins_new front spot number place name said chain e h

    at : (o : Option ℕ) → first_place (is_named name) (names_in front) ≡ o
        → Outcome front stands (noticed_step number said.notices (entered (state front spot) name o))
    at (Some index) e = goes_on_in front number place name said index e
    at None e =
        subst
        (λ n. Outcome front stands (noticed_step number said.notices (cond (nat_le MOST_BLOCKS n) (Err TooMany) (Ok (with_block name (state front spot))))))
        (sym (length-map (names_in front) (block_of front))) (full (nat_le MOST_BLOCKS (length (names_in front))) e refl)

-- ---- a directive

cause_global : (front : List Standing) (said : DirectiveContent)
    → cause_now (state front Spots.Global) said ≡ cause_of (said_at_place Global front) (said_at_place Global front) said
unfolding configured
cause_global front said = cause_alone (said_at_place Global front) said

cause_skipped : (front : List Standing) (said : DirectiveContent)
    → cause_now (state front Spots.Skipped) said ≡ cause_of (said_at_place Global front) (said_at_place Global front) said
unfolding configured
cause_skipped front said = cause_alone (said_at_place Global front) said

abbrev cause_with : Configuration → DirectiveContent → ScopeContent → Option ConfCause
cause_with conf said block = cause_from (conf.global.ias ++ block.ias) (both_counts (conf_counts conf) (scope_counts block)) said

cause_block : (front : List Standing) (name : Name) (index : ℕ) (said : DirectiveContent) → first_place (is_named name) (names_in front) ≡ Some index
    → cause_now (state front (Spots.Block index)) said
    ≡ cause_of (said_at_place Global front) (said_at_place Global front ++ said_at_place (Block name) front) said
unfolding configured
cause_block front name index said at =
    let found = at_place name (names_in front) index at in
    let block = slice_get-map (block_of front) (names_in front) index ∙ ap (option_map (block_of front)) found.gets in
    let lines = said_by_text name found.there (named_same name found.there found.named) front in
    ap (λ (o : Option BlockContent). cause_with (configured front) said (scope_or_empty o)) block
    ∙ ap (λ (ls : List DirectiveContent). cause_with (configured front) said (scope_of ls)) lines
    ∙ cause_join (said_at_place Global front) (said_at_place (Block name) front) said

cause_so : (front : List Standing) (place : Place) (spot : Spot) (said : DirectiveContent) → IsSpot (names_in front) place spot
    → cause_now (state front spot) said ≡ cause_of (said_at_place Global front) (said_for place front) said
cause_so front Global Spots.Global said at = cause_global front said
cause_so front Global (Spots.Block index) said at = absurd at
cause_so front Global Spots.Skipped said at = absurd at
cause_so front (Block name) Spots.Global said at = absurd at
cause_so front (Block name) (Spots.Block index) said at = cause_block front name index said at
cause_so front (Block name) Spots.Skipped said at = absurd at
cause_so front Skipped Spots.Global said at = absurd at
cause_so front Skipped (Spots.Block index) said at = absurd at
cause_so front Skipped Spots.Skipped said at = cause_skipped front said

abbrev says : ℕ → Place → DirectiveContent → List (List ℕ) → Standing
says number place said notices = stand_so number place None (Some (record { directive = Some said; notices = notices }))

abbrev said_conf : ℕ → Spot → DirectiveContent → List (List ℕ) → Configuration → Configuration
said_conf number spot said notices conf = notices_with number notices (say_now spot said conf)

same_names : (front : List Standing) (number : ℕ) (place : Place) (said : DirectiveContent) (notices : List (List ℕ))
    → names_in (front ++ says number place said notices ∷ []) ≡ names_in front
same_names front number place said notices = names_more front (says number place said notices) None refl

say_global : (front : List Standing) (number : ℕ) (said : DirectiveContent) (notices : List (List ℕ))
    → configured (front ++ says number Global said notices ∷ []) ≡ said_conf number Spots.Global said notices (configured front)
unfolding configured
say_global front number said notices =
    let stands : Standing = says number Global said notices in
    let blocks =
    ap (map (block_of (front ++ stands ∷ []))) (same_names front number Global said notices)
    ∙ map_same (block_of front) (block_of (front ++ stands ∷ [])) (λ name. block_same front stands name refl) (names_in front) in
    next_conf front stands (parts_of (global_with said (configured front)))
    (parts_next front stands (Some said) (map (block_of front) (names_in front)) refl blocks
    ∙ global_more (said_at_place Global front) said (map (block_of front) (names_in front)) (configured front) (parts_so front))

say_skipped : (front : List Standing) (number : ℕ) (said : DirectiveContent) (notices : List (List ℕ))
    → configured (front ++ says number Skipped said notices ∷ []) ≡ said_conf number Spots.Skipped said notices (configured front)
unfolding configured
say_skipped front number said notices =
    let stands : Standing = says number Skipped said notices in
    let blocks =
    ap (map (block_of (front ++ stands ∷ []))) (same_names front number Skipped said notices)
    ∙ map_same (block_of front) (block_of (front ++ stands ∷ [])) (λ name. block_same front stands name refl) (names_in front) in
    next_conf front stands (parts_of (configured front)) (parts_next front stands None (map (block_of front) (names_in front)) refl blocks)

say_block : (front : List Standing) (number : ℕ) (name : Name) (index : ℕ) (said : DirectiveContent) (notices : List (List ℕ))
    → first_place (is_named name) (names_in front) ≡ Some index
    → configured (front ++ says number (Block name) said notices ∷ []) ≡ said_conf number (Spots.Block index) said notices (configured front)
unfolding configured
say_block front number name index said notices at =
    let stands : Standing = says number (Block name) said notices in
    let apart : (other : Name) → is_named name other ≡ false → block_of (front ++ stands ∷ []) other ≡ block_of front other =
    (λ other e. block_same front stands other (not_there (Block other) stands (named_back other name ∙ e))) in
    let here : (other : Name) → is_named name other ≡ true → block_of (front ++ stands ∷ []) other ≡ block_with said (block_of front other) =
    (λ other e. block_more front stands other said (said_here (Block other) stands (Some said) (named_back other name ∙ e) refl)) in
    let blocks = ap (map (block_of (front ++ stands ∷ []))) (same_names front number (Block name) said notices)
    ∙ set_block name (block_of front) (block_of (front ++ stands ∷ [])) (block_with said) (names_in front) index
    (unlike_all [] (filter_map begun front) tt) at apart here in
    next_conf front stands (parts_of (record (configured front) { blocks = say_at index said (map (block_of front) (names_in front)) }))
    (parts_next front stands None (say_at index said (map (block_of front) (names_in front))) refl blocks)

say_so : (front : List Standing) (number : ℕ) (place : Place) (spot : Spot) (said : DirectiveContent) (notices : List (List ℕ))
    → IsSpot (names_in front) place spot → configured (front ++ says number place said notices ∷ []) ≡ said_conf number spot said notices (configured front)
say_so front number Global Spots.Global said notices at = say_global front number said notices
say_so front number Global (Spots.Block index) said notices at = absurd at
say_so front number Global Spots.Skipped said notices at = absurd at
say_so front number (Block name) Spots.Global said notices at = absurd at
say_so front number (Block name) (Spots.Block index) said notices at = say_block front number name index said notices at
say_so front number (Block name) Spots.Skipped said notices at = absurd at
say_so front number Skipped Spots.Global said notices at = absurd at
say_so front number Skipped (Spots.Block index) said notices at = absurd at
say_so front number Skipped Spots.Skipped said notices at = say_skipped front number said notices

say_law : (front : List Standing) (spot : Spot) (number : ℕ) (place : Place) (said : DirectiveContent) (notices : List (List ℕ))
    → IsSpot (names_in front) place spot → Outcome front (says number place said notices) (noticed_step number notices (take_step (state front spot) said))
unfolding take_step cause_at
say_law front spot number place said notices at =
    subst (λ (o : Option ConfCause). Outcome front (says number place said notices) (noticed_step number notices (taken (state front spot) said o)))
    (sym (cause_so front place spot said at))
    (by (cause_of (said_at_place Global front) (said_for place front) said) refl)
  where
    by : (o : Option ConfCause) → cause_of (said_at_place Global front) (said_for place front) said ≡ o
        → Outcome front (says number place said notices) (noticed_step number notices (taken (state front spot) said o))
    by (Some cause) e = e
    by None e = record {
      good = e;
      is = sym (say_so front number place spot said notices at);
      at = subst (λ (ns : List Name). IsSpot ns place spot) (sym (same_names front number place said notices)) at;
    }

-- ---- any line

quiet_law : (front : List Standing) (spot : Spot) (number : ℕ) (place : Place) (said : SaidContent) → said.directive ≡ None → IsSpot (names_in front) place spot
    → Goes front (stand_so number place None (Some said)) (record { conf = notices_with number said.notices (configured front); spot = spot })
unfolding cause_at
quiet_law front spot number place said none at =
    let stands : Standing = stand_so number place None (Some said) in
    record {
      good = ap (cause_of_said (said_at_place Global front) (said_for place front)) none;
      is = sym (quiet_next front stands none refl);
      at = subst (λ (ns : List Name). IsSpot ns place spot) (sym (names_more front stands None refl)) at;
    }

heading_law : (front : List Standing) (place begun_place : Place) (spot : Spot) (number : ℕ) (said : SaidContent) → interface_of (Some begun_place) ≡ None
    → ((names : List Name) → IsSpot names begun_place spot)
    → Goes front (stand_so number place (Some begun_place) (Some said)) (record { conf = notices_with number said.notices (configured front); spot = spot })
unfolding cause_at
heading_law front place begun_place spot number said nameless at =
    let stands : Standing = stand_so number place (Some begun_place) (Some said) in
    record {
      good = ap (cause_of_heading (names_in front)) nameless;
      is = sym (quiet_next front stands refl nameless);
      at = at (names_in (front ++ stands ∷ []));
    }

bad_law : (front : List Standing) (number : ℕ) (place : Place) (begins : Option Place) → cause_at front (stand_so number place begins None) ≡ Some BadArgument
unfolding cause_at
bad_law front number place begins = refl

pub step_law : (front : List Standing) (spot : Spot) (number : ℕ) (place : Place) (begins : Option Place) (said : Option SaidContent) → Chained Global front
    → IsSpot (names_in front) place spot → Outcome front (stand_so number place begins said) (step (state front spot) (stand_so number place begins said))
unfolding step
step_law front spot number place begins None chain at = bad_law front number place begins
step_law front spot number place None (Some said) chain at = by said.directive refl
  where
    by : (o : Option DirectiveContent) → said.directive ≡ o
        → Outcome front (stand_so number place None (Some said)) (noticed_step number said.notices (directive_step (state front spot) o))
    by None e = quiet_law front spot number place said e at
    by (Some d) e =
        subst
        (λ (o : Option DirectiveContent). Outcome front (stand_so number place None (Some (record { directive = o; notices = said.notices })))
        (noticed_step number said.notices (take_step (state front spot) d)))
        (sym e) (say_law front spot number place d said.notices at)
step_law front spot number place (Some Global) (Some said) chain at = heading_law front place Global Spots.Global number said refl (λ names. tt)
step_law front spot number place (Some (Block name)) (Some said) chain at = enter_law front spot number place name said chain
step_law front spot number place (Some Skipped) (Some said) chain at = heading_law front place Skipped Spots.Skipped number said refl (λ names. tt)

-- ---- lines one after another

faults_join : (o p q : Option ConfFault) → option_or o (option_or p q) ≡ option_or (option_or o p) q
faults_join None p q = refl
faults_join (Some fault) p q = refl

no_fault_after : (o : Option ConfFault) → option_or o None ≡ o
no_fault_after None = refl
no_fault_after (Some fault) = refl

pub first_from_join : (before front more : List Standing)
    → first_from before (front ++ more) ≡ option_or (first_from before front) (first_from (before ++ front) more)
first_from_join before [] more = ap (λ (f : List Standing). first_from f more) (sym (append-nil before))
first_from_join before (first ∷ front) more =
    ap (option_or (fault_at before first)) (first_from_join (before ++ first ∷ []) front more)
    ∙ ap (λ (f : List Standing). option_or (fault_at before first) (option_or (first_from (before ++ first ∷ []) front) (first_from f more)))
    (append_assoc before (first ∷ []) front)
    ∙ faults_join (fault_at before first) (first_from (before ++ first ∷ []) front) (first_from (before ++ first ∷ front) more)

fault_more : (front : List Standing) (stands : Standing) (o : Option ConfFault) → first_fault front ≡ None → fault_at front stands ≡ o
    → first_fault (front ++ stands ∷ []) ≡ o
fault_more front stands o good e =
    first_from_join [] front (stands ∷ []) ∙ ap (λ p. option_or p (option_or (fault_at front stands) None)) good ∙ no_fault_after (fault_at front stands) ∙ e

-- the reader has read lines without a fault, before the rest
pub record Follows (lines rest : List Directive) (so_far : ReadSoFar) : Type 0 where
  pub front : List Standing
  pub stand : Stand lines front rest
  pub good : first_fault front ≡ None
  pub is : so_far.conf ≡ configured front
  pub at : IsSpot (names_in front) (place_of front) so_far.spot

pub record NextOf (front : List Standing) (line : Directive) (outcome : Result ReadSoFar ConfCause) : Type 0 where
  pub stands : Standing
  pub here : Stands (place_of front) line stands
  pub goes : Outcome front stands outcome

pub next_of : (lines rest : List Directive) (line : Directive) (so_far : ReadSoFar) (outcome : Result ReadSoFar ConfCause)
    (follows : Follows lines (line ∷ rest) so_far)
    → TakesLine so_far line outcome → NextOf follows.front line outcome
next_of lines rest line so_far outcome follows takes =
    let front : List Standing = follows.front in
    let took = takes (place_of front) (is_at (names_in front) (place_of front) so_far.spot follows.at) in
    let stands : Standing = took.0 in
    let there = stands_there (heading_at line.word) (place_of front) line stands took.1 in
    let so : so_far ≡ state front so_far.spot = ap (λ (conf : Configuration). let s : ReadSoFar = record { conf = conf; spot = so_far.spot } in s) follows.is in
    let at : IsSpot (names_in front) stands.place so_far.spot = subst (λ p. IsSpot (names_in front) p so_far.spot) (sym there) follows.at in
    let law = step_law front so_far.spot stands.number stands.place stands.begins stands.said (chained Global lines front (line ∷ rest) follows.stand) at in
    record { stands = stands; here = took.1; goes = subst (Outcome front stands) (sym (took.2 ∙ ap (λ (s : ReadSoFar). step s stands) so)) law }

pub follows_more : (lines rest : List Directive) (line : Directive) (so_far next : ReadSoFar) → Follows lines (line ∷ rest) so_far
    → TakesLine so_far line (Ok next) → Follows lines rest next
follows_more lines rest line so_far next follows takes =
    let step = next_of lines rest line so_far (Ok next) follows takes in
    let front : List Standing = follows.front in
    let fault : fault_at front step.stands ≡ None = ap (option_map (fault step.stands.number)) step.goes.good in
    record {
      front = front ++ step.stands ∷ [];
      stand = stand_more Global lines front line rest step.stands follows.stand step.here;
      good = fault_more front step.stands None follows.good fault;
      is = step.goes.is;
      at = subst (λ p. IsSpot (names_in (front ++ step.stands ∷ [])) p next.spot) (sym (place_from_more Global front step.stands)) step.goes.at;
    }

pub follows_fault : (lines rest : List Directive) (line : Directive) (so_far : ReadSoFar) (cause : ConfCause) → Follows lines (line ∷ rest) so_far
    → TakesLine so_far line (Err cause) → HasFault lines (fault line.number cause)
follows_fault lines rest line so_far cause follows takes =
    let step = next_of lines rest line so_far (Err cause) follows takes in
    let front : List Standing = follows.front in
    let here : fault_at front step.stands ≡ Some (fault step.stands.number cause) = ap (option_map (fault step.stands.number)) step.goes in
    let number = stands_number (heading_at line.word) (place_of front) line step.stands step.here in
    record {
      front = front ++ step.stands ∷ [];
      rest = rest;
      stand = stand_more Global lines front line rest step.stands follows.stand step.here;
      first = fault_more front step.stands (Some (fault line.number cause)) follows.good (here ∙ ap (λ n. Some (fault n cause)) number);
    }

pub follows_start : (lines : List Directive) → Follows lines lines (state [] Spots.Global)
follows_start lines = record { front = []; stand = refl; good = refl; is = refl; at = tt }
