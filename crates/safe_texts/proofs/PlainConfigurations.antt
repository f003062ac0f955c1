-- What a configuration says for hooks and for the resolver.
use Rattle.std.proofs.Common.{ℕ, Bool, true, false, cond, List, [], ◌∷◌, ◌++◌, length, map, find, filter_map, Option, Some, None, option_map, sym, subst}
use Rattle.std.specs.Prelude.{IfSome, ◌==◌, bytes_eq, unwrap_or}
use Rattle.std.specs.List.{AllByRecursion, cons_option, last_or}
use Rattle.std.specs.Option.{option_or}
use Rattle.net_types.proofs.AllLaws.{all_join}
use Rattle.net_types.specs.declared.address.Ip4.{Ip4}
use Rattle.net_types.specs.declared.interface.IfSpec.{IfSpec}
use Rattle.net_types.specs.declared.interface.Name.{Name}
use Rattle.net_types.specs.Marks.{IsPrintable}
use Rattle.settings.specs.HookSettings.{Nothing, Default, At}
use Rattle.conf_words.specs.Directives.{Directive}
use Rattle.conf_directives.specs.declared.names.HeadingName.{HeadingName}
use Rattle.conf_directives.specs.declared.names.HeadingName.TheVariants.{Interface, Profile, Ssid}
use Rattle.conf_directives.specs.Contents.{DirectiveContent, NameServers, SaidContent, Script, Static, StaticContent, Variable, noticed}
use Rattle.conf_directives.specs.ConfValues.Texts.{EnvContent}
use Rattle.conf_directives.specs.Names.{directive_at, heading_at}
use Rattle.conf_text.specs.Choosing.{is_managed, scope_for}
use Rattle.conf_text.specs.Configurations.{BlockContent, Configuration, block_of, configured}
use Rattle.conf_text.specs.Faults.{names_in}
use Rattle.conf_text.specs.Places.{Block, Global, Place, Skipped, is_named, is_place}
use Rattle.conf_text.specs.Sayings.{directive_of, said_at_place, said_there}
use Rattle.conf_text.specs.ConfScopes.Scopes.{ScopeContent, name_servers_in, scope_of}
use Rattle.conf_text.specs.Settings.{managed_of, managed_with, no_hooks, script_in_force, script_of, settings_for, settings_of, variable_said}
use Rattle.conf_text.specs.Standings.{SaysAt, SaysInBlock, StandFrom, Standing, StandsUnder, is_global_alone, of_interface, place_after, standing}
use Rattle.conf_text.specs.ConfScopes.Values as of
use Rattle.conf_text.specs.ConfScopes.Values.{last_of, env_said, script_said}
use Rattle.safe_texts.specs.ConfiguredTexts.{ConfiguredTextsAreSafe, HasPlainPath, IsPlainVariable, IsPlainlyConfigured}
use Rattle.safe_texts.proofs.PlainSayings.{Are4, IsPlainEnv, Plain, PlainSaid, PlainStatic, answer_plain, says_plain, some_guard}

-- ---- lines where they stand

abbrev PlainStanding : Standing → Type 0
PlainStanding stands = IfSome (directive_of stands) Plain

in_block_plain : (alone : Bool) (line : Directive) (said : Option SaidContent) → SaysInBlock alone line said → IfSome said PlainSaid
in_block_plain true line said says = answer_plain said (Some (noticed line.word)) says tt
in_block_plain false line said says = says_plain (directive_at line.word) line.word line.about said says

at_plain : (place : Place) (line : Directive) (said : Option SaidContent) → SaysAt place line said → IfSome said PlainSaid
at_plain Global line said says = says_plain (directive_at line.word) line.word line.about said says
at_plain (Block name) line said says = in_block_plain (is_global_alone (directive_at line.word)) line said says
at_plain Skipped line said says = answer_plain said (Some (record { directive = None; notices = [] })) says tt

heading_plain : (place : Place) (line : Directive) (name : Option Name) → PlainStanding (of_interface place line name)
heading_plain place line None = tt
heading_plain place line (Some name) = tt

line_plain : (place : Place) (line : Directive) (said : Option SaidContent) → IfSome said PlainSaid → PlainStanding (standing place line None said)
line_plain place line None plain = tt
line_plain place line (Some said) plain = plain

standing_plain : (heading : Option HeadingName) (place : Place) (line : Directive) (stands : Standing) → StandsUnder heading place line stands
    → PlainStanding stands
standing_plain (Some Interface) place line stands here = subst PlainStanding (sym here.2) (heading_plain place line here.0)
standing_plain (Some Profile) place line stands here = subst PlainStanding (sym here) tt
standing_plain (Some Ssid) place line stands here = subst PlainStanding (sym here) tt
standing_plain None place line stands here = subst PlainStanding (sym here.2) (line_plain place line here.0 (at_plain place line here.0 here.1))

front_plain : (place : Place) (lines : List Directive) (front : List Standing) (rest : List Directive) → StandFrom place lines front rest
    → AllByRecursion PlainStanding front
front_plain place lines [] rest stand = tt
front_plain place [] (stands ∷ front) rest stand = absurd stand
front_plain place (line ∷ lines) (stands ∷ front) rest stand =
    (standing_plain (heading_at line.word) place line stands stand.0, front_plain (place_after stands) lines front rest stand.1)

-- ---- scopes

with_found : {X : Type 0} (P : X → Type 0) (o : Option X) (xs : List X) → IfSome o P → AllByRecursion P xs → AllByRecursion P (cons_option o xs)
with_found P None xs one all = all
with_found P (Some x) xs one all = (one, all)

found : {C X : Type 0} (f : C → Option X) (Q : C → Type 0) (P : X → Type 0) → ((c : C) → Q c → IfSome (f c) P) → (cs : List C) → AllByRecursion Q cs
    → AllByRecursion P (filter_map f cs)
found f Q P each [] all = tt
found f Q P each (c ∷ cs) all = with_found P (f c) (filter_map f cs) (each c all.0) (found f Q P each cs all.1)

last_so : {X : Type 0} (P : X → Type 0) (o : Option X) (xs : List X) → IfSome o P → AllByRecursion P xs → IfSome (last_or o xs) P
last_so P o [] one all = one
last_so P o (x ∷ xs) one all = last_so P (Some x) xs all.0 all.1

last_found : {C X : Type 0} (f : C → Option X) (Q : C → Type 0) (P : X → Type 0) → ((c : C) → Q c → IfSome (f c) P) → (cs : List C) → AllByRecursion Q cs
    → IfSome (last_of f cs) P
last_found f Q P each cs all = last_so P None (filter_map f cs) tt (found f Q P each cs all)

either_so : {X : Type 0} (P : X → Type 0) (block global : Option X) → IfSome block P → IfSome global P → IfSome (option_or block global) P
either_so P None global one other = other
either_so P (Some x) global one other = one

env_one : (said : DirectiveContent) → Plain said → IfSome (env_said said) IsPlainEnv
env_one (Variable env) plain = plain
env_one _ plain = tt

script_one : (said : DirectiveContent) → Plain said → IfSome (script_said said) IsPrintable
script_one (Script path) plain = plain
script_one _ plain = tt

static_one : (said : DirectiveContent) → Plain said → IfSome (of.static_said said) PlainStatic
static_one (Static value) plain = plain
static_one _ plain = tt

servers_one : (value : StaticContent) → PlainStatic value → IfSome (name_servers_in value) Are4
servers_one (NameServers servers) plain = plain
servers_one _ plain = tt

record PlainScope (scope : ScopeContent) : Type 0 where
  env : AllByRecursion IsPlainEnv scope.env
  servers : IfSome scope.statics.name_servers Are4

scope_plain : (lines : List DirectiveContent) → AllByRecursion Plain lines → PlainScope (scope_of lines)
scope_plain lines all = record {
  env = found env_said Plain IsPlainEnv env_one lines all;
  servers =
      last_found name_servers_in PlainStatic Are4 servers_one (filter_map of.static_said lines) (found of.static_said Plain PlainStatic static_one lines all);
}

place_plain : (place : Place) (front : List Standing) → AllByRecursion PlainStanding front → AllByRecursion Plain (said_at_place place front)
place_plain place front all =
    found (said_there place) PlainStanding Plain (λ stands plain. some_guard (is_place place stands.place) (directive_of stands) Plain plain) front all

-- ---- what is in force

variables_plain : (env : List EnvContent) → AllByRecursion IsPlainEnv env → AllByRecursion IsPlainVariable (map variable_said env)
variables_plain [] all = tt
variables_plain (one ∷ env) all = (record { name = all.0.name; some = all.0.some; parted = all.0.parted; value = all.0.value }, variables_plain env all.1)

path_plain : (path : List ℕ) → IsPrintable path → HasPlainPath (script_of path)
path_plain path plain = by (bytes_eq path no_hooks) (length path == 0)
  where
    by : (a b : Bool) → HasPlainPath (cond a Nothing (cond b Default (At path)))
    by true b = tt
    by false true = tt
    by false false = plain

script_plain : (path : Option (List ℕ)) → IfSome path IsPrintable → HasPlainPath (script_in_force path)
script_plain None plain = tt
script_plain (Some path) plain = path_plain path plain

list_plain : (found : Option (List Ip4)) → IfSome found Are4 → Are4 (unwrap_or found [])
list_plain None fit = tt
list_plain (Some servers) fit = fit

in_force_plain : (conf : Configuration) (specs : List IfSpec) (spec : IfSpec) → PlainScope conf.global → PlainScope (scope_for conf.blocks spec.name)
    → IfSome conf.script IsPrintable
    → IsPlainlyConfigured (record { spec = spec; conf = settings_for conf specs spec })
in_force_plain conf specs spec global block script =
    let scope : ScopeContent = scope_for conf.blocks spec.name in
    record {
      env = variables_plain (conf.global.env ++ scope.env) (all_join IsPlainEnv conf.global.env scope.env global.env block.env);
      script = script_plain conf.script script;
      servers = list_plain (option_or scope.statics.name_servers conf.global.statics.name_servers)
          (either_so Are4 scope.statics.name_servers conf.global.statics.name_servers block.servers global.servers);
    }

scope_found : (o : Option BlockContent) → IfSome o (λ (block : BlockContent). PlainScope block.scope)
    → PlainScope (unwrap_or (option_map (λ (block : BlockContent). block.scope) o) (scope_of []))
scope_found None plain = scope_plain [] tt
scope_found (Some block) plain = plain

module _ (front : List Standing) (all : AllByRecursion PlainStanding front) where
  found_block : (test : BlockContent → Bool) (names : List Name)
      → IfSome (find test (map (block_of front) names)) (λ (block : BlockContent). PlainScope block.scope)
  found_block test [] = tt
  found_block test (name ∷ names) = by (test (block_of front name)) (found_block test names)
    where
      by : (b : Bool) → IfSome (find test (map (block_of front) names)) (λ (block : BlockContent). PlainScope block.scope)
          → IfSome (cond b (Some (block_of front name)) (find test (map (block_of front) names))) (λ (block : BlockContent). PlainScope block.scope)
      by true later = scope_plain (said_at_place (Block name) front) (place_plain (Block name) front all)
      by false later = later

  global_plain : PlainScope (configured front).global
  unfolding configured
  global_plain = scope_plain (said_at_place Global front) (place_plain Global front all)

  path_of_all : IfSome (configured front).script IsPrintable
  unfolding configured
  path_of_all = last_found script_said Plain IsPrintable script_one (said_at_place Global front) (place_plain Global front all)

  block_plain : (name : Name) → PlainScope (scope_for (configured front).blocks name)
  unfolding configured
  block_plain name =
      scope_found (find (λ block. is_named name block.name) (map (block_of front) (names_in front)))
      (found_block (λ block. is_named name block.name) (names_in front))

  one_plain : (specs : List IfSpec) (spec : IfSpec) → IfSome (managed_with spec (settings_of (configured front) specs spec)) IsPlainlyConfigured
  one_plain specs spec = by (is_managed (configured front) spec.name)
    where
      by : (b : Bool) → IfSome (managed_with spec (cond b (Some (settings_for (configured front) specs spec)) None)) IsPlainlyConfigured
      by true = in_force_plain (configured front) specs spec global_plain (block_plain spec.name) path_of_all
      by false = tt

  among_plain : (specs these : List IfSpec)
      → AllByRecursion IsPlainlyConfigured (filter_map (λ spec. managed_with spec (settings_of (configured front) specs spec)) these)
  among_plain specs [] = tt
  among_plain specs (spec ∷ these) =
      with_found IsPlainlyConfigured (managed_with spec (settings_of (configured front) specs spec)) _ (one_plain specs spec) (among_plain specs these)

pub configured_texts_are_safe : ConfiguredTextsAreSafe
configured_texts_are_safe text conf is specs =
    subst (λ (c : Configuration). AllByRecursion IsPlainlyConfigured (managed_of c specs)) (sym is.tells.3)
    (among_plain is.front (front_plain Global is.read.found is.front is.rest is.stand) specs specs)
