-- What is in force for a managed interface is within bounds.
use Rattle.std.proofs.Common.{◌≡◌, ℕ, ◌<◌, ◌≤◌, ◌^◌, Bool, true, false, cond, List, [], ◌∷◌, ◌++◌, length, map, find, filter_map, Option, Some, None, option_map, sym, subst, arith}
use Rattle.std.specs.Prelude.{IfSome, option_and_then, unwrap_or}
use Rattle.std.specs.List.{AllByRecursion, filter, last_or}
use Rattle.std.specs.Option.{option_or}
use Rattle.std.proofs.lemmas.List.{length-append}
use Rattle.net_types.specs.declared.address.Ip4.{Ip4}
use Rattle.net_types.specs.declared.interface.IfSpec.{IfSpec}
use Rattle.net_types.specs.declared.interface.Name.{Name}
use Rattle.net_types.specs.AddressText.{FitsIp4, FitsNet4, FitsNet6}
use Rattle.settings.specs.Dhcp4Settings as settings
use Rattle.settings.specs.Fitting.{FitsManaged, AreManaged}
use Rattle.conf_words.specs.Directives.{Directive}
use Rattle.conf_directives.specs.declared.names.HeadingName.{HeadingName}
use Rattle.conf_directives.specs.declared.names.HeadingName.TheVariants.{Interface, Profile, Ssid}
use Rattle.conf_directives.specs.Names.{directive_at, heading_at}
use Rattle.conf_directives.specs.Contents.{noticed, DirectiveContent, Metric, HostName, VendorClass, ClientIs, Static, Ia, IdentifierContent, Hardware, Bytes, Duid, StaticContent, Address, Address6, Routers, IaContent, SaidContent}
use Rattle.conf_text.specs.Associations.{association, associations, is_kept}
use Rattle.conf_text.specs.Choosing.{is_managed, scope_for}
use Rattle.conf_text.specs.Configurations.{BlockContent, Configuration, block_of, configured}
use Rattle.conf_text.specs.Faults.{names_in}
use Rattle.conf_text.specs.Fits.{AreInForce, FitsSpec, SettingsFit}
use Rattle.conf_text.specs.Places.{Place, Global, Block, Skipped, is_named, is_place}
use Rattle.conf_text.specs.Sayings.{directive_of, said_at_place, said_there}
use Rattle.conf_text.specs.ConfScopes.Scopes.{ScopeContent, scope_of, address_in, address6_in, routers_in}
use Rattle.conf_text.specs.Settings.{identifier_or_hardware, first_router, in_force_among, managed_of, managed_with, settings_for, settings_of}
use Rattle.conf_text.specs.Standings.{Standing, standing, of_interface, is_global_alone, SaysInBlock, SaysAt, StandsUnder, StandFrom, place_after}
use Rattle.conf_text.specs.ConfScopes.Values.{last_of, metric_said, host_said, vendor_said, identifier_said, ia_said, static_said}
use Rattle.conf_laws.proofs.FoundFits.{all_join, either_fits, found_fit}
use Rattle.conf_laws.proofs.IaFits.{FitMetrics, associations_fit, ias_fit, shared_fit}
use Rattle.conf_laws.proofs.IaLaws.{few_ias}
use Rattle.conf_laws.proofs.UnlikeIas.{each_unlike, ias_few}
use Rattle.conf_laws.proofs.LeadLaws.{shares_lead}
use Rattle.conf_laws.proofs.SaidFits.{FitsDirective, FitsIa, FitsSaid, says_fits, some_guard}

-- ---- lines

abbrev FitsStanding : Standing → Type 0
FitsStanding stands = IfSome (directive_of stands) FitsDirective

answer_at : (answer said : Option SaidContent) → answer ≡ said → IfSome said FitsSaid → IfSome answer FitsSaid
answer_at answer said e fits = subst (λ (o : Option SaidContent). IfSome o FitsSaid) (sym e) fits

in_block_fits : (b : Bool) (line : Directive) (said : Option SaidContent) → SaysInBlock b line said → IfSome said FitsSaid
in_block_fits true line said says = answer_at said (Some (noticed line.word)) says tt
in_block_fits false line said says = says_fits (directive_at line.word) line.word line.about said says

at_fits : (place : Place) (line : Directive) (said : Option SaidContent) → SaysAt place line said → IfSome said FitsSaid
at_fits Global line said says = says_fits (directive_at line.word) line.word line.about said says
at_fits (Block name) line said says = in_block_fits (is_global_alone (directive_at line.word)) line said says
at_fits Skipped line said says = answer_at said (Some (record { directive = None; notices = [] })) says tt

heading_fits : (place : Place) (line : Directive) (name : Option Name) → FitsStanding (of_interface place line name)
heading_fits place line None = tt
heading_fits place line (Some name) = tt

plain_fits : (place : Place) (line : Directive) (said : Option SaidContent) → IfSome said FitsSaid → FitsStanding (standing place line None said)
plain_fits place line None fits = tt
plain_fits place line (Some said) fits = fits

standing_fits : (heading : Option HeadingName) (place : Place) (line : Directive) (stands : Standing) → StandsUnder heading place line stands
    → FitsStanding stands
standing_fits (Some Interface) place line stands here = subst FitsStanding (sym here.2) (heading_fits place line here.0)
standing_fits (Some Profile) place line stands here = subst FitsStanding (sym here) tt
standing_fits (Some Ssid) place line stands here = subst FitsStanding (sym here) tt
standing_fits None place line stands here = subst FitsStanding (sym here.2) (plain_fits place line here.0 (at_fits place line here.0 here.1))

front_fits : (place : Place) (lines : List Directive) (front : List Standing) (rest : List Directive) → StandFrom place lines front rest
    → AllByRecursion FitsStanding front
front_fits place lines [] rest stand = tt
front_fits place [] (stands ∷ front) rest stand = absurd stand
front_fits place (line ∷ lines) (stands ∷ front) rest stand =
    (standing_fits (heading_at line.word) place line stands stand.0, front_fits (place_after stands) lines front rest stand.1)

-- ---- scopes

last_fits : {X : Type 0} (P : X → Type 0) (o : Option X) (xs : List X) → IfSome o P → AllByRecursion P xs → IfSome (last_or o xs) P
last_fits P o [] fits fit = fits
last_fits P o (x ∷ xs) fits fit = last_fits P (Some x) xs fit.0 fit.1

said_fit : (place : Place) (front : List Standing) → AllByRecursion FitsStanding front → AllByRecursion FitsDirective (said_at_place place front)
said_fit place front fit =
    found_fit (said_there place) FitsStanding FitsDirective
    (λ stands fits. some_guard (is_place place stands.place) (directive_of stands) FitsDirective fits) front fit

abbrev FitsIdentifier : IdentifierContent → Type 0
FitsIdentifier identifier = FitsDirective (ClientIs identifier)

abbrev FitsStatic : StaticContent → Type 0
FitsStatic value = FitsDirective (Static value)

pub record FitsScope (scope : ScopeContent) : Type 0 where
  pub metric : IfSome scope.metric (λ n. n < 2 ^ 32)
  pub host : IfSome scope.host (λ name. length name < 256)
  pub vendor : IfSome scope.vendor (λ class. length class < 256)
  pub identifier : IfSome scope.identifier FitsIdentifier
  pub address : IfSome scope.statics.address FitsNet4
  pub address6 : IfSome scope.statics.address6 FitsNet6
  pub routers : IfSome scope.statics.routers (AllByRecursion FitsIp4)
  pub ias : AllByRecursion FitsIa scope.ias

metric_one : (said : DirectiveContent) → FitsDirective said → IfSome (metric_said said) (λ n. n < 2 ^ 32)
metric_one (Metric metric) fits = fits
metric_one _ fits = tt

host_one : (said : DirectiveContent) → FitsDirective said → IfSome (host_said said) (λ name. length name < 256)
host_one (HostName name) fits = fits
host_one _ fits = tt

vendor_one : (said : DirectiveContent) → FitsDirective said → IfSome (vendor_said said) (λ class. length class < 256)
vendor_one (VendorClass class) fits = fits
vendor_one _ fits = tt

identifier_one : (said : DirectiveContent) → FitsDirective said → IfSome (identifier_said said) FitsIdentifier
identifier_one (ClientIs identifier) fits = fits
identifier_one _ fits = tt

static_one : (said : DirectiveContent) → FitsDirective said → IfSome (static_said said) FitsStatic
static_one (Static value) fits = fits
static_one _ fits = tt

ia_one : (said : DirectiveContent) → FitsDirective said → IfSome (ia_said said) FitsIa
ia_one (Ia ia) fits = fits
ia_one _ fits = tt

address_one : (value : StaticContent) → FitsStatic value → IfSome (address_in value) FitsNet4
address_one (Address net) fits = fits
address_one _ fits = tt

address6_one : (value : StaticContent) → FitsStatic value → IfSome (address6_in value) FitsNet6
address6_one (Address6 net) fits = fits
address6_one _ fits = tt

routers_one : (value : StaticContent) → FitsStatic value → IfSome (routers_in value) (AllByRecursion FitsIp4)
routers_one (Routers addresses) fits = fits
routers_one _ fits = tt

last_found_fits : {C X : Type 0} (f : C → Option X) (Q : C → Type 0) (P : X → Type 0) → ((c : C) → Q c → IfSome (f c) P) → (cs : List C) → AllByRecursion Q cs
    → IfSome (last_of f cs) P
last_found_fits f Q P each cs fit = last_fits P None (filter_map f cs) tt (found_fit f Q P each cs fit)

scope_fits : (lines : List DirectiveContent) → AllByRecursion FitsDirective lines → FitsScope (scope_of lines)
scope_fits lines fit =
    let statics = found_fit static_said FitsDirective FitsStatic static_one lines fit in
    record {
      metric = last_found_fits metric_said FitsDirective (λ n. n < 2 ^ 32) metric_one lines fit;
      host = last_found_fits host_said FitsDirective (λ name. length name < 256) host_one lines fit;
      vendor = last_found_fits vendor_said FitsDirective (λ class. length class < 256) vendor_one lines fit;
      identifier = last_found_fits identifier_said FitsDirective FitsIdentifier identifier_one lines fit;
      address = last_found_fits address_in FitsStatic FitsNet4 address_one (filter_map static_said lines) statics;
      address6 = last_found_fits address6_in FitsStatic FitsNet6 address6_one (filter_map static_said lines) statics;
      routers = last_found_fits routers_in FitsStatic (AllByRecursion FitsIp4) routers_one (filter_map static_said lines) statics;
      ias = found_fit ia_said FitsDirective FitsIa ia_one lines fit;
    }

-- ---- what is in force

text_fits : (o : Option (List ℕ)) → IfSome o (λ t. length t < 256) → length (unwrap_or o []) < 256
text_fits None fits = omega arith
text_fits (Some text) fits = fits

identifier_fits : (o : Option IdentifierContent) → IfSome o FitsIdentifier → settings.FitsIdentifier (identifier_or_hardware o)
identifier_fits None fits = tt
identifier_fits (Some Hardware) fits = tt
identifier_fits (Some (Bytes bytes)) fits = fits
identifier_fits (Some Duid) fits = tt

router_fits : (o : Option (List Ip4)) → IfSome o (AllByRecursion FitsIp4) → IfSome (option_and_then first_router o) FitsIp4
router_fits None fits = tt
router_fits (Some []) fits = tt
router_fits (Some (router ∷ routers)) fits = fits.0

-- a block's scope fits after that of the global lines
record FitsAfter (global scope : ScopeContent) : Type 0 where
  fits : FitsScope scope
  few : length (global.ias ++ scope.ias) ≤ 6

managed_fits : (conf : Configuration) (specs : List IfSpec) (spec : IfSpec) (block : ScopeContent) → FitMetrics conf → AllByRecursion FitsSpec specs
    → FitsSpec spec → FitsScope conf.global → FitsAfter conf.global block
    → FitsManaged (record { spec = spec; conf = in_force_among conf specs spec block })
managed_fits conf specs spec block metrics each one all after =
    let global : ScopeContent = conf.global in
    let here = after.fits in
    let few = after.few in
    let lines : List IaContent = global.ias ++ block.ias in
    let index : ℕ = spec.index.number in
    let asked = associations_fit index (omega (arith, one.index.1)) lines (all_join FitsIa global.ias block.ias all.ias here.ias) in
    record {
      index = one.index;
      name = one.name;
      mac = one.mac;
      metric = either_fits (λ n. n < 2 ^ 32) block.metric global.metric here.metric all.metric;
      address = either_fits FitsNet4 block.statics.address global.statics.address here.address all.address;
      address6 = either_fits FitsNet6 block.statics.address6 global.statics.address6 here.address6 all.address6;
      router =
          router_fits (option_or block.statics.routers global.statics.routers)
          (either_fits (AllByRecursion FitsIp4) block.statics.routers global.statics.routers here.routers all.routers);
      dhcp4 = record {
        host = text_fits (option_or block.host global.host) (either_fits (λ t. length t < 256) block.host global.host here.host all.host);
        vendor = text_fits (option_or block.vendor global.vendor) (either_fits (λ t. length t < 256) block.vendor global.vendor here.vendor all.vendor);
        identifier =
            identifier_fits (option_or block.identifier global.identifier)
            (either_fits FitsIdentifier block.identifier global.identifier here.identifier all.identifier);
      };
      dhcp6 = record {
        few = omega (arith, ias_few index lines, few);
        each = ias_fit (associations index lines) asked;
        shares = shared_fit conf metrics specs each spec.name (associations index lines) asked;
        unlike = each_unlike (map (association index) (filter (is_kept index lines) lines));
      };
    }

scope_found : (P : ScopeContent → Type 0) (o : Option BlockContent) → P (scope_of []) → IfSome o (λ block. P block.scope)
    → P (unwrap_or (option_map (λ (block : BlockContent). block.scope) o) (scope_of []))
scope_found P None none fits = none
scope_found P (Some block) none fits = fits

find_fits : (P : ScopeContent → Type 0) (test : BlockContent → Bool) (front : List Standing) → ((name : Name) → P (scope_of (said_at_place (Block name) front)))
    → (names : List Name) → IfSome (find test (map (block_of front) names)) (λ block. P block.scope)
find_fits P test front each [] = tt
find_fits P test front each (name ∷ names) = by (test (block_of front name)) (find_fits P test front each names)
  where
    by : (b : Bool) → IfSome (find test (map (block_of front) names)) (λ block. P block.scope)
        → IfSome (cond b (Some (block_of front name)) (find test (map (block_of front) names))) (λ block. P block.scope)
    by true later = each name
    by false later = later

abbrev AreFew : List Standing → Type 0
AreFew front = (name : Name) → length ((scope_of (said_at_place Global front)).ias ++ (scope_of (said_at_place (Block name) front)).ias) ≤ 6

few_alone : {X : Type 0} (xs ys : List X) → length (xs ++ ys) ≤ 6 → length (xs ++ []) ≤ 6
few_alone xs ys few = omega (arith, few, length-append xs ys, length-append xs [])

-- the scope of any interface, after the global lines
scope_after : (front : List Standing) → AllByRecursion FitsStanding front → AreFew front → (name : Name)
    → FitsAfter (configured front).global (scope_for (configured front).blocks name)
unfolding configured
scope_after front fit few name =
    let global : ScopeContent = scope_of (said_at_place Global front) in
    scope_found (FitsAfter global) (find (λ block. is_named name block.name) (map (block_of front) (names_in front)))
    (record { fits = scope_fits [] tt; few = few_alone global.ias (scope_of (said_at_place (Block name) front)).ias (few name) })
    (find_fits (FitsAfter global) (λ block. is_named name block.name) front
    (λ other. record { fits = scope_fits (said_at_place (Block other) front) (said_fit (Block other) front fit); few = few other }) (names_in front))

global_fits : (front : List Standing) → AllByRecursion FitsStanding front → FitsScope (configured front).global
unfolding configured
global_fits front fit = scope_fits (said_at_place Global front) (said_fit Global front fit)

metrics_fit : (front : List Standing) → AllByRecursion FitsStanding front → AreFew front → FitMetrics (configured front)
metrics_fit front fit few = record { global = (global_fits front fit).metric; block = λ name. (scope_after front fit few name).fits.metric }

one_fits : (front : List Standing) → AllByRecursion FitsStanding front → AreFew front → (specs : List IfSpec) → AllByRecursion FitsSpec specs → (spec : IfSpec)
    → FitsSpec spec
    → IfSome (managed_with spec (settings_of (configured front) specs spec)) FitsManaged
one_fits front fit few specs each spec one = by (is_managed (configured front) spec.name)
  where
    by : (b : Bool) → IfSome (managed_with spec (cond b (Some (settings_for (configured front) specs spec)) None)) FitsManaged
    by true =
        managed_fits (configured front) specs spec (scope_for (configured front).blocks spec.name) (metrics_fit front fit few) each one (global_fits front fit)
        (scope_after front fit few spec.name)
    by false = tt

all_fit : (front : List Standing) → AllByRecursion FitsStanding front → AreFew front → (specs : List IfSpec) → AllByRecursion FitsSpec specs
    → AreManaged (managed_of (configured front) specs)
all_fit front fit few specs each =
    found_fit (λ spec. managed_with spec (settings_of (configured front) specs spec)) FitsSpec FitsManaged
    (λ spec one. one_fits front fit few specs each spec one) specs each

pub settings_fit : SettingsFit
settings_fit text conf is specs each =
    let front : List Standing = is.front in
    subst (λ (c : Configuration). AreInForce (managed_of c specs)) (sym is.tells.3) (record {
      fit = all_fit front (front_fits Global is.read.found front is.rest is.stand) (few_ias is.read.found front is.rest is.stand is.tells.1) specs each;
      shares = shares_lead (configured front) specs;
    })
