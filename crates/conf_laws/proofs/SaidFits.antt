-- What a line says is within bounds.
use Rattle.std.proofs.Common.{◌≡◌, ◌⊎◌, inl, inr, ℕ, ◌<◌, ◌≤◌, ◌^◌, suc, Bool, true, false, nat_lt, nat_le, cond, List, [], ◌∷◌, length, Option, Some, None, option_map, refl, sym, ◌∙◌, subst, arith}
use Rattle.std.specs.Prelude.{IfSome, option_and_then, bytes_eq, ◌==◌}
use Rattle.std.specs.List.{AllByRecursion, flat_map}
use Rattle.std.proofs.lemmas.Bool.{and_parts, true≢false}
use Rattle.std.proofs.lemmas.Bool.Decides.{nat_tests}
use Rattle.net_types.specs.declared.address.Ip4.{Ip4}
use Rattle.net_types.specs.declared.address.Net4.{Net4}
use Rattle.net_types.specs.AddressText.{ip4_at, net4_at, FitsIp4, FitsNet4, FitsNet6}
use Rattle.net_types.specs.Cutting.{◌>>=◌, guarded, read_all, split_at_byte}
use Rattle.net_types.specs.Ip6Text.{net6_at}
use Rattle.net_types.specs.Numbers.{number_at}
use Rattle.net_types.proofs.AddressLaws.{ip4_reads, net4_reads}
use Rattle.net_types.proofs.Ip6Laws.{net6_found}
use Rattle.net_types.proofs.NumberLaws.{number_reads}
use Rattle.domain_names.specs.NameText.{is_name}
use Rattle.domain_names.proofs.Labels.{name_long}
use Rattle.v6_options.specs.declared.ia.IaKind.{IaKind}
use Rattle.v6_options.specs.declared.ia.IaKind.TheVariants.{Na, Pd}
use Rattle.conf_directives.specs.declared.names.CodeList.{CodeList}
use Rattle.conf_directives.specs.declared.names.DirectiveName.{DirectiveName}
use Rattle.conf_directives.specs.declared.names.DirectiveName.TheVariants as names
use Rattle.conf_directives.specs.declared.names.ValueName.{ValueName}
use Rattle.conf_directives.specs.declared.names.ValueName.TheVariants as values
use Rattle.conf_directives.specs.Contents.{noticed, IaContent, DirectiveContent, Flag, Seconds, Metric, HostName, VendorClass, ClientIs, Static, Ia, Variable, Blacklist, Interfaces, Script, Bytes, Duid, StaticContent, Address, Routers, NameServers, DomainName, DomainSearch, Address6, SaidContent, taken}
use Rattle.conf_directives.specs.Names.{named}
use Rattle.conf_directives.specs.ConfValues.Words.{only, one_or_more, colon_parts, slash_parts, members_of, options_of}
use Rattle.conf_directives.specs.ConfValues.Texts.{domain_name, domain_names, equals_sign, is_printed, printed, variable}
use Rattle.conf_directives.specs.ConfValues.Identifiers.{are_enough, identifier, identifier_by, pair, pairs, typed_text}
use Rattle.conf_directives.specs.ConfValues.Nets.{class_len, first_byte, net_by, own_net, server_net}
use Rattle.conf_directives.specs.ConfValues.Patterns.{pattern}
use Rattle.conf_directives.specs.Shares.{addresses, are_planned, asked, asked_by, hint_at, ia, id_at, left_over, prefix, prefix_by, share}
use Rattle.conf_directives.specs.Statics.{is_key, named_value, only_name, static_by, static_rows, static_said}
use Rattle.conf_directives.specs.Codes.{are_right, codes_of, codes_said}
use Rattle.conf_directives.specs.SayLaws.{FitsAsked, FitsLine}
use Rattle.conf_directives.specs.Says.{vendor_class, client_id, value_said, host_said, ia_said, SaysNamed}
use Rattle.conf_directives.proofs.LengthLaws.{hints_fit, shares_fit}

-- ---- what a reading gives

pub some_by : {X : Type 0} (o : Option X) (P : X → Type 0) → ((x : X) → o ≡ Some x → P x) → IfSome o P
some_by None P each = tt
some_by (Some x) P each = each x refl

pub some_map : {X Y : Type 0} (o : Option X) (f : X → Y) (P : Y → Type 0) → IfSome o (λ x. P (f x)) → IfSome (option_map f o) P
some_map None f P fits = tt
some_map (Some x) f P fits = fits

pub some_unit : {X : Type 0} (o : Option X) → IfSome o (λ x. Unit {0})
some_unit None = tt
some_unit (Some x) = tt

pub some_then : {X Y : Type 0} (o : Option X) (f : X → Option Y) (P : Y → Type 0) → ((x : X) → IfSome (f x) P) → IfSome (option_and_then f o) P
some_then None f P each = tt
some_then (Some x) f P each = each x

some_then_by : {X Y : Type 0} (o : Option X) (f : X → Option Y) (P : Y → Type 0) → ((x : X) → o ≡ Some x → IfSome (f x) P) → IfSome (option_and_then f o) P
some_then_by None f P each = tt
some_then_by (Some x) f P each = each x refl

some_at : {X : Type 0} (o : Option X) (x : X) (P : X → Type 0) → o ≡ Some x → IfSome o P → P x
some_at o x P e fits = subst (λ o. IfSome o P) e fits

pub some_if : {X : Type 0} (b : Bool) (x : X) (P : X → Type 0) → (b ≡ true → P x) → IfSome (cond b (Some x) None) P
some_if true x P fits = fits refl
some_if false x P fits = tt

pub some_guard : {X : Type 0} (b : Bool) (o : Option X) (P : X → Type 0) → IfSome o P → IfSome (cond b o None) P
some_guard true o P fits = fits
some_guard false o P fits = tt

guard_fits : {X : Type 0} (test : X → Bool) (o : Option X) (P : X → Type 0) → ((x : X) → test x ≡ true → P x) → IfSome (guarded test o) P
guard_fits test None P each = tt
guard_fits test (Some x) P each = some_if (test x) x P (each x)

all_read : {X : Type 0} (read : List ℕ → Option X) (P : X → Type 0) → ((text : List ℕ) → IfSome (read text) P) → (texts : List (List ℕ))
    → IfSome (read_all read texts) (AllByRecursion P)
all_read read P each [] = tt
all_read {X = X} read P each (text ∷ texts) = one_more (read text) (read_all read texts) (each text) (all_read read P each texts)
  where
    one_more : (o : Option X) (os : Option (List X)) → IfSome o P → IfSome os (AllByRecursion P)
        → IfSome (option_and_then (λ x. option_and_then (λ xs. Some (x ∷ xs)) os) o) (AllByRecursion P)
    one_more None os fits fit = tt
    one_more (Some x) None fits fit = tt
    one_more (Some x) (Some xs) fits fit = (fits, fit)

-- ---- bounds of what is said

abbrev pub FitsIa : IaContent → Type 0
FitsIa ia = IfSome ia.iaid (λ iaid. iaid < 2 ^ 32) × (ia.hint ≤ 128) × AllByRecursion FitsLine ia.shares

abbrev pub FitsDirective : DirectiveContent → Type 0
FitsDirective (Metric metric) = metric < 2 ^ 32
FitsDirective (HostName name) = length name < 256
FitsDirective (VendorClass class) = length class < 256
FitsDirective (ClientIs (Bytes bytes)) = length bytes < 256
FitsDirective (Ia ia) = FitsIa ia
FitsDirective (Static (Address net)) = FitsNet4 net
FitsDirective (Static (Routers addresses)) = AllByRecursion FitsIp4 addresses
FitsDirective (Static (Address6 net)) = FitsNet6 net
FitsDirective _ = Unit {0}

abbrev pub FitsSaid : SaidContent → Type 0
FitsSaid said = IfSome said.directive FitsDirective

-- ---- arguments

below : (n limit : ℕ) → limit ≤ 255 → nat_le n limit ≡ true → n < 256
below n limit small e = grind (arith, nat_tests)

metric_fits : (text : List ℕ) → IfSome (number_at (2 ^ 32) text) (λ n. n < 2 ^ 32)
metric_fits text = some_by (number_at (2 ^ 32) text) (λ n. n < 2 ^ 32) (λ n e. ((number_reads (2 ^ 32) (omega arith)).sound text n e).1)

ip4_fits : (text : List ℕ) → IfSome (ip4_at text) FitsIp4
ip4_fits text = some_by (ip4_at text) FitsIp4 (λ ip e. (ip4_reads.sound text ip e).1)

net4_fits : (text : List ℕ) → IfSome (net4_at text) FitsNet4
net4_fits text = some_by (net4_at text) FitsNet4 (λ net e. (net4_reads.sound text net e).1)

net6_fits : (text : List ℕ) → IfSome (net6_at text) FitsNet6
net6_fits text =
    some_by (net6_at text) FitsNet6 (λ net e. let spells = net6_found text net e in record { address = spells.spells.range; prefix = spells.prefix })

printed_fits : (limit : ℕ) (text : List ℕ) → limit ≤ 255 → IfSome (printed limit text) (λ t. length t < 256)
printed_fits limit text small =
    some_if (is_printed limit text) text (λ t. length t < 256) (λ e. below (length text) limit small (and_parts (nat_le (length text) limit) _ e).0)

vendor_fits : (arguments : List (List ℕ)) → IfSome (vendor_class arguments) (λ class. length class < 256)
vendor_fits [] = omega arith
vendor_fits (text ∷ []) = printed_fits 255 text (omega arith)
vendor_fits (text ∷ other ∷ texts) = tt

pairs_fit : (text : List ℕ) → IfSome (pairs text) (λ bytes. length bytes < 256)
pairs_fit text =
    guard_fits are_enough (read_all pair (colon_parts text)) (λ bytes. length bytes < 256)
    (λ bytes e. below (length bytes) 255 (omega arith) (and_parts (nat_le 2 (length bytes)) _ e).1)

typed_fits : (text : List ℕ) → IfSome (typed_text text) (λ bytes. length bytes < 256)
typed_fits text = some_map (printed 254 text) (λ bytes. 0 ∷ bytes) (λ bytes. length bytes < 256)
    (some_if (is_printed 254 text) text (λ t. suc (length t) < 256) (λ e. short (length text) (and_parts (nat_le (length text) 254) _ e).0))
  where
    short : (n : ℕ) → nat_le n 254 ≡ true → suc n < 256
    short n e = grind (arith, nat_tests)

identifier_fits : (text : List ℕ) → IfSome (identifier text) (λ bytes. length bytes < 256)
identifier_fits text = by (pairs text) (pairs_fit text)
  where
    by : (o : Option (List ℕ)) → IfSome o (λ bytes. length bytes < 256) → IfSome (identifier_by o text) (λ bytes. length bytes < 256)
    by (Some bytes) fits = fits
    by None fits = typed_fits text

client_fits : (arguments : List (List ℕ)) → IfSome (client_id arguments) (λ identifier. FitsDirective (ClientIs identifier))
client_fits [] = tt
client_fits (text ∷ []) = some_map (identifier text) Bytes (λ i. FitsDirective (ClientIs i)) (identifier_fits text)
client_fits (text ∷ other ∷ texts) = tt

value_fits : (name : ValueName) (arguments : List (List ℕ)) → IfSome (value_said name arguments) FitsDirective
value_fits (values.Seconds name) arguments =
    some_map (only arguments >>= number_at 86401) (Seconds name) FitsDirective (some_unit (only arguments >>= number_at 86401))
value_fits values.Metric arguments =
    some_map (only arguments >>= number_at (2 ^ 32)) Metric FitsDirective (some_then (only arguments) (number_at (2 ^ 32)) (λ n. n < 2 ^ 32) metric_fits)
value_fits values.VendorClass arguments = some_map (vendor_class arguments) VendorClass FitsDirective (vendor_fits arguments)
value_fits values.ClientId arguments = some_map (client_id arguments) ClientIs FitsDirective (client_fits arguments)
value_fits values.Env arguments = some_map (only arguments >>= variable) Variable FitsDirective (some_unit (only arguments >>= variable))
value_fits values.Blacklist arguments = some_map (one_or_more server_net arguments) Blacklist FitsDirective (some_unit (one_or_more server_net arguments))
value_fits (values.Interfaces list) arguments =
    some_map (one_or_more pattern arguments) (Interfaces list) FitsDirective (some_unit (one_or_more pattern arguments))
value_fits values.Script arguments = some_map (only arguments >>= printed 255) Script FitsDirective (some_unit (only arguments >>= printed 255))

name_short : (text : List ℕ) → is_name text ≡ true → length text < 256
name_short text e = at (nat_lt 253 (length text)) refl
  where
    at : (b : Bool) → nat_lt 253 (length text) ≡ b → length text < 256
    at true h = absurd (true≢false (sym e ∙ name_long text (grind (arith, nat_tests))))
    at false h = grind (arith, nat_tests)

host_fits : (word : List ℕ) (arguments : List (List ℕ)) → IfSome (host_said word arguments) FitsSaid
host_fits word [] = tt
host_fits word (text ∷ []) =
    some_map (domain_name text) (λ name. taken (HostName name)) FitsSaid (some_if (is_name text) text (λ name. length name < 256) (name_short text))
host_fits word (text ∷ other ∷ texts) = tt

-- ---- static values

class_small : (address : Ip4) → class_len address ≤ 32
class_small address = at (nat_lt (first_byte address) 128) (nat_lt (first_byte address) 192)
  where
    at : (a b : Bool) → cond a 8 (cond b 16 24) ≤ 32
    at true b = omega arith
    at false true = omega arith
    at false false = omega arith

own_net_fits : (text : List ℕ) → IfSome (own_net text) FitsNet4
own_net_fits text = by (net4_at text) (ip4_at text) (net4_fits text) (ip4_fits text)
  where
    by : (o : Option Net4) (p : Option Ip4) → IfSome o FitsNet4 → IfSome p FitsIp4 → IfSome (net_by class_len o p) FitsNet4
    by (Some net) p fits there = fits
    by None None fits there = tt
    by None (Some ip) fits there = record { address = there; prefix = class_small ip }

abbrev FitsStaticSaid : StaticContent → Type 0
FitsStaticSaid value = FitsDirective (Static value)

taken_fits : (o : Option StaticContent) → IfSome o FitsStaticSaid → IfSome (option_map (λ value. taken (Static value)) o) FitsSaid
taken_fits o fits = some_map o (λ value. taken (Static value)) FitsSaid fits

routers_fit : (members : List (List ℕ)) → IfSome (one_or_more ip4_at members) (AllByRecursion FitsIp4)
routers_fit members = by (length members == 0)
  where
    by : (b : Bool) → IfSome (cond b None (read_all ip4_at members)) (AllByRecursion FitsIp4)
    by true = tt
    by false = all_read ip4_at FitsIp4 ip4_fits members

-- what holds of each row holds of the one that a word names
rows_fit : {X : Type 0} (value : Option X → Option SaidContent) (rows : List (List ℕ × X)) (word : List ℕ) → IfSome (value None) FitsSaid
    → AllByRecursion (λ (row : List ℕ × X). IfSome (value (Some row.1)) FitsSaid) rows → IfSome (value (named rows word)) FitsSaid
rows_fit value [] word none fit = none
rows_fit value (row ∷ rows) word none fit = by (bytes_eq row.0 word) (rows_fit value rows word none fit.1)
  where
    by : (b : Bool) → IfSome (value (named rows word)) FitsSaid → IfSome (value (cond b (Some row.1) (named rows word))) FitsSaid
    by true later = fit.0
    by false later = later

named_fits : (key value : List ℕ) → IfSome (named_value key value (named static_rows key)) FitsSaid
named_fits key value =
    let members : List (List ℕ) = members_of value in
    rows_fit (named_value key value) static_rows key tt (
      taken_fits _ (some_map (only members >>= own_net) Address FitsStaticSaid (some_then (only members) own_net FitsNet4 own_net_fits)),
      (
        taken_fits _ (some_map (one_or_more ip4_at members) Routers FitsStaticSaid (routers_fit members)),
        (
          taken_fits _ (some_map (one_or_more ip4_at members) NameServers FitsStaticSaid (some_unit (one_or_more ip4_at members))),
          (
            taken_fits _ (some_map (only_name members) DomainName FitsStaticSaid (some_unit (only_name members))),
            (
              taken_fits _ (some_map (domain_names members) DomainSearch FitsStaticSaid (some_unit (domain_names members))),
              (taken_fits _ (some_map (only members >>= net6_at) Address6 FitsStaticSaid (some_then (only members) net6_at FitsNet6 net6_fits)), tt),
            ),
          ),
        ),
      ),
    )

static_fits : (text : List ℕ) → IfSome (static_said text) FitsSaid
static_fits text =
    some_then (split_at_byte equals_sign text) static_by FitsSaid
    (λ parts. some_guard (is_key parts.0) (named_value parts.0 parts.1 (named static_rows parts.0)) FitsSaid (named_fits parts.0 parts.1))

-- ---- lines

id_below : (text : List ℕ) (id : ℕ) → id_at text ≡ Some id → id < 2 ^ 32
id_below text id e = ((number_reads (2 ^ 32) (omega arith)).sound text id e).1

addresses_fit : (arguments : List (List ℕ)) → IfSome (addresses arguments) FitsIa
addresses_fit [] = (tt, omega arith, tt)
addresses_fit (text ∷ []) =
    some_map (id_at text) (λ id. ia Na (Some id) 0 []) FitsIa
    (some_by (id_at text) (λ id. FitsIa (ia Na (Some id) 0 [])) (λ id e. (id_below text id e, omega arith, tt)))
addresses_fit (text ∷ other ∷ texts) = tt

asked_below : (parts : List (List ℕ)) → IfSome (asked_by parts) (λ asked. asked.iaid < 2 ^ 32)
asked_below [] = tt
asked_below (iaid ∷ []) = some_then_by (id_at iaid) (λ id. Some (asked id 0)) (λ asked. asked.iaid < 2 ^ 32) (λ id e. id_below iaid id e)
asked_below (iaid ∷ prefix ∷ []) = tt
asked_below (iaid ∷ prefix ∷ len ∷ []) =
    some_then_by (id_at iaid) (λ id. option_and_then (λ hint. Some (asked id hint)) (hint_at prefix len)) (λ asked. asked.iaid < 2 ^ 32)
    (λ id e. some_then (hint_at prefix len) (λ hint. Some (asked id hint)) (λ asked. asked.iaid < 2 ^ 32) (λ hint. id_below iaid id e))
asked_below (iaid ∷ prefix ∷ len ∷ more ∷ parts) = tt

hint_most : (hint : ℕ) → (hint ≡ 0) ⊎ ((8 ≤ hint) × (hint ≤ 127)) → hint ≤ 128
hint_most hint fits = elim fits [ inl none ↦ omega (arith, none) | inr within ↦ omega (arith, within.1) ]

ia_fits : (kind : IaKind) (arguments : List (List ℕ)) → IfSome (ia_said kind arguments) FitsSaid
ia_fits Na arguments = some_map (addresses arguments) (λ ia. taken (Ia ia)) FitsSaid (addresses_fit arguments)
ia_fits Pd [] = (tt, omega arith, tt)
ia_fits Pd (text ∷ words) =
    some_then_by (asked_by (slash_parts text)) (λ asked. option_and_then (prefix_by words asked) (read_all share words)) FitsSaid
    (λ asked e. some_then_by (read_all share words) (prefix_by words asked) FitsSaid
    (λ shares f. some_if (are_planned asked.hint shares) (record { directive = Some (Ia (prefix asked shares)); notices = flat_map left_over words }) FitsSaid
    (λ planned. (
      some_at (asked_by (slash_parts text)) asked (λ asked. asked.iaid < 2 ^ 32) e (asked_below (slash_parts text)),
      hint_most asked.hint (some_at (asked_by (slash_parts text)) asked FitsAsked e (hints_fit (slash_parts text))),
      some_at (read_all share words) shares (AllByRecursion FitsLine) f (all_read share FitsLine shares_fit words),
    ))))

codes_line_fits : (list : CodeList) (arguments : List (List ℕ)) → IfSome (codes_said list arguments) FitsSaid
codes_line_fits list arguments = some_if (are_right list (flat_map options_of arguments)) (codes_of list (flat_map options_of arguments)) FitsSaid (λ e. tt)

answer_fits : (answer said : Option SaidContent) → answer ≡ said → IfSome said FitsSaid → IfSome answer FitsSaid
answer_fits answer said e fits = subst (λ (o : Option SaidContent). IfSome o FitsSaid) (sym e) fits

pub says_fits : (name : Option DirectiveName) (word about : List ℕ) (answer : Option SaidContent) → SaysNamed name word about answer → IfSome answer FitsSaid
says_fits None word about answer says = answer_fits answer (Some (noticed word)) says tt
says_fits (Some (names.Flag name)) word about answer says = answer_fits answer (Some (taken (Flag name))) says tt
says_fits (Some names.Duid) word about answer says = answer_fits answer (Some (taken (ClientIs Duid))) says tt
says_fits (Some names.Static) word about answer says = elim says [
  | inl is ↦ answer_fits answer (static_said is.0.text) is.2 (static_fits is.0.text)
  | inr isnt ↦ answer_fits answer None isnt.1 tt
]
says_fits (Some names.HostName) word about answer says = answer_fits answer (host_said word says.arguments) says.says (host_fits word says.arguments)
says_fits (Some (names.Codes list)) word about answer says = answer_fits answer (codes_said list says.arguments) says.says (codes_line_fits list says.arguments)
says_fits (Some (names.Ia kind)) word about answer says = answer_fits answer (ia_said kind says.arguments) says.says (ia_fits kind says.arguments)
says_fits (Some (names.Value name)) word about answer says =
    answer_fits answer (option_map taken (value_said name says.arguments)) says.says
    (some_map (value_said name says.arguments) taken FitsSaid (value_fits name says.arguments))
