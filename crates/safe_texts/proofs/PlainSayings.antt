-- What a line of a configuration says for hooks and for the resolver.
use Rattle.std.proofs.Common.{◌≡◌, inl, inr, ℕ, ◌≤◌, ◌^◌, Bool, true, false, cond, List, [], ◌∷◌, ◌++◌, length, flat_map, Option, Some, None, option_map, refl, sym, subst, arith}
use Rattle.std.proofs.lemmas.Bool.{and_parts}
use Rattle.std.proofs.lemmas.List.Folds.{list_all-append}
use Rattle.std.specs.Prelude.{IfSome, ◌==◌, bytes_eq, option_and_then}
use Rattle.std.specs.List.{AllByRecursion, list_all}
use Rattle.net_types.proofs.AddressLaws.{ip4_reads}
use Rattle.net_types.proofs.ReadsLaws.{split_sound}
use Rattle.net_types.specs.AddressText.{FitsIp4, ip4_at}
use Rattle.net_types.specs.Cutting.{◌>>=◌, read_all, split_at_byte}
use Rattle.net_types.specs.declared.address.Ip4.{Ip4}
use Rattle.net_types.specs.Ip6Text.{net6_at}
use Rattle.net_types.specs.Marks.{IsPrintable, Lacks, is_printable}
use Rattle.net_types.specs.Numbers.{number_at}
use Rattle.v6_options.specs.declared.ia.IaKind.{IaKind}
use Rattle.v6_options.specs.declared.ia.IaKind.TheVariants.{Na, Pd}
use Rattle.conf_directives.specs.declared.names.CodeList.{CodeList}
use Rattle.conf_directives.specs.declared.names.DirectiveName.{DirectiveName}
use Rattle.conf_directives.specs.declared.names.DirectiveName.TheVariants as names
use Rattle.conf_directives.specs.declared.names.ValueName.{ValueName}
use Rattle.conf_directives.specs.declared.names.ValueName.TheVariants as values
use Rattle.conf_directives.specs.ConfValues.declared.texts.TheConstants.{TEXT_LIMIT}
use Rattle.conf_directives.specs.Codes.{are_right, codes_of, codes_said}
use Rattle.conf_directives.specs.Contents.{Address, Address6, Blacklist, ClientIs, DirectiveContent, DomainName, DomainSearch, Duid, Flag, HostName, Ia, Interfaces, Metric, NameServers, Routers, SaidContent, Script, Seconds, Static, StaticContent, Variable, VendorClass, noticed, taken}
use Rattle.conf_directives.specs.ConfValues.Texts.{EnvContent}
use Rattle.conf_directives.specs.Names.{named}
use Rattle.conf_directives.specs.ConfValues.Nets.{own_net, server_net}
use Rattle.conf_directives.specs.ConfValues.Patterns.{pattern}
use Rattle.conf_directives.specs.Says.{SaysNamed, client_id, host_said, ia_said, value_said, vendor_class}
use Rattle.conf_directives.specs.Shares.{addresses, are_planned, asked_by, left_over, prefix, prefix_by, share}
use Rattle.conf_directives.specs.Statics.{is_key, named_value, only_name, static_by, static_rows, static_said}
use Rattle.conf_directives.specs.ConfValues.Texts.{domain_name, domain_names, equals_sign, is_printed, printed, variable, variable_by, variable_of}
use Rattle.conf_directives.specs.ConfValues.Words.{is_some_text, members_of, one_or_more, only, options_of, slash_parts}

-- ---- what a reading gives

some_by : {X : Type 0} (o : Option X) (P : X → Type 0) → ((x : X) → o ≡ Some x → P x) → IfSome o P
some_by None P each = tt
some_by (Some x) P each = each x refl

some_map : {X Y : Type 0} (o : Option X) (f : X → Y) (P : Y → Type 0) → IfSome o (λ x. P (f x)) → IfSome (option_map f o) P
some_map None f P so = tt
some_map (Some x) f P so = so

some_unit : {X : Type 0} (o : Option X) → IfSome o (λ x. Unit {0})
some_unit None = tt
some_unit (Some x) = tt

some_then : {X Y : Type 0} (o : Option X) (f : X → Option Y) (P : Y → Type 0) → ((x : X) → IfSome (f x) P) → IfSome (option_and_then f o) P
some_then None f P each = tt
some_then (Some x) f P each = each x

some_if : {X : Type 0} (b : Bool) (x : X) (P : X → Type 0) → (b ≡ true → P x) → IfSome (cond b (Some x) None) P
some_if true x P so = so refl
some_if false x P so = tt

pub some_guard : {X : Type 0} (b : Bool) (o : Option X) (P : X → Type 0) → IfSome o P → IfSome (cond b o None) P
some_guard true o P so = so
some_guard false o P so = tt

-- ---- what a line says

pub record IsPlainEnv (env : EnvContent) : Type 0 where
  pub name : IsPrintable env.name
  pub some : 1 ≤ length env.name
  pub parted : Lacks 61 env.name
  pub value : IsPrintable env.value

abbrev pub Are4 : List Ip4 → Type 0
Are4 servers = AllByRecursion FitsIp4 servers

abbrev pub Plain : DirectiveContent → Type 0
Plain (Variable env) = IsPlainEnv env
Plain (Script path) = IsPrintable path
Plain (Static (NameServers servers)) = Are4 servers
Plain _ = Unit {0}

abbrev pub PlainSaid : SaidContent → Type 0
PlainSaid said = IfSome said.directive Plain

then_so : {X Y : Type 0} (o : Option X) (f : X → Option Y) (Q : X → Type 0) (P : Y → Type 0) → IfSome o Q → ((x : X) → Q x → IfSome (f x) P)
    → IfSome (option_and_then f o) P
then_so None f Q P so each = tt
then_so (Some x) f Q P so each = each x so

-- ---- texts

printed_plain : (limit : ℕ) (text : List ℕ) → IfSome (printed limit text) IsPrintable
printed_plain limit text = some_if (is_printed limit text) text IsPrintable (λ e. (and_parts _ (list_all is_printable text) e).1)

parts_plain : (front : List ℕ) (byte : ℕ) (rest : List ℕ) → IsPrintable (front ++ byte ∷ rest) → IsPrintable front × IsPrintable rest
parts_plain front byte rest plain =
    let both =
    and_parts (list_all is_printable front) (list_all is_printable (byte ∷ rest))
    (subst (λ (b : Bool). b ≡ true) (list_all-append is_printable front (byte ∷ rest)) plain) in
    (both.0, (and_parts (is_printable byte) (list_all is_printable rest) both.1).1)

-- of printable texts, of which the first one has no equals sign
record ArePlain (p : List ℕ × List ℕ) : Type 0 where
  first : IsPrintable p.0
  second : IsPrintable p.1
  parted : Lacks equals_sign p.0

split_plain : (text : List ℕ) → IsPrintable text → IfSome (split_at_byte equals_sign text) ArePlain
split_plain text plain =
    some_by (split_at_byte equals_sign text) ArePlain
    (λ p e. let sound = split_sound equals_sign text p.0 p.1 e in
    let both = parts_plain p.0 equals_sign p.1 (subst IsPrintable sound.0 plain) in
    record { first = both.0; second = both.1; parted = sound.1 })

some_bytes : (text : List ℕ) → is_some_text text ≡ true → 1 ≤ length text
some_bytes [] e = absurd cc
some_bytes (b ∷ text) e = omega arith

env_plain : (p : List ℕ × List ℕ) → ArePlain p → IfSome (variable_by p) IsPlainEnv
env_plain p plain =
    some_if (is_some_text p.0) (variable_of p) IsPlainEnv
    (λ e. record { name = plain.first; some = some_bytes p.0 e; parted = plain.parted; value = plain.second })

variable_plain : (text : List ℕ) → IfSome (variable text) IsPlainEnv
variable_plain text =
    then_so (printed TEXT_LIMIT text) (λ whole. split_at_byte equals_sign whole >>= variable_by) IsPrintable IsPlainEnv (printed_plain TEXT_LIMIT text)
    (λ whole plain. then_so (split_at_byte equals_sign whole) variable_by ArePlain IsPlainEnv (split_plain whole plain) env_plain)

-- ---- addresses

ip4_fits : (text : List ℕ) → IfSome (ip4_at text) FitsIp4
ip4_fits text = some_by (ip4_at text) FitsIp4 (λ ip e. (ip4_reads.sound text ip e).1)

all_read : (texts : List (List ℕ)) → IfSome (read_all ip4_at texts) Are4
all_read [] = tt
all_read (text ∷ texts) = one_more (ip4_at text) (read_all ip4_at texts) (ip4_fits text) (all_read texts)
  where
    one_more : (o : Option Ip4) (os : Option (List Ip4)) → IfSome o FitsIp4 → IfSome os Are4
        → IfSome (option_and_then (λ x. option_and_then (λ xs. Some (x ∷ xs)) os) o) Are4
    one_more None os fits fit = tt
    one_more (Some x) None fits fit = tt
    one_more (Some x) (Some xs) fits fit = (fits, fit)

servers_fit : (members : List (List ℕ)) → IfSome (one_or_more ip4_at members) Are4
servers_fit members = by (length members == 0)
  where
    by : (b : Bool) → IfSome (cond b None (read_all ip4_at members)) Are4
    by true = tt
    by false = all_read members

-- ---- static values

abbrev pub PlainStatic : StaticContent → Type 0
PlainStatic value = Plain (Static value)

taken_plain : (o : Option StaticContent) → IfSome o PlainStatic → IfSome (option_map (λ value. taken (Static value)) o) PlainSaid
taken_plain o plain = some_map o (λ value. taken (Static value)) PlainSaid plain

-- what holds of each row holds of the one that a word names
rows_plain : {X : Type 0} (value : Option X → Option SaidContent) (rows : List (List ℕ × X)) (word : List ℕ) → IfSome (value None) PlainSaid
    → AllByRecursion (λ (row : List ℕ × X). IfSome (value (Some row.1)) PlainSaid) rows → IfSome (value (named rows word)) PlainSaid
rows_plain value [] word none plain = none
rows_plain value (row ∷ rows) word none plain = by (bytes_eq row.0 word) (rows_plain value rows word none plain.1)
  where
    by : (b : Bool) → IfSome (value (named rows word)) PlainSaid → IfSome (value (cond b (Some row.1) (named rows word))) PlainSaid
    by true later = plain.0
    by false later = later

named_plain : (key value : List ℕ) → IfSome (named_value key value (named static_rows key)) PlainSaid
named_plain key value =
    let members : List (List ℕ) = members_of value in
    rows_plain (named_value key value) static_rows key tt (
      taken_plain _ (some_map (only members >>= own_net) Address PlainStatic (some_unit (only members >>= own_net))),
      (
        taken_plain _ (some_map (one_or_more ip4_at members) Routers PlainStatic (some_unit (one_or_more ip4_at members))),
        (
          taken_plain _ (some_map (one_or_more ip4_at members) NameServers PlainStatic (servers_fit members)),
          (
            taken_plain _ (some_map (only_name members) DomainName PlainStatic (some_unit (only_name members))),
            (
              taken_plain _ (some_map (domain_names members) DomainSearch PlainStatic (some_unit (domain_names members))),
              (taken_plain _ (some_map (only members >>= net6_at) Address6 PlainStatic (some_unit (only members >>= net6_at))), tt),
            ),
          ),
        ),
      ),
    )

static_plain : (text : List ℕ) → IfSome (static_said text) PlainSaid
static_plain text =
    some_then (split_at_byte equals_sign text) static_by PlainSaid
    (λ parts. some_guard (is_key parts.0) (named_value parts.0 parts.1 (named static_rows parts.0)) PlainSaid (named_plain parts.0 parts.1))

-- ---- lines

host_plain : (word : List ℕ) (arguments : List (List ℕ)) → IfSome (host_said word arguments) PlainSaid
host_plain word [] = tt
host_plain word (text ∷ []) = some_map (domain_name text) (λ name. taken (HostName name)) PlainSaid (some_unit (domain_name text))
host_plain word (text ∷ other ∷ texts) = tt

ia_plain : (kind : IaKind) (arguments : List (List ℕ)) → IfSome (ia_said kind arguments) PlainSaid
ia_plain Na arguments = some_map (addresses arguments) (λ ia. taken (Ia ia)) PlainSaid (some_unit (addresses arguments))
ia_plain Pd [] = tt
ia_plain Pd (text ∷ words) =
    some_then (asked_by (slash_parts text)) (λ asked. option_and_then (prefix_by words asked) (read_all share words)) PlainSaid
    (λ asked. some_then (read_all share words) (prefix_by words asked) PlainSaid
    (λ shares. some_if (are_planned asked.hint shares) (record { directive = Some (Ia (prefix asked shares)); notices = flat_map left_over words }) PlainSaid
    (λ planned. tt)))

codes_plain : (list : CodeList) (arguments : List (List ℕ)) → IfSome (codes_said list arguments) PlainSaid
codes_plain list arguments = some_if (are_right list (flat_map options_of arguments)) (codes_of list (flat_map options_of arguments)) PlainSaid (λ e. tt)

value_plain : (name : ValueName) (arguments : List (List ℕ)) → IfSome (value_said name arguments) Plain
value_plain (values.Seconds name) arguments =
    some_map (only arguments >>= number_at 86401) (Seconds name) Plain (some_unit (only arguments >>= number_at 86401))
value_plain values.Metric arguments = some_map (only arguments >>= number_at (2 ^ 32)) Metric Plain (some_unit (only arguments >>= number_at (2 ^ 32)))
value_plain values.VendorClass arguments = some_map (vendor_class arguments) VendorClass Plain (some_unit (vendor_class arguments))
value_plain values.ClientId arguments = some_map (client_id arguments) ClientIs Plain (some_unit (client_id arguments))
value_plain values.Env arguments = some_map (only arguments >>= variable) Variable Plain (some_then (only arguments) variable IsPlainEnv variable_plain)
value_plain values.Blacklist arguments = some_map (one_or_more server_net arguments) Blacklist Plain (some_unit (one_or_more server_net arguments))
value_plain (values.Interfaces list) arguments = some_map (one_or_more pattern arguments) (Interfaces list) Plain (some_unit (one_or_more pattern arguments))
value_plain values.Script arguments =
    some_map (only arguments >>= printed 255) Script Plain (some_then (only arguments) (printed 255) IsPrintable (printed_plain 255))

pub answer_plain : (answer said : Option SaidContent) → answer ≡ said → IfSome said PlainSaid → IfSome answer PlainSaid
answer_plain answer said e plain = subst (λ (o : Option SaidContent). IfSome o PlainSaid) (sym e) plain

pub says_plain : (name : Option DirectiveName) (word about : List ℕ) (answer : Option SaidContent) → SaysNamed name word about answer → IfSome answer PlainSaid
says_plain None word about answer says = answer_plain answer (Some (noticed word)) says tt
says_plain (Some (names.Flag name)) word about answer says = answer_plain answer (Some (taken (Flag name))) says tt
says_plain (Some names.Duid) word about answer says = answer_plain answer (Some (taken (ClientIs Duid))) says tt
says_plain (Some names.Static) word about answer says = elim says [
  | inl is ↦ answer_plain answer (static_said is.0.text) is.2 (static_plain is.0.text)
  | inr isnt ↦ answer_plain answer None isnt.1 tt
]
says_plain (Some names.HostName) word about answer says = answer_plain answer (host_said word says.arguments) says.says (host_plain word says.arguments)
says_plain (Some (names.Codes list)) word about answer says = answer_plain answer (codes_said list says.arguments) says.says (codes_plain list says.arguments)
says_plain (Some (names.Ia kind)) word about answer says = answer_plain answer (ia_said kind says.arguments) says.says (ia_plain kind says.arguments)
says_plain (Some (names.Value name)) word about answer says =
    answer_plain answer (option_map taken (value_said name says.arguments)) says.says
    (some_map (value_said name says.arguments) taken PlainSaid (value_plain name says.arguments))
