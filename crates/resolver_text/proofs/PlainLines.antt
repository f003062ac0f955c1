-- The lines of the resolver's text: names and addresses, without a line feed.
use Rattle.std.proofs.Common.{◌≡◌, ◌≢◌, ℕ, suc, zero, List, [], ◌∷◌, ◌++◌, map, take, flat_map, refl, sym, subst, Bool, true, false, cond, not, codes, fold, Option, Some, None}
use Rattle.std.specs.Prelude.{IsTrue, filter, bytes_eq, is_some}
use Rattle.std.specs.List.{AllByRecursion, list_all}
use Rattle.net_types.specs.declared.interface.Name.{Name}
use Rattle.net_types.specs.AddressText.{ip6_text}
use Rattle.net_types.specs.NameText.{FitsName, name_text}
use Rattle.net_types.specs.Marks.{Lacks}
use Rattle.net_types.proofs.AllLaws.{all_join, all_map}
use Rattle.net_types.proofs.Ip6Marks.{ip6_lacks}
use Rattle.net_types.proofs.MarkLaws.{lacks_from, lacks-append, ip4_lacks}
use Rattle.net_types.proofs.NameLaws.{name_lacks}
use Rattle.domain_names.specs.DomainName.{dotted, is_label, is_name_byte, name_of}
use Rattle.domain_names.specs.NameText.{is_name, labels_of}
use Rattle.domain_names.proofs.Labels.{labels_joined}
use Rattle.domain_names.proofs.NameBytes.{both, name_parts}
use Rattle.resolver_text.specs.declared.part.Server.{Server}
use Rattle.resolver_text.specs.declared.part.Server.TheVariants.{V4, V6}
use Rattle.resolver_text.specs.Parts.{PartContent}
use Rattle.resolver_text.specs.Order.{in_order, is_before, placed}
use Rattle.resolver_text.specs.Texts.{is_link_local, part_names, part_servers, server_text, unlike, zoned_text}
use Rattle.resolver_text.specs.ResolverText.{SEARCH_LIMIT, SERVER_LIMIT, names_of, resolver_lines, search_lines, server_line, servers_of}
use Rattle.resolver_text.specs.TextLaws.{AreResolverLines, FitsPart, FitsServer, IsResolverLine}
use Rattle.resolver_text.specs.TextLaws.IsResolverLine.{Searches, Asks}

-- ---- what is true of all of a list, where some are left out

module _ {A : Type 0} (P : A → Type 0) where
  all_filter : (test : A → Bool) (xs : List A) → AllByRecursion P xs → AllByRecursion P (filter test xs)
  all_filter test [] all = tt
  all_filter test (x ∷ xs) all = by_case (all_filter test xs all.1) (test x)
    where
      by_case : AllByRecursion P (filter test xs) → (b : Bool) → AllByRecursion P (cond b (x ∷ filter test xs) (filter test xs))
      by_case rest true = (all.0, rest)
      by_case rest false = rest

  all_take : (n : ℕ) (xs : List A) → AllByRecursion P xs → AllByRecursion P (take n xs)
  all_take zero xs all = tt
  all_take (suc n) [] all = tt
  all_take (suc n) (x ∷ xs) all = (all.0, all_take n xs all.1)

all_unlike : (P : List ℕ → Type 0) (texts : List (List ℕ)) → AllByRecursion P texts → AllByRecursion P (unlike texts)
all_unlike P [] all = tt
all_unlike P (text ∷ texts) all = (all.0, all_filter P (λ other. not (bytes_eq other text)) (unlike texts) (all_unlike P texts all.1))

all_passed : {A : Type 0} (test : A → Bool) (xs : List A) → AllByRecursion (λ x. IsTrue (test x)) (filter test xs)
all_passed test [] = tt
all_passed test (x ∷ xs) = by_case (all_passed test xs) (test x) refl
  where
    by_case : AllByRecursion (λ x. IsTrue (test x)) (filter test xs) → (b : Bool) → test x ≡ b
        → AllByRecursion (λ x. IsTrue (test x)) (cond b (x ∷ filter test xs) (filter test xs))
    by_case rest true e = (e, rest)
    by_case rest false e = rest

all_flat : {A B : Type 0} (P : A → Type 0) (Q : B → Type 0) (f : A → List B) → ((x : A) → P x → AllByRecursion Q (f x))
    → (xs : List A) → AllByRecursion P xs → AllByRecursion Q (flat_map f xs)
all_flat P Q f each [] all = tt
all_flat P Q f each (x ∷ xs) all = all_join Q (f x) (flat_map f xs) (each x all.0) (all_flat P Q f each xs all.1)

all_mapped : {A B : Type 0} (P : A → Type 0) (Q : B → Type 0) (f : A → B) → ((x : A) → P x → Q (f x))
    → (xs : List A) → AllByRecursion P xs → AllByRecursion Q (map f xs)
all_mapped P Q f each [] all = tt
all_mapped P Q f each (x ∷ xs) all = (each x all.0, all_mapped P Q f each xs all.1)

all_any : {A : Type 0} (P : A → Type 0) → ((x : A) → P x) → (xs : List A) → AllByRecursion P xs
all_any P each [] = tt
all_any P each (x ∷ xs) = (each x, all_any P each xs)

-- ---- ordered parts

module _ (P : PartContent → Type 0) where
  all_placed : (part : PartContent) (ordered : List PartContent) → P part → AllByRecursion P ordered → AllByRecursion P (placed part ordered)
  all_placed part [] one all = (one, tt)
  all_placed part (first ∷ others) one all = by_case (all_placed part others one all.1) (is_before part first)
    where
      by_case : AllByRecursion P (placed part others) → (b : Bool) → AllByRecursion P (cond b (part ∷ first ∷ others) (first ∷ placed part others))
      by_case rest true = (one, all)
      by_case rest false = (all.0, rest)

  all_folded : (ordered parts : List PartContent) → AllByRecursion P ordered → AllByRecursion P parts
      → AllByRecursion P (fold (λ all part. placed part all) ordered parts)
  all_folded ordered [] done all = done
  all_folded ordered (part ∷ parts) done all = all_folded (placed part ordered) parts (all_placed part ordered all.0 done) all.1

-- ---- names

abbrev LacksFeed : List ℕ → Type 0
LacksFeed = Lacks 10

label_lacks : (label : List ℕ) → is_label label ≡ true → LacksFeed label
label_lacks label e = lacks_from is_name_byte 10 label refl (both _ (list_all is_name_byte label) e).1

labels_lack : (labels : List (List ℕ)) → list_all is_label labels ≡ true → LacksFeed (flat_map (λ label. 46 ∷ label) labels)
labels_lack [] e = refl
labels_lack (label ∷ labels) e =
    let parts = both (is_label label) (list_all is_label labels) e in
    lacks-append 10 (46 ∷ label) (flat_map (λ label. 46 ∷ label) labels) (label_lacks label parts.0) (labels_lack labels parts.1)

dotted_lacks : (labels : List (List ℕ)) → list_all is_label labels ≡ true → LacksFeed (dotted labels)
dotted_lacks [] e = refl
dotted_lacks (label ∷ labels) e =
    let parts = both (is_label label) (list_all is_label labels) e in
    lacks-append 10 label (flat_map (λ label. 46 ∷ label) labels) (label_lacks label parts.0) (labels_lack labels parts.1)

domain_lacks : (name : List ℕ) → IsTrue (is_name name) → LacksFeed name
domain_lacks name e = by_case (name_of (labels_of name)) refl e
  where
    by_case : (found : Option (List ℕ)) → name_of (labels_of name) ≡ found → is_some found ≡ true → LacksFeed name
    by_case None is none = absurd cc
    by_case (Some text) is some =
        let parts = name_parts (labels_of name) text is in
        subst (λ (t : List ℕ). LacksFeed t) (labels_joined [] name) (dotted_lacks (labels_of name) parts.1)

-- ---- servers

server_lacks : (name : Name) (server : Server) → FitsName name → FitsServer server → LacksFeed (server_text name server)
server_lacks name (V4 ip) named fits = ip4_lacks ip 10 fits refl
server_lacks name (V6 ip) named fits = by_case (is_link_local ip)
  where
    by_case : (b : Bool) → LacksFeed (cond b (zoned_text ip name) (ip6_text ip))
    by_case true =
        lacks-append 10 (ip6_text ip ++ codes "%") (name_text name) (lacks-append 10 (ip6_text ip) (codes "%") (ip6_lacks ip 10 refl) refl)
        (name_lacks name 10 named refl)
    by_case false = ip6_lacks ip 10 refl

record IsServerText (text : List ℕ) : Type 0 where
  name : Name
  server : Server
  named : FitsName name
  fits : FitsServer server
  spelled : text ≡ server_text name server

servers_fit : (part : PartContent) → FitsPart part → AllByRecursion IsServerText (part_servers part)
servers_fit part fit =
    all_mapped FitsServer IsServerText (server_text part.name)
    (λ server fits. record { name = part.name; server = server; named = fit.name; fits = fits; spelled = refl }) part.servers fit.servers

-- ---- lines

abbrev IsPlain : List ℕ → Type 0
IsPlain line = LacksFeed line × IsResolverLine line

names_plain : (names : List (List ℕ)) → AllByRecursion (λ name. IsTrue (is_name name)) names → LacksFeed (flat_map (λ name. 32 ∷ name) names)
names_plain [] all = refl
names_plain (name ∷ names) all = lacks-append 10 (32 ∷ name) (flat_map (λ name. 32 ∷ name) names) (domain_lacks name all.0) (names_plain names all.1)

search_plain : (names : List (List ℕ)) → AllByRecursion (λ name. IsTrue (is_name name)) names → AllByRecursion IsPlain (search_lines names)
search_plain [] all = tt
search_plain (name ∷ names) all =
    let some : name ∷ names ≢ [] = λ e. absurd cc in (
      (lacks-append 10 (codes "search") (flat_map (λ name. 32 ∷ name) (name ∷ names)) refl (names_plain (name ∷ names) all), Searches (name ∷ names) some all),
      tt,
    )

server_plain : (text : List ℕ) → IsServerText text → IsPlain (server_line text)
server_plain text is =
    let whole : IsPlain (server_line (server_text is.name is.server)) = (
      lacks-append 10 (codes "nameserver ") (server_text is.name is.server) refl (server_lacks is.name is.server is.named is.fits),
      Asks is.name is.server is.named is.fits,
    )
    in
    subst (λ (t : List ℕ). IsPlain (server_line t)) (sym is.spelled) whole

module _ (parts : List PartContent) where
  names_are : AllByRecursion (λ name. IsTrue (is_name name)) (names_of parts)
  names_are =
      all_take (λ name. IsTrue (is_name name)) SEARCH_LIMIT (unlike (flat_map part_names (in_order parts)))
      (all_unlike (λ name. IsTrue (is_name name)) (flat_map part_names (in_order parts))
      (all_flat (λ part. Unit {0}) (λ name. IsTrue (is_name name)) part_names (λ part any. all_passed is_name part.names) (in_order parts)
      (all_any (λ part. Unit {0}) (λ part. tt) (in_order parts))))

  servers_are : AllByRecursion FitsPart parts → AllByRecursion IsServerText (servers_of parts)
  servers_are fit =
      all_take IsServerText SERVER_LIMIT (unlike (flat_map part_servers (in_order parts)))
      (all_unlike IsServerText (flat_map part_servers (in_order parts))
      (all_flat FitsPart IsServerText part_servers servers_fit (in_order parts) (all_folded FitsPart [] parts tt fit)))

  plain : AllByRecursion FitsPart parts → AllByRecursion IsPlain (resolver_lines parts)
  plain fit =
      all_join IsPlain (search_lines (names_of parts)) (map server_line (servers_of parts))
      (search_plain (names_of parts) names_are) (all_mapped IsServerText IsPlain server_line server_plain (servers_of parts) (servers_are fit))

pub text_is_lines : AreResolverLines
text_is_lines parts fit = record {
  lines = resolver_lines parts;
  spelled = refl;
  parted = all_map IsPlain (Lacks 10) (λ line is. is.0) (resolver_lines parts) (plain parts fit);
  each = all_map IsPlain IsResolverLine (λ line is. is.1) (resolver_lines parts) (plain parts fit);
}
