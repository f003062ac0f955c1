-- What has a form is printable.
use Rattle.std.proofs.Common.{◌≡◌, ℕ, Bool, true, false, cond, ◌&&◌, List, [], ◌∷◌, ◌++◌, flat_map, length, Option, Some, None, refl, sym, subst, arith, ltb}
use Rattle.std.proofs.lemmas.Bool.{and_parts, false≢true}
use Rattle.std.proofs.lemmas.Bool.Decides.{nat_tests}
use Rattle.std.specs.Prelude.{IsTrue, is_some}
use Rattle.std.specs.Char.{is_ascii_alphanumeric, is_ascii_digit}
use Rattle.std.specs.List.{AllByRecursion, list_all, slice_index}
use Rattle.net_types.proofs.MarkLaws.{only-append, only_weaker}
use Rattle.net_types.specs.Marks.{IsPrintable, Only, is_printable}
use Rattle.net_types.specs.NameText as interfaces
use Rattle.domain_names.specs.DomainName as domains
use Rattle.domain_names.specs.DomainName.{dotted, is_label, name_of}
use Rattle.domain_names.specs.NameText.{is_name, labels_of}
use Rattle.domain_names.proofs.Labels.{labels_joined}
use Rattle.domain_names.proofs.NameBytes.{name_parts}
use Rattle.hook_env.specs.Lists.{after_blank, listed}
use Rattle.safe_texts.specs.Grammars.{Form, Grammar, HasForm, HasGrammar, IsListOf, IsMadeOf, IsPair, One, Several, OneOf, Number, InterfaceName, DomainName, Address4, Network4, Route4, Address6, Network6, is_address4_byte, is_address6_byte, is_network4_byte, is_network6_byte}

made_printable : (test : ℕ → Bool) (text : List ℕ) → ((b : ℕ) → test b ≡ true → is_printable b ≡ true) → IsMadeOf test text → IsPrintable text
made_printable test text each made = only_weaker test is_printable text each made.only

-- ---- each kind of byte

word_byte : (b : ℕ) → is_ascii_alphanumeric b ≡ true → is_printable b ≡ true
word_byte b h = grind (arith, nat_tests)

digit_byte : (b : ℕ) → is_ascii_digit b ≡ true → is_printable b ≡ true
digit_byte b h = grind (arith, nat_tests)

address4_byte : (b : ℕ) → is_address4_byte b ≡ true → is_printable b ≡ true
address4_byte b h = grind (arith, nat_tests)

network4_byte : (b : ℕ) → is_network4_byte b ≡ true → is_printable b ≡ true
network4_byte b h = grind (arith, nat_tests)

address6_byte : (b : ℕ) → is_address6_byte b ≡ true → is_printable b ≡ true
address6_byte b h = grind (arith, nat_tests)

network6_byte : (b : ℕ) → is_network6_byte b ≡ true → is_printable b ≡ true
network6_byte b h = grind (arith, nat_tests)

interface_byte : (b : ℕ) → interfaces.is_name_byte b ≡ true → is_printable b ≡ true
interface_byte b h = grind (arith, nat_tests)

domain_byte : (b : ℕ) → domains.is_name_byte b ≡ true → is_printable b ≡ true
domain_byte b h = grind (arith, nat_tests)

-- ---- names

interface_printable : (text : List ℕ) → IsTrue (interfaces.is_name text) → IsPrintable text
unfolding interfaces.is_name
interface_printable text is =
    only_weaker interfaces.is_name_byte is_printable text interface_byte (by_case (is_ascii_alphanumeric (slice_index text 0)) is)
  where
    by_case : (b : Bool) → cond b (ltb (length text) 16 && list_all interfaces.is_name_byte text) false ≡ true → Only interfaces.is_name_byte text
    by_case true h = (and_parts _ _ h).1
    by_case false h = absurd (false≢true h)

label_printable : (label : List ℕ) → is_label label ≡ true → IsPrintable label
label_printable label e = only_weaker domains.is_name_byte is_printable label domain_byte (and_parts _ (list_all domains.is_name_byte label) e).1

labels_printable : (labels : List (List ℕ)) → list_all is_label labels ≡ true → IsPrintable (flat_map (λ label. 46 ∷ label) labels)
labels_printable [] e = refl
labels_printable (label ∷ labels) e =
    let parts = and_parts (is_label label) (list_all is_label labels) e in
    only-append is_printable (46 ∷ label) (flat_map (λ label. 46 ∷ label) labels) (label_printable label parts.0) (labels_printable labels parts.1)

dotted_printable : (labels : List (List ℕ)) → list_all is_label labels ≡ true → IsPrintable (dotted labels)
dotted_printable [] e = refl
dotted_printable (label ∷ labels) e =
    let parts = and_parts (is_label label) (list_all is_label labels) e in
    only-append is_printable label (flat_map (λ label. 46 ∷ label) labels) (label_printable label parts.0) (labels_printable labels parts.1)

domain_printable : (text : List ℕ) → IsTrue (is_name text) → IsPrintable text
domain_printable text is = by_case (name_of (labels_of text)) refl is
  where
    by_case : (found : Option (List ℕ)) → name_of (labels_of text) ≡ found → is_some found ≡ true → IsPrintable text
    by_case None e none = absurd (false≢true none)
    by_case (Some other) e some =
        let parts = name_parts (labels_of text) other e in
        subst IsPrintable (labels_joined [] text) (dotted_printable (labels_of text) parts.1)

-- ---- routes

route_printable : (text : List ℕ) → IsPair (IsMadeOf is_network4_byte) (IsMadeOf is_address4_byte) text → IsPrintable text
route_printable text is =
    subst IsPrintable (sym is.parted)
    (only-append is_printable (is.first ++ 32 ∷ []) is.second
    (only-append is_printable is.first (32 ∷ []) (made_printable is_network4_byte is.first network4_byte is.is_first) refl)
    (made_printable is_address4_byte is.second address4_byte is.is_second))

-- ---- forms

grammar_printable : (grammar : Grammar) (text : List ℕ) → HasGrammar grammar text → IsPrintable text
grammar_printable (OneOf words) text is = made_printable is_ascii_alphanumeric text word_byte is
grammar_printable (Number limit) text is = made_printable is_ascii_digit text digit_byte is
grammar_printable InterfaceName text is = interface_printable text is
grammar_printable DomainName text is = domain_printable text is
grammar_printable Address4 text is = made_printable is_address4_byte text address4_byte is
grammar_printable Network4 text is = made_printable is_network4_byte text network4_byte is
grammar_printable Route4 text is = route_printable text is
grammar_printable Address6 text is = made_printable is_address6_byte text address6_byte is
grammar_printable Network6 text is = made_printable is_network6_byte text network6_byte is

behind_blanks : (grammar : Grammar) (texts : List (List ℕ)) → AllByRecursion (HasGrammar grammar) texts → IsPrintable (flat_map after_blank texts)
behind_blanks grammar [] each = refl
behind_blanks grammar (text ∷ texts) each =
    only-append is_printable (32 ∷ text) (flat_map after_blank texts) (grammar_printable grammar text each.0) (behind_blanks grammar texts each.1)

texts_printable : (grammar : Grammar) (texts : List (List ℕ)) → AllByRecursion (HasGrammar grammar) texts → IsPrintable (listed texts)
texts_printable grammar [] each = refl
texts_printable grammar (text ∷ texts) each =
    only-append is_printable text (flat_map after_blank texts) (grammar_printable grammar text each.0) (behind_blanks grammar texts each.1)

list_printable : (grammar : Grammar) (value : List ℕ) → IsListOf (HasGrammar grammar) value → IsPrintable value
list_printable grammar value is = subst IsPrintable (sym is.listed) (texts_printable grammar is.texts is.each)

pub form_printable : (form : Form) (value : List ℕ) → HasForm form value → IsPrintable value
form_printable (One grammar) value is = grammar_printable grammar value is
form_printable (Several grammar) value is = list_printable grammar value is
