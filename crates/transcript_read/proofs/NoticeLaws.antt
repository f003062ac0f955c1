-- The notices of a configuration stand in one line each: what they show are parts of its lines.
use Rattle.std.proofs.Common.{◌≡◌, inl, inr, ℕ, suc, zero, ◌+◌, ◌<◌, ◌^◌, Bool, true, false, not, cond, List, [], ◌∷◌, ◌++◌, map, flat_map, filter, length, take, drop, codes, decimal, Option, Some, None, option_map, option_and_then, Ok, refl, sym, subst, arith, eqb}
use Rattle.std.specs.Prelude.{IfSome}
use Rattle.std.specs.List.{AllByRecursion, cons_option, onto_first, slice_split}
use Rattle.std.specs.Str.Lossy.{after_first_chunk, replacement_bytes, utf8_invalid_len, utf8_lossy, utf8_lossy_within, utf8_valid_len}
use Rattle.std.proofs.lemmas.Bool.{and_from, and_parts}
use Rattle.std.proofs.lemmas.Option.{none-some}
use Rattle.net_types.specs.declared.interface.Name.{Name}
use Rattle.net_types.specs.Cutting.{read_all, split_at_byte}
use Rattle.net_types.specs.Marks.{Lacks}
use Rattle.net_types.specs.TextLines.{AreLines, Line, lines_text}
use Rattle.net_types.proofs.AllLaws.{all_join}
use Rattle.net_types.proofs.MarkLaws.{decimal_lacks, lacks-append}
use Rattle.net_types.proofs.ReadsLaws.{passed, some_same, split_sound}
use Rattle.v6_options.specs.declared.ia.IaKind.{IaKind}
use Rattle.v6_options.specs.declared.ia.IaKind.TheVariants.{Na, Pd}
use Rattle.conf_words.specs.declared.arguments.Form.{Form}
use Rattle.conf_words.specs.declared.arguments.Form.TheVariants.{Plain, Quoted}
use Rattle.conf_words.specs.Arguments.{BeginsWithArgument, IsWholeAs, Said, SpelledBefore, said}
use Rattle.conf_words.specs.Characters.{is_text}
use Rattle.conf_words.specs.Directives.{Directive, directive_from, directive_in, says_nothing}
use Rattle.conf_words.specs.Marks.{front_of, is_of_word, parts_words, past, quote}
use Rattle.conf_words.specs.Parts.{Leads}
use Rattle.conf_words.specs.Readings.{Read}
use Rattle.conf_words.specs.Steps.{without_return}
use Rattle.conf_words.proofs.Cuts.{parted}
use Rattle.conf_directives.specs.declared.names.CodeList.{CodeList}
use Rattle.conf_directives.specs.declared.names.DirectiveName.{DirectiveName}
use Rattle.conf_directives.specs.declared.names.DirectiveName.TheVariants as names
use Rattle.conf_directives.specs.declared.names.HeadingName.{HeadingName}
use Rattle.conf_directives.specs.declared.names.HeadingName.TheVariants.{Interface, Profile, Ssid}
use Rattle.conf_directives.specs.Codes.{are_right, codes_of, codes_said, is_noticed, option_word}
use Rattle.conf_directives.specs.Contents.{ClientIs, Duid, Flag, HostName, Ia, SaidContent, Static, noticed, taken}
use Rattle.conf_directives.specs.Names.{directive_at, heading_at, named}
use Rattle.conf_directives.specs.Says.{SaysNamed, host_said, ia_said, value_said}
use Rattle.conf_directives.specs.Shares.{addresses, are_planned, asked_by, fourth_part, left_over, prefix, prefix_by, share}
use Rattle.conf_directives.specs.Statics.{is_key, named_value, static_by, static_rows, static_said, value_of}
use Rattle.conf_directives.specs.ConfValues.Texts.{domain_name, equals_sign}
use Rattle.conf_directives.specs.ConfValues.Words.{HasArguments, is_some_text, members_of, options_of, parts_options, slash, slash_parts}
use Rattle.conf_text.specs.Configurations.{Configuration, IsConfOf, NoticeContent, configured, notice_of, notices_of}
use Rattle.conf_text.specs.Numbering.{line_number}
use Rattle.conf_text.specs.Places.{Block, Global, Place, Skipped}
use Rattle.conf_text.specs.Sayings.{said_of}
use Rattle.conf_text.specs.Standings.{SaysAt, SaysInBlock, StandFrom, Standing, StandsUnder, is_global_alone, nothing, of_interface, place_after, standing}
use Rattle.script_model.specs.Lines.{line_words}
use Rattle.transcript_read.specs.Heads.{notice_words}
use Rattle.transcript_read.proofs.ConfLaws.{begins_line, conf_by, scan, scanned}

abbrev pub InOneLine : List ℕ → Type 0
InOneLine text = Lacks 10 text

-- ---- parts of a text

lacks_parts : (front rest : List ℕ) → InOneLine (front ++ rest) → InOneLine front × InOneLine rest
lacks_parts [] rest lacks = (refl, lacks)
lacks_parts (byte ∷ front) rest lacks =
    let one = and_parts (not (eqb byte 10)) _ lacks in
    let both = lacks_parts front rest one.1 in (and_from _ _ one.0 both.0, both.1)

lacks_take : (n : ℕ) (text : List ℕ) → InOneLine text → InOneLine (take n text)
lacks_take zero text lacks = refl
lacks_take (suc n) [] lacks = refl
lacks_take (suc n) (byte ∷ text) lacks =
    let one = and_parts (not (eqb byte 10)) _ lacks in and_from _ _ one.0 (lacks_take n text one.1)

lacks_drop : (n : ℕ) (text : List ℕ) → InOneLine text → InOneLine (drop n text)
lacks_drop zero text lacks = lacks
lacks_drop (suc n) [] lacks = refl
lacks_drop (suc n) (byte ∷ text) lacks = lacks_drop n text (and_parts (not (eqb byte 10)) _ lacks).1

lacks_either : (b : Bool) (one other : List ℕ) → InOneLine one → InOneLine other → InOneLine (cond b one other)
lacks_either true one other first second = first
lacks_either false one other first second = second

lossy_within : (k : ℕ) (text : List ℕ) → InOneLine text → InOneLine (utf8_lossy_within k text)
lossy_within zero text lacks = lacks
lossy_within (suc k) text lacks =
    let n = utf8_valid_len text in
    let rest = after_first_chunk text in
    lacks_either (eqb n (length text)) text (take n text ++ (replacement_bytes ++ utf8_lossy_within k rest)) lacks
    (lacks-append 10 (take n text) (replacement_bytes ++ utf8_lossy_within k rest) (lacks_take n text lacks)
    (lacks-append 10 replacement_bytes (utf8_lossy_within k rest) refl
    (lossy_within k rest (lacks_drop (n + utf8_invalid_len (drop n text)) text lacks))))

pub lossy_lacks : (text : List ℕ) → InOneLine text → InOneLine (utf8_lossy text)
unfolding utf8_lossy
lossy_lacks text lacks = lossy_within (length text) text lacks

-- ---- words

abbrev pub Words : List (List ℕ) → Type 0
Words words = AllByRecursion InOneLine words

onto_words : (byte : ℕ) (words : List (List ℕ)) → not (eqb byte 10) ≡ true → Words words → Words (onto_first byte words)
onto_words byte [] good each = (and_from _ _ good refl, tt)
onto_words byte (word ∷ words) good each = (and_from _ _ good each.0, each.1)

either_words : (b : Bool) (one other : List (List ℕ)) → Words one → Words other → Words (cond b one other)
either_words true one other first second = first
either_words false one other first second = second

split_words : (parts : ℕ → Bool) (text : List ℕ) → InOneLine text → Words (slice_split parts text)
split_words parts [] lacks = (refl, tt)
split_words parts (byte ∷ text) lacks =
    let one = and_parts (not (eqb byte 10)) _ lacks in
    let later = split_words parts text one.1 in
    either_words (parts byte) ([] ∷ slice_split parts text) (onto_first byte (slice_split parts text)) (refl, later)
    (onto_words byte (slice_split parts text) one.0 later)

filter_words : (test : List ℕ → Bool) (words : List (List ℕ)) → Words words → Words (filter test words)
filter_words test [] each = tt
filter_words test (word ∷ words) each =
    either_words (test word) (word ∷ filter test words) (filter test words) (each.0, filter_words test words each.1) (filter_words test words each.1)

flat_words : (f : List ℕ → List (List ℕ)) (words : List (List ℕ)) → ((word : List ℕ) → InOneLine word → Words (f word)) → Words words
    → Words (flat_map f words)
flat_words f [] each all = tt
flat_words f (word ∷ words) each all = all_join InOneLine (f word) (flat_map f words) (each word all.0) (flat_words f words each all.1)

option_words : (text : List ℕ) → InOneLine text → Words (options_of text)
option_words text lacks = filter_words is_some_text (slice_split parts_options text) (split_words parts_options text lacks)

after_byte : (byte : ℕ) (text : List ℕ) (parts : List ℕ × List ℕ) → InOneLine text → split_at_byte byte text ≡ Some parts → InOneLine parts.1
after_byte byte text parts lacks e =
    let cut = (split_sound byte text parts.0 parts.1 e).0 in
    (lacks_parts (byte ∷ []) parts.1 (lacks_parts parts.0 (byte ∷ parts.1) (subst InOneLine cut lacks)).1).1

fourth_words : (word : List ℕ) (o : Option (List ℕ)) → InOneLine word → fourth_part word ≡ o → Words (cons_option o [])
fourth_words word None lacks e = tt
fourth_words word (Some part) lacks e =
    let name = passed (split_at_byte slash word) _ part e in
    let sla = passed (split_at_byte slash name.value.1) _ part name.gives in
    let len = passed (split_at_byte slash sla.value.1) _ part sla.gives in
    let first = after_byte slash word name.value lacks name.was in
    let second = after_byte slash name.value.1 sla.value first sla.was in
    (subst InOneLine (some_same len.gives) (after_byte slash sla.value.1 len.value second len.was), tt)

left_words : (word : List ℕ) → InOneLine word → Words (left_over word)
left_words word lacks = fourth_words word (fourth_part word) lacks refl

-- ---- arguments

spelled_lacks : (form : Form) (text spelling rest : List ℕ) → SpelledBefore form text spelling rest → InOneLine spelling → InOneLine text
spelled_lacks Plain text spelling rest spelled lacks = subst InOneLine spelled.0 lacks
spelled_lacks Quoted text spelling rest spelled lacks = elim spelled.1 [
  | inl e ↦ (lacks_parts (quote ∷ text) (quote ∷ []) (subst InOneLine e lacks)).0
  | inr e ↦ subst InOneLine e.0 lacks
]

arguments_lack : (arguments : List Said) (text rest : List ℕ) → Leads BeginsWithArgument arguments text rest → InOneLine text
    → Words (map (λ argument. argument.text) arguments)
arguments_lack [] text rest leads lacks = tt
arguments_lack (argument ∷ arguments) text rest leads lacks =
    let begins = leads.1 in
    let after = (lacks_parts begins.gap (begins.spelling ++ leads.0) (subst InOneLine begins.parted lacks)).1 in
    let both = lacks_parts begins.spelling leads.0 after in (
      spelled_lacks argument.form argument.text begins.spelling leads.0 begins.spelled both.0,
      arguments_lack arguments leads.0 rest leads.2 both.1,
    )

texts_lack : (about : List ℕ) (texts : List (List ℕ)) → HasArguments about texts → InOneLine about → Words texts
texts_lack about texts has lacks =
    subst Words (sym has.are) (arguments_lack has.arguments about has.follow.0 has.follow.1 lacks)

-- ---- what a line says

abbrev Noted : SaidContent → Type 0
Noted said = Words said.notices

some_map : {X Y : Type 0} (o : Option X) (f : X → Y) (P : Y → Type 0) → ((x : X) → P (f x)) → IfSome (option_map f o) P
some_map None f P each = tt
some_map (Some x) f P each = each x

some_then : {X Y : Type 0} (o : Option X) (f : X → Option Y) (P : Y → Type 0) → ((x : X) → IfSome (f x) P) → IfSome (option_and_then f o) P
some_then None f P each = tt
some_then (Some x) f P each = each x

some_if : {X : Type 0} (b : Bool) (x : X) (P : X → Type 0) → P x → IfSome (cond b (Some x) None) P
some_if true x P so = so
some_if false x P so = tt

answered : (answer said : Option SaidContent) → answer ≡ said → IfSome said Noted → IfSome answer Noted
answered answer said e noted = subst (λ (o : Option SaidContent). IfSome o Noted) (sym e) noted

host_noted : (word : List ℕ) (arguments : List (List ℕ)) → InOneLine word → IfSome (host_said word arguments) Noted
host_noted word [] lacks = (lacks, tt)
host_noted word (text ∷ []) lacks = some_map (domain_name text) (λ name. taken (HostName name)) Noted (λ name. tt)
host_noted word (text ∷ other ∷ texts) lacks = tt

codes_noted : (list : CodeList) (arguments : List (List ℕ)) → Words arguments → IfSome (codes_said list arguments) Noted
codes_noted list arguments each =
    let words = flat_map options_of arguments in
    some_if (are_right list words) (codes_of list words) Noted
    (filter_words (λ word. is_noticed (option_word list word)) words (flat_words options_of arguments option_words each))

ia_noted : (kind : IaKind) (arguments : List (List ℕ)) → Words arguments → IfSome (ia_said kind arguments) Noted
ia_noted Na arguments each = some_map (addresses arguments) (λ ia. taken (Ia ia)) Noted (λ ia. tt)
ia_noted Pd [] each = tt
ia_noted Pd (text ∷ words) each =
    some_then (asked_by (slash_parts text)) (λ asked. option_and_then (prefix_by words asked) (read_all share words)) Noted
    (λ asked. some_then (read_all share words) (prefix_by words asked) Noted
    (λ shares. some_if (are_planned asked.hint shares) (record { directive = Some (Ia (prefix asked shares)); notices = flat_map left_over words }) Noted
    (flat_words left_over words left_words each.1)))

either_noted : {X : Type 0} (value : Option X → Option SaidContent) (o : Option X) → IfSome (value None) Noted
    → ((x : X) → IfSome (value (Some x)) Noted) → IfSome (value o) Noted
either_noted value None none some = none
either_noted value (Some x) none some = some x

named_noted : (key value : List ℕ) → InOneLine key → IfSome (named_value key value (named static_rows key)) Noted
named_noted key value lacks =
    either_noted (named_value key value) (named static_rows key) (lacks, tt)
    (λ name. some_map (value_of name (members_of value)) (λ said. taken (Static said)) Noted (λ said. tt))

guard_noted : (b : Bool) (o : Option SaidContent) → IfSome o Noted → IfSome (cond b o None) Noted
guard_noted true o noted = noted
guard_noted false o noted = tt

static_parts : (text : List ℕ) (o : Option (List ℕ × List ℕ)) → InOneLine text → split_at_byte equals_sign text ≡ o
    → IfSome (option_and_then static_by o) Noted
static_parts text None lacks e = tt
static_parts text (Some parts) lacks e =
    let cut = (split_sound equals_sign text parts.0 parts.1 e).0 in
    let key = (lacks_parts parts.0 (equals_sign ∷ parts.1) (subst InOneLine cut lacks)).0 in
    guard_noted (is_key parts.0) (named_value parts.0 parts.1 (named static_rows parts.0))
    (named_noted parts.0 parts.1 key)

static_noted : (text : List ℕ) → InOneLine text → IfSome (static_said text) Noted
static_noted text lacks = static_parts text (split_at_byte equals_sign text) lacks refl

whole_lacks : (form : Form) (about text : List ℕ) → IsWholeAs form about text → InOneLine about → InOneLine text
whole_lacks Plain about text whole lacks = (lacks_parts whole.0 text (subst InOneLine whole.1 lacks)).1
whole_lacks Quoted about text whole lacks = (arguments_lack (said Quoted text ∷ []) about whole.0 whole.1 lacks).0

says_noted : (name : Option DirectiveName) (word about : List ℕ) (answer : Option SaidContent) → InOneLine word → InOneLine about
    → SaysNamed name word about answer → IfSome answer Noted
says_noted None word about answer good rest says = answered answer (Some (noticed word)) says (good, tt)
says_noted (Some (names.Flag name)) word about answer good rest says = answered answer (Some (taken (Flag name))) says tt
says_noted (Some names.Duid) word about answer good rest says = answered answer (Some (taken (ClientIs Duid))) says tt
says_noted (Some names.Static) word about answer good rest says = elim says [
  | inl is ↦ answered answer (static_said is.0.text) is.2 (static_noted is.0.text (whole_lacks is.0.form about is.0.text is.1 rest))
  | inr isnt ↦ answered answer None isnt.1 tt
]
says_noted (Some names.HostName) word about answer good rest says =
    answered answer (host_said word says.arguments) says.says (host_noted word says.arguments good)
says_noted (Some (names.Codes list)) word about answer good rest says =
    answered answer (codes_said list says.arguments) says.says (codes_noted list says.arguments (texts_lack about says.arguments says.follow rest))
says_noted (Some (names.Ia kind)) word about answer good rest says =
    answered answer (ia_said kind says.arguments) says.says (ia_noted kind says.arguments (texts_lack about says.arguments says.follow rest))
says_noted (Some (names.Value name)) word about answer good rest says =
    answered answer (option_map taken (value_said name says.arguments)) says.says
    (some_map (value_said name says.arguments) taken Noted (λ value. tt))

-- ---- lines where they stand

pub record IsOneLine (line : Directive) : Type 0 where
  word : InOneLine line.word
  about : InOneLine line.about

abbrev pub NotedStanding : Standing → Type 0
NotedStanding stands = Words (said_of stands).notices

in_block_noted : (alone : Bool) (line : Directive) (said : Option SaidContent) → IsOneLine line → SaysInBlock alone line said → IfSome said Noted
in_block_noted true line said one says = answered said (Some (noticed line.word)) says (one.word, tt)
in_block_noted false line said one says = says_noted (directive_at line.word) line.word line.about said one.word one.about says

at_noted : (place : Place) (line : Directive) (said : Option SaidContent) → IsOneLine line → SaysAt place line said → IfSome said Noted
at_noted Global line said one says = says_noted (directive_at line.word) line.word line.about said one.word one.about says
at_noted (Block name) line said one says = in_block_noted (is_global_alone (directive_at line.word)) line said one says
at_noted Skipped line said one says = answered said (Some nothing) says tt

heading_noted : (place : Place) (line : Directive) (name : Option Name) → NotedStanding (of_interface place line name)
heading_noted place line None = tt
heading_noted place line (Some name) = tt

line_noted : (place : Place) (line : Directive) (said : Option SaidContent) → IfSome said Noted → NotedStanding (standing place line None said)
line_noted place line None noted = tt
line_noted place line (Some said) noted = noted

standing_noted : (heading : Option HeadingName) (place : Place) (line : Directive) (stands : Standing) → IsOneLine line
    → StandsUnder heading place line stands → NotedStanding stands
standing_noted (Some Interface) place line stands one here = subst NotedStanding (sym here.2) (heading_noted place line here.0)
standing_noted (Some Profile) place line stands one here = subst NotedStanding (sym here) (one.word, tt)
standing_noted (Some Ssid) place line stands one here = subst NotedStanding (sym here) (one.word, tt)
standing_noted None place line stands one here = subst NotedStanding (sym here.2) (line_noted place line here.0 (at_noted place line here.0 one here.1))

pub front_noted : (place : Place) (lines : List Directive) (front : List Standing) (rest : List Directive) → AllByRecursion IsOneLine lines
    → StandFrom place lines front rest → AllByRecursion NotedStanding front
front_noted place lines [] rest each stand = tt
front_noted place [] (stands ∷ front) rest each stand = absurd stand
front_noted place (line ∷ lines) (stands ∷ front) rest each stand =
    (standing_noted (heading_at line.word) place line stands each.0 stand.0, front_noted (place_after stands) lines front rest each.1 stand.1)

-- ---- the lines that are read

from_one_line : (number : ℕ) (words : List ℕ) (o : Option Directive) → InOneLine words → directive_from number words ≡ o
    → AllByRecursion IsOneLine (cons_option o [])
from_one_line number words None lacks e = tt
from_one_line number words (Some directive) lacks e =
    let both = lacks_parts (front_of is_of_word words) (past is_of_word words) (subst InOneLine (parted is_of_word words) lacks) in
    let made : Directive = record { number = number; word = front_of is_of_word words; about = past is_of_word words } in
    elim (says_nothing words) as (λ b. cond b None (Some made) ≡ Some directive → AllByRecursion IsOneLine (cons_option (Some directive) [])) [
      | true ↦ λ q. absurd (none-some directive q)
      | false ↦ λ q. (subst IsOneLine (some_same q) (record { word = both.0; about = both.1 }), tt)
    ] e

pub one_line : (number : ℕ) (line : List ℕ) → InOneLine line → AllByRecursion IsOneLine (cons_option (directive_in number line) [])
unfolding directive_in
one_line number line lacks =
    from_one_line number (past parts_words line) (directive_from number (past parts_words line))
    (lacks_parts (front_of parts_words line) (past parts_words line) (subst InOneLine (parted parts_words line) lacks)).1
    refl

pub cons_lines : (o : Option Directive) (found : List Directive) → AllByRecursion IsOneLine (cons_option o []) → AllByRecursion IsOneLine found
    → AllByRecursion IsOneLine (cons_option o found)
cons_lines None found one each = each
cons_lines (Some directive) found one each = (one.0, each)

scanned_lines : (good : Bool) (number : ℕ) (o : Option Directive) (later : Read) → AllByRecursion IsOneLine (cons_option o [])
    → AllByRecursion IsOneLine later.found → AllByRecursion IsOneLine (scanned good number o later).found
scanned_lines true number o later one each = cons_lines o later.found one each
scanned_lines false number o later one each = tt

scan_lines : (number : ℕ) (lines : List Line) → AreLines lines → AllByRecursion IsOneLine (scan number lines).found
scan_lines number [] are = tt
scan_lines number (line ∷ lines) are =
    scanned_lines (is_text (without_return line)) number (directive_in number (without_return line)) (scan (number + 1) lines)
    (one_line number (without_return line) (begins_line line [] are.0).lacks) (scan_lines (number + 1) lines are.1)

-- ---- notices

pub number_small : (number : ℕ) → line_number number < 2 ^ 64
number_small number = omega arith

notice_lacks : (number : ℕ) (word : List ℕ) → InOneLine word → InOneLine (notice_words (notice_of (line_number number) word))
unfolding line_words
notice_lacks number word lacks =
    let digits = decimal (line_number number) in
    lacks-append 10 (codes "notice " ++ digits ++ codes " ") (utf8_lossy word)
    (lacks-append 10 (codes "notice " ++ digits) (codes " ")
    (lacks-append 10 (codes "notice ") digits refl (decimal_lacks (line_number number) 10 (number_small number) refl)) refl)
    (lossy_lacks word lacks)

words_noticed : (number : ℕ) (words : List (List ℕ)) → Words words → AreLines (map notice_words (map (notice_of (line_number number)) words))
words_noticed number [] each = tt
words_noticed number (word ∷ words) each = (notice_lacks number word each.0, words_noticed number words each.1)

notices_joined : (xs ys : List NoticeContent) → AreLines (map notice_words xs) → AreLines (map notice_words ys) → AreLines (map notice_words (xs ++ ys))
notices_joined [] ys first second = second
notices_joined (x ∷ xs) ys first second = (first.0, notices_joined xs ys first.1 second)

front_noticed : (front : List Standing) → AllByRecursion NotedStanding front → AreLines (map notice_words (flat_map notices_of front))
front_noticed [] each = tt
front_noticed (stands ∷ front) each =
    notices_joined (notices_of stands) (flat_map notices_of front) (words_noticed stands.number (said_of stands).notices each.0) (front_noticed front each.1)

-- the lines of a configuration's notices
pub notices_are : (lines : List Line) (configuration : Configuration) → AreLines lines → IsConfOf (lines_text lines) (Ok configuration)
    → AreLines (map notice_words configuration.notices)
unfolding configured
notices_are lines configuration are is =
    let by = conf_by lines (Ok configuration) are is in
    let noted = front_noted Global (scan 1 lines).found by.front by.rest (scan_lines 1 lines are) by.stand in
    subst (λ (c : Configuration). AreLines (map notice_words c.notices)) (sym by.tells.3) (front_noticed by.front noted)
