-- A parse of words that are no options finds them at their places, exactly where they have places.
use Rattle.std.proofs.Common.{◌≡◌, ◌≤◌, ℕ, Bool, true, false, ◌&&◌, cond, List, option_and_then, [], ◌∷◌, ◌++◌, length, Option, Some, None, refl, sym, ap, ap₂, ◌∙◌, codes, arith, eqb, leb, ltb, is_some}
use Rattle.std.specs.List.{list_all, list_any}
use Rattle.std.proofs.lemmas.Bool.{and_parts, and_from, or_parts, leb-true, le-leb, lt-ltb, ltb-false, true≢false}
use Rattle.clap.specs.Words.{HasMatchesOf, Text, all_of, fault_of, first_of, found_of, rows_of, takes}
use Rattle.clap.specs.Kinds.{Kinds, or_else, range_kinds}
use Rattle.clap.specs.Faults.{check_fault, defaults_fault, entered_fault, settle_fault, step_fault, turn_fault, walk_fault}
use Rattle.clap.specs.Walk.{Walk, finished, idle, nothing_held, positional, settled, value, walked}
use Rattle.clap.specs.Simple.{entered}
use Rattle.clap.specs.Takes.{default_passes, entered_passes, is_valid, settle_passes, turn_passes, walk_passes}
use Rattle.clap.specs.declared.error.kind.ErrorKind.{ErrorKind}
use Rattle.clap.specs.declared.error.kind.ErrorKind.TheVariants as kind
use Rattle.clap.specs.declared.parser.matches.ArgMatches.{ArgMatches}
use Rattle.clap.proofs.WalkLemmas.{first_value-rows, raw_values-rows}
use Rattle.net_types.specs.Cutting.{◌>>=◌, guarded}
use Rattle.live_words.specs.LiveCommand.{live_command}
use Rattle.live_words.specs.LiveReading.{ArePlaced, HasPlaces, Places, Said, are_places, ifaces_at, is_option, is_some_text, places_at, port_at, ports_at, said_at, said_in}
use Rattle.live_words.proofs.PlainWords.{ArePlain, app, at, end1, end2, end3, end4, end5, held1, held2, held3, held4, held5, over, row1, row2, row3, row4, row5, rules, start, top, walked1, walked2, walked3, walked4, walked5, walked6, word_fault, word_passes}

pub plain_parts : (words : List Text) → list_any is_option words ≡ false → ArePlain words
plain_parts [] plain = tt
plain_parts (word ∷ words) plain = let parts = or_parts (is_option word) _ plain in (parts.0, plain_parts words parts.1)

-- ---- words that pass

abbrev takes_by : Walk → Bool → Bool
takes_by end passes =
    entered_passes app end.stopped
    &&
    (passes
    &&
    (settle_passes rules false end.held
    && (list_all default_passes rules && is_valid top (finished rules end.held) (is_some (entered app end.stopped)))))

takes_is : (work : Text) (words : List Text) → takes live_command (work ∷ words) ≡ takes_by (over words start) (walk_passes top [] start words)
takes_is work words = refl

pass_word : (from next : Walk) (word : Text) (words : List Text) → turn_passes top [] from word ≡ true → walked rules [] from word ≡ next
    → walk_passes top [] next words ≡ true
    → walk_passes top [] from (word ∷ words) ≡ true
unfolding walk_passes
pass_word from next word words passes same rest = ap₂ (λ (b : Bool) (w : Walk). b && walk_passes top [] w words) passes same ∙ rest

some_count : {X : Type 0} (xs : List X) → 1 ≤ length xs → leb 1 (length xs) ≡ true
some_count xs some = le-leb 1 (length xs) some

all_pass : (words : List Text) → list_all (λ (word : Text). true) words ≡ true
all_pass [] = refl
all_pass (word ∷ words) = all_pass words

pass_more : (port peer folder script word : Text) (words more : List Text) → ArePlain more
    → walk_passes top [] (at (held5 port peer folder script (word ∷ words)) positional 5) more ≡ true
unfolding walk_passes
pass_more port peer folder script word words [] plain = refl
pass_more port peer folder script word words (next ∷ more) plain =
    pass_word (at (held5 port peer folder script (word ∷ words)) positional 5)
    (at (held5 port peer folder script (word ∷ (words ++ next ∷ []))) positional 5) next more
    (word_passes (held5 port peer folder script (word ∷ words)) 5 next plain.0 positional tt)
    (walked6 port peer folder script (word ∷ words) next plain.0)
    (pass_more port peer folder script word (words ++ next ∷ []) more plain.1)

module _ (port : Text) (is1 : is_option port ≡ false) (peer : Text) (is2 : is_option peer ≡ false) (folder : Text) (is3 : is_option folder ≡ false)
    (script : Text) (is4 : is_option script ≡ false) where
  module _ (word : Text) (words : List Text) (are : ArePlain (word ∷ words)) where
    words_pass : is_some_text folder ≡ true → is_some_text script ≡ true → walk_passes top [] start (port ∷ peer ∷ folder ∷ script ∷ word ∷ words) ≡ true
    words_pass some_folder some_script =
        pass_word start (at (held1 port) idle 2) port _ (word_passes nothing_held 1 port is1 idle tt) (walked1 port is1)
        (pass_word (at (held1 port) idle 2) (at (held2 port peer) idle 3) peer _ (word_passes (held1 port) 2 peer is2 idle tt) (walked2 port peer is2)
        (pass_word (at (held2 port peer) idle 3) (at (held3 port peer folder) idle 4) folder _ (word_passes (held2 port peer) 3 folder is3 idle tt)
        (walked3 port peer folder is3)
        (pass_word (at (held3 port peer folder) idle 4) (at (held4 port peer folder script) idle 5) script _
        (word_passes (held3 port peer folder) 4 script is4 idle tt ∙ ap (λ b. b && true) some_folder) (walked4 port peer folder script is4)
        (pass_word (at (held4 port peer folder script) idle 5) (at (held5 port peer folder script (word ∷ [])) positional 5) word words
        (word_passes (held4 port peer folder script) 5 word are.0 idle tt ∙ ap (λ b. b && true) some_script) (walked5 port peer folder script word are.0)
        (pass_more port peer folder script word [] words are.1)))))

    end_passes : leb (length (word ∷ words)) 64 ≡ true → takes_by (at (held5 port peer folder script (word ∷ words)) positional 5) true ≡ true
    end_passes few =
        let one = some_count (word ∷ words) (omega arith) in
        let all = all_pass words in
        λ i. (one i && (few i && all i)) && true

    taken : (work : Text) → are_places (record { port = port; peer = peer; folder = folder; script = script; interfaces = word ∷ words }) ≡ true
        → takes live_command (work ∷ port ∷ peer ∷ folder ∷ script ∷ word ∷ words) ≡ true
    taken work places =
        let halves = and_parts (is_some_text folder && is_some_text script) _ places in
        let paths = and_parts (is_some_text folder) (is_some_text script) halves.0 in
        let counts = and_parts (leb 1 (length (word ∷ words))) (leb (length (word ∷ words)) 64) halves.1 in
        takes_is work (port ∷ peer ∷ folder ∷ script ∷ word ∷ words)
        ∙ ap₂ takes_by (end5 port is1 peer is2 folder is3 script is4 word words are) (words_pass paths.0 paths.1)
        ∙ end_passes counts.1

-- ---- words that fail

abbrev fault_by : Walk → Kinds → Kinds
fault_by end first =
    or_else first (or_else (entered_fault app end.stopped)
    (or_else (settle_fault rules false end.held)
    (or_else (defaults_fault (settled rules end.held).rows rules) (check_fault top (finished rules end.held) (is_some (entered app end.stopped))))))

fault_is : (work : Text) (words : List Text) → fault_of live_command (work ∷ words) ≡ fault_by (over words start) (walk_fault top [] start words)
fault_is work words = refl

none_parts : (a b : Kinds) → or_else a b ≡ [] → (a ≡ []) × (b ≡ [])
none_parts [] b e = (refl, e)
none_parts (k ∷ ks) b e = cc

abbrev check : Walk → Kinds
check end = check_fault top (finished rules end.held) (is_some (entered app end.stopped))

too_few : (end : Walk) (first : Kinds) → check end ≡ kind.MissingRequiredArgument ∷ [] → fault_by end first ≡ [] → ⊥
too_few end first missing none =
    let one = none_parts first _ none in
    let two = none_parts (entered_fault app end.stopped) _ one.1 in
    let three = none_parts (settle_fault rules false end.held) _ two.1 in
    let four = none_parts (defaults_fault (settled rules end.held).rows rules) (check end) three.1 in
    let both : kind.MissingRequiredArgument ∷ [] ≡ [] = sym missing ∙ four.1 in
    cc

rest_none : (from next : Walk) (word : Text) (words : List Text) → walked rules [] from word ≡ next → walk_fault top [] from (word ∷ words) ≡ []
    → (turn_fault top [] from word ≡ []) × (walk_fault top [] next words ≡ [])
unfolding walk_fault
rest_none from next word words same none =
    let parts = none_parts (turn_fault top [] from word) (walk_fault top [] (walked rules [] from word) words) none in
    (parts.0, sym (ap (λ (w : Walk). walk_fault top [] w words) same) ∙ parts.1)

folder_some : (port peer folder : Text) → step_fault top 4 (held3 port peer folder) value ≡ [] → is_some_text folder ≡ true
folder_some port peer [] none = cc
folder_some port peer (byte ∷ bytes) none = lt-ltb 0 (length (byte ∷ bytes)) (omega arith)

script_some : (port peer folder script : Text) → step_fault top 5 (held4 port peer folder script) value ≡ [] → is_some_text script ≡ true
script_some port peer folder [] none = cc
script_some port peer folder (byte ∷ bytes) none = lt-ltb 0 (length (byte ∷ bytes)) (omega arith)

cond_none : (b : Bool) (k : ErrorKind) (rest : Kinds) → cond b (k ∷ []) rest ≡ [] → (b ≡ false) × (rest ≡ [])
cond_none true k rest e = cc
cond_none false k rest e = (refl, e)

few_of : (n : ℕ) → range_kinds 1 64 n ≡ [] → leb n 64 ≡ true
few_of n none =
    let one = cond_none (eqb n 0) kind.InvalidValue _ none in
    let two = cond_none (ltb n 1) kind.TooFewValues _ one.1 in
    let three = cond_none (ltb 64 n) kind.TooManyValues [] two.1 in
    le-leb n 64 (ltb-false 64 n three.0)

module _ (port : Text) (is1 : is_option port ≡ false) (peer : Text) (is2 : is_option peer ≡ false) (folder : Text) (is3 : is_option folder ≡ false)
    (script : Text) (is4 : is_option script ≡ false) where
  module _ (word : Text) (words : List Text) (are : ArePlain (word ∷ words)) where
    placed_fully : (work : Text) → fault_of live_command (work ∷ port ∷ peer ∷ folder ∷ script ∷ word ∷ words) ≡ []
        → are_places (record { port = port; peer = peer; folder = folder; script = script; interfaces = word ∷ words }) ≡ true
    placed_fully work none =
        let all = sym (fault_is work (port ∷ peer ∷ folder ∷ script ∷ word ∷ words)) ∙ none in
        let end = over (port ∷ peer ∷ folder ∷ script ∷ word ∷ words) start in
        let one = none_parts (walk_fault top [] start (port ∷ peer ∷ folder ∷ script ∷ word ∷ words)) _ all in
        let two = none_parts (entered_fault app end.stopped) _ one.1 in
        let three = none_parts (settle_fault rules false end.held) _ two.1 in
        let at_end : settle_fault rules false (held5 port peer folder script (word ∷ words)) ≡ [] =
        sym (ap (λ (w : Walk). settle_fault rules false w.held) (end5 port is1 peer is2 folder is3 script is4 word words are)) ∙ three.0 in
        let few = few_of (length (word ∷ words)) (none_parts (range_kinds 1 64 (length (word ∷ words))) _ at_end).0 in
        let after1 = rest_none start (at (held1 port) idle 2) port _ (walked1 port is1) one.0 in
        let after2 = rest_none (at (held1 port) idle 2) (at (held2 port peer) idle 3) peer _ (walked2 port peer is2) after1.1 in
        let after3 = rest_none (at (held2 port peer) idle 3) (at (held3 port peer folder) idle 4) folder _ (walked3 port peer folder is3) after2.1 in
        let after4 =
        rest_none (at (held3 port peer folder) idle 4) (at (held4 port peer folder script) idle 5) script _
        (walked4 port peer folder script is4) after3.1 in
        let after5 =
        rest_none (at (held4 port peer folder script) idle 5) (at (held5 port peer folder script (word ∷ [])) positional 5) word words
        (walked5 port peer folder script word are.0) after4.1 in
        let some_folder = folder_some port peer folder (sym (word_fault (held3 port peer folder) 4 script is4 idle tt) ∙ after4.0) in
        let some_script = script_some port peer folder script (sym (word_fault (held4 port peer folder script) 5 word are.0 idle tt) ∙ after5.0) in
        and_from _ _ (and_from _ _ some_folder some_script) (and_from _ _ (some_count (word ∷ words) (omega arith)) few)

    found_at_places : (work : Text) (m : ArgMatches) → leb (length (word ∷ words)) 64 ≡ true
        → HasMatchesOf live_command (work ∷ port ∷ peer ∷ folder ∷ script ∷ word ∷ words) m
        → HasPlaces (found_of m) (record { port = port; peer = peer; folder = folder; script = script; interfaces = word ∷ words })
    found_at_places work m few has =
        let rows : rows_of (found_of m) ≡ row1 port ∷ row2 peer ∷ row3 folder ∷ row4 script ∷ row5 (word ∷ words) ∷ [] =
        (has refl).0 ∙ ap (λ (w : Walk). finished rules w.held) (end5 port is1 peer is2 folder is3 script is4 word words are) in
        record {
          port = first_value-rows (found_of m) (codes "PORT") ∙ ap (first_of (codes "PORT")) rows;
          peer = first_value-rows (found_of m) (codes "PEER") ∙ ap (first_of (codes "PEER")) rows;
          folder = first_value-rows (found_of m) (codes "DIR") ∙ ap (first_of (codes "DIR")) rows;
          script = first_value-rows (found_of m) (codes "SCRIPT") ∙ ap (first_of (codes "SCRIPT")) rows;
          interfaces = raw_values-rows (found_of m) (codes "IFACE") ∙ ap (all_of (codes "IFACE")) rows;
          few = leb-true _ _ few;
        }

-- ---- all words

-- what a parse that ends well found
pub placed : (words : List Text) (m : ArgMatches) → list_any is_option words ≡ false → HasMatchesOf live_command words m → fault_of live_command words ≡ []
    → ArePlaced (Some m) (places_at words)
unfolding places_at
placed [] m plain has none = absurd (too_few start _ refl none)
placed (work ∷ []) m plain has none = absurd (too_few start _ refl none)
placed (work ∷ a ∷ []) m plain has none =
    let is = (plain_parts (work ∷ a ∷ []) plain).1 in
    absurd (too_few (over (a ∷ []) start) _ (ap check (end1 a is.0)) none)
placed (work ∷ a ∷ b ∷ []) m plain has none =
    let is = (plain_parts (work ∷ a ∷ b ∷ []) plain).1 in
    absurd (too_few (over (a ∷ b ∷ []) start) _ (ap check (end2 a is.0 b is.1.0)) none)
placed (work ∷ a ∷ b ∷ c ∷ []) m plain has none =
    let is = (plain_parts (work ∷ a ∷ b ∷ c ∷ []) plain).1 in
    absurd (too_few (over (a ∷ b ∷ c ∷ []) start) _ (ap check (end3 a is.0 b is.1.0 c is.1.1.0)) none)
placed (work ∷ a ∷ b ∷ c ∷ d ∷ []) m plain has none =
    let is = (plain_parts (work ∷ a ∷ b ∷ c ∷ d ∷ []) plain).1 in
    absurd (too_few (over (a ∷ b ∷ c ∷ d ∷ []) start) _ (ap check (end4 a is.0 b is.1.0 c is.1.1.0 d is.1.1.1.0)) none)
placed (work ∷ a ∷ b ∷ c ∷ d ∷ word ∷ words) m plain has none =
    let is = (plain_parts (work ∷ a ∷ b ∷ c ∷ d ∷ word ∷ words) plain).1 in
    let places = placed_fully a is.0 b is.1.0 c is.1.1.0 d is.1.1.1.0 word words is.1.1.1.1 work none in
    let few = (and_parts (leb 1 (length (word ∷ words))) _ (and_parts (is_some_text c && is_some_text d) _ places).1).1 in
    rw places (found_at_places a is.0 b is.1.0 c is.1.1.0 d is.1.1.1.0 word words is.1.1.1.1 work m few has)

unplaced_by : (places : Places) → (are_places places ≡ true → ⊥) → ArePlaced None (guarded are_places (Some places))
unplaced_by places never =
    elim (are_places places) as (λ b. are_places places ≡ b → ArePlaced None (cond b (Some places) None)) [
      | true ↦ λ t. absurd (never t)
      | false ↦ λ t. tt
    ] refl

-- words that a parse refuses have no places
pub unplaced : (words : List Text) → list_any is_option words ≡ false → (takes live_command words ≡ true → ⊥) → ArePlaced None (places_at words)
unfolding places_at
unplaced [] plain refused = tt
unplaced (work ∷ []) plain refused = tt
unplaced (work ∷ a ∷ []) plain refused = tt
unplaced (work ∷ a ∷ b ∷ []) plain refused = tt
unplaced (work ∷ a ∷ b ∷ c ∷ []) plain refused = tt
unplaced (work ∷ a ∷ b ∷ c ∷ d ∷ []) plain refused =
    unplaced_by (record { port = a; peer = b; folder = c; script = d; interfaces = [] })
    (λ e. let no : false ≡ true = (and_parts _ _ e).1 in true≢false (sym no))
unplaced (work ∷ a ∷ b ∷ c ∷ d ∷ word ∷ words) plain refused =
    let is = (plain_parts (work ∷ a ∷ b ∷ c ∷ d ∷ word ∷ words) plain).1 in
    unplaced_by (record { port = a; peer = b; folder = c; script = d; interfaces = word ∷ words })
    (λ e. refused (taken a is.0 b is.1.0 c is.1.1.0 d is.1.1.1.0 word words is.1.1.1.1 work e))

-- ---- what was found is read as the words are

abbrev said_from : Option Text → Option Text → Option Text → Option Text → Option (List Text) → Option Said
said_from port peer folder script interfaces = do
  port ← port
  peer ← peer
  ports ← ports_at (port_at port) (port_at peer)
  folder ← folder
  script ← script
  words ← interfaces
  specs ← ifaces_at words
  Some (record { ports = ports; folder = folder; script = script; specs = specs })

pub said_placed : (m : ArgMatches) (places : Option Places) → ArePlaced (Some m) places → said_in (found_of m) ≡ option_and_then said_at places
unfolding said_at
said_placed m (Some places) has = λ i. said_from (has.port i) (has.peer i) (has.folder i) (has.script i) (has.interfaces i)
said_placed m None has = absurd has
