-- Words that are no options go to the places of the command in turn.
use Rattle.std.proofs.Common.{◌≡◌, ℕ, Bool, true, false, ◌&&◌, ◌||◌, List, [], ◌∷◌, ◌++◌, Option, Some, None, refl, sym, ap, ap₂, ◌∙◌, codes, cond, fold, option_and_then, bytes_eq, append_assoc, append-nil}
use Rattle.std.specs.Option.{option_map_or}
use Rattle.clap.specs.Lexer.{long_of, long_of_rest, short_of, short_of_rest, strip_byte}
use Rattle.clap.specs.Words.{Row, Rule, Text}
use Rattle.clap.specs.Kinds.{Kinds, or_else}
use Rattle.clap.specs.Faults.{bundle_fault, flag_word_fault, other_fault, step_fault, turn_fault}
use Rattle.clap.specs.Walk.{Held, Step, Waiting, Walk, after_step, arg_by_index, long_or_other, short_or_plain, trailing, word_met, idle, nothing_held, option, positional, reading_by, to_positional, value, walk_from, walked}
use Rattle.clap.specs.Simple.{App, Shape, built}
use Rattle.clap.specs.Takes.{bundle_passes, flag_word_passes, other_passes, step_passes, turn_passes}
use Rattle.clap.specs.declared.parser.matches.ValueSource.TheVariants.{CommandLine}
use Rattle.live_words.specs.LiveCommand.{live_command, place_rule, path_rule, interfaces_rule}
use Rattle.live_words.specs.LiveReading.{is_option}

abbrev pub app : App
app = built live_command

abbrev pub top : Shape
top = app.top

abbrev pub rules : List Rule
rules = top.rules

abbrev pub at : Held → Waiting → ℕ → Walk
at held waiting position = record { held = held; waiting = waiting; position = position; is_trailing = false; stopped = None }

-- no option waits for a value
abbrev pub IsFree : Waiting → Type 0
IsFree idle = Unit {0}
IsFree (option id) = ⊥
IsFree positional = Unit {0}

-- ---- one word

abbrev two_hyphens : Text
two_hyphens = 45 ∷ 45 ∷ []

no_end : (word : Text) → is_option word ≡ false → bytes_eq word two_hyphens ≡ false
no_end [] plain = refl
no_end (byte ∷ bytes) plain = ap (λ b. b && bytes_eq bytes (45 ∷ [])) plain

no_long : (word : Text) → is_option word ≡ false → long_of word ≡ None
no_long [] plain = refl
no_long (byte ∷ bytes) plain = ap (λ b. option_and_then long_of_rest (option_and_then (strip_byte 45) (cond b (Some bytes) None))) plain

no_short : (word : Text) → is_option word ≡ false → short_of word ≡ None
no_short [] plain = refl
no_short (byte ∷ bytes) plain = ap (λ b. option_and_then short_of_rest (cond b (Some bytes) None)) plain

module _ (held : Held) (position : ℕ) (word : Text) (plain : is_option word ≡ false) where
  abbrev met_as : Waiting → Bool → Option (Text × Option Text) → Held × Step
  met_as waiting is_end long = cond is_end (held, trailing position) (long_or_other rules waiting word long held)

  met : (waiting : Waiting) → IsFree waiting → word_met rules [] false waiting position word held ≡ (held, value)
  met idle free = ap₂ (met_as idle) (no_end word plain) (no_long word plain) ∙ ap (λ short. short_or_plain rules idle word short held) (no_short word plain)
  met positional free =
      ap₂ (met_as positional) (no_end word plain) (no_long word plain) ∙ ap (λ short. short_or_plain rules positional word short held) (no_short word plain)
  met (option id) free = absurd free

  fine : other_passes top None word held ≡ true
  fine =
      ap₂ (λ is_end long. is_end || flag_word_passes rules false long word held) (no_end word plain) (no_long word plain)
      ∙ ap (λ short. option_map_or (λ flags. bundle_passes rules false flags held) short true) (no_short word plain)

  faultless : other_fault top None word held ≡ []
  faultless =
      ap₂ (λ is_end long. cond is_end [] (flag_word_fault rules false long word held)) (no_end word plain) (no_long word plain)
      ∙ ap (λ short. option_map_or (λ flags. bundle_fault rules false flags held) short []) (no_short word plain)

  word_walked : (waiting : Waiting) → IsFree waiting
      → walked rules [] (at held waiting position) word ≡ to_positional rules (arg_by_index rules position) word (at held waiting position) held
  unfolding walked
  word_walked waiting free = ap (λ (m : Held × Step). after_step rules word (at held waiting position) m.0 m.1) (met waiting free)

  pub word_passes : (waiting : Waiting) → IsFree waiting → turn_passes top [] (at held waiting position) word ≡ step_passes top position held value
  word_passes idle free = ap₂ (λ (b : Bool) (m : Held × Step). b && step_passes top position m.0 m.1) fine (met idle free)
  word_passes positional free = ap₂ (λ (b : Bool) (m : Held × Step). b && step_passes top position m.0 m.1) fine (met positional free)
  word_passes (option id) free = absurd free

  pub word_fault : (waiting : Waiting) → IsFree waiting → turn_fault top [] (at held waiting position) word ≡ step_fault top position held value
  word_fault idle free = ap₂ (λ (k : Kinds) (m : Held × Step). or_else k (step_fault top position m.0 m.1)) faultless (met idle free)
  word_fault positional free = ap₂ (λ (k : Kinds) (m : Held × Step). or_else k (step_fault top position m.0 m.1)) faultless (met positional free)
  word_fault (option id) free = absurd free

-- ---- what is held after each place

abbrev pub row : Rule → List Text → Row
row rule words = record { id = rule.id; values = words; count = None; source = Some CommandLine; reading = reading_by rule }

abbrev pub holding : List Row → Text → List Text → Held
holding rows id words = record { rows = rows; pending = Some (id, words); skip = 0 }

abbrev pub row1 : Text → Row
row1 port = row (place_rule (codes "PORT")) (port ∷ [])

abbrev pub row2 : Text → Row
row2 peer = row (place_rule (codes "PEER")) (peer ∷ [])

abbrev pub row3 : Text → Row
row3 folder = row (path_rule (codes "DIR")) (folder ∷ [])

abbrev pub row4 : Text → Row
row4 script = row (path_rule (codes "SCRIPT")) (script ∷ [])

abbrev pub row5 : List Text → Row
row5 words = row interfaces_rule words

abbrev pub held1 : Text → Held
held1 port = holding [] (codes "PORT") (port ∷ [])

abbrev pub held2 : Text → Text → Held
held2 port peer = holding (row1 port ∷ []) (codes "PEER") (peer ∷ [])

abbrev pub held3 : Text → Text → Text → Held
held3 port peer folder = holding (row1 port ∷ row2 peer ∷ []) (codes "DIR") (folder ∷ [])

abbrev pub held4 : Text → Text → Text → Text → Held
held4 port peer folder script = holding (row1 port ∷ row2 peer ∷ row3 folder ∷ []) (codes "SCRIPT") (script ∷ [])

abbrev pub held5 : Text → Text → Text → Text → List Text → Held
held5 port peer folder script words = holding (row1 port ∷ row2 peer ∷ row3 folder ∷ row4 script ∷ []) (codes "IFACE") words

abbrev pub start : Walk
start = walk_from nothing_held

pub walked1 : (port : Text) → is_option port ≡ false → walked rules [] start port ≡ at (held1 port) idle 2
walked1 port plain = word_walked nothing_held 1 port plain idle tt

pub walked2 : (port peer : Text) → is_option peer ≡ false → walked rules [] (at (held1 port) idle 2) peer ≡ at (held2 port peer) idle 3
walked2 port peer plain = word_walked (held1 port) 2 peer plain idle tt

pub walked3 : (port peer folder : Text) → is_option folder ≡ false → walked rules [] (at (held2 port peer) idle 3) folder ≡ at (held3 port peer folder) idle 4
walked3 port peer folder plain = word_walked (held2 port peer) 3 folder plain idle tt

pub walked4 : (port peer folder script : Text) → is_option script ≡ false
    → walked rules [] (at (held3 port peer folder) idle 4) script ≡ at (held4 port peer folder script) idle 5
walked4 port peer folder script plain = word_walked (held3 port peer folder) 4 script plain idle tt

pub walked5 : (port peer folder script word : Text) → is_option word ≡ false
    → walked rules [] (at (held4 port peer folder script) idle 5) word ≡ at (held5 port peer folder script (word ∷ [])) positional 5
walked5 port peer folder script word plain = word_walked (held4 port peer folder script) 5 word plain idle tt

pub walked6 : (port peer folder script : Text) (words : List Text) (word : Text) → is_option word ≡ false
    → walked rules [] (at (held5 port peer folder script words) positional 5) word ≡ at (held5 port peer folder script (words ++ word ∷ [])) positional 5
walked6 port peer folder script words word plain = word_walked (held5 port peer folder script words) 5 word plain positional tt

-- ---- all words

-- no word is an option
abbrev pub ArePlain : List Text → Type 0
ArePlain [] = Unit {0}
ArePlain (word ∷ words) = (is_option word ≡ false) × ArePlain words

abbrev pub over : List Text → Walk → Walk
over words from = fold (walked rules []) from words

pub walked_more : (port peer folder script : Text) (words more : List Text) → ArePlain more
    → over more (at (held5 port peer folder script words) positional 5) ≡ at (held5 port peer folder script (words ++ more)) positional 5
walked_more port peer folder script words [] plain = ap (λ ws. at (held5 port peer folder script ws) positional 5) (sym (append-nil words))
walked_more port peer folder script words (word ∷ more) plain =
    ap (over more) (walked6 port peer folder script words word plain.0)
    ∙ walked_more port peer folder script (words ++ word ∷ []) more plain.1
    ∙ ap (λ ws. at (held5 port peer folder script ws) positional 5) (append_assoc words (word ∷ []) more)

module _ (port : Text) (is1 : is_option port ≡ false) where
  pub end1 : over (port ∷ []) start ≡ at (held1 port) idle 2
  end1 = walked1 port is1

  module _ (peer : Text) (is2 : is_option peer ≡ false) where
    pub end2 : over (port ∷ peer ∷ []) start ≡ at (held2 port peer) idle 3
    end2 = ap (over (peer ∷ [])) end1 ∙ walked2 port peer is2

    module _ (folder : Text) (is3 : is_option folder ≡ false) where
      pub end3 : over (port ∷ peer ∷ folder ∷ []) start ≡ at (held3 port peer folder) idle 4
      end3 = ap (over (folder ∷ [])) end2 ∙ walked3 port peer folder is3

      module _ (script : Text) (is4 : is_option script ≡ false) where
        pub end4 : over (port ∷ peer ∷ folder ∷ script ∷ []) start ≡ at (held4 port peer folder script) idle 5
        end4 = ap (over (script ∷ [])) end3 ∙ walked4 port peer folder script is4

        module _ (word : Text) (words : List Text) (are : ArePlain (word ∷ words)) where
          pub end5 : over (port ∷ peer ∷ folder ∷ script ∷ word ∷ words) start ≡ at (held5 port peer folder script (word ∷ words)) positional 5
          end5 =
              ap (over (word ∷ words)) end4 ∙ ap (over words) (walked5 port peer folder script word are.0)
              ∙ walked_more port peer folder script (word ∷ []) words are.1
