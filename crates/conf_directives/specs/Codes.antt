-- Options, by their names or codes.
use Rattle.std.specs.Prelude.{ℕ, Bool, ◌||◌, ◌&&◌, not, ◌==◌, nat_lt, true, false, List, [], ◌∷◌, length, flat_map, filter, filter_map, Option, Some, None, codes, bytes_eq, if◌then◌else◌}
use Rattle.std.specs.Char.{is_ascii_digit}
use Rattle.std.specs.List.{list_all, list_any}
use Rattle.net_types.specs.Cutting.{guarded}
use Rattle.net_types.specs.Numbers.{number_at}
use Rattle.v4_options.specs.declared.code.TheConstants as code
use Rattle.v4_options.specs.OptionTable.{code_named}
use Rattle.conf_directives.specs.declared.names.CodeList.{CodeList}
use Rattle.conf_directives.specs.declared.names.CodeList.TheVariants.{Asked, Refused, Required}
use Rattle.conf_directives.specs.declared.option_words.OptionWord.{OptionWord}
use Rattle.conf_directives.specs.declared.option_words.OptionWord.TheVariants.{Taken, RapidCommit, Noticed, Wrong}
use Rattle.conf_values.specs.Words.{options_of}
use Rattle.conf_directives.specs.Contents.{CodesContent, SaidContent}
use Rattle.conf_directives.specs.Contents as contents

-- without these no lease is one
abbrev pub is_needed : ℕ → Bool
is_needed number = number == code.LEASE_TIME || number == code.MESSAGE_TYPE || number == code.SERVER_IDENTIFIER

abbrev pub code_in : CodeList → ℕ → OptionWord
code_in Asked number = Taken number
code_in Refused number = if is_needed number then Noticed else Taken number
code_in Required number = Taken number

-- a name of no option; two messages in place of four have one (RFC 8415, section 21.14)
abbrev pub other_in : CodeList → List ℕ → OptionWord
other_in Asked word = if bytes_eq word (codes "rapid_commit") then RapidCommit else Noticed
other_in Refused word = Noticed
other_in Required word = Noticed

abbrev pub name_in : CodeList → List ℕ → Option ℕ → OptionWord
name_in list word (Some number) = code_in list number
name_in list word None = other_in list word

-- codes between those of padding and of the end (RFC 2132, sections 3.1 and 3.2)
abbrev pub code_at : List ℕ → Option ℕ
code_at word = guarded (λ number. nat_lt code.PAD number) (number_at code.END word)

abbrev pub number_in : CodeList → Option ℕ → OptionWord
number_in list (Some number) = code_in list number
number_in list None = Wrong

-- a word of digits alone is to be a code, and any other may be a name
abbrev pub option_word : CodeList → List ℕ → OptionWord
option_word list word =
    if list_all is_ascii_digit word
    then number_in list (code_at word)
    else name_in list word (code_named word)

-- ---- what a line of them says

abbrev pub taken_code : OptionWord → Option ℕ
taken_code (Taken number) = Some number
taken_code RapidCommit = None
taken_code Noticed = None
taken_code Wrong = None

abbrev pub is_rapid : OptionWord → Bool
is_rapid (Taken number) = false
is_rapid RapidCommit = true
is_rapid Noticed = false
is_rapid Wrong = false

abbrev pub is_noticed : OptionWord → Bool
is_noticed (Taken number) = false
is_noticed RapidCommit = false
is_noticed Noticed = true
is_noticed Wrong = false

abbrev pub is_wrong : OptionWord → Bool
is_wrong (Taken number) = false
is_wrong RapidCommit = false
is_wrong Noticed = false
is_wrong Wrong = true

abbrev pub codes_in : CodeList → List (List ℕ) → CodesContent
codes_in list words = record {
  codes = filter_map (λ word. taken_code (option_word list word)) words;
  rapid = list_any (λ word. is_rapid (option_word list word)) words;
  words = length words;
}

abbrev pub codes_of : CodeList → List (List ℕ) → SaidContent
codes_of list words = record {
  directive = Some (contents.Codes list (codes_in list words));
  notices = filter (λ word. is_noticed (option_word list word)) words;
}

-- none is wrong, and there is one
abbrev pub are_right : CodeList → List (List ℕ) → Bool
are_right list words = not (length words == 0) && not (list_any (λ word. is_wrong (option_word list word)) words)

abbrev pub codes_by : CodeList → List (List ℕ) → Option SaidContent
codes_by list words = if are_right list words then Some (codes_of list words) else None

abbrev pub codes_said : CodeList → List (List ℕ) → Option SaidContent
codes_said list arguments = codes_by list (flat_map options_of arguments)
