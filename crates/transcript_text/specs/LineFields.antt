-- The fields that lines of a transcript have of their own: their texts, the values that have one, and how they are
-- read.
use Rattle.std.specs.Prelude.{ℕ, ◌+◌, ◌-◌, ◌^◌, nat_lt, Bool, true, false, not, ◌&&◌, List, [], ◌∷◌, ◌++◌, codes, flat_map, Option, Some, None, option_map, IsTrue, if◌then◌else◌, ◌==◌}
use Rattle.std.specs.List.{AllByRecursion, list_all}
use Rattle.net_types.specs.declared.address.Net.{Net}
use Rattle.net_types.specs.declared.address.Net.TheVariants.{V4, V6}
use Rattle.net_types.specs.AddressText.{FitsNet, net4_at, net_text}
use Rattle.net_types.specs.Cutting.{◌>>=◌, after_word, guarded, list_at, pair_at}
use Rattle.net_types.specs.HexText.{hex_at}
use Rattle.net_types.specs.Ip6Text.{printed_net6_at}
use Rattle.net_types.specs.NameText.{is_name}
use Rattle.net_types.specs.Numbers.{number_at}
use Rattle.world.specs.declared.hooking.Poll.{Poll}
use Rattle.world.specs.declared.hooking.Poll.TheVariants.{Running, Ended}
use Rattle.world.specs.declared.reasons.Reason.{Reason}
use Rattle.world.specs.declared.reasons.Reason.TheVariants.{Preinit, Carrier, NoCarrier, StaticLine, Bound, Reboot, Renew, Rebind, Nak, Expire, Timeout, Ipv4ll, Stop, Stop6, Stopped, Bound6, Reboot6, Renew6, Rebind6, Expire6, Delegated6}
use Rattle.world.specs.declared.rows.HostRow.{HostRow}
use Rattle.world.specs.FileNames.{IsFileName, is_file_byte}
use Rattle.world.specs.Reasons.{reason_word}
use Rattle.world.specs.RowText.{row_text}
use Rattle.world.specs.Rows.{IsRow}
use Rattle.world.specs.StoreCalls.{Reading, Found, Missing, Unread}
use Rattle.row_texts.specs.RowReading.{either, row_at}
use Rattle.script_model.specs.Lines.{carrier_text, moment_text, outcome_text, poll_text, reading_text, up_text}
use Rattle.line_grammar.specs.FieldLaws.Fields.{Field, parted}
use Rattle.transcript_text.specs.FieldForms.{bytes_that, number_below, one_of, printed, split_at_last, told}
use Rattle.transcript_text.specs.Fits.{FitsMoment, FitsPoll, FitsReading, FitsVariable, IsWord}

-- ---- numbers, names and words

-- a number of the daemon's widest type
abbrev pub count_field : Field ℕ
count_field = number_below (2 ^ 64)

-- the number of an interface, or another of its type
abbrev pub index_field : Field ℕ
index_field = number_below (2 ^ 32)

-- any bytes
abbrev pub text_field : Field (List ℕ)
text_field = record { text = λ bytes. bytes; Fits = λ bytes. Unit {0}; at = λ text. Some text }

abbrev pub file_field : Field (List ℕ)
file_field = bytes_that (list_all is_file_byte)

abbrev pub iface_field : Field (List ℕ)
iface_field = bytes_that is_name

abbrev pub outcome_field : Field Bool
outcome_field = one_of outcome_text (true ∷ false ∷ [])

abbrev pub carrier_field : Field Bool
carrier_field = one_of carrier_text (true ∷ false ∷ [])

abbrev pub reasons : List Reason
reasons =
    Preinit ∷ Carrier ∷ NoCarrier ∷ StaticLine ∷ Bound ∷ Reboot ∷ Renew ∷ Rebind ∷ Nak ∷ Expire ∷ Timeout ∷ Ipv4ll
    ∷ Stop ∷ Stop6 ∷ Stopped ∷ Bound6 ∷ Reboot6 ∷ Renew6 ∷ Rebind6 ∷ Expire6 ∷ Delegated6 ∷ []

abbrev pub reason_field : Field Reason
reason_field = one_of reason_word reasons

-- ---- calls and jobs

-- what a call was about, and whether it was done: what it was about may have blanks
abbrev pub called : {X : Type 0} → Field X → Field (X × Bool)
called about = record {
  text = λ p. about.text p.0 ++ 32 ∷ outcome_text p.1;
  Fits = λ p. about.Fits p.0;
  at = λ text. do
    parts ← split_at_last 32 text
    x ← about.at parts.0
    done ← outcome_field.at parts.1
    Some (x, done);
}

-- which job, why it runs and on which interface
abbrev pub job_field : Field (ℕ × (Reason × List ℕ))
job_field = record (parted count_field (parted reason_field iface_field)) {
  Fits = λ job. IsWord job.0 × IsTrue (is_name job.1.1);
}

-- ---- lists

-- a name after each blank
abbrev pub names_text : List (List ℕ) → List ℕ
names_text names = flat_map (λ name. codes " " ++ name) names

unfoldable pub names_at : List ℕ → Option (List (List ℕ))
names_at [] = Some []
names_at (b ∷ rest) = if b == 32 then list_at 32 file_field.at rest else None

abbrev pub names_field : Field (List (List ℕ))
names_field = record { text = names_text; Fits = AllByRecursion IsFileName; at = names_at }

-- the bits of the interfaces
unfoldable pub bits_of : List ℕ → ℕ
bits_of [] = 0
bits_of (i ∷ rest) = 2 ^ (i - 1) + bits_of rest

-- the numbers of interfaces, or `-` for none
unfoldable pub numbers_at : List ℕ → Option (List ℕ)
numbers_at text = told (codes "-") [] (list_at 44 (number_at 65)) text

-- a list of them as it is printed: rising, each once
unfoldable pub up_at : List ℕ → Option ℕ
up_at text = printed up_text (λ text. guarded (λ up. nat_lt up (2 ^ 64)) (option_map bits_of (numbers_at text))) text

abbrev pub up_field : Field ℕ
up_field = record { text = up_text; Fits = IsWord; at = up_at }

-- ---- a word, or another text

abbrev pub reading_field : Field Reading
reading_field = record {
  text = reading_text;
  Fits = FitsReading;
  at = told (codes "none") Missing (told (codes "failed") Unread (λ text. option_map Found (hex_at text)));
}

abbrev pub poll_field : Field (Option Poll)
poll_field = record {
  text = poll_text;
  Fits = FitsPoll;
  at = told (codes "run") (Some Running)
      (told (codes "failed") None
      (λ text. option_map (λ n. Some (Ended n)) (after_word (codes "ended ") index_field.at text)));
}

abbrev pub moment_field : Field (Option ℕ)
moment_field = record {
  text = moment_text;
  Fits = FitsMoment;
  at = told (codes "none") None (λ text. option_map Some (number_at (2 ^ 64) text));
}

-- ---- variables, rows and networks

abbrev pub lacks : ℕ → List ℕ → Bool
lacks byte text = list_all (λ b. not (b == byte)) text

abbrev pub variable_name_field : Field (List ℕ)
variable_name_field = bytes_that (λ text. lacks 61 text && lacks 10 text)

abbrev pub variable_value_field : Field (List ℕ)
variable_value_field = bytes_that (lacks 10)

-- what stands before and after the first `=`
abbrev pub variable_field : Field (List ℕ × List ℕ)
variable_field = record {
  text = λ p. p.0 ++ 61 ∷ p.1;
  Fits = λ p. FitsVariable p.0 p.1;
  at = pair_at 61 variable_name_field.at variable_value_field.at;
}

-- a row as it is printed
unfoldable pub printed_row_at : List ℕ → Option HostRow
printed_row_at text = printed row_text row_at text

abbrev pub row_field : Field HostRow
row_field = record { text = row_text; Fits = IsRow; at = printed_row_at }

-- a network of either family as it is printed
unfoldable pub printed_net_at : List ℕ → Option Net
printed_net_at text = either (option_map V4 (net4_at text)) (option_map V6 (printed_net6_at text))

abbrev pub net_field : Field Net
net_field = record { text = net_text; Fits = FitsNet; at = printed_net_at }
