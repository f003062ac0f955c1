-- The fields of lines: what is read is spelled so, and what is spelled so is read.
use Rattle.std.proofs.Common.{◌≡◌, ℕ, ◌^◌, ◌<◌, Bool, true, false, cond, eqb, ltb, List, [], ◌∷◌, ◌++◌, decimal, refl, sym, ◌∙◌, ap, subst, arith, Option, Some, None, eqb-true}
use Rattle.std.specs.Prelude.{◌&&◌, codes, option_map}
use Rattle.std.specs.List.{AllByRecursion, list_all}
use Rattle.std.proofs.lemmas.Bool.{and_from, and_parts, ltb-true, lt-ltb}
use Rattle.net_types.specs.AddressText.{FitsNet, FitsNet6, net4_text, net6_text, net_text, net4_at}
use Rattle.net_types.specs.declared.address.Net.{Net}
use Rattle.net_types.specs.declared.address.Net.TheVariants.{V4, V6}
use Rattle.net_types.specs.declared.address.Net4.{Net4}
use Rattle.net_types.specs.declared.address.Net6.{Net6}
use Rattle.net_types.specs.Cutting.{after_word, FitsList, list_at, list_text, strip_word}
use Rattle.net_types.specs.HexText.{hex_at, hex_byte_at, hex_digit_at, hex_text}
use Rattle.net_types.specs.Ip6Text.{printed_net6_at}
use Rattle.net_types.specs.Marks.{Lacks}
use Rattle.net_types.specs.NameText.{is_name}
use Rattle.net_types.specs.Numbers.{is_numeral, number_at}
use Rattle.net_types.specs.Reads.{Reads}
use Rattle.net_types.proofs.AddressLaws.{net4_reads}
use Rattle.net_types.proofs.HexLaws.{hex_reads}
use Rattle.net_types.proofs.Ip6Laws.{printed_net6_reads}
use Rattle.net_types.proofs.ListLaws.{list_reads}
use Rattle.net_types.proofs.MarkLaws.{decimal_lacks, lacks_from}
use Rattle.net_types.proofs.NumberLaws.{number_reads}
use Rattle.net_types.proofs.ReadsLaws.{guard_passed, mapped, pair_reads, same_range, some_same, word_reads}
use Rattle.world.specs.declared.hooking.Poll.{Poll}
use Rattle.world.specs.declared.hooking.Poll.TheVariants.{Running, Ended}
use Rattle.world.specs.declared.reasons.Reason.{Reason}
use Rattle.world.specs.declared.reasons.Reason.TheVariants.{Preinit, Carrier, NoCarrier, StaticLine, Bound, Reboot, Renew, Rebind, Nak, Expire, Timeout, Ipv4ll, Stop, Stop6, Stopped, Bound6, Reboot6, Renew6, Rebind6, Expire6, Delegated6}
use Rattle.world.specs.FileNames.{IsFileName, is_file_byte}
use Rattle.world.specs.Reasons.{reason_word}
use Rattle.world.specs.RowText.{row_text}
use Rattle.world.specs.Rows.{IsRow}
use Rattle.world.specs.StoreCalls.{Reading, Found, Missing, Unread}
use Rattle.row_texts.specs.RowReading.{either, row_at}
use Rattle.row_texts.proofs.RowLaws.{row_finds}
use Rattle.script_model.specs.Lines.{carrier_text, up_text}
use Rattle.script_model.proofs.SpelledRows.{row_printed}
use Rattle.transcript_text.specs.Fits.{FitsMoment, FitsPoll, FitsReading, IsWord}
use Rattle.transcript_text.specs.FieldForms.{told}
use Rattle.transcript_text.specs.LineFields.{bits_of, carrier_field, count_field, file_field, iface_field, index_field, job_field, lacks, moment_field, names_at, names_field, names_text, net_field, numbers_at, poll_field, printed_net_at, printed_row_at, reading_field, reason_field, reasons, row_field, up_at, up_field, variable_field}
use Rattle.transcript_text.proofs.FormLaws.{bytes_reads, joined, made_sound, one_lacks, one_reads, printed_reads, Sound, told_other, told_sound}
use Rattle.transcript_text.proofs.NetTexts.{nets_apart}
use Rattle.transcript_text.proofs.UpLaws.{up_whole}

-- ---- numbers and names

pub count_reads : Reads count_field.text count_field.Fits count_field.at
count_reads = number_reads (2 ^ 64) (omega arith)

pub count_lacks : (n : ℕ) → n < 2 ^ 64 → Lacks 32 (decimal n)
count_lacks n fits = decimal_lacks n 32 fits refl

pub index_reads : Reads index_field.text index_field.Fits index_field.at
index_reads = number_reads (2 ^ 32) (omega arith)

pub index_lacks : (n : ℕ) → n < 2 ^ 32 → Lacks 32 (decimal n)
index_lacks n fits = decimal_lacks n 32 (omega (arith, fits)) refl

pub file_reads : Reads file_field.text file_field.Fits file_field.at
file_reads = bytes_reads (list_all is_file_byte)

pub file_lacks : (name : List ℕ) → IsFileName name → Lacks 32 name
file_lacks name fits = lacks_from is_file_byte 32 name refl fits

iface_reads : Reads iface_field.text iface_field.Fits iface_field.at
iface_reads = bytes_reads is_name

-- ---- why a hook runs

reason_whole : (reason : Reason) → reason_field.at (reason_word reason) ≡ Some reason
reason_whole Preinit = refl
reason_whole Carrier = refl
reason_whole NoCarrier = refl
reason_whole StaticLine = refl
reason_whole Bound = refl
reason_whole Reboot = refl
reason_whole Renew = refl
reason_whole Rebind = refl
reason_whole Nak = refl
reason_whole Expire = refl
reason_whole Timeout = refl
reason_whole Ipv4ll = refl
reason_whole Stop = refl
reason_whole Stop6 = refl
reason_whole Stopped = refl
reason_whole Bound6 = refl
reason_whole Reboot6 = refl
reason_whole Renew6 = refl
reason_whole Rebind6 = refl
reason_whole Expire6 = refl
reason_whole Delegated6 = refl

reason_reads : Reads reason_field.text reason_field.Fits reason_field.at
reason_reads = one_reads reason_word reasons reason_whole

reason_lacks : (reason : Reason) → Lacks 32 (reason_word reason)
reason_lacks = one_lacks 32 reason_word reasons reason_whole refl

pub job_reads : Reads job_field.text job_field.Fits job_field.at
job_reads =
    same_range job_field.Fits (λ job fits. (fits.0, (tt, fits.1))) (λ job fits. (fits.0, fits.1.1))
    (pair_reads 32 count_reads (pair_reads 32 reason_reads iface_reads (λ reason fits. reason_lacks reason)) count_lacks)

-- ---- whether an interface has carrier, and all that have

carrier_whole : (up : Bool) → carrier_field.at (carrier_text up) ≡ Some up
carrier_whole true = refl
carrier_whole false = refl

pub carrier_reads : Reads carrier_field.text carrier_field.Fits carrier_field.at
carrier_reads = one_reads carrier_text (true ∷ false ∷ []) carrier_whole

pub up_reads : Reads up_field.text up_field.Fits up_field.at
unfolding up_at
up_reads =
    printed_reads up_text IsWord _ (λ text up e. ltb-true up (2 ^ 64) (guard_passed (λ n. ltb n (2 ^ 64)) (option_map bits_of (numbers_at text)) up e).1)
    (λ up fits. rw (up_whole up fits, lt-ltb up (2 ^ 64) fits) refl)

-- ---- names of files

listed_reads : Reads (list_text 32 (λ (name : List ℕ). name)) (FitsList IsFileName) (list_at 32 file_field.at)
listed_reads = list_reads 32 file_reads file_lacks

names_whole : (names : List (List ℕ)) → AllByRecursion IsFileName names → names_at (names_text names) ≡ Some names
unfolding names_at list_text
names_whole [] fits = refl
names_whole (name ∷ names) fits =
    ap (list_at 32 file_field.at) (sym (joined 32 (λ n. n) name names)) ∙ listed_reads.whole (name ∷ names) (record { some = λ e. (cc); each = fits })

after_blank : (rest : List ℕ) (names : List (List ℕ)) → (rest ≡ list_text 32 (λ n. n) names) × FitsList IsFileName names
    → (32 ∷ rest ≡ names_text names) × AllByRecursion IsFileName names
unfolding list_text
after_blank rest [] listed = absurd (listed.1.some refl)
after_blank rest (name ∷ names) listed = (ap (λ text. 32 ∷ text) (listed.0 ∙ joined 32 (λ n. n) name names), listed.1.each)

names_sound : Sound names_text (AllByRecursion IsFileName) names_at
unfolding names_at
names_sound [] names e = subst (λ ns. ([] ≡ names_text ns) × AllByRecursion IsFileName ns) (some_same e) (refl, tt)
names_sound (b ∷ rest) names e =
    elim (eqb b 32) as (λ is. eqb b 32 ≡ is → cond is (list_at 32 file_field.at rest) None ≡ Some names
    → (b ∷ rest ≡ names_text names) × AllByRecursion IsFileName names) [
      | true ↦ λ t q.
          let blank : b ≡ 32 = eqb-true b 32 t in
          rw blank (after_blank rest names (listed_reads.sound rest names q))
      | false ↦ λ t q. let never : ⊥ = cc in absurd never
    ] refl e

pub names_reads : Reads names_field.text names_field.Fits names_field.at
names_reads = record { sound = names_sound; whole = names_whole }

-- ---- a word, or another text

reading_whole : (reading : Reading) → FitsReading reading → reading_field.at (reading_field.text reading) ≡ Some reading
unfolding hex_at hex_byte_at hex_digit_at
reading_whole (Found bytes) fits =
    let found_at = λ (text : List ℕ). option_map Found (hex_at text) in
    told_other (told (codes "failed") Unread found_at) (codes "none") Missing (hex_text bytes) (Found bytes) refl
    (told_other found_at (codes "failed") Unread (hex_text bytes) (Found bytes) refl (ap (option_map Found) (hex_reads.whole bytes fits)))
reading_whole Missing fits = refl
reading_whole Unread fits = refl

pub reading_reads : Reads reading_field.text reading_field.Fits reading_field.at
reading_reads = record {
  sound = told_sound (codes "none") Missing refl tt
      (told_sound (codes "failed") Unread refl tt (made_sound _ _ Found hex_reads (λ bytes. refl) (λ bytes fits. fits)));
  whole = reading_whole;
}

ended_reads : Reads (λ n. codes "ended " ++ decimal n) (λ n. n < 2 ^ 32) (after_word (codes "ended ") (number_at (2 ^ 32)))
ended_reads = word_reads (codes "ended ") index_reads

poll_whole : (answer : Option Poll) → FitsPoll answer → poll_field.at (poll_field.text answer) ≡ Some answer
unfolding strip_word
poll_whole (Some Running) fits = refl
poll_whole (Some (Ended status)) fits =
    let text = codes "ended " ++ decimal status in
    let answer : Option Poll = Some (Ended status) in
    let ended_at = λ (text : List ℕ). option_map (λ n. Some (Ended n)) (after_word (codes "ended ") (number_at (2 ^ 32)) text) in
    told_other (told (codes "failed") None ended_at) (codes "run") (Some Running) text answer refl
    (told_other ended_at (codes "failed") None text answer refl (ap (option_map (λ n. Some (Ended n))) (ended_reads.whole status fits)))
poll_whole None fits = refl

pub poll_reads : Reads poll_field.text poll_field.Fits poll_field.at
poll_reads = record {
  sound = told_sound (codes "run") (Some Running) refl tt
      (told_sound (codes "failed") None refl tt (made_sound _ _ (λ n. Some (Ended n)) ended_reads (λ n. refl) (λ n fits. fits)));
  whole = poll_whole;
}

moment_whole : (moment : Option ℕ) → FitsMoment moment → moment_field.at (moment_field.text moment) ≡ Some moment
unfolding number_at is_numeral
moment_whole (Some at) fits =
    told_other (λ text. option_map Some (number_at (2 ^ 64) text)) (codes "none") None (decimal at) (Some at) refl
    (ap (option_map Some) (count_reads.whole at fits))
moment_whole None fits = refl

pub moment_reads : Reads moment_field.text moment_field.Fits moment_field.at
moment_reads = record {
  sound = told_sound (codes "none") None refl tt (made_sound _ _ Some count_reads (λ n. refl) (λ n fits. fits));
  whole = moment_whole;
}

-- ---- a variable of a hook

name_parts : (name : List ℕ) → (lacks 61 name && lacks 10 name) ≡ true → Lacks 61 name
name_parts name both = (and_parts (lacks 61 name) (lacks 10 name) both).0

pub variable_reads : Reads variable_field.text variable_field.Fits variable_field.at
variable_reads =
    same_range variable_field.Fits (λ p fits. (and_from (lacks 61 p.0) (lacks 10 p.0) fits.parted fits.name_within, fits.value_within))
    (λ p fits.
    let name = and_parts (lacks 61 p.0) (lacks 10 p.0) fits.0 in
    record { parted = name.0; name_within = name.1; value_within = fits.1 })
    (pair_reads 61 (bytes_reads _) (bytes_reads (lacks 10)) name_parts)

-- ---- rows and networks

pub row_reads : Reads row_field.text row_field.Fits row_field.at
unfolding printed_row_at
row_reads =
    printed_reads row_text IsRow row_at (λ text row e. (row_finds.sound text row e).1)
    (λ row fits. row_finds.whole (row_text row) row (row_printed row fits, fits))

net6_not4 : (net : Net6) → FitsNet6 net → (o : Option Net4) → net4_at (net6_text net) ≡ o → o ≡ None
net6_not4 net fits None was = refl
net6_not4 net fits (Some other) was = absurd (nets_apart other net fits (net4_reads.sound (net6_text net) other was).0)

net_whole : (net : Net) → FitsNet net → printed_net_at (net_text net) ≡ Some net
unfolding printed_net_at net_text
net_whole (V4 net) fits = ap (λ o. either (option_map V4 o) (option_map V6 (printed_net6_at (net4_text net)))) (net4_reads.whole net fits)
net_whole (V6 net) fits = rw (net6_not4 net fits (net4_at (net6_text net)) refl, printed_net6_reads.whole net fits) refl

net_read : (text : List ℕ) (net : Net) (o : Option Net4) → net4_at text ≡ o → either (option_map V4 o) (option_map V6 (printed_net6_at text)) ≡ Some net
    → (text ≡ net_text net) × FitsNet net
unfolding net_text
net_read text net (Some four) was e = subst (λ n. (text ≡ net_text n) × FitsNet n) (some_same e) (net4_reads.sound text four was)
net_read text net None was e =
    let m = mapped V6 (printed_net6_at text) net e in
    subst (λ n. (text ≡ net_text n) × FitsNet n) m.gives (printed_net6_reads.sound text m.value m.was)

net_sound : Sound net_text FitsNet printed_net_at
unfolding printed_net_at
net_sound text net e = net_read text net (net4_at text) refl e

pub net_reads : Reads net_field.text net_field.Fits net_field.at
net_reads = record { sound = net_sound; whole = net_whole }
