-- The line `file`: what is read is spelled so, and what is spelled so is read. Which names are unlike.
use Rattle.std.proofs.Common.{◌≡◌, ℕ, zero, suc, ◌<◌, Bool, true, false, cond, leb, List, [], ◌∷◌, ◌++◌, length, map, get_or, Some, refl, sym, ap, ◌∙◌, arith, codes, bytes_eq, IsTrue}
use Rattle.std.specs.Prelude.{◌||◌, String}
use Rattle.std.specs.Global.{Global}
use Rattle.std.proofs.lemmas.List.{map_push}
use Rattle.std.proofs.lemmas.List.Folds.{list_any-append}
use Rattle.std.specs.Cmp.{IsEquivalence}
use Rattle.std.specs.List.{AllByRecursion, list_all, list_any}
use Rattle.std.specs.Set.{is_member}
use Rattle.std.specs.Str.{IsUtf8}
use Rattle.std.specs.String.{string_bytes}
use Rattle.std.proofs.lemmas.Bool.Decides.{nat_tests}
use Rattle.std.proofs.lemmas.Bool.{and_parts, and_from, leb-true, le-leb}
use Rattle.std.proofs.lemmas.Cmp.{eq_by_cmp_equiv, nat_list_cmp_total}
use Rattle.std.proofs.lemmas.List.{append_assoc}
use Rattle.std.proofs.lemmas.Map.Text.{is_eq-slice_cmp}
use Rattle.std.proofs.lemmas.Slice.Eq.{bytes_eq-Decides}
use Rattle.std.proofs.lemmas.Str.{IsUtf8-from_ascii}
use Rattle.net_types.specs.Reads.{Reads}
use Rattle.net_types.specs.Marks.{Lacks, AreBytes, IsPrintable, is_printable}
use Rattle.net_types.specs.HexText.{hex_text}
use Rattle.net_types.proofs.ReadsLaws.{some_same, pair_reads, map_reads, guard_reads}
use Rattle.net_types.proofs.HexLaws.{hex_reads}
use Rattle.net_types.proofs.MarkLaws.{lacks_from, hex_printable, only_weaker}
use Rattle.world.specs.FileNames.{is_file_byte, IsFileName, is_name}
use Rattle.world.specs.FileLists.{StoreFile, file_name}
use Rattle.script_model.specs.FirstFiles.{file_text, FitsFile, UnlikeNames}
use Rattle.script_lines.specs.FileReading.{is_file_name, file_name_at, file_at}
use Rattle.script_lines.specs.ScriptContent.{file_of}
use Rattle.script_lines.specs.declared.script.FileLine.{FileLine}
use Rattle.script_lines.proofs.Printables.{joined_printable}
use Rattle.script_lines.specs.KindTests.{AreNames}

-- ---- one file

abbrev as_written : List ℕ → List ℕ
as_written text = text

abbrev IsName : List ℕ → Type 0
IsName text = Unit {0} × IsTrue (is_file_name text)

any_reads : Reads as_written (λ text. Unit {0}) Some
any_reads = record { sound = λ text x e. (some_same e, tt); whole = λ x fits. refl }

name_reads : Reads as_written IsName file_name_at
unfolding file_name_at
name_reads = guard_reads is_file_name any_reads

name_lacks : (byte : ℕ) (name : List ℕ) → is_file_byte byte ≡ false → IsFileName name → Lacks byte name
name_lacks byte name other is = lacks_from is_file_byte byte name other is

name_bytes : (name : List ℕ) → IsName name → IsFileName name
name_bytes name is = (and_parts (leb (length name) 64) _ (and_parts (leb 1 (length name)) _ is.1).1).1

abbrev Parts : Type 0
Parts = List ℕ × List ℕ

abbrev pub file_words : StoreFile → List ℕ
file_words file = file.name ++ 32 ∷ hex_text file.bytes

parts_fit : (p : Parts) → IsName p.0 × AreBytes p.1 → FitsFile (record { name = p.0; bytes = p.1 })
parts_fit p fits =
    let some = and_parts (leb 1 (length p.0)) _ fits.0.1 in
    let short = and_parts (leb (length p.0) 64) _ some.1 in
    record { name = short.1; some = leb-true _ _ some.0; short = leb-true _ _ short.0; octets = fits.1 }

fit_parts : (file : StoreFile) → FitsFile file → IsName file.name × AreBytes file.bytes
fit_parts file fits = ((tt, and_from _ _ (le-leb _ _ fits.some) (and_from _ _ (le-leb _ _ fits.short) fits.name)), fits.octets)

pub file_reads : Reads file_words FitsFile file_at
unfolding file_at
file_reads =
    map_reads (λ (p : Parts). record { name = p.0; bytes = p.1 }) (λ file. (file.name, file.bytes))
    (pair_reads 32 name_reads hex_reads (λ name fits. name_lacks 32 name refl (name_bytes name fits)))
    (λ p fits. refl)
    (λ file fits. refl)
    parts_fit
    fit_parts

pub file_spelled : (file : StoreFile) → file_text file ≡ codes "file " ++ file_words file
file_spelled file = simp append_assoc

name_byte : (b : ℕ) → is_file_byte b ≡ true → is_printable b ≡ true
name_byte b h = grind (arith, nat_tests)

pub file_printable : (file : StoreFile) → FitsFile file → IsPrintable (file_words file)
file_printable file fits =
    joined_printable file.name (hex_text file.bytes) (only_weaker is_file_byte is_printable file.name name_byte fits.name)
    (hex_printable file.bytes fits.octets)

-- a name is text

byte_ascii : (b : ℕ) → is_file_byte b ≡ true → b < 128
byte_ascii b e = grind arith

bytes_ascii : (name : List ℕ) → list_all is_file_byte name ≡ true → (i : ℕ) → get_or name i 0 < 128
bytes_ascii [] e i = omega arith
bytes_ascii (b ∷ name) e zero = byte_ascii b (and_parts (is_file_byte b) _ e).0
bytes_ascii (b ∷ name) e (suc i) = bytes_ascii name (and_parts (is_file_byte b) _ e).1 i

pub name_utf8 : (name : List ℕ) → is_file_name name ≡ true → IsUtf8 name
name_utf8 name is = IsUtf8-from_ascii name (bytes_ascii name (name_bytes name (tt, is)))

-- ---- unlike names

names_equal : IsEquivalence is_name
names_equal = eq_by_cmp_equiv nat_list_cmp_total

abbrev are_apart : List ℕ → List ℕ → Type 0
are_apart a b = is_name a b ≡ false

apart_sound : (a b : List ℕ) → are_apart a b → a ≡ b → ⊥
apart_sound a b apart same =
    let equal : is_name a b ≡ true = is_eq-slice_cmp a b ∙ (bytes_eq-Decides a b).1 same in
    let never : true ≡ false = sym equal ∙ apart in cc

apart_whole : (a b : List ℕ) → (a ≡ b → ⊥) → are_apart a b
apart_whole a b unlike =
    elim (bytes_eq a b) as (λ t. bytes_eq a b ≡ t → are_apart a b) [
      | true ↦ λ t. absurd (unlike ((bytes_eq-Decides a b).0 t))
      | false ↦ λ t. is_eq-slice_cmp a b ∙ t
    ] refl

-- ---- the set of names

abbrev has_name : List (String Global) → List ℕ → Bool
has_name keys q = list_any (λ key. is_name q (string_bytes key)) keys

either : (same held : Bool) → cond same true held ≡ (held || (same || false))
either true true = refl
either true false = refl
either false true = refl
either false false = refl

more_names : (files more : List FileLine) (file : FileLine) → more ≡ files ++ file ∷ []
    → map file_name (map file_of more) ≡ map file_name (map file_of files) ++ string_bytes file.name ∷ []
more_names files more file e =
    ap (λ fs. map file_name (map file_of fs)) e ∙ ap (map file_name) (map_push file_of files file) ∙ map_push file_name (map file_of files) (file_of file)

pub names_more : (old new : List (String Global)) (key : String Global) (files more : List FileLine) (file : FileLine)
    → string_bytes key ≡ string_bytes file.name → more ≡ files ++ file ∷ []
    → ((q : String Global) → has_name new (string_bytes q) ≡ cond (is_name (string_bytes key) (string_bytes q)) true (has_name old (string_bytes q)))
    → AreNames old (map file_of files) → AreNames new (map file_of more)
names_more old new key files more file named grown updates are = λ q.
    let names = map file_name (map file_of files) in
    let same : is_name (string_bytes key) (string_bytes q) ≡ is_name (string_bytes q) (string_bytes file.name) =
    names_equal.symm (string_bytes key) (string_bytes q) ∙ ap (is_name (string_bytes q)) named in
    updates q
    ∙ ap (λ b. cond b true (has_name old (string_bytes q))) same
    ∙ either (is_name (string_bytes q) (string_bytes file.name)) (has_name old (string_bytes q))
    ∙ ap (λ b. b || (is_name (string_bytes q) (string_bytes file.name) || false)) (are q)
    ∙ sym (list_any-append (is_name (string_bytes q)) names (string_bytes file.name ∷ []))
    ∙ ap (λ ns. is_member is_name ns (string_bytes q)) (sym (more_names files more file grown))

or_parts : (a b : Bool) → (a || b) ≡ false → (a ≡ false) × (b ≡ false)
or_parts false false e = (refl, refl)
or_parts false true e = cc
or_parts true b e = cc

-- a file whose name none has
pub new_unlike : (files : List StoreFile) (file : StoreFile) → is_member is_name (map file_name files) file.name ≡ false
    → AllByRecursion (λ other. UnlikeNames other file) files
new_unlike [] file e = tt
new_unlike (other ∷ files) file e =
    let parts = or_parts (is_name file.name other.name) (is_member is_name (map file_name files) file.name) e in
    (λ same. apart_sound file.name other.name parts.0 (sym same), new_unlike files file parts.1)

pub unlike_new : (files : List StoreFile) (file : StoreFile) → AllByRecursion (λ other. UnlikeNames other file) files
    → is_member is_name (map file_name files) file.name ≡ false
unlike_new [] file unlike = refl
unlike_new (other ∷ files) file unlike =
    ap (λ b. b || is_member is_name (map file_name files) file.name) (apart_whole file.name other.name (λ same. unlike.0 (sym same)))
    ∙ unlike_new files file unlike.1
