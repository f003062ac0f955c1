-- Rows, files and what undoes them stay within their bounds where some come, some go, and all are put in order.
use Rattle.std.proofs.Common.{◌≡◌, ℕ, Bool, true, false, List, [], ◌∷◌, map, reverse, Option, Some, None, refl, sym, subst, ◌∙◌, arith}
use Rattle.std.specs.Prelude.{codes, filter, IfSome}
use Rattle.std.specs.List.{AllByRecursion, list_all}
use Rattle.std.specs.declared.cmp.Ordering.{Ordering}
use Rattle.std.specs.declared.cmp.Ordering.TheVariants.{Less, Equal, Greater}
use Rattle.std.specs.Ordering.{match_ordering}
use Rattle.std.specs.BTreeMap.{is_at}
use Rattle.std.proofs.lemmas.Bool.{and_from}
use Rattle.std.proofs.lemmas.List.{length-append, reverse-append}
use Rattle.std.proofs.lemmas.List.Elements.{All-from_recursion, recursion_from_All}
use Rattle.std.proofs.lemmas.List.Folds.{list_all-append}
use Rattle.std.proofs.lemmas.Map.Views.{All-insert_key, All-remove_key}
use Rattle.net_types.specs.Marks.{AreBytes}
use Rattle.net_types.proofs.AllLaws.{all_join}
use Rattle.net_types.proofs.CaseLaws.{gated}
use Rattle.net_types.proofs.HexLaws.{no_bytes}
use Rattle.world.specs.declared.rows.HostRow.{HostRow}
use Rattle.world.specs.FileLists.{StoreFile, asides, drop_file, file_at, file_name, is_aside, put_file, rename_file}
use Rattle.world.specs.FileNames.{aside_of, is_file_byte, is_name, name_cmp}
use Rattle.world.specs.NamedLists.{drop_named, named, put_named}
use Rattle.world.specs.RowOrder.{put_in_order, row_cmp, rows_beyond, with_row, without_row}
use Rattle.world.specs.Rows.{IsRow}
use Rattle.world.specs.StoreCalls.{StoreCall, ListedAsides, ReadFile, WroteAside, SyncedAside, RenamedAside, RemovedFile, SettledFiles, undo_after}
use Rattle.world.specs.Undoing.{Undo, Empties, Restores, UndoneFile, content_of, is_emptied, put_undo, restoring, set_file, undo_renamed, undo_synced, undone, undone_at, undone_name}
use Rattle.host_model.specs.declared.changes.HostChange.{HostChange}
use Rattle.host_model.specs.declared.changes.HostChange.TheVariants.{Remove, Add}
use Rattle.host_model.specs.HostTurn.{applied, changes}
use Rattle.told_lives.specs.FittingWorlds.{IsStored, IsStoredName, IsUndone}

-- ---- lists

pub filtered : {A : Type 0} (P : A → Type 0) (keeps : A → Bool) (xs : List A) → AllByRecursion P xs → AllByRecursion P (filter keeps xs)
filtered P keeps [] all = tt
filtered P keeps (x ∷ xs) all =
    gated (AllByRecursion P) (keeps x) (x ∷ filter keeps xs) (filter keeps xs) (all.0, filtered P keeps xs all.1) (filtered P keeps xs all.1)

pub each_of : {A B : Type 0} (P : A → Type 0) (R : B → Type 0) (f : A → B) → ((x : A) → P x → R (f x)) → (xs : List A) → AllByRecursion P xs
    → AllByRecursion R (map f xs)
each_of P R f step [] all = tt
each_of P R f step (x ∷ xs) all = (step x all.0, each_of P R f step xs all.1)

pub reversed : {A : Type 0} (P : A → Type 0) (xs : List A) → AllByRecursion P xs → AllByRecursion P (reverse xs)
reversed P [] all = tt
reversed P (x ∷ xs) all =
    subst (AllByRecursion P) (sym (reverse-append (x ∷ []) xs)) (all_join P (reverse xs) (x ∷ []) (reversed P xs all.1) (all.0, tt))

-- ---- rows

abbrev pub AreRows : List HostRow → Type 0
AreRows rows = AllByRecursion IsRow rows

with_fits : (row : HostRow) (rows : List HostRow) → IsRow row → AreRows rows → AreRows (with_row row rows)
with_fits row rows is are =
    recursion_from_All IsRow (with_row row rows) (All-insert_key row_cmp row IsRow rows (All-from_recursion IsRow rows are) is)

without_fits : (row : HostRow) (rows : List HostRow) → AreRows rows → AreRows (without_row row rows)
without_fits row rows are =
    recursion_from_All IsRow (without_row row rows) (All-remove_key (is_at (row_cmp row)) IsRow rows (All-from_recursion IsRow rows are))

-- put in row order
pub order_fits : (sorted rows : List HostRow) → AreRows sorted → AreRows rows → AreRows (put_in_order sorted rows)
order_fits sorted [] before are = before
order_fits sorted (row ∷ rows) before are = order_fits (with_row row sorted) rows (with_fits row sorted are.0 before) are.1

-- a change of a row
abbrev pub FitsChange : HostChange → Type 0
FitsChange (Remove row) = IsRow row
FitsChange (Add row) = IsRow row

pub applied_fits : (change : HostChange) (rows : List HostRow) → FitsChange change → AreRows rows → AreRows (applied change rows)
applied_fits (Remove row) rows fits are = without_fits row rows are
applied_fits (Add row) rows fits are = with_fits row rows fits are

-- a row that is removed is one of a host
abbrev pub IsHeld : HostChange → Type 0
IsHeld (Remove row) = IsRow row
IsHeld (Add row) = Unit {0}

added_held : (rows : List HostRow) → AllByRecursion IsHeld (map Add rows)
added_held [] = tt
added_held (row ∷ rows) = (tt, added_held rows)

pub changes_held : (known wanted : List HostRow) → AreRows known → AllByRecursion IsHeld (changes known wanted)
changes_held known wanted are =
    let gone : List HostRow = rows_beyond wanted known in
    let more : List HostRow = rows_beyond known wanted in
    all_join IsHeld (map Remove (reverse gone)) (map Add more)
    (each_of IsRow IsHeld Remove (λ row is. is) (reverse gone) (reversed IsRow gone (filtered IsRow _ known are))) (added_held more)

-- ---- things with names

module _ {A : Type 0} (P : A → Type 0) (name_of : A → List ℕ) where
  put_by : (order : Ordering) (x y : A) (ys more : List A) → P x → P y → AllByRecursion P ys → AllByRecursion P more
      → AllByRecursion P (match_ordering order (x ∷ y ∷ ys) (x ∷ ys) (y ∷ more))
  put_by Less x y ys more one other all later = (one, (other, all))
  put_by Equal x y ys more one other all later = (one, all)
  put_by Greater x y ys more one other all later = (other, later)

  put_all : (x : A) (ys : List A) → P x → AllByRecursion P ys → AllByRecursion P (put_named name_of x ys)
  put_all x [] one all = (one, tt)
  put_all x (y ∷ ys) one all = put_by (name_cmp (name_of x) (name_of y)) x y ys (put_named name_of x ys) one all.0 all.1 (put_all x ys one all.1)

  drop_all : (name : List ℕ) (xs : List A) → AllByRecursion P xs → AllByRecursion P (drop_named name_of name xs)
  drop_all name [] all = tt
  drop_all name (x ∷ xs) all =
      gated (AllByRecursion P) (is_name name (name_of x)) xs (x ∷ drop_named name_of name xs) all.1 (all.0, drop_all name xs all.1)

  -- what stands under a name
  found_in : {B : Type 0} (R : B → Type 0) (has : A → B) (none : B) → ((x : A) → P x → R (has x)) → R none → (name : List ℕ) (xs : List A) → AllByRecursion P xs
      → R (named name_of has none name xs)
  found_in R has none each other name [] all = other
  found_in R has none each other name (x ∷ xs) all =
      gated R (is_name name (name_of x)) (has x) (named name_of has none name xs) (each x all.0) (found_in R has none each other name xs all.1)

-- ---- files

abbrev pub AreStored : List StoreFile → Type 0
AreStored files = AllByRecursion IsStored files

abbrev pub AreUndone : List UndoneFile → Type 0
AreUndone undo = AllByRecursion IsUndone undo

abbrev pub HasOctets : Option (List ℕ) → Type 0
HasOctets content = IfSome content AreBytes

aside_bytes : (name : List ℕ) → list_all is_file_byte name ≡ true → list_all is_file_byte (aside_of name) ≡ true
aside_bytes name all = list_all-append is_file_byte name (codes ".new") ∙ and_from _ _ all refl

pub aside_named : (name : List ℕ) → IsStoredName name → IsStoredName (aside_of name)
aside_named name is =
    let more = length-append name (codes ".new") in
    let least = is.some in
    record { bytes = aside_bytes name is.bytes; some = omega (arith, more, least) }

pub file_octets : (name : List ℕ) (files : List StoreFile) → AreStored files → HasOctets (file_at name files)
file_octets name files stored = found_in IsStored file_name HasOctets (λ file. Some file.bytes) None (λ file is. is.octets) tt name files stored

pub put_stored : (name bytes : List ℕ) (files : List StoreFile) → IsStoredName name → AreBytes bytes → AreStored files
    → AreStored (put_file (record { name = name; bytes = bytes }) files)
put_stored name bytes files named octets stored =
    put_all IsStored file_name (record { name = name; bytes = bytes }) files (record { name = named; octets = octets }) stored

pub drop_stored : (name : List ℕ) (files : List StoreFile) → AreStored files → AreStored (drop_file name files)
drop_stored name files stored = drop_all IsStored file_name name files stored

pub rename_stored : (name : List ℕ) (aside : Option (List ℕ)) (files : List StoreFile) → IsStoredName name → HasOctets aside → AreStored files
    → AreStored (rename_file name aside files)
rename_stored name None files named octets stored = stored
rename_stored name (Some bytes) files named octets stored =
    drop_stored (aside_of name) (put_file (record { name = name; bytes = bytes }) files) (put_stored name bytes files named octets stored)

pub asides_named : (files : List StoreFile) → AreStored files → AllByRecursion IsStoredName (asides files)
asides_named files stored =
    filtered IsStoredName is_aside (map file_name files) (each_of IsStored IsStoredName file_name (λ file is. is.name) files stored)

-- ---- what a crash may bring back

undone_octets : (name : List ℕ) (reads : Option (List ℕ)) (undo : List UndoneFile) → HasOctets reads → AreUndone undo → HasOctets (undone_at name reads undo)
undone_octets name reads undo octets are =
    found_in IsUndone undone_name HasOctets (λ file. content_of file.undo) reads (λ file is. is.octets) octets name undo are

put_undone : (name : List ℕ) (how : Undo) (undo : List UndoneFile) → IsStoredName name → HasOctets (content_of how) → AreUndone undo
    → AreUndone (put_undo name how undo)
put_undone name how undo named octets are =
    put_all IsUndone undone_name (record { name = name; undo = how }) undo (record { name = named; octets = octets }) are

restoring_fits : (name : List ℕ) (reads : Option (List ℕ)) (undo : List UndoneFile) → IsStoredName name → HasOctets reads → AreUndone undo
    → AreUndone (restoring name reads undo)
restoring_fits name reads undo named octets are =
    put_undone name (Restores (undone_at name reads undo)) undo named (undone_octets name reads undo octets are) are

synced_fits : (aside : List ℕ) (found : Option (List ℕ)) (undo : List UndoneFile) → AreUndone undo → AreUndone (undo_synced aside found undo)
synced_fits aside None undo are = are
synced_fits aside (Some bytes) undo are = drop_all IsUndone undone_name aside undo are

renamed_fits : (name : List ℕ) (reads aside : Option (List ℕ)) (undo : List UndoneFile) → IsStoredName name → HasOctets reads → HasOctets aside
    → AreUndone undo → AreUndone (undo_renamed name reads aside undo)
renamed_fits name reads None undo named octets found are = are
renamed_fits name reads (Some bytes) undo named octets found are =
    restoring_fits (aside_of name) (Some bytes) (restoring name reads undo) (aside_named name named) found (restoring_fits name reads undo named octets are)

-- the names of a call
abbrev pub NamesFit : StoreCall → Type 0
NamesFit (ListedAsides names) = Unit {0}
NamesFit (ReadFile name reading) = Unit {0}
NamesFit (WroteAside name bytes done) = IsStoredName name
NamesFit (SyncedAside name done) = IsStoredName name
NamesFit (RenamedAside name done) = IsStoredName name
NamesFit (RemovedFile name done) = IsStoredName name
NamesFit (SettledFiles done) = Unit {0}

pub undo_fits : (call : StoreCall) (files : List StoreFile) (undo : List UndoneFile) → NamesFit call → AreStored files → AreUndone undo
    → AreUndone (undo_after call files undo)
undo_fits (ListedAsides names) files undo named stored are = are
undo_fits (ReadFile name reading) files undo named stored are = are
undo_fits (WroteAside name bytes true) files undo named stored are = put_undone (aside_of name) Empties undo (aside_named name named) no_bytes are
undo_fits (WroteAside name bytes false) files undo named stored are = are
undo_fits (SyncedAside name true) files undo named stored are = synced_fits (aside_of name) (file_at (aside_of name) files) undo are
undo_fits (SyncedAside name false) files undo named stored are = are
undo_fits (RenamedAside name true) files undo named stored are =
    renamed_fits name (file_at name files) (file_at (aside_of name) files) undo named (file_octets name files stored)
    (file_octets (aside_of name) files stored) are
undo_fits (RenamedAside name false) files undo named stored are = are
undo_fits (RemovedFile name true) files undo named stored are = restoring_fits name (file_at name files) undo named (file_octets name files stored) are
undo_fits (RemovedFile name false) files undo named stored are = are
undo_fits (SettledFiles true) files undo named stored are = filtered IsUndone (λ file. is_emptied file.undo) undo are
undo_fits (SettledFiles false) files undo named stored are = are

set_fits : (name : List ℕ) (content : Option (List ℕ)) (files : List StoreFile) → IsStoredName name → HasOctets content → AreStored files
    → AreStored (set_file name content files)
set_fits name None files named octets stored = drop_stored name files stored
set_fits name (Some bytes) files named octets stored = put_stored name bytes files named octets stored

-- the files of a store of which all that isn't settled was undone
pub undone_stored : (undo : List UndoneFile) (files : List StoreFile) → AreUndone undo → AreStored files → AreStored (undone undo files)
undone_stored [] files are stored = stored
undone_stored (file ∷ undo) files are stored =
    set_fits file.name (content_of file.undo) (undone undo files) are.0.name are.0.octets (undone_stored undo files are.1 stored)
