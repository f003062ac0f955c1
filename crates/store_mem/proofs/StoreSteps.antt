-- Files in byte order of their names.
use Rattle.std.proofs.Common.{◌≡◌, ℕ, suc, ◌+◌, ◌<◌, Bool, true, false, cond, List, [], ◌∷◌, ◌++◌, All, map, length, get_or, drop, add-one, drop-cons, refl, sym, ap, ◌∙◌}
use Rattle.std.specs.declared.cmp.Ordering.{Ordering}
use Rattle.std.specs.declared.cmp.Ordering.TheVariants.{Less, Equal, Greater}
use Rattle.std.specs.Ordering.{match_ordering}
use Rattle.std.proofs.lemmas.List.Elements.{All-cons, All-head, All-tail, All-nil, All-map, All-filter}
use Rattle.std.proofs.lemmas.List.Folds.{list_all-append}
use Rattle.world.specs.FileNames.{IsFileName, aside_of}
use Rattle.world.specs.FileNames.{name_cmp, is_name}
use Rattle.world.specs.FileLists.{StoreFile, put_file, drop_file, rename_file, file_at, is_aside, asides}
use Rattle.store_mem.specs.declared.stores.MemFile.{MemFile}
use Rattle.std.specs.Prelude.{String, Option, Some, None, is_some, filter}
use Rattle.std.specs.Global.{Global, Vec}
use Rattle.std.specs.String.{string_bytes}
use Rattle.std.specs.Map.{keys_of}
use Rattle.std.proofs.lemmas.List.Sums.{fold-append}
use Rattle.std.proofs.Common.{append_assoc, append-nil, length-append, take}
use Rattle.std.proofs.Math.Seq.{take-append_seam}
use Rattle.std.proofs.lemmas.List.{map-append}
use Rattle.world.specs.StoreCalls.{StoreTold, StoreCall, WroteAside, RenamedAside, RemovedFile, store_answered, ListedAsides}
use Rattle.store_mem.specs.declared.stores.StoreEntry.{StoreEntry}
use Rattle.store_mem.specs.declared.stores.StoreEntry.TheVariants.{List as Lists, Write, Rename, Remove}
use Rattle.store_mem.specs.StoreRecord.{file_of, put_files, in_name_order, entry_file, store_step, store_start, told_after, HoldsFiles}

pub All-put_file : (P : StoreFile → Type 0) (file : StoreFile) (files : List StoreFile) → All P files → P file → All P (put_file file files)
All-put_file P file [] a p = All-cons P file [] p (All-nil P)
All-put_file P file (f ∷ files) a p = by (name_cmp file.name f.name) (All-put_file P file files (All-tail P _ _ a) p)
  where
    by : (r : Ordering) → All P (put_file file files) → All P (match_ordering r (file ∷ f ∷ files) (file ∷ files) (f ∷ put_file file files))
    by Less h = All-cons P file (f ∷ files) p a
    by Equal h = All-cons P file files p (All-tail P _ _ a)
    by Greater h = All-cons P f (put_file file files) (All-head P _ _ a) h

pub All-drop_file : (P : StoreFile → Type 0) (name : List ℕ) (files : List StoreFile) → All P files → All P (drop_file name files)
All-drop_file P name [] a = a
All-drop_file P name (f ∷ files) a = by (is_name name f.name) (All-drop_file P name files (All-tail P _ _ a))
  where
    by : (b : Bool) → All P (drop_file name files) → All P (cond b files (f ∷ drop_file name files))
    by true h = All-tail P _ _ a
    by false h = All-cons P f (drop_file name files) (All-head P _ _ a) h

-- the aside of a file has a name of a file
pub aside_named : (name : List ℕ) → IsFileName name → IsFileName (aside_of name)
aside_named name h = rw list_all-append (rw h refl)

abbrev IsNamed : StoreFile → Type 0
IsNamed file = IsFileName file.name

-- one more file put in order
pub put_more : (item : MemFile) (xs : List MemFile) (sorted sorted' : List StoreFile) (i : ℕ) → item ≡ get_or xs i item → i < length xs
    → sorted' ≡ put_file (file_of item) sorted → put_files sorted (map file_of (drop i xs)) ≡ in_name_order (map file_of xs)
    → put_files sorted' (map file_of (drop (i + 1) xs)) ≡ in_name_order (map file_of xs)
put_more item xs sorted sorted' i is lt k inv =
    let step : put_files (put_file (file_of (get_or xs i item)) sorted) (map file_of (drop (suc i) xs)) ≡ in_name_order (map file_of xs) =
    sym (ap (λ ys. put_files sorted (map file_of ys)) (drop-cons xs i item lt)) ∙ inv in
    rw (k, add-one) (ap (λ x. put_files (put_file (file_of x) sorted) (map file_of (drop (suc i) xs))) is ∙ step)

pub named_more : (item : MemFile) (sorted sorted' : List StoreFile) → sorted' ≡ put_file (file_of item) sorted → IsFileName (string_bytes item.name)
    → All IsNamed sorted → All IsNamed sorted'
named_more item sorted sorted' k is inv = rw k (All-put_file IsNamed (file_of item) sorted inv is)

pub named_at : (files xs : List MemFile) (item : MemFile) (i : ℕ) → i < length xs → item ≡ get_or xs i item → xs ≡ files
    → All (λ (file : MemFile). IsFileName (string_bytes file.name)) files → IsFileName (string_bytes item.name)
named_at files xs item i lt is e all =
    let far : i < length files = rw e at lt in let same : get_or files i item ≡ item = ap (λ ys. get_or ys i item) (sym e)
    ∙ sym is in rw same at (all i item far)

module _ (first : List MemFile) (held held' : List (String Global × Vec ℕ)) (entries between after : List StoreEntry) (answered number : ℕ)
    (e : between ≡ entries) (next : number ≡ answered + 1) (h : HoldsFiles (told_after first entries) held answered) where
  after_change : (entry : StoreEntry) (call : StoreCall) (files : List StoreFile)
      → store_step (told_after first entries) entry ≡ store_answered call files (told_after first entries) → after ≡ between ++ entry ∷ []
      → files ≡ map entry_file held' → All IsNamed files → HoldsFiles (told_after first after) held' number
  after_change entry call files step f is named =
      rw (f, e, fold-append store_step (store_start first) entries (entry ∷ []), step)
      (record { files = is; names = named; counted = length-append (told_after first entries).calls (call ∷ []) ∙ ap (λ n. n + 1) h.counted ∙ sym next })

  pub after_remove : (copy : List ℕ) (name : List ℕ) → after ≡ between ++ Remove copy true ∷ [] → copy ≡ name
      → map entry_file held' ≡ drop_file name (map entry_file held) → HoldsFiles (told_after first after) held' number
  after_remove copy name f n k =
      after_change (Remove copy true) (RemovedFile copy true) (drop_file copy (told_after first entries).files) refl f
      (ap (λ m. drop_file m (told_after first entries).files) n ∙ ap (drop_file name) h.files ∙ sym k)
      (All-drop_file IsNamed copy (told_after first entries).files h.names)

  pub after_write : (copy : List ℕ) (aside : String Global) (written content : Vec ℕ) (name bytes : List ℕ) → after ≡ between ++ Write copy written true ∷ []
      → copy ≡ name → written.items ≡ bytes → string_bytes aside ≡ aside_of name → content.items ≡ bytes → IsFileName name
      → map entry_file held' ≡ put_file (record { name = string_bytes aside; bytes = content.items }) (map entry_file held)
      → HoldsFiles (told_after first after) held' number
  after_write copy aside written content name bytes f n w a b is k =
      let file : StoreFile = record { name = aside_of copy; bytes = written.items } in
      let same : file ≡ record { name = string_bytes aside; bytes = content.items } = λ i. record { name = (ap aside_of n ∙ sym a) i; bytes = (w ∙ sym b) i } in
      after_change (Write copy written true) (WroteAside copy written.items true) (put_file file (told_after first entries).files) refl f
      (ap (λ g. put_file g (told_after first entries).files) same ∙ ap (put_file (record { name = string_bytes aside; bytes = content.items })) h.files ∙ sym k)
      (All-put_file IsNamed file (told_after first entries).files h.names (let named : IsFileName copy = rw n is in aside_named copy named))

  rename_named : (name : List ℕ) (o : Option (List ℕ)) (files : List StoreFile) → IsFileName name → All IsNamed files → All IsNamed (rename_file name o files)
  rename_named name None files is a = a
  rename_named name (Some bytes) files is a =
      All-drop_file IsNamed (aside_of name) (put_file (record { name = name; bytes = bytes }) files)
      (All-put_file IsNamed (record { name = name; bytes = bytes }) files a is)

  pub after_rename : (copy : List ℕ) (name : List ℕ) → after ≡ between ++ Rename copy true ∷ [] → copy ≡ name → IsFileName name
      → map entry_file held' ≡ rename_file name (file_at (aside_of name) (map entry_file held)) (map entry_file held)
      → HoldsFiles (told_after first after) held' number
  after_rename copy name f n is k =
      let now = (told_after first entries).files in
      after_change (Rename copy true) (RenamedAside copy true)
      (rename_file copy (file_at (aside_of copy) (told_after first entries).files) (told_after first entries).files) refl f
      (ap (λ m. rename_file m (file_at (aside_of m) (told_after first entries).files) (told_after first entries).files) n
      ∙ ap (λ files. rename_file name (file_at (aside_of name) files) files) h.files ∙ sym k)
      (let named : IsFileName copy = rw n is in rename_named copy (file_at (aside_of copy) (told_after first entries).files)
      (told_after first entries).files named h.names)

  unmoved : (name : List ℕ) (o : Option (List ℕ)) (files : List StoreFile) → is_some o ≡ false → rename_file name o files ≡ files
  unmoved name None files e = refl
  unmoved name (Some bytes) files e = cc

  pub after_missing : (copy : List ℕ) (name : List ℕ) → after ≡ between ++ Rename copy false ∷ [] → (o : Option (List ℕ)) → is_some o ≡ false
      → map entry_file held' ≡ rename_file name o (map entry_file held) → HoldsFiles (told_after first after) held' number
  after_missing copy name f o gone k =
      after_change (Rename copy false) (RenamedAside copy false) (told_after first entries).files refl f
      (h.files ∙ sym (k ∙ unmoved name o (map entry_file held) gone)) h.names

-- the asides found so far, of those that come before the rest
pub record FoundAsides (old new : List (String Global)) (all rest : List (List ℕ)) : Type 0 where
  pub more : List (String Global)
  pub appended : new ≡ old ++ more
  pub found : map string_bytes more ++ filter is_aside rest ≡ filter is_aside all

pub none_found : (old : List (String Global)) (all : List (List ℕ)) → FoundAsides old old all all
none_found old all = record { more = []; appended = sym (append-nil old); found = refl }

cond_true : (b : Bool) (xs ys : List (List ℕ)) → b ≡ true → cond b xs ys ≡ xs
cond_true b xs ys e = ap (λ c. cond c xs ys) e

cond_false : (b : Bool) (xs ys : List (List ℕ)) → b ≡ false → cond b xs ys ≡ ys
cond_false b xs ys e = ap (λ c. cond c xs ys) e

pub not_found : (old new : List (String Global)) (all rest rest' : List (List ℕ)) (name : List ℕ) → rest ≡ name ∷ rest' → is_aside name ≡ false
    → FoundAsides old new all rest → FoundAsides old new all rest'
not_found old new all rest rest' name e lacks h = record {
  more = h.more;
  appended = h.appended;
  found =
      ap (λ xs. map string_bytes h.more ++ xs)
      (sym (ap (filter is_aside) e ∙ cond_false (is_aside name) (name ∷ filter is_aside rest') (filter is_aside rest') lacks))
      ∙ h.found;
}

pub one_found : (old new new' : List (String Global)) (copy : String Global) (all rest rest' : List (List ℕ)) (name : List ℕ) → rest ≡ name ∷ rest'
    → is_aside name ≡ true → new' ≡ new ++ copy ∷ [] → string_bytes copy ≡ name → FoundAsides old new all rest → FoundAsides old new' all rest'
one_found old new new' copy all rest rest' name e has n c h = record {
  more = h.more ++ copy ∷ [];
  appended = n ∙ ap (λ xs. xs ++ copy ∷ []) h.appended ∙ append_assoc old h.more (copy ∷ []);
  found =
      ap (λ xs. xs ++ filter is_aside rest') (map-append string_bytes h.more (copy ∷ []))
      ∙ append_assoc (map string_bytes h.more) (string_bytes copy ∷ []) (filter is_aside rest')
      ∙ ap (λ m. map string_bytes h.more ++ m ∷ filter is_aside rest') c
      ∙ ap (λ xs. map string_bytes h.more ++ xs)
      (sym (ap (filter is_aside) e ∙ cond_true (is_aside name) (name ∷ filter is_aside rest') (filter is_aside rest') has))
      ∙ h.found;
}

pub found_back : (n : ℕ) (old new : List (String Global)) (all rest : List (List ℕ)) → n ≡ length old → FoundAsides old new all rest → take n new ≡ old
found_back n old new all rest is h = rw (is, h.appended) (take-append_seam old h.more)

pub all_found : (old new : List (String Global)) (all rest : List (List ℕ)) → rest ≡ [] → FoundAsides old new all rest
    → (more : List (String Global)) × (new ≡ old ++ more) × (map string_bytes more ≡ filter is_aside all)
all_found old new all rest e h =
    (h.more, h.appended, sym (append-nil (map string_bytes h.more)) ∙ ap (λ xs. map string_bytes h.more ++ filter is_aside xs) (sym e) ∙ h.found)

unmapped : {X Y : Type 0} (P : X → Type 0) (f : Y → X) (ys : List Y) → All P (map f ys) → All (λ y. P (f y)) ys
unmapped P f [] a = All-nil (λ y. P (f y))
unmapped P f (y ∷ ys) a = All-cons (λ z. P (f z)) y ys (All-head P _ _ a) (unmapped P f ys (All-tail P _ _ a))

held_names : (held : List (String Global × Vec ℕ)) → map string_bytes (keys_of held) ≡ map (λ (file : StoreFile). file.name) (map entry_file held)
held_names [] = refl
held_names (e ∷ es) = ap (λ names. string_bytes e.0 ∷ names) (held_names es)

-- the asides among the names of what is held are those that are told
pub asides_told : (told : StoreTold) (held : List (String Global × Vec ℕ)) → told.files ≡ map entry_file held
    → filter is_aside (map string_bytes (keys_of held)) ≡ asides told.files
asides_told told held e = ap (filter is_aside) (held_names held) ∙ ap asides (sym e)

pub asides_named : (told : StoreTold) (held : List (String Global × Vec ℕ)) (more : List (String Global)) → told.files ≡ map entry_file held
    → All IsNamed told.files → map string_bytes more ≡ filter is_aside (map string_bytes (keys_of held))
    → All (λ (name : String Global). IsFileName (string_bytes name)) more
asides_named told held more e a k =
    let named : All IsFileName (map (λ (file : StoreFile). file.name) told.files) = All-map IsFileName (λ (file : StoreFile). file.name) told.files a in
    let found : All IsFileName (asides told.files) = All-filter is_aside IsFileName (map (λ (file : StoreFile). file.name) told.files) named in
    let copied : All IsFileName (map string_bytes more) = rw (k, asides_told told held e) found in
    unmapped IsFileName string_bytes more copied

pub listed : (first : List MemFile) (now : StoreTold) (entries between after : List StoreEntry) → told_after first entries ≡ now → between ≡ entries
    → after ≡ between ++ Lists true ∷ [] → told_after first after ≡ store_answered (ListedAsides (Some (asides now.files))) now.files now
listed first now entries between after v e f =
    ap (λ xs. told_after first xs) (f ∙ ap (λ xs. xs ++ Lists true ∷ []) e) ∙ fold-append store_step (store_start first) entries (Lists true ∷ [])
    ∙ ap (λ t. store_step t (Lists true)) v

pub names_told : (old new more : List (String Global)) (found : List (List ℕ)) → new ≡ old ++ more → map string_bytes more ≡ found
    → map string_bytes new ≡ map string_bytes old ++ found
names_told old new more found n m = ap (map string_bytes) n ∙ map-append string_bytes old more ∙ ap (λ xs. map string_bytes old ++ xs) m
