-- What the files' part of a turn makes of the files of a store, whatever is answered.
use Rattle.std.proofs.Common.{◌≡◌, inl, ℕ, Bool, true, false, List, [], ◌∷◌, ◌++◌, Option, Some, None, refl, sym, ap, ap₂, subst, ◌∙◌, append-nil}
use Rattle.std.specs.Prelude.{if◌then◌else◌}
use Rattle.std.specs.List.{AllByRecursion, list_all}
use Rattle.std.proofs.lemmas.Bool.{false≢true, and_parts}
use Rattle.world.specs.FileLists.{StoreFile, file_name, file_at, rename_file}
use Rattle.world.specs.FileNames.{aside_of}
use Rattle.world.specs.NamedLists.{InNameOrder}
use Rattle.world.specs.SoundStores.{LeavesFiles}
use Rattle.world.specs.StoreCalls.{StoreCall, WroteAside, SyncedAside, RenamedAside, RemovedFile}
use Rattle.world.proofs.NameOrder.{name_itself, put_found, drop_gone}
use Rattle.client_model.specs.declared.interfaces.Iface.{Iface}
use Rattle.device_calls.specs.Calls.{Call, SyncAside, RenameAside, Settle, store_call}
use Rattle.device_calls.specs.Programs.{Asks, Done, Then, after, Answers, calls_with, result_with, Makes}
use Rattle.device_calls.proofs.Programs.{makes_both}
use Rattle.turn_model.specs.KeptFiles.{KeptFile, wanted_in, is_settled, if_done, bringing, known_after, keeping_one, keeping}
use Rattle.turn_model.specs.FilesInLife.{KnownTruly, Filed, filed_as, was_done, all_done}
use Rattle.turn_model.proofs.Bringing.{Changed, unchanged, both, come, done_parts}
use Rattle.turn_model.proofs.FileNames.{Clear, Apart, AreApart}
use Rattle.turn_model.proofs.Keeping.{IsWanted, settled_is, known_so, all_filed, AreKnown, IsKept, stays_known, first_clear}
use Rattle.device_evidence.proofs.FilesGoing.{FilesGo, FilesSplit, files_split, as_made, wrote, synced, settled, put_in_place, was_removed}
use Rattle.device_evidence.proofs.Parts.{part, parts_of}

abbrev pub store_part : List Call → List StoreCall
store_part = part store_call

-- ---- the calls for one file

-- no other file is changed; the result tells whether all was done, and then the file reads so
pub record Brought (name : List ℕ) (wanted : Option (List ℕ)) (before after : List StoreFile) (result : Bool) (calls : List StoreCall) : Type 0 where
  pub changed : Changed name before after
  pub reads : result ≡ true → file_at name after ≡ wanted
  pub told : list_all was_done calls ≡ true → result ≡ true

module _ (name : List ℕ) where
  abbrev settle : Asks Bool
  settle = Then Settle (λ settled. Done settled)

  -- a call that was done, and what came then
  then_brought : (wanted : Option (List ℕ)) (before between after : List StoreFile) (call : StoreCall) (result : Bool) (calls : List StoreCall)
      → Changed name before between → Brought name wanted between after result calls → Brought name wanted before after result (call ∷ calls)
  then_brought wanted before between after call result calls first later = record {
    changed = both name before between after first later.changed;
    reads = later.reads;
    told = λ e. later.told (and_parts (was_done call) (list_all was_done calls) e).1;
  }

  -- a call that wasn't done ends it
  not_brought : (wanted : Option (List ℕ)) (before between after : List StoreFile) (call : StoreCall) → was_done call ≡ false → Changed name before between
      → after ≡ between
      → Brought name wanted before after false (call ∷ [])
  not_brought wanted before between after call failed changed same = record {
    changed = subst (λ (files : List StoreFile). Changed name before files) (sym same) changed;
    reads = λ e. absurd (false≢true e);
    told = λ e. sym failed ∙ (and_parts (was_done call) true e).0;
  }

  settles : (wanted : Option (List ℕ)) (answers : Answers settle) (old new : List StoreFile) → FilesGo (store_part (calls_with settle answers)) old new
      → file_at name old ≡ wanted
      → Brought name wanted old new (result_with settle answers) (store_part (calls_with settle answers))
  settles wanted answers old new (mid, truly, leaves, same) is =
      let stays : new ≡ old = same ∙ settled answers.0 old mid leaves in
      record {
        changed = subst (λ (files : List StoreFile). Changed name old files) (sym stays) (unchanged name old);
        reads = λ e. ap (file_at name) stays ∙ is;
        told = λ e. (and_parts answers.0 true e).0;
      }

  -- ---- a file that is to be gone

  removed_then : (done : Bool) (answers : Answers (if_done done settle)) (old mid new : List StoreFile) → InNameOrder file_name old
      → LeavesFiles (RemovedFile name done) old mid → FilesGo (store_part (calls_with (if_done done settle) answers)) mid new
      → Brought name None old new (result_with (if_done done settle) answers) (RemovedFile name done ∷ store_part (calls_with (if_done done settle) answers))
  removed_then true answers old mid new order leaves goes =
      then_brought None old mid new (RemovedFile name true) (result_with settle answers) (store_part (calls_with settle answers))
      (was_removed name true old mid leaves)
      (settles None answers mid new goes
      (ap (file_at name) (as_made (RemovedFile name true) old mid leaves refl) ∙ drop_gone file_name (λ (f : StoreFile). Some f.bytes) None name old order))
  removed_then false answers old mid new order leaves goes =
      not_brought None old mid new (RemovedFile name false) refl (was_removed name false old mid leaves) goes

  -- ---- a file that is to hold bytes

  module _ (bytes : List ℕ) where
    abbrev rename : Asks Bool
    rename = Then (RenameAside name) (λ renamed. if_done renamed settle)

    abbrev sync : Asks Bool
    sync = Then (SyncAside name) (λ synced. if_done synced rename)

    abbrev HasAside : List StoreFile → Type 0
    HasAside files = file_at (aside_of name) files ≡ Some bytes

    renamed_then : (done : Bool) (answers : Answers (if_done done settle)) (old mid new : List StoreFile) → HasAside old
        → LeavesFiles (RenamedAside name done) old mid → FilesGo (store_part (calls_with (if_done done settle) answers)) mid new
        → Brought name (Some bytes) old new (result_with (if_done done settle) answers)
        (RenamedAside name done ∷ store_part (calls_with (if_done done settle) answers))
    renamed_then true answers old mid new here leaves goes =
        then_brought (Some bytes) old mid new (RenamedAside name true) (result_with settle answers) (store_part (calls_with settle answers))
        (put_in_place name true old mid leaves)
        (settles (Some bytes) answers mid new goes
        (ap (file_at name) (as_made (RenamedAside name true) old mid leaves refl)
        ∙ ap (λ (found : Option (List ℕ)). file_at name (rename_file name found old)) here ∙ come name bytes old))
    renamed_then false answers old mid new here leaves goes =
        not_brought (Some bytes) old mid new (RenamedAside name false) refl (put_in_place name false old mid leaves) goes

    synced_then : (done : Bool) (answers : Answers (if_done done rename)) (old mid new : List StoreFile) → HasAside old
        → LeavesFiles (SyncedAside name done) old mid → FilesGo (store_part (calls_with (if_done done rename) answers)) mid new
        → Brought name (Some bytes) old new (result_with (if_done done rename) answers)
        (SyncedAside name done ∷ store_part (calls_with (if_done done rename) answers))
    synced_then true answers old mid new here leaves (next, truly, renames, goes) =
        let same : mid ≡ old = synced name true old mid leaves in
        then_brought (Some bytes) old mid new (SyncedAside name true) (result_with rename answers) (store_part (calls_with rename answers))
        (subst (λ (files : List StoreFile). Changed name old files) (sym same) (unchanged name old))
        (renamed_then answers.0 answers.1 mid next new (subst HasAside (sym same) here) renames goes)
    synced_then false answers old mid new here leaves goes =
        not_brought (Some bytes) old mid new (SyncedAside name false) refl
        (subst (λ (files : List StoreFile). Changed name old files) (sym (synced name false old mid leaves)) (unchanged name old)) goes

    written_then : (done : Bool) (answers : Answers (if_done done sync)) (old mid new : List StoreFile)
        → LeavesFiles (WroteAside name bytes done) old mid → FilesGo (store_part (calls_with (if_done done sync) answers)) mid new
        → Brought name (Some bytes) old new (result_with (if_done done sync) answers)
        (WroteAside name bytes done ∷ store_part (calls_with (if_done done sync) answers))
    written_then true answers old mid new leaves (next, truly, syncs, goes) =
        let here : HasAside mid =
        ap (file_at (aside_of name)) (as_made (WroteAside name bytes true) old mid leaves refl)
        ∙ put_found file_name (λ (f : StoreFile). Some f.bytes) None (aside_of name) (record { name = aside_of name; bytes = bytes })
        (name_itself (aside_of name)) old in
        then_brought (Some bytes) old mid new (WroteAside name bytes true) (result_with sync answers) (store_part (calls_with sync answers))
        (wrote name bytes true old mid leaves) (synced_then answers.0 answers.1 mid next new here syncs goes)
    written_then false answers old mid new leaves goes =
        not_brought (Some bytes) old mid new (WroteAside name bytes false) refl (wrote name bytes false old mid leaves) goes

  pub brought : (wanted : Option (List ℕ)) (answers : Answers (bringing name wanted)) (old new : List StoreFile) → InNameOrder file_name old
      → FilesGo (store_part (calls_with (bringing name wanted) answers)) old new
      → Brought name wanted old new (result_with (bringing name wanted) answers) (store_part (calls_with (bringing name wanted) answers))
  brought (Some bytes) answers old new order (mid, truly, leaves, goes) = written_then bytes answers.0 answers.1 old mid new leaves goes
  brought None answers old new order (mid, truly, leaves, goes) = removed_then answers.0 answers.1 old mid new order leaves goes

-- ---- one file

pub record OneKept (wanted : Option (List ℕ)) (file : KeptFile) (old new : List StoreFile) (result : KeptFile) (calls : List Call) : Type 0 where
  pub filed : filed_as result ≡ filed_as file
  pub changed : Changed file.name old new
  pub known : KnownTruly result.known (file_at file.name new)
  pub kept : all_done calls ≡ true → IsWanted file.keeps wanted result.known (file_at file.name new)

module _ (wanted : Option (List ℕ)) (file : KeptFile) (calls : List Call) (result : KeptFile) (old new : List StoreFile) (order : InNameOrder file_name old)
    (truly : KnownTruly file.known (file_at file.name old)) (goes : FilesGo (store_part calls) old new) where
  abbrev known_then : Bool → Asks KeptFile
  known_then done = Done (record file { known = known_after wanted done })

  one_by : (b : Bool) → is_settled file.keeps file.known wanted ≡ b
      → Makes (if b then Done file else after (bringing file.name wanted) known_then) calls result → OneKept wanted file old new result calls
  one_by true e makes =
      let same : new ≡ old = subst (λ (cs : List Call). FilesGo (store_part cs) old new) makes.calls_are goes in
      let reads : file_at file.name new ≡ file_at file.name old = ap (file_at file.name) same in
      let known : result.known ≡ file.known = ap (λ (f : KeptFile). f.known) makes.result_is in
      record {
        filed = ap filed_as makes.result_is;
        changed = subst (λ (files : List StoreFile). Changed file.name old files) (sym same) (unchanged file.name old);
        known = subst (λ k. KnownTruly k (file_at file.name new)) (sym known) (subst (KnownTruly file.known) (sym reads) truly);
        kept = λ _.
            subst (λ k. IsWanted file.keeps wanted k (file_at file.name new)) (sym known)
            (settled_is file.keeps file.known wanted (file_at file.name new) e (subst (KnownTruly file.known) (sym reads) truly));
      }
  one_by false e makes =
      let parts = makes_both (bringing file.name wanted) known_then calls result makes in
      let own : calls ≡ parts.first = parts.calls_are ∙ ap (λ cs. parts.first ++ cs) parts.makes_later.calls_are ∙ append-nil parts.first in
      let made : calls ≡ calls_with (bringing file.name wanted) parts.makes_first.answers = own ∙ parts.makes_first.calls_are in
      let answers = parts.makes_first.answers in
      let it = brought file.name wanted answers old new order (subst (λ (cs : List Call). FilesGo (store_part cs) old new) made goes) in
      let done_is : parts.between ≡ result_with (bringing file.name wanted) answers = parts.makes_first.result_is in
      let known : result.known ≡ known_after wanted parts.between = ap (λ (f : KeptFile). f.known) parts.makes_later.result_is in
      let reads : parts.between ≡ true → file_at file.name new ≡ wanted = λ d. it.reads (sym done_is ∙ d) in
      record {
        filed = ap filed_as parts.makes_later.result_is;
        changed = it.changed;
        known = subst (λ k. KnownTruly k (file_at file.name new)) (sym known) (known_so wanted (file_at file.name new) parts.between reads);
        kept = λ d. inl (it.reads (it.told (ap (λ cs. list_all was_done (store_part cs)) (sym made) ∙ d)));
      }

  pub one_kept : Makes (keeping_one wanted file) calls result → OneKept wanted file old new result calls
  one_kept makes = one_by (is_settled file.keeps file.known wanted) refl makes

-- ---- all files

pub record AllKept (ifaces : List Iface) (files : List KeptFile) (old new : List StoreFile) (result : List KeptFile) (calls : List Call) : Type 0 where
  pub filed : all_filed result ≡ all_filed files
  pub order : InNameOrder file_name new
  pub others : (n : List ℕ) → AllByRecursion (λ (filed : Filed). Clear n filed.name) (all_filed files) → file_at n new ≡ file_at n old
  pub known : AreKnown new result
  pub kept : all_done calls ≡ true → AllByRecursion (IsKept ifaces new) result

module _ (ifaces : List Iface) where
  abbrev more : List KeptFile → KeptFile → Asks (List KeptFile)
  more files f = after (keeping ifaces files) (λ rest. Done (f ∷ rest))

  both_kept : (file : KeptFile) (files : List KeptFile) (old mid new : List StoreFile) (first : KeptFile) (rest : List KeptFile) (a b : List Call)
      → AllByRecursion (Apart (filed_as file)) (all_filed files)
      → OneKept (wanted_in ifaces file.keeps) file old mid first a → AllKept ifaces files mid new rest b
      → AllKept ifaces (file ∷ files) old new (first ∷ rest) (a ++ b)
  both_kept file files old mid new first rest a b apart here later =
      let stays : file_at file.name new ≡ file_at file.name mid = later.others file.name (first_clear ifaces (filed_as file) (all_filed files) apart) in
      let reads : file_at first.name new ≡ file_at file.name mid = ap (λ (filed : Filed). file_at filed.name new) here.filed ∙ stays in
      record {
        filed = ap₂ (λ (one : Filed) (others : List Filed). one ∷ others) here.filed later.filed;
        order = later.order;
        others = λ n clear. later.others n clear.1 ∙ here.changed.others n clear.0.file clear.0.aside;
        known = (subst (KnownTruly first.known) (sym reads) here.known, later.known);
        kept = λ e.
            let parts = done_parts a b e in
            let now : IsWanted first.keeps (wanted_in ifaces first.keeps) first.known (file_at file.name mid) =
            subst (λ (filed : Filed). IsWanted filed.keeps (wanted_in ifaces filed.keeps) first.known (file_at file.name mid))
            (sym here.filed) (here.kept parts.0) in
            (subst (IsWanted first.keeps (wanted_in ifaces first.keeps) first.known) (sym reads) now, later.kept parts.1);
      }

  pub all_kept : (files : List KeptFile) (calls : List Call) (result : List KeptFile) (old new : List StoreFile) → AreApart (all_filed files)
      → InNameOrder file_name old → AreKnown old files → Makes (keeping ifaces files) calls result → FilesGo (store_part calls) old new
      → AllKept ifaces files old new result calls
  all_kept [] calls result old new apart order known makes goes =
      let same : new ≡ old = subst (λ (cs : List Call). FilesGo (store_part cs) old new) makes.calls_are goes in
      record {
        filed = ap all_filed makes.result_is;
        order = subst (InNameOrder file_name) (sym same) order;
        others = λ n clear. ap (file_at n) same;
        known = subst (AreKnown new) (sym makes.result_is) tt;
        kept = λ e. subst (AllByRecursion (IsKept ifaces new)) (sym makes.result_is) tt;
      }
  all_kept (file ∷ files) calls result old new apart order known makes goes =
      let one = makes_both (keeping_one (wanted_in ifaces file.keeps) file) (λ f. more files f) calls result makes in
      let rest = makes_both (keeping ifaces files) (λ rs. Done (one.between ∷ rs)) one.later result one.makes_later in
      let later : one.later ≡ rest.first = rest.calls_are ∙ ap (λ cs. rest.first ++ cs) rest.makes_later.calls_are ∙ append-nil rest.first in
      let all : calls ≡ one.first ++ rest.first = one.calls_are ∙ ap (λ cs. one.first ++ cs) later in
      let split : FilesSplit (store_part one.first) (store_part rest.first) old new =
      files_split (store_part one.first) (store_part rest.first) old new
      (subst (λ (cs : List StoreCall). FilesGo cs old new) (ap store_part all ∙ parts_of store_call one.first rest.first) goes) in
      let here = one_kept (wanted_in ifaces file.keeps) file one.first one.between old split.mid order known.0 split.first one.makes_first in
      let others = all_kept files rest.first rest.between split.mid new apart.1 (here.changed.order order)
      (stays_known file old split.mid here.changed files apart.0 known.1) rest.makes_first split.later in
      subst (λ (cs : List Call). AllKept ifaces (file ∷ files) old new result cs) (sym all)
      (subst (λ (r : List KeptFile). AllKept ifaces (file ∷ files) old new r (one.first ++ rest.first)) (sym rest.makes_later.result_is)
      (both_kept file files old split.mid new one.between rest.between one.first rest.first apart.0 here others))
