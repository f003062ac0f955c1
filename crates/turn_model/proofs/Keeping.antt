-- What the files' part of a turn leaves: what is known of each file stays so, and where all is done each is as it is to be.
use Rattle.std.proofs.Common.{◌≡◌, ◌⊎◌, inl, inr, ℕ, Bool, true, false, List, [], ◌∷◌, ◌++◌, map, Option, Some, None, refl, sym, ap, ap₂, subst, ◌∙◌, append-nil}
use Rattle.std.specs.Prelude.{if◌then◌else◌}
use Rattle.std.specs.List.{AllByRecursion}
use Rattle.std.proofs.lemmas.Bool.{false≢true}
use Rattle.std.proofs.lemmas.Slice.Eq.{bytes_eq-Decides}
use Rattle.world.specs.FileLists.{StoreFile, file_name, file_at}
use Rattle.world.specs.NamedLists.{InNameOrder}
use Rattle.client_model.specs.declared.interfaces.Iface.{Iface}
use Rattle.device_calls.specs.Calls.{Call}
use Rattle.device_calls.specs.Programs.{Asks, Done, after}
use Rattle.device_calls.specs.Worlds.{World, Ran, run}
use Rattle.device_calls.proofs.Programs.{run_after, ran_both}
use Rattle.turn_model.specs.KeptFiles.{Known, Holds, Unknown, Unread, Keeps, KeptFile, wanted_in, same_content, is_left, is_settled, bringing, known_after, keeping_one, keeping}
use Rattle.turn_model.specs.FilesInLife.{KnownTruly, Filed, filed_as, all_done}
use Rattle.turn_model.proofs.FileNames.{Clear, Apart, AreApart}
use Rattle.turn_model.proofs.Bringing.{files_in, done_parts, Changed, unchanged, Brings, brings}

-- a file is as it is to be, or it couldn't be read and is left alone
abbrev pub IsWanted : Keeps → (wanted : Option (List ℕ)) → Known → (reads : Option (List ℕ)) → Type 0
IsWanted keeps wanted known reads = (reads ≡ wanted) ⊎ ((known ≡ Unread) × (is_left keeps wanted ≡ true))

same_is : (a b : Option (List ℕ)) → same_content a b ≡ true → a ≡ b
same_is None None e = refl
same_is None (Some b) e = absurd (false≢true e)
same_is (Some a) None e = absurd (false≢true e)
same_is (Some a) (Some b) e = ap Some ((bytes_eq-Decides a b).0 e)

pub settled_is : (keeps : Keeps) (known : Known) (wanted reads : Option (List ℕ)) → is_settled keeps known wanted ≡ true → KnownTruly known reads
    → IsWanted keeps wanted known reads
settled_is keeps (Holds content) wanted reads e truly = inl (truly ∙ same_is content wanted e)
settled_is keeps Unknown wanted reads e truly = absurd (false≢true e)
settled_is keeps Unread wanted reads e truly = inr (refl, e)

pub known_so : (wanted reads : Option (List ℕ)) (done : Bool) → (done ≡ true → reads ≡ wanted) → KnownTruly (known_after wanted done) reads
known_so wanted reads true is = is refl
known_so wanted reads false is = tt

-- ---- one file

record One (wanted : Option (List ℕ)) (file : KeptFile) (world : World) (ran : Ran KeptFile) : Type 0 where
  filed : filed_as ran.result ≡ filed_as file
  changed : Changed file.name (files_in world) (files_in ran.world)
  known : KnownTruly ran.result.known (file_at file.name (files_in ran.world))
  kept : all_done ran.calls ≡ true → IsWanted file.keeps wanted ran.result.known (file_at file.name (files_in ran.world))

module _ (wanted : Option (List ℕ)) (file : KeptFile) (world : World) (order : InNameOrder file_name (files_in world))
    (truly : KnownTruly file.known (file_at file.name (files_in world))) where
  abbrev brought : Ran Bool
  brought = run (bringing file.name wanted) world

  abbrev known_then : Bool → Asks KeptFile
  known_then done = Done (record file { known = known_after wanted done })

  it : Brings file.name wanted (files_in world) brought
  it = brings file.name wanted world order

  one_brought : One wanted file world (ran_both brought (run (known_then brought.result) brought.world))
  one_brought = record {
    filed = refl;
    changed = it.changed;
    known = known_so wanted (file_at file.name (files_in brought.world)) brought.result it.reads;
    kept = λ e. inl (it.reads (it.told (subst (λ (calls : List Call). all_done calls ≡ true) (append-nil brought.calls) e)));
  }

  one_by : (b : Bool) → is_settled file.keeps file.known wanted ≡ b
      → One wanted file world (run (if b then Done file else after (bringing file.name wanted) known_then) world)
  one_by true e = record {
    filed = refl;
    changed = unchanged file.name (files_in world);
    known = truly;
    kept = λ _. settled_is file.keeps file.known wanted (file_at file.name (files_in world)) e truly;
  }
  one_by false e = subst (One wanted file world) (sym (run_after (bringing file.name wanted) known_then world)) one_brought

  one : One wanted file world (run (keeping_one wanted file) world)
  one = one_by (is_settled file.keeps file.known wanted) refl

-- ---- all files

abbrev pub all_filed : List KeptFile → List Filed
all_filed files = map filed_as files

abbrev pub IsKnown : List StoreFile → KeptFile → Type 0
IsKnown store file = KnownTruly file.known (file_at file.name store)

abbrev pub AreKnown : List StoreFile → List KeptFile → Type 0
AreKnown store files = AllByRecursion (IsKnown store) files

abbrev pub IsKept : List Iface → List StoreFile → KeptFile → Type 0
IsKept ifaces store file = IsWanted file.keeps (wanted_in ifaces file.keeps) file.known (file_at file.name store)

-- a name other than that of a file and of its aside reads as before
pub stays_known : (file : KeptFile) (before later : List StoreFile) → Changed file.name before later → (files : List KeptFile)
    → AllByRecursion (Apart (filed_as file)) (all_filed files) → AreKnown before files → AreKnown later files
stays_known file before later changed [] apart known = tt
stays_known file before later changed (g ∷ files) apart known = (
  subst (KnownTruly g.known) (sym (changed.others g.name apart.0.two.file apart.0.two.aside)) known.0,
  stays_known file before later changed files apart.1 known.1,
)

pub record Kept (ifaces : List Iface) (files : List KeptFile) (before : List StoreFile) (ran : Ran (List KeptFile)) : Type 0 where
  pub filed : all_filed ran.result ≡ all_filed files
  pub order : InNameOrder file_name (files_in ran.world)
  pub others : (n : List ℕ) → AllByRecursion (λ (filed : Filed). Clear n filed.name) (all_filed files) → file_at n (files_in ran.world) ≡ file_at n before
  pub known : AreKnown (files_in ran.world) ran.result
  pub kept : all_done ran.calls ≡ true → AllByRecursion (IsKept ifaces (files_in ran.world)) ran.result

module _ (ifaces : List Iface) where
  pub first_clear : (first : Filed) (others : List Filed) → AllByRecursion (Apart first) others
      → AllByRecursion (λ (filed : Filed). Clear first.name filed.name) others
  first_clear first [] h = tt
  first_clear first (other ∷ others) h = (h.0.one, first_clear first others h.1)

  module _ (file : KeptFile) (files : List KeptFile) (world : World) (apart : AreApart (all_filed (file ∷ files)))
      (order : InNameOrder file_name (files_in world)) (known : AreKnown (files_in world) (file ∷ files)) where
    abbrev first : Ran KeptFile
    first = run (keeping_one (wanted_in ifaces file.keeps) file) world

    abbrev more : KeptFile → Asks (List KeptFile)
    more f = after (keeping ifaces files) (λ rest. Done (f ∷ rest))

    abbrev rest : Ran (List KeptFile)
    rest = run (keeping ifaces files) first.world

    here : One (wanted_in ifaces file.keeps) file world first
    here = one (wanted_in ifaces file.keeps) file world order known.0

    pub order_then : InNameOrder file_name (files_in first.world)
    order_then = here.changed.order order

    pub known_then_on : AreKnown (files_in first.world) files
    known_then_on = stays_known file (files_in world) (files_in first.world) here.changed files apart.0 known.1

    ran_is : run (keeping ifaces (file ∷ files)) world ≡ ran_both first (ran_both rest (run (Done (first.result ∷ rest.result)) rest.world))
    ran_is =
        run_after (keeping_one (wanted_in ifaces file.keeps) file) (λ f. more f) world
        ∙ ap (λ (ran : Ran (List KeptFile)). ran_both first ran) (run_after (keeping ifaces files) (λ rs. Done (first.result ∷ rs)) first.world)

    pub both_kept : Kept ifaces files (files_in first.world) rest → Kept ifaces (file ∷ files) (files_in world) (run (keeping ifaces (file ∷ files)) world)
    both_kept later =
        let stays : file_at file.name (files_in rest.world) ≡ file_at file.name (files_in first.world) =
        later.others file.name (first_clear (filed_as file) (all_filed files) apart.0) in
        let reads : file_at first.result.name (files_in rest.world) ≡ file_at file.name (files_in first.world) =
        ap (λ (filed : Filed). file_at filed.name (files_in rest.world)) here.filed ∙ stays in
        subst (Kept ifaces (file ∷ files) (files_in world)) (sym ran_is) (record {
          filed = ap₂ (λ (one : Filed) (others : List Filed). one ∷ others) here.filed later.filed;
          order = later.order;
          others = λ n clear. later.others n clear.1 ∙ here.changed.others n clear.0.file clear.0.aside;
          known = (subst (KnownTruly first.result.known) (sym reads) here.known, later.known);
          kept = λ e.
              let parts = done_parts first.calls (rest.calls ++ []) e in
              let now : IsWanted first.result.keeps (wanted_in ifaces first.result.keeps) first.result.known (file_at file.name (files_in first.world)) =
              subst (λ (filed : Filed). IsWanted filed.keeps (wanted_in ifaces filed.keeps) first.result.known (file_at file.name (files_in first.world)))
              (sym here.filed) (here.kept parts.0) in (
                subst (IsWanted first.result.keeps (wanted_in ifaces first.result.keeps) first.result.known) (sym reads) now,
                later.kept (subst (λ (calls : List Call). all_done calls ≡ true) (append-nil rest.calls) parts.1),
              );
        })

  pub are_kept : (files : List KeptFile) (world : World) → AreApart (all_filed files) → InNameOrder file_name (files_in world) → AreKnown (files_in world) files
      → Kept ifaces files (files_in world) (run (keeping ifaces files) world)
  are_kept [] world apart order known = record { filed = refl; order = order; others = λ n clear. refl; known = tt; kept = λ e. tt }
  are_kept (file ∷ files) world apart order known =
      both_kept file files world apart order known
      (are_kept files (run (keeping_one (wanted_in ifaces file.keeps) file) world).world apart.1 (order_then file files world apart order known)
      (known_then_on file files world apart order known))
