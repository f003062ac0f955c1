-- Files that hold what they are to hold, so that nothing is asked for them.
use Rattle.std.specs.Prelude.{ℕ, ◌≡◌, ◌==◌, ◌&&◌, not, Bool, true, false, List, length}
use Rattle.std.specs.List.{AllByRecursion}
use Rattle.client_model.specs.declared.interfaces.Iface.{Iface}
use Rattle.client_core.specs.Touched.{is_other, is_touched}
use Rattle.device_calls.specs.Does.{Does}
use Rattle.device_calls.specs.Fronts.{HasBegun}
use Rattle.device_calls.specs.Worlds.{Seen}
use Rattle.turn_model.specs.KeptFiles.{Keeps, Duid, Lease4, Lease6, Resolver, KeptFile, wanted_in, is_settled, is_unknown, keeping_one}
use Rattle.life_files.specs.declared.keeping.Touched.{Touched}
use Rattle.life_files.specs.declared.keeping.Touched.TheVariants.{All, These}

-- an interface is among those that may keep another lease
abbrev pub is_among : ℕ → Touched → Bool
is_among index All = true
is_among index (These touched) = is_touched index touched.now.ifaces.items

abbrev pub is_all : Touched → Bool
is_all All = true
is_all (These touched) = false

-- the resolver may be told something else
abbrev pub has_resolver : Touched → Bool
has_resolver All = true
has_resolver (These touched) = is_other touched.now.resolver

-- nothing may be to be kept otherwise than before
abbrev pub is_nothing : Touched → Bool
is_nothing All = false
is_nothing (These touched) = (length touched.now.ifaces.items == 0) && not (is_other touched.now.resolver)

-- What the file is to hold may be another than before. The DUID stays as it is once the life is opened.
abbrev pub may_differ : Keeps → Touched → Bool
may_differ (Duid bytes) touched = is_all touched
may_differ (Lease4 iface) touched = is_among iface touched
may_differ (Lease6 iface) touched = is_among iface touched
may_differ Resolver touched = has_resolver touched

-- a file holds what it is to hold, where it is known what it holds
abbrev pub IsKept : List Iface → KeptFile → Type 0
IsKept ifaces file =
    is_unknown file.known ≡ false → is_settled file.keeps file.known (wanted_in ifaces file.keeps) ≡ true

abbrev pub AreKept : List Iface → List KeptFile → Type 0
AreKept ifaces files = AllByRecursion (IsKept ifaces) files

-- the same of the files whose content can't have changed
abbrev pub AreKeptBut : Touched → List Iface → List KeptFile → Type 0
AreKeptBut touched ifaces files =
    AllByRecursion (λ file. may_differ file.keeps touched ≡ false → IsKept ifaces file) files

-- a file is brought to what it is to hold
abbrev pub KeepsFile : List Iface → (old new : KeptFile) → (seen_old seen_new : Seen) → (text_old text_new : List ℕ)
    → Type 0
KeepsFile ifaces old new seen_old seen_new text_old text_new =
    Does (keeping_one (wanted_in ifaces old.keeps) old) new seen_old seen_new text_old text_new

-- it was begun to bring a file to what it is to hold
abbrev pub BeginsFile : List Iface → KeptFile → (old new : Seen) → Type 0
BeginsFile ifaces file old new = HasBegun (keeping_one (wanted_in ifaces file.keeps) file) old new
