-- The files that a life keeps, as the code keeps them.
use Rattle.std.proofs.Common.{ℕ, ◌≡◌, ◌+◌, ◌<◌, ◌≤◌, add-one, Bool, true, false, cond, not, bytes_eq, ◌||◌, ◌==◌, List, [], ◌∷◌, ◌++◌, length, get_or, set, take, drop, drop-cons, Option, Some, None, Bor, refl, sym, ap, subst, ◌∙◌, append-nil, append_assoc, arith}
use Rattle.std.proofs.lemmas.List.{drop_all, take_all, take_more_set, drop-set-lt, with_items_is}
use Rattle.std.specs.Global.{Vec}
use Rattle.std.specs.Vec.{with_items}
use Rattle.std.proofs.lemmas.Slice.Eq.{bytes_eq-Decides}
use Rattle.std.specs.Prelude.{option_map}
use Rattle.std.specs.List.{AllByRecursion, list_any}
use Rattle.std.proofs.lemmas.Bool.{and_parts, not-true}
use Rattle.std.proofs.lemmas.Bool.Decides.{nat_tests}
use Rattle.net_types.specs.declared.interface.IfIndex.{IfIndex}
use Rattle.client_model.specs.declared.interfaces.Iface.{Iface}
use Rattle.lease_text.specs.LeaseLines.{lease4_text}
use Rattle.lease6_text.specs.LeaseLines.{lease6_text}
use Rattle.client_core.specs.declared.effects.Resolver.{Resolver as Telling}
use Rattle.client_core.specs.declared.effects.Resolver.TheVariants.{Same, Other}
use Rattle.client_core.specs.declared.effects.Touched as client
use Rattle.client_core.specs.Touched.{is_other, is_touched, KeepsUntouched}
use Rattle.device_calls.specs.Calls.{Call}
use Rattle.device_calls.specs.Programs.{Asks, Done, after, Makes}
use Rattle.device_calls.specs.Worlds.{Seen}
use Rattle.device_calls.specs.Does.{Does}
use Rattle.device_calls.proofs.Programs.{MakesBoth, makes_both}
use Rattle.device_calls.proofs.Doing.{does_done, does_after}
use Rattle.turn_model.specs.KeptFiles.{Keeps, Duid, Lease4, Lease6, Resolver, KeptFile, same_content, is_settled, wanted_in, bringing, known_after, keeping_one, keeping, is_unknown}
use Rattle.life_files.specs.declared.keeping.Touched.{Touched}
use Rattle.life_files.specs.declared.keeping.Touched.TheVariants.{All, These}
use Rattle.life_files.specs.Keeping.{is_nothing, may_differ, IsKept, AreKept, AreKeptBut}

-- ---- one file

abbrev pub brought : (wanted : Option (List ℕ)) → KeptFile → Asks KeptFile
brought wanted file = after (bringing file.name wanted) (λ done. Done (record file { known = known_after wanted done }))

pub keeps_settled : (wanted : Option (List ℕ)) (file : KeptFile) (seen : Seen) (text : List ℕ) → is_settled file.keeps file.known wanted ≡ true
    → Does (keeping_one wanted file) file seen seen text text
keeps_settled wanted file seen text settled =
    subst (λ (b : Bool). Does (cond b (Done file) (brought wanted file)) file seen seen text text) (sym settled) (does_done file seen text)

pub keeps_brought : (wanted : Option (List ℕ)) (file : KeptFile) (done : Bool) (old new : Seen) (t u : List ℕ) → is_settled file.keeps file.known wanted ≡ false
    → Does (bringing file.name wanted) done old new t u
    → Does (keeping_one wanted file) (record file { known = known_after wanted done }) old new t u
keeps_brought wanted file done old new t u unsettled did =
    subst (λ (b : Bool). Does (cond b (Done file) (brought wanted file)) (record file { known = known_after wanted done }) old new t u) (sym unsettled)
    (does_after (bringing file.name wanted) (λ d. Done (record file { known = known_after wanted d })) done
    (record file { known = known_after wanted done }) old new new t u u did
    (does_done (record file { known = known_after wanted done }) new u))

-- the same, as the code says it
pub keeps_still : (wanted held : Option (List ℕ)) (file : KeptFile) (settled : Bool) (seen : Seen) (text : List ℕ) → held ≡ wanted
    → settled ≡ is_settled file.keeps file.known held → settled ≡ true
    → Does (keeping_one wanted file) file seen seen text text
keeps_still wanted held file settled seen text same is so = keeps_settled wanted file seen text (ap (is_settled file.keeps file.known) (sym same) ∙ sym is ∙ so)

pub keeps_done : (wanted held : Option (List ℕ)) (file next : KeptFile) (name : List ℕ) (settled done : Bool) (old new : Seen) (t u : List ℕ) → held ≡ wanted
    → name ≡ file.name
    → settled ≡ is_settled file.keeps file.known held → settled ≡ false → Does (bringing name held) done old new t u
    → next ≡ record file { known = known_after held done }
    → Does (keeping_one wanted file) next old new t u
keeps_done wanted held file next name settled done old new t u same name_is is so did next_is =
    subst (λ (w : Option (List ℕ)). Does (keeping_one w file) next old new t u) same
    (subst (λ (n : KeptFile). Does (keeping_one held file) n old new t u) (sym next_is)
    (keeps_brought held file done old new t u (sym is ∙ so) (subst (λ (n : List ℕ). Does (bringing n held) done old new t u) name_is did)))

-- a known file of an interface that wasn't touched needs nothing
or_none : (a b : Bool) → (a || b) ≡ false → (a ≡ false) × (b ≡ false)
or_none true b h = absurd cc
or_none false b h = (refl, h)

pub keeps_untouched : (ifaces : List Iface) (touched : Touched) (file : KeptFile) (due : Bool) (seen : Seen) (text : List ℕ)
    → due ≡ (is_unknown file.known || may_differ file.keeps touched) → due ≡ false
    → (may_differ file.keeps touched ≡ false → IsKept ifaces file) → Does (keeping_one (wanted_in ifaces file.keeps) file) file seen seen text text
keeps_untouched ifaces touched file due seen text is none kept =
    let both = or_none (is_unknown file.known) (may_differ file.keeps touched) (sym is ∙ none) in
    keeps_settled (wanted_in ifaces file.keeps) file seen text (kept both.1 both.0)

-- ---- what is kept then

same_bytes : (bytes : List ℕ) → bytes_eq bytes bytes ≡ true
same_bytes bytes = (bytes_eq-Decides bytes bytes).1 refl

same_as_itself : (content : Option (List ℕ)) → same_content content content ≡ true
same_as_itself None = refl
same_as_itself (Some bytes) = same_bytes bytes

brought_holds : (keeps : Keeps) (wanted : Option (List ℕ)) (done : Bool) → is_unknown (known_after wanted done) ≡ false
    → is_settled keeps (known_after wanted done) wanted ≡ true
brought_holds keeps wanted true known = same_as_itself wanted
brought_holds keeps wanted false known = absurd cc

record IsKeptAs (wanted : Option (List ℕ)) (file next : KeptFile) : Type 0 where
  keeps_stays : next.keeps ≡ file.keeps
  holds : is_unknown next.known ≡ false → is_settled file.keeps next.known wanted ≡ true

kept_as : (wanted : Option (List ℕ)) (file next : KeptFile) (settled : Bool) (calls : List Call) → is_settled file.keeps file.known wanted ≡ settled
    → Makes (cond settled (Done file) (brought wanted file)) calls next → IsKeptAs wanted file next
kept_as wanted file next true calls is makes = subst (IsKeptAs wanted file) (sym makes.result_is) (record { keeps_stays = refl; holds = λ _. is })
kept_as wanted file next false calls is makes =
    let both : MakesBoth (bringing file.name wanted) (λ d. Done (record file { known = known_after wanted d })) calls next =
    makes_both (bringing file.name wanted) (λ d. Done (record file { known = known_after wanted d })) calls next makes in
    subst (IsKeptAs wanted file) (sym both.makes_later.result_is) (record { keeps_stays = refl; holds = brought_holds file.keeps wanted both.between })

kept_then : (ifaces : List Iface) (file next : KeptFile) (old new : Seen) (t u : List ℕ)
    → Does (keeping_one (wanted_in ifaces file.keeps) file) next old new t u → IsKept ifaces next
kept_then ifaces file next old new t u did =
    let wanted : Option (List ℕ) = wanted_in ifaces file.keeps in
    let as_it_is : IsKeptAs wanted file next = kept_as wanted file next (is_settled file.keeps file.known wanted) did.calls refl did.did.makes in
    λ known. ap (λ (keeps : Keeps). is_settled keeps next.known (wanted_in ifaces keeps)) as_it_is.keeps_stays ∙ as_it_is.holds known

-- so of a file in its place
pub kept_at : (ifaces : List Iface) (files : List KeptFile) (i : ℕ) (d next : KeptFile) (old new : Seen) (t u : List ℕ)
    → Does (keeping_one (wanted_in ifaces (get_or files i d).keeps) (get_or files i d)) next old new t u → IsKept ifaces next
kept_at ifaces files i d next old new t u did = kept_then ifaces (get_or files i d) next old new t u did

-- ---- all files

drop_one : (files : List KeptFile) (i : ℕ) (d : KeptFile) → i < length files → drop i files ≡ get_or files i d ∷ drop (i + 1) files
drop_one files i d lt = rw add-one (drop-cons files i d lt)

pub keeping_more : (ifaces : List Iface) (files : List KeptFile) (i : ℕ) (d next : KeptFile) (rest : List KeptFile) (old mid new : Seen) (t u v : List ℕ)
    → i < length files
    → Does (keeping_one (wanted_in ifaces (get_or files i d).keeps) (get_or files i d)) next old mid t u
    → Does (keeping ifaces (drop (i + 1) (set files i next))) rest mid new u v → Does (keeping ifaces (drop i files)) (next ∷ rest) old new t v
keeping_more ifaces files i d next rest old mid new t u v lt one more =
    let file : KeptFile = get_or files i d in
    let later : Does (keeping ifaces (drop (i + 1) files)) rest mid new u v =
    subst (λ (fs : List KeptFile). Does (keeping ifaces fs) rest mid new u v) (drop-set-lt (i + 1) files i next (omega arith)) more in
    subst (λ (fs : List KeptFile). Does (keeping ifaces fs) (next ∷ rest) old new t v) (sym (drop_one files i d lt))
    (does_after (keeping_one (wanted_in ifaces file.keeps) file) (λ first. after (keeping ifaces (drop (i + 1) files)) (λ rest. Done (first ∷ rest))) next
    (next ∷ rest) old mid new t u v one
    (does_after (keeping ifaces (drop (i + 1) files)) (λ rest. Done (next ∷ rest)) rest (next ∷ rest) mid new new u v v later (does_done (next ∷ rest) new v)))

-- what stood before, and then the rest
pub front_more : (files : List KeptFile) (i : ℕ) (next : KeptFile) (rest : List KeptFile) → i < length files
    → take i files ++ next ∷ rest ≡ take (i + 1) (set files i next) ++ rest
front_more files i next rest lt =
    sym (append_assoc (take i files) (next ∷ []) rest) ∙ ap (λ (fs : List KeptFile). fs ++ rest) (sym (take_more_set files i next lt))

pub keeping_end : (ifaces : List Iface) (files : List KeptFile) (i : ℕ) (seen : Seen) (text : List ℕ) → length files ≤ i
    → Does (keeping ifaces (drop i files)) [] seen seen text text
keeping_end ifaces files i seen text le =
    subst (λ (fs : List KeptFile). Does (keeping ifaces fs) [] seen seen text text) (sym (drop_all i files le)) (does_done [] seen text)

pub all_taken : (files : List KeptFile) (i : ℕ) → length files ≤ i → take i files ++ [] ≡ files
all_taken files i le = append-nil (take i files) ∙ take_all i files le

pub kept_end : (P : KeptFile → Type 0) (files : List KeptFile) (i : ℕ) → length files ≤ i → AllByRecursion P (take i files) → AllByRecursion P files
kept_end P files i le all = subst (AllByRecursion P) (take_all i files le) all

all_with : (P : KeptFile → Type 0) (files : List KeptFile) (next : KeptFile) → AllByRecursion P files → P next → AllByRecursion P (files ++ next ∷ [])
all_with P [] next all holds = (holds, tt)
all_with P (file ∷ files) next all holds = (all.0, all_with P files next all.1 holds)

pub kept_more : (P : KeptFile → Type 0) (files : List KeptFile) (i : ℕ) (next : KeptFile) → i < length files → AllByRecursion P (take i files) → P next
    → AllByRecursion P (take (i + 1) (set files i next))
kept_more P files i next lt all holds = subst (AllByRecursion P) (sym (take_more_set files i next lt)) (all_with P (take i files) next all holds)

pub but_first : (P : KeptFile → Type 0) (files : List KeptFile) (i : ℕ) (d : KeptFile) → i < length files → AllByRecursion P (drop i files)
    → P (get_or files i d)
but_first P files i d lt all = (subst (AllByRecursion P) (drop_one files i d lt) all).0

pub but_more : (P : KeptFile → Type 0) (files : List KeptFile) (i : ℕ) (next : KeptFile) → i < length files → AllByRecursion P (drop i files)
    → AllByRecursion P (drop (i + 1) (set files i next))
but_more P files i next lt all =
    subst (AllByRecursion P) (sym (drop-set-lt (i + 1) files i next (omega arith))) (subst (AllByRecursion P) (drop_one files i next lt) all).1

-- ---- where nothing was touched

none_among : (index : ℕ) (ifaces : List IfIndex) → (length ifaces == 0) ≡ true → is_touched index ifaces ≡ false
none_among index [] none = refl
none_among index (iface ∷ ifaces) none = absurd (grind (arith, nat_tests))

stays_same : (touched : Touched) (keeps : Keeps) → is_nothing touched ≡ true → may_differ keeps touched ≡ false
stays_same All keeps none = absurd cc
stays_same (These these) (Duid bytes) none = refl
stays_same (These these) (Lease4 iface) none =
    none_among iface these.now.ifaces.items (and_parts (length these.now.ifaces.items == 0) (not (is_other these.now.resolver)) none).0
stays_same (These these) (Lease6 iface) none =
    none_among iface these.now.ifaces.items (and_parts (length these.now.ifaces.items == 0) (not (is_other these.now.resolver)) none).0
stays_same (These these) Resolver none =
    not-true (is_other these.now.resolver) (and_parts (length these.now.ifaces.items == 0) (not (is_other these.now.resolver)) none).1

-- all files hold what they are to hold
pub keeping_nothing : (ifaces : List Iface) (touched : Touched) (files : List KeptFile) (seen : Seen) (text : List ℕ) → is_nothing touched ≡ true
    → list_any (λ file. is_unknown file.known) files ≡ false
    → AreKeptBut touched ifaces files → Does (keeping ifaces files) files seen seen text text
keeping_nothing ifaces touched [] seen text none known kept = does_done [] seen text
keeping_nothing ifaces touched (file ∷ files) seen text none known kept =
    let both = or_none (is_unknown file.known) (list_any (λ (one : KeptFile). is_unknown one.known) files) known in
    does_after (keeping_one (wanted_in ifaces file.keeps) file) (λ first. after (keeping ifaces files) (λ rest. Done (first ∷ rest))) file
    (file ∷ files) seen seen seen text text text
    (keeps_settled (wanted_in ifaces file.keeps) file seen text (kept.0 (stays_same touched file.keeps none) both.0))
    (does_after (keeping ifaces files) (λ rest. Done (file ∷ rest)) files (file ∷ files) seen seen seen text text text
    (keeping_nothing ifaces touched files seen text none both.1 kept.1) (does_done (file ∷ files) seen text))

pub kept_still : (ifaces : List Iface) (touched : Touched) (files : List KeptFile) → is_nothing touched ≡ true → AreKeptBut touched ifaces files
    → AreKept ifaces files
kept_still ifaces touched [] none kept = tt
kept_still ifaces touched (file ∷ files) none kept = (kept.0 (stays_same touched file.keeps none), kept_still ifaces touched files none kept.1)

-- ---- from turn to turn

unchanged : (resolver : Telling) → is_other resolver ≡ false → resolver ≡ Same
unchanged Same same = refl
unchanged Other same = absurd cc

-- what a file is to hold stays where its interface wasn't touched
stays_wanted : (touched : client.Touched) (these : Bor client.Touched) (old new : List Iface) (keeps : Keeps) → these.now ≡ touched
    → KeepsUntouched touched old new
    → may_differ keeps (These these) ≡ false → wanted_in new keeps ≡ wanted_in old keeps
stays_wanted touched these old new (Duid bytes) is stays untouched = refl
stays_wanted touched these old new (Lease4 iface) is stays untouched =
    ap (option_map lease4_text) (stays.kept4 iface (ap (λ (all : client.Touched). is_touched iface all.ifaces.items) (sym is) ∙ untouched))
stays_wanted touched these old new (Lease6 iface) is stays untouched =
    ap (option_map lease6_text) (stays.kept6 iface (ap (λ (all : client.Touched). is_touched iface all.ifaces.items) (sym is) ∙ untouched))
stays_wanted touched these old new Resolver is stays untouched =
    stays.resolver (unchanged touched.resolver (ap (λ (all : client.Touched). is_other all.resolver) (sym is) ∙ untouched))

-- files stay as they are to be where their interfaces weren't touched
pub kept_but : (touched : client.Touched) (these : Bor client.Touched) (old new : List Iface) (files : List KeptFile) → these.now ≡ touched
    → KeepsUntouched touched old new → AreKept old files → AreKeptBut (These these) new files
kept_but touched these old new [] is keeps kept = tt
kept_but touched these old new (file ∷ files) is keeps kept = (
  λ untouched known. ap (is_settled file.keeps file.known) (stays_wanted touched these old new file.keeps is keeps untouched) ∙ kept.0 known,
  kept_but touched these old new files is keeps kept.1,
)

-- at the opening each file is looked at
all_differ : (keeps : Keeps) → may_differ keeps All ≡ true
all_differ (Duid bytes) = refl
all_differ (Lease4 iface) = refl
all_differ (Lease6 iface) = refl
all_differ Resolver = refl

pub all_but : (ifaces : List Iface) (files : List KeptFile) → AreKeptBut All ifaces files
all_but ifaces [] = tt
all_but ifaces (file ∷ files) = (λ untouched. absurd (let bad : true ≡ false = sym (all_differ file.keeps) ∙ untouched in cc), all_but ifaces files)

pub in_bounds : (files initial : List KeptFile) (i : ℕ) → length files ≡ length initial → i < length initial → i < length files
in_bounds files initial i count lt = omega (arith, count, lt)

pub out_of_bounds : (files initial : List KeptFile) (i : ℕ) → length files ≡ length initial → length initial ≤ i → length files ≤ i
out_of_bounds files initial i count le = omega (arith, count, le)

-- the files in their places, after each was brought to what it is to hold
pub stays_in_place : (before : Vec KeptFile) (new : List KeptFile) → length new ≡ length before.items → (with_items before new).items ≡ new
stays_in_place before new count = with_items_is before new (count ∙ sym before.ok.0)
