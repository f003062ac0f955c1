-- What is kept reaches its file.
use Rattle.std.proofs.Common.{◌≡◌, inl, inr, ℕ, Bool, true, false, List, [], ◌∷◌, ◌++◌, map, Option, Some, None, nat_eq, refl, sym, ap, subst, ◌∙◌, arith}
use Rattle.std.specs.Prelude.{flat_map, IfSome, option_map, if◌then◌else◌}
use Rattle.std.specs.List.{AllByRecursion, IsDistinct}
use Rattle.std.proofs.lemmas.Bool.{false≢true}
use Rattle.std.proofs.lemmas.Bool.Decides.{nat_tests}
use Rattle.net_types.specs.declared.interface.IfSpec.{IfSpec}
use Rattle.net_types.proofs.AllLaws.{all_both, all_mapped}
use Rattle.lease_text.specs.Leases.{LeaseContent}
use Rattle.lease_text.specs.LeaseLines.{lease4_text}
use Rattle.lease6_text.specs.Leases.{Lease6Content}
use Rattle.lease6_text.specs.LeaseLines.{lease6_text}
use Rattle.world.specs.declared.wakes.Begin.{Begin}
use Rattle.world.specs.FileLists.{StoreFile, file_at}
use Rattle.world.specs.LinkCalls.{Given}
use Rattle.settings.specs.declared.interfaces.Managed.{Managed}
use Rattle.client_model.specs.declared.interfaces.Iface.{Iface}
use Rattle.client_model.specs.Clients.{Client, ClientStep, kept_lease, kept_lease6}
use Rattle.client_model.specs.ClientSettings.{runs_dhcp4}
use Rattle.client_model.specs.ClientSettings6.{runs_dhcp6, some_need_duid}
use Rattle.client_model.specs.IfaceSteps.{index_of}
use Rattle.client_model.proofs.SameInterfaces.{managed_in, all_turned}
use Rattle.device_calls.specs.Calls.{Call}
use Rattle.device_calls.specs.Worlds.{World}
use Rattle.device_calls.proofs.Running.{run_makes}
use Rattle.turn_model.specs.Foretold.{told_wake, told_bytes, woken, ran_turn, ran_opening}
use Rattle.turn_model.specs.KeptFiles.{Keeps, Duid, Lease4, Lease6, Resolver, KeptFile, wanted_in, is_left}
use Rattle.turn_model.specs.Loading.{duid_file, lease4_file, lease6_file, resolver_file, loading_files}
use Rattle.turn_model.specs.FilesInLife.{Filed, filed_as, filed_if, filed_for, IsAsKept, KeepsFiles, all_done}
use Rattle.turn_model.specs.HostInLife.{Running, running_opened, running_turned, running_after, life_run}
use Rattle.turn_model.specs.Opening.{opening_step}
use Rattle.turn_model.specs.Turns.{until, input_of, step_of}
use Rattle.turn_model.proofs.Acting.{Acts, turn_acts, ran_clearing, ran_loading, opening_acts}
use Rattle.turn_model.proofs.HostInLifeTurns.{opening_managed}
use Rattle.turn_model.proofs.FilesInLifeTurns.{opening_files, turn_files}
use Rattle.progress.specs.FilesReach.{AreNumberedApart, Lease4IsFiled, Lease6IsFiled, FilesAreThere, OpeningReachesFiles, TurnsReachFiles}

-- ---- files

-- the leases that the interface of a number keeps are in the files
record Numbered (ifaces : List Iface) (files : List StoreFile) (m : Managed) : Type 0 where
  lease4 : runs_dhcp4 m.conf ≡ true → IfSome (kept_lease m.spec.index.number ifaces) (λ lease. file_at (lease4_file m) files ≡ Some (lease4_text lease))
  lease6 : runs_dhcp6 m.conf ≡ true → IfSome (kept_lease6 m.spec.index.number ifaces) (λ lease. file_at (lease6_file m) files ≡ Some (lease6_text lease))

-- what isn't left alone is as it is to be
abbrev IsThere : (ifaces : List Iface) → (files : List StoreFile) → Filed → Type 0
IsThere ifaces files filed =
    is_left filed.keeps (wanted_in ifaces filed.keeps) ≡ false → file_at filed.name files ≡ wanted_in ifaces filed.keeps

module _ (ifaces : List Iface) (files : List StoreFile) where
  front_there : (xs ys : List Filed) → AllByRecursion (IsThere ifaces files) (xs ++ ys) → AllByRecursion (IsThere ifaces files) xs
  front_there [] ys all = tt
  front_there (x ∷ xs) ys all = (all.0, front_there xs ys all.1)

  back_there : (xs ys : List Filed) → AllByRecursion (IsThere ifaces files) (xs ++ ys) → AllByRecursion (IsThere ifaces files) ys
  back_there [] ys all = all
  back_there (x ∷ xs) ys all = back_there xs ys all.1

  filed_there : (is_kept : Bool) (keeps : Keeps) (name : List ℕ) → AllByRecursion (IsThere ifaces files) (filed_if is_kept keeps name)
      → is_kept ≡ true → IsThere ifaces files (record { keeps = keeps; name = name })
  filed_there true keeps name all e = all.0
  filed_there false keeps name all e = absurd (false≢true e)

  lease4_there : (number : ℕ) (name : List ℕ) (kept : Option LeaseContent) → kept_lease number ifaces ≡ kept
      → IsThere ifaces files (record { keeps = Lease4 number; name = name })
      → IfSome kept (λ lease. file_at name files ≡ Some (lease4_text lease))
  lease4_there number name None e there = tt
  lease4_there number name (Some lease) e there =
      let texts : wanted_in ifaces (Lease4 number) ≡ Some (lease4_text lease) = ap (λ (k : Option LeaseContent). option_map lease4_text k) e in
      there (ap (λ (w : Option (List ℕ)). is_left (Lease4 number) w) texts) ∙ texts

  lease6_there : (number : ℕ) (name : List ℕ) (kept : Option Lease6Content) → kept_lease6 number ifaces ≡ kept
      → IsThere ifaces files (record { keeps = Lease6 number; name = name })
      → IfSome kept (λ lease. file_at name files ≡ Some (lease6_text lease))
  lease6_there number name None e there = tt
  lease6_there number name (Some lease) e there =
      let texts : wanted_in ifaces (Lease6 number) ≡ Some (lease6_text lease) = ap (λ (k : Option Lease6Content). option_map lease6_text k) e in
      there (ap (λ (w : Option (List ℕ)). is_left (Lease6 number) w) texts) ∙ texts

  leases_there : (m : Managed) → AllByRecursion (IsThere ifaces files) (filed_for m) → Numbered ifaces files m
  leases_there m all =
      let four : List Filed = filed_if (runs_dhcp4 m.conf) (Lease4 m.spec.index.number) (lease4_file m) in
      let six : List Filed = filed_if (runs_dhcp6 m.conf) (Lease6 m.spec.index.number) (lease6_file m) in
      record {
        lease4 = λ runs. lease4_there m.spec.index.number (lease4_file m) (kept_lease m.spec.index.number ifaces) refl
            (filed_there (runs_dhcp4 m.conf) (Lease4 m.spec.index.number) (lease4_file m) (front_there four six all) runs);
        lease6 = λ runs. lease6_there m.spec.index.number (lease6_file m) (kept_lease6 m.spec.index.number ifaces) refl
            (filed_there (runs_dhcp6 m.conf) (Lease6 m.spec.index.number) (lease6_file m) (back_there four six all) runs);
      }

  all_leases : (managed : List Managed) → AllByRecursion (IsThere ifaces files) (flat_map filed_for managed)
      → AllByRecursion (Numbered ifaces files) managed
  all_leases [] all = tt
  all_leases (m ∷ more) all =
      (leases_there m (front_there (filed_for m) (flat_map filed_for more) all), all_leases more (back_there (filed_for m) (flat_map filed_for more) all))

kept_there : (after : Running) (file : KeptFile) → IsAsKept after file
    → IsThere after.life.client.ifaces after.world.store.told.files (filed_as file)
kept_there after file (inl e) left = e
kept_there after file (inr alone) left = absurd (false≢true (sym left ∙ alone.1))

all_filed : (after : Running) (files : List KeptFile) → AllByRecursion (IsAsKept after) files
    → AllByRecursion (IsThere after.life.client.ifaces after.world.store.told.files) (map filed_as files)
all_filed after [] all = tt
all_filed after (file ∷ files) all = (kept_there after file all.0, all_filed after files all.1)

-- ---- each interface is found by its number

when_true : {X : Type 0} (b : Bool) (x y : X) → b ≡ true → (if b then x else y) ≡ x
when_true true x y e = refl
when_true false x y e = absurd (false≢true e)

when_false : {X : Type 0} (b : Bool) (x y : X) → b ≡ false → (if b then x else y) ≡ y
when_false true x y e = absurd (false≢true (sym e))
when_false false x y e = refl

itself : (n : ℕ) → nat_eq n n ≡ true
itself n = grind (arith, nat_tests)

abbrev Differs : Iface → Iface → Type 0
Differs iface other = nat_eq (index_of iface) (index_of other) ≡ false

differ : (iface : Iface) (others : List Iface)
    → AllByRecursion (λ number. nat_eq (index_of iface) number ≡ false) (map (λ (m : Managed). m.spec.index.number) (managed_in others))
    → AllByRecursion (Differs iface) others
differ iface others all =
    all_mapped (λ (m : Managed). nat_eq (index_of iface) m.spec.index.number ≡ false) (λ (it : Iface). it.managed) others
    (all_mapped (λ (number : ℕ). nat_eq (index_of iface) number ≡ false) (λ (m : Managed). m.spec.index.number) (managed_in others) all)

abbrev Found4 : List Iface → Iface → Type 0
Found4 ifaces iface = kept_lease (index_of iface) ifaces ≡ iface.dhcp4.kept

abbrev Found6 : List Iface → Iface → Type 0
Found6 ifaces iface = kept_lease6 (index_of iface) ifaces ≡ iface.dhcp6.kept

found4 : (ifaces : List Iface) → AreNumberedApart (managed_in ifaces) → AllByRecursion (Found4 ifaces) ifaces
unfolding IsDistinct
found4 [] apart = tt
found4 (iface ∷ others) apart = (
  when_true (nat_eq (index_of iface) (index_of iface)) iface.dhcp4.kept (kept_lease (index_of iface) others) (itself (index_of iface)),
  all_both (Differs iface) (Found4 others) (Found4 (iface ∷ others))
      (λ other differs found. when_false (nat_eq (index_of iface) (index_of other)) iface.dhcp4.kept (kept_lease (index_of other) others) differs ∙ found)
      others (differ iface others apart.0) (found4 others apart.1),
)

found6 : (ifaces : List Iface) → AreNumberedApart (managed_in ifaces) → AllByRecursion (Found6 ifaces) ifaces
unfolding IsDistinct
found6 [] apart = tt
found6 (iface ∷ others) apart = (
  when_true (nat_eq (index_of iface) (index_of iface)) iface.dhcp6.kept (kept_lease6 (index_of iface) others) (itself (index_of iface)),
  all_both (Differs iface) (Found6 others) (Found6 (iface ∷ others))
      (λ other differs found. when_false (nat_eq (index_of iface) (index_of other)) iface.dhcp6.kept (kept_lease6 (index_of other) others) differs ∙ found)
      others (differ iface others apart.0) (found6 others apart.1),
)

-- ---- the interfaces of a life are those that are managed

same_opened : (managed : List Managed) (specs : List IfSpec) (world : World)
    → managed_in (running_opened managed specs world).life.client.ifaces ≡ managed
same_opened managed specs world =
    let begin : Begin = world.link.told.begin in
    let step : ClientStep = opening_step managed (ran_loading managed specs begin world).result specs begin in
    let it : Acts managed None step.client world.host (ran_opening managed specs world) = opening_acts managed specs begin world in
    let same : managed_in step.client.ifaces ≡ managed =
    opening_managed managed specs begin _ (ran_loading managed specs begin world).result
    (run_makes (loading_files managed) (ran_clearing managed specs begin world).world) in
    ap (λ (c : Client). managed_in c.ifaces) it.client_is ∙ same

same_turned : (managed : List Managed) (running : Running) (given : Given) → managed_in running.life.client.ifaces ≡ managed
    → managed_in (running_turned managed running given).life.client.ifaces ≡ managed
same_turned managed running given was =
    let it : Acts managed running.life.known (step_of running.life (told_wake given) (told_bytes given)).client running.world.host
    (ran_turn managed running.life running.world given) =
    turn_acts managed running.life (told_wake given) (told_bytes given) (woken (until running.life) (told_wake given) (told_bytes given) running.world) in
    let same : managed_in (step_of running.life (told_wake given) (told_bytes given)).client.ifaces ≡ managed =
    all_turned running.life.client.own (input_of running.life (told_wake given) (told_bytes given)) running.life.client.ifaces ∙ was in
    ap (λ (c : Client). managed_in c.ifaces) it.client_is ∙ same

same_after : (managed : List Managed) (turns : List Given) (running : Running) → managed_in running.life.client.ifaces ≡ managed
    → managed_in (running_after managed turns running).life.client.ifaces ≡ managed
same_after managed [] running was = was
same_after managed (given ∷ coming) running was =
    same_after managed coming (running_turned managed running given) (same_turned managed running given was)

-- ---- all of it

files_there : (managed : List Managed) (calls : List Call) (after : Running) → KeepsFiles managed calls after → all_done calls ≡ true
    → AreNumberedApart managed → managed_in after.life.client.ifaces ≡ managed → FilesAreThere after
files_there managed calls after keeps done apart same =
    let ifaces : List Iface = after.life.client.ifaces in
    let files : List StoreFile = after.world.store.told.files in
    let of_duid : List Filed = filed_if (some_need_duid managed) (Duid keeps.duid) duid_file in
    let of_leases : List Filed = flat_map filed_for managed in
    let of_resolver : List Filed = filed_if true Resolver resolver_file in
    let all : AllByRecursion (IsThere ifaces files) (of_duid ++ (of_leases ++ of_resolver)) =
    subst (λ (filed : List Filed). AllByRecursion (IsThere ifaces files) filed) keeps.filed (all_filed after after.life.files (keeps.kept done)) in
    let rest : AllByRecursion (IsThere ifaces files) (of_leases ++ of_resolver) = back_there ifaces files of_duid (of_leases ++ of_resolver) all in
    let numbered : AllByRecursion (λ (iface : Iface). Numbered ifaces files iface.managed) ifaces =
    all_mapped (Numbered ifaces files) (λ (iface : Iface). iface.managed) ifaces
    (subst (λ (ms : List Managed). AllByRecursion (Numbered ifaces files) ms) (sym same)
    (all_leases ifaces files managed (front_there ifaces files of_leases of_resolver rest))) in
    let apart_here : AreNumberedApart (managed_in ifaces) = subst AreNumberedApart (sym same) apart in
    record {
      leases4 = all_both (λ (iface : Iface). Numbered ifaces files iface.managed) (Found4 ifaces) (Lease4IsFiled files)
          (λ iface it found runs.
          subst (λ (kept : Option LeaseContent). IfSome kept (λ lease. file_at (lease4_file iface.managed) files ≡ Some (lease4_text lease)))
          found (it.lease4 runs))
          ifaces numbered (found4 ifaces apart_here);
      leases6 = all_both (λ (iface : Iface). Numbered ifaces files iface.managed) (Found6 ifaces) (Lease6IsFiled files)
          (λ iface it found runs.
          subst (λ (kept : Option Lease6Content). IfSome kept (λ lease. file_at (lease6_file iface.managed) files ≡ Some (lease6_text lease)))
          found (it.lease6 runs))
          ifaces numbered (found6 ifaces apart_here);
      resolver = filed_there ifaces files true Resolver resolver_file (back_there ifaces files of_leases of_resolver rest) refl refl;
    }

pub opening_reaches_files : OpeningReachesFiles
opening_reaches_files managed specs world apart numbers order done =
    files_there managed _ (running_opened managed specs world) (opening_files managed apart specs world order) done numbers
    (same_opened managed specs world)

pub turns_reach_files : TurnsReachFiles
turns_reach_files managed specs world earlier given apart numbers order done =
    let before : Running = life_run managed specs world earlier in
    files_there managed _ (running_turned managed before given) (turn_files managed apart specs world order earlier given) done numbers
    (same_turned managed before given (same_after managed earlier (running_opened managed specs world) (same_opened managed specs world)))
