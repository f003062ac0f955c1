-- In every life the resolver is told lines, and what is written to take the place of its file is lines.
use Rattle.std.proofs.Common.{◌≡◌, ℕ, Bool, true, false, List, [], ◌∷◌, ◌++◌, flat_map, map, Option, Some, None, IfSome, codes, refl, sym, subst, ap, ◌∙◌, arith}
use Rattle.std.specs.List.{AllByRecursion}
use Rattle.machine.specs.Moment.{moment_of}
use Rattle.net_types.proofs.AllLaws.{all_both, all_join, all_mapped}
use Rattle.net_types.proofs.CaseLaws.{gated}
use Rattle.net_types.specs.Marks.{AreBytes}
use Rattle.net_types.specs.NameText.{name_text}
use Rattle.net_types.specs.declared.interface.IfSpec.{IfSpec}
use Rattle.resolver_text.specs.TextLaws.{HasResolverLines}
use Rattle.world.specs.StoreCalls.{Reading}
use Rattle.world.specs.declared.rows.HostRow.{HostRow}
use Rattle.world.specs.declared.wakes.Begin.{Begin}
use Rattle.world.specs.declared.wakes.Wake.{Wake}
use Rattle.settings.specs.Fitting.{FitsManaged}
use Rattle.settings.specs.declared.interfaces.Managed.{Managed}
use Rattle.hook_child.specs.Supervision.{Supervision}
use Rattle.client_model.proofs.SameInterfaces.{all_opened, all_turned, managed_in}
use Rattle.client_model.specs.declared.interfaces.Iface.{Iface}
use Rattle.client_model.specs.ClientSettings.{runs_dhcp4}
use Rattle.client_model.specs.ClientSettings6.{runs_dhcp6, some_need_duid}
use Rattle.client_model.specs.Clients.{ClientStep, rows_of}
use Rattle.client_model.specs.IfaceTurns.{iface_turned}
use Rattle.client_model.specs.Interfaces.{opened}
use Rattle.client_model.specs.KeptLeases.{Beginning}
use Rattle.client_model.specs.ResolverParts.{resolver_wanted}
use Rattle.device_calls.specs.Calls.{Call, ListAsides, Read, RemoveFile, RenameAside, Settle, SyncAside, WriteAside}
use Rattle.device_calls.specs.Programs.{Asks, Done, Then, after}
use Rattle.turn_model.specs.Hooking.{hooking, polling}
use Rattle.turn_model.specs.KeptFiles.{Duid, Keeps, KeptFile, Lease4, Lease6, Resolver, bringing, if_done, is_settled, keeping, keeping_one, known_after, wanted_in}
use Rattle.turn_model.specs.Lives.{AreTurns, Met, OpeningMet, life_after, turn_calls, turns_calls}
use Rattle.turn_model.specs.Loading.{FilesLoaded, Loaded, beginnings_of, duid_file, duid_with, file_with, files_by, files_loaded, files_of, lease4_file, lease6_file, loaded, loading, loading_files, loading_one, reading_if, resolver_file}
use Rattle.turn_model.specs.Opening.{clearing, clearing_listed, opening_asks, opening_step, outlook_from, removing}
use Rattle.turn_model.specs.Turns.{Life, Outlook, acting, hosting, input_of, offering, outlook_with, step_of, stop_after, turn_asks, turn_moment}
use Rattle.turn_model.proofs.Asking.{HookAsks, HostAsks, LinkAsks, hooking_only, hosting_only, offering_only, polling_only}
use Rattle.turn_model.proofs.Loading.{beginnings_managed, files_are_loaded}
use Rattle.safe_texts.specs.ResolverLines.{AreOctets, HasServers, IsLife, IsLinesCall, WantedLinesAreSafe, WrittenLinesAreSafe}
use Rattle.safe_texts.proofs.FrameOctets.{Good4, Good6}
use Rattle.safe_texts.proofs.KeptOctets.{HasOctets, all_begin, octets_good, octets_kept}
use Rattle.safe_texts.proofs.KeptThrough.{all_opened_have, all_turned_have, steps_have}
use Rattle.safe_texts.proofs.PartLines.{IsFit, wanted_lines}
use Rattle.safe_texts.proofs.ProgramEnds as programs
use Rattle.safe_texts.proofs.ProgramEnds.{Any, Ended, MakesSo, both_ends, done_ends, only_ends, then_ends}

abbrev Ends : {A : Type 0} → (A → Type 0) → Asks A → Type 0
Ends {A} R asks = programs.Ends IsLinesCall R asks

-- ---- names of files: that of the resolver is of no other file

last_of : ℕ → List ℕ → ℕ
last_of d [] = d
last_of d (x ∷ xs) = last_of x xs

last_is : (d : ℕ) (front : List ℕ) (x : ℕ) (end : List ℕ) → last_of d (front ++ x ∷ end) ≡ last_of x end
unfolding last_of
last_is d [] x end = refl
last_is d (y ∷ front) x end = last_is y front x end

resolver_ends : last_of 0 resolver_file ≡ 102
unfolding last_of
resolver_ends = refl

unlike_ends : (name : List ℕ) (byte : ℕ) → last_of 0 name ≡ byte → (byte ≡ 102 → ⊥) → name ≡ resolver_file → ⊥
unlike_ends name byte ends unlike e = unlike (sym ends ∙ ap (last_of 0) e ∙ resolver_ends)

duid_unlike : duid_file ≡ resolver_file → ⊥
unfolding last_of
duid_unlike = unlike_ends duid_file 100 refl (λ e. absurd (omega arith))

lease4_unlike : (m : Managed) → lease4_file m ≡ resolver_file → ⊥
unfolding last_of
lease4_unlike m = unlike_ends (lease4_file m) 52 (last_is 0 (name_text m.spec.name) 46 (codes "lease4")) (λ e. absurd (omega arith))

lease6_unlike : (m : Managed) → lease6_file m ≡ resolver_file → ⊥
unfolding last_of
lease6_unlike m = unlike_ends (lease6_file m) 54 (last_is 0 (name_text m.spec.name) 46 (codes "lease6")) (λ e. absurd (omega arith))

-- the file of this name is the resolver's
record IsNamed (file : KeptFile) : Type 0 where
  resolver : file.name ≡ resolver_file → file.keeps ≡ Resolver

abbrev AreNamed : List KeptFile → Type 0
AreNamed files = AllByRecursion IsNamed files

file_named : (keeps : Keeps) (name : List ℕ) → (name ≡ resolver_file → keeps ≡ Resolver) → (read : Option Reading) → AreNamed (file_with keeps name read)
file_named keeps name named None = tt
file_named keeps name named (Some reading) = (record { resolver = named }, tt)

loaded_named : (one : Loaded) → AreNamed (files_by one)
loaded_named one =
    all_join IsNamed (file_with (Lease4 one.managed.spec.index.number) (lease4_file one.managed) one.lease4)
    (file_with (Lease6 one.managed.spec.index.number) (lease6_file one.managed) one.lease6)
    (file_named (Lease4 one.managed.spec.index.number) (lease4_file one.managed) (λ e. absurd (lease4_unlike one.managed e)) one.lease4)
    (file_named (Lease6 one.managed.spec.index.number) (lease6_file one.managed) (λ e. absurd (lease6_unlike one.managed e)) one.lease6)

all_named : (loaded : List Loaded) → AreNamed (flat_map files_by loaded)
all_named [] = tt
all_named (one ∷ loaded) = all_join IsNamed (files_by one) (flat_map files_by loaded) (loaded_named one) (all_named loaded)

files_named : (managed : List Managed) (files : FilesLoaded) → AreNamed (files_of managed files)
files_named managed files =
    all_join IsNamed (file_with (Duid (duid_with managed files)) duid_file files.duid)
    (flat_map files_by files.ifaces ++ file_with Resolver resolver_file (Some files.resolver))
    (file_named (Duid (duid_with managed files)) duid_file (λ e. absurd (duid_unlike e)) files.duid)
    (all_join IsNamed (flat_map files_by files.ifaces) (file_with Resolver resolver_file (Some files.resolver)) (all_named files.ifaces)
    (file_named Resolver resolver_file (λ e. refl) (Some files.resolver)))

-- ---- calls that write nothing aside

link_lines : LinkAsks (MakesSo IsLinesCall)
link_lines = record { offer = λ iface frame taken. tt }

host_lines : HostAsks (MakesSo IsLinesCall)
host_lines = record { list = λ rows. tt; change = λ change done. tt }

hook_lines : HookAsks (MakesSo IsLinesCall)
hook_lines = record { start = λ job done. tt; poll = λ number answer. tt; abandon = λ number answer. tt; drop = λ job answer. tt }

-- ---- clearing and reading files

removing_ends : (names : List (List ℕ)) → Ends Any (removing names)
removing_ends [] = then_ends IsLinesCall Any Settle (λ done. Done tt) (λ done. tt) (λ done. done_ends IsLinesCall Any tt tt)
removing_ends (name ∷ names) = then_ends IsLinesCall Any (RemoveFile name) (λ done. removing names) (λ done. tt) (λ done. removing_ends names)

listed_ends : (names : Option (List (List ℕ))) → Ends Any (clearing_listed names)
listed_ends None = done_ends IsLinesCall Any tt tt
listed_ends (Some []) = done_ends IsLinesCall Any tt tt
listed_ends (Some (name ∷ names)) = removing_ends (name ∷ names)

clearing_ends : Ends Any clearing
clearing_ends = then_ends IsLinesCall Any ListAsides clearing_listed (λ names. tt) listed_ends

reading_ends : (is_kept : Bool) (name : List ℕ) → Ends Any (reading_if is_kept name)
reading_ends true name =
    then_ends IsLinesCall Any (Read name) (λ reading. Done (Some reading)) (λ reading. tt) (λ reading. done_ends IsLinesCall Any (Some reading) tt)
reading_ends false name = done_ends IsLinesCall {A = Option Reading} Any None tt

iface_ends : (m : Managed) → Ends Any (loading_one m)
iface_ends m =
    let asks6 : Asks (Option Reading) = reading_if (runs_dhcp6 m.conf) (lease6_file m) in
    both_ends IsLinesCall Any Any (reading_if (runs_dhcp4 m.conf) (lease4_file m)) (λ lease4. after asks6 (λ lease6. Done (loaded m lease4 lease6)))
    (reading_ends (runs_dhcp4 m.conf) (lease4_file m))
    (λ lease4 any. both_ends IsLinesCall Any Any asks6 (λ lease6. Done (loaded m lease4 lease6)) (reading_ends (runs_dhcp6 m.conf) (lease6_file m))
    (λ lease6 any_too. done_ends IsLinesCall Any (loaded m lease4 lease6) tt))

ifaces_ends : (managed : List Managed) → Ends Any (loading managed)
ifaces_ends [] = done_ends IsLinesCall {A = List Loaded} Any [] tt
ifaces_ends (m ∷ managed) =
    both_ends IsLinesCall Any Any (loading_one m) (λ first. after (loading managed) (λ rest. Done (first ∷ rest))) (iface_ends m)
    (λ first any. both_ends IsLinesCall Any Any (loading managed) (λ rest. Done (first ∷ rest)) (ifaces_ends managed)
    (λ rest any_too. done_ends IsLinesCall Any (first ∷ rest) tt))

files_ends : (managed : List Managed) → Ends Any (loading_files managed)
files_ends managed =
    let resolver_asks : Option Reading → List Loaded → Asks FilesLoaded =
    λ duid ifaces. Then (Read resolver_file) (λ resolver. Done (files_loaded duid ifaces resolver)) in
    both_ends IsLinesCall Any Any (reading_if (some_need_duid managed) duid_file) (λ duid. after (loading managed) (resolver_asks duid))
    (reading_ends (some_need_duid managed) duid_file)
    (λ duid any. both_ends IsLinesCall Any Any (loading managed) (resolver_asks duid) (ifaces_ends managed)
    (λ ifaces any_too. then_ends IsLinesCall Any (Read resolver_file) (λ resolver. Done (files_loaded duid ifaces resolver)) (λ resolver. tt)
    (λ resolver. done_ends IsLinesCall Any (files_loaded duid ifaces resolver) tt)))

-- ---- keeping files

settle_ends : Ends Any (Then Settle (λ settled. Done settled))
settle_ends = then_ends IsLinesCall Any Settle (λ settled. Done settled) (λ settled. tt) (λ settled. done_ends IsLinesCall Any settled tt)

done_then : (done : Bool) (more : Asks Bool) → Ends Any more → Ends Any (if_done done more)
done_then true more ends = ends
done_then false more ends = done_ends IsLinesCall Any false tt

bringing_ends : (name : List ℕ) (wanted : Option (List ℕ)) → (name ≡ resolver_file → IfSome wanted HasResolverLines) → Ends Any (bringing name wanted)
bringing_ends name (Some bytes) lines =
    let settle : Asks Bool = Then Settle (λ settled. Done settled) in
    let rename : Asks Bool = Then (RenameAside name) (λ renamed. if_done renamed settle) in
    let sync : Asks Bool = Then (SyncAside name) (λ synced. if_done synced rename) in
    let renaming : Ends Any rename =
    then_ends IsLinesCall Any (RenameAside name) (λ renamed. if_done renamed settle) (λ renamed. tt) (λ renamed. done_then renamed settle settle_ends) in
    let syncing : Ends Any sync =
    then_ends IsLinesCall Any (SyncAside name) (λ synced. if_done synced rename) (λ synced. tt) (λ synced. done_then synced rename renaming) in
    then_ends IsLinesCall Any (WriteAside name bytes) (λ written. if_done written sync) (λ written. lines) (λ written. done_then written sync syncing)
bringing_ends name None lines =
    let settle : Asks Bool = Then Settle (λ settled. Done settled) in
    then_ends IsLinesCall Any (RemoveFile name) (λ removed. if_done removed settle) (λ removed. tt) (λ removed. done_then removed settle settle_ends)

module _ (ifaces : List Iface) (lines : IfSome (resolver_wanted ifaces) HasResolverLines) where
  file_lines : (file : KeptFile) → IsNamed file → file.name ≡ resolver_file → IfSome (wanted_in ifaces file.keeps) HasResolverLines
  file_lines file named e = subst (λ (k : Keeps). IfSome (wanted_in ifaces k) HasResolverLines) (sym (named.resolver e)) lines

  one_ends : (file : KeptFile) → IsNamed file → Ends IsNamed (keeping_one (wanted_in ifaces file.keeps) file)
  one_ends file named =
      let wanted : Option (List ℕ) = wanted_in ifaces file.keeps in
      let known_then : Bool → Asks KeptFile = λ done. Done (record file { known = known_after wanted done }) in
      gated (λ (asks : Asks KeptFile). Ends IsNamed asks) (is_settled file.keeps file.known wanted) (Done file) (after (bringing file.name wanted) known_then)
      (done_ends IsLinesCall IsNamed file named)
      (both_ends IsLinesCall Any IsNamed (bringing file.name wanted) known_then (bringing_ends file.name wanted (file_lines file named))
      (λ done any. done_ends IsLinesCall IsNamed (record file { known = known_after wanted done }) (record { resolver = named.resolver })))

  keeping_ends : (files : List KeptFile) → AreNamed files → Ends AreNamed (keeping ifaces files)
  keeping_ends [] named = done_ends IsLinesCall AreNamed [] tt
  keeping_ends (file ∷ files) named =
      both_ends IsLinesCall IsNamed AreNamed (keeping_one (wanted_in ifaces file.keeps) file)
      (λ first. after (keeping ifaces files) (λ rest. Done (first ∷ rest)))
      (one_ends file named.0)
      (λ first one. both_ends IsLinesCall AreNamed AreNamed (keeping ifaces files) (λ rest. Done (first ∷ rest)) (keeping_ends files named.1)
      (λ rest others. done_ends IsLinesCall AreNamed (first ∷ rest) (one, others)))

module _ (managed : List Managed) where
  -- ---- a step of the client

  -- the interfaces are those that are managed, and the values of their leases are bytes
  record KeepsOctets (ifaces : List Iface) : Type 0 where
    same : managed_in ifaces ≡ managed
    octets : AllByRecursion HasOctets ifaces

  record IsLinesLife (life : Life) : Type 0 where
    keeps : KeepsOctets life.client.ifaces
    named : AreNamed life.files

  told_lines : AllByRecursion IsFit managed → (ifaces : List Iface) → KeepsOctets ifaces → IfSome (resolver_wanted ifaces) HasResolverLines
  told_lines fit ifaces k = wanted_lines ifaces (all_mapped IsFit (λ (f : Iface). f.managed) ifaces (subst (AllByRecursion IsFit) (sym k.same) fit)) k.octets

  module _ (fit : AllByRecursion IsFit managed) (outlook : Outlook) (named : AreNamed outlook.files) (step : ClientStep) (k : KeepsOctets step.client.ifaces)
      (moment : ℕ) (stop : Option ℕ) where
    abbrev life_with : ℕ → Option (List HostRow) → Supervision → List KeptFile → Life
    life_with unsent known hooks files =
        record { client = step.client; known = known; files = files; hooks = hooks; now = moment; stop = stop; unsent = unsent }

    abbrev to_keep : ℕ → Option (List HostRow) → Supervision → Asks Life
    to_keep unsent known hooks = after (keeping step.client.ifaces outlook.files) (λ files. Done (life_with unsent known hooks files))

    abbrev to_hook : ℕ → Option (List HostRow) → Asks Life
    to_hook unsent known = after (hooking moment step.jobs outlook.hooks) (λ hooks. to_keep unsent known hooks)

    abbrev to_host : ℕ → Asks Life
    to_host unsent = after (hosting managed (rows_of step.client) outlook.known) (λ known. to_hook unsent known)

    keep_ends : (unsent : ℕ) (known : Option (List HostRow)) (hooks : Supervision) → Ends IsLinesLife (to_keep unsent known hooks)
    keep_ends unsent known hooks =
        both_ends IsLinesCall AreNamed IsLinesLife (keeping step.client.ifaces outlook.files) (λ files. Done (life_with unsent known hooks files))
        (keeping_ends step.client.ifaces (told_lines fit step.client.ifaces k) outlook.files named)
        (λ files are. done_ends IsLinesCall IsLinesLife (life_with unsent known hooks files) (record { keeps = k; named = are }))

    acting_ends : Ends IsLinesLife (acting managed outlook step moment stop)
    acting_ends =
        both_ends IsLinesCall Any IsLinesLife (offering step.sends 0) (λ unsent. to_host unsent)
        (only_ends IsLinesCall (offering step.sends 0) (offering_only (MakesSo IsLinesCall) link_lines step.sends 0))
        (λ unsent any. both_ends IsLinesCall Any IsLinesLife (hosting managed (rows_of step.client) outlook.known) (λ known. to_hook unsent known)
        (only_ends IsLinesCall (hosting managed (rows_of step.client) outlook.known)
        (hosting_only (MakesSo IsLinesCall) host_lines managed (rows_of step.client) outlook.known))
        (λ known any_too. both_ends IsLinesCall Any IsLinesLife (hooking moment step.jobs outlook.hooks) (λ hooks. to_keep unsent known hooks)
        (only_ends IsLinesCall (hooking moment step.jobs outlook.hooks) (hooking_only (MakesSo IsLinesCall) hook_lines moment step.jobs outlook.hooks))
        (λ hooks any_more. keep_ends unsent known hooks)))

  -- ---- turns

  turn_keeps : (life : Life) (wake : Wake) (bytes : List ℕ) → AreBytes bytes → KeepsOctets life.client.ifaces
      → KeepsOctets (step_of life wake bytes).client.ifaces
  turn_keeps life wake bytes octets k = record {
    same = all_turned life.client.own (input_of life wake bytes) life.client.ifaces ∙ k.same;
    octets = steps_have HasOctets (map (iface_turned life.client.own (input_of life wake bytes)) life.client.ifaces)
        (all_turned_have HasOctets Good4 Good6 octets_kept life.client.own (input_of life wake bytes) (octets_good bytes octets) life.client.ifaces k.octets);
  }

  turn_ends : AllByRecursion IsFit managed → (life : Life) (wake : Wake) (bytes : List ℕ) → AreBytes bytes → IsLinesLife life
      → Ends IsLinesLife (turn_asks managed life wake bytes)
  unfolding turn_asks
  turn_ends fit life wake bytes octets lines =
      let at : ℕ = turn_moment life wake in
      both_ends IsLinesCall Any IsLinesLife (polling at life.hooks)
      (λ hooks. acting managed (outlook_with life hooks) (step_of life wake bytes) at (stop_after life.stop wake.event at))
      (only_ends IsLinesCall (polling at life.hooks) (polling_only (MakesSo IsLinesCall) hook_lines at life.hooks))
      (λ hooks any. acting_ends fit (outlook_with life hooks) lines.named (step_of life wake bytes) (turn_keeps life wake bytes octets lines.keeps) at
      (stop_after life.stop wake.event at))

  record EndsSo (calls : List Call) (life : Life) : Type 0 where
    each : AllByRecursion IsLinesCall calls
    so : IsLinesLife life

  turns_lines : AllByRecursion IsFit managed → (mets : List Met) (life : Life) → IsLinesLife life → AreTurns managed life mets → AreOctets mets
      → EndsSo (turns_calls life mets) (life_after life mets)
  turns_lines fit [] life lines turns octets = record { each = tt; so = lines }
  turns_lines fit (met ∷ mets) life lines turns octets =
      let ended : Ended IsLinesCall IsLinesLife met.calls met.life = turn_ends fit life met.wake met.bytes octets.0 lines met.calls met.life turns.0.makes in
      let rest : EndsSo (turns_calls met.life mets) (life_after met.life mets) = turns_lines fit mets met.life ended.so turns.1 octets.1 in
      record { each = all_join IsLinesCall (turn_calls life met) (turns_calls met.life mets) (tt, ended.each) rest.each; so = rest.so }

  -- ---- the opening

  abbrev AllManaged : FilesLoaded → Type 0
  AllManaged files = map (λ (b : Beginning). b.managed) (beginnings_of managed files) ≡ managed

  loading_ends : Ends AllManaged (loading_files managed)
  loading_ends calls files makes = record {
    each = (files_ends managed calls files makes).each;
    so = beginnings_managed (duid_with managed files) files.ifaces ∙ files_are_loaded managed calls files makes;
  }

  opening_keeps : (files : FilesLoaded) → AllManaged files → (specs : List IfSpec) (begin : Begin)
      → KeepsOctets (opening_step managed files specs begin).client.ifaces
  opening_keeps files same specs begin =
      let at : ℕ = moment_of begin.at in
      record {
        same = all_opened begin.up at begin.salt (beginnings_of managed files) ∙ same;
        octets = steps_have HasOctets (map (opened begin.up at begin.salt) (beginnings_of managed files))
            (all_opened_have HasOctets Good4 Good6 octets_kept begin.up at begin.salt (beginnings_of managed files)
            (all_begin (duid_with managed files) files.ifaces));
      }

  opening_ends : AllByRecursion IsFit managed → (specs : List IfSpec) (begin : Begin) → Ends IsLinesLife (opening_asks managed specs begin)
  unfolding opening_asks
  opening_ends fit specs begin =
      let acts : FilesLoaded → Asks Life =
      λ files. acting managed (outlook_from managed files) (opening_step managed files specs begin) (moment_of begin.at) None in
      both_ends IsLinesCall Any IsLinesLife clearing (λ _. after (loading_files managed) acts) clearing_ends
      (λ _ any. both_ends IsLinesCall AllManaged IsLinesLife (loading_files managed) acts loading_ends
      (λ files same. acting_ends fit (outlook_from managed files) (files_named managed files) (opening_step managed files specs begin)
      (opening_keeps files same specs begin) (moment_of begin.at) None))

  life_lines : (specs : List IfSpec) (opening : OpeningMet) (mets : List Met) → IsLife managed specs opening mets
      → EndsSo (opening.calls ++ turns_calls opening.life mets) (life_after opening.life mets)
  life_lines specs opening mets life =
      let fit : AllByRecursion IsFit managed =
      all_both FitsManaged HasServers IsFit (λ m one other. record { fits = one; servers = other }) managed life.fit life.servers in
      let first : Ended IsLinesCall IsLinesLife opening.calls opening.life = opening_ends fit specs opening.begin opening.calls opening.life life.opens in
      let rest : EndsSo (turns_calls opening.life mets) (life_after opening.life mets) = turns_lines fit mets opening.life first.so life.turns life.octets in
      record { each = all_join IsLinesCall opening.calls (turns_calls opening.life mets) first.each rest.each; so = rest.so }

  life_wants_lines : (specs : List IfSpec) (opening : OpeningMet) (mets : List Met) → IsLife managed specs opening mets
      → IfSome (resolver_wanted (life_after opening.life mets).client.ifaces) HasResolverLines
  life_wants_lines specs opening mets life =
      let fit : AllByRecursion IsFit managed =
      all_both FitsManaged HasServers IsFit (λ m one other. record { fits = one; servers = other }) managed life.fit life.servers in
      told_lines fit (life_after opening.life mets).client.ifaces (life_lines specs opening mets life).so.keeps

pub wanted_lines_are_safe : WantedLinesAreSafe
wanted_lines_are_safe managed specs opening mets life = life_wants_lines managed specs opening mets life

pub written_lines_are_safe : WrittenLinesAreSafe
written_lines_are_safe managed specs opening mets life = (life_lines managed specs opening mets life).each
