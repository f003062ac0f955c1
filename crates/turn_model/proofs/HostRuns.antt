-- What a run of the host's part asks and leaves, in the host's own words.
use Rattle.std.proofs.Common.{◌≡◌, Bool, true, false, cond, List, [], ◌∷◌, Option, Some, None, refl, ap, ◌∙◌}
use Rattle.std.specs.Prelude.{map, not}
use Rattle.std.specs.List.{list_all}
use Rattle.world.specs.declared.rows.HostRow.{HostRow}
use Rattle.world.specs.HostCalls.{HostTold, Listed, host_answered}
use Rattle.client_model.specs.IfaceSettings.declared.interfaces.Managed.{Managed}
use Rattle.client_model.specs.HostModel.declared.changes.HostChange.{HostChange}
use Rattle.client_model.specs.HostModel.HostTurn.{changes, changes_from, learnt, change_call, change_calls, host_calls, applied, after_changes, known_after}
use Rattle.client_model.specs.HostModel.ToldHost.{change_from, told_changes, listing_from, told_host}
use Rattle.device_calls.specs.Calls.{Call, Host}
use Rattle.device_calls.specs.Worlds.{World, fails_host, host_with, with_host, run}
use Rattle.turn_model.specs.Turns.{known_with, changing, rows_on, hosting_listed, hosting}

-- ---- changes

step_same : (fails : Bool) (c : HostChange) (told : HostTold) → host_with c (not fails) told ≡ change_from fails c told
step_same true c told = refl
step_same false c told = refl

changing_left : (cs : List HostChange) (known : Option (List HostRow)) (world : World)
    → (run (changing cs known) world).world ≡ with_host (told_changes world.host.failing cs world.host.told).told world
changing_left [] known world = refl
changing_left (c ∷ cs) known world =
    changing_left cs (known_with (not (fails_host world.host)) c known) (with_host (host_with c (not (fails_host world.host)) world.host.told) world)
    ∙ ap (λ (t : HostTold). with_host (told_changes world.host.failing cs t).told world) (step_same (fails_host world.host) c world.host.told)

changing_calls : (cs : List HostChange) (known : Option (List HostRow)) (world : World)
    → (run (changing cs known) world).calls ≡ map Host (change_calls cs (told_changes world.host.failing cs world.host.told).answer)
changing_calls [] known world = refl
changing_calls (c ∷ cs) known world =
    ap (λ (rest : List Call). Host (change_call c (not (fails_host world.host))) ∷ rest)
    (changing_calls cs (known_with (not (fails_host world.host)) c known) (with_host (host_with c (not (fails_host world.host)) world.host.told) world)
    ∙ ap (λ (t : HostTold). map Host (change_calls cs (told_changes world.host.failing cs t).answer)) (step_same (fails_host world.host) c world.host.told))

known_none : (done : Bool) (c : HostChange) → known_with done c None ≡ None
known_none true c = refl
known_none false c = refl

unknown_stays : (cs : List HostChange) (world : World) → (run (changing cs None) world).result ≡ None
unknown_stays [] world = refl
unknown_stays (c ∷ cs) world =
    ap (λ (k : Option (List HostRow)). (run (changing cs k) (with_host (host_with c (not (fails_host world.host)) world.host.told) world)).result)
    (known_none (not (fails_host world.host)) c)
    ∙ unknown_stays cs (with_host (host_with c (not (fails_host world.host)) world.host.told) world)

-- the rows are known where all changes were done
abbrev KnownThen : List HostChange → List HostRow → World → Type 0
KnownThen cs known world =
    (run (changing cs (Some known)) world).result
    ≡ cond (list_all (λ done. done) (told_changes world.host.failing cs world.host.told).answer) (Some (after_changes cs known)) None

known_one : (fails : Bool) (c : HostChange) (cs : List HostChange) (known : List HostRow) (world : World) → ((k : List HostRow) (w : World) → KnownThen cs k w)
    → (run (changing cs (known_with (not fails) c (Some known))) (with_host (host_with c (not fails) world.host.told) world)).result
    ≡ cond (list_all (λ done. done) (not fails ∷ (told_changes world.host.failing cs (change_from fails c world.host.told)).answer))
    (Some (after_changes cs (applied c known))) None
known_one true c cs known world ih = unknown_stays cs (with_host (host_with c false world.host.told) world)
known_one false c cs known world ih = ih (applied c known) (with_host (host_with c true world.host.told) world)

changing_known : (cs : List HostChange) (known : List HostRow) (world : World) → KnownThen cs known world
changing_known [] known world = refl
changing_known (c ∷ cs) known world = known_one (fails_host world.host) c cs known world (changing_known cs)

-- ---- a listing

abbrev listing : Bool → World → Option (List HostRow)
listing fails world = cond fails None (Some world.host.told.rows)

abbrev listed : Bool → World → World
listed fails world = with_host (host_answered (Listed (listing fails world)) world.host.told.rows world.host.told) world

listed_left : (managed : List Managed) (wanted : List HostRow) (fails : Bool) (world : World)
    → (run (hosting_listed managed wanted (listing fails world)) (listed fails world)).world
    ≡ with_host
    (told_changes world.host.failing (changes_from (learnt managed None (listing_from fails world.host.told).answer) wanted)
    (listing_from fails world.host.told).told).told
    world
listed_left managed wanted true world = refl
listed_left managed wanted false world =
    changing_left (changes (rows_on managed world.host.told.rows) wanted) (Some (rows_on managed world.host.told.rows)) (listed false world)

listed_known : (managed : List Managed) (wanted : List HostRow) (fails : Bool) (world : World)
    → (run (hosting_listed managed wanted (listing fails world)) (listed fails world)).result
    ≡ known_after managed None wanted
    (record {
      listing = (listing_from fails world.host.told).answer;
      outcomes =
          (told_changes world.host.failing (changes_from (learnt managed None (listing_from fails world.host.told).answer) wanted)
          (listing_from fails world.host.told).told).answer;
    })
listed_known managed wanted true world = refl
listed_known managed wanted false world =
    changing_known (changes (rows_on managed world.host.told.rows) wanted) (rows_on managed world.host.told.rows) (listed false world)

listed_calls : (managed : List Managed) (wanted : List HostRow) (fails : Bool) (world : World)
    → (run (hosting_listed managed wanted (listing fails world)) (listed fails world)).calls
    ≡ map Host
    (change_calls (changes_from (learnt managed None (listing_from fails world.host.told).answer) wanted)
    (told_changes world.host.failing (changes_from (learnt managed None (listing_from fails world.host.told).answer) wanted)
    (listing_from fails world.host.told).told).answer)
listed_calls managed wanted true world = refl
listed_calls managed wanted false world =
    changing_calls (changes (rows_on managed world.host.told.rows) wanted) (Some (rows_on managed world.host.told.rows)) (listed false world)

listing_same : (fails : Bool) (world : World) → listing fails world ≡ (listing_from fails world.host.told).answer
listing_same true world = refl
listing_same false world = refl

-- ---- all of it

pub host_left : (managed : List Managed) (wanted : List HostRow) (known : Option (List HostRow)) (world : World)
    → (run (hosting managed wanted known) world).world ≡ with_host (told_host managed world.host.failing known wanted world.host.told).told world
host_left managed wanted None world = listed_left managed wanted (fails_host world.host) world
host_left managed wanted (Some known) world = changing_left (changes known wanted) (Some known) world

pub host_known : (managed : List Managed) (wanted : List HostRow) (known : Option (List HostRow)) (world : World)
    → (run (hosting managed wanted known) world).result
    ≡ known_after managed known wanted (told_host managed world.host.failing known wanted world.host.told).answer
host_known managed wanted None world = listed_known managed wanted (fails_host world.host) world
host_known managed wanted (Some known) world = changing_known (changes known wanted) known world

pub host_asked : (managed : List Managed) (wanted : List HostRow) (known : Option (List HostRow)) (world : World)
    → (run (hosting managed wanted known) world).calls
    ≡ map Host (host_calls managed known wanted (told_host managed world.host.failing known wanted world.host.told).answer)
host_asked managed wanted None world =
    ap
    (λ (rows : Option (List HostRow)). Host (Listed rows)
    ∷ (run (hosting_listed managed wanted (listing (fails_host world.host) world)) (listed (fails_host world.host) world)).calls)
    (listing_same (fails_host world.host) world)
    ∙ ap (λ (rest : List Call). Host (Listed (listing_from (fails_host world.host) world.host.told).answer) ∷ rest)
    (listed_calls managed wanted (fails_host world.host) world)
host_asked managed wanted (Some known) world = changing_calls (changes known wanted) (Some known) world
