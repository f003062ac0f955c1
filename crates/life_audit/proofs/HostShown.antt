-- The calls of the host in an opening or a turn show the rows that the host holds then, unless one of them failed.
use Rattle.std.proofs.Common.{◌≡◌, ◌⊎◌, inl, inr, ℕ, ◌+◌, Bool, true, false, not, ◌||◌, if◌then◌else◌, List, [], ◌∷◌, ◌++◌, flat_map, length, Option, Some, None, refl, sym, ap, subst, ◌∙◌, append_assoc, append-nil}
use Rattle.std.specs.List.{AllByRecursion, AllPass, list_any}
use Rattle.std.proofs.lemmas.Bool.{false≢true}
use Rattle.std.proofs.lemmas.List.Elements.{All-from_recursion}
use Rattle.world.specs.Causes.{has_number}
use Rattle.world.specs.declared.rows.HostRow.{HostRow}
use Rattle.world.specs.HostCalls.{HostCall, HostTold, Listed}
use Rattle.world.proofs.RowLists.{in_order_stays}
use Rattle.settings.specs.declared.interfaces.Managed.{Managed}
use Rattle.host_model.specs.declared.changes.HostChange.{HostChange}
use Rattle.host_model.specs.declared.changes.HostChange.TheVariants.{Remove, Add}
use Rattle.host_model.specs.HostTable.{InRowOrder, NoneFails, is_done}
use Rattle.host_model.specs.HostTurn.{HostMet, applied, change_call, change_calls, changes_from, host_calls, known_after, learnt}
use Rattle.host_model.specs.ToldHost.{change_from, fails_next, listing_from, told_changes, told_host}
use Rattle.host_model.proofs.HostTableRows.{with_in_order, without_in_order}
use Rattle.client_model.specs.Clients.{Client, rows_of}
use Rattle.device_calls.specs.Calls.{Ask, Offer, ListRows, Change, ListAsides, Read, WriteAside, SyncAside, RenameAside, RemoveFile, Settle, Start, Poll, Abandon, Drop, host_call, made}
use Rattle.device_calls.specs.Programs.{Asks, Done, Then}
use Rattle.device_calls.specs.Worlds.{Ran, Told, World, answer_to, run, world_with}
use Rattle.turn_model.specs.Turns.{Life}
use Rattle.turn_model.proofs.Acting.{Acts}
use Rattle.audit_model.specs.LivesTold.{has_failed, rows_by, rows_by_calls}
use Rattle.audit_model.proofs.CallsTold.{calls_apart}

-- ---- one question

listed_rows : (fails : Bool) (rows : List HostRow) → InRowOrder rows → rows_by rows (Listed (if fails then None else Some rows)) ≡ rows
listed_rows true rows order = refl
listed_rows false rows order = in_order_stays rows order

changed_rows : (change : HostChange) (done : Bool) (rows : List HostRow)
    → rows_by rows (change_call change done) ≡ (if done then applied change rows else rows)
changed_rows (Remove row) true rows = refl
changed_rows (Remove row) false rows = refl
changed_rows (Add row) true rows = refl
changed_rows (Add row) false rows = refl

changed_order : (change : HostChange) (done : Bool) (rows : List HostRow) → InRowOrder rows → InRowOrder (if done then applied change rows else rows)
changed_order (Remove row) true rows order = without_in_order row rows order
changed_order (Remove row) false rows order = order
changed_order (Add row) true rows order = with_in_order row rows order
changed_order (Add row) false rows order = order

-- what a question and its answer make of a host that tells
record One (ask : Ask) (world : World) : Type 0 where
  rows : InRowOrder world.host.told.rows
      → rows_by_calls world.host.told.rows (host_call (made ask (answer_to ask world))) ≡ (world_with ask (answer_to ask world) world).host.told.rows
  order : InRowOrder world.host.told.rows → InRowOrder (world_with ask (answer_to ask world) world).host.told.rows
  calls : (world_with ask (answer_to ask world) world).host.told.calls
      ≡ world.host.told.calls ++ host_call (made ask (answer_to ask world))

no_more : (calls : List HostCall) → calls ≡ calls ++ []
no_more calls = sym (append-nil calls)

one : (ask : Ask) (world : World) → One ask world
one (Offer iface frame) world = record { rows = λ order. refl; order = λ order. order; calls = no_more world.host.told.calls }
one ListRows world = record {
  rows = λ order. listed_rows (has_number world.host.failing (length world.host.told.calls + 1)) world.host.told.rows order;
  order = λ order. order;
  calls = refl;
}
one (Change change) world = record {
  rows = λ order. changed_rows change (not (has_number world.host.failing (length world.host.told.calls + 1))) world.host.told.rows;
  order = λ order. changed_order change (not (has_number world.host.failing (length world.host.told.calls + 1))) world.host.told.rows order;
  calls = refl;
}
one ListAsides world = record { rows = λ order. refl; order = λ order. order; calls = no_more world.host.told.calls }
one (Read name) world = record { rows = λ order. refl; order = λ order. order; calls = no_more world.host.told.calls }
one (WriteAside name bytes) world = record { rows = λ order. refl; order = λ order. order; calls = no_more world.host.told.calls }
one (SyncAside name) world = record { rows = λ order. refl; order = λ order. order; calls = no_more world.host.told.calls }
one (RenameAside name) world = record { rows = λ order. refl; order = λ order. order; calls = no_more world.host.told.calls }
one (RemoveFile name) world = record { rows = λ order. refl; order = λ order. order; calls = no_more world.host.told.calls }
one Settle world = record { rows = λ order. refl; order = λ order. order; calls = no_more world.host.told.calls }
one (Start job) world = record { rows = λ order. refl; order = λ order. order; calls = no_more world.host.told.calls }
one (Poll number) world = record { rows = λ order. refl; order = λ order. order; calls = no_more world.host.told.calls }
one (Abandon number) world = record { rows = λ order. refl; order = λ order. order; calls = no_more world.host.told.calls }
one (Drop job) world = record { rows = λ order. refl; order = λ order. order; calls = no_more world.host.told.calls }

-- ---- all questions

-- what the calls make of the rows is what the host holds then
pub run_rows : {A : Type 0} (asks : Asks A) (world : World) → InRowOrder world.host.told.rows
    → rows_by_calls world.host.told.rows (flat_map host_call (run asks world).calls) ≡ (run asks world).world.host.told.rows
run_rows (Done x) world order = refl
run_rows (Then ask next) world order =
    let o = one ask world in
    let later : World = world_with ask (answer_to ask world) world in
    let rest : List HostCall = flat_map host_call (run (next (answer_to ask world)) later).calls in
    calls_apart world.host.told.rows (host_call (made ask (answer_to ask world))) rest
    ∙ ap (λ rows. rows_by_calls rows rest) (o.rows order)
    ∙ run_rows (next (answer_to ask world)) later (o.order order)

run_calls : {A : Type 0} (asks : Asks A) (world : World)
    → (run asks world).world.host.told.calls ≡ world.host.told.calls ++ flat_map host_call (run asks world).calls
run_calls (Done x) world = no_more world.host.told.calls
run_calls (Then ask next) world =
    let later : World = world_with ask (answer_to ask world) world in
    let rest : List HostCall = flat_map host_call (run (next (answer_to ask world)) later).calls in
    run_calls (next (answer_to ask world)) later
    ∙ ap (λ calls. calls ++ rest) (one ask world).calls
    ∙ append_assoc world.host.told.calls (host_call (made ask (answer_to ask world))) rest

-- ---- the host's part

change_answered : (fails : Bool) (change : HostChange) (told : HostTold)
    → (change_from fails change told).calls ≡ told.calls ++ change_call change (not fails) ∷ []
change_answered true change told = refl
change_answered false change told = refl

changes_answered : (failing : List ℕ) (changes : List HostChange) (told : HostTold)
    → (told_changes failing changes told).told.calls ≡ told.calls ++ change_calls changes (told_changes failing changes told).answer
changes_answered failing [] told = no_more told.calls
changes_answered failing (change ∷ changes) told =
    let fails : Bool = fails_next failing told in
    let next : HostTold = change_from fails change told in
    let rest : List HostCall = change_calls changes (told_changes failing changes next).answer in
    changes_answered failing changes next
    ∙ ap (λ calls. calls ++ rest) (change_answered fails change told)
    ∙ append_assoc told.calls (change_call change (not fails) ∷ []) rest

listing_answered : (fails : Bool) (told : HostTold)
    → (listing_from fails told).told.calls ≡ told.calls ++ Listed (listing_from fails told).answer ∷ []
listing_answered true told = refl
listing_answered false told = refl

host_answered_all : (managed : List Managed) (failing : List ℕ) (known : Option (List HostRow)) (wanted : List HostRow) (told : HostTold)
    → (told_host managed failing known wanted told).told.calls
    ≡ told.calls ++ host_calls managed known wanted (told_host managed failing known wanted told).answer
host_answered_all managed failing (Some known) wanted told = changes_answered failing (changes_from (Some known) wanted) told
host_answered_all managed failing None wanted told =
    let fails : Bool = fails_next failing told in
    let changes : List HostChange = changes_from (learnt managed None (listing_from fails told).answer) wanted in
    let rest : List HostCall = change_calls changes (told_changes failing changes (listing_from fails told).told).answer in
    changes_answered failing changes (listing_from fails told).told
    ∙ ap (λ calls. calls ++ rest) (listing_answered fails told)
    ∙ append_assoc told.calls (Listed (listing_from fails told).answer ∷ []) rest

same_rest : {X : Type 0} {x : X} {a b : List X} → x ∷ a ≡ x ∷ b → a ≡ b
same_rest e = cc

same_later : {X : Type 0} (front a b : List X) → front ++ a ≡ front ++ b → a ≡ b
same_later [] a b e = e
same_later (x ∷ front) a b e = same_later front a b (same_rest e)

abbrev pub met_host : List Managed → List ℕ → Option (List HostRow) → (wanted : List HostRow) → HostTold → HostMet
met_host managed failing known wanted told = (told_host managed failing known wanted told).answer

pub calls_are : {A : Type 0} (asks : Asks A) (world : World) (managed : List Managed) (known : Option (List HostRow)) (wanted : List HostRow)
    → (run asks world).world.host.told ≡ (told_host managed world.host.failing known wanted world.host.told).told
    → flat_map host_call (run asks world).calls
    ≡ host_calls managed known wanted (met_host managed world.host.failing known wanted world.host.told)
calls_are asks world managed known wanted left =
    same_later world.host.told.calls (flat_map host_call (run asks world).calls)
    (host_calls managed known wanted (met_host managed world.host.failing known wanted world.host.told))
    (sym (run_calls asks world) ∙ ap (λ (told : HostTold). told.calls) left
    ∙ host_answered_all managed world.host.failing known wanted world.host.told)

-- ---- which rows are shown

abbrev has_failure : List HostCall → Bool
has_failure calls = list_any (λ call. not (is_done call)) calls

-- the calls show the same rows from others, or nothing is known then, since one failed
abbrev ShowSame : (rows others : List HostRow) → (calls : List HostCall) → (known : Option (List HostRow)) → Type 0
ShowSame rows others calls known = (rows_by_calls others calls ≡ rows_by_calls rows calls) ⊎ ((known ≡ None) × (has_failure calls ≡ true))

show_same : (managed : List Managed) (failing : List ℕ) (known : Option (List HostRow)) (wanted : List HostRow) (told : HostTold) (others : List HostRow)
    → ((rows : List HostRow) → known ≡ Some rows → others ≡ told.rows)
    → ShowSame told.rows others (host_calls managed known wanted (met_host managed failing known wanted told))
    (known_after managed known wanted (met_host managed failing known wanted told))
show_same managed failing (Some known) wanted told others same =
    inl (ap (λ rows. rows_by_calls rows (host_calls managed (Some known) wanted (met_host managed failing (Some known) wanted told))) (same known refl))
show_same managed failing None wanted told others same = which (fails_next failing told)
  where
    which : (fails : Bool) → ShowSame told.rows others
        (host_calls managed None wanted
        (record {
          listing = (listing_from fails told).answer;
          outcomes =
              (told_changes failing (changes_from (learnt managed None (listing_from fails told).answer) wanted) (listing_from fails told).told).answer;
        }))
        (known_after managed None wanted
        (record {
          listing = (listing_from fails told).answer;
          outcomes =
              (told_changes failing (changes_from (learnt managed None (listing_from fails told).answer) wanted) (listing_from fails told).told).answer;
        }))
    which true = inr (refl, refl)
    which false = inl refl

all_done : (calls : List HostCall) → has_failure calls ≡ false → AllByRecursion (λ call. is_done call ≡ true) calls
all_done [] e = tt
all_done (call ∷ calls) e = let both = neither (is_done call) (has_failure calls) e in (both.0, all_done calls both.1)
  where
    neither : (done others : Bool) → (not done || others) ≡ false → (done ≡ true) × (others ≡ false)
    neither true others e = (refl, e)
    neither false others e = absurd (false≢true (sym e))

-- ---- an opening or a turn

-- what its calls of the host show, where others were shown before
pub record HostShows (managed : List Managed) (known : Option (List HostRow)) (host : Told HostTold (List ℕ)) (others : List HostRow) (ran : Ran Life)
    : Type 0 where
  pub while_known : (rows : List HostRow) → ran.result.known ≡ Some rows
      → rows_by_calls others (flat_map host_call ran.calls) ≡ ran.world.host.told.rows
  pub unless_failed : has_failed ran.calls ≡ false → rows_by_calls others (flat_map host_call ran.calls) ≡ ran.world.host.told.rows
  pub none_fails : has_failed ran.calls ≡ false
      → NoneFails managed host.failing (rows_of ran.result.client) (record { known = known; told = host.told })

pub shows_host : (managed : List Managed) (known : Option (List HostRow)) (client : Client) (asks : Asks Life) (world : World) (others : List HostRow)
    → InRowOrder world.host.told.rows → Acts managed known client world.host (run asks world)
    → ((rows : List HostRow) → known ≡ Some rows → others ≡ world.host.told.rows)
    → HostShows managed known world.host others (run asks world)
shows_host managed known client asks world others order acts same =
    let wanted : List HostRow = rows_of client in
    let calls : List HostCall = flat_map host_call (run asks world).calls in
    let are = calls_are asks world managed known wanted acts.told_is in
    let shown = show_same managed world.host.failing known wanted world.host.told others same in
    record {
      while_known = λ rows found. known_so are shown acts.known_is rows found;
      unless_failed = λ none. failed_so are shown none;
      none_fails = λ none.
          subst (λ (c : Client). NoneFails managed world.host.failing (rows_of c) (record { known = known; told = world.host.told })) (sym acts.client_is)
          (subst (λ cs. AllPass is_done cs) are (All-from_recursion (λ call. is_done call ≡ true) calls (all_done calls none)));
    }
  where
    known_so : {told : List HostCall} {after : Option (List HostRow)} → flat_map host_call (run asks world).calls ≡ told
        → ShowSame world.host.told.rows others told after → (run asks world).result.known ≡ after
        → (rows : List HostRow) → (run asks world).result.known ≡ Some rows
        → rows_by_calls others (flat_map host_call (run asks world).calls) ≡ (run asks world).world.host.told.rows
    known_so are (inl shows) known_is rows found =
        ap (λ cs. rows_by_calls others cs) are ∙ shows ∙ ap (λ cs. rows_by_calls world.host.told.rows cs) (sym are) ∙ run_rows asks world order
    known_so are (inr failed) known_is rows found = absurd (no_rows (sym failed.0 ∙ sym known_is ∙ found))
      where
        no_rows : None ≡ Some rows → ⊥
        no_rows e = cc

    failed_so : {told : List HostCall} {after : Option (List HostRow)} → flat_map host_call (run asks world).calls ≡ told
        → ShowSame world.host.told.rows others told after → has_failed (run asks world).calls ≡ false
        → rows_by_calls others (flat_map host_call (run asks world).calls) ≡ (run asks world).world.host.told.rows
    failed_so are (inl shows) none =
        ap (λ cs. rows_by_calls others cs) are ∙ shows ∙ ap (λ cs. rows_by_calls world.host.told.rows cs) (sym are) ∙ run_rows asks world order
    failed_so are (inr failed) none = absurd (false≢true (sym none ∙ ap (λ cs. list_any (λ call. not (is_done call)) cs) are ∙ failed.1))
