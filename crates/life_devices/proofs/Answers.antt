-- What one device answered at one question.
use Rattle.std.proofs.Common.{ℕ, ◌≡◌, inl, inr, Bool, true, false, List, [], ◌∷◌, ◌++◌, Option, Some, None, Result, Ok, Err, refl, sym, ap, subst, ◌∙◌}
use Rattle.std.specs.Prelude.{not, cond, option_map, IfOk}
use Rattle.world.specs.declared.faults.DeviceAnswer.TheVariants as Answer
use Rattle.world.specs.declared.faults.DeviceAnswer.{DeviceAnswer}
use Rattle.world.specs.Causes.{Foretold, FailsAsTold, done_of}
use Rattle.world.specs.StoreFails.{StoreFails, StoreForetold}
use Rattle.world.specs.declared.rows.HostRow.{HostRow}
use Rattle.world.specs.RowOrder.{in_row_order}
use Rattle.world.specs.LinkCalls.{LinkTold, LinkCall, Offered, offered, Offers, AddsOffer, send_number}
use Rattle.world.specs.HostCalls.{HostCall, HostTold, Listed, host_answered, host_number, Shows, ListsRows, ListsNone, Changes}
use Rattle.world.specs.FileLists.{StoreFile, asides, file_at, rename_file}
use Rattle.world.specs.FileNames.{aside_of}
use Rattle.world.specs.SoundStores.{was_done}
use Rattle.file_choices.specs.StoreWalks.{LeavesAsTold, IsDoneAsTold, IsTrueOf, Answered}
use Rattle.world.specs.StoreCalls.{StoreCall, StoreTold, Reading, Found, Missing, Unread, ListedAsides, ReadFile, RenamedAside, reading_of, Appended, ListsAsides, ReadsFile, store_answered, store_number, files_by, ChangesFiles, RenamesAside, RenameForetold}
use Rattle.net_types.specs.declared.fault.Failed.{Failed}
use Rattle.world.specs.declared.hooking.Poll.{Poll}
use Rattle.world.specs.HookCalls.{HooksTold, HookCall, Job, Started, Polled, Abandoned, StartsJob, AnswersPoll, Abandons, start_number, next_answer, polled, hooks_answered, said_by_poll}
use Rattle.host_model.specs.declared.changes.HostChange.{HostChange}
use Rattle.host_model.specs.declared.changes.HostChange.TheVariants.{Remove, Add}
use Rattle.host_model.specs.HostTurn.{change_call, applied}
use Rattle.device_calls.specs.HostWalks.{LeavesRows, HostAnswered}
use Rattle.device_calls.specs.Telling.{Adds}
use Rattle.device_calls.specs.Worlds.{Told, fails_store, fails_renaming, store_changed}
use Rattle.life_devices.specs.Answered.{By, OfferedBy, ListedBy, ChangedBy, AsidesBy, ReadBy, RenamedBy, StartedBy, PolledBy, AbandonedBy}

abbrev done_call : Result (Unit {0}) DeviceAnswer
done_call = Ok tt

abbrev failed_call : Result (Unit {0}) DeviceAnswer
failed_call = Err Answer.Failed

abbrev no_memory : {T : Type 0} → Result T DeviceAnswer
no_memory = Err Answer.NoMemory

-- ---- the link

offer_adds : (iface : ℕ) (frame : List ℕ) (taken : Bool) (told : LinkTold) (new : Option LinkTold) → new ≡ Some (offered iface frame taken told)
    → Adds (Some told.calls) (option_map (λ t. t.calls) new) (Offered iface frame taken ∷ [])
offer_adds iface frame taken told new same =
    subst (λ (n : Option LinkTold). Adds (Some told.calls) (option_map (λ t. t.calls) n) (Offered iface frame taken ∷ [])) (sym same) refl

pub offered_by : (iface : ℕ) (frame : List ℕ) (failing : Option (List ℕ)) (old new : Option LinkTold) (answer : Result (Unit {0}) DeviceAnswer)
    → Offers iface frame old new answer → Foretold failing (send_number old) answer
    → IfOk (done_of answer) (λ taken. OfferedBy iface frame taken failing old new)
offered_by iface frame failing None new (Ok x) offers foretold = record { adds = tt; foretold_is = tt }
offered_by iface frame failing None new (Err Answer.Failed) offers foretold = record { adds = tt; foretold_is = tt }
offered_by iface frame None (Some told) new (Ok x) offers foretold = record { adds = offer_adds iface frame true told new offers; foretold_is = tt }
offered_by iface frame None (Some told) new (Err Answer.Failed) offers foretold =
    record { adds = offer_adds iface frame false told new offers; foretold_is = tt }
offered_by iface frame (Some failing) (Some told) new (Ok x) offers foretold =
    record { adds = offer_adds iface frame true told new offers; foretold_is = (ap not (sym foretold), offers) }
offered_by iface frame (Some failing) (Some told) new (Err Answer.Failed) offers foretold =
    record { adds = offer_adds iface frame false told new offers; foretold_is = (ap not (sym foretold), offers) }
offered_by iface frame failing old new (Err Answer.NoMemory) offers foretold = tt

pub unoffered : (iface : ℕ) (frame : List ℕ) (old new : Option LinkTold) → Offers {T = Unit {0}} iface frame old new no_memory → new ≡ old
unoffered iface frame None new offers = offers
unoffered iface frame (Some told) new offers = offers

-- the calls by themselves
pub offer_added : (iface : ℕ) (frame : List ℕ) (old new : Option (List LinkCall)) (answer : Result (Unit {0}) DeviceAnswer)
    → AddsOffer iface frame old new answer → IfOk (done_of answer) (λ taken. Adds old new (Offered iface frame taken ∷ []))
offer_added iface frame None new (Ok x) added = tt
offer_added iface frame None new (Err Answer.Failed) added = tt
offer_added iface frame (Some calls) new (Ok x) added =
    subst (λ (n : Option (List LinkCall)). Adds (Some calls) n (Offered iface frame true ∷ [])) (sym added) refl
offer_added iface frame (Some calls) new (Err Answer.Failed) added =
    subst (λ (n : Option (List LinkCall)). Adds (Some calls) n (Offered iface frame false ∷ [])) (sym added) refl
offer_added iface frame old new (Err Answer.NoMemory) added = tt

pub no_offer_added : (iface : ℕ) (frame : List ℕ) (old new : Option (List LinkCall))
    → AddsOffer {T = Unit {0}} iface frame old new no_memory → new ≡ old
no_offer_added iface frame None new added = added
no_offer_added iface frame (Some calls) new added = added

-- ---- the host

host_adds : (call : HostCall) (rows : List HostRow) (told : HostTold) (new : Option HostTold) → new ≡ Some (host_answered call rows told)
    → Adds (Some told.calls) (option_map (λ t. t.calls) new) (call ∷ [])
host_adds call rows told new same = subst (λ (n : Option HostTold). Adds (Some told.calls) (option_map (λ t. t.calls) n) (call ∷ [])) (sym same) refl

shown : (failing : Option (List ℕ)) (old new : Option HostTold) (listing : List HostRow) → Shows old new listing → Foretold failing (host_number old) done_call
    → ListedBy (Some (in_row_order listing)) failing old new
shown failing None new listing shows foretold = record { adds = tt; foretold_is = tt }
shown None (Some told) new listing shows foretold = record {
  adds =
      subst (λ (rows : List HostRow). Adds (Some told.calls) (option_map (λ t. t.calls) new) (Listed (Some rows) ∷ [])) (sym shows.0)
      (host_adds (Listed (Some told.rows)) told.rows told new shows.1);
  foretold_is = tt;
}
shown (Some failing) (Some told) new listing shows foretold = record {
  adds =
      subst (λ (rows : List HostRow). Adds (Some told.calls) (option_map (λ t. t.calls) new) (Listed (Some rows) ∷ [])) (sym shows.0)
      (host_adds (Listed (Some told.rows)) told.rows told new shows.1);
  foretold_is = (
    ap (λ (rows : List HostRow). Some rows) shows.0 ∙ ap (λ (b : Bool). cond b None (Some told.rows)) (sym foretold),
    shows.1 ∙ ap (λ (rows : List HostRow). Some (host_answered (Listed (Some rows)) told.rows told)) (sym shows.0),
  );
}

pub listed_by : (failing : Option (List ℕ)) (old new : Option HostTold) (before after : List HostRow) → before ≡ [] → ListsRows old new before after
    → Foretold failing (host_number old) done_call → ListedBy (Some (in_row_order after)) failing old new
listed_by failing old new before after empty lists foretold =
    let same : after ≡ lists.listing = lists.appended ∙ ap (λ (rows : List HostRow). rows ++ lists.listing) empty in
    subst (λ (rows : List HostRow). ListedBy (Some (in_row_order rows)) failing old new) (sym same) (shown failing old new lists.listing lists.told foretold)

pub failed_list_by : (failing : Option (List ℕ)) (old new : Option HostTold) → ListsNone old new Answer.Failed → Foretold failing (host_number old) failed_call
    → ListedBy None failing old new
failed_list_by failing None new none foretold = record { adds = tt; foretold_is = tt }
failed_list_by None (Some told) new none foretold = record { adds = host_adds (Listed None) told.rows told new none; foretold_is = tt }
failed_list_by (Some failing) (Some told) new none foretold =
    record { adds = host_adds (Listed None) told.rows told new none; foretold_is = (ap (λ (b : Bool). cond b None (Some told.rows)) (sym foretold), none) }

pub unlisted : (old new : Option HostTold) → ListsNone old new Answer.NoMemory → new ≡ old
unlisted None new none = none
unlisted (Some told) new none = none

pub changed_by : (change : HostChange) (failing : Option (List ℕ)) (old new : Option HostTold) (answer : Result (Unit {0}) DeviceAnswer)
    → Changes failing (applied change) (change_call change) old new answer → Foretold failing (host_number old) answer
    → IfOk (done_of answer) (λ done. ChangedBy change done failing old new)
changed_by change failing None new (Ok x) changes foretold = record { adds = tt; foretold_is = tt }
changed_by change failing None new (Err Answer.Failed) changes foretold = record { adds = tt; foretold_is = tt }
changed_by change None (Some told) new (Ok x) changes foretold = record { adds = host_adds (change_call change true) _ told new changes; foretold_is = tt }
changed_by change None (Some told) new (Err Answer.Failed) (inl changes) foretold =
    record { adds = host_adds (change_call change false) _ told new changes; foretold_is = tt }
changed_by change None (Some told) new (Err Answer.Failed) (inr changes) foretold =
    record { adds = host_adds (change_call change false) _ told new changes; foretold_is = tt }
changed_by change (Some failing) (Some told) new (Ok x) changes foretold =
    record { adds = host_adds (change_call change true) _ told new changes; foretold_is = (ap not (sym foretold), changes) }
changed_by change (Some failing) (Some told) new (Err Answer.Failed) changes foretold =
    record { adds = host_adds (change_call change false) _ told new changes; foretold_is = (ap not (sym foretold), changes) }
changed_by change failing old new (Err Answer.NoMemory) changes foretold = tt

pub unchanged : (change : HostChange) (failing : Option (List ℕ)) (old new : Option HostTold)
    → Changes {T = Unit {0}} failing (applied change) (change_call change) old new no_memory → new ≡ old
unchanged change failing None new changes = changes
unchanged change failing (Some told) new changes = changes

-- what a host tells that was answered so, whether or not it is told which of its calls fail
one_left : (call : HostCall) (rows : List HostRow) (told : HostTold) (new : Option HostTold) → new ≡ Some (host_answered call rows told)
    → LeavesRows call told.rows rows → HostAnswered (call ∷ []) (Some told) new
one_left call rows told new same leaves = (host_answered call rows told, same, (rows, leaves, refl))

shown_rows : (old new : Option HostTold) (listing : List HostRow) → Shows old new listing → HostAnswered (Listed (Some (in_row_order listing)) ∷ []) old new
shown_rows None new listing shows = shows
shown_rows (Some told) new listing shows =
    subst (λ (rows : List HostRow). HostAnswered (Listed (Some rows) ∷ []) (Some told) new) (sym shows.0)
    (one_left (Listed (Some told.rows)) told.rows told new shows.1 (refl, refl))

pub rows_answered : (old new : Option HostTold) (before after : List HostRow) → before ≡ [] → ListsRows old new before after
    → HostAnswered (Listed (Some (in_row_order after)) ∷ []) old new
rows_answered old new before after empty lists =
    let same : after ≡ lists.listing = lists.appended ∙ ap (λ (rows : List HostRow). rows ++ lists.listing) empty in
    subst (λ (rows : List HostRow). HostAnswered (Listed (Some (in_row_order rows)) ∷ []) old new) (sym same)
    (shown_rows old new lists.listing lists.told)

pub no_rows_answered : (old new : Option HostTold) → ListsNone old new Answer.Failed → HostAnswered (Listed None ∷ []) old new
no_rows_answered None new none = none
no_rows_answered (Some told) new none = one_left (Listed None) told.rows told new none refl

change_done : (change : HostChange) (told : HostTold) → LeavesRows (change_call change true) told.rows (applied change told.rows)
change_done (Remove row) told = refl
change_done (Add row) told = refl

change_kept : (change : HostChange) (told : HostTold) → LeavesRows (change_call change false) told.rows told.rows
change_kept (Remove row) told = inl refl
change_kept (Add row) told = inl refl

change_made : (change : HostChange) (told : HostTold) → LeavesRows (change_call change false) told.rows (applied change told.rows)
change_made (Remove row) told = inr refl
change_made (Add row) told = inr refl

pub row_answered : (change : HostChange) (failing : Option (List ℕ)) (old new : Option HostTold) (answer : Result (Unit {0}) DeviceAnswer)
    → Changes failing (applied change) (change_call change) old new answer
    → IfOk (done_of answer) (λ done. HostAnswered (change_call change done ∷ []) old new)
row_answered change failing None new (Ok x) changes = changes
row_answered change failing None new (Err Answer.Failed) changes = changes
row_answered change failing (Some told) new (Ok x) changes =
    one_left (change_call change true) (applied change told.rows) told new changes (change_done change told)
row_answered change None (Some told) new (Err Answer.Failed) (inl changes) =
    one_left (change_call change false) told.rows told new changes (change_kept change told)
row_answered change None (Some told) new (Err Answer.Failed) (inr changes) =
    one_left (change_call change false) (applied change told.rows) told new changes (change_made change told)
row_answered change (Some failing) (Some told) new (Err Answer.Failed) changes =
    one_left (change_call change false) told.rows told new changes (change_kept change told)
row_answered change failing old new (Err Answer.NoMemory) changes = tt

-- ---- the store

store_adds : (call : StoreCall) (files : List _) (told : StoreTold) (new : Option StoreTold) → new ≡ Some (store_answered call files told)
    → Adds (Some told.calls) (option_map (λ t. t.calls) new) (call ∷ [])
store_adds call files told new same = subst (λ (n : Option StoreTold). Adds (Some told.calls) (option_map (λ t. t.calls) n) (call ∷ [])) (sym same) refl

asides_here : (failing : Option StoreFails) (old new : Option StoreTold) (names : List (List ℕ)) → ListsAsides old new [] names done_call
    → StoreForetold failing (store_number old) done_call → AsidesBy (Some names) failing old new
asides_here failing None new names lists foretold = record { adds = tt; foretold_is = tt }
asides_here None (Some told) new names lists foretold = record {
  adds =
      subst (λ (ns : List (List ℕ)). Adds (Some told.calls) (option_map (λ t. t.calls) new) (ListedAsides (Some ns) ∷ [])) (sym lists.0)
      (store_adds (ListedAsides (Some (asides told.files))) told.files told new lists.1);
  foretold_is = tt;
}
asides_here (Some failing) (Some told) new names lists foretold = record {
  adds =
      subst (λ (ns : List (List ℕ)). Adds (Some told.calls) (option_map (λ t. t.calls) new) (ListedAsides (Some ns) ∷ [])) (sym lists.0)
      (store_adds (ListedAsides (Some (asides told.files))) told.files told new lists.1);
  foretold_is = (
    ap (λ (ns : List (List ℕ)). Some ns) lists.0 ∙ ap (λ (b : Bool). cond b None (Some (asides told.files))) (sym foretold),
    lists.1 ∙ ap (λ (ns : List (List ℕ)). Some (store_answered (ListedAsides (Some ns)) told.files told)) (sym lists.0),
  );
}

pub asides_by : (failing : Option StoreFails) (old new : Option StoreTold) (before names : List (List ℕ)) → before ≡ []
    → ListsAsides old new before names done_call → StoreForetold failing (store_number old) done_call → AsidesBy (Some names) failing old new
asides_by failing old new before names empty lists foretold =
    asides_here failing old new names (subst (λ (b : List (List ℕ)). ListsAsides old new b names done_call) empty lists) foretold

pub failed_asides_by : (failing : Option StoreFails) (old new : Option StoreTold) (before names : List (List ℕ)) → ListsAsides old new before names failed_call
    → StoreForetold failing (store_number old) failed_call → AsidesBy None failing old new
failed_asides_by failing None new before names lists foretold = record { adds = tt; foretold_is = tt }
failed_asides_by None (Some told) new before names lists foretold = record { adds = store_adds (ListedAsides None) told.files told new lists; foretold_is = tt }
failed_asides_by (Some failing) (Some told) new before names lists foretold = record {
  adds = store_adds (ListedAsides None) told.files told new lists;
  foretold_is = (ap (λ (b : Bool). cond b None (Some (asides told.files))) (sym foretold), lists);
}

pub asides_unlisted : (old new : Option StoreTold) (before names : List (List ℕ)) → ListsAsides {T = Unit {0}} old new before names no_memory → new ≡ old
asides_unlisted None new before names lists = lists
asides_unlisted (Some told) new before names lists = lists

abbrev read_call : Bool → Result Bool DeviceAnswer
read_call found = Ok found

read_as : (name : List ℕ) (reading : Reading) (file : Option (List ℕ)) (failing : Option StoreFails) (told : StoreTold) (new : Option StoreTold) (found : Bool)
    → file_at name told.files ≡ file → reading_of file ≡ reading
    → new ≡ Some (store_answered (ReadFile name (reading_of (file_at name told.files))) told.files told)
    → StoreForetold failing (store_number (Some told)) (read_call found) → ReadBy name reading failing (Some told) new
read_as name reading file None told new found file_is reading_is new_is foretold =
    let is : reading_of (file_at name told.files) ≡ reading = ap reading_of file_is ∙ reading_is in
    record {
      adds = store_adds (ReadFile name reading) told.files told new
          (new_is ∙ ap (λ (r : Reading). Some (store_answered (ReadFile name r) told.files told)) is);
      foretold_is = tt;
    }
read_as name reading file (Some failing) told new found file_is reading_is new_is foretold =
    let is : reading_of (file_at name told.files) ≡ reading = ap reading_of file_is ∙ reading_is in
    let here : new ≡ Some (store_answered (ReadFile name reading) told.files told) =
    new_is ∙ ap (λ (r : Reading). Some (store_answered (ReadFile name r) told.files told)) is in
    record {
      adds = store_adds (ReadFile name reading) told.files told new here;
      foretold_is = (sym is ∙ ap (λ (b : Bool). cond b Unread (reading_of (file_at name told.files))) (sym foretold), here);
    }

-- a file that was found
found_in : (name before after : List ℕ) (file : Option (List ℕ)) → before ≡ [] → Appended file before after true → file ≡ Some after
found_in name before after None empty appended = absurd (let bad : true ≡ false = appended.0 in cc)
found_in name before after (Some bytes) empty appended = ap (λ (b : List ℕ). Some b) (sym (appended.1 ∙ ap (λ (b : List ℕ). b ++ bytes) empty))

missing_in : (before after : List ℕ) (file : Option (List ℕ)) → Appended file before after false → file ≡ None
missing_in before after None appended = refl
missing_in before after (Some bytes) appended = absurd (let bad : false ≡ true = appended.0 in cc)

pub found_by : (name : List ℕ) (failing : Option StoreFails) (old new : Option StoreTold) (before after : List ℕ) → before ≡ []
    → ReadsFile name old new before after (read_call true) → StoreForetold failing (store_number old) (read_call true)
    → ReadBy name (Found after) failing old new
found_by name failing None new before after empty reads foretold = record { adds = tt; foretold_is = tt }
found_by name failing (Some told) new before after empty reads foretold =
    read_as name (Found after) (Some after) failing told new true (found_in name before after (file_at name told.files) empty reads.0) refl reads.1 foretold

pub missing_by : (name : List ℕ) (failing : Option StoreFails) (old new : Option StoreTold) (before after : List ℕ)
    → ReadsFile name old new before after (read_call false) → StoreForetold failing (store_number old) (read_call false) → ReadBy name Missing failing old new
missing_by name failing None new before after reads foretold = record { adds = tt; foretold_is = tt }
missing_by name failing (Some told) new before after reads foretold =
    read_as name Missing None failing told new false (missing_in before after (file_at name told.files) reads.0) refl reads.1 foretold

abbrev unread_call : Result Bool DeviceAnswer
unread_call = Err Answer.Failed

pub unread_by : (name : List ℕ) (failing : Option StoreFails) (old new : Option StoreTold) (before after : List ℕ)
    → ReadsFile name old new before after unread_call → StoreForetold failing (store_number old) unread_call → ReadBy name Unread failing old new
unread_by name failing None new before after reads foretold = record { adds = tt; foretold_is = tt }
unread_by name None (Some told) new before after reads foretold =
    record { adds = store_adds (ReadFile name Unread) told.files told new reads; foretold_is = tt }
unread_by name (Some failing) (Some told) new before after reads foretold = record {
  adds = store_adds (ReadFile name Unread) told.files told new reads;
  foretold_is = (ap (λ (b : Bool). cond b Unread (reading_of (file_at name told.files))) (sym foretold), reads);
}

pub not_read : (name : List ℕ) (old new : Option StoreTold) (before after : List ℕ) → ReadsFile name old new before after no_memory → new ≡ old
not_read name None new before after reads = reads
not_read name (Some told) new before after reads = reads

-- a call that changes files, of a store that tells what it holds
store_changed_so : (fails : Told StoreTold StoreFails → Bool) (change : List StoreFile → List StoreFile) (call : Bool → StoreCall)
    (failing : Option StoreFails) (told : StoreTold) (new : Option StoreTold) (answer : Result (Unit {0}) DeviceAnswer)
    → ((files : List StoreFile) → files_by (call true) files ≡ change files) → ChangesFiles failing call (Some told) new answer
    → FailsAsTold (option_map (λ f. fails (record { told = told; failing = f })) failing) answer
    → IfOk (done_of answer)
    (λ done. By (λ (t : StoreTold). t.calls) (call done) done (λ store. not (fails store)) (store_changed change call done) failing (Some told) new)
store_changed_so fails change call None told new (Ok x) by changes foretold = record { adds = store_adds (call true) _ told new changes; foretold_is = tt }
store_changed_so fails change call None told new (Err Answer.Failed) by changes foretold =
    record { adds = store_adds (call false) _ told new changes.2; foretold_is = tt }
store_changed_so fails change call (Some failing) told new (Ok x) by changes foretold = record {
  adds = store_adds (call true) _ told new changes;
  foretold_is = (ap not (sym foretold), changes ∙ ap (λ (files : List StoreFile). Some (store_answered (call true) files told)) (by told.files));
}
store_changed_so fails change call (Some failing) told new (Err Answer.Failed) by changes foretold =
    record { adds = store_adds (call false) _ told new changes; foretold_is = (ap not (sym foretold), changes) }
store_changed_so fails change call failing told new (Err Answer.NoMemory) by changes foretold = tt

pub store_changed_by : (change : List StoreFile → List StoreFile) (call : Bool → StoreCall) (failing : Option StoreFails) (old new : Option StoreTold)
    (answer : Result (Unit {0}) DeviceAnswer) → ((files : List StoreFile) → files_by (call true) files ≡ change files)
    → ChangesFiles failing call old new answer → StoreForetold failing (store_number old) answer
    → IfOk (done_of answer)
    (λ done. By (λ (t : StoreTold). t.calls) (call done) done (λ store. not (fails_store store)) (store_changed change call done) failing old new)
store_changed_by change call failing None new (Ok x) by changes foretold = record { adds = tt; foretold_is = tt }
store_changed_by change call failing None new (Err Answer.Failed) by changes foretold = record { adds = tt; foretold_is = tt }
store_changed_by change call failing None new (Err Answer.NoMemory) by changes foretold = tt
store_changed_by change call failing (Some told) new answer by changes foretold =
    store_changed_so fails_store change call failing told new answer by changes foretold

pub renamed_by : (name : List ℕ) (failing : Option StoreFails) (old new : Option StoreTold) (answer : Result (Unit {0}) DeviceAnswer)
    → RenamesAside failing name old new answer → RenameForetold failing name old answer
    → IfOk (done_of answer) (λ done. RenamedBy name done failing old new)
renamed_by name failing None new (Ok x) changes foretold = record { adds = tt; foretold_is = tt }
renamed_by name failing None new (Err Answer.Failed) changes foretold = record { adds = tt; foretold_is = tt }
renamed_by name failing None new (Err Answer.NoMemory) changes foretold = tt
renamed_by name failing (Some told) new answer changes foretold =
    store_changed_so (fails_renaming name) (λ files. rename_file name (file_at (aside_of name) files) files) (RenamedAside name) failing told new answer
    (λ files. refl) changes foretold

pub unwritten : (failing : Option StoreFails) (call : Bool → StoreCall) (old new : Option StoreTold)
    → ChangesFiles {T = Unit {0}} failing call old new no_memory → new ≡ old
unwritten failing call None new changes = changes
unwritten failing call (Some told) new changes = changes

-- ---- how a store answered a listing and a reading

listing_done : (failing : Option StoreFails) (told : StoreTold) (names : List (List ℕ)) → StoreForetold failing (store_number (Some told)) done_call
    → IsDoneAsTold failing (ListedAsides (Some names)) told
listing_done None told names foretold = tt
listing_done (Some fails) told names foretold = foretold

listing_failed : (failing : Option StoreFails) (told : StoreTold) → StoreForetold failing (store_number (Some told)) failed_call
    → IsDoneAsTold failing (ListedAsides None) told
listing_failed None told foretold = tt
listing_failed (Some fails) told foretold = foretold

-- a call that leaves the files as they were
left_alone : (failing : Option StoreFails) (call : StoreCall) (files : List StoreFile) → was_done call ≡ true → files_by call files ≡ files
    → LeavesAsTold failing call files files
left_alone None call files done same = inl (sym same)
left_alone (Some fails) call files done same = sym (ap (λ (b : Bool). cond b (files_by call files) files) done ∙ same)

answered_alone : (failing : Option StoreFails) (call : StoreCall) (told : StoreTold) (new : Option StoreTold) → IsDoneAsTold failing call told
    → IsTrueOf call told → was_done call ≡ true
    → files_by call told.files ≡ told.files → new ≡ Some (store_answered call told.files told) → Answered failing (call ∷ []) (Some told) new
answered_alone failing call told new done truly was same new_is = (
  store_answered call told.files told,
  new_is,
  (told.files, record { done = done; truly = truly; leaves = left_alone failing call told.files was same }, refl),
)

pub asides_answered : (failing : Option StoreFails) (old new : Option StoreTold) (before names : List (List ℕ)) → before ≡ []
    → ListsAsides old new before names done_call
    → StoreForetold failing (store_number old) done_call → Answered failing (ListedAsides (Some names) ∷ []) old new
asides_answered failing None new before names empty lists foretold = lists
asides_answered failing (Some told) new before names empty lists foretold =
    let is : names ≡ asides told.files = lists.0 ∙ ap (λ (b : List (List ℕ)). b ++ asides told.files) empty in
    answered_alone failing (ListedAsides (Some names)) told new (listing_done failing told names foretold) is refl refl
    (lists.1 ∙ ap (λ (ns : List (List ℕ)). Some (store_answered (ListedAsides (Some ns)) told.files told)) (sym is))

pub no_asides_answered : (failing : Option StoreFails) (old new : Option StoreTold) (before names : List (List ℕ))
    → ListsAsides old new before names failed_call
    → StoreForetold failing (store_number old) failed_call → Answered failing (ListedAsides None ∷ []) old new
no_asides_answered failing None new before names lists foretold = lists
no_asides_answered failing (Some told) new before names lists foretold =
    answered_alone failing (ListedAsides None) told new (listing_failed failing told foretold) tt refl refl lists

found_done : (failing : Option StoreFails) (name bytes : List ℕ) (told : StoreTold) → StoreForetold failing (store_number (Some told)) (read_call true)
    → IsDoneAsTold failing (ReadFile name (Found bytes)) told
found_done None name bytes told foretold = tt
found_done (Some fails) name bytes told foretold = foretold

missing_done : (failing : Option StoreFails) (name : List ℕ) (told : StoreTold) → StoreForetold failing (store_number (Some told)) (read_call false)
    → IsDoneAsTold failing (ReadFile name Missing) told
missing_done None name told foretold = tt
missing_done (Some fails) name told foretold = foretold

unread_done : (failing : Option StoreFails) (name : List ℕ) (told : StoreTold) → StoreForetold failing (store_number (Some told)) unread_call
    → IsDoneAsTold failing (ReadFile name Unread) told
unread_done None name told foretold = tt
unread_done (Some fails) name told foretold = foretold

read_answered : (failing : Option StoreFails) (name : List ℕ) (reading : Reading) (told : StoreTold) (new : Option StoreTold)
    → IsDoneAsTold failing (ReadFile name reading) told
    → reading_of (file_at name told.files) ≡ reading → new ≡ Some (store_answered (ReadFile name (reading_of (file_at name told.files))) told.files told)
    → Answered failing (ReadFile name reading ∷ []) (Some told) new
read_answered failing name reading told new done is new_is =
    answered_alone failing (ReadFile name reading) told new done (inr (sym is)) refl refl
    (new_is ∙ ap (λ (r : Reading). Some (store_answered (ReadFile name r) told.files told)) is)

pub found_answered : (name : List ℕ) (failing : Option StoreFails) (old new : Option StoreTold) (before after : List ℕ) → before ≡ []
    → ReadsFile name old new before after (read_call true)
    → StoreForetold failing (store_number old) (read_call true) → Answered failing (ReadFile name (Found after) ∷ []) old new
found_answered name failing None new before after empty reads foretold = reads
found_answered name failing (Some told) new before after empty reads foretold =
    read_answered failing name (Found after) told new (found_done failing name after told foretold)
    (ap reading_of (found_in name before after (file_at name told.files) empty reads.0)) reads.1

pub missing_answered : (name : List ℕ) (failing : Option StoreFails) (old new : Option StoreTold) (before after : List ℕ)
    → ReadsFile name old new before after (read_call false)
    → StoreForetold failing (store_number old) (read_call false) → Answered failing (ReadFile name Missing ∷ []) old new
missing_answered name failing None new before after reads foretold = reads
missing_answered name failing (Some told) new before after reads foretold =
    read_answered failing name Missing told new (missing_done failing name told foretold)
    (ap reading_of (missing_in before after (file_at name told.files) reads.0)) reads.1

pub unread_answered : (name : List ℕ) (failing : Option StoreFails) (old new : Option StoreTold) (before after : List ℕ)
    → ReadsFile name old new before after unread_call
    → StoreForetold failing (store_number old) unread_call → Answered failing (ReadFile name Unread ∷ []) old new
unread_answered name failing None new before after reads foretold = reads
unread_answered name failing (Some told) new before after reads foretold =
    answered_alone failing (ReadFile name Unread) told new (unread_done failing name told foretold) (inl refl) refl refl reads

-- ---- hooks

hooks_add : (call : HookCall) (told : HooksTold) (new : Option HooksTold) → new ≡ Some (hooks_answered call told)
    → Adds (Some told.calls) (option_map (λ t. t.calls) new) (call ∷ [])
hooks_add call told new same = subst (λ (n : Option HooksTold). Adds (Some told.calls) (option_map (λ t. t.calls) n) (call ∷ [])) (sym same) refl

pub started_by : (job : Job) (failing : Option (List ℕ)) (old new : Option HooksTold) (answer : Result (Unit {0}) DeviceAnswer)
    → StartsJob job old new answer → Foretold failing (start_number old) answer → IfOk (done_of answer) (λ done. StartedBy job done failing old new)
started_by job failing None new (Ok x) starts foretold = record { adds = tt; foretold_is = tt }
started_by job failing None new (Err Answer.Failed) starts foretold = record { adds = tt; foretold_is = tt }
started_by job None (Some told) new (Ok x) starts foretold = record { adds = hooks_add (Started job true) told new starts; foretold_is = tt }
started_by job None (Some told) new (Err Answer.Failed) starts foretold = record { adds = hooks_add (Started job false) told new starts; foretold_is = tt }
started_by job (Some failing) (Some told) new (Ok x) starts foretold =
    record { adds = hooks_add (Started job true) told new starts; foretold_is = (ap not (sym foretold), starts) }
started_by job (Some failing) (Some told) new (Err Answer.Failed) starts foretold =
    record { adds = hooks_add (Started job false) told new starts; foretold_is = (ap not (sym foretold), starts) }
started_by job failing old new (Err Answer.NoMemory) starts foretold = tt

pub unasked_start : (job : Job) (old new : Option HooksTold) → StartsJob {T = Unit {0}} job old new no_memory → new ≡ old
unasked_start job None new starts = starts
unasked_start job (Some told) new starts = starts

polled_add : (answer : Option Poll) (told : HooksTold) (new : Option HooksTold) → answer ≡ next_answer told.polls → new ≡ Some (polled told)
    → Adds (Some told.calls) (option_map (λ t. t.calls) new) (Polled answer ∷ [])
polled_add answer told new said same =
    subst (λ (n : Option HooksTold). Adds (Some told.calls) (option_map (λ t. t.calls) n) (Polled answer ∷ [])) (sym same)
    (ap (λ (a : Option Poll). told.calls ++ Polled a ∷ []) (sym said))

pub polled_by : (result : Result Poll Failed) (failing : Option (List ℕ)) (old new : Option HooksTold) → AnswersPoll old new result
    → PolledBy (said_by_poll result) failing old new
polled_by result failing None new answers = record { adds = tt; foretold_is = tt }
polled_by result None (Some told) new answers = record { adds = polled_add (said_by_poll result) told new answers.0 answers.1; foretold_is = tt }
polled_by result (Some failing) (Some told) new answers = record { adds = polled_add (said_by_poll result) told new answers.0 answers.1; foretold_is = answers }

pub abandoned_by : (failing : Option (List ℕ)) (running : Bool) (old new : Option HooksTold) → running ≡ true → Abandons running old new
    → AbandonedBy failing old new
abandoned_by failing running None new runs abandons = record { adds = tt; foretold_is = tt }
abandoned_by failing false (Some told) new runs abandons = absurd cc
abandoned_by None true (Some told) new runs abandons = record { adds = hooks_add Abandoned told new abandons; foretold_is = tt }
abandoned_by (Some failing) true (Some told) new runs abandons = record { adds = hooks_add Abandoned told new abandons; foretold_is = (refl, abandons) }

-- what an offer is answered by
pub ruleset offer_answers = (offered_by, unoffered, offer_added, no_offer_added)

-- what a listing of rows is answered by
pub ruleset list_answers = (listed_by, failed_list_by, unlisted, rows_answered, no_rows_answered)

-- what a listing of asides is answered by
pub ruleset aside_answers = (asides_by, failed_asides_by, asides_unlisted, asides_answered, no_asides_answered)

-- what the reading of a file is answered by
pub ruleset read_answers = (found_by, missing_by, unread_by, not_read, found_answered, missing_answered, unread_answered)
