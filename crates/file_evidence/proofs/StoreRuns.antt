-- What a store tells of a life that its devices foretell: the calls of the life, one after another; and its files stay whole.
use Rattle.std.proofs.Common.{◌≡◌, ◌||◌, not, ℕ, Bool, true, false, inl, inr, List, [], ◌∷◌, ◌++◌, length, Option, Some, None, refl, sym, ap, subst, ◌∙◌, cond, append-nil}
use Rattle.std.specs.Prelude.{flat_map}
use Rattle.std.proofs.lemmas.Grind.{flat_map-append}
use Rattle.world.specs.declared.wakes.Event.{Event}
use Rattle.world.specs.declared.wakes.Event.TheVariants.{Frame, Carrier, Duplicate, Release, Rebind, Stop, Quiet, End}
use Rattle.world.specs.LinkCalls.{Given, cut_event}
use Rattle.world.specs.StoreFails.{StoreFails}
use Rattle.world.specs.StoreCalls as calls
use Rattle.world.specs.StoreCalls.{StoreCall, StoreTold, store_answered, reading_of}
use Rattle.world.specs.FileLists.{StoreFile, file_at, put_file, drop_file, rename_file, asides}
use Rattle.world.specs.FileNames.{aside_of}
use Rattle.script_model.specs.Scripts.{frame_room}
use Rattle.settings.specs.declared.interfaces.Managed.{Managed}
use Rattle.file_choices.specs.StoreWalks.{IsDoneAsTold, IsAnswered, Goes}
use Rattle.file_choices.proofs.Walking.{goes_more, goes_sound}
use Rattle.device_calls.specs.Calls.{Call, Ask, AnswerTo, Offer, ListRows, Change, ListAsides, Read, WriteAside, SyncAside, RenameAside, RemoveFile, Settle, Start, Poll, Abandon, Drop, made, store_call}
use Rattle.device_calls.specs.Programs.{Asks, Done, Then}
use Rattle.device_calls.specs.Worlds.{World, Ran, run, answer_to, world_with, fails_store, fails_renaming}
use Rattle.device_calls.proofs.Running.{run_makes, run_store_failing}
use Rattle.turn_model.specs.Turns.{Life, turn_asks, until, is_over, is_end}
use Rattle.turn_model.specs.Opening.{opening_asks}
use Rattle.turn_model.specs.Lives.{Met, AreTurns, turns_calls}
use Rattle.turn_model.specs.Foretold.{told_wake, told_bytes, woken, ran_turn, met_of, told_turns, told_after, ran_opening, opening_of, foretold_life}
use Rattle.turn_model.specs.LifeFronts.{AfterOpening}
use Rattle.file_evidence.specs.WholeFiles.{foretold_calls, ForetoldLivesWhole}
use Rattle.file_evidence.proofs.KeepingTurns.{life_stays_whole}

not_not : (b : Bool) → b ≡ not (not b)
not_not true = refl
not_not false = refl

same_both : {A : Type 0} (b : Bool) (x : A) → cond b x x ≡ x
same_both true x = refl
same_both false x = refl

-- ---- one question

module _ (world : World) where
  abbrev told : StoreTold
  told = world.store.told

  abbrev fails : Option StoreFails
  fails = Some world.store.failing

  abbrev Answers : StoreCall → List StoreFile → Type 0
  Answers call files = IsAnswered fails call told files

  listed : (b : Bool) → fails_store world.store ≡ b → Answers (calls.ListedAsides (cond b None (Some (asides told.files)))) told.files
  listed true e = record { done = e; truly = tt; leaves = refl }
  listed false e = record { done = e; truly = refl; leaves = refl }

  read_so : (name : List ℕ) (found : Option (List ℕ)) → fails_store world.store ≡ false → IsDoneAsTold fails (calls.ReadFile name (reading_of found)) told
  read_so name None e = e
  read_so name (Some bytes) e = e

  read : (name : List ℕ) (b : Bool) → fails_store world.store ≡ b
      → Answers (calls.ReadFile name (cond b calls.Unread (reading_of (file_at name told.files)))) told.files
  read name true e = record { done = e; truly = inl refl; leaves = refl }
  read name false e = record { done = read_so name (file_at name told.files) e; truly = inr refl; leaves = refl }

  one_goes : (call : StoreCall) (files : List StoreFile) → Answers call files → Goes fails (call ∷ []) told (store_answered call files told)
  one_goes call files answers = (files, answers, refl)

  ask_goes : (ask : Ask) → Goes fails (store_call (made ask (answer_to ask world))) told (world_with ask (answer_to ask world) world).store.told
  ask_goes (Offer iface frame) = refl
  ask_goes ListRows = refl
  ask_goes (Change change) = refl
  ask_goes ListAsides = one_goes (calls.ListedAsides (answer_to ListAsides world)) told.files (listed (fails_store world.store) refl)
  ask_goes (Read name) = one_goes (calls.ReadFile name (answer_to (Read name) world)) told.files (read name (fails_store world.store) refl)
  ask_goes (WriteAside name bytes) =
      let done : Bool = not (fails_store world.store) in
      one_goes (calls.WroteAside name bytes done) (cond done (put_file (record { name = aside_of name; bytes = bytes }) told.files) told.files)
      (record { done = not_not (fails_store world.store); truly = tt; leaves = refl })
  ask_goes (SyncAside name) =
      let done : Bool = not (fails_store world.store) in
      one_goes (calls.SyncedAside name done) (cond done told.files told.files)
      (record { done = not_not (fails_store world.store); truly = tt; leaves = same_both done told.files })
  ask_goes (RenameAside name) =
      let done : Bool = not (fails_renaming name world.store) in
      one_goes (calls.RenamedAside name done) (cond done (rename_file name (file_at (aside_of name) told.files) told.files) told.files)
      (record { done = not_not (fails_renaming name world.store); truly = tt; leaves = refl })
  ask_goes (RemoveFile name) =
      let done : Bool = not (fails_store world.store) in
      one_goes (calls.RemovedFile name done) (cond done (drop_file name told.files) told.files)
      (record { done = not_not (fails_store world.store); truly = tt; leaves = refl })
  ask_goes Settle =
      one_goes (calls.SettledFiles (not (fails_store world.store))) told.files (record { done = not_not (fails_store world.store); truly = tt; leaves = refl })
  ask_goes (Start job) = refl
  ask_goes (Poll number) = refl
  ask_goes (Abandon number) = refl
  ask_goes (Drop job) = refl

-- ---- a program of them

pub run_goes : {A : Type 0} (asks : Asks A) (world : World)
    → Goes (Some world.store.failing) (flat_map store_call (run asks world).calls) world.store.told (run asks world).world.store.told
run_goes (Done x) world = refl
run_goes {A} (Then ask next) world =
    let answer : AnswerTo ask = answer_to ask world in
    let after : World = world_with ask answer world in
    let one : Asks (AnswerTo ask) = Then ask (λ a. Done a) in
    goes_more (Some world.store.failing) (store_call (made ask answer)) (flat_map store_call (run (next answer) after).calls) world.store.told after.store.told
    (run (next answer) after).world.store.told (ask_goes world ask)
    (subst (λ (f : StoreFails). Goes (Some f) (flat_map store_call (run (next answer) after).calls) after.store.told (run (next answer) after).world.store.told)
    (run_store_failing one world) (run_goes (next answer) after))

-- ---- the turns, and a life

end_cut : (event : Event) (size room : ℕ) → is_end (cut_event event size room) ≡ is_end event
end_cut (Frame iface len) size room = refl
end_cut (Carrier iface up) size room = refl
end_cut (Duplicate iface addr) size room = refl
end_cut (Release iface) size room = refl
end_cut (Rebind iface) size room = refl
end_cut Stop size room = refl
end_cut Quiet size room = refl
end_cut End size room = refl

first_off : (a b : Bool) → (a || b) ≡ false → a ≡ false
first_off true b e = e
first_off false b e = refl

second_off : (a b : Bool) → (a || b) ≡ false → b ≡ false
second_off true b e = cc
second_off false b e = e

module _ (managed : List Managed) where
  pub told_are_turns : (coming : List Given) (life : Life) (world : World) → AreTurns managed life (told_turns managed life world coming)
  told_are_turns [] life world = tt
  told_are_turns (given ∷ coming) life world = by (is_over life || is_end given.wake.event) refl (told_are_turns coming ran.result ran.world)
    where
      ran : Ran Life
      ran = ran_turn managed life world given

      by : (b : Bool) → (is_over life || is_end given.wake.event) ≡ b → AreTurns managed ran.result (told_turns managed ran.result ran.world coming)
          → AreTurns managed life (cond b [] (met_of given ran ∷ told_turns managed ran.result ran.world coming))
      by true e rest = tt
      by false e rest = (
        record {
          going = first_off (is_over life) (is_end given.wake.event) e;
          more = end_cut given.wake.event (length given.bytes) frame_room ∙ second_off (is_over life) (is_end given.wake.event) e;
          makes = run_makes (turn_asks managed life (told_wake given) (told_bytes given)) (woken (until life) (told_wake given) (told_bytes given) world);
        },
        rest,
      )

  turns_go : (coming : List Given) (life : Life) (world : World)
      → Goes (Some world.store.failing) (flat_map store_call (turns_calls life (told_turns managed life world coming))) world.store.told
      (told_after managed life world coming).store.told
  turns_go [] life world = refl
  turns_go (given ∷ coming) life world = by (is_over life || is_end given.wake.event) (turns_go coming ran.result ran.world)
    where
      asks : Asks Life
      asks = turn_asks managed life (told_wake given) (told_bytes given)

      woke : World
      woke = woken (until life) (told_wake given) (told_bytes given) world

      ran : Ran Life
      ran = ran_turn managed life world given

      later : List Met
      later = told_turns managed ran.result ran.world coming

      left : World
      left = told_after managed ran.result ran.world coming

      by : (b : Bool) → Goes (Some ran.world.store.failing) (flat_map store_call (turns_calls ran.result later)) ran.world.store.told left.store.told
          → Goes (Some world.store.failing) (flat_map store_call (turns_calls life (cond b [] (met_of given ran ∷ later)))) world.store.told
          (cond b world left).store.told
      by true rest = refl
      by false rest =
          subst (λ (cs : List StoreCall). Goes (Some world.store.failing) cs world.store.told left.store.told)
          (sym (flat_map-append store_call ran.calls (turns_calls ran.result later)))
          (goes_more (Some world.store.failing) (flat_map store_call ran.calls)
          (flat_map store_call (turns_calls ran.result later)) world.store.told ran.world.store.told left.store.told
          (run_goes asks woke)
          (subst (λ (f : StoreFails). Goes (Some f) (flat_map store_call (turns_calls ran.result later)) ran.world.store.told left.store.told)
          (run_store_failing asks woke) rest))

pub foretold_whole : ForetoldLivesWhole
foretold_whole managed specs world sound = record {
  goes = goes;
  whole = life_stays_whole managed specs (foretold_calls (foretold_life managed specs world)) (inr front) (Some world.store.failing) world.store.told;
  sound =
      goes_sound (Some world.store.failing)
      (flat_map store_call (foretold_calls (foretold_life managed specs world))) world.store.told left.store.told goes sound;
}
  where
    asks : Asks Life
    asks = opening_asks managed specs world.link.told.begin

    opened : Ran Life
    opened = ran_opening managed specs world

    mets : List Met
    mets = told_turns managed opened.result opened.world opened.world.link.told.coming

    left : World
    left = told_after managed opened.result opened.world opened.world.link.told.coming

    goes : Goes (Some world.store.failing) (flat_map store_call (opened.calls ++ turns_calls opened.result mets)) world.store.told left.store.told
    goes =
        subst (λ (cs : List StoreCall). Goes (Some world.store.failing) cs world.store.told left.store.told)
        (sym (flat_map-append store_call opened.calls (turns_calls opened.result mets)))
        (goes_more (Some world.store.failing) (flat_map store_call opened.calls)
        (flat_map store_call (turns_calls opened.result mets)) world.store.told opened.world.store.told left.store.told
        (run_goes asks world)
        (subst (λ (f : StoreFails). Goes (Some f) (flat_map store_call (turns_calls opened.result mets)) opened.world.store.told left.store.told)
        (run_store_failing asks world)
        (turns_go managed opened.world.link.told.coming opened.result opened.world)))

    front : AfterOpening managed specs (foretold_calls (foretold_life managed specs world))
    front = record {
      opening = opening_of managed specs world;
      mets = mets;
      last = [];
      opens = run_makes asks world;
      turns = told_are_turns managed opened.world.link.told.coming opened.result opened.world;
      front = tt;
      calls_are = ap (λ (cs : List Call). opened.calls ++ cs) (sym (append-nil (turns_calls opened.result mets)));
    }
