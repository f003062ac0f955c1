-- A life's opening and turns keep its files.
use Rattle.std.proofs.Common.{◌≡◌, ℕ, true, List, [], ◌∷◌, ◌++◌, Option, None, sym, ap, subst, ◌∙◌, append-nil}
use Rattle.net_types.specs.declared.interface.IfSpec.{IfSpec}
use Rattle.machine.specs.Moment.{moment_of}
use Rattle.world.specs.declared.wakes.Begin.{Begin}
use Rattle.world.specs.declared.wakes.Wake.{Wake}
use Rattle.world.specs.declared.rows.HostRow.{HostRow}
use Rattle.world.specs.FileLists.{StoreFile, file_name}
use Rattle.world.specs.LinkCalls.{Given}
use Rattle.world.specs.NamedLists.{InNameOrder}
use Rattle.client_model.specs.IfaceSettings.declared.interfaces.Managed.{Managed}
use Rattle.hook_child.specs.Supervision.{Supervision}
use Rattle.client_model.specs.Clients.{ClientStep}
use Rattle.device_calls.specs.Calls.{Call}
use Rattle.device_calls.specs.Worlds.{World, Ran, run}
use Rattle.device_calls.proofs.Programs.{ran_both}
use Rattle.turn_model.specs.KeptFiles.{KeptFile}
use Rattle.turn_model.specs.Loading.{FilesLoaded, duid_with, files_of}
use Rattle.turn_model.specs.FilesInLife.{AreNamedApart, filed_by, all_done, KeepsFiles}
use Rattle.turn_model.specs.Foretold.{told_wake, told_bytes, woken, ran_turn, ran_opening}
use Rattle.turn_model.specs.HostInLife.{Running, running_opened, running_turned, running_after, life_run}
use Rattle.turn_model.specs.Opening.{outlook_from, opening_step}
use Rattle.turn_model.specs.Turns.{Life, Outlook, acting, outlook_with, step_of, until, turn_moment, stop_after}
use Rattle.turn_model.proofs.Acting.{offered, hosted, hooked, kept, lives, ran_is, store_before, ran_polling, ran_turn_step, turn_ran, store_polled, ran_clearing, ran_loading, ran_step, opening_ran}
use Rattle.turn_model.proofs.Bringing.{files_in, done_parts}
use Rattle.turn_model.proofs.FileNames.{are_apart, AreApart}
use Rattle.turn_model.proofs.Keeping.{all_filed, AreKnown, Kept, are_kept}
use Rattle.turn_model.proofs.Reading.{IsRead, clearing_order, files_read}

-- the files of a life, as they stand in a store
record Stands (managed : List Managed) (files : List KeptFile) (store : List StoreFile) : Type 0 where
  order : InNameOrder file_name store
  duid : List ℕ
  filed : all_filed files ≡ filed_by duid managed
  known : AreKnown store files

abbrev running : Ran Life → Running
running ran = record { life = ran.result; world = ran.world }

-- after a run they stand so, and are kept
record Keeps (managed : List Managed) (ran : Ran Life) : Type 0 where
  stands : Stands managed ran.result.files (files_in ran.world)
  keeps : KeepsFiles managed ran.calls (running ran)

-- ---- a step of the client

module _ (managed : List Managed) (apart : AreNamedApart managed) where
  module _ (outlook : Outlook) (step : ClientStep) (moment : ℕ) (stop : Option ℕ) (world : World) (before : Stands managed outlook.files (files_in world)) where
    abbrev first : Ran ℕ
    first = offered managed outlook step moment stop world

    abbrev second : Ran (Option (List HostRow))
    second = hosted managed outlook step moment stop world

    abbrev third : Ran Supervision
    third = hooked managed outlook step moment stop world

    abbrev fourth : Ran (List KeptFile)
    fourth = kept managed outlook step moment stop world

    store_same : files_in world ≡ files_in third.world
    store_same = ap (λ s. s.told.files) (sym (store_before managed outlook step moment stop world))

    it : Kept step.client.ifaces outlook.files (files_in third.world) fourth
    it =
        are_kept step.client.ifaces outlook.files third.world
        (subst AreApart (sym before.filed) (are_apart before.duid managed apart))
        (subst (InNameOrder file_name) store_same before.order)
        (subst (λ (s : List StoreFile). AreKnown s outlook.files) store_same before.known)

    abbrev last : Ran Life
    last = lives managed outlook step moment stop world

    abbrev whole : Ran Life
    whole = ran_both first (ran_both second (ran_both third (ran_both fourth last)))

    files_done : all_done whole.calls ≡ true → all_done fourth.calls ≡ true
    files_done e =
        let kept_calls : List Call = fourth.calls ++ [] in
        let later : all_done (third.calls ++ kept_calls) ≡ true =
        (done_parts second.calls (third.calls ++ kept_calls) (done_parts first.calls (second.calls ++ (third.calls ++ kept_calls)) e).1).1 in
        subst (λ (calls : List Call). all_done calls ≡ true) (append-nil fourth.calls) (done_parts third.calls kept_calls later).1

    acting_keeps : Keeps managed (run (acting managed outlook step moment stop) world)
    acting_keeps = subst (Keeps managed) (sym (ran_is managed outlook step moment stop world)) (record {
      stands = record { order = it.order; duid = before.duid; filed = it.filed ∙ before.filed; known = it.known };
      keeps = record {
        duid = before.duid;
        filed = it.filed ∙ before.filed;
        known = it.known;
        kept = λ e. it.kept (files_done e);
      };
    })

  -- calls before these
  more_before : (ran : Ran Life) (calls : List Call) → Keeps managed ran → Keeps managed (record ran { calls = calls ++ ran.calls })
  more_before ran calls k = record {
    stands = k.stands;
    keeps = record {
      duid = k.keeps.duid;
      filed = k.keeps.filed;
      known = k.keeps.known;
      kept = λ e. k.keeps.kept (done_parts calls ran.calls e).1;
    };
  }

  -- ---- a turn

  turn_keeps : (life : Running) (given : Given) → Stands managed life.life.files (files_in life.world)
      → Keeps managed (ran_turn managed life.life life.world given)
  turn_keeps life given before =
      let wake : Wake = told_wake given in
      let world : World = woken (until life.life) wake (told_bytes given) life.world in
      let polled : Ran Supervision = ran_polling managed life.life wake (told_bytes given) world in
      let stands : Stands managed life.life.files (files_in polled.world) =
      subst (λ (s : List StoreFile). Stands managed life.life.files s)
      (ap (λ s. s.told.files) (sym (store_polled managed life.life wake (told_bytes given) world))) before in
      subst (Keeps managed) (sym (turn_ran managed life.life wake (told_bytes given) world))
      (more_before (ran_turn_step managed life.life wake (told_bytes given) world) polled.calls
      (acting_keeps (outlook_with life.life polled.result) (step_of life.life wake (told_bytes given)) (turn_moment life.life wake)
      (stop_after life.life.stop wake.event (turn_moment life.life wake)) polled.world stands))

  after_stands : (turns : List Given) (life : Running) → Stands managed life.life.files (files_in life.world)
      → Stands managed (running_after managed turns life).life.files (files_in (running_after managed turns life).world)
  after_stands [] life before = before
  after_stands (given ∷ coming) life before = after_stands coming (running_turned managed life given) (turn_keeps life given before).stands

  -- ---- the opening

  module _ (specs : List IfSpec) (world : World) (order : InNameOrder file_name (files_in world)) where
    abbrev begin : Begin
    begin = world.link.told.begin

    abbrev cleared : Ran (Unit {0})
    cleared = ran_clearing managed specs begin world

    abbrev loaded_all : Ran FilesLoaded
    loaded_all = ran_loading managed specs begin world

    abbrev duid : List ℕ
    duid = duid_with managed loaded_all.result

    read : IsRead (filed_by duid managed) (files_in cleared.world) (files_of managed loaded_all.result) loaded_all.world
    read = files_read managed cleared.world

    read_stands : Stands managed (files_of managed loaded_all.result) (files_in loaded_all.world)
    read_stands = record {
      order = subst (InNameOrder file_name) (sym read.same) (clearing_order world order);
      duid = duid;
      filed = read.filed;
      known = subst (λ (s : List StoreFile). AreKnown s (files_of managed loaded_all.result)) (sym read.same) read.known;
    }

    step_keeps : Keeps managed (ran_step managed specs begin world)
    step_keeps =
        acting_keeps (outlook_from managed loaded_all.result) (opening_step managed loaded_all.result specs begin)
        (moment_of begin.at) None loaded_all.world read_stands

    opening_keeps : Keeps managed (ran_opening managed specs world)
    opening_keeps =
        let last : Ran Life = ran_step managed specs begin world in
        subst (Keeps managed) (sym (opening_ran managed specs begin world))
        (more_before (ran_both loaded_all last) cleared.calls (more_before last loaded_all.calls step_keeps))

    pub opening_files : KeepsFiles managed (ran_opening managed specs world).calls (running_opened managed specs world)
    opening_files = opening_keeps.keeps

    pub turn_files : (earlier : List Given) (given : Given)
        → KeepsFiles managed (ran_turn managed (life_run managed specs world earlier).life (life_run managed specs world earlier).world given).calls
        (running_turned managed (life_run managed specs world earlier) given)
    turn_files earlier given =
        (turn_keeps (life_run managed specs world earlier) given (after_stands earlier (running_opened managed specs world) opening_keeps.stands)).keeps
