-- What a life leaves to the next one.
use Rattle.std.proofs.Common.{ℕ, ◌≡◌, ◌+◌, ◌||◌, List, [], ◌∷◌, length, Option, Some, refl, sym, ap, subst, ◌∙◌}
use Rattle.std.specs.Prelude.{IfSome, option_map}
use Rattle.std.specs.Option.{is_some}
use Rattle.net_types.proofs.CaseLaws.{gated}
use Rattle.net_types.specs.declared.interface.IfSpec.{IfSpec}
use Rattle.world.specs.LinkCalls.{Given}
use Rattle.world.specs.HookCalls.{abandoned}
use Rattle.world.specs.StoreFails.{StoreFails}
use Rattle.settings.specs.declared.interfaces.Managed.{Managed}
use Rattle.settings.specs.ManagedRows.{SharesAreManaged}
use Rattle.script_model.specs.ScriptTexts.{LifeScript}
use Rattle.host_model.specs.HostTable.{InRowOrder}
use Rattle.device_calls.specs.Calls.{Ask, AnswerTo, Offer, ListRows, Change, ListAsides, Read, WriteAside, SyncAside, RenameAside, RemoveFile, Settle, Start, Poll, Abandon, Drop}
use Rattle.device_calls.specs.Programs.{Asks, Done, Then}
use Rattle.device_calls.specs.Worlds.{World, run, answer_to, world_with}
use Rattle.device_calls.proofs.Running.{run_host_failing, run_store_failing}
use Rattle.turn_model.specs.Turns.{until, turn_asks, is_over, is_end}
use Rattle.turn_model.specs.Opening.{opening_asks}
use Rattle.turn_model.specs.Lives.{OpeningMet, Met, life_after}
use Rattle.turn_model.specs.Foretold.{ForetoldLife, Left, left_in, told_wake, told_bytes, woken, told_after, foretold_life}
use Rattle.turn_model.specs.HostInLife.{Running, running_opened, running_turned, running_after}
use Rattle.turn_model.proofs.HostInLifeTurns.{lived_sound}
use Rattle.world_mem.specs.HookRecord.{HooksState}
use Rattle.world_mem.specs.HostRecord.{HostState}
use Rattle.daemon.specs.Served.{IsLifeOf}
use Rattle.replayed_lives.specs.declared.memory.Between as code
use Rattle.replayed_lives.specs.Carried.{between_in, failing_with}
use Rattle.replayed_lives.specs.Memory.{link_of}
use Rattle.replayed_lives.specs.Replays.{Failing, Between, store_fails, store_left, world_in, after_life}
use Rattle.replayed_lives.proofs.WholeLife.{Held, world_after, AreMade, made_first}

-- ---- which calls of hooks fail stays

hooks_failing_stays : (ask : Ask) (answer : AnswerTo ask) (world : World) → (world_with ask answer world).hooks.failing ≡ world.hooks.failing
hooks_failing_stays (Offer iface frame) taken world = refl
hooks_failing_stays ListRows rows world = refl
hooks_failing_stays (Change change) done world = refl
hooks_failing_stays ListAsides names world = refl
hooks_failing_stays (Read name) reading world = refl
hooks_failing_stays (WriteAside name bytes) done world = refl
hooks_failing_stays (SyncAside name) done world = refl
hooks_failing_stays (RenameAside name) done world = refl
hooks_failing_stays (RemoveFile name) done world = refl
hooks_failing_stays Settle done world = refl
hooks_failing_stays (Start job) done world = refl
hooks_failing_stays (Poll number) answer world = refl
hooks_failing_stays (Abandon number) answer world = refl
hooks_failing_stays (Drop job) answer world = refl

run_hooks_failing : {A : Type 0} (asks : Asks A) (world : World) → (run asks world).world.hooks.failing ≡ world.hooks.failing
run_hooks_failing (Done x) world = refl
run_hooks_failing (Then ask next) world =
    run_hooks_failing (next (answer_to ask world)) (world_with ask (answer_to ask world) world) ∙ hooks_failing_stays ask (answer_to ask world) world

-- ---- what is left

module _ (managed : List Managed) where
  -- what a life leaves is what its first turns left
  record LeftBy (running : Running) (coming : List Given) (after : World) : Type 0 where
    turns : List Given
    left : after ≡ (running_after managed turns running).world

  left_by : (running : Running) (coming : List Given) → LeftBy running coming (told_after managed running.life running.world coming)
  left_by running [] = record { turns = []; left = refl }
  left_by running (given ∷ coming) =
      let next : Running = running_turned managed running given in
      let on : LeftBy next coming (told_after managed next.life next.world coming) = left_by next coming in
      gated (LeftBy running (given ∷ coming)) (is_over running.life || is_end given.wake.event) running.world (told_after managed next.life next.world coming)
      (record { turns = []; left = refl }) (record { turns = given ∷ on.turns; left = on.left })

  turns_host_failing : (turns : List Given) (running : Running) → (running_after managed turns running).world.host.failing ≡ running.world.host.failing
  turns_host_failing [] running = refl
  turns_host_failing (given ∷ turns) running =
      turns_host_failing turns (running_turned managed running given)
      ∙ run_host_failing (turn_asks managed running.life (told_wake given) (told_bytes given))
      (woken (until running.life) (told_wake given) (told_bytes given) running.world)

  turns_store_failing : (turns : List Given) (running : Running) → (running_after managed turns running).world.store.failing ≡ running.world.store.failing
  turns_store_failing [] running = refl
  turns_store_failing (given ∷ turns) running =
      turns_store_failing turns (running_turned managed running given)
      ∙ run_store_failing (turn_asks managed running.life (told_wake given) (told_bytes given))
      (woken (until running.life) (told_wake given) (told_bytes given) running.world)

  turns_hooks_failing : (turns : List Given) (running : Running) → (running_after managed turns running).world.hooks.failing ≡ running.world.hooks.failing
  turns_hooks_failing [] running = refl
  turns_hooks_failing (given ∷ turns) running =
      turns_hooks_failing turns (running_turned managed running given)
      ∙ run_hooks_failing (turn_asks managed running.life (told_wake given) (told_bytes given))
      (woken (until running.life) (told_wake given) (told_bytes given) running.world)

  module _ (specs : List IfSpec) (world : World) where
    abbrev opened : Running
    opened = running_opened managed specs world

    abbrev last : World
    last = told_after managed opened.life opened.world opened.world.link.told.coming

    abbrev by : LeftBy opened opened.world.link.told.coming last
    by = left_by opened opened.world.link.told.coming

    -- which calls fail stays
    pub left_host_failing : (foretold_life managed specs world).left.host.failing ≡ world.host.failing
    left_host_failing =
        ap (λ (w : World). w.host.failing) by.left ∙ turns_host_failing by.turns opened
        ∙ run_host_failing (opening_asks managed specs world.link.told.begin) world

    pub left_store_failing : (foretold_life managed specs world).left.store.failing ≡ world.store.failing
    left_store_failing =
        ap (λ (w : World). w.store.failing) by.left ∙ turns_store_failing by.turns opened
        ∙ run_store_failing (opening_asks managed specs world.link.told.begin) world

    pub left_hooks_failing : (foretold_life managed specs world).left.hooks.failing ≡ world.hooks.failing
    left_hooks_failing =
        ap (λ (w : World). w.hooks.failing) by.left ∙ turns_hooks_failing by.turns opened
        ∙ run_hooks_failing (opening_asks managed specs world.link.told.begin) world

    -- the host's rows stand in order where they did
    pub left_in_order : SharesAreManaged managed → InRowOrder world.host.told.rows → InRowOrder (foretold_life managed specs world).left.host.told.rows
    left_in_order shares sorted =
        let sound = lived_sound managed specs world shares sorted by.turns in
        let table = sound.table in
        subst (λ (w : World). InRowOrder w.host.told.rows) (sym by.left) table.in_order

-- the devices of a life are those that were left
pub made_of : (sends : List ℕ) (between : code.Between) (life : LifeScript) (held : Held) → held.link ≡ link_of life between.sent sends
    → held.store.told ≡ between.store.told
    → held.store.failing ≡ store_fails between.store.failing.numbers (length between.store.told.calls) life.crash → held.host ≡ between.host
    → held.hooks ≡ between.hooks
    → AreMade (failing_with sends between) (between_in between) life held
made_of sends between life held link store fails host hooks = record {
  of_link = link;
  of_store = store;
  fails_store = fails;
  of_host = ap (λ (h : HostState). h.told) host;
  fails_host = ap (λ (h : HostState). h.failing) host;
  of_hooks = ap (λ (h : HooksState). h.told) hooks;
  fails_hooks = ap (λ (h : HooksState). h.failing) hooks;
}

some_is : {A : Type 0} {a b : A} → Some a ≡ Some b → a ≡ b
some_is e = cc

module _ (managed : List Managed) (specs : List IfSpec) (failing : Failing) (between : Between) (life : LifeScript) (first held : Held)
    (made : AreMade failing between life first)
    (left : IfSome (world_after first) (λ (world : World). option_map left_in (world_after held) ≡ Some (foretold_life managed specs world).left)) where
  abbrev there : ForetoldLife
  there = foretold_life managed specs (world_in failing between life)

  abbrev here : Left
  here = record {
    sent = held.link.told.sends;
    host = record { told = held.host.told; failing = held.host.failing };
    store = record { told = held.store.told; failing = held.store.failing };
    hooks = record { told = held.hooks.told; failing = held.hooks.failing };
  }

  left_is : here ≡ there.left
  left_is =
      some_is
      (subst (λ (w : Option World). IfSome w (λ world. option_map left_in (world_after held) ≡ Some (foretold_life managed specs world).left))
      (made_first failing between life first made) left)

  -- a child that runs is forgotten
  pub next_is : (lives : ℕ) → lives ≡ between.lives + 1 → (opening : OpeningMet) (mets : List Met) → IsLifeOf opening mets there
      → held.hooks.running ≡ is_some (life_after opening.life mets).hooks.child
      → record {
        lives = lives;
        sent = held.link.told.sends;
        host = held.host.told;
        store = store_left life.crash held.store.told;
        hooks = abandoned held.hooks.running held.hooks.told;
      }
      ≡ after_life managed specs failing between life
  next_is lives count opening mets are runs =
      let child : held.hooks.running ≡ is_some (life_after there.opening.life there.mets).hooks.child =
      runs ∙ sym (λ i. is_some (life_after (are.opening_is i).life (are.mets_are i)).hooks.child) in
      λ i. record {
        lives = count i;
        sent = (left_is i).sent;
        host = (left_is i).host.told;
        store = store_left life.crash (left_is i).store.told;
        hooks = abandoned (child i) (left_is i).hooks.told;
      }

  pub still_fails_store : held.store.failing.numbers ≡ failing.store
  still_fails_store =
      ap (λ (l : Left). l.store.failing.numbers) left_is ∙ ap (λ (f : StoreFails). f.numbers) (left_store_failing managed specs (world_in failing between life))

  pub still_fails_host : held.host.failing ≡ failing.host
  still_fails_host = ap (λ (l : Left). l.host.failing) left_is ∙ left_host_failing managed specs (world_in failing between life)

  pub still_fails_hooks : held.hooks.failing ≡ failing.hooks
  still_fails_hooks = ap (λ (l : Left). l.hooks.failing) left_is ∙ left_hooks_failing managed specs (world_in failing between life)

-- the calls that fail go on where those of the host, of the store and of hooks do
pub fails_on : (sends : List ℕ) (next between : code.Between) → next.host.failing ≡ between.host.failing
    → next.store.failing.numbers ≡ between.store.failing.numbers
    → next.hooks.failing ≡ between.hooks.failing → failing_with sends next ≡ failing_with sends between
fails_on sends next between host store hooks = λ i. record { sends = sends; host = host i; store = store i; hooks = hooks i }
