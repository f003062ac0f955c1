-- One wake of a life.
use Rattle.std.proofs.Common.{ℕ, ◌≡◌, Bool, true, false, cond, ◌||◌, List, [], ◌∷◌, length, take, drop, Option, Some, None, refl, sym, ap, subst, ◌∙◌, append-nil, arith}
use Rattle.std.specs.Prelude.{IfSome, option_map}
use Rattle.world.specs.declared.wakes.Wake.{Wake}
use Rattle.world.specs.StoreFails.{StoreFails}
use Rattle.world.specs.LinkCalls.{LinkTold, Given, Waited, given_in, frame_len, Comes, Waits}
use Rattle.world.specs.HostCalls.{HostTold}
use Rattle.world.specs.StoreCalls.{StoreTold}
use Rattle.world.specs.HookCalls.{HooksTold}
use Rattle.settings.specs.declared.interfaces.Managed.{Managed}
use Rattle.device_calls.specs.Calls.{Call, Link}
use Rattle.device_calls.specs.Worlds.{Seen, World, Told, Ran, told_from, told_of, world_from, world_of, run}
use Rattle.device_calls.specs.Telling.{Tells}
use Rattle.device_calls.specs.Does.{IsRun, Did}
use Rattle.device_calls.proofs.Doing.{tells_then}
use Rattle.device_calls.proofs.Running.{run_coming}
use Rattle.turn_model.specs.Turns.{Life, turn_asks, until, is_over, is_end}
use Rattle.turn_model.specs.Lives.{Met, met_with, turn_lines, turn_calls}
use Rattle.turn_model.specs.Foretold.{told_wake, told_bytes, woken, met_of, ran_turn, told_turns, told_after, foretold_turns, left_in}
use Rattle.life_devices.specs.Waits.{WaitsThere}
use Rattle.daemon.specs.Streams.{WritesBytes, WritesLines}
use Rattle.daemon.specs.Serving.{MakesTurn, told_last, AreFirst, Goes, Ends}
use Rattle.daemon.proofs.Waitings.{woke, is_end-cut, Woke, woke_world, wait_tells, last_wait_tells, same_but_link}
use Rattle.daemon.proofs.Stretches.{lines_none, text_written}

or_false : (a b : Bool) → a ≡ false → b ≡ false → (a || b) ≡ false
or_false a b p q = rw (p, q) refl

or_true : (a b : Bool) → b ≡ true → (a || b) ≡ true
or_true true b q = refl
or_true false b q = q

-- ---- where all devices tell

module _ (managed : List Managed) (from to : Life) (wake : Wake) (bytes : List ℕ) (calls : List Call) (mid new : Seen)
    (going : is_over from ≡ false) (more : is_end wake.event ≡ false) (did : Did (turn_asks managed from wake bytes) calls to mid new) where
  ran_for : World → Wake → List ℕ → Ran Life
  ran_for world w bs = run (turn_asks managed from w bs) (woken (until from) w bs world)

  first_in : (world : World) → Woke (until from) wake bytes world (world_of mid) → AreFirst managed from world (met_with wake bytes calls to ∷ []) to new
  unfolding ran_for
  first_in world w =
      let is_run : IsRun (ran_for world wake bytes) calls to (world_of new) =
      subst
      (λ (m : Option World). IfSome m (λ at_mid. IsRun (run (turn_asks managed from wake bytes) at_mid) calls to (world_of new))) w.mid_is did.foretold
      in
      let not_end : is_end w.given.wake.event ≡ false =
      sym (is_end-cut w.given.wake.event (length w.given.bytes) 2048) ∙ ap (λ (k : Wake). is_end k.event) (sym w.wake_is) ∙ more in
      let ran_is : ran_turn managed from world w.given ≡ ran_for world wake bytes = λ i. ran_for world (sym w.wake_is i) (sym w.bytes_are i) in
      let met_is : met_with (told_wake w.given) (told_bytes w.given) (ran_for world wake bytes).calls (ran_for world wake bytes).result
      ≡ met_with wake bytes calls to =
      λ i. met_with (sym w.wake_is i) (sym w.bytes_are i) (sym is_run.calls_are i) (sym is_run.result_is i) in
      let comes_on : (ran_for world wake bytes).world.link.told.coming ≡ w.coming =
      run_coming (turn_asks managed from wake bytes) _ ∙ ap (λ (c : List Given). drop 1 c) w.comes in
      record {
        then_told = (ran_for world wake bytes).world;
        tells = is_run.world_is;
        turns = ap (told_turns managed from world) w.comes
            ∙ ap
            (λ (b : Bool). cond b []
            (met_of w.given (ran_turn managed from world w.given)
            ∷ told_turns managed (ran_turn managed from world w.given).result (ran_turn managed from world w.given).world w.coming))
            (or_false (is_over from) (is_end w.given.wake.event) going not_end)
            ∙ ap (λ (r : Ran Life). met_of w.given r ∷ told_turns managed r.result r.world w.coming) ran_is
            ∙ ap (λ (m : Met). m ∷ told_turns managed (ran_for world wake bytes).result (ran_for world wake bytes).world w.coming) met_is
            ∙ ap (λ (life : Life). met_with wake bytes calls to ∷ told_turns managed life (ran_for world wake bytes).world w.coming) (sym is_run.result_is)
            ∙ ap (λ (c : List Given). met_with wake bytes calls to ∷ told_turns managed to (ran_for world wake bytes).world c) (sym comes_on);
        ends = ap (told_after managed from world) w.comes
            ∙ ap
            (λ (b : Bool). cond b world
            (told_after managed (ran_turn managed from world w.given).result (ran_turn managed from world w.given).world w.coming))
            (or_false (is_over from) (is_end w.given.wake.event) going not_end)
            ∙ ap (λ (r : Ran Life). told_after managed r.result r.world w.coming) ran_is
            ∙ ap (λ (life : Life). told_after managed life (ran_for world wake bytes).world w.coming) (sym is_run.result_is)
            ∙ ap (λ (c : List Given). told_after managed to (ran_for world wake bytes).world c) (sym comes_on);
        counted = ap length w.comes ∙ omega (arith, ap length comes_on);
      }

  first_at : (old : Option World) → IfSome old (λ world. Woke (until from) wake bytes world (world_of mid))
      → IfSome old (λ world. AreFirst managed from world (met_with wake bytes calls to ∷ []) to new)
  first_at None w = tt
  first_at (Some world) w = first_in world w

-- ---- all of it

pub turn_first : (managed : List Managed) (from to : Life) (wake : Wake) (bytes buffer : List ℕ) (calls : List Call) (old mid new : Seen)
    → is_over from ≡ false → is_end wake.event ≡ false → length buffer ≡ 2048 → bytes ≡ take (frame_len wake.event) buffer
    → WaitsThere (until from) old mid buffer (woke wake) → Did (turn_asks managed from wake bytes) calls to mid new
    → IfSome (world_of old) (λ world. AreFirst managed from world (met_with wake bytes calls to ∷ []) to new)
turn_first managed from to wake bytes buffer calls old mid new going more room front waits did =
    first_at managed from to wake bytes calls mid new going more did (world_of old) (woke_world (until from) wake bytes buffer more room front old mid waits)

pub turn_tells : (from to : Life) (wake : Wake) (bytes buffer : List ℕ) (calls : List Call) (old mid new : Seen) → is_end wake.event ≡ false
    → length buffer ≡ 2048 → bytes ≡ take (frame_len wake.event) buffer
    → WaitsThere (until from) old mid buffer (woke wake) → Tells mid new calls → Tells old new (turn_calls from (met_with wake bytes calls to))
turn_tells from to wake bytes buffer calls old mid new more room front waits tells =
    tells_then old mid new (Link (Waited (until from) (Some (record { wake = wake; bytes = bytes }))) ∷ []) calls
    (wait_tells (until from) wake bytes buffer more room front old mid waits) tells

pub one_goes : (managed : List Managed) (from to : Life) (wake : Wake) (bytes buffer text_old text written : List ℕ) (asked : Option ℕ) (old mid new : Seen)
    (out out_to : Option (List ℕ))
    → (made : MakesTurn managed from wake bytes to mid new text_old text) → text_old ≡ [] → written ≡ text → WritesBytes out out_to written
    → is_over from ≡ false → is_end wake.event ≡ false → length buffer ≡ 2048 → bytes ≡ take (frame_len wake.event) buffer
    → WaitsThere asked old mid buffer (woke wake) → asked ≡ until from
    → Goes managed from old out to new out_to (met_with wake bytes made.calls to ∷ [])
one_goes managed from to wake bytes buffer text_old text written asked old mid new out out_to made empty same wrote going more room front waits asked_is =
    let waits_here : WaitsThere (until from) old mid buffer (woke wake) = subst (λ (a : Option ℕ). WaitsThere a old mid buffer (woke wake)) asked_is waits in
    record {
      turns = (record { going = going; more = more; makes = made.did.makes }, tt);
      after = refl;
      written =
          subst (WritesLines out out_to) (sym (append-nil (turn_lines (met_with wake bytes made.calls to))))
          (text_written out out_to text_old written text (turn_lines (met_with wake bytes made.calls to)) empty made.lines same wrote);
      tells = subst (λ (cs : List Call). Tells old new cs) (sym (append-nil (turn_calls from (met_with wake bytes made.calls to))))
          (turn_tells from to wake bytes buffer made.calls old mid new more room front waits_here made.did.tells);
      foretold = turn_first managed from to wake bytes buffer made.calls old mid new going more room front waits_here made.did;
    }

-- ---- the last wait

last_in : (managed : List Managed) (life : Life) (wake : Wake) (buffer : List ℕ) (asked : Option ℕ) (told : LinkTold) (mid : Option LinkTold) (world : World)
    (coming : List Given)
    → is_end wake.event ≡ true → Comes asked told coming mid buffer wake
    → told_turns managed life world coming ≡ []
last_in managed life wake buffer asked told mid world [] end comes = refl
last_in managed life wake buffer asked told mid world (given ∷ coming) end comes =
    let is : is_end given.wake.event ≡ true =
    sym (is_end-cut given.wake.event (length given.bytes) (length buffer)) ∙ ap (λ (w : Wake). is_end w.event) (sym comes.0) ∙ end in
    ap
    (λ (b : Bool). cond b []
    (met_of given (ran_turn managed life world given)
    ∷ told_turns managed (ran_turn managed life world given).result (ran_turn managed life world given).world coming))
    (or_true (is_over life) (is_end given.wake.event) is)

last_at : (managed : List Managed) (life : Life) (wake : Wake) (buffer : List ℕ) (asked : Option ℕ) (link mid : Option LinkTold) (failing : Option (List ℕ))
    (host : Option (Told HostTold (List ℕ))) (store : Option (Told StoreTold StoreFails)) (hooks : Option (Told HooksTold (List ℕ)))
    → is_end wake.event ≡ true
    → Waits asked link mid buffer (woke wake) → IfSome (world_from (told_from link failing) host store hooks) (λ world. foretold_turns managed life world ≡ [])
last_at managed life wake buffer asked None mid failing host store hooks end waits = tt
last_at managed life wake buffer asked (Some told) mid None host store hooks end waits = tt
last_at managed life wake buffer asked (Some told) mid (Some failing) None store hooks end waits = tt
last_at managed life wake buffer asked (Some told) mid (Some failing) (Some host) None hooks end waits = tt
last_at managed life wake buffer asked (Some told) mid (Some failing) (Some host) (Some store) None end waits = tt
last_at managed life wake buffer asked (Some told) mid (Some failing) (Some host) (Some store) (Some hooks) end waits =
    last_in managed life wake buffer asked told mid _ told.coming end waits

-- what is left then
left_in-last : (managed : List Managed) (life : Life) (wake : Wake) (buffer : List ℕ) (asked : Option ℕ) (told : LinkTold) (mid : Option LinkTold)
    (failing : List ℕ) (host : Told HostTold (List ℕ)) (store : Told StoreTold StoreFails) (hooks : Told HooksTold (List ℕ)) (coming : List Given)
    → is_end wake.event ≡ true → Comes asked told coming mid buffer wake
    → option_map left_in (world_from (told_from mid (Some failing)) (Some host) (Some store) (Some hooks))
    ≡ Some
    (left_in (told_after managed life (record { link = record { told = told; failing = failing }; host = host; store = store; hooks = hooks }) coming))
left_in-last managed life wake buffer asked told mid failing host store hooks [] end comes =
    ap (λ (l : Option LinkTold). option_map left_in (world_from (told_from l (Some failing)) (Some host) (Some store) (Some hooks))) comes.1
left_in-last managed life wake buffer asked told mid failing host store hooks (given ∷ coming) end comes =
    let is : is_end given.wake.event ≡ true =
    sym (is_end-cut given.wake.event (length given.bytes) (length buffer)) ∙ ap (λ (w : Wake). is_end w.event) (sym comes.0) ∙ end in
    let world : World = record { link = record { told = told; failing = failing }; host = host; store = store; hooks = hooks } in
    ap (λ (l : Option LinkTold). option_map left_in (world_from (told_from l (Some failing)) (Some host) (Some store) (Some hooks))) comes.2
    ∙ sym
    (ap
    (λ (b : Bool). Some
    (left_in (cond b world (told_after managed (ran_turn managed life world given).result (ran_turn managed life world given).world coming))))
    (or_true (is_over life) (is_end given.wake.event) is))

left_at : (managed : List Managed) (life : Life) (wake : Wake) (buffer : List ℕ) (asked : Option ℕ) (link mid : Option LinkTold) (failing : Option (List ℕ))
    (host : Option (Told HostTold (List ℕ))) (store : Option (Told StoreTold StoreFails)) (hooks : Option (Told HooksTold (List ℕ)))
    → is_end wake.event ≡ true
    → Waits asked link mid buffer (woke wake)
    → IfSome (world_from (told_from link failing) host store hooks)
    (λ world. option_map left_in (world_from (told_from mid failing) host store hooks) ≡ Some (left_in (told_last managed life world)))
left_at managed life wake buffer asked None mid failing host store hooks end waits = tt
left_at managed life wake buffer asked (Some told) mid None host store hooks end waits = tt
left_at managed life wake buffer asked (Some told) mid (Some failing) None store hooks end waits = tt
left_at managed life wake buffer asked (Some told) mid (Some failing) (Some host) None hooks end waits = tt
left_at managed life wake buffer asked (Some told) mid (Some failing) (Some host) (Some store) None end waits = tt
left_at managed life wake buffer asked (Some told) mid (Some failing) (Some host) (Some store) (Some hooks) end waits =
    left_in-last managed life wake buffer asked told mid failing host store hooks told.coming end waits

pub wait_ends : (managed : List Managed) (life : Life) (wake : Wake) (buffer : List ℕ) (asked : Option ℕ) (old mid : Seen) (out : Option (List ℕ))
    → is_over life ≡ false → asked ≡ until life → is_end wake.event ≡ true → WaitsThere asked old mid buffer (woke wake)
    → Ends 1 managed life old out life mid out
wait_ends managed life wake buffer asked old mid out going asked_is end waits =
    record {
      mets = [];
      turns = tt;
      within = omega arith;
      after = refl;
      written = lines_none out;
      last = Link (Waited asked (Some (given_in buffer wake))) ∷ [];
      last_is = (going, asked_is, end);
      tells = last_wait_tells asked wake buffer old mid waits;
      whole =
          last_at managed life wake buffer asked old.link.told mid.link.told old.link.failing (told_of old.host) (told_of old.store)
          (told_of old.hooks) end waits.told;
      left =
          subst (λ (m : Option World). IfSome (world_of old) (λ world. option_map left_in m ≡ Some (left_in (told_last managed life world))))
          (same_but_link old mid waits.only)
          (left_at managed life wake buffer asked old.link.told mid.link.told old.link.failing (told_of old.host) (told_of old.store)
          (told_of old.hooks) end waits.told);
    }
