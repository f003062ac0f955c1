-- Hooks change nothing else: programs over two worlds that differ in hooks alone.
use Rattle.std.proofs.Common.{ℕ, ◌≡◌, Bool, true, false, ◌||◌, List, [], ◌∷◌, ◌++◌, map, Option, None, refl, sym, ap, ap₂, subst, ◌∙◌}
use Rattle.std.specs.Prelude.{if◌then◌else◌}
use Rattle.std.proofs.lemmas.Bool.{false≢true}
use Rattle.std.proofs.lemmas.List.Elements.{filter-append}
use Rattle.net_types.specs.declared.interface.IfSpec.{IfSpec}
use Rattle.world.specs.declared.rows.HostRow.{HostRow}
use Rattle.world.specs.declared.wakes.Begin.{Begin}
use Rattle.world.specs.declared.wakes.Wake.{Wake}
use Rattle.world.specs.LinkCalls.{Given}
use Rattle.client_model.specs.IfaceSettings.declared.interfaces.Managed.{Managed}
use Rattle.machine.specs.Moment.{moment_of}
use Rattle.hook_child.specs.Supervision.{Supervision, idle}
use Rattle.client_model.specs.Clients.{ClientStep, client_due, earlier, rows_of}
use Rattle.device_calls.specs.Calls.{Call, Ask, AnswerTo, made, Offer, ListRows, Change, ListAsides, Read, WriteAside, SyncAside, RenameAside, RemoveFile, Settle}
use Rattle.device_calls.specs.Programs.{Asks, Done, Then, after}
use Rattle.device_calls.specs.Worlds.{World, Ran, run, answer_to, world_with, asked_first}
use Rattle.device_calls.proofs.Programs.{run_after, ran_both}
use Rattle.turn_model.specs.KeptFiles.{KeptFile, keeping, file_retry_at}
use Rattle.turn_model.specs.Loading.{FilesLoaded, loading_files, files_of}
use Rattle.turn_model.specs.Hooking.{polling, hooking}
use Rattle.turn_model.specs.Turns.{Life, retry_at, offering, hosting, acting, outlook_with, step_of, until, turn_moment, stop_after, turn_asks, is_past, end_at, is_over, is_end}
use Rattle.turn_model.specs.Opening.{clearing, outlook_from, opening_step, opening_asks}
use Rattle.turn_model.specs.Lives.{Met}
use Rattle.turn_model.specs.Foretold.{told_wake, told_bytes, woken, ran_turn, ran_opening, met_of, told_turns, told_after}
use Rattle.turn_model.specs.HooksApart.{is_of_others, calls_of_others, Remainder, remainder_of, TurnSeen, turn_seen, HooksChangeNothing, WaitsByHooks}
use Rattle.turn_model.proofs.Asking.{AsksOnly, LinkAsks, HostAsks, StoreAsks, HookAsks, offering_only, hosting_only, clearing_only, files_only, keeping_only, polling_only, hooking_only}

-- ---- worlds

-- a world without its hooks, and without what was asked of its waits
abbrev pub plain : World → World
plain world = record world {
  link = record world.link { told = record world.link.told { waits = 0; calls = [] } };
  hooks = record { told = record { polls = []; calls = [] }; failing = [] };
}

-- ---- runs, and programs, that are alike but for hooks

pub record RanAlike {A B : Type 0} (Same : A → B → Type 0) (one : Ran A) (other : Ran B) : Type 0 where
  pub calls : calls_of_others one.calls ≡ calls_of_others other.calls
  pub result : Same one.result other.result
  pub world : plain one.world ≡ plain other.world

abbrev pub Alike : {A B : Type 0} → (A → B → Type 0) → Asks A → Asks B → Type 0
Alike {A} {B} Same one other = (w v : World) → plain w ≡ plain v → RanAlike Same (run one w) (run other v)

both_alike : {A B C D : Type 0} (Same : A → B → Type 0) (Then_same : C → D → Type 0) (a : Ran A) (b : Ran B) (c : Ran C) (d : Ran D)
    → RanAlike Same a b → RanAlike Then_same c d → RanAlike Then_same (ran_both a c) (ran_both b d)
both_alike Same Then_same a b c d first later = record {
  calls = filter-append is_of_others a.calls c.calls
      ∙ ap₂ (λ (x y : List Call). x ++ y) first.calls later.calls ∙ sym (filter-append is_of_others b.calls d.calls);
  result = later.result;
  world = later.world;
}

alike_after : {A B C D : Type 0} (Same : A → B → Type 0) (Then_same : C → D → Type 0) (one : Asks A) (other : Asks B) (f : A → Asks C) (g : B → Asks D)
    → Alike Same one other → ((a : A) (b : B) → Same a b → Alike Then_same (f a) (g b)) → Alike Then_same (after one f) (after other g)
alike_after {A} {B} {C} {D} Same Then_same one other f g first later w v same =
    let a : Ran A = run one w in
    let b : Ran B = run other v in
    let here : RanAlike Same a b = first w v same in
    let c : Ran C = run (f a.result) a.world in
    let d : Ran D = run (g b.result) b.world in
    let both : RanAlike Then_same (ran_both a c) (ran_both b d) =
    both_alike Same Then_same a b c d here (later a.result b.result here.result a.world b.world here.world) in
    subst (λ (ran : Ran C). RanAlike Then_same ran (run (after other g) v)) (sym (run_after one f w))
    (subst (λ (ran : Ran D). RanAlike Then_same (ran_both a c) ran) (sym (run_after other g v)) both)

-- ---- questions to others are answered alike

record AnsweredAlike (ask : Ask) (w v : World) : Type 0 where
  answer : answer_to ask w ≡ answer_to ask v
  world : (a : AnswerTo ask) → plain (world_with ask a w) ≡ plain (world_with ask a v)

abbrev IsAlike : Ask → Type 0
IsAlike ask = (w v : World) → plain w ≡ plain v → AnsweredAlike ask w v

link_alike : LinkAsks IsAlike
link_alike = record {
  offer = λ iface frame w v same. record {
    answer = ap (λ (x : World). answer_to (Offer iface frame) x) same;
    world = λ a. ap (λ (x : World). plain (world_with (Offer iface frame) a x)) same;
  };
}

host_alike : HostAsks IsAlike
host_alike = record {
  list = λ w v same. record { answer = ap (λ (x : World). answer_to ListRows x) same; world = λ a. ap (λ (x : World). plain (world_with ListRows a x)) same };
  change = λ change w v same. record {
    answer = ap (λ (x : World). answer_to (Change change) x) same;
    world = λ a. ap (λ (x : World). plain (world_with (Change change) a x)) same;
  };
}

store_alike : StoreAsks IsAlike
store_alike = record {
  asides =
      λ w v same. record { answer = ap (λ (x : World). answer_to ListAsides x) same; world = λ a. ap (λ (x : World). plain (world_with ListAsides a x)) same };
  read = λ name w v same. record {
    answer = ap (λ (x : World). answer_to (Read name) x) same;
    world = λ a. ap (λ (x : World). plain (world_with (Read name) a x)) same;
  };
  write = λ name bytes w v same. record {
    answer = ap (λ (x : World). answer_to (WriteAside name bytes) x) same;
    world = λ a. ap (λ (x : World). plain (world_with (WriteAside name bytes) a x)) same;
  };
  sync = λ name w v same. record {
    answer = ap (λ (x : World). answer_to (SyncAside name) x) same;
    world = λ a. ap (λ (x : World). plain (world_with (SyncAside name) a x)) same;
  };
  rename = λ name w v same. record {
    answer = ap (λ (x : World). answer_to (RenameAside name) x) same;
    world = λ a. ap (λ (x : World). plain (world_with (RenameAside name) a x)) same;
  };
  remove = λ name w v same. record {
    answer = ap (λ (x : World). answer_to (RemoveFile name) x) same;
    world = λ a. ap (λ (x : World). plain (world_with (RemoveFile name) a x)) same;
  };
  settle = λ w v same. record { answer = ap (λ (x : World). answer_to Settle x) same; world = λ a. ap (λ (x : World). plain (world_with Settle a x)) same };
}

-- one call more
call_alike : {A : Type 0} (call : Call) (one other : Ran A) → RanAlike (λ (a b : A). a ≡ b) one other
    → RanAlike (λ (a b : A). a ≡ b) (asked_first call one) (asked_first call other)
call_alike call one other it = record {
  calls = ap (λ (calls : List Call). if is_of_others call then call ∷ calls else calls) it.calls;
  result = it.result;
  world = it.world;
}

-- so a program of them
itself_alike : {A : Type 0} (asks : Asks A) → AsksOnly IsAlike asks → Alike (λ (a b : A). a ≡ b) asks asks
itself_alike (Done x) only w v same = record { calls = refl; result = refl; world = same }
itself_alike {A} (Then ask next) only w v same =
    let a : AnswerTo ask = answer_to ask w in
    let it : AnsweredAlike ask w v = only.0 w v same in
    let one : Ran A = run (next a) (world_with ask a w) in
    let here : RanAlike (λ (a b : A). a ≡ b) one (run (next a) (world_with ask a v)) =
    itself_alike (next a) (only.1 a) (world_with ask a w) (world_with ask a v) (it.world a) in
    subst
    (λ (b : AnswerTo ask). RanAlike (λ (a b : A). a ≡ b) (asked_first (made ask a) one) (asked_first (made ask b) (run (next b) (world_with ask b v))))
    it.answer
    (call_alike (made ask a) one (run (next a) (world_with ask a v)) here)

-- others are asked, and then what is alike by each answer
others_first : {A C D : Type 0} (Same : C → D → Type 0) (asks : Asks A) (f : A → Asks C) (g : A → Asks D) → AsksOnly IsAlike asks
    → ((a : A) → Alike Same (f a) (g a)) → Alike Same (after asks f) (after asks g)
others_first {A} Same asks f g only later =
    alike_after (λ (a b : A). a ≡ b) Same asks asks f g (itself_alike asks only)
    (λ a b e. subst (λ (c : A). Alike Same (f a) (g c)) e (later a))

-- ---- questions to hooks are seen by nobody else

record Unseen (ask : Ask) : Type 0 where
  call : (answer : AnswerTo ask) → is_of_others (made ask answer) ≡ false
  world : (answer : AnswerTo ask) (w : World) → plain (world_with ask answer w) ≡ plain w

hooks_unseen : HookAsks Unseen
hooks_unseen = record {
  start = λ job. record { call = λ answer. refl; world = λ answer w. refl };
  poll = λ number. record { call = λ answer. refl; world = λ answer w. refl };
  abandon = λ number. record { call = λ answer. refl; world = λ answer w. refl };
  drop = λ job. record { call = λ answer. refl; world = λ answer w. refl };
}

record RanUnseen {A : Type 0} (before : World) (ran : Ran A) : Type 0 where
  calls : calls_of_others ran.calls ≡ []
  world : plain ran.world ≡ plain before

run_unseen : {A : Type 0} (asks : Asks A) → AsksOnly Unseen asks → (w : World) → RanUnseen w (run asks w)
run_unseen (Done x) only w = record { calls = refl; world = refl }
run_unseen (Then ask next) only w =
    let a : AnswerTo ask = answer_to ask w in
    let rest = run_unseen (next a) (only.1 a) (world_with ask a w) in
    record {
      calls = ap (λ (seen : Bool). if seen then made ask a ∷ calls_of_others (run (next a) (world_with ask a w)).calls
          else calls_of_others (run (next a) (world_with ask a w)).calls) (only.0.call a) ∙ rest.calls;
      world = rest.world ∙ only.0.world a w;
    }

-- whatever hooks are asked first, and what they answer
hooks_first : {A B C D : Type 0} (Same : C → D → Type 0) (one : Asks A) (other : Asks B) (f : A → Asks C) (g : B → Asks D) → AsksOnly Unseen one
    → AsksOnly Unseen other
    → ((a : A) (b : B) → Alike Same (f a) (g b)) → Alike Same (after one f) (after other g)
hooks_first {A} {B} Same one other f g only_one only_other later =
    alike_after (λ (a : A) (b : B). Unit {0}) Same one other f g
    (λ w v same.
    let here = run_unseen one only_one w in
    let there = run_unseen other only_other v in
    record { calls = here.calls ∙ sym there.calls; result = tt; world = here.world ∙ same ∙ sym there.world })
    (λ a b _. later a b)

-- ---- steps, turns and openings

abbrev SameLife : Life → Life → Type 0
SameLife one other = remainder_of one ≡ remainder_of other

module _ (managed : List Managed) where
  acting_alike : (known : Option (List HostRow)) (files : List KeptFile) (one other : Supervision) (step : ClientStep) (moment : ℕ) (stop : Option ℕ)
      → Alike SameLife (acting managed (record { known = known; files = files; hooks = one }) step moment stop)
      (acting managed (record { known = known; files = files; hooks = other }) step moment stop)
  acting_alike known files one other step moment stop =
      let life_with : ℕ → Option (List HostRow) → Supervision → List KeptFile → Life =
      λ unsent known hooks files. record { client = step.client; known = known; files = files; hooks = hooks; now = moment; stop = stop; unsent = unsent } in
      let keep : ℕ → Option (List HostRow) → Supervision → Asks Life =
      λ unsent known hooks. after (keeping step.client.ifaces files) (λ kept. Done (life_with unsent known hooks kept)) in
      let hook : Supervision → ℕ → Option (List HostRow) → Asks Life =
      λ before unsent known. after (hooking moment step.jobs before) (λ hooks. keep unsent known hooks) in
      let host : Supervision → ℕ → Asks Life =
      λ before unsent. after (hosting managed (rows_of step.client) known) (λ rows. hook before unsent rows) in
      others_first SameLife (offering step.sends 0) (host one) (host other) (offering_only IsAlike link_alike step.sends 0)
      (λ unsent. others_first SameLife (hosting managed (rows_of step.client) known) (hook one unsent) (hook other unsent)
      (hosting_only IsAlike host_alike managed (rows_of step.client) known)
      (λ rows. hooks_first SameLife (hooking moment step.jobs one) (hooking moment step.jobs other) (keep unsent rows) (keep unsent rows)
      (hooking_only Unseen hooks_unseen moment step.jobs one) (hooking_only Unseen hooks_unseen moment step.jobs other)
      (λ a b. others_first SameLife (keeping step.client.ifaces files) (λ kept. Done (life_with unsent rows a kept))
      (λ kept. Done (life_with unsent rows b kept))
      (keeping_only IsAlike store_alike step.client.ifaces files)
      (λ kept w v same. record { calls = refl; result = refl; world = same }))))

  abbrev life_from : Remainder → Supervision → Life
  life_from r hooks = record { client = r.client; known = r.known; files = r.files; hooks = hooks; now = r.now; stop = r.stop; unsent = r.unsent }

  turn_alike : (r : Remainder) (one other : Supervision) (wake : Wake) (bytes : List ℕ)
      → Alike SameLife (turn_asks managed (life_from r one) wake bytes) (turn_asks managed (life_from r other) wake bytes)
  unfolding turn_asks
  turn_alike r one other wake bytes =
      let life : Life = life_from r one in
      let moment : ℕ = turn_moment life wake in
      let step : ClientStep = step_of life wake bytes in
      let stop : Option ℕ = stop_after life.stop wake.event moment in
      let act : Supervision → Asks Life = λ hooks. acting managed (outlook_with life hooks) step moment stop in
      hooks_first SameLife (polling moment one) (polling moment other) act act (polling_only Unseen hooks_unseen moment one)
      (polling_only Unseen hooks_unseen moment other)
      (λ a b. acting_alike r.known r.files a b step moment stop)

  turns_of_alike : (one other : Life) (wake : Wake) (bytes : List ℕ) → SameLife one other
      → Alike SameLife (turn_asks managed one wake bytes) (turn_asks managed other wake bytes)
  turns_of_alike one other wake bytes e =
      subst (λ (r : Remainder). Alike SameLife (turn_asks managed one wake bytes) (turn_asks managed (life_from r other.hooks) wake bytes)) e
      (turn_alike (remainder_of one) one.hooks other.hooks wake bytes)

  opening_alike : (specs : List IfSpec) (begin : Begin) → Alike SameLife (opening_asks managed specs begin) (opening_asks managed specs begin)
  unfolding opening_asks
  opening_alike specs begin =
      let act : FilesLoaded → Asks Life =
      λ files. acting managed (outlook_from managed files) (opening_step managed files specs begin) (moment_of begin.at) None in
      let load : Unit {0} → Asks Life = λ _. after (loading_files managed) act in
      others_first SameLife clearing load load (clearing_only IsAlike store_alike)
      (λ _. others_first SameLife (loading_files managed) act act (files_only IsAlike store_alike managed)
      (λ files. acting_alike None (files_of managed files) idle idle (opening_step managed files specs begin) (moment_of begin.at) None))

  -- ---- lives

  -- the turns that were met, and what they left
  record TurnsAlike (one other : List Met) (last other_last : World) : Type 0 where
    turns : map turn_seen one ≡ map turn_seen other
    left : plain last ≡ plain other_last

  over_alike : (a b : Bool) (one other : List Met) (begun other_begun left other_left : World) → a ≡ b → plain begun ≡ plain other_begun
      → TurnsAlike one other left other_left
      → TurnsAlike (if a then [] else one) (if b then [] else other) (if a then begun else left) (if b then other_begun else other_left)
  over_alike true true one other begun other_begun left other_left e begins it = record { turns = refl; left = begins }
  over_alike true false one other begun other_begun left other_left e begins it = absurd (false≢true (sym e))
  over_alike false true one other begun other_begun left other_left e begins it = absurd (false≢true e)
  over_alike false false one other begun other_begun left other_left e begins it = it

  met_alike : (given : Given) (one other : Ran Life) → RanAlike SameLife one other → turn_seen (met_of given one) ≡ turn_seen (met_of given other)
  met_alike given one other it = λ i. record { wake = told_wake given; bytes = told_bytes given; calls = it.calls i; life = it.result i }

  turns_alike : (coming : List Given) (one other : Life) (w v : World) → SameLife one other → plain w ≡ plain v
      → TurnsAlike (told_turns managed one w coming) (told_turns managed other v coming) (told_after managed one w coming) (told_after managed other v coming)
  turns_alike [] one other w v e same = record { turns = refl; left = same }
  turns_alike (given ∷ coming) one other w v e same =
      let wake : Wake = told_wake given in
      let bytes : List ℕ = told_bytes given in
      let here : Ran Life = ran_turn managed one w given in
      let there : Ran Life = ran_turn managed other v given in
      let woken_alike : plain (woken (until one) wake bytes w) ≡ plain (woken (until other) wake bytes v) =
      ap (λ (x : World). plain (woken None wake bytes x)) same in
      let it : RanAlike SameLife here there =
      turns_of_alike one other wake bytes e (woken (until one) wake bytes w) (woken (until other) wake bytes v) woken_alike in
      let rest = turns_alike coming here.result there.result here.world there.world it.result it.world in
      let ends : (is_over one || is_end given.wake.event) ≡ (is_over other || is_end given.wake.event) =
      ap (λ (r : Remainder). is_past (end_at r.stop) r.now || is_end given.wake.event) e in
      over_alike (is_over one || is_end given.wake.event) (is_over other || is_end given.wake.event)
      (met_of given here ∷ told_turns managed here.result here.world coming) (met_of given there ∷ told_turns managed there.result there.world coming)
      w v (told_after managed here.result here.world coming) (told_after managed there.result there.world coming) ends same
      (record {
        turns = ap₂ (λ (seen : TurnSeen) (more : List TurnSeen). seen ∷ more) (met_alike given here there it) rest.turns;
        left = rest.left;
      })

pub hooks_apart : HooksChangeNothing
hooks_apart managed specs world hooks =
    let changed : World = record world { hooks = hooks } in
    let one : Ran Life = ran_opening managed specs world in
    let other : Ran Life = ran_opening managed specs changed in
    let it : RanAlike SameLife one other = opening_alike managed specs world.link.told.begin world changed refl in
    let coming : one.world.link.told.coming ≡ other.world.link.told.coming = ap (λ (w : World). w.link.told.coming) it.world in
    let lives = subst
    (λ (given : List Given). TurnsAlike managed (told_turns managed one.result one.world one.world.link.told.coming)
    (told_turns managed other.result other.world given)
    (told_after managed one.result one.world one.world.link.told.coming) (told_after managed other.result other.world given)) coming
    (turns_alike managed one.world.link.told.coming one.result other.result one.world other.world it.result it.world) in
    record {
      opening = it.calls;
      opened = it.result;
      turns = lives.turns;
      sent = ap (λ (w : World). w.link.told.sends) lives.left;
      host = ap (λ (w : World). w.host) lives.left;
      store = ap (λ (w : World). w.store) lives.left;
    }

-- ---- waits

pub waits_by_hooks : WaitsByHooks
waits_by_hooks one other e due =
    ap₂ (λ (r : Remainder) (hooks : Option ℕ). earlier (client_due r.client.ifaces) (earlier (retry_at r.known r.now) (earlier hooks
    (earlier (file_retry_at r.files r.now) (end_at r.stop))))) e due
