-- What was asked, one after another.
use Rattle.std.proofs.Common.{ℕ, ◌≡◌, ◌≤◌, ◌+◌, Bool, cond, List, [], ◌∷◌, ◌++◌, Option, Some, None, refl, sym, ap, subst, ◌∙◌, append_assoc, append-nil, arith}
use Rattle.std.specs.Prelude.{flat_map, count_by, IfSome, option_map}
use Rattle.std.proofs.lemmas.List.Concat.{flat_map-append}
use Rattle.std.proofs.lemmas.List.Sums.{sum_by-append}
use Rattle.world.specs.StoreFails.{StoreFails}
use Rattle.world.specs.StoreCalls.{StoreCall, StoreTold}
use Rattle.file_choices.specs.StoreWalks.{Answered}
use Rattle.file_choices.proofs.Walking.{answered_more}
use Rattle.world.specs.HostCalls.{HostCall}
use Rattle.device_calls.specs.HostWalks.{HostAnswered}
use Rattle.device_calls.proofs.HostWalking.{host_answered_none, host_answered_more}
use Rattle.device_calls.specs.Calls.{Ask, AnswerTo, Call, made, link_call, host_call, store_call, hook_call}
use Rattle.device_calls.specs.CallLines.{lines_of}
use Rattle.device_calls.specs.Programs.{Asks, Done, Then, after}
use Rattle.device_calls.specs.Worlds.{Device, Seen, World, Ran, world_of, run, answer_to, world_with, asked_first}
use Rattle.device_calls.specs.Faults.{failed_send, failed_host_call, failed_store_call, failed_hook_call, CountsFailed, CountsEach}
use Rattle.device_calls.specs.Telling.{Adds, TellsCalls, Tells}
use Rattle.device_calls.specs.Does.{One, IsRun, Did, Does}
use Rattle.device_calls.specs.Printing.{Prints}
use Rattle.device_calls.proofs.Printings.{prints_none, prints_then, prints_same}
use Rattle.device_calls.proofs.Programs.{makes_done, makes_then, makes_after, run_after}

-- ---- what devices tell

pub adds_none : {C : Type 0} (told : Option (List C)) → Adds told told []
adds_none None = tt
adds_none (Some calls) = sym (append-nil calls)

pub adds_then : {C : Type 0} (old mid new : Option (List C)) (a b : List C) → Adds old mid a → Adds mid new b → Adds old new (a ++ b)
adds_then None mid new a b p q = tt
adds_then (Some old) None new a b p q = absurd p
adds_then (Some old) (Some mid) None a b p q = absurd q
adds_then {C} (Some old) (Some mid) (Some new) a b p q = q ∙ ap (λ (cs : List C). cs ++ b) p ∙ append_assoc old a b

pub answered_none : (failing : Option StoreFails) (told : Option StoreTold) → Answered failing [] told told
answered_none failing None = refl
answered_none failing (Some told) = (told, refl, refl)

pub counts_none : {C : Type 0} (failed : C → Bool) (count : ℕ) → CountsFailed failed [] count count
counts_none failed count = omega arith

pub counts_nothing : (seen : Seen) → CountsEach seen seen []
counts_nothing seen = record {
  sends = counts_none failed_send seen.link.faults;
  host = counts_none failed_host_call seen.host.faults;
  store = counts_none failed_store_call seen.store.faults;
  hooks = counts_none failed_hook_call seen.hooks.faults;
}

pub tells_none : (seen : Seen) → Tells seen seen []
tells_none seen = record {
  link = adds_none _;
  link_calls = adds_none seen.link_calls;
  host = adds_none _;
  store = adds_none _;
  hooks = adds_none _;
  begins = refl;
  table = host_answered_none seen.host.told;
  answers = answered_none seen.store.failing seen.store.told;
  failing = refl;
  counts = counts_nothing seen;
}

both_add : {C : Type 0} (own : Call → List C) (old mid new : Option (List C)) (a b : List Call)
    → Adds old mid (flat_map own a) → Adds mid new (flat_map own b) → Adds old new (flat_map own (a ++ b))
both_add {C} own old mid new a b p q =
    subst (λ (cs : List C). Adds old new cs) (sym (flat_map-append own a b)) (adds_then old mid new (flat_map own a) (flat_map own b) p q)

both_tell : {T F C : Type 0} (calls_in : T → List C) (own : Call → List C) (old mid new : Device T F) (a b : List Call)
    → TellsCalls calls_in old mid (flat_map own a) → TellsCalls calls_in mid new (flat_map own b) → TellsCalls calls_in old new (flat_map own (a ++ b))
both_tell calls_in own old mid new a b p q =
    both_add own (option_map calls_in old.told) (option_map calls_in mid.told) (option_map calls_in new.told) a b p q

both_counted : {C : Type 0} (failed : C → Bool) (xs ys : List C) (old mid new : ℕ) → old + count_by failed xs ≤ mid → mid + count_by failed ys ≤ new
    → old + count_by failed (xs ++ ys) ≤ new
both_counted failed xs ys old mid new p q =
    let both : count_by failed (xs ++ ys) ≡ count_by failed xs + count_by failed ys = sum_by-append (λ x. cond (failed x) 1 0) xs ys in
    omega (arith, both, p, q)

both_count : {C : Type 0} (failed : C → Bool) (own : Call → List C) (a b : List Call) (old mid new : ℕ)
    → CountsFailed failed (flat_map own a) old mid → CountsFailed failed (flat_map own b) mid new → CountsFailed failed (flat_map own (a ++ b)) old new
both_count {C} failed own a b old mid new p q =
    subst (λ (cs : List C). CountsFailed failed cs old new) (sym (flat_map-append own a b))
    (both_counted failed (flat_map own a) (flat_map own b) old mid new p q)

pub counts_then : (old mid new : Seen) (a b : List Call) → CountsEach old mid a → CountsEach mid new b → CountsEach old new (a ++ b)
counts_then old mid new a b p q = record {
  sends = both_count failed_send link_call a b old.link.faults mid.link.faults new.link.faults p.sends q.sends;
  host = both_count failed_host_call host_call a b old.host.faults mid.host.faults new.host.faults p.host q.host;
  store = both_count failed_store_call store_call a b old.store.faults mid.store.faults new.store.faults p.store q.store;
  hooks = both_count failed_hook_call hook_call a b old.hooks.faults mid.hooks.faults new.hooks.faults p.hooks q.hooks;
}

pub tells_then : (old mid new : Seen) (a b : List Call) → Tells old mid a → Tells mid new b → Tells old new (a ++ b)
tells_then old mid new a b p q = record {
  link = both_tell (λ told. told.calls) link_call old.link mid.link new.link a b p.link q.link;
  link_calls = both_add link_call old.link_calls mid.link_calls new.link_calls a b p.link_calls q.link_calls;
  host = both_tell (λ told. told.calls) host_call old.host mid.host new.host a b p.host q.host;
  store = both_tell (λ told. told.calls) store_call old.store mid.store new.store a b p.store q.store;
  hooks = both_tell (λ told. told.calls) hook_call old.hooks mid.hooks new.hooks a b p.hooks q.hooks;
  begins = q.begins ∙ p.begins;
  table = subst (λ (calls : List HostCall). HostAnswered calls old.host.told new.host.told) (sym (flat_map-append host_call a b))
      (host_answered_more (flat_map host_call a) (flat_map host_call b) old.host.told mid.host.told new.host.told p.table q.table);
  answers = subst (λ (calls : List StoreCall). Answered old.store.failing calls old.store.told new.store.told) (sym (flat_map-append store_call a b))
      (answered_more old.store.failing mid.store.failing (flat_map store_call a) (flat_map store_call b) old.store.told mid.store.told new.store.told
      p.failing p.answers q.answers);
  failing = q.failing ∙ p.failing;
  counts = counts_then old mid new a b p.counts q.counts;
}

-- ---- where all tell

run_then : {A : Type 0} (ask : Ask) (next : AnswerTo ask → Asks A) (answer : AnswerTo ask) (calls : List Call) (result : A) (old mid new : Option World)
    → IfSome old (λ world. (answer ≡ answer_to ask world) × (mid ≡ Some (world_with ask answer world)))
    → IfSome mid (λ world. IsRun (run (next answer) world) calls result new)
    → IfSome old (λ world. IsRun (run (Then ask next) world) (made ask answer ∷ calls) result new)
run_then ask next answer calls result None mid new p q = tt
run_then {A} ask next answer calls result (Some world) mid new p q =
    let here : IsRun (run (next answer) (world_with ask answer world)) calls result new =
    subst (λ (m : Option World). IfSome m (λ world. IsRun (run (next answer) world) calls result new)) p.1 q in
    subst (λ (a : AnswerTo ask). IsRun (asked_first (made ask a) (run (next a) (world_with ask a world))) (made ask answer ∷ calls) result new) p.0
    (record { calls_are = ap (λ (cs : List Call). made ask answer ∷ cs) here.calls_are; result_is = here.result_is; world_is = here.world_is })

run_both : {A B : Type 0} (asks : Asks A) (more : A → Asks B) (a b : List Call) (x : A) (y : B) (old mid new : Option World)
    → IfSome old (λ world. IsRun (run asks world) a x mid) → IfSome mid (λ world. IsRun (run (more x) world) b y new)
    → IfSome old (λ world. IsRun (run (after asks more) world) (a ++ b) y new)
run_both asks more a b x y None mid new p q = tt
run_both {A} {B} asks more a b x y (Some world) mid new p q =
    let at_mid : IsRun (run (more x) (run asks world).world) b y new =
    subst (λ (m : Option World). IfSome m (λ world. IsRun (run (more x) world) b y new)) p.world_is q in
    let here : IsRun (run (more (run asks world).result) (run asks world).world) b y new =
    subst (λ (z : A). IsRun (run (more z) (run asks world).world) b y new) p.result_is at_mid in
    subst (λ (ran : Ran B). IsRun ran (a ++ b) y new) (sym (run_after asks more world))
    (record {
      calls_are = ap (λ (cs : List Call). cs ++ b) p.calls_are ∙ ap (λ (cs : List Call). (run asks world).calls ++ cs) here.calls_are;
      result_is = here.result_is;
      world_is = here.world_is;
    })

run_done : {A : Type 0} (x : A) (told : Option World) → IfSome told (λ world. IsRun (run (Done x) world) [] x told)
run_done x None = tt
run_done x (Some world) = record { calls_are = refl; result_is = refl; world_is = refl }

-- ---- all of it

pub did_done : {A : Type 0} (x : A) (seen : Seen) → Did (Done x) [] x seen seen
did_done x seen = record { makes = makes_done x; tells = tells_none seen; foretold = run_done x (world_of seen) }

pub did_then : {A : Type 0} (ask : Ask) (next : AnswerTo ask → Asks A) (answer : AnswerTo ask) (calls : List Call) (result : A) (old mid new : Seen)
    → One ask answer old mid → Did (next answer) calls result mid new → Did (Then ask next) (made ask answer ∷ calls) result old new
did_then ask next answer calls result old mid new one did = record {
  makes = makes_then ask next answer calls result did.makes;
  tells = tells_then old mid new (made ask answer ∷ []) calls one.tells did.tells;
  foretold = run_then ask next answer calls result (world_of old) (world_of mid) (world_of new) one.foretold did.foretold;
}

pub did_after : {A B : Type 0} (asks : Asks A) (more : A → Asks B) (a b : List Call) (x : A) (y : B) (old mid new : Seen)
    → Did asks a x old mid → Did (more x) b y mid new → Did (after asks more) (a ++ b) y old new
did_after asks more a b x y old mid new p q = record {
  makes = makes_after asks more a b x y p.makes q.makes;
  tells = tells_then old mid new a b p.tells q.tells;
  foretold = run_both asks more a b x y (world_of old) (world_of mid) (world_of new) p.foretold q.foretold;
}

pub does_done : {A : Type 0} (x : A) (seen : Seen) (text : List ℕ) → Does (Done x) x seen seen text text
does_done x seen text = record { calls = []; did = did_done x seen; lines = prints_none text }

pub does_one : (ask : Ask) (answer : AnswerTo ask) (old new : Seen) (t u : List ℕ) → One ask answer old new → Prints t u (lines_of (made ask answer))
    → Does (Then ask Done) answer old new t u
does_one ask answer old new t u one prints = record {
  calls = made ask answer ∷ [];
  did = did_then ask Done answer [] answer old new new one (did_done answer new);
  lines = prints_same prints (sym (append-nil (lines_of (made ask answer))));
}

pub does_after : {A B : Type 0} (asks : Asks A) (more : A → Asks B) (x : A) (y : B) (old mid new : Seen) (t u v : List ℕ)
    → Does asks x old mid t u → Does (more x) y mid new u v → Does (after asks more) y old new t v
does_after asks more x y old mid new t u v p q = record {
  calls = p.calls ++ q.calls;
  did = did_after asks more p.calls q.calls x y old mid new p.did q.did;
  lines = prints_same (prints_then p.lines q.lines) (sym (flat_map-append lines_of p.calls q.calls));
}

-- one question, and then what its answer leads to
pub does_then : {A : Type 0} (ask : Ask) (next : AnswerTo ask → Asks A) (answer : AnswerTo ask) (y : A) (old mid new : Seen) (t u v : List ℕ)
    → Does (Then ask Done) answer old mid t u → Does (next answer) y mid new u v → Does (Then ask next) y old new t v
does_then ask next answer y old mid new t u v p q = does_after (Then ask Done) next answer y old mid new t u v p q
