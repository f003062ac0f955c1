-- What was begun of a part of a turn's or an opening's questions, where memory was wanted.
use Rattle.std.proofs.Common.{ℕ, ◌≡◌, ◌+◌, ◌<◌, List, [], ◌∷◌, length, get_or, drop, drop-cons, add-one, Result, Ok, Err, IfErr, sym, subst}
use Rattle.device_calls.specs.Calls.{Ask, AnswerTo, Call}
use Rattle.device_calls.specs.Programs.{Asks, Done, Then, after}
use Rattle.device_calls.specs.Worlds.{Seen}
use Rattle.device_calls.specs.Does.{Does}
use Rattle.device_calls.specs.Fronts.{Fronts, HasBegun}
use Rattle.device_calls.proofs.Begun.{begun_all, begun_ask, begun_next}

-- ---- what an error says

pub on_err : {A E P : Type 0} (result : Result A E) → P → IfErr result (λ _. P)
on_err (Ok x) p = tt
on_err (Err e) p = p

pub err_so : {A E P Q : Type 0} (result : Result A E) → (P → Q) → IfErr result (λ _. P) → IfErr result (λ _. Q)
err_so (Ok x) f p = tt
err_so (Err e) f p = f p

-- ---- one question

-- it was asked, and no more
pub asked_only : {A : Type 0} (ask : Ask) (next : AnswerTo ask → Asks A) (answer : AnswerTo ask) (old new : Seen) (t u : List ℕ)
    → Does (Then ask Done) answer old new t u → HasBegun (Then ask next) old new
asked_only ask next answer old new t u did = begun_ask ask next old new (begun_all (Then ask Done) answer old new t u did)

-- it was asked, and its answer leads on
pub leads_on : {A : Type 0} (ask : Ask) (next : AnswerTo ask → Asks A) (answer : AnswerTo ask) (more : Asks A) (old mid new : Seen) (t u : List ℕ)
    → next answer ≡ more
    → Does (Then ask Done) answer old mid t u → HasBegun more mid new → HasBegun (Then ask next) old new
leads_on {A} ask next answer more old mid new t u is did begun =
    begun_next ask next answer old mid new t u did (subst (λ (asks : Asks A). HasBegun asks mid new) (sym is) begun)

-- ---- a front of the second of two, whatever comes of the first

fronts_wider : {A B C : Type 0} (asks : Asks A) (more : A → Asks B) (wider : A → Asks C)
    → ((x : A) (calls : List Call) → Fronts (more x) calls → Fronts (wider x) calls)
    → (calls : List Call) → Fronts (after asks more) calls → Fronts (after asks wider) calls
fronts_wider (Done x) more wider widens calls front = widens x calls front
fronts_wider (Then ask next) more wider widens [] front = tt
fronts_wider (Then ask next) more wider widens (call ∷ calls) front = (front.0, front.1, fronts_wider (next front.0) more wider widens calls front.2)

pub begun_wider : {A B C : Type 0} (asks : Asks A) (more : A → Asks B) (wider : A → Asks C)
    → ((x : A) (calls : List Call) → Fronts (more x) calls → Fronts (wider x) calls)
    → (old new : Seen) → HasBegun (after asks more) old new → HasBegun (after asks wider) old new
begun_wider asks more wider widens old new begun =
    record { calls = begun.calls; front = fronts_wider asks more wider widens begun.calls begun.front; tells = begun.tells }

-- ---- a list

pub one_dropped : {X : Type 0} (xs : List X) (i : ℕ) (d : X) → i < length xs → drop i xs ≡ get_or xs i d ∷ drop (i + 1) xs
one_dropped xs i d lt = rw add-one (drop-cons xs i d lt)
