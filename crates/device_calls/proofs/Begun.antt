-- Questions that were begun, and cut off somewhere.
use Rattle.std.proofs.Common.{ℕ, ◌≡◌, List, [], ◌∷◌, ◌++◌, refl, sym, subst}
use Rattle.device_calls.specs.Calls.{Ask, AnswerTo, Call, made}
use Rattle.device_calls.specs.Programs.{Asks, Done, Then, after, Answers, calls_with, result_with, Makes}
use Rattle.device_calls.specs.Worlds.{Seen}
use Rattle.device_calls.specs.Does.{One, Does}
use Rattle.device_calls.specs.Fronts.{Fronts, HasBegun}
use Rattle.device_calls.proofs.Doing.{tells_none, tells_then}

pub none_front : {A : Type 0} (asks : Asks A) → Fronts asks []
none_front (Done x) = tt
none_front (Then ask next) = tt

-- a front of the first is one of both
pub first_front : {A B : Type 0} (asks : Asks A) (more : A → Asks B) (calls : List Call) → Fronts asks calls → Fronts (after asks more) calls
first_front (Done x) more [] front = none_front (more x)
first_front (Done x) more (call ∷ calls) front = absurd front
first_front (Then ask next) more [] front = tt
first_front (Then ask next) more (call ∷ calls) front = (front.0, front.1, first_front (next front.0) more calls front.2)

answers_front : {A B : Type 0} (asks : Asks A) (more : A → Asks B) (answers : Answers asks) (calls : List Call)
    → Fronts (more (result_with asks answers)) calls → Fronts (after asks more) (calls_with asks answers ++ calls)
answers_front (Done x) more answers calls front = front
answers_front (Then ask next) more answers calls front = (answers.0, refl, answers_front (next answers.0) more answers.1 calls front)

-- all of the first and a front of the second are one of both
pub later_front : {A B : Type 0} (asks : Asks A) (more : A → Asks B) (first : List Call) (x : A) (calls : List Call)
    → Makes asks first x → Fronts (more x) calls → Fronts (after asks more) (first ++ calls)
later_front {A} {B} asks more first x calls makes front =
    subst (λ (cs : List Call). Fronts (after asks more) (cs ++ calls)) (sym makes.calls_are)
    (answers_front asks more makes.answers calls (subst (λ (y : A). Fronts (more y) calls) makes.result_is front))

asked_answers : {A : Type 0} (asks : Asks A) (answers : Answers asks) → Fronts asks (calls_with asks answers)
asked_answers (Done x) answers = tt
asked_answers (Then ask next) answers = (answers.0, refl, asked_answers (next answers.0) answers.1)

-- all of it is a front
pub asked_front : {A : Type 0} (asks : Asks A) (calls : List Call) (x : A) → Makes asks calls x → Fronts asks calls
asked_front asks calls x makes = subst (λ (cs : List Call). Fronts asks cs) (sym makes.calls_are) (asked_answers asks makes.answers)

-- ---- what was begun

-- nothing was asked
pub begun_none : {A : Type 0} (asks : Asks A) (old new : Seen) → new ≡ old → HasBegun asks old new
begun_none asks old new same =
    subst (λ (seen : Seen). HasBegun asks old seen) (sym same) (record { calls = []; front = none_front asks; tells = tells_none old })

-- all of it was asked
pub begun_all : {A : Type 0} (asks : Asks A) (x : A) (old new : Seen) (t u : List ℕ) → Does asks x old new t u → HasBegun asks old new
begun_all asks x old new t u does =
    record { calls = does.calls; front = asked_front asks does.calls x does.did.makes; tells = does.did.tells }

-- a front of the first of two was asked
pub begun_first : {A B : Type 0} (asks : Asks A) (more : A → Asks B) (old new : Seen) → HasBegun asks old new → HasBegun (after asks more) old new
begun_first asks more old new begun =
    record { calls = begun.calls; front = first_front asks more begun.calls begun.front; tells = begun.tells }

-- all of the first was asked, and a front of the second
pub begun_later : {A B : Type 0} (asks : Asks A) (more : A → Asks B) (x : A) (old mid new : Seen) (t u : List ℕ)
    → Does asks x old mid t u → HasBegun (more x) mid new → HasBegun (after asks more) old new
begun_later asks more x old mid new t u does begun = record {
  calls = does.calls ++ begun.calls;
  front = later_front asks more does.calls x begun.calls does.did.makes begun.front;
  tells = tells_then old mid new does.calls begun.calls does.did.tells begun.tells;
}

-- ---- the same of single questions

-- it was asked
pub begun_one : (ask : Ask) (answer : AnswerTo ask) (old new : Seen) → One ask answer old new → HasBegun (Then ask Done) old new
begun_one ask answer old new one = record { calls = made ask answer ∷ []; front = (answer, refl, tt); tells = one.tells }

-- it is what is asked first
pub begun_ask : {A : Type 0} (ask : Ask) (next : AnswerTo ask → Asks A) (old new : Seen) → HasBegun (Then ask Done) old new → HasBegun (Then ask next) old new
begun_ask ask next old new begun = begun_first (Then ask Done) next old new begun

-- it was asked, and a front of what its answer leads to
pub begun_next : {A : Type 0} (ask : Ask) (next : AnswerTo ask → Asks A) (answer : AnswerTo ask) (old mid new : Seen) (t u : List ℕ)
    → Does (Then ask Done) answer old mid t u → HasBegun (next answer) mid new → HasBegun (Then ask next) old new
begun_next ask next answer old mid new t u does begun = begun_later (Then ask Done) next answer old mid new t u does begun
