-- Questions to devices, one after another, and how they go on by the answers.
use Rattle.std.specs.Prelude.{◌≡◌, List, [], ◌∷◌}
use Rattle.device_calls.specs.Calls.{Ask, AnswerTo, Call, made}

pub data Asks (A : Type 0) : Type 0 where
  Done : (result : A) → Asks A
  Then : (ask : Ask) → (next : AnswerTo ask → Asks A) → Asks A

-- first these, and then what their result leads to
abbrev pub after : {A B : Type 0} → Asks A → (A → Asks B) → Asks B
after (Done x) more = more x
after (Then ask next) more = Then ask (λ answer. after (next answer) more)

-- an answer to each question that comes up, and no other
abbrev pub Answers : {A : Type 0} → Asks A → Type 0
Answers (Done x) = Unit {0}
Answers (Then ask next) = (answer : AnswerTo ask) × Answers (next answer)

-- the calls, and the result, that these answers give
abbrev pub calls_with : {A : Type 0} → (asks : Asks A) → Answers asks → List Call
calls_with (Done x) answers = []
calls_with (Then ask next) answers = made ask answers.0 ∷ calls_with (next answers.0) answers.1

abbrev pub result_with : {A : Type 0} → (asks : Asks A) → Answers asks → A
result_with (Done x) answers = x
result_with (Then ask next) answers = result_with (next answers.0) answers.1

-- the calls are those that were to be made, each with its answer, and they lead to the result
pub record Makes {A : Type 0} (asks : Asks A) (calls : List Call) (result : A) : Type 0 where
  pub answers : Answers asks
  pub calls_are : calls ≡ calls_with asks answers
  pub result_is : result ≡ result_with asks answers
