-- What is asked first, and what then: the calls, the answers and the run of both.
use Rattle.std.proofs.Common.{◌≡◌, List, [], ◌∷◌, ◌++◌, refl, sym, ap, subst, ◌∙◌}
use Rattle.device_calls.specs.Calls.{Ask, AnswerTo, Call, made}
use Rattle.device_calls.specs.Programs.{Asks, Done, Then, after, Answers, calls_with, result_with, Makes}
use Rattle.device_calls.specs.Worlds.{World, Ran, asked_first, run, answer_to, world_with}

pub makes_done : {A : Type 0} (x : A) → Makes (Done x) [] x
makes_done x = record { answers = tt; calls_are = refl; result_is = refl }

pub makes_then : {A : Type 0} (ask : Ask) (next : AnswerTo ask → Asks A) (answer : AnswerTo ask) (calls : List Call) (result : A)
    → Makes (next answer) calls result → Makes (Then ask next) (made ask answer ∷ calls) result
makes_then ask next answer calls result makes = record {
  answers = (answer, makes.answers);
  calls_are = ap (λ (cs : List Call). made ask answer ∷ cs) makes.calls_are;
  result_is = makes.result_is;
}

-- first these answers and then those
pub join : {A B : Type 0} (asks : Asks A) (more : A → Asks B) (first : Answers asks) → Answers (more (result_with asks first)) → Answers (after asks more)
join (Done x) more first then_those = then_those
join (Then ask next) more first then_those = (first.0, join (next first.0) more first.1 then_those)

join_calls : {A B : Type 0} (asks : Asks A) (more : A → Asks B) (first : Answers asks) (then_those : Answers (more (result_with asks first)))
    → calls_with (after asks more) (join asks more first then_those) ≡ calls_with asks first ++ calls_with (more (result_with asks first)) then_those
unfolding join
join_calls (Done x) more first then_those = refl
join_calls (Then ask next) more first then_those = ap (λ (cs : List Call). made ask first.0 ∷ cs) (join_calls (next first.0) more first.1 then_those)

join_result : {A B : Type 0} (asks : Asks A) (more : A → Asks B) (first : Answers asks) (then_those : Answers (more (result_with asks first)))
    → result_with (after asks more) (join asks more first then_those) ≡ result_with (more (result_with asks first)) then_those
unfolding join
join_result (Done x) more first then_those = refl
join_result (Then ask next) more first then_those = join_result (next first.0) more first.1 then_those

pub makes_after : {A B : Type 0} (asks : Asks A) (more : A → Asks B) (a b : List Call) (x : A) (y : B) → Makes asks a x → Makes (more x) b y
    → Makes (after asks more) (a ++ b) y
makes_after {A} {B} asks more a b x y p q =
    let q_here : Makes (more (result_with asks p.answers)) b y = subst (λ (z : A). Makes (more z) b y) p.result_is q in
    record {
      answers = join asks more p.answers q_here.answers;
      calls_are =
          ap (λ (cs : List Call). cs ++ b) p.calls_are ∙ ap (λ (cs : List Call). calls_with asks p.answers ++ cs) q_here.calls_are
          ∙ sym (join_calls asks more p.answers q_here.answers);
      result_is = q_here.result_is ∙ sym (join_result asks more p.answers q_here.answers);
    }

-- what was made of both, in two parts
pub record MakesBoth {A B : Type 0} (asks : Asks A) (more : A → Asks B) (calls : List Call) (result : B) : Type 0 where
  pub between : A
  pub first : List Call
  pub later : List Call
  pub makes_first : Makes asks first between
  pub makes_later : Makes (more between) later result
  pub calls_are : calls ≡ first ++ later

pub makes_both : {A B : Type 0} (asks : Asks A) (more : A → Asks B) (calls : List Call) (result : B) → Makes (after asks more) calls result
    → MakesBoth asks more calls result
makes_both (Done x) more calls result makes = record {
  between = x;
  first = [];
  later = calls;
  makes_first = makes_done x;
  makes_later = makes;
  calls_are = refl;
}
makes_both {A} {B} (Then ask next) more calls result makes =
    let rest : MakesBoth (next makes.answers.0) more (calls_with (after (next makes.answers.0) more) makes.answers.1) result =
    makes_both (next makes.answers.0) more _ result (record { answers = makes.answers.1; calls_are = refl; result_is = makes.result_is }) in
    record {
      between = rest.between;
      first = made ask makes.answers.0 ∷ rest.first;
      later = rest.later;
      makes_first = makes_then ask next makes.answers.0 rest.first rest.between rest.makes_first;
      makes_later = rest.makes_later;
      calls_are = makes.calls_are ∙ ap (λ (cs : List Call). made ask makes.answers.0 ∷ cs) rest.calls_are;
    }

-- a run of both
abbrev pub ran_both : {A B : Type 0} → Ran A → Ran B → Ran B
ran_both first then_that = record { calls = first.calls ++ then_that.calls; result = then_that.result; world = then_that.world }

pub run_after : {A B : Type 0} (asks : Asks A) (more : A → Asks B) (world : World)
    → run (after asks more) world ≡ ran_both (run asks world) (run (more (run asks world).result) (run asks world).world)
run_after (Done x) more world = refl
run_after (Then ask next) more world =
    ap (asked_first (made ask (answer_to ask world))) (run_after (next (answer_to ask world)) more (world_with ask (answer_to ask world) world))
