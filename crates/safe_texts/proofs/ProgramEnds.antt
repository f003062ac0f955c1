-- Programs of questions: whatever the answers, each call is so, and so is the result.
use Rattle.std.proofs.Common.{List, refl, sym, subst}
use Rattle.std.specs.List.{AllByRecursion}
use Rattle.net_types.proofs.AllLaws.{all_join}
use Rattle.device_calls.specs.Calls.{Ask, AnswerTo, Call, made}
use Rattle.device_calls.specs.Programs.{Asks, Done, Makes, Then, after, calls_with, result_with}
use Rattle.device_calls.proofs.Programs.{MakesBoth, makes_both}
use Rattle.turn_model.proofs.Asking.{AsksOnly}

-- of a result of which nothing is asked
abbrev pub Any : {A : Type 0} → A → Type 0
Any x = Unit {0}

module _ (N : Call → Type 0) where
  pub record Ended {A : Type 0} (R : A → Type 0) (calls : List Call) (result : A) : Type 0 where
    pub each : AllByRecursion N calls
    pub so : R result

  abbrev pub Ends : {A : Type 0} → (A → Type 0) → Asks A → Type 0
  Ends {A} R asks = (calls : List Call) (result : A) → Makes asks calls result → Ended R calls result

  pub done_ends : {A : Type 0} (R : A → Type 0) (x : A) → R x → Ends R (Done x)
  done_ends R x so calls result makes = record { each = subst (AllByRecursion N) (sym makes.calls_are) tt; so = subst R (sym makes.result_is) so }

  pub then_ends : {A : Type 0} (R : A → Type 0) (ask : Ask) (next : AnswerTo ask → Asks A) → ((answer : AnswerTo ask) → N (made ask answer))
      → ((answer : AnswerTo ask) → Ends R (next answer)) → Ends R (Then ask next)
  then_ends R ask next one ends calls result makes =
      let rest : Ended R (calls_with (next makes.answers.0) makes.answers.1) (result_with (next makes.answers.0) makes.answers.1) =
      ends makes.answers.0 _ _ (record { answers = makes.answers.1; calls_are = refl; result_is = refl }) in
      record {
        each = subst (AllByRecursion N) (sym makes.calls_are) (one makes.answers.0, rest.each);
        so = subst R (sym makes.result_is) rest.so;
      }

  pub both_ends : {A B : Type 0} (R : A → Type 0) (S : B → Type 0) (asks : Asks A) (more : A → Asks B) → Ends R asks → ((x : A) → R x → Ends S (more x))
      → Ends S (after asks more)
  both_ends {A} {B} R S asks more first later calls result makes =
      let both : MakesBoth asks more calls result = makes_both asks more calls result makes in
      let one : Ended R both.first both.between = first both.first both.between both.makes_first in
      let two : Ended S both.later result = later both.between one.so both.later result both.makes_later in
      record { each = subst (AllByRecursion N) (sym both.calls_are) (all_join N both.first both.later one.each two.each); so = two.so }

  -- of questions each of which makes such calls
  abbrev pub MakesSo : Ask → Type 0
  MakesSo ask = (answer : AnswerTo ask) → N (made ask answer)

  pub only_ends : {A : Type 0} (asks : Asks A) → AsksOnly MakesSo asks → Ends Any asks
  only_ends (Done x) only = done_ends Any x tt
  only_ends (Then ask next) only = then_ends Any ask next only.0 (λ answer. only_ends (next answer) (only.1 answer))
