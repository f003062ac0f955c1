-- Where the loop over lines stops.
use Rattle.std.proofs.Common.{◌≡◌, ℕ, ◌+◌, List, [], ◌∷◌, ◌++◌, length, Some, None, refl, sym, subst, arith}
use Rattle.net_types.specs.Cutting.{split_at_byte}
use Rattle.net_types.specs.LineReading.{Gives, Stopped, StopsAt, Took}
use Rattle.net_types.specs.TextLines.{front_by, front_in}
use Rattle.net_types.proofs.LineSteps.{took_next, took_none}
use Rattle.net_types.proofs.ReadsLaws.{split_sound}
use Rattle.script_model.specs.Lines.{Line}
use Rattle.transcript_read.specs.Bodies.{Reading, StopsIn, given, no_cause, step}
use Rattle.transcript_read.specs.declared.body.Body.{Body}
use Rattle.transcript_read.specs.Contents.{ComesTo, Takes, WentOn, no_state, reading_at, standing}
use Rattle.transcript_read.specs.Following.{Reaches}
use Rattle.transcript_read.specs.declared.body.BodyAnswer.{BodyAnswer}
use Rattle.transcript_read.specs.declared.body.BodyAnswer.TheVariants as answers
use Rattle.transcript_lines.specs.LineSpellings.{LinesAreRead}
use Rattle.transcript_read.specs.Bodies.{IsNoBody, first_reading}
use Rattle.transcript_read.proofs.EndLaws.{none_read}

no_rest : (rest : List ℕ) → length rest ≡ 0 → rest ≡ []
no_rest [] e = refl
no_rest (byte ∷ rest) e = absurd (omega (arith, e))

at_unended : {J : Type 0} (after : J → Line → J) (state : Reading J) (rest : List ℕ) → (length rest ≡ 0 → ⊥) → None ≡ split_at_byte 10 rest
    → StopsAt (step after) given state (front_in rest)
at_unended after state [] some e = absurd (some refl)
at_unended after state (byte ∷ rest) some e = subst (λ o. StopsAt (step after) given state (front_by (byte ∷ rest) o)) e tt

pub unended_stops : {J : Type 0} (after : J → Line → J) (start state : Reading J) (text rest : List ℕ) (number : ℕ)
    → Took (step after) start text rest number state
    → (length rest ≡ 0 → ⊥) → None ≡ split_at_byte 10 rest → Stopped (step after) given no_cause start text number (record {})
unended_stops after start state text rest number took some e =
    record { rest = rest; state = state; took = took; stops = at_unended after state rest some e; cause = refl }

no_cons : (line others : List ℕ) → [] ≡ line ++ 10 ∷ others → ⊥
no_cons [] others e = cc
no_cons (byte ∷ line) others e = cc

at_line : {J : Type 0} (after : J → Line → J) (state : Reading J) (rest line others : List ℕ) → Some (line, others) ≡ split_at_byte 10 rest
    → None ≡ step after state line
    → StopsAt (step after) given state (front_in rest)
at_line after state [] line others e none = absurd (no_cons line others (split_sound 10 [] line others (sym e)).0)
at_line after state (byte ∷ rest) line others e none = subst (λ o. StopsAt (step after) given state (front_by (byte ∷ rest) o)) e (sym none)

pub line_stops : {J : Type 0} (after : J → Line → J) (start state : Reading J) (text rest line others : List ℕ) (number : ℕ)
    → Took (step after) start text rest number state
    → Some (line, others) ≡ split_at_byte 10 rest → None ≡ step after state line → Stopped (step after) given no_cause start text number (record {})
line_stops after start state text rest line others number took e none =
    record { rest = rest; state = state; took = took; stops = at_line after state rest line others e none; cause = refl }

pub end_stops : {J : Type 0} (after : J → Line → J) (start state : Reading J) (text rest : List ℕ) (number : ℕ) → Took (step after) start text rest number state
    → length rest ≡ 0 → None ≡ given state → Stopped (step after) given no_cause start text number (record {})
end_stops after start state text rest number took e none =
    record {
      rest = rest;
      state = state;
      took = took;
      stops = subst (λ r. StopsAt (step after) given state (front_in r)) (sym (no_rest rest e)) (sym none);
      cause = refl;
    }

pub end_gives : {J : Type 0} (after : J → Line → J) (start state : Reading J) (text rest : List ℕ) (number : ℕ) (value : J)
    → Took (step after) start text rest number state
    → length rest ≡ 0 → Some value ≡ given state → Gives (step after) given start text value
end_gives after start state text rest number value took e is =
    record { number = number; state = state; took = subst (λ r. Took (step after) start text r number state) (no_rest rest e) took; gives = sym is }

-- ---- with what goes through

-- The lines up to the rest were taken, and went through.
pub record GoesOn {F J : Type 0} (Tells : F → J → Type 0) (after : J → Line → J) (start : Body F) (text rest : List ℕ) (number : ℕ) (body : Body F)
    : Type 0 where
  pub took : Took (step no_state) (standing start) text rest number (standing body)
  pub went : (state : J) → Tells start.follower state → WentOn Tells after start state text rest number body

pub goes_first : {F J : Type 0} (Tells : F → J → Type 0) (after : J → Line → J) (start : Body F) (text : List ℕ) → GoesOn Tells after start text text 1 start
goes_first Tells after start text = record {
  took = took_none (step no_state) (standing start) text;
  went = λ state tells. record { state = state; comes = took_none (step after) (reading_at start state) text; tells = tells };
}

pub goes_next : {F J : Type 0} (Tells : F → J → Type 0) (after : J → Line → J) (start body next : Body F) (text rest line others : List ℕ) (number : ℕ)
    → GoesOn Tells after start text rest number body
    → Some (line, others) ≡ split_at_byte 10 rest → Takes (step no_state (standing body) line) (Some next)
    → ((state : J) → Tells body.follower state → ComesTo Tells (step after (reading_at body state) line) next)
    → GoesOn Tells after start text others (number + 1) next
goes_next Tells after start body next text rest line others number goes e takes comes = record {
  took = took_next (step no_state) (standing start) text rest others number (standing body) (standing next) line goes.took (sym e) (sym takes);
  went = λ state tells.
      let before = goes.went state tells in
      let reached = comes before.state before.tells in
      record {
        state = reached.state;
        comes = took_next (step after) (reading_at start state) text rest others number (reading_at body before.state) (reading_at next reached.state) line
            before.comes (sym e) reached.comes;
        tells = reached.tells;
      };
}

pub all_gone : {F J : Type 0} (Tells : F → J → Type 0) (after : J → Line → J) (start body : Body F) (text rest : List ℕ) (number : ℕ)
    → GoesOn Tells after start text rest number body
    → length rest ≡ 0 → ((state : J) → given (reading_at body state) ≡ Some state) → (state : J) → Tells start.follower state
    → Reaches Tells (Gives (step after) given (reading_at start state) text) body.follower
all_gone Tells after start body text rest number goes none ended state tells =
    let reached = goes.went state tells in
    record {
      state = reached.state;
      comes = end_gives after (reading_at start state) (reading_at body reached.state) text rest number reached.state reached.comes none
          (sym (ended reached.state));
      tells = reached.tells;
    }

-- ---- what that says of the text

pub stopped_none : {J : Type 0} (after : J → Line → J) → LinesAreRead → (text : List ℕ) (first : J) (answer : BodyAnswer)
    → StopsIn after (first_reading first) text answer → IsNoBody text answer
stopped_none after law text first (answers.Bad line) stops = none_read after law text first line (record {}) stops
stopped_none after law text first answers.NoMemory stops = tt
