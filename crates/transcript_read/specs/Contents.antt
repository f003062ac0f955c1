-- What the reader holds, in the words of the definitions.
use Rattle.std.specs.Prelude.{◌≡◌, ℕ, List, Option, Some, option_map}
use Rattle.net_types.specs.LineReading.{Took}
use Rattle.script_model.specs.Lines.{Line}
use Rattle.transcript_read.specs.declared.body.Body.{Body}
use Rattle.transcript_read.specs.Bodies.{Reading, step}
use Rattle.transcript_read.specs.Following.{Reaches}

-- where the reader stands, in this state of what goes through
abbrev pub reading_at : {F J : Type 0} → Body F → J → Reading J
reading_at body state = record { spot = record { ifaces = body.ifaces; place = body.place }; judge = state }

-- where the lines stand alone: nothing goes through them
abbrev pub standing : {F : Type 0} → Body F → Reading (Unit {0})
standing body = reading_at body tt

abbrev pub no_state : Unit {0} → Line → Unit {0}
no_state state line = tt

-- a place, or none, is where the reader stands now
abbrev pub Takes : {F : Type 0} → Option (Reading (Unit {0})) → Option (Body F) → Type 0
Takes reading body = option_map standing body ≡ reading

-- what goes through has come to this
abbrev pub ComesTo : {F J : Type 0} → (F → J → Type 0) → Option (Reading J) → Body F → Type 0
ComesTo Tells reading body = Reaches Tells (λ state. reading ≡ Some (reading_at body state)) body.follower

-- lines up to the rest went through
abbrev pub WentOn : {F J : Type 0} → (F → J → Type 0) → (J → Line → J) → (start : Body F) → J → (text rest : List ℕ)
    → (line : ℕ) → Body F → Type 0
WentOn Tells after start first text rest line body =
    Reaches Tells (λ state. Took (step after) (reading_at start first) text rest line (reading_at body state))
    body.follower
