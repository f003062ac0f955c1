-- A work that reads the whole of its input, makes a text of it, and writes that: what it answers, by what it makes of
-- bytes.
use Rattle.std.specs.Prelude.{ℕ, ◌≡◌, ◌≤◌, ◌⊎◌, Bool, true, false, List, length, Option, Some}
use Rattle.daemon.specs.Streams.{WritesBytes, WritesSome}
use Rattle.text_works.specs.declared.status.Status.{Status}
use Rattle.text_works.specs.declared.status.Status.TheVariants as status
use Rattle.text_works.specs.Input.{limit, IsInput, IsTooLong}
use Rattle.text_works.specs.Refusals.{IsRefusal}

-- Which text the bytes give; which text tells what was found against them; and by which answer other bytes are refused.
pub record Work : Type 1 where
  pub Gives : List ℕ → List ℕ → Type 0
  pub Finds : List ℕ → List ℕ → Type 0
  pub Refuses : List ℕ → Status → Type 0

-- a work that finds nothing against its input
abbrev pub NothingFound : List ℕ → List ℕ → Type 0
NothingFound bytes text = ⊥

-- the text that is written of bytes: what they give, or what was found against them
abbrev pub Tells : Work → Bool → (bytes text : List ℕ) → Type 0
Tells work true bytes text = work.Gives bytes text
Tells work false bytes text = work.Finds bytes text

abbrev pub TellsAny : Work → (bytes text : List ℕ) → Type 0
TellsAny work bytes text = (good : Bool) × Tells work good bytes text

-- the input was read whole and gave a text, and this was written of it
pub record IsGiven (Gives : List ℕ → List ℕ → Type 0) (Writes : List ℕ → Type 0)
    (input : Option (List ℕ)) : Type 0 where
  pub bytes : List ℕ
  pub text : List ℕ
  pub read : IsInput input bytes
  pub in_limit : length bytes ≤ limit
  pub gives : Gives bytes text
  pub written : Writes text

-- the text was written
abbrev pub IsDone : Work → (input old new : Option (List ℕ)) → Type 0
IsDone work input old new = IsGiven work.Gives (WritesBytes old new) input

-- what was found against the input was written
abbrev pub IsFound : Work → (input old new : Option (List ℕ)) → Type 0
IsFound work input old new = IsGiven work.Finds (WritesBytes old new) input

-- a front of the text was written
abbrev pub IsCutShort : Work → (input old new : Option (List ℕ)) → Type 0
IsCutShort work input old new = IsGiven (TellsAny work) (WritesSome old new) input

-- the bytes were refused by this answer, and nothing was written
abbrev pub IsRefusedBy : Work → Status → (input old new : Option (List ℕ)) → Type 0
IsRefusedBy work answer input old new = IsRefusal (λ bytes. work.Refuses bytes answer) input old new

-- what a work answers, by the input and by what is written before and after
abbrev pub IsWorked : Work → Status → (input old new : Option (List ℕ)) → Type 0
IsWorked work status.Done input old new = IsDone work input old new
IsWorked work status.Usage input old new = ⊥
IsWorked work (status.Script fault) input old new = IsRefusedBy work (status.Script fault) input old new
IsWorked work (status.Conf fault) input old new = IsRefusedBy work (status.Conf fault) input old new
IsWorked work status.ReadFault input old new = new ≡ old
IsWorked work status.WriteFault input old new = IsCutShort work input old new
IsWorked work status.LinkFault input old new = ⊥
IsWorked work status.TurnsOver input old new = ⊥
IsWorked work (status.Lease line) input old new = IsRefusedBy work (status.Lease line) input old new
IsWorked work (status.Capture cause) input old new = IsRefusedBy work (status.Capture cause) input old new
IsWorked work (status.Schedule line) input old new = IsRefusedBy work (status.Schedule line) input old new
IsWorked work (status.Transcript line) input old new = IsRefusedBy work (status.Transcript line) input old new
IsWorked work status.Unjustified input old new = IsFound work input old new
IsWorked work status.TooLong input old new = IsTooLong input × (new ≡ old)
IsWorked work status.NoMemory input old new = (new ≡ old) ⊎ IsCutShort work input old new

-- the answers by which bytes are refused
abbrev pub IsFaultOfInput : Status → Type 0
IsFaultOfInput (status.Script fault) = Unit {0}
IsFaultOfInput (status.Conf fault) = Unit {0}
IsFaultOfInput (status.Lease line) = Unit {0}
IsFaultOfInput (status.Capture cause) = Unit {0}
IsFaultOfInput (status.Schedule line) = Unit {0}
IsFaultOfInput (status.Transcript line) = Unit {0}
IsFaultOfInput other = ⊥

-- a refusal; want of memory is free
abbrev pub MayRefuse : (Status → Type 0) → Status → Type 0
MayRefuse Refuses status.NoMemory = Unit {0}
MayRefuse Refuses other = IsFaultOfInput other × Refuses other

-- no bytes of which a text tells are refused, and nothing is found against those that give one
pub record IsDecided (work : Work) : Type 0 where
  pub taken : (bytes text : List ℕ) (answer : Status) → TellsAny work bytes text → work.Refuses bytes answer → ⊥
  pub apart : (bytes text found : List ℕ) → work.Gives bytes text → work.Finds bytes found → ⊥

-- the input is told, within the limit, and gives a text
pub record Serves (work : Work) (input : Option (List ℕ)) : Type 0 where
  pub bytes : List ℕ
  pub text : List ℕ
  pub told : input ≡ Some bytes
  pub in_limit : length bytes ≤ limit
  pub gives : work.Gives bytes text
