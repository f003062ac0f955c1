-- What the answers of a work come to.
use Rattle.std.proofs.Common.{ℕ, ◌≡◌, ◌≤◌, Bool, true, false, List, length, Option, inl, inr, refl, sym, subst, arith}
use Rattle.daemon.specs.Streams.{WritesBytes, WritesSome}
use Rattle.text_works.specs.declared.status.Status.{Status}
use Rattle.text_works.specs.declared.status.Status.TheVariants as status
use Rattle.text_works.specs.Input.{limit, IsInput, IsTooLong}
use Rattle.text_works.specs.Statuses.{HasStatusCause, StopsReading, StopsWriting, Completes}
use Rattle.text_works.specs.Works.{Work, IsWorked, IsCutShort, IsDecided, IsDone, IsFound, MayRefuse, NothingFound, Serves, Tells}
use Rattle.text_works.proofs.Endings.{not_too_long, read_is, stops_writing}

-- reading ended before the input's end
pub unread : (work : Work) (answer : Status) (input old new : Option (List ℕ)) → new ≡ old → (answer ≡ status.TooLong → IsTooLong input) → StopsReading answer
    → IsWorked work answer input old new
unread work status.Done input old new same long stops = absurd stops
unread work status.Usage input old new same long stops = absurd stops
unread work (status.Script fault) input old new same long stops = absurd stops
unread work (status.Conf fault) input old new same long stops = absurd stops
unread work status.ReadFault input old new same long stops = same
unread work status.WriteFault input old new same long stops = absurd stops
unread work status.LinkFault input old new same long stops = absurd stops
unread work status.TurnsOver input old new same long stops = absurd stops
unread work (status.Lease line) input old new same long stops = absurd stops
unread work (status.Capture what) input old new same long stops = absurd stops
unread work (status.Schedule line) input old new same long stops = absurd stops
unread work (status.Transcript line) input old new same long stops = absurd stops
unread work status.Unjustified input old new same long stops = absurd stops
unread work status.TooLong input old new same long stops = (long refl, same)
unread work status.NoMemory input old new same long stops = inl same

-- the bytes were refused
pub refused : (work : Work) (answer : Status) (input old new : Option (List ℕ)) (bytes : List ℕ) → IsInput input bytes → length bytes ≤ limit → new ≡ old
    → MayRefuse (work.Refuses bytes) answer → IsWorked work answer input old new
refused work status.Done input old new bytes read within same refusal = absurd refusal.0
refused work status.Usage input old new bytes read within same refusal = absurd refusal.0
refused work (status.Script fault) input old new bytes read within same refusal =
    record { bytes = bytes; read = read; in_limit = within; why = refusal.1; unwritten = same }
refused work (status.Conf fault) input old new bytes read within same refusal =
    record { bytes = bytes; read = read; in_limit = within; why = refusal.1; unwritten = same }
refused work status.ReadFault input old new bytes read within same refusal = absurd refusal.0
refused work status.WriteFault input old new bytes read within same refusal = absurd refusal.0
refused work status.LinkFault input old new bytes read within same refusal = absurd refusal.0
refused work status.TurnsOver input old new bytes read within same refusal = absurd refusal.0
refused work (status.Lease line) input old new bytes read within same refusal =
    record { bytes = bytes; read = read; in_limit = within; why = refusal.1; unwritten = same }
refused work (status.Capture what) input old new bytes read within same refusal =
    record { bytes = bytes; read = read; in_limit = within; why = refusal.1; unwritten = same }
refused work (status.Schedule line) input old new bytes read within same refusal =
    record { bytes = bytes; read = read; in_limit = within; why = refusal.1; unwritten = same }
refused work (status.Transcript line) input old new bytes read within same refusal =
    record { bytes = bytes; read = read; in_limit = within; why = refusal.1; unwritten = same }
refused work status.Unjustified input old new bytes read within same refusal = absurd refusal.0
refused work status.TooLong input old new bytes read within same refusal = absurd refusal.0
refused work status.NoMemory input old new bytes read within same refusal = inl same

-- a refusal is neither a fault of a stream nor the end
pub refused_cause : (Refuses : Status → Type 0) (answer : Status) (a b p q : ℕ) → MayRefuse Refuses answer → a ≤ b → p ≤ q → HasStatusCause answer a b p q
refused_cause Refuses status.Done a b p q refusal read wrote = absurd refusal.0
refused_cause Refuses status.Usage a b p q refusal read wrote = absurd refusal.0
refused_cause Refuses (status.Script fault) a b p q refusal read wrote = (read, wrote)
refused_cause Refuses (status.Conf fault) a b p q refusal read wrote = (read, wrote)
refused_cause Refuses status.ReadFault a b p q refusal read wrote = absurd refusal.0
refused_cause Refuses status.WriteFault a b p q refusal read wrote = absurd refusal.0
refused_cause Refuses status.LinkFault a b p q refusal read wrote = absurd refusal.0
refused_cause Refuses status.TurnsOver a b p q refusal read wrote = absurd refusal.0
refused_cause Refuses (status.Lease line) a b p q refusal read wrote = (read, wrote)
refused_cause Refuses (status.Capture what) a b p q refusal read wrote = (read, wrote)
refused_cause Refuses (status.Schedule line) a b p q refusal read wrote = (read, wrote)
refused_cause Refuses (status.Transcript line) a b p q refusal read wrote = (read, wrote)
refused_cause Refuses status.Unjustified a b p q refusal read wrote = absurd refusal.0
refused_cause Refuses status.TooLong a b p q refusal read wrote = absurd refusal.0
refused_cause Refuses status.NoMemory a b p q refusal read wrote = (read, wrote)

-- writing ended before the text's end
pub cut_short : (work : Work) (answer : Status) (input old new : Option (List ℕ)) (bytes text : List ℕ) → IsInput input bytes → length bytes ≤ limit
    → (good : Bool) → Tells work good bytes text → WritesSome old new text → StopsWriting answer → IsWorked work answer input old new
cut_short work answer input old new bytes text read within good tells some stops =
    stops_writing (λ (s : Status). IsWorked work s input old new) answer cut (inr cut) stops
  where
    cut : IsCutShort work input old new
    cut = record { bytes = bytes; text = text; read = read; in_limit = within; gives = (good, tells); written = some }

-- all of a text was written that the bytes give
pub all_given : (work : Work) (input old new : Option (List ℕ)) (bytes text : List ℕ) → IsInput input bytes → length bytes ≤ limit
    → (good : Bool) → Tells work good bytes text → good ≡ true → WritesBytes old new text → IsDone work input old new
all_given work input old new bytes text read within good tells is written = record {
  bytes = bytes;
  text = text;
  read = read;
  in_limit = within;
  gives = subst (λ (g : Bool). Tells work g bytes text) is tells;
  written = written;
}

-- all of a text was written that tells what was found against them
pub all_found : (work : Work) (input old new : Option (List ℕ)) (bytes text : List ℕ) → IsInput input bytes → length bytes ≤ limit
    → (good : Bool) → Tells work good bytes text → good ≡ false → WritesBytes old new text → IsFound work input old new
all_found work input old new bytes text read within good tells is written = record {
  bytes = bytes;
  text = text;
  read = read;
  in_limit = within;
  gives = subst (λ (g : Bool). Tells work g bytes text) is tells;
  written = written;
}

-- a work that finds nothing
pub finds_nothing : (Gives : List ℕ → List ℕ → Type 0) (Refuses : List ℕ → Status → Type 0)
    → ((bytes text : List ℕ) (answer : Status) → Gives bytes text → Refuses bytes answer → ⊥)
    → IsDecided (record { Gives = Gives; Finds = NothingFound; Refuses = Refuses })
finds_nothing Gives Refuses never = record {
  taken = λ bytes text answer tells refuses. taken bytes text answer tells.0 tells.1 refuses;
  apart = λ bytes text found gives finds. finds;
}
  where
    taken : (bytes text : List ℕ) (answer : Status) (good : Bool)
        → Tells (record { Gives = Gives; Finds = NothingFound; Refuses = Refuses }) good bytes text → Refuses bytes answer → ⊥
    taken bytes text answer true tells refuses = never bytes text answer tells refuses
    taken bytes text answer false tells refuses = absurd tells

-- an input that serves is refused by nothing
never : (work : Work) (answer : Status) (input : Option (List ℕ)) (bytes : List ℕ) → IsDecided work → Serves work input → IsInput input bytes
    → work.Refuses bytes answer → ⊥
never work answer input bytes decided serves read refusal =
    decided.taken serves.bytes serves.text answer (true, serves.gives)
    (subst (λ (b : List ℕ). work.Refuses b answer) (sym (read_is input serves.bytes bytes serves.told read)) refusal)

-- nothing is found against it
never_found : (work : Work) (input : Option (List ℕ)) (bytes found : List ℕ) → IsDecided work → Serves work input → IsInput input bytes
    → work.Finds bytes found → ⊥
never_found work input bytes found decided serves read finds =
    decided.apart serves.bytes serves.text found serves.gives
    (subst (λ (b : List ℕ). work.Finds b found) (sym (read_is input serves.bytes bytes serves.told read)) finds)

-- over streams that didn't fail it gave its text, or memory was wanted
pub completes_work : (work : Work) (answer : Status) (input old new : Option (List ℕ)) (a b p q : ℕ) → IsDecided work → Serves work input → b ≡ a → q ≡ p
    → IsWorked work answer input old new → HasStatusCause answer a b p q → Completes answer
completes_work work status.Done input old new a b p q decided serves read wrote answer cause = tt
completes_work work status.Usage input old new a b p q decided serves read wrote answer cause = absurd answer
completes_work work (status.Script fault) input old new a b p q decided serves read wrote answer cause =
    never work (status.Script fault) input answer.bytes decided serves answer.read answer.why
completes_work work (status.Conf fault) input old new a b p q decided serves read wrote answer cause =
    never work (status.Conf fault) input answer.bytes decided serves answer.read answer.why
completes_work work status.ReadFault input old new a b p q decided serves read wrote answer cause = absurd (omega (arith, read, cause.0))
completes_work work status.WriteFault input old new a b p q decided serves read wrote answer cause = absurd (omega (arith, wrote, cause.1))
completes_work work status.LinkFault input old new a b p q decided serves read wrote answer cause = absurd answer
completes_work work status.TurnsOver input old new a b p q decided serves read wrote answer cause = absurd answer
completes_work work (status.Lease line) input old new a b p q decided serves read wrote answer cause =
    never work (status.Lease line) input answer.bytes decided serves answer.read answer.why
completes_work work (status.Capture what) input old new a b p q decided serves read wrote answer cause =
    never work (status.Capture what) input answer.bytes decided serves answer.read answer.why
completes_work work (status.Schedule line) input old new a b p q decided serves read wrote answer cause =
    never work (status.Schedule line) input answer.bytes decided serves answer.read answer.why
completes_work work (status.Transcript line) input old new a b p q decided serves read wrote answer cause =
    never work (status.Transcript line) input answer.bytes decided serves answer.read answer.why
completes_work work status.Unjustified input old new a b p q decided serves read wrote answer cause =
    never_found work input answer.bytes answer.text decided serves answer.read answer.gives
completes_work work status.TooLong input old new a b p q decided serves read wrote answer cause =
    absurd (not_too_long input serves.bytes serves.told serves.in_limit answer.0)
completes_work work status.NoMemory input old new a b p q decided serves read wrote answer cause = tt

-- what a work comes to
pub ruleset works_end = (unread, refused_cause, cut_short, all_given, all_found)
