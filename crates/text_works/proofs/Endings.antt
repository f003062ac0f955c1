-- What the answers of the top call come to.
use Rattle.std.proofs.Common.{ℕ, ◌≡◌, ◌≤◌, List, length, Option, Some, None, Ok, Err, sym, subst, arith, ◌∙◌}
use Rattle.conf_text.specs.Configurations.{IsConfOf}
use Rattle.conf_text.specs.declared.answers.ConfFault.{ConfFault}
use Rattle.conf_laws.proofs.OneLaws.{configuration_one}
use Rattle.text_works.specs.declared.status.Status.{Status}
use Rattle.text_works.specs.declared.status.Status.TheVariants as status
use Rattle.text_works.specs.Checks.{TellsConfiguration}
use Rattle.text_works.specs.Input.{limit, IsInput, IsTooLong}
use Rattle.text_works.specs.Statuses.{StopsWriting}

-- ---- writing stopped before its end

-- by one of two answers
pub stops_writing : (A : Status → Type 0) (answer : Status) → A status.WriteFault → A status.NoMemory → StopsWriting answer → A answer
stops_writing A status.Done fault memory stops = absurd stops
stops_writing A status.Usage fault memory stops = absurd stops
stops_writing A (status.Script f) fault memory stops = absurd stops
stops_writing A (status.Conf f) fault memory stops = absurd stops
stops_writing A status.ReadFault fault memory stops = absurd stops
stops_writing A status.WriteFault fault memory stops = fault
stops_writing A status.LinkFault fault memory stops = absurd stops
stops_writing A status.TurnsOver fault memory stops = absurd stops
stops_writing A (status.Lease line) fault memory stops = absurd stops
stops_writing A (status.Capture what) fault memory stops = absurd stops
stops_writing A (status.Schedule line) fault memory stops = absurd stops
stops_writing A (status.Transcript line) fault memory stops = absurd stops
stops_writing A status.Unjustified fault memory stops = absurd stops
stops_writing A status.TooLong fault memory stops = absurd stops
stops_writing A status.NoMemory fault memory stops = memory

-- ---- a good input is refused by nothing

some_is : {A : Type 0} {a b : A} → Some a ≡ Some b → a ≡ b
some_is e = cc

pub read_is : (input : Option (List ℕ)) (told read : List ℕ) → input ≡ Some told → IsInput input read → told ≡ read
read_is None told read is h = let never : ⊥ = cc in absurd never
read_is (Some input) told read is h = sym (some_is is) ∙ h

err_ok : {A B : Type 0} {a : A} {b : B} → Err b ≡ Ok a → ⊥
err_ok e = cc

pub configured : (input : Option (List ℕ)) (bytes : List ℕ) (fault : ConfFault) → TellsConfiguration input → IsInput input bytes → IsConfOf bytes (Err fault)
    → ⊥
configured input bytes fault tells read bad =
    err_ok
    (configuration_one bytes (Err fault) (Ok tells.conf) bad
    (subst (λ (b : List ℕ). IsConfOf b (Ok tells.conf)) (read_is input tells.bytes bytes tells.told read) tells.configured))

pub not_too_long : (input : Option (List ℕ)) (bytes : List ℕ) → input ≡ Some bytes → length bytes ≤ limit → IsTooLong input → ⊥
not_too_long None bytes told within long = let never : ⊥ = cc in never
not_too_long (Some input) bytes told within long = omega (arith, long, subst (λ (b : List ℕ). length b ≤ limit) (sym (some_is told)) within)
