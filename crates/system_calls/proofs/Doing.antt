-- Calls that are made one after another.
use Rattle.std.proofs.Common.{◌≡◌, List, [], ◌∷◌, ◌++◌, append_assoc, Option, None, Some, Result, Ok, Err, refl, sym, ap, ◌∙◌, subst}
use Rattle.std.specs.declared.io.ErrorKind.{ErrorKind}
use Rattle.world.specs.declared.faults.DeviceAnswer.{DeviceAnswer}
use Rattle.system_calls.specs.Asking.{Does, Answered}
use Rattle.system_calls.specs.Counts.{AnswersAs}

pub nothing : {C : Type 0} (old : Option (List C)) → Does [] old old
nothing None = refl
nothing (Some calls) = refl

pub then : {C : Type 0} (call : C) (made : List C) (old mid new : Option (List C)) → Does made old mid → Does (call ∷ []) mid new → Does (call ∷ made) old new
then call made None mid new before = subst (λ m. Does (call ∷ []) m new → new ≡ None) (sym before) (λ after. after)
then call made (Some calls) mid new before = subst (λ m. Does (call ∷ []) m new → Does (call ∷ made) (Some calls) new) (sym before) (λ after. after)

-- calls behind others
pub behind : {C : Type 0} (later earlier : List C) (old mid new : Option (List C)) → Does earlier old mid → Does later mid new → Does (later ++ earlier) old new
behind later earlier None mid new before = subst (λ m. Does later m new → new ≡ None) (sym before) (λ after. after)
behind later earlier (Some calls) mid new before =
    subst (λ m. Does later m new → Does (later ++ earlier) (Some calls) new) (sym before) (λ after. after ∙ ap Some (sym (append_assoc later earlier calls)))

-- a device that answers as the system did
pub answered_so : {T : Type 0} (asked : Option ErrorKind → Type 0) (unasked : Type 0) (failure : Option ErrorKind) (result : Result T DeviceAnswer)
    → asked failure → AnswersAs failure result → Answered asked unasked result
answered_so asked unasked None (Ok x) did answers = did
answered_so asked unasked None (Err answer) did answers = absurd answers
answered_so asked unasked (Some kind) (Ok x) did answers = absurd answers
answered_so asked unasked (Some kind) (Err answer) did answers = rw answers (kind, did)

-- an answer that was counted
pub counted_so : (P : DeviceAnswer → Type 0) (answer result : DeviceAnswer) → result ≡ answer → P answer → P result
counted_so P answer result same given = rw same given

-- calls between two moments at which nothing was asked
pub asked_between : {C : Type 0} (asked : (old new : C) → Type 0) (start first second last : C) → first ≡ start → last ≡ second → asked first second
    → asked start last
asked_between asked start first second last begins ends did = subst (λ now. asked now last) begins (subst (λ now. asked first now) (sym ends) did)

pub noted_between : {C T : Type 0} (asked : (old new : C) → Option ErrorKind → Type 0) (start first second last : C) (failure : Option ErrorKind)
    (result : Result T DeviceAnswer) → first ≡ start → last ≡ second → asked first second failure → AnswersAs failure result
    → Answered (asked start last) (last ≡ start) result
noted_between asked start first second last failure result begins ends did answers =
    answered_so (asked start last) (last ≡ start) failure result
    (asked_between (λ old new. asked old new failure) start first second last begins ends did) answers
