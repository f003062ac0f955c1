use Rattle.std.proofs.Common.{◌≡◌, List, [], map, refl, subst, true, ℕ, ◌∙◌}
use Rattle.std.specs.String.{string_bytes}
use Rattle.clap.specs.Words.{App, HasMatchesOf, app_of, fault_of, is_simple_and_free, kind_of, takes}
use Rattle.clap.specs.declared.error.kind.ErrorKind.TheVariants.{OutOfMemory}
use Rattle.live_words.specs.LiveCommand.{live_command}
use Rattle.live_words.proofs.PlacedWords.{placed, unplaced}
use Rattle.live_words.proofs.reading.matches_of.Goals as goal

pub returns-in-Ok : goal.returns-in-Ok
returns-in-Ok c =
    let words : List (List ℕ) = map string_bytes c.args.words.now in
    let command_is : app_of c.in_ok-command.field-0 ≡ live_command = c.in_ok-command.ensures in
    placed words c.in-Ok.matches c.requires (subst (λ (a : App). HasMatchesOf a words c.in-Ok.matches) command_is c.in-Ok.ensures.matches)
    (subst (λ (a : App). is_simple_and_free a ≡ true → fault_of a words ≡ []) command_is c.in-Ok.ensures.kinds refl)

pub returns : goal.returns
returns c =
    let words : List (List ℕ) = map string_bytes c.args.words.now in
    let command_is : app_of c.in_ok-command.field-0 ≡ live_command = c.in_ok-command.ensures in
    let wants = subst (λ (a : App). takes a words ≡ true → kind_of c.in-Err.error ≡ OutOfMemory) command_is c.in-Err.ensures.passes in
    unplaced words c.requires (λ takes. c.in_default.not-OutOfMemory (c.kind.ensures ∙ wants takes))
