-- The line `hook`: what is read is spelled so, and what is spelled so is read.
use Rattle.std.proofs.Common.{ℕ, ◌<◌, ◌^◌, Option, Some, None, refl, arith, codes}
use Rattle.std.specs.Fmt.{decimal}
use Rattle.std.specs.List.{AllByRecursion}
use Rattle.net_types.specs.Marks.{IsPrintable, is_printable}
use Rattle.net_types.specs.Numbers.{number_at}
use Rattle.net_types.specs.Reads.{Reads}
use Rattle.net_types.proofs.ChoiceLaws.{ChoiceSound, Chosen, part_sound, part_chosen, choose_reads}
use Rattle.net_types.proofs.MarkLaws.{decimal_printable, only-append}
use Rattle.net_types.proofs.NumberLaws.{number_reads}
use Rattle.net_types.proofs.ReadsLaws.{end_reads}
use Rattle.world.specs.declared.hooking.Poll.{Poll}
use Rattle.world.specs.declared.hooking.Poll.TheVariants.{Running, Ended}
use Rattle.script_model.specs.HookAnswers.{FitsAnswer}
use Rattle.script_model.specs.Lines.{poll_text}
use Rattle.script_lines.specs.PollReading.{answers, poll_at}

abbrev ended_with : ℕ → Option Poll
ended_with status = Some (Ended status)

status_reads : Reads decimal (λ n. n < 256) (number_at 256)
status_reads = number_reads 256 (omega arith)

answers_sound : AllByRecursion (ChoiceSound poll_text FitsAnswer) answers
answers_sound = (
  part_sound poll_text FitsAnswer (codes "run") (λ none. Some Running) end_reads (λ none. refl) (λ none fits. tt),
  (
    part_sound poll_text FitsAnswer (codes "ended ") ended_with status_reads (λ status. refl) (λ status fits. fits),
    (part_sound poll_text FitsAnswer (codes "failed") (λ none. None) end_reads (λ none. refl) (λ none fits. tt), tt),
  ),
)

answer_chosen : (answer : Option Poll) → FitsAnswer answer → Chosen answers poll_text answer
answer_chosen (Some Running) fits = part_chosen answers poll_text 0 (codes "run") (λ none. Some Running) tt end_reads refl refl tt
answer_chosen (Some (Ended status)) fits = part_chosen answers poll_text 1 (codes "ended ") ended_with status status_reads refl refl fits
answer_chosen None fits = part_chosen answers poll_text 2 (codes "failed") (λ none. None) tt end_reads refl refl tt

pub poll_reads : Reads poll_text FitsAnswer poll_at
unfolding poll_at
poll_reads = choose_reads answers refl answers_sound answer_chosen

pub poll_printable : (answer : Option Poll) → FitsAnswer answer → IsPrintable (poll_text answer)
poll_printable (Some Running) fits = refl
poll_printable (Some (Ended status)) fits =
    let small : status < 2 ^ 64 = omega (arith, fits) in
    only-append is_printable (codes "ended ") (decimal status) refl (decimal_printable status small)
poll_printable None fits = refl
