use Rattle.std.proofs.Common.{ℕ, List, map, rules, subst, sym}
use Rattle.std.specs.String.{string_bytes}
use Rattle.capture_script.specs.CapturedScripts.{spec_of}
use Rattle.asked_works.specs.declared.words.Import.{Import}
use Rattle.replayed_lives.specs.TextWorks.Importing.{IsImportAnswer, importing}
use Rattle.dhcpcd.specs.Making.{IsMadeAnswer}
use Rattle.asked_works.specs.Words.{AsksImport, AsksMake}
use Rattle.replayed_lives.specs.TextWorks.Works.{Serves}
use Rattle.asked_works.proofs.ImportLaws.{import_is_one}
use Rattle.asked_works.proofs.MakeLaws.{rounds_are_one}
use Rattle.dhcpcd.proofs.running.run.Goals as goal

pub returns-in-Ok-Some-Make-clause-made : goal.returns-in-Ok-Some-Make-clause-made
returns-in-Ok-Some-Make-clause-made g c =
    let words : List (List ℕ) = map string_bytes c.args.words.now in
    let asked : AsksMake words c.in-Ok-Some-Make.rounds = search rules in
    λ rounds asks. subst (λ (n : ℕ). IsMadeAnswer c.make.result n (g.O.Sink.written c.args.out.now) (g.O.Sink.written c.make.new.out))
    (rounds_are_one words c.in-Ok-Some-Make.rounds rounds asked asks) c.make.ensures.answer

pub returns-in-Ok-Some-Import-clause-imports : goal.returns-in-Ok-Some-Import-clause-imports
returns-in-Ok-Some-Import-clause-imports g c =
    let words : List (List ℕ) = map string_bytes c.args.words.now in
    let asked : AsksImport words c.in-Ok-Some-Import.on.name c.in-Ok-Some-Import.on.mac = search rules in
    λ name mac asks. subst
    (λ (on : Import). IsImportAnswer (spec_of on.name on.mac) c.import_capture.result (g.I.Source.left c.args.input.now) (g.O.Sink.written c.args.out.now)
    (g.O.Sink.written c.import_capture.new.out))
    (import_is_one words c.in-Ok-Some-Import.on name mac asked asks) c.import_capture.ensures.answer

pub returns-in-Ok-Some-Import-clause-import_complete : goal.returns-in-Ok-Some-Import-clause-import_complete
returns-in-Ok-Some-Import-clause-import_complete g c =
    let words : List (List ℕ) = map string_bytes c.args.words.now in
    let asked : AsksImport words c.in-Ok-Some-Import.on.name c.in-Ok-Some-Import.on.mac = search rules in
    λ good held. c.import_capture.ensures.complete
    (subst (λ (on : Import). Serves (importing (spec_of on.name on.mac)) (g.I.Source.left c.args.input.now))
    (sym (import_is_one words c.in-Ok-Some-Import.on good.0 good.1 asked good.2)) good.3) held.0 held.1

pub returns-in-Ok-Some-Import-clause-imports_good : goal.returns-in-Ok-Some-Import-clause-imports_good
returns-in-Ok-Some-Import-clause-imports_good g c =
    let words : List (List ℕ) = map string_bytes c.args.words.now in
    let asked : AsksImport words c.in-Ok-Some-Import.on.name c.in-Ok-Some-Import.on.mac = search rules in
    λ good never. c.import_capture.ensures.serves
    (subst (λ (on : Import). Serves (importing (spec_of on.name on.mac)) (g.I.Source.left c.args.input.now))
    (sym (import_is_one words c.in-Ok-Some-Import.on good.0 good.1 asked good.2)) good.3) never.0 never.1
