-- What the reader makes of a line, by its heading and by where it stands.
use Rattle.std.proofs.Common.{◌≡◌, ℕ, true, false, List, [], Option, Some, None, Result, Ok, Err, refl, sym, ap, ◌∙◌, subst}
use Rattle.std.proofs.lemmas.List.{append-nil}
use Rattle.net_types.specs.declared.interface.Name.{Name}
use Rattle.conf_words.specs.Directives.{Directive}
use Rattle.conf_directives.specs.declared.names.HeadingName.{HeadingName}
use Rattle.conf_directives.specs.declared.names.HeadingName.TheVariants.{Interface, Profile, Ssid}
use Rattle.conf_directives.specs.Names.{heading_at, directive_at}
use Rattle.conf_directives.specs.Contents.{SaidContent, noticed}
use Rattle.conf_directives.specs.Says.{Says, IsOfInterface}
use Rattle.conf_text.specs.declared.answers.ConfAnswer.{ConfAnswer}
use Rattle.conf_text.specs.declared.answers.ConfAnswer.TheVariants.{Bad, NoMemory}
use Rattle.conf_text.specs.declared.answers.ConfCause.{ConfCause}
use Rattle.conf_text.specs.declared.answers.ConfCause.TheVariants.{BadArgument}
use Rattle.conf_text.specs.declared.reader.Spot.TheVariants as Spots
use Rattle.conf_text.specs.Configurations.{NoticeContent}
use Rattle.conf_text.specs.Places.{Place, Global, Block, Skipped}
use Rattle.conf_text.specs.Standings.{Standing, standing, of_interface, is_global_alone, nothing, SaysInBlock, SaysAt, StandsUnder, Stands}
use Rattle.conf_text.specs.Steps.{ReadSoFar, AnswersWith, IsAt, TakesLine, TakesSaid, directive_step, enter, enter_by, noticed_step, notices_with, notice_line, skip, step, step_by}

pub answers_with : (P Q : Result ReadSoFar ConfCause → Type 0) → ((outcome : Result ReadSoFar ConfCause) → P outcome → Q outcome)
    → (number : ℕ) (answer : ConfAnswer) → AnswersWith P number answer → AnswersWith Q number answer
answers_with P Q then number (Bad fault) answers = (then (Err fault.cause) answers.0, answers.1)
answers_with P Q then number NoMemory answers = tt

-- ---- headings

no_notice : (number : ℕ) (outcome : Result ReadSoFar ConfCause) → noticed_step number [] outcome ≡ outcome
no_notice number (Err cause) = refl
no_notice number (Ok so_far) =
    ap (λ (notices : List NoticeContent). Ok (record so_far { conf = record so_far.conf { notices = notices } })) (append-nil so_far.conf.notices)

entered_so : (so_far : ReadSoFar) (line : Directive) (place : Place) (name : Option Name) → enter_by so_far name ≡ step so_far (of_interface place line name)
unfolding step
entered_so so_far line place None = refl
entered_so so_far line place (Some name) = sym (no_notice line.number (enter so_far name))

pub takes_interface : (so_far : ReadSoFar) (line : Directive) (name : Option Name) (outcome : Result ReadSoFar ConfCause)
    → heading_at line.word ≡ Some Interface → IsOfInterface line.about name → outcome ≡ enter_by so_far name → TakesLine so_far line outcome
takes_interface so_far line name outcome heading is same = λ place at.
    let stands : Standing = of_interface place line name in
    (stands, subst (λ (h : Option HeadingName). StandsUnder h place line stands) (sym heading) (name, is, refl), same ∙ entered_so so_far line place name)

pub takes_profile : (so_far : ReadSoFar) (line : Directive) (outcome : Result ReadSoFar ConfCause) → heading_at line.word ≡ Some Profile
    → outcome ≡ Ok (skip so_far line) → TakesLine so_far line outcome
unfolding step
takes_profile so_far line outcome heading same = λ place at.
    let stands : Standing = standing place line (Some Skipped) (Some (noticed line.word)) in
    (stands, subst (λ (h : Option HeadingName). StandsUnder h place line stands) (sym heading) refl, same)

pub takes_ssid : (so_far : ReadSoFar) (line : Directive) (outcome : Result ReadSoFar ConfCause) → heading_at line.word ≡ Some Ssid
    → outcome ≡ Ok (skip so_far line) → TakesLine so_far line outcome
unfolding step
takes_ssid so_far line outcome heading same = λ place at.
    let stands : Standing = standing place line (Some Skipped) (Some (noticed line.word)) in
    (stands, subst (λ (h : Option HeadingName). StandsUnder h place line stands) (sym heading) refl, same)

-- ---- other lines

abbrev TakesAt : Place → ReadSoFar → Directive → Result ReadSoFar ConfCause → Type 0
TakesAt place so_far line outcome = (said : Option SaidContent) × SaysAt place line said × (outcome ≡ step_by so_far line.number None said)

takes_at : (place : Place) (so_far : ReadSoFar) (line : Directive) (outcome : Result ReadSoFar ConfCause) → heading_at line.word ≡ None
    → TakesAt place so_far line outcome → (stands : Standing) × Stands place line stands × (outcome ≡ step so_far stands)
unfolding step
takes_at place so_far line outcome heading takes =
    let stands : Standing = standing place line None takes.0 in
    (stands, subst (λ (h : Option HeadingName). StandsUnder h place line stands) (sym heading) (takes.0, takes.1, refl), takes.2)

at_global : (place : Place) → IsAt place Spots.Global → place ≡ Global
at_global Global at = refl
at_global (Block name) at = absurd at
at_global Skipped at = absurd at

at_skipped : (place : Place) → IsAt place Spots.Skipped → place ≡ Skipped
at_skipped Global at = absurd at
at_skipped (Block name) at = absurd at
at_skipped Skipped at = refl

pub takes_global : (so_far : ReadSoFar) (line : Directive) (outcome : Result ReadSoFar ConfCause) → heading_at line.word ≡ None → so_far.spot ≡ Spots.Global
    → TakesSaid so_far line outcome → TakesLine so_far line outcome
takes_global so_far line outcome heading spot takes = λ place at.
    let here = at_global place (subst (IsAt place) spot at) in
    takes_at place so_far line outcome heading (subst (λ p. TakesAt p so_far line outcome) (sym here) takes)

pub takes_skipped : (so_far : ReadSoFar) (line : Directive) (outcome : Result ReadSoFar ConfCause) → heading_at line.word ≡ None → so_far.spot ≡ Spots.Skipped
    → outcome ≡ Ok so_far → TakesLine so_far line outcome
takes_skipped so_far line outcome heading spot same = λ place at.
    let here = at_skipped place (subst (IsAt place) spot at) in
    takes_at place so_far line outcome heading
    (subst (λ p. TakesAt p so_far line outcome) (sym here) (Some nothing, refl, same ∙ sym (no_notice line.number (Ok so_far))))

in_block : (index : ℕ) (place : Place) (so_far : ReadSoFar) (line : Directive) (outcome : Result ReadSoFar ConfCause) → IsAt place (Spots.Block index)
    → ((name : Name) → TakesAt (Block name) so_far line outcome) → TakesAt place so_far line outcome
in_block index Global so_far line outcome at takes = absurd at
in_block index (Block name) so_far line outcome at takes = takes name
in_block index Skipped so_far line outcome at takes = absurd at

pub takes_block : (so_far : ReadSoFar) (line : Directive) (index : ℕ) (outcome : Result ReadSoFar ConfCause) → heading_at line.word ≡ None
    → so_far.spot ≡ Spots.Block index → is_global_alone (directive_at line.word) ≡ false → TakesSaid so_far line outcome → TakesLine so_far line outcome
takes_block so_far line index outcome heading spot alone takes = λ place at.
    takes_at place so_far line outcome heading
    (in_block index place so_far line outcome (subst (IsAt place) spot at)
    (λ name. (takes.0, subst (λ b. SaysInBlock b line takes.0) (sym alone) takes.1, takes.2)))

pub takes_alone : (so_far : ReadSoFar) (line : Directive) (index : ℕ) (outcome : Result ReadSoFar ConfCause) → heading_at line.word ≡ None
    → so_far.spot ≡ Spots.Block index → is_global_alone (directive_at line.word) ≡ true → outcome ≡ Ok (notice_line so_far line) → TakesLine so_far line outcome
takes_alone so_far line index outcome heading spot alone same = λ place at.
    let said : Option SaidContent = Some (noticed line.word) in
    takes_at place so_far line outcome heading
    (in_block index place so_far line outcome (subst (IsAt place) spot at)
    (λ name. (said, subst (λ b. SaysInBlock b line said) (sym alone) refl, same)))

-- ---- what lines say

pub takes_said : (so_far mid : ReadSoFar) (line : Directive) (said : SaidContent) (outcome : Result ReadSoFar ConfCause) → Says line.word line.about (Some said)
    → directive_step so_far said.directive ≡ Ok mid → outcome ≡ Ok (record mid { conf = notices_with line.number said.notices mid.conf })
    → TakesSaid so_far line outcome
takes_said so_far mid line said outcome says takes same = (Some said, says, same ∙ sym (ap (noticed_step line.number said.notices) takes))

pub refuses_said : (so_far : ReadSoFar) (line : Directive) (said : SaidContent) (cause : ConfCause) → Says line.word line.about (Some said)
    → directive_step so_far said.directive ≡ Err cause → TakesSaid so_far line (Err cause)
refuses_said so_far line said cause says refuses = (Some said, says, sym (ap (noticed_step line.number said.notices) refuses))

pub refuses_bad : (so_far : ReadSoFar) (line : Directive) → Says line.word line.about None → TakesSaid so_far line (Err BadArgument)
refuses_bad so_far line says = (None, says, refl)
