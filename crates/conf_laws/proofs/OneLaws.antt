-- A text has one configuration or one first fault.
use Rattle.std.proofs.Common.{◌≡◌, ◌⊎◌, inl, inr, ℕ, Bool, true, false, List, [], ◌∷◌, ◌++◌, Option, Some, None, Result, Ok, Err, refl, sym, ap, ◌∙◌, subst}
use Rattle.std.specs.Option.{option_or}
use Rattle.std.proofs.lemmas.Option.{none-some, same_Some}
use Rattle.std.proofs.lemmas.List.{append-nil}
use Rattle.conf_words.specs.Directives.{Directive}
use Rattle.conf_words.specs.Readings.{Read}
use Rattle.conf_words.proofs.ReadingLaws.{one_reading}
use Rattle.conf_directives.specs.declared.names.HeadingName.{HeadingName}
use Rattle.conf_directives.specs.declared.names.HeadingName.TheVariants.{Interface, Profile, Ssid}
use Rattle.conf_directives.specs.Names.{heading_at, directive_at}
use Rattle.conf_directives.specs.Contents.{SaidContent}
use Rattle.conf_directives.proofs.SayingLaws.{one_interface, one_saying}
use Rattle.conf_text.specs.declared.answers.ConfFault.{ConfFault}
use Rattle.conf_text.specs.Configurations.{Configuration, configured, Tells}
use Rattle.conf_text.specs.Faults.{first_fault, first_from, not_text}
use Rattle.conf_text.specs.Laws.{ConfigurationIsOne}
use Rattle.conf_text.specs.Places.{Place, Global, Block, Skipped}
use Rattle.conf_text.specs.Standings.{Standing, standing, of_interface, is_global_alone, SaysInBlock, SaysAt, StandsUnder, StandFrom, Stand, place_after}
use Rattle.conf_text.proofs.StepLaws.{first_from_join}

-- ---- a line stands in one way

one_in_block : (b : Bool) (line : Directive) (one other : Option SaidContent) → SaysInBlock b line one → SaysInBlock b line other → one ≡ other
one_in_block true line one other first second = first ∙ sym second
one_in_block false line one other first second = one_saying line.word line.about one other first second

one_at : (place : Place) (line : Directive) (one other : Option SaidContent) → SaysAt place line one → SaysAt place line other → one ≡ other
one_at Global line one other first second = one_saying line.word line.about one other first second
one_at (Block name) line one other first second = one_in_block (is_global_alone (directive_at line.word)) line one other first second
one_at Skipped line one other first second = first ∙ sym second

one_under : (heading : Option HeadingName) (place : Place) (line : Directive) (one other : Standing) → StandsUnder heading place line one
    → StandsUnder heading place line other → one ≡ other
one_under (Some Interface) place line one other first second =
    first.2 ∙ ap (of_interface place line) (one_interface line.about first.0 second.0 first.1 second.1) ∙ sym second.2
one_under (Some Profile) place line one other first second = first ∙ sym second
one_under (Some Ssid) place line one other first second = first ∙ sym second
one_under None place line one other first second = first.2 ∙ ap (standing place line None) (one_at place line first.0 second.0 first.1 second.1) ∙ sym second.2

-- ---- of two fronts of the lines one is a front of the other

abbrev Meet : List Standing → List Standing → Type 0
Meet one other = (more : List Standing) × ((other ≡ one ++ more) ⊎ (one ≡ other ++ more))

meet_more : (stands : Standing) (one other : List Standing) → Meet one other → Meet (stands ∷ one) (stands ∷ other)
meet_more stands one other meet =
    (meet.0, elim meet.1 [ inl e ↦ inl (ap (λ (f : List Standing). stands ∷ f) e) | inr e ↦ inr (ap (λ (f : List Standing). stands ∷ f) e) ])

fronts_meet : (place : Place) (lines : List Directive) (one other : List Standing) (after behind : List Directive) → StandFrom place lines one after
    → StandFrom place lines other behind → Meet one other
fronts_meet place lines [] other after behind first second = (other, inl refl)
fronts_meet place lines (x ∷ one) [] after behind first second = (x ∷ one, inr refl)
fronts_meet place [] (x ∷ one) (y ∷ other) after behind first second = absurd first
fronts_meet place (line ∷ lines) (x ∷ one) (y ∷ other) after behind first second =
    let same : x ≡ y = one_under (heading_at line.word) place line x y first.0 second.0 in
    let later =
    fronts_meet (place_after x) lines one other after behind first.1
    (subst (λ (s : Standing). StandFrom (place_after s) lines other behind) (sym same) second.1) in
    subst (λ (s : Standing). Meet (x ∷ one) (s ∷ other)) same (meet_more x one other later)

no_more_lines : (lines : List Directive) (place : Place) (more : List Standing) (rest : List Directive) → lines ≡ [] → StandFrom place lines more rest
    → more ≡ []
no_more_lines lines place [] rest e stand = refl
no_more_lines [] place (stands ∷ more) rest e stand = absurd stand
no_more_lines (line ∷ lines) place (stands ∷ more) rest e stand = absurd (cc)

all_lines : (place : Place) (lines : List Directive) (front more : List Standing) (rest : List Directive) → StandFrom place lines front []
    → StandFrom place lines (front ++ more) rest → more ≡ []
all_lines place lines [] more rest whole stand = no_more_lines lines place more rest whole stand
all_lines place [] (stands ∷ front) more rest whole stand = absurd whole
all_lines place (line ∷ lines) (stands ∷ front) more rest whole stand = all_lines (place_after stands) lines front more rest whole.1 stand.1

-- ---- faults of a front

fault_goes_on : (front more : List Standing) (fault : ConfFault) → first_fault front ≡ Some fault → first_fault (front ++ more) ≡ Some fault
fault_goes_on front more fault e = first_from_join [] front more ∙ ap (λ o. option_or o (first_from front more)) e

-- a whole reading without a fault has none in a front
no_fault : (lines : List Directive) (whole front : List Standing) (rest : List Directive) (fault : ConfFault) → Stand lines whole [] → first_fault whole ≡ None
    → Stand lines front rest → first_fault front ≡ Some fault → ⊥
no_fault lines whole front rest fault stand good other bad =
    let meet = fronts_meet Global lines whole front [] rest stand other in
    elim meet.1 [
      | inl e ↦ (
          let none = all_lines Global lines whole meet.0 rest stand (subst (λ (f : List Standing). StandFrom Global lines f rest) e other) in
          let same : front ≡ whole = e ∙ ap (λ (m : List Standing). whole ++ m) none ∙ append-nil whole in
          none-some fault (sym good ∙ sym (ap first_fault same) ∙ bad))
      | inr e ↦ none-some fault (sym good ∙ ap first_fault e ∙ fault_goes_on front meet.0 fault bad)
    ]

whole_same : (lines : List Directive) (one other : List Standing) → Stand lines one [] → Stand lines other [] → one ≡ other
whole_same lines one other first second =
    let meet = fronts_meet Global lines one other [] [] first second in
    elim meet.1 [
      | inl e ↦ (
          let none = all_lines Global lines one meet.0 [] first (subst (λ (f : List Standing). StandFrom Global lines f []) e second) in
          sym (e ∙ ap (λ (m : List Standing). one ++ m) none ∙ append-nil one))
      | inr e ↦ (
          let none = all_lines Global lines other meet.0 [] second (subst (λ (f : List Standing). StandFrom Global lines f []) e first) in
          e ∙ ap (λ (m : List Standing). other ++ m) none ∙ append-nil other)
    ]

fault_same : (lines : List Directive) (one other : List Standing) (after behind : List Directive) (fault twin : ConfFault) → Stand lines one after
    → Stand lines other behind → first_fault one ≡ Some fault → first_fault other ≡ Some twin → fault ≡ twin
fault_same lines one other after behind fault twin first second bad worse =
    let meet = fronts_meet Global lines one other after behind first second in
    elim meet.1 [
      | inl e ↦ same_Some fault twin (sym (fault_goes_on one meet.0 fault bad) ∙ sym (ap first_fault e) ∙ worse)
      | inr e ↦ same_Some fault twin (sym bad ∙ ap first_fault e ∙ fault_goes_on other meet.0 twin worse)
    ]

whole_at : (lines : List Directive) (front : List Standing) (rest : List Directive) → rest ≡ [] → Stand lines front rest → Stand lines front []
whole_at lines front rest e stand = subst (StandFrom Global lines front) e stand

-- ---- what is told

one_told : (lines : List Directive) (number : Option ℕ) (front other : List Standing) (after behind : List Directive)
    (told twin : Result Configuration ConfFault)
    → Stand lines front after → Stand lines other behind → Tells front after number told → Tells other behind number twin → told ≡ twin
one_told lines number front other after behind (Ok conf) (Ok twin) first second tells says =
    ap (λ (c : Configuration). Ok c)
    (tells.3 ∙ ap configured (whole_same lines front other (whole_at lines front after tells.0 first) (whole_at lines other behind says.0 second))
    ∙ sym says.3)
one_told lines number front other after behind (Ok conf) (Err fault) first second tells says =
    elim says [
      | inl bad ↦ absurd (no_fault lines front other behind fault (whole_at lines front after tells.0 first) tells.1 second bad)
      | inr bad ↦ absurd (none-some fault (sym (ap not_text tells.2) ∙ bad.2))
    ]
one_told lines number front other after behind (Err fault) (Ok conf) first second tells says =
    elim tells [
      | inl bad ↦ absurd (no_fault lines other front after fault (whole_at lines other behind says.0 second) says.1 first bad)
      | inr bad ↦ absurd (none-some fault (sym (ap not_text says.2) ∙ bad.2))
    ]
one_told lines number front other after behind (Err fault) (Err twin) first second tells says =
    ap (λ (f : ConfFault). Err f)
    (elim tells [
      | inl bad ↦ elim says [
        | inl worse ↦ fault_same lines front other after behind fault twin first second bad worse
        | inr worse ↦ absurd (no_fault lines other front after fault (whole_at lines other behind worse.0 second) worse.1 first bad)
      ]
      | inr bad ↦ elim says [
        | inl worse ↦ absurd (no_fault lines front other behind twin (whole_at lines front after bad.0 first) bad.1 second worse)
        | inr worse ↦ same_Some fault twin (sym bad.2 ∙ worse.2)
      ]
    ])

pub configuration_one : ConfigurationIsOne
configuration_one text one other first second =
    let read = one_reading text first.read second.read first.is_read second.is_read in
    let stand : Stand first.read.found second.front second.rest = subst (λ (r : Read). Stand r.found second.front second.rest) (sym read) second.stand in
    let tells : Tells second.front second.rest first.read.not_text other =
    subst (λ (r : Read). Tells second.front second.rest r.not_text other) (sym read) second.tells in
    one_told first.read.found first.read.not_text first.front second.front first.rest second.rest one other first.stand stand first.tells tells
