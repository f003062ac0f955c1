-- The lines of a scope and of those in front of all blocks have no more identity associations than there may be.
use Rattle.std.proofs.Common.{◌≡◌, ℕ, ◌+◌, ◌≤◌, Bool, true, false, cond, List, [], ◌∷◌, ◌++◌, length, filter_map, Option, Some, None, option_map, unwrap_or, refl, sym, ap, ◌∙◌, subst, arith}
use Rattle.std.specs.Prelude.{nat_lt}
use Rattle.std.specs.List.{cons_option}
use Rattle.std.specs.Option.{option_or}
use Rattle.std.proofs.lemmas.Bool.{or_parts, true≢false, ltb-false}
use Rattle.std.proofs.lemmas.List.{append-nil, append_assoc, length-append}
use Rattle.std.proofs.lemmas.List.Elements.{filter_map-append}
use Rattle.std.proofs.lemmas.Option.{none-some}
use Rattle.net_types.specs.declared.interface.Name.{Name}
use Rattle.conf_words.specs.Directives.{Directive}
use Rattle.conf_directives.specs.declared.names.HeadingName.{HeadingName}
use Rattle.conf_directives.specs.declared.names.HeadingName.TheVariants.{Interface, Profile, Ssid}
use Rattle.conf_directives.specs.Names.{heading_at}
use Rattle.conf_directives.specs.Contents.{DirectiveContent, Ia, SaidContent}
use Rattle.conf_text.specs.declared.answers.ConfCause.{ConfCause}
use Rattle.conf_text.specs.declared.answers.ConfCause.TheVariants.{BadArgument, Repeated, TooMany}
use Rattle.conf_text.specs.declared.answers.ConfFault.{ConfFault}
use Rattle.conf_text.specs.Faults.{cause_at, cause_of, cause_of_said, fault, fault_at, first_fault, first_from}
use Rattle.conf_text.specs.ConfScopes.Limits.{counts_of, is_repeated, is_too_much}
use Rattle.conf_text.specs.Places.{Place, Global, Block, Skipped, is_named, is_place}
use Rattle.conf_text.specs.Sayings.{directive_of, said_at_place, said_for, said_there}
use Rattle.conf_text.specs.ConfScopes.Scopes.{scope_of}
use Rattle.conf_text.specs.Standings.{Standing, Stand, StandFrom, Stands, StandsUnder, place_after, place_from}
use Rattle.conf_text.specs.ConfScopes.ScopeSteps.{list_with}
use Rattle.conf_text.specs.ConfScopes.Values.{ia_said}
use Rattle.conf_text.proofs.NameLaws.{named_same}
use Rattle.conf_text.proofs.SayingLaws.{not_there, said_by_text, said_more, stands_there}
use Rattle.conf_text.proofs.StepLaws.{stand_so}

-- ---- how many there are

abbrev ias_in : List DirectiveContent → ℕ
ias_in lines = length (filter_map ia_said lines)

abbrev ias_at : Place → List Standing → ℕ
ias_at place front = ias_in (said_at_place place front)

abbrev one_in : Option DirectiveContent → ℕ
one_in None = 0
one_in (Some said) = length (cons_option (ia_said said) [])

ias_with : (lines : List DirectiveContent) (said : Option DirectiveContent) → ias_in (list_with lines said) ≡ ias_in lines + one_in said
ias_with lines None = omega arith
ias_with lines (Some said) = ap length (filter_map-append ia_said lines (said ∷ [])) ∙ length-append (filter_map ia_said lines) (cons_option (ia_said said) [])

ias_join : (lines more : List DirectiveContent) → ias_in (lines ++ more) ≡ ias_in lines + ias_in more
ias_join lines more = ap length (filter_map-append ia_said lines more) ∙ length-append (filter_map ia_said lines) (filter_map ia_said more)

ias_more : (place : Place) (front : List Standing) (stands : Standing)
    → ias_at place (front ++ stands ∷ []) ≡ ias_at place front + one_in (said_there place stands)
ias_more place front stands =
    ap ias_in (said_more place front stands (said_there place stands) refl) ∙ ias_with (said_at_place place front) (said_there place stands)

-- ---- a line without a fault finds room

not_too_much : (repeated beyond : Bool) → cond repeated (Some Repeated) (cond beyond (Some TooMany) None) ≡ None → beyond ≡ false
not_too_much true beyond good = absurd (none-some Repeated (sym good))
not_too_much false true good = absurd (none-some TooMany (sym good))
not_too_much false false good = refl

room_for : (global before : List DirectiveContent) (said : DirectiveContent) → cause_of global before said ≡ None → ias_in before ≤ 6
    → ias_in before + one_in (Some said) ≤ 6
room_for global before (Ia ia) good few =
    let within = not_too_much (is_repeated (filter_map ia_said before) (Ia ia)) (is_too_much (counts_of global before) (Ia ia)) good in
    ltb-false 6 (ias_in before + 1) (or_parts (nat_lt 6 (ias_in before + 1)) _ within).0
room_for global before _ good few = omega (arith, few)

good_at : (front : List Standing) (number : ℕ) (place : Place) (begins : Option Place) (said : Option SaidContent) (directive : DirectiveContent)
    → directive_of (stand_so number place begins said) ≡ Some directive → cause_at front (stand_so number place begins said) ≡ None
    → cause_of (said_at_place Global front) (said_for place front) directive ≡ None
unfolding cause_at
good_at front number place begins None directive is good = absurd (none-some BadArgument (sym good))
good_at front number place (Some begun) (Some said) directive is good = absurd (none-some directive is)
good_at front number place None (Some said) directive is good = sym (ap (cause_of_said (said_at_place Global front) (said_for place front)) is) ∙ good

room_at : (front : List Standing) (stands : Standing) → cause_at front stands ≡ None → ias_in (said_for stands.place front) ≤ 6
    → ias_in (said_for stands.place front) + one_in (directive_of stands) ≤ 6
room_at front stands good few = by (directive_of stands) refl
  where
    by : (o : Option DirectiveContent) → directive_of stands ≡ o → ias_in (said_for stands.place front) + one_in o ≤ 6
    by None is = omega (arith, few)
    by (Some said) is =
        room_for (said_at_place Global front) (said_for stands.place front) said
        (good_at front stands.number stands.place stands.begins stands.said said is good) few

-- ---- lines one after another

-- Few are said of each interface; and where lines still stand in front of all blocks, no block says one.
record Few (place : Place) (front : List Standing) : Type 0 where
  few : (name : Name) → ias_at Global front + ias_at (Block name) front ≤ 6
  none : place ≡ Global → (name : Name) → ias_at (Block name) front ≡ 0

few_there : (front : List Standing) (number : ℕ) (place : Place) (begins : Option Place) (said : Option SaidContent) (name : Name)
    → cause_at front (stand_so number place begins said) ≡ None → Few place front
    → ias_at Global front + one_in (said_there Global (stand_so number place begins said)) +
    (ias_at (Block name) front + one_in (said_there (Block name) (stand_so number place begins said)))
    ≤ 6
few_there front number Global begins said name good all =
    let few = all.few name in
    let none = all.none refl name in
    let within : ias_at Global front ≤ 6 = omega (arith, few) in
    let room : ias_at Global front + one_in (directive_of (stand_so number Global begins said)) ≤ 6 =
    room_at front (stand_so number Global begins said) good within in
    omega (arith, room, none)
few_there front number (Block other) begins said name good all = by (is_named name other) refl
  where
    line : Standing
    line = stand_so number (Block other) begins said

    by : (b : Bool) → is_named name other ≡ b → ias_at Global front + one_in None + (ias_at (Block name) front + one_in (cond b (directive_of line) None)) ≤ 6
    by false is = omega (arith, all.few name)
    by true is =
        let alike : ias_at (Block other) front ≡ ias_at (Block name) front = ap ias_in (said_by_text name other (named_same name other is) front) in
        let joined : ias_in (said_for (Block other) front) ≡ ias_at Global front + ias_at (Block other) front =
        ias_join (said_at_place Global front) (said_at_place (Block other) front) in
        let few = all.few name in
        let within : ias_in (said_for (Block other) front) ≤ 6 = omega (arith, alike, joined, few) in
        let room : ias_in (said_for (Block other) front) + one_in (directive_of line) ≤ 6 = room_at front line good within in
        omega (arith, alike, joined, room)
few_there front number Skipped begins said name good all = omega (arith, all.few name)

elsewhere : (place : Place) → is_place Global place ≡ false → place ≡ Global → ⊥
elsewhere place apart is = true≢false (sym (ap (is_place Global) is) ∙ apart)

-- lines after which lines stand in front of all blocks stand there themselves
stays_in_front : (heading : Option HeadingName) (place : Place) (line : Directive) (stands : Standing) → StandsUnder heading place line stands
    → place_after stands ≡ Global → place ≡ Global
stays_in_front (Some Interface) place line stands here after = by here.0 (sym (ap place_after here.2) ∙ after)
  where
    by : (name : Option Name) → unwrap_or (option_map Block name) place ≡ Global → place ≡ Global
    by None is = is
    by (Some name) is = absurd (elsewhere (Block name) refl is)
stays_in_front (Some Profile) place line stands here after = absurd (elsewhere Skipped refl (sym (ap place_after here) ∙ after))
stays_in_front (Some Ssid) place line stands here after = absurd (elsewhere Skipped refl (sym (ap place_after here) ∙ after))
stays_in_front None place line stands here after = sym (ap place_after here.2) ∙ after

few_more : (place : Place) (line : Directive) (front : List Standing) (stands : Standing) → Stands place line stands → cause_at front stands ≡ None
    → Few place front → Few (place_after stands) (front ++ stands ∷ [])
few_more place line front stands here good all =
    let there : stands.place ≡ place = stands_there (heading_at line.word) place line stands here in
    record {
      few = λ name.
          let global = ias_more Global front stands in
          let block = ias_more (Block name) front stands in
          let few = few_there front stands.number stands.place stands.begins stands.said name good (subst (λ p. Few p front) (sym there) all) in
          omega (arith, global, block, few);
      none = λ after name.
          let before : place ≡ Global = stays_in_front (heading_at line.word) place line stands here after in
          let block =
          ias_more (Block name) front stands
          ∙ ap (λ o. ias_at (Block name) front + one_in o) (not_there (Block name) stands (ap (is_place (Block name)) (there ∙ before))) in
          let none = all.none before name in
          omega (arith, block, none);
    }

both_none : (o p : Option ConfFault) → option_or o p ≡ None → (o ≡ None) × (p ≡ None)
both_none None p good = (refl, good)
both_none (Some fault) p good = absurd (none-some fault (sym good))

no_cause : (number : ℕ) (o : Option ConfCause) → option_map (fault number) o ≡ None → o ≡ None
no_cause number None good = refl
no_cause number (Some cause) good = absurd (none-some (fault number cause) (sym good))

few_from : (place : Place) (lines : List Directive) (before more : List Standing) (rest : List Directive) → StandFrom place lines more rest
    → first_from before more ≡ None → Few place before → Few (place_from place more) (before ++ more)
few_from place lines before [] rest stand good few = subst (Few place) (sym (append-nil before)) few
few_from place [] before (stands ∷ more) rest stand good few = absurd stand
few_from place (line ∷ lines) before (stands ∷ more) rest stand good few =
    let parts = both_none (fault_at before stands) (first_from (before ++ stands ∷ []) more) good in
    let next = few_more place line before stands stand.0 (no_cause stands.number (cause_at before stands) parts.0) few in
    subst (Few (place_from (place_after stands) more)) (append_assoc before (stands ∷ []) more)
    (few_from (place_after stands) lines (before ++ stands ∷ []) more rest stand.1 parts.1 next)

pub few_ias : (lines : List Directive) (front : List Standing) (rest : List Directive) → Stand lines front rest → first_fault front ≡ None → (name : Name)
    → length ((scope_of (said_at_place Global front)).ias ++ (scope_of (said_at_place (Block name) front)).ias) ≤ 6
few_ias lines front rest stand good name =
    let none : Few Global [] = record { few = λ name. omega arith; none = λ is name. refl } in
    let all = few_from Global lines [] front rest stand good none in
    let few = all.few name in
    omega (arith, few, length-append (filter_map ia_said (said_at_place Global front)) (filter_map ia_said (said_at_place (Block name) front)))
