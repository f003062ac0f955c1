-- What is found in the lives of a transcript is the first address without basis.
use Rattle.std.proofs.Common.{◌≡◌, ◌≢◌, ℕ, ◌+◌, List, [], ◌∷◌, ◌++◌, length, Option, Some, None, option_map, refl, sym, ap, ◌∙◌, subst, arith}
use Rattle.std.specs.List.{AllByRecursion}
use Rattle.net_types.specs.FirstBadLine.{IsSpelled}
use Rattle.world.specs.declared.rows.HostRow.{HostRow}
use Rattle.host_model.specs.HostTable.{InRowOrder}
use Rattle.transcript_read.specs.TranscriptModel.Told.{Told, LifeTold, TurnTold}
use Rattle.transcript_read.specs.TranscriptModel.LifeShapes.{AllFollow, FitsLife}
use Rattle.transcript_read.specs.TranscriptModel.Transcripts.{FitsBody, SpellsTold}
use Rattle.audit_model.specs.Showing.{Shown, shown_after, shown_at_first, shown_next}
use Rattle.audit_model.specs.Verdicts.{BasisWord, FirstUnjust, IsJust, IsUnjust, LifeIsJust}
use Rattle.audit_model.specs.Auditing.{Judge, Unjust, lacking, unjust_at, unjust_first}
use Rattle.audit_model.specs.Laws.{AuditsTell, Decides, HasOneVerdict, IsAudited, SaysSo, SaysVerdict, VerdictsAreOne, VerdictsAreSaid, audited}
use Rattle.audit_model.proofs.LivesWalked.{Scene, ends_told, found_from, found_in_life, found_in_lives, found_then, found_told, first_in_order, living_of, next_in_order, scene_of}
use Rattle.audit_model.proofs.FirstLacking.{just_lacks, none_lacks, sites_of, some_lacks, unjust_lacks}

-- ---- small facts

neither : (a b : Option Unjust) → unjust_first a b ≡ None → (a ≡ None) × (b ≡ None)
neither (Some unjust) b e = absurd (some_none e)
  where
    some_none : Some unjust ≡ None → ⊥
    some_none same = cc
neither None b e = (refl, e)

none_first : (a b : Option Unjust) → a ≡ None → unjust_first a b ≡ b
none_first a b e = ap (λ o. unjust_first o b) e

some_first : (a b : Option Unjust) (unjust : Unjust) → a ≡ Some unjust → unjust_first a b ≡ Some unjust
some_first a b unjust e = ap (λ o. unjust_first o b) e

same_some : {X : Type 0} {a b : X} → Some a ≡ Some b → a ≡ b
same_some e = cc

same_head : {X : Type 0} {a b : X} {more others : List X} → a ∷ more ≡ b ∷ others → a ≡ b
same_head e = cc

same_tail : {X : Type 0} {a b : X} {more others : List X} → a ∷ more ≡ b ∷ others → more ≡ others
same_tail e = cc

no_cons : {X : Type 0} {a : X} {more : List X} → [] ≡ a ∷ more → ⊥
no_cons e = cc

cons_some : {X : Type 0} {a : X} {more : List X} → a ∷ more ≢ []
cons_some e = cc

-- ---- a turn

module _ (judge : Judge) (Rests : BasisWord) (decides : Decides judge Rests) where
  abbrev Just : Scene → Shown → Type 0
  Just scene shown = IsJust Rests scene.managed (sites_of scene) shown

  abbrev Unjustly : Scene → Shown → HostRow → Type 0
  Unjustly scene shown row = IsUnjust Rests scene.managed (sites_of scene) shown row

  none_then : (scene : Scene) (number : ℕ) (shown : Shown) → found_then judge scene number shown ≡ None → lacking judge (living_of scene shown) ≡ None
  none_then scene number shown e = at (lacking judge (living_of scene shown)) e
    where
      at : (o : Option HostRow) → option_map (unjust_at number (length shown.past)) o ≡ None → o ≡ None
      at None e = refl
      at (Some row) e = absurd cc

  record FoundRow (number turn : ℕ) (o : Option HostRow) (unjust : Unjust) : Type 0 where
    row : HostRow
    lacks : o ≡ Some row
    is : unjust ≡ unjust_at number turn row

  some_then : (number turn : ℕ) (o : Option HostRow) (unjust : Unjust) → option_map (unjust_at number turn) o ≡ Some unjust → FoundRow number turn o unjust
  some_then number turn None unjust e = absurd cc
  some_then number turn (Some row) unjust e = record { row = row; lacks = refl; is = sym (same_some e) }

  -- ---- the turns of a life

  just_from : (scene : Scene) (number : ℕ) (turns : List TurnTold) (shown : Shown) → found_from judge scene number shown turns ≡ None
      → (front rest : List TurnTold) → turns ≡ front ++ rest → Just scene (shown_after shown front)
  just_from scene number [] shown none [] rest split = none_lacks judge Rests decides scene shown (none_then scene number shown none)
  just_from scene number [] shown none (turn ∷ front) rest split = absurd (no_cons split)
  just_from scene number (turn ∷ turns) shown none [] rest split =
      none_lacks judge Rests decides scene shown
      (none_then scene number shown (neither (found_then judge scene number shown) (found_from judge scene number (shown_next shown turn) turns) none).0)
  just_from scene number (turn ∷ turns) shown none (other ∷ front) rest split =
      let later = (neither (found_then judge scene number shown) (found_from judge scene number (shown_next shown turn) turns) none).1 in
      subst (λ t. Just scene (shown_after (shown_next shown t) front)) (same_head split)
      (just_from scene number turns (shown_next shown turn) later front rest (same_tail split))

  nothing_then : (scene : Scene) (number : ℕ) (shown : Shown) → InRowOrder shown.rows → Just scene shown → found_then judge scene number shown ≡ None
  nothing_then scene number shown order just = ap (option_map (unjust_at number (length shown.past))) (just_lacks judge Rests decides scene shown order just)

  nothing_from : (scene : Scene) (number : ℕ) (turns : List TurnTold) (shown : Shown) → InRowOrder shown.rows
      → AllByRecursion (λ turn. AllFollow turn.lines) turns
      → ((front rest : List TurnTold) → turns ≡ front ++ rest → Just scene (shown_after shown front)) → found_from judge scene number shown turns ≡ None
  nothing_from scene number [] shown order all just = nothing_then scene number shown order (just [] [] refl)
  nothing_from scene number (turn ∷ turns) shown order all just =
      none_first (found_then judge scene number shown) (found_from judge scene number (shown_next shown turn) turns)
      (nothing_then scene number shown order (just [] (turn ∷ turns) refl))
      ∙ nothing_from scene number turns (shown_next shown turn) (next_in_order shown turn all.0 order) all.1
      (λ front rest split. just (turn ∷ front) rest (ap (λ ts. turn ∷ ts) split))

  -- the first turn after which an address has no basis
  record UnjustTurn (scene : Scene) (number : ℕ) (shown : Shown) (turns : List TurnTold) (unjust : Unjust) : Type 0 where
    front : List TurnTold
    rest : List TurnTold
    split : turns ≡ front ++ rest
    life : unjust.life ≡ number
    turn : unjust.turn ≡ length shown.past + length front
    front_just : (shorter more : List TurnTold) → front ≡ shorter ++ more → more ≢ [] → Just scene (shown_after shown shorter)
    first : Unjustly scene (shown_after shown front) unjust.row

  unjust_now : (scene : Scene) (number : ℕ) (shown : Shown) (turns : List TurnTold) (unjust : Unjust) → InRowOrder shown.rows
      → found_then judge scene number shown ≡ Some unjust → UnjustTurn scene number shown turns unjust
  unjust_now scene number shown turns unjust order found =
      let f = some_then number (length shown.past) (lacking judge (living_of scene shown)) unjust found in
      record {
        front = [];
        rest = turns;
        split = refl;
        life = ap (λ (u : Unjust). u.life) f.is;
        turn = ap (λ (u : Unjust). u.turn) f.is ∙ sym (omega arith);
        front_just = λ shorter more split some. absurd (none_shorter shorter more split some);
        first =
            subst (λ row. Unjustly scene shown row) (sym (ap (λ (u : Unjust). u.row) f.is)) (some_lacks judge Rests decides scene shown order f.row f.lacks);
      }
    where
      none_shorter : (shorter more : List TurnTold) → [] ≡ shorter ++ more → more ≢ [] → ⊥
      none_shorter [] more split some = some (sym split)
      none_shorter (turn ∷ shorter) more split some = no_cons split

  unjust_from : (scene : Scene) (number : ℕ) (turns : List TurnTold) (shown : Shown) (unjust : Unjust) → InRowOrder shown.rows
      → AllByRecursion (λ turn. AllFollow turn.lines) turns
      → found_from judge scene number shown turns ≡ Some unjust → UnjustTurn scene number shown turns unjust
  unjust_from scene number [] shown unjust order all found = unjust_now scene number shown [] unjust order found
  unjust_from scene number (turn ∷ turns) shown unjust order all found =
      which (found_then judge scene number shown) refl
      (λ more. unjust_from scene number turns (shown_next shown turn) unjust (next_in_order shown turn all.0 order) all.1 more)
    where
      which : (o : Option Unjust) → found_then judge scene number shown ≡ o
          → (found_from judge scene number (shown_next shown turn) turns ≡ Some unjust → UnjustTurn scene number (shown_next shown turn) turns unjust)
          → UnjustTurn scene number shown (turn ∷ turns) unjust
      which (Some other) e others =
          unjust_now scene number shown (turn ∷ turns) unjust order
          (e ∙ sym (some_first (found_then judge scene number shown) (found_from judge scene number (shown_next shown turn) turns) other e) ∙ found)
      which None e others =
          let u = others (sym (none_first (found_then judge scene number shown) (found_from judge scene number (shown_next shown turn) turns) e) ∙ found) in
          record {
            front = turn ∷ u.front;
            rest = u.rest;
            split = ap (λ ts. turn ∷ ts) u.split;
            life = u.life;
            turn = u.turn ∙ omega arith;
            front_just = λ shorter more split some. before shorter more u.front split some u.front_just;
            first = u.first;
          }
        where
          before : (shorter more front : List TurnTold) → turn ∷ front ≡ shorter ++ more → more ≢ []
              → ((shorter more : List TurnTold) → front ≡ shorter ++ more → more ≢ [] → Just scene (shown_after (shown_next shown turn) shorter))
              → Just scene (shown_after shown shorter)
          before [] more front split some so = none_lacks judge Rests decides scene shown (none_then scene number shown e)
          before (other ∷ shorter) more front split some so =
              subst (λ t. Just scene (shown_after (shown_next shown t) shorter)) (same_head split) (so shorter more (same_tail split) some)

  found_here : (scene : Scene) (number : ℕ) (front rest : List TurnTold) (shown : Shown) (row : HostRow) → InRowOrder shown.rows
      → AllByRecursion (λ turn. AllFollow turn.lines) (front ++ rest)
      → ((shorter more : List TurnTold) → front ≡ shorter ++ more → more ≢ [] → Just scene (shown_after shown shorter))
      → Unjustly scene (shown_after shown front) row
      → found_from judge scene number shown (front ++ rest) ≡ Some (unjust_at number (length shown.past + length front) row)
  found_here scene number [] rest shown row order all just unjust = at_once rest
    where
      here : found_then judge scene number shown ≡ Some (unjust_at number (length shown.past + 0) row)
      here =
          ap (option_map (unjust_at number (length shown.past))) (unjust_lacks judge Rests decides scene shown order row unjust)
          ∙ ap (λ n. Some (unjust_at number n row)) (sym (omega arith))

      at_once : (rest : List TurnTold) → found_from judge scene number shown rest ≡ Some (unjust_at number (length shown.past + 0) row)
      at_once [] = here
      at_once (turn ∷ turns) =
          some_first (found_then judge scene number shown) (found_from judge scene number (shown_next shown turn) turns)
          (unjust_at number (length shown.past + 0) row) here
  found_here scene number (turn ∷ front) rest shown row order all just unjust =
      none_first (found_then judge scene number shown) (found_from judge scene number (shown_next shown turn) (front ++ rest))
      (nothing_then scene number shown order (just [] (turn ∷ front) refl cons_some))
      ∙ found_here scene number front rest (shown_next shown turn) row (next_in_order shown turn all.0 order) all.1
      (λ shorter more split some. just (turn ∷ shorter) more (ap (λ ts. turn ∷ ts) split) some) unjust
      ∙ ap (λ n. Some (unjust_at number n row)) (omega arith)

  -- ---- the lives of a transcript

  module _ (told : Told) where
    abbrev scene_in : LifeTold → Scene
    scene_in life = scene_of told.configuration told.body.ifaces life

    abbrev found_lives : ℕ → List LifeTold → Option Unjust
    found_lives number lives = found_in_lives judge told.configuration told.body.ifaces number lives

    abbrev found_life : ℕ → LifeTold → Option Unjust
    found_life number life = found_in_life judge told.configuration told.body.ifaces number life

    just_life : (number : ℕ) (life : LifeTold) → found_life number life ≡ None → LifeIsJust Rests told life
    just_life number life none front rest split = just_from (scene_in life) number life.turns (shown_at_first life) none front rest split

    nothing_life : (number : ℕ) (life : LifeTold) → FitsLife life → LifeIsJust Rests told life → found_life number life ≡ None
    nothing_life number life fits just =
        nothing_from (scene_in life) number life.turns (shown_at_first life) (first_in_order life fits.opening) fits.turns just

    pub just_lives : (number : ℕ) (lives : List LifeTold) → found_lives number lives ≡ None → AllByRecursion (LifeIsJust Rests told) lives
    just_lives number [] none = tt
    just_lives number (life ∷ lives) none =
        let parts = neither (found_life number life) (found_lives (number + 1) lives) none in
        (just_life number life parts.0, just_lives (number + 1) lives parts.1)

    pub nothing_lives : (number : ℕ) (lives : List LifeTold) → AllByRecursion FitsLife lives → AllByRecursion (LifeIsJust Rests told) lives
        → found_lives number lives ≡ None
    nothing_lives number [] fit just = refl
    nothing_lives number (life ∷ lives) fit just =
        none_first (found_life number life) (found_lives (number + 1) lives) (nothing_life number life fit.0 just.0)
        ∙ nothing_lives (number + 1) lives fit.1 just.1

    -- the first life with such a turn
    record UnjustLife (number : ℕ) (lives : List LifeTold) (unjust : Unjust) : Type 0 where
      earlier : List LifeTold
      life : LifeTold
      later : List LifeTold
      split : lives ≡ earlier ++ life ∷ later
      earlier_just : AllByRecursion (LifeIsJust Rests told) earlier
      in_turn : UnjustTurn (scene_in life) (number + length earlier) (shown_at_first life) life.turns unjust

    unjust_lives : (number : ℕ) (lives : List LifeTold) (unjust : Unjust) → AllByRecursion FitsLife lives → found_lives number lives ≡ Some unjust
        → UnjustLife number lives unjust
    unjust_lives number [] unjust fit found = absurd cc
    unjust_lives number (life ∷ lives) unjust fit found =
        which (found_life number life) refl (λ more. unjust_lives (number + 1) lives unjust fit.1 more)
      where
        which : (o : Option Unjust) → found_life number life ≡ o → (found_lives (number + 1) lives ≡ Some unjust → UnjustLife (number + 1) lives unjust)
            → UnjustLife number (life ∷ lives) unjust
        which (Some other) e later =
            record {
              earlier = [];
              life = life;
              later = lives;
              split = refl;
              earlier_just = tt;
              in_turn =
                  subst (λ n. UnjustTurn (scene_in life) n (shown_at_first life) life.turns unjust) (sym (omega arith))
                  (unjust_from (scene_in life) number life.turns (shown_at_first life) unjust (first_in_order life fit.0.opening) fit.0.turns
                  (e ∙ sym (some_first (found_life number life) (found_lives (number + 1) lives) other e) ∙ found));
            }
        which None e later =
            let u = later (sym (none_first (found_life number life) (found_lives (number + 1) lives) e) ∙ found) in
            record {
              earlier = life ∷ u.earlier;
              life = u.life;
              later = u.later;
              split = ap (λ ls. life ∷ ls) u.split;
              earlier_just = (just_life number life e, u.earlier_just);
              in_turn =
                  subst (λ n. UnjustTurn (scene_in u.life) n (shown_at_first u.life) u.life.turns unjust) (omega arith) u.in_turn;
            }

    found_lives_at : (number : ℕ) (earlier : List LifeTold) (life : LifeTold) (later : List LifeTold) (unjust : Unjust)
        → AllByRecursion FitsLife (earlier ++ life ∷ later) → AllByRecursion (LifeIsJust Rests told) earlier
        → found_life (number + length earlier) life ≡ Some unjust → found_lives number (earlier ++ life ∷ later) ≡ Some unjust
    found_lives_at number [] life later unjust fit just found =
        some_first (found_life number life) (found_lives (number + 1) later) unjust (ap (λ n. found_life n life) (sym (omega arith)) ∙ found)
    found_lives_at number (other ∷ earlier) life later unjust fit just found =
        none_first (found_life number other) (found_lives (number + 1) (earlier ++ life ∷ later)) (nothing_life number other fit.0 just.0)
        ∙ found_lives_at (number + 1) earlier life later unjust fit.1 just.1 (ap (λ n. found_life n life) (omega arith) ∙ found)

    module _ (fits : FitsBody told.body) where
      pub first_told : (life turn : ℕ) (row : HostRow) → found_told judge told ≡ Some (unjust_at life turn row) → FirstUnjust Rests told life turn row
      first_told life turn row found =
          let u = unjust_lives 1 told.body.lives (unjust_at life turn row) fits.lives found in
          record {
            earlier = u.earlier;
            life = u.life;
            later = u.later;
            lives = u.split;
            numbered = u.in_turn.life ∙ omega arith;
            earlier_just = u.earlier_just;
            front = u.in_turn.front;
            rest = u.in_turn.rest;
            turns = u.in_turn.split;
            counted = u.in_turn.turn ∙ omega arith;
            front_just = u.in_turn.front_just;
            unjust = u.in_turn.first;
          }

      life_fits : (earlier : List LifeTold) (life : LifeTold) (later : List LifeTold) → AllByRecursion FitsLife (earlier ++ life ∷ later) → FitsLife life
      life_fits [] life later fit = fit.0
      life_fits (other ∷ earlier) life later fit = life_fits earlier life later fit.1

      pub found_first : (life turn : ℕ) (row : HostRow) → FirstUnjust Rests told life turn row → found_told judge told ≡ Some (unjust_at life turn row)
      found_first number turn row u =
          let fit : AllByRecursion FitsLife (u.earlier ++ u.life ∷ u.later) = subst (λ lives. AllByRecursion FitsLife lives) u.lives fits.lives in
          let own : FitsLife u.life = life_fits u.earlier u.life u.later fit in
          let turns = subst (λ ts. AllByRecursion (λ (t : TurnTold). AllFollow t.lines) ts) u.turns own.turns in
          let n : ℕ = 1 + length u.earlier in
          let here =
          found_here (scene_in u.life) n u.front u.rest (shown_at_first u.life) row (first_in_order u.life own.opening) turns u.front_just u.unjust in
          ap (found_lives 1) u.lives
          ∙ found_lives_at 1 u.earlier u.life u.later (unjust_at n (0 + length u.front) row) fit u.earlier_just
          (ap (λ ts. found_from judge (scene_in u.life) n (shown_at_first u.life) ts) u.turns ∙ here)
          ∙ (λ i. Some (unjust_at (number_is (length u.earlier) u.numbered i) (turn_is (length u.front) u.counted i) row))
        where
          number_is : (n : ℕ) → number ≡ n + 1 → 1 + n ≡ number
          number_is n e = omega (arith, e)

          turn_is : (n : ℕ) → turn ≡ n → 0 + n ≡ turn
          turn_is n e = omega (arith, e)

      pub tells : IsAudited Rests told (audited judge told)
      tells =
          let ends = ends_told judge told fits in
          record {
            just = λ none. just_lives 1 told.body.lives (sym (ap (λ end. end.unjust) ends) ∙ none);
            none = λ just. ap (λ end. end.unjust) ends ∙ nothing_lives 1 told.body.lives fits.lives just;
            first = λ life turn row found. first_told life turn row (sym (ap (λ end. end.unjust) ends) ∙ found);
            found = λ life turn row first. ap (λ end. end.unjust) ends ∙ found_first life turn row first;
            lives = ap (λ end. end.lives) ends;
            turns = ap (λ end. end.turns) ends;
          }

      pub has_one : HasOneVerdict Rests told
      has_one = record {
        one = λ life turn row just first. none_or (sym (nothing_lives 1 told.body.lives fits.lives just) ∙ found_first life turn row first);
        same = λ a b one two. same_some (sym (found_first a.life a.turn a.row one) ∙ found_first b.life b.turn b.row two);
      }
        where
          none_or : {u : Unjust} → None ≡ Some u → ⊥
          none_or e = cc

-- ---- for each text

module _ (judge : Judge) (Rests : BasisWord) (decides : Decides judge Rests) where
  pub said : (text : List ℕ) (told : Told) → IsSpelled SpellsTold text told → SaysVerdict Rests text (audited judge told)
  said text told spelled =
      let audit = tells judge Rests decides told spelled.spells.spells.fits in
      record {
        yes = λ none. record { told = told; spelled = spelled; just = audit.just none; lives_are = audit.lives; turns_are = audit.turns };
        no = λ unjust found. record { told = told; spelled = spelled; first = audit.first unjust.life unjust.turn unjust.row found };
      }

-- ---- for each test

says_so : (judge : Judge) → Decides judge (SaysSo judge)
says_so judge = record { yes = λ managed sites past index net e. e; no = λ managed sites past index net e. e }

pub audits_tell : AuditsTell
audits_tell judge told fits = tells judge (SaysSo judge) (says_so judge) told fits

pub verdicts_said : VerdictsAreSaid
verdicts_said judge text told spelled = said judge (SaysSo judge) (says_so judge) text told spelled

pub one_verdict : VerdictsAreOne
one_verdict judge told fits = has_one judge (SaysSo judge) (says_so judge) told fits
