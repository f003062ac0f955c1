-- The lives of a script, one after another.
use Rattle.std.proofs.Common.{ℕ, ◌≡◌, ◌+◌, ◌<◌, List, [], ◌∷◌, ◌++◌, map, length, Option, refl, sym, ap, subst, ◌∙◌, append-nil, append_assoc, arith}
use Rattle.std.proofs.lemmas.List.{map-append, length-map, length-append}
use Rattle.net_types.specs.declared.interface.IfSpec.{IfSpec}
use Rattle.settings.specs.declared.interfaces.Managed.{Managed}
use Rattle.script_model.specs.Lines.{Line}
use Rattle.script_model.specs.ScriptTexts.{LifeScript}
use Rattle.replay_text.specs.ScriptLines.declared.script.LifeLines.{LifeLines}
use Rattle.replay_text.specs.ScriptContent.{life_of}
use Rattle.daemon.specs.Streams.{WritesLines, WritesFront}
use Rattle.daemon.proofs.Stretches.{lines_none, lines_then}
use Rattle.daemon.proofs.Fronts.{front_then, front_wider}
use Rattle.replayed_lives.specs.declared.memory.Between as code
use Rattle.replayed_lives.specs.Carried.{between_in, failing_with}
use Rattle.world.specs.FileLists.{StoreFile}
use Rattle.world.specs.declared.hooking.Poll.{Poll}
use Rattle.world.specs.declared.rows.HostRow.{HostRow}
use Rattle.script_model.specs.declared.failing.FailLine.{FailLine}
use Rattle.script_model.specs.declared.failing.FailDevice.TheVariants.{Link}
use Rattle.script_model.specs.FailingCalls.{failing_calls}
use Rattle.replayed_lives.specs.Memory.{store_of, host_of, hooks_of}
use Rattle.replayed_lives.specs.Replays.{Failing, Between, failing_in, at_first, life_in, after_life, lives_lines}

module _ (managed : List Managed) (specs : List IfSpec) (failing : Failing) where
  -- what lives leave one after another
  abbrev pub after_lives : Between → List LifeScript → Between
  after_lives between [] = between
  after_lives between (life ∷ lives) = after_lives (after_life managed specs failing between life) lives

  lines_joined : (between : Between) (lives more : List LifeScript)
      → lives_lines managed specs failing between (lives ++ more)
      ≡ lives_lines managed specs failing between lives ++ lives_lines managed specs failing (after_lives between lives) more
  lines_joined between [] more = refl
  lines_joined between (life ∷ lives) more =
      ap (λ (ls : List Line). life_in managed specs failing between life ++ ls) (lines_joined (after_life managed specs failing between life) lives more)
      ∙ sym
      (append_assoc (life_in managed specs failing between life) (lives_lines managed specs failing (after_life managed specs failing between life) lives)
      (lives_lines managed specs failing (after_lives between (life ∷ lives)) more))

  after_joined : (between : Between) (lives more : List LifeScript) → after_lives between (lives ++ more) ≡ after_lives (after_lives between lives) more
  after_joined between [] more = refl
  after_joined between (life ∷ lives) more = after_joined (after_life managed specs failing between life) lives more

  lives_counted : (between : Between) (lives : List LifeScript) → (after_lives between lives).lives ≡ length lives + between.lives
  lives_counted between [] = omega arith
  lives_counted between (life ∷ lives) = let more = lives_counted (after_life managed specs failing between life) lives in omega (arith, more)

-- the lives so far were lived, and this goes on to the next one
pub record LivedSoFar (managed : List Managed) (specs : List IfSpec) (failing : Failing) (start : Between) (lives : List LifeLines) (between : code.Between)
    (old new : Option (List ℕ)) : Type 0 where
  pub left : between_in between ≡ after_lives managed specs failing start (map life_of lives)
  pub fails : failing_with failing.sends between ≡ failing
  pub written : WritesLines old new (lives_lines managed specs failing start (map life_of lives))

pub lived_none : (managed : List Managed) (specs : List IfSpec) (failing : Failing) (start : Between) (first : code.Between) (out : Option (List ℕ))
    → between_in first ≡ start → failing_with failing.sends first ≡ failing → LivedSoFar managed specs failing start [] first out out
lived_none managed specs failing start first out begins fails = record { left = begins; fails = fails; written = lines_none out }

-- what the first life finds
module _ (rows : List HostRow) (files : List StoreFile) (polls : List (Option Poll)) (fails : List FailLine) (first : code.Between) where
  pub finds_first : (first.lives ≡ 0) × (first.sent ≡ 0) → first.store ≡ store_of files fails → first.host ≡ host_of rows fails
      → first.hooks ≡ hooks_of polls fails
      → between_in first ≡ at_first rows files polls
  finds_first counts store host hooks =
      λ i. record { lives = counts.0 i; sent = counts.1 i; host = (host i).told; store = (store i).told; hooks = (hooks i).told }

  pub fails_first : first.store ≡ store_of files fails → first.host ≡ host_of rows fails → first.hooks ≡ hooks_of polls fails
      → failing_with (failing_calls Link fails) first ≡ failing_in fails
  fails_first store host hooks =
      λ i. record { sends = failing_calls Link fails; host = (host i).failing; store = (store i).failing.numbers; hooks = (hooks i).failing }

module _ (managed : List Managed) (specs : List IfSpec) (failing : Failing) (start : Between) (lives : List LifeLines) (between : code.Between)
    (old mid new : Option (List ℕ)) (so_far : LivedSoFar managed specs failing start lives between old mid) (life : LifeLines) where
  module _ (given : List IfSpec) (specs_same : given ≡ specs) (sends : List ℕ) (sends_same : sends ≡ failing.sends) where
    abbrev before : List Line
    before = lives_lines managed specs failing start (map life_of lives)

    abbrev here : Between
    here = after_lives managed specs failing start (map life_of lives)

    abbrev lived : List Line
    lived = life_in managed specs failing here (life_of life)

    -- as the life is called
    abbrev called : List Line
    called = life_in managed given (failing_with sends between) (between_in between) (life_of life)

    all_fail : failing_with sends between ≡ failing
    all_fail = ap (λ (s : List ℕ). failing_with s between) sends_same ∙ so_far.fails

    same_life : called ≡ lived
    same_life = λ i. life_in managed (specs_same i) (all_fail i) (so_far.left i) (life_of life)

    same_left : after_life managed given (failing_with sends between) (between_in between) (life_of life) ≡ after_life managed specs failing here (life_of life)
    same_left = λ i. after_life managed (specs_same i) (all_fail i) (so_far.left i) (life_of life)

    pub lived_more : (next : code.Between) → WritesLines mid new called
        → between_in next ≡ after_life managed given (failing_with sends between) (between_in between) (life_of life)
        → failing_with sends next ≡ failing_with sends between
        → LivedSoFar managed specs failing start (lives ++ life ∷ []) next old new
    lived_more next written left fails =
        let one : map life_of (lives ++ life ∷ []) ≡ map life_of lives ++ life_of life ∷ [] = map-append life_of lives (life ∷ []) in
        record {
          left =
              left ∙ same_left
              ∙ sym (ap (after_lives managed specs failing start) one ∙ after_joined managed specs failing start (map life_of lives) (life_of life ∷ []));
          fails = ap (λ (s : List ℕ). failing_with s next) (sym sends_same) ∙ fails ∙ all_fail;
          written = subst (WritesLines old new)
              (sym
              (ap (lives_lines managed specs failing start) one ∙ lines_joined managed specs failing start (map life_of lives) (life_of life ∷ [])
              ∙ ap (λ (ls : List Line). before ++ ls) (append-nil lived)))
              (lines_then old mid new before lived so_far.written (subst (WritesLines mid new) same_life written));
        }

    -- a front of the lines of a life, after those before it
    pub front_in_life : (all rest : List LifeLines) → all ≡ lives ++ life ∷ rest → WritesFront mid new [] called
        → WritesFront old new [] (lives_lines managed specs failing start (map life_of all))
    front_in_life all rest stands front =
        let after : List Line = lives_lines managed specs failing (after_life managed specs failing here (life_of life)) (map life_of rest) in
        let parts : map life_of all ≡ map life_of lives ++ life_of life ∷ map life_of rest = ap (map life_of) stands ∙ map-append life_of lives (life ∷ rest) in
        let whole : lives_lines managed specs failing start (map life_of all) ≡ (before ++ lived) ++ after =
        ap (lives_lines managed specs failing start) parts ∙ lines_joined managed specs failing start (map life_of lives) (life_of life ∷ map life_of rest)
        ∙ sym (append_assoc before lived after) in
        subst (WritesFront old new []) (sym whole)
        (front_wider old new [] (before ++ lived) after (front_then old mid new before lived so_far.written (subst (WritesFront mid new []) same_life front)))

-- those that are lived and those to come are all
pub stands_on : {A : Type 0} (all lives : List A) (life : A) (coming rest : List A) → all ≡ lives ++ coming → coming ≡ life ∷ rest → all ≡ lives ++ life ∷ rest
stands_on {A = A} all lives life coming rest stands next = stands ∙ ap (λ (ls : List A). lives ++ ls) next

pub stands_past : {A : Type 0} (all lives : List A) (life : A) (rest : List A) → all ≡ lives ++ life ∷ rest → all ≡ (lives ++ life ∷ []) ++ rest
stands_past all lives life rest stands = stands ∙ sym (append_assoc lives (life ∷ []) rest)

pub none_left : {A : Type 0} (all lives coming : List A) → all ≡ lives ++ coming → length coming ≡ 0 → lives ≡ all
none_left all lives [] stands none = sym (stands ∙ append-nil lives)
none_left all lives (next ∷ coming) stands none = absurd (omega (arith, none))

pub not_last : {A : Type 0} (all lives : List A) (life : A) (rest : List A) → all ≡ lives ++ life ∷ rest → length lives < length all
not_last {A = A} all lives life rest stands =
    let count = length-append lives (life ∷ rest) in let whole = ap (λ (ls : List A). length ls) stands in omega (arith, count, whole)

-- the number of a life is how many were lived
pub few_lives : (managed : List Managed) (specs : List IfSpec) (failing : Failing) (start : Between) (lives : List LifeLines) (between : code.Between)
    (old new : Option (List ℕ))
    → start.lives ≡ 0 → LivedSoFar managed specs failing start lives between old new → between.lives ≡ length lives
few_lives managed specs failing start lives between old new none so_far =
    let count = lives_counted managed specs failing start (map life_of lives) in
    ap (λ (b : Between). b.lives) so_far.left ∙ omega (arith, count, none, length-map lives life_of)
