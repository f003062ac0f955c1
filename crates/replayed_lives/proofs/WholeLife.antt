-- A life over the devices of a script.
use Rattle.std.specs.Prelude.{IfSome, flat_map}
use Rattle.std.proofs.Common.{ℕ, ◌≡◌, ◌+◌, ◌≤◌, List, [], ◌∷◌, ◌++◌, length, Option, Some, ◌⊎◌, ⊎_elim, sym, ap, ap₂, subst, append-nil, arith}
use Rattle.settings.specs.declared.interfaces.Managed.{Managed}
use Rattle.script_model.specs.ScriptTexts.{LifeScript, ScriptLines}
use Rattle.conf_text.specs.Configurations.{Configuration, NoticeContent}
use Rattle.device_calls.specs.Worlds.{Seen, World, told_from, world_from, world_of}
use Rattle.turn_model.specs.Lives.{OpeningMet, Met, life_after, opening_lines, turn_lines, closing_lines, life_lines}
use Rattle.turn_model.specs.Foretold.{ForetoldLife, foretold_life}
use Rattle.script_model.specs.Lines.{Line}
use Rattle.script_model.specs.Lines as lines
use Rattle.daemon.specs.Streams.{WritesLines, WritesFront}
use Rattle.net_types.specs.declared.interface.IfSpec.{IfSpec}
use Rattle.daemon.specs.Served.{IsLifeOf, IsForetold, Served}
use Rattle.daemon.specs.declared.serving.ServeEnd.{ServeEnd}
use Rattle.daemon.specs.declared.serving.ServeEnd.TheVariants as ends
use Rattle.daemon.specs.Cuts.{turns_left, CutOpening, CutLife, Leaves}
use Rattle.daemon.proofs.CutOffs.{front_none}
use Rattle.daemon.proofs.Stretches.{lines_then}
use Rattle.daemon.proofs.Fronts.{front_wider, front_then, front_of_life}
use Rattle.world_mem.specs.LinkRecord.{LinkState}
use Rattle.world_mem.specs.StoreMem.StoreRecord.{StoreState}
use Rattle.world_mem.specs.HookRecord.{HooksState}
use Rattle.world_mem.specs.HostRecord.{HostState}
use Rattle.replayed_lives.specs.Memory.{link_of}
use Rattle.replayed_lives.specs.Replays.{Failing, Between, store_fails, world_in, lines_in, life_in, lives_of_script, transcript}
use Rattle.text_works.specs.Heads.{head_lines}
use Rattle.text_works.specs.SpelledScripts.{managed_in}

-- devices in memory
pub record Held : Type 0 where
  pub link : LinkState
  pub store : StoreState
  pub host : HostState
  pub hooks : HooksState

-- what they tell
abbrev pub world_after : Held → Option World
world_after held =
    world_from (told_from (Some held.link.told) (Some held.link.failing_sends)) (told_from (Some held.host.told) (Some held.host.failing))
    (told_from (Some held.store.told) (Some held.store.failing)) (told_from (Some held.hooks.told) (Some held.hooks.failing))

-- the devices of a life before their first call, made of what the life before left
pub record AreMade (failing : Failing) (between : Between) (life : LifeScript) (held : Held) : Type 0 where
  pub of_link : held.link ≡ link_of life between.sent failing.sends
  pub of_store : held.store.told ≡ between.store
  pub fails_store : held.store.failing ≡ store_fails failing.store (length between.store.calls) life.crash
  pub of_host : held.host.told ≡ between.host
  pub fails_host : held.host.failing ≡ failing.host
  pub of_hooks : held.hooks.told ≡ between.hooks
  pub fails_hooks : held.hooks.failing ≡ failing.hooks

pub made_first : (failing : Failing) (between : Between) (life : LifeScript) (held : Held) → AreMade failing between life held
    → world_after held ≡ Some (world_in failing between life)
made_first failing between life held made =
    λ i. world_from (told_from (Some (made.of_link i).told) (Some (made.of_link i).failing_sends))
    (told_from (Some (made.of_host i)) (Some (made.fails_host i)))
    (told_from (Some (made.of_store i)) (Some (made.fails_store i))) (told_from (Some (made.of_hooks i)) (Some (made.fails_hooks i)))

module _ (managed : List Managed) (specs : List IfSpec) (failing : Failing) (between : Between) (life : LifeScript) where
  abbrev its_lines : List Line
  its_lines = lines_in managed specs failing between life

  -- the same, as the loop sees them
  abbrev pub IsFirst : Seen → Type 0
  IsFirst seen = world_of seen ≡ Some (world_in failing between life)

  abbrev here : ForetoldLife
  here = foretold_life managed specs (world_in failing between life)

  told_life : (seen : Seen) (opening : OpeningMet) (mets : List Met) → IsFirst seen → IsForetold managed specs seen opening mets → IsLifeOf opening mets here
  told_life seen opening mets first told =
      subst (λ (w : Option World). IfSome w (λ world. IsLifeOf opening mets (foretold_life managed specs world))) first told

  told_lines : (seen : Seen) (opening : OpeningMet) (mets : List Met) → IsFirst seen → IsForetold managed specs seen opening mets
      → life_lines opening mets ≡ its_lines
  unfolding lines_in
  told_lines seen opening mets first told =
      let are : IsLifeOf opening mets here = told_life seen opening mets first told in sym (λ i. life_lines (are.opening_is i) (are.mets_are i))

  pub served_life : (seen new_seen : Seen) (old new : Option (List ℕ)) → IsFirst seen
      → (allowed : ℕ) (served : Served allowed managed specs seen new_seen old new) → IsLifeOf served.opening served.mets here
  served_life seen new_seen old new first allowed served = told_life seen served.opening served.mets first served.foretold

  pub lived : (seen new_seen : Seen) (old new : Option (List ℕ)) → IsFirst seen → (allowed : ℕ) → Served allowed managed specs seen new_seen old new
      → WritesLines old new its_lines
  lived seen new_seen old new first allowed served =
      subst (λ (l : List Line). WritesLines old new l) (told_lines seen served.opening served.mets first served.foretold) served.written

  module _ (seen new_seen : Seen) (first : IsFirst seen) (allowed : ℕ) (old new : Option (List ℕ)) where
    cut_in_opening : (end : ServeEnd) → CutOpening end managed specs seen new_seen old new → WritesFront old new [] its_lines
    cut_in_opening end cut =
        subst (λ (l : List Line). WritesFront old new [] l) (told_lines seen cut.opening cut.rest first cut.foretold)
        (front_wider old new [] (opening_lines cut.opening) (flat_map turn_lines cut.rest ++ closing_lines (life_after cut.opening.life cut.rest)) cut.written)

    cut_later : (end : ServeEnd) → CutLife end allowed managed specs seen new_seen old new → WritesFront old new [] its_lines
    cut_later end cut =
        subst (λ (l : List Line). WritesFront old new [] l) (told_lines seen cut.opening (cut.mets ++ turns_left cut.at) first cut.foretold)
        (front_of_life cut.opening cut.mets cut.at old new cut.written)

    untouched : new ≡ old → WritesFront old new [] its_lines
    untouched same = subst (λ (o : Option (List ℕ)). WritesFront old o [] its_lines) (sym same) (front_none old its_lines)

    -- a write failed in the life, or memory was wanted
    pub stops_life : (end : ServeEnd) → (end ≡ ends.WriteFault) ⊎ (end ≡ ends.NoMemory) → Leaves end allowed managed specs seen new_seen old new
        → WritesFront old new [] its_lines
    stops_life ends.End is leaves = ⊎_elim (λ e. absurd cc) (λ e. absurd cc) is
    stops_life ends.TurnsOver is cut = cut_later ends.TurnsOver cut
    stops_life ends.LinkFault is leaves = ⊎_elim (λ unbegun. untouched unbegun.0) (cut_later ends.LinkFault) leaves
    stops_life ends.WriteFault is leaves = ⊎_elim (cut_in_opening ends.WriteFault) (cut_later ends.WriteFault) leaves
    stops_life ends.NoMemory is leaves =
        ⊎_elim (λ unwritten. untouched unwritten.0) (λ later. ⊎_elim (cut_in_opening ends.NoMemory) (cut_later ends.NoMemory) later) leaves

-- a front may be the whole
pub front_whole : (old new : Option (List ℕ)) (all : List Line) → WritesLines old new all → WritesFront old new [] all
front_whole old new all written = subst (WritesFront old new []) (append-nil all) (front_then old new new all [] written (front_none new []))

-- the line that begins a life, and then its lines
module _ (managed : List Managed) (specs : List IfSpec) (failing : Failing) (between : Between) (life : LifeScript) (number : ℕ)
    (is : number ≡ between.lives + 1) where
  abbrev after_number : List Line
  after_number = lines_in managed specs failing between life

  same_life : lines.Life number ∷ after_number ≡ life_in managed specs failing between life
  same_life = ap (λ (n : ℕ). lines.Life n ∷ after_number) is

  pub front_of_number : (old new : Option (List ℕ)) → WritesFront old new [] (lines.Life number ∷ [])
      → WritesFront old new [] (life_in managed specs failing between life)
  front_of_number old new front = subst (WritesFront old new []) same_life (front_wider old new [] (lines.Life number ∷ []) after_number front)

  pub front_of_lines : (old mid new : Option (List ℕ)) → WritesLines old mid (lines.Life number ∷ []) → WritesFront mid new [] after_number
      → WritesFront old new [] (life_in managed specs failing between life)
  front_of_lines old mid new begun front = subst (WritesFront old new []) same_life (front_then old mid new (lines.Life number ∷ []) after_number begun front)

  pub lived_whole : (old mid new : Option (List ℕ)) → WritesLines old mid (lines.Life number ∷ []) → WritesLines mid new after_number
      → WritesLines old new (life_in managed specs failing between life)
  lived_whole old mid new begun written = subst (WritesLines old new) same_life (lines_then old mid new (lines.Life number ∷ []) after_number begun written)

-- fewer wakes come than are allowed
pub all_come : (life : LifeScript) (sent : ℕ) (sends : List ℕ) (link : LinkState) → link ≡ link_of life sent sends
    → length life.turns + 1 ≤ length link.told.coming → ⊥
all_come life sent sends link begins many =
    let count : length link.told.coming ≡ length life.turns = ap (λ (l : LinkState). length l.told.coming) begins in
    omega (arith, count, many)

-- the head of a transcript, and then its lives
pub head_and_lives : (script : ScriptLines) (conf : Configuration) (notices : List NoticeContent) (managed : List Managed) (old mid new : Option (List ℕ))
    → notices ≡ conf.notices → managed ≡ managed_in script conf → WritesLines old mid (head_lines script notices)
    → WritesLines mid new (lives_of_script managed script) → WritesLines old new (transcript script conf)
head_and_lives script conf notices managed old mid new told given head lives =
    subst (λ (ls : List Line). WritesLines old new ls)
    (ap₂ (λ (ns : List NoticeContent) (ms : List Managed). head_lines script ns ++ lives_of_script ms script) told given)
    (lines_then old mid new (head_lines script notices) (lives_of_script managed script) head lives)

-- a front of the first lines is one of all
pub front_first : (old new : Option (List ℕ)) (first more : List Line) → WritesFront old new [] first → WritesFront old new [] (first ++ more)
front_first old new first more front = front_wider old new [] first more front
