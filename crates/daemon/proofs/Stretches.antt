-- Stretches of turns, one after another.
use Rattle.std.proofs.Common.{ℕ, ◌≡◌, ◌≤◌, ◌+◌, true, List, [], ◌∷◌, ◌++◌, length, Option, Some, None, refl, sym, ap, subst, ◌∙◌, append_assoc, append-nil, arith}
use Rattle.std.specs.Prelude.{flat_map, IfSome, option_map}
use Rattle.std.proofs.lemmas.List.{length-append}
use Rattle.std.proofs.lemmas.List.Concat.{flat_map-append}
use Rattle.world.specs.LinkCalls.{Given}
use Rattle.settings.specs.declared.interfaces.Managed.{Managed}
use Rattle.script_model.specs.Lines.{Line, line_text, lines_text}
use Rattle.device_calls.specs.Calls.{Call}
use Rattle.device_calls.specs.Worlds.{Seen, World, world_of}
use Rattle.device_calls.specs.Telling.{Tells}
use Rattle.device_calls.specs.Printing.{Prints}
use Rattle.device_calls.proofs.Doing.{tells_none, tells_then}
use Rattle.turn_model.specs.Turns.{Life, is_over}
use Rattle.turn_model.specs.Lives.{Met, turn_lines, AreTurns, life_after, turn_calls, turns_calls}
use Rattle.turn_model.specs.Foretold.{told_turns, told_after, foretold_turns, left_in}
use Rattle.typed_lines.proofs.TypedParts.{typed_both}
use Rattle.daemon.specs.Streams.{WritesBytes, WritesLines}
use Rattle.daemon.specs.Serving.{told_last, AreFirst, AreWhole, Goes, Ends, AreManyTurns}

pub turns-append : (managed : List Managed) (from : Life) (a b : List Met) → AreTurns managed from a → AreTurns managed (life_after from a) b
    → AreTurns managed from (a ++ b)
turns-append managed from [] b p q = q
turns-append managed from (met ∷ a) b p q = (p.0, turns-append managed met.life a b p.1 q)

pub life_after-append : (from : Life) (a b : List Met) → life_after from (a ++ b) ≡ life_after (life_after from a) b
life_after-append from [] b = refl
life_after-append from (met ∷ a) b = life_after-append met.life a b

pub turns_calls-append : (from : Life) (a b : List Met) → turns_calls from (a ++ b) ≡ turns_calls from a ++ turns_calls (life_after from a) b
turns_calls-append from [] b = refl
turns_calls-append from (met ∷ a) b =
    ap (λ (cs : List Call). turn_calls from met ++ cs) (turns_calls-append met.life a b)
    ∙ sym (append_assoc (turn_calls from met) (turns_calls met.life a) (turns_calls (life_after met.life a) b))

bytes_then : (old mid new : Option (List ℕ)) (a b : List Line) → WritesBytes old mid (lines_text a) → WritesBytes mid new (lines_text b)
    → WritesBytes old new (lines_text (a ++ b))
bytes_then None mid new a b p q = subst (λ (m : Option (List ℕ)). WritesBytes m new (lines_text b)) p q
bytes_then (Some w) mid new a b p q =
    let at_mid : WritesBytes (Some (w ++ lines_text a)) new (lines_text b) = subst (λ (m : Option (List ℕ)). WritesBytes m new (lines_text b)) p q in
    at_mid ∙ ap (λ (x : List ℕ). Some x) (append_assoc w (lines_text a) (lines_text b) ∙ ap (λ (x : List ℕ). w ++ x) (sym (flat_map-append line_text a b)))

bytes_none : (old : Option (List ℕ)) → WritesBytes old old []
bytes_none None = refl
bytes_none (Some w) = ap (λ (x : List ℕ). Some x) (sym (append-nil w))

pub lines_then : (old mid new : Option (List ℕ)) (a b : List Line) → WritesLines old mid a → WritesLines mid new b → WritesLines old new (a ++ b)
lines_then old mid new a b p q = record { bytes = bytes_then old mid new a b p.bytes q.bytes; typed = typed_both a b p.typed q.typed }

pub lines_none : (old : Option (List ℕ)) → WritesLines old old []
lines_none old = record { bytes = bytes_none old; typed = tt }

-- lines that were made in a text of their own, and written
pub text_written : (old new : Option (List ℕ)) (start bytes text : List ℕ) (lines : List Line) → start ≡ [] → Prints start text lines → bytes ≡ text
    → WritesBytes old new bytes → WritesLines old new lines
text_written old new start bytes text lines empty prints same written = record {
  bytes = subst (WritesBytes old new) (same ∙ prints.appended ∙ ap (λ (s : List ℕ). s ++ lines_text lines) empty) written;
  typed = prints.typed;
}

-- ---- where all devices tell

first_then : (managed : List Managed) (from mid to : Life) (old : Option World) (at_mid new : Seen) (a b : List Met)
    → IfSome old (λ world. AreFirst managed from world a mid at_mid) → IfSome (world_of at_mid) (λ world. AreFirst managed mid world b to new)
    → IfSome old (λ world. AreFirst managed from world (a ++ b) to new)
first_then managed from mid to None at_mid new a b p q = tt
first_then managed from mid to (Some world) at_mid new a b p q =
    let here : AreFirst managed mid p.then_told b to new = subst (λ (w : Option World). IfSome w (λ world. AreFirst managed mid world b to new)) p.tells q in
    record {
      then_told = here.then_told;
      tells = here.tells;
      turns = p.turns ∙ ap (λ (ms : List Met). a ++ ms) here.turns ∙ sym (append_assoc a b (foretold_turns managed to here.then_told));
      ends = p.ends ∙ here.ends;
      counted = omega (arith, p.counted, here.counted, length-append a b);
    }

whole_from : (managed : List Managed) (from mid : Life) (old : Option World) (at_mid : Seen) (a b : List Met)
    → IfSome old (λ world. AreFirst managed from world a mid at_mid) → AreWhole managed mid at_mid b
    → IfSome old (λ world. foretold_turns managed from world ≡ a ++ b)
whole_from managed from mid None at_mid a b p q = tt
whole_from managed from mid (Some world) at_mid a b p q =
    p.turns ∙ ap (λ (ms : List Met). a ++ ms) (subst (λ (w : Option World). IfSome w (λ world. foretold_turns managed mid world ≡ b)) p.tells q)

pub whole_then : (managed : List Managed) (from mid : Life) (old at_mid : Seen) (a b : List Met)
    → IfSome (world_of old) (λ world. AreFirst managed from world a mid at_mid) → AreWhole managed mid at_mid b → AreWhole managed from old (a ++ b)
whole_then managed from mid old at_mid a b p q = whole_from managed from mid (world_of old) at_mid a b p q

-- what is left after more turns
left_from : (managed : List Managed) (from mid : Life) (old : Option World) (at_mid : Seen) (new : Option World) (a : List Met)
    → IfSome old (λ world. AreFirst managed from world a mid at_mid)
    → IfSome (world_of at_mid) (λ world. option_map left_in new ≡ Some (left_in (told_last managed mid world)))
    → IfSome old (λ world. option_map left_in new ≡ Some (left_in (told_last managed from world)))
left_from managed from mid None at_mid new a p q = tt
left_from managed from mid (Some world) at_mid new a p q =
    subst (λ (w : Option World). IfSome w (λ world. option_map left_in new ≡ Some (left_in (told_last managed mid world)))) p.tells q
    ∙ ap (λ (w : World). Some (left_in w)) (sym p.ends)

first_none : (managed : List Managed) (life : Life) (seen : Seen) (told : Option World) → world_of seen ≡ told
    → IfSome told (λ world. AreFirst managed life world [] life seen)
first_none managed life seen None same = tt
first_none managed life seen (Some world) same = record { then_told = world; tells = same; turns = refl; ends = refl; counted = omega arith }

-- ---- all of it

pub goes_nowhere : (managed : List Managed) (life : Life) (seen : Seen) (out : Option (List ℕ)) → Goes managed life seen out life seen out []
goes_nowhere managed life seen out = record {
  turns = tt;
  after = refl;
  written = lines_none out;
  tells = tells_none seen;
  foretold = first_none managed life seen (world_of seen) refl;
}

pub goes_then : (managed : List Managed) (from mid to : Life) (old at_mid new : Seen) (out out_mid out_to : Option (List ℕ)) (a b : List Met)
    → Goes managed from old out mid at_mid out_mid a → Goes managed mid at_mid out_mid to new out_to b → Goes managed from old out to new out_to (a ++ b)
goes_then managed from mid to old at_mid new out out_mid out_to a b p q = record {
  turns = turns-append managed from a b p.turns (subst (λ (life : Life). AreTurns managed life b) p.after q.turns);
  after = q.after ∙ ap (λ (life : Life). life_after life b) p.after ∙ sym (life_after-append from a b);
  written =
      subst (λ (ls : List Line). WritesLines out out_to ls) (sym (flat_map-append turn_lines a b))
      (lines_then out out_mid out_to (flat_map turn_lines a) (flat_map turn_lines b) p.written q.written);
  tells = subst (λ (cs : List Call). Tells old new cs) (sym (turns_calls-append from a b))
      (tells_then old at_mid new (turns_calls from a) (turns_calls (life_after from a) b) p.tells
      (subst (λ (life : Life). Tells at_mid new (turns_calls life b)) p.after q.tells));
  foretold = first_then managed from mid to (world_of old) at_mid new a b p.foretold q.foretold;
}

pub ends_then : (allowed then_allowed : ℕ) (managed : List Managed) (from mid to : Life) (old at_mid new : Seen) (out out_mid out_to : Option (List ℕ))
    (a : List Met)
    → length a + then_allowed ≤ allowed → Goes managed from old out mid at_mid out_mid a → Ends then_allowed managed mid at_mid out_mid to new out_to
    → Ends allowed managed from old out to new out_to
ends_then allowed then_allowed managed from mid to old at_mid new out out_mid out_to a fits p q = record {
  mets = a ++ q.mets;
  turns = turns-append managed from a q.mets p.turns (subst (λ (life : Life). AreTurns managed life q.mets) p.after q.turns);
  after = q.after ∙ ap (λ (life : Life). life_after life q.mets) p.after ∙ sym (life_after-append from a q.mets);
  written =
      subst (λ (ls : List Line). WritesLines out out_to ls) (sym (flat_map-append turn_lines a q.mets))
      (lines_then out out_mid out_to (flat_map turn_lines a) (flat_map turn_lines q.mets) p.written q.written);
  last = q.last;
  last_is = q.last_is;
  within = omega (arith, fits, q.within, length-append a q.mets);
  tells = subst (λ (cs : List Call). Tells old new cs)
      (sym (append_assoc (turns_calls from a) (turns_calls (life_after from a) q.mets) q.last)
      ∙ ap (λ (cs : List Call). cs ++ q.last) (sym (turns_calls-append from a q.mets)))
      (tells_then old at_mid new (turns_calls from a) (turns_calls (life_after from a) q.mets ++ q.last) p.tells
      (subst (λ (life : Life). Tells at_mid new (turns_calls life q.mets ++ q.last)) p.after q.tells));
  whole = whole_then managed from mid old at_mid a q.mets p.foretold q.whole;
  left = left_from managed from mid (world_of old) at_mid (world_of new) a p.foretold q.left;
}

-- nothing is foretold of a life that is over
over_is_empty : (managed : List Managed) (life : Life) (world : World) (coming : List Given) → is_over life ≡ true → told_turns managed life world coming ≡ []
over_is_empty managed life world [] over = refl
over_is_empty managed life world (given ∷ coming) over = rw over refl

over_whole : (managed : List Managed) (from to : Life) (old : Option World) (new : Seen) (mets : List Met) → is_over to ≡ true
    → IfSome old (λ world. AreFirst managed from world mets to new) → IfSome old (λ world. foretold_turns managed from world ≡ mets)
over_whole managed from to None new mets over p = tt
over_whole managed from to (Some world) new mets over p =
    p.turns ∙ ap (λ (ms : List Met). mets ++ ms) (over_is_empty managed to p.then_told p.then_told.link.told.coming over) ∙ append-nil mets

-- nor does anything change then
over_stays : (managed : List Managed) (life : Life) (world : World) (coming : List Given) → is_over life ≡ true → told_after managed life world coming ≡ world
over_stays managed life world [] over = refl
over_stays managed life world (given ∷ coming) over = rw over refl

over_left : (managed : List Managed) (from to : Life) (old : Option World) (new : Seen) (mets : List Met) → is_over to ≡ true
    → IfSome old (λ world. AreFirst managed from world mets to new)
    → IfSome old (λ world. option_map left_in (world_of new) ≡ Some (left_in (told_last managed from world)))
over_left managed from to None new mets over p = tt
over_left managed from to (Some world) new mets over p =
    ap (option_map left_in) p.tells ∙ ap (λ (w : World). Some (left_in w)) (sym (p.ends ∙ over_stays managed to p.then_told p.then_told.link.told.coming over))

pub goes_ends : (allowed : ℕ) (managed : List Managed) (from to : Life) (old new : Seen) (out out_to : Option (List ℕ)) (mets : List Met)
    → length mets ≤ allowed → is_over to ≡ true → Goes managed from old out to new out_to mets → Ends allowed managed from old out to new out_to
goes_ends allowed managed from to old new out out_to mets fits over goes = record {
  mets = mets;
  turns = goes.turns;
  after = goes.after;
  written = goes.written;
  last = [];
  last_is = over;
  within = omega (arith, fits);
  tells = subst (λ (cs : List Call). Tells old new cs) (sym (append-nil (turns_calls from mets))) goes.tells;
  whole = over_whole managed from to (world_of old) new mets over goes.foretold;
  left = over_left managed from to (world_of old) new mets over goes.foretold;
}

many : (managed : List Managed) (from to : Life) (old : Option World) (new : Seen) (mets : List Met) (count : ℕ) → length mets ≡ count
    → IfSome old (λ world. AreFirst managed from world mets to new) → IfSome old (λ world. count ≤ length world.link.told.coming)
many managed from to None new mets count counted p = tt
many managed from to (Some world) new mets count counted p = omega (arith, counted, p.counted)

pub goes_many : (managed : List Managed) (from to : Life) (old new : Seen) (out out_to : Option (List ℕ)) (mets : List Met) (count : ℕ) → length mets ≡ count
    → Goes managed from old out to new out_to mets → AreManyTurns old count
goes_many managed from to old new out out_to mets count counted goes = many managed from to (world_of old) new mets count counted goes.foretold
