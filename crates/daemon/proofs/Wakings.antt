-- Turns taken one after another.
use Rattle.std.proofs.Common.{ℕ, ◌≡◌, ◌<◌, ◌+◌, false, List, [], ◌∷◌, ◌++◌, length, Option, refl, ◌∙◌, arith}
use Rattle.std.proofs.lemmas.List.{length-append}
use Rattle.settings.specs.declared.interfaces.Managed.{Managed}
use Rattle.device_calls.specs.Worlds.{Seen}
use Rattle.turn_model.specs.Turns.{Life, is_over}
use Rattle.turn_model.specs.Lives.{Met}
use Rattle.daemon.specs.declared.serving.ServeEnd.{ServeEnd}
use Rattle.daemon.specs.declared.serving.ServeEnd.TheVariants as ends
use Rattle.daemon.specs.Serving.{Goes, Ends, AreManyTurns, HasServeCause}
use Rattle.daemon.specs.Waking.{GoesOn}
use Rattle.daemon.specs.Cuts.{BreaksOff}
use Rattle.daemon.proofs.Stretches.{goes_nowhere, goes_then, ends_then, goes_many}
use Rattle.daemon.proofs.CutOffs.{goes_broken, goes_over}

pub record TakesTurns (managed : List Managed) (from : Life) (old : Seen) (out : Option (List ℕ)) (to : Life) (new : Seen) (out_to : Option (List ℕ))
    (count : ℕ) : Type 0 where
  pub mets : List Met
  pub goes : Goes managed from old out to new out_to mets
  pub counted : length mets ≡ count

pub takes_none : (managed : List Managed) (life : Life) (seen : Seen) (out : Option (List ℕ)) → TakesTurns managed life seen out life seen out 0
takes_none managed life seen out = record { mets = []; goes = goes_nowhere managed life seen out; counted = refl }

pub takes_more : (managed : List Managed) (from mid to : Life) (old at_mid new : Seen) (out out_mid out_to : Option (List ℕ)) (count : ℕ)
    → TakesTurns managed from old out mid at_mid out_mid count → GoesOn managed mid at_mid out_mid to new out_to
    → TakesTurns managed from old out to new out_to (count + 1)
takes_more managed from mid to old at_mid new out out_mid out_to count p q = record {
  mets = p.mets ++ q.met ∷ [];
  goes = goes_then managed from mid to old at_mid new out out_mid out_to p.mets (q.met ∷ []) p.goes q.goes;
  counted = omega (arith, p.counted, length-append p.mets (q.met ∷ []));
}

pub takes_last : (allowed : ℕ) (managed : List Managed) (from mid to : Life) (old at_mid new : Seen) (out out_mid out_to : Option (List ℕ)) (count : ℕ)
    → count < allowed → TakesTurns managed from old out mid at_mid out_mid count → Ends 1 managed mid at_mid out_mid to new out_to
    → Ends allowed managed from old out to new out_to
takes_last allowed managed from mid to old at_mid new out out_mid out_to count fits p q =
    ends_then allowed 1 managed from mid to old at_mid new out out_mid out_to p.mets (omega (arith, fits, p.counted)) p.goes q

pub takes_breaks : (end : ServeEnd) (allowed : ℕ) (managed : List Managed) (from mid : Life) (old at_mid new : Seen) (out out_mid out_to : Option (List ℕ))
    (count a b c d : ℕ)
    → count < allowed → HasServeCause end a b c d → TakesTurns managed from old out mid at_mid out_mid count
    → BreaksOff end 1 managed mid at_mid new out_mid out_to → BreaksOff end allowed managed from old new out out_to
takes_breaks end allowed managed from mid old at_mid new out out_mid out_to count a b c d fits cause p q =
    goes_broken end allowed 1 managed from mid old at_mid new out out_mid out_to p.mets a b c d (omega (arith, fits, p.counted)) cause p.goes q

pub takes_over : (allowed : ℕ) (managed : List Managed) (from to : Life) (old new : Seen) (out out_to : Option (List ℕ)) (count : ℕ)
    → count ≡ allowed → is_over to ≡ false → TakesTurns managed from old out to new out_to count
    → BreaksOff ends.TurnsOver allowed managed from old new out out_to
takes_over allowed managed from to old new out out_to count all going p =
    goes_over allowed managed from to old new out out_to p.mets (p.counted ∙ all) going p.goes

pub takes_many : (managed : List Managed) (from to : Life) (old new : Seen) (out out_to : Option (List ℕ)) (count : ℕ)
    → TakesTurns managed from old out to new out_to count → AreManyTurns old count
takes_many managed from to old new out out_to count p = goes_many managed from to old new out out_to p.mets count p.counted p.goes
