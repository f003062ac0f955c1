-- Calls of a store one after another.
use Rattle.std.proofs.Common.{◌≡◌, ℕ, zero, suc, List, [], ◌∷◌, ◌++◌, take, length, Option, Some, None, refl, sym, ap, subst}
use Rattle.world.specs.StoreFails.{StoreFails}
use Rattle.world.specs.StoreCalls.{StoreCall, StoreTold, store_answered}
use Rattle.world.specs.SoundStores.{IsSound}
use Rattle.world.proofs.SoundLaws.{sound_after}
use Rattle.file_choices.specs.StoreWalks.{Goes, Answered}
use Rattle.file_choices.specs.Savings.{Saving, saving_after, AreInTurn}
use Rattle.file_choices.proofs.FileWalks.{leaves_files}

pub goes_more : (failing : Option StoreFails) (calls more : List StoreCall) (old mid new : StoreTold) → Goes failing calls old mid
    → Goes failing more mid new → Goes failing (calls ++ more) old new
goes_more failing [] more old mid new before here = subst (λ (m : StoreTold). Goes failing more m new) before here
goes_more failing (call ∷ calls) more old mid new before here =
    (before.0, before.1, goes_more failing calls more (store_answered call before.0 old) mid new before.2 here)

pub answered_more : (failing now : Option StoreFails) (calls more : List StoreCall) (old mid new : Option StoreTold) → now ≡ failing
    → Answered failing calls old mid → Answered now more mid new → Answered failing (calls ++ more) old new
answered_more failing now calls more None mid new same before here = subst (λ (m : Option StoreTold). Answered now more m new) before here
answered_more failing now calls more (Some old) mid new same before here =
    let then = subst (λ (f : Option StoreFails). Answered f more mid new) same here in
    let at : Answered failing more (Some before.0) new = subst (λ (m : Option StoreTold). Answered failing more m new) before.1 then in
    (at.0, at.1, goes_more failing calls more old before.0 at.0 before.2 at.2)

-- a front of calls in their turn is such
pub front_in_turn : (names : List (List ℕ)) (calls : List StoreCall) (saving : Saving) (made : ℕ) → AreInTurn names calls saving
    → AreInTurn names (take made calls) saving
front_in_turn names [] saving zero turn = tt
front_in_turn names [] saving (suc made) turn = tt
front_in_turn names (call ∷ calls) saving zero turn = tt
front_in_turn names (call ∷ calls) saving (suc made) turn = λ named. ((turn named).0, front_in_turn names calls (saving_after call saving) made (turn named).1)

pub all_taken : {A : Type 0} (xs : List A) → take (length xs) xs ≡ xs
all_taken [] = refl
all_taken (x ∷ xs) = ap (λ (rest : List _). x ∷ rest) (all_taken xs)

-- a sound store stays so
pub goes_sound : (failing : Option StoreFails) (calls : List StoreCall) (old new : StoreTold) → Goes failing calls old new → IsSound old → IsSound new
goes_sound failing [] old new goes sound = subst IsSound (sym goes) sound
goes_sound failing (call ∷ calls) old new goes sound =
    goes_sound failing calls (store_answered call goes.0 old) new goes.2
    (sound_after old sound call goes.0 (leaves_files failing call old.files goes.0 goes.1.leaves))
