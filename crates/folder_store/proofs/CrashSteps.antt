-- A saving, call by call.
use Rattle.std.proofs.Common.{◌≡◌, ◌≢◌, ℕ, Bool, true, false, ◌||◌, inl, inr, cond, List, [], ◌∷◌, ◌++◌, take, bytes_eq, option_map, Option, None, Some, Ok, Err, refl, sym, ap, subst, ◌∙◌}
use Rattle.std.proofs.lemmas.Slice.Eq.{bytes_eq-Decides}
use Rattle.std.specs.Prelude.{IsTrue, ◌⊎◌}
use Rattle.std.specs.List.{list_all}
use Rattle.std.specs.declared.io.ErrorKind.{ErrorKind}
use Rattle.net_types.proofs.ReadsLaws.{some_same}
use Rattle.system_calls.specs.Asking.{Does}
use Rattle.system_calls.specs.DiskCalls.{DiskCall, Opened, Made, Read, Wrote, Synced, Closed, Renamed, Removed, Listed, Named, written_by, is_write}
use Rattle.folder_store.specs.FolderCalls.{Writes, Syncs}
use Rattle.folder_store.specs.Crashes.{open_after, is_this, is_open, touches, held_after, is_safe, LeavesHeld, MayLeave, IsSaving, SavesWhole}

differ : (a b : List ℕ) → a ≢ b → bytes_eq a b ≡ false
differ a b apart = elim (bytes_eq a b) as (λ r. bytes_eq a b ≡ r → r ≡ false) [
  | true ↦ λ e. absurd (apart ((bytes_eq-Decides a b).0 e))
  | false ↦ λ e. refl
] refl

same_bytes : (a : List ℕ) → bytes_eq a a ≡ true
same_bytes a = (bytes_eq-Decides a a).1 refl

-- none of the calls touches the file
abbrev Beside : List ℕ → List DiskCall → Type 0
Beside path [] = Unit {0}
Beside path (call ∷ before) = (touches path call before ≡ false) × Beside path before

not_both : {b : Bool} → b ≡ false → b ≡ true → ⊥
not_both f t = let both : false ≡ true = sym f ∙ t in cc

untouched : (path : List ℕ) (calls : List DiskCall) (entry content : Option (List ℕ)) → Beside path calls → MayLeave path entry calls content → content ≡ entry
untouched path [] entry content beside left = left
untouched path (call ∷ before) entry content beside (inl left) = untouched path before entry content beside.1 left
untouched path (call ∷ before) entry content beside (inr touched) = absurd (not_both beside.0 touched.0)

-- so it is after each front of them
beside_front : (path : List ℕ) (later made : List DiskCall) → Beside path (later ++ made) → Beside path made
beside_front path [] made beside = beside
beside_front path (call ∷ later) made beside = beside_front path later made beside.1

-- whole or as it was, after these calls
abbrev Whole : (path bytes : List ℕ) (entry : Option (List ℕ)) → List DiskCall → Type 0
Whole path bytes entry calls = (content : Option (List ℕ)) → MayLeave path entry calls content → (content ≡ entry) ⊎ (content ≡ Some bytes)

-- and after each front of them
record Fronts (path bytes : List ℕ) (entry : Option (List ℕ)) (calls : List DiskCall) : Type 0 where
  at : (later made : List DiskCall) → calls ≡ later ++ made → Whole path bytes entry made

beside_whole : (path bytes : List ℕ) (entry : Option (List ℕ)) (calls : List DiskCall) → Beside path calls → Fronts path bytes entry calls
beside_whole path bytes entry calls beside = record {
  at = λ later made is content left. inl (untouched path made entry content (beside_front path later made (subst (Beside path) is beside)) left);
}

-- one more call, after which it is whole
one_more : (path bytes : List ℕ) (entry : Option (List ℕ)) (call : DiskCall) (calls : List DiskCall) → Fronts path bytes entry calls
    → Whole path bytes entry (call ∷ calls) → Fronts path bytes entry (call ∷ calls)
one_more path bytes entry call calls before now = record { at = λ later made is. at_front later made is }
  where
    tail_of : (other : DiskCall) (later made : List DiskCall) → call ∷ calls ≡ other ∷ (later ++ made) → calls ≡ later ++ made
    tail_of other later made is = cc

    at_front : (later made : List DiskCall) → call ∷ calls ≡ later ++ made → Whole path bytes entry made
    at_front [] made is = subst (Whole path bytes entry) is now
    at_front (other ∷ later) made is = before.at later made (tail_of other later made is)

-- a call that doesn't touch it
passed_by : (path bytes : List ℕ) (entry : Option (List ℕ)) (call : DiskCall) (calls : List DiskCall) → touches path call calls ≡ false
    → Fronts path bytes entry calls → Fronts path bytes entry (call ∷ calls)
passed_by path bytes entry call calls beside before = one_more path bytes entry call calls before (λ content left. still content left)
  where
    still : (content : Option (List ℕ)) → MayLeave path entry (call ∷ calls) content → (content ≡ entry) ⊎ (content ≡ Some bytes)
    still content (inl left) = before.at [] calls refl content left
    still content (inr touched) = absurd (not_both beside touched.0)

-- what was written aside so far, to the open aside
record InAside (path aside text : List ℕ) (calls : List DiskCall) : Type 0 where
  beside : Beside path calls
  opened : open_after calls ≡ Some aside
  held : held_after aside calls ≡ Some text

is_shut : (path aside : List ℕ) (calls : List DiskCall) → path ≢ aside → open_after calls ≡ Some aside → is_open path calls ≡ false
is_shut path aside calls apart opened = ap (is_this path) opened ∙ differ path aside apart

in_aside : (path aside : List ℕ) → path ≢ aside → (pieces : List DiskCall) → IsTrue (list_all is_write pieces)
    → InAside path aside (written_by pieces) (pieces ++ Made aside None ∷ [])
in_aside path aside apart [] all = record {
  beside = (differ path aside apart, tt);
  opened = refl;
  held = let made : Bool → Option (List ℕ) = λ r. cond r (Some []) None in ap made (same_bytes aside);
}
in_aside path aside apart (Wrote bytes (Ok n) ∷ pieces) all =
    let calls = pieces ++ Made aside None ∷ [] in
    let h = in_aside path aside apart pieces all in
    let more : Option (List ℕ) → Option (List ℕ) = option_map (λ text. text ++ take n bytes) in
    let one : Bool → Option (List ℕ) = λ r. cond r (more (held_after aside calls)) (held_after aside calls) in
    record {
      beside = (is_shut path aside calls apart h.opened, h.beside);
      opened = h.opened;
      held = ap one (ap (is_this aside) h.opened ∙ same_bytes aside) ∙ ap more h.held;
    }
in_aside path aside apart (Wrote bytes (Err kind) ∷ pieces) all = absurd (let bad : false ≡ true = all in cc)
in_aside path aside apart (Opened other failure ∷ pieces) all = absurd (let bad : false ≡ true = all in cc)
in_aside path aside apart (Made other failure ∷ pieces) all = absurd (let bad : false ≡ true = all in cc)
in_aside path aside apart (Read answer ∷ pieces) all = absurd (let bad : false ≡ true = all in cc)
in_aside path aside apart (Synced failure ∷ pieces) all = absurd (let bad : false ≡ true = all in cc)
in_aside path aside apart (Closed ∷ pieces) all = absurd (let bad : false ≡ true = all in cc)
in_aside path aside apart (Renamed from to failure ∷ pieces) all = absurd (let bad : false ≡ true = all in cc)
in_aside path aside apart (Removed other failure ∷ pieces) all = absurd (let bad : false ≡ true = all in cc)
in_aside path aside apart (Listed other failure ∷ pieces) all = absurd (let bad : false ≡ true = all in cc)
in_aside path aside apart (Named answer ∷ pieces) all = absurd (let bad : false ≡ true = all in cc)

-- all of it was written, and the file is as it was
record IsWritten (path aside bytes : List ℕ) (calls : List DiskCall) : Type 0 where
  beside : Beside path calls
  held : held_after aside calls ≡ Some bytes

-- the calls from the making of a file to its closing
closed_by : (aside : List ℕ) (pieces : List DiskCall) (opened ended : Option (List DiskCall)) (calls : List DiskCall)
    → Does (Made aside None ∷ []) (Some []) opened → Does pieces opened ended → Does (Closed ∷ []) ended (Some calls)
    → calls ≡ Closed ∷ (pieces ++ Made aside None ∷ [])
closed_by aside pieces opened ended calls made wrote closed =
    let upto : ended ≡ Some (pieces ++ Made aside None ∷ []) = subst (λ o. Does pieces o ended) made wrote in
    some_same (subst (λ e. Does (Closed ∷ []) e (Some calls)) upto closed)

all_written_aside : (path aside bytes : List ℕ) (calls : List DiskCall) → path ≢ aside → Writes aside bytes (Some []) (Some calls) None
    → IsWritten path aside bytes calls
all_written_aside path aside bytes calls apart writes =
    let all = writes.written in
    let h = in_aside path aside apart all.pieces all.writes in
    subst (IsWritten path aside bytes) (sym (closed_by aside all.pieces writes.opened writes.ended calls writes.made all.asked writes.closed)) (record {
      beside = (refl, h.beside);
      held = h.held ∙ ap (λ text. Some text) all.whole;
    })

some_written_aside : (path aside bytes : List ℕ) (kind : ErrorKind) (calls : List DiskCall) → path ≢ aside
    → Writes aside bytes (Some []) (Some calls) (Some kind) → Beside path calls
some_written_aside path aside bytes kind calls apart (inl made) = subst (Beside path) (sym (some_same made)) (differ path aside apart, tt)
some_written_aside path aside bytes kind calls apart (inr writes) =
    let some = writes.written in
    let h = in_aside path aside apart some.pieces some.writes in
    let last = Wrote some.rest some.answer in
    subst (Beside path) (sym (closed_by aside (last ∷ some.pieces) writes.opened writes.ended calls writes.made some.asked writes.closed))
    (refl, (is_shut path aside (some.pieces ++ Made aside None ∷ []) apart h.opened, h.beside))

written_beside : (path aside bytes : List ℕ) (failure : Option ErrorKind) (calls : List DiskCall) → path ≢ aside
    → Writes aside bytes (Some []) (Some calls) failure → Beside path calls
written_beside path aside bytes None calls apart writes = (all_written_aside path aside bytes calls apart writes).beside
written_beside path aside bytes (Some kind) calls apart writes = some_written_aside path aside bytes kind calls apart writes

-- a syncing touches nothing
synced_beside : (path other : List ℕ) (failure : Option ErrorKind) (old calls : List DiskCall) → Syncs other (Some old) (Some calls) failure → Beside path old
    → Beside path calls
synced_beside path other None old calls syncs beside = subst (Beside path) (sym (some_same syncs)) (refl, (refl, (refl, beside)))
synced_beside path other (Some kind) old calls (inl opened) beside = subst (Beside path) (sym (some_same opened)) (refl, beside)
synced_beside path other (Some kind) old calls (inr synced) beside = subst (Beside path) (sym (some_same synced)) (refl, (refl, (refl, beside)))

-- the aside is safe, and holds all
record IsSafeAside (path aside bytes : List ℕ) (calls : List DiskCall) : Type 0 where
  beside : Beside path calls
  held : held_after aside calls ≡ Some bytes
  safe : is_safe aside calls ≡ true

aside_is_safe : (path aside bytes : List ℕ) (old calls : List DiskCall) → Syncs aside (Some old) (Some calls) None → IsWritten path aside bytes old
    → IsSafeAside path aside bytes calls
aside_is_safe path aside bytes old calls syncs h =
    subst (IsSafeAside path aside bytes) (sym (some_same syncs)) (record {
      beside = (refl, (refl, (refl, h.beside)));
      held = h.held;
      safe = ap (λ r. r || is_safe aside (Opened aside None ∷ old)) (same_bytes aside);
    })

-- what a safe file leaves
leaves_it : (safe : Bool) (held : Option (List ℕ)) (bytes : List ℕ) (content : Option (List ℕ)) → safe ≡ true → held ≡ Some bytes
    → LeavesHeld safe held content → content ≡ Some bytes
leaves_it safe held bytes content is_so holds left = subst (λ h. LeavesHeld true h content) holds (subst (λ s. LeavesHeld s held content) is_so left)

renamed_whole : (path aside bytes : List ℕ) (entry : Option (List ℕ)) (failure : Option ErrorKind) (old : List DiskCall) → path ≢ aside
    → IsSafeAside path aside bytes old → Fronts path bytes entry (Renamed aside path failure ∷ old)
renamed_whole path aside bytes entry failure old apart h =
    one_more path bytes entry (Renamed aside path failure) old (beside_whole path bytes entry old h.beside) (λ content left. by content left)
  where
    by : (content : Option (List ℕ)) → MayLeave path entry (Renamed aside path failure ∷ old) content → (content ≡ entry) ⊎ (content ≡ Some bytes)
    by content (inl left) = inl (untouched path old entry content h.beside left)
    by content (inr (touched, inl put)) = inr (leaves_it (is_safe aside old) (held_after aside old) bytes content h.safe h.held put.1)
    by content (inr (touched, inr away)) = absurd (apart away.0)

settled_whole : (dir path bytes : List ℕ) (entry : Option (List ℕ)) (failure : Option ErrorKind) (old calls : List DiskCall)
    → Syncs dir (Some old) (Some calls) failure → Fronts path bytes entry old → Fronts path bytes entry calls
settled_whole dir path bytes entry failure old calls syncs h = by failure syncs
  where
    opened : (failure : Option ErrorKind) → Fronts path bytes entry (Opened dir failure ∷ old)
    opened failure = passed_by path bytes entry (Opened dir failure) old refl h

    closed : (failure : Option ErrorKind) → Fronts path bytes entry (Closed ∷ Synced failure ∷ Opened dir None ∷ old)
    closed failure =
        passed_by path bytes entry Closed (Synced failure ∷ Opened dir None ∷ old) refl
        (passed_by path bytes entry (Synced failure) (Opened dir None ∷ old) refl (opened None))

    by : (failure : Option ErrorKind) → Syncs dir (Some old) (Some calls) failure → Fronts path bytes entry calls
    by None done = subst (Fronts path bytes entry) (sym (some_same done)) (closed None)
    by (Some kind) (inl unopened) = subst (Fronts path bytes entry) (sym (some_same unopened)) (opened (Some kind))
    by (Some kind) (inr unsynced) = subst (Fronts path bytes entry) (sym (some_same unsynced)) (closed (Some kind))

fronts_of : (dir path aside bytes : List ℕ) (entry : Option (List ℕ)) (calls : List DiskCall) → path ≢ aside → IsSaving dir path aside bytes calls
    → Fronts path bytes entry calls
fronts_of dir path aside bytes entry calls apart (failure, inl writes) =
    beside_whole path bytes entry calls (written_beside path aside bytes failure calls apart writes)
fronts_of dir path aside bytes entry calls apart (failure, inr (written, writes, inl syncs)) =
    beside_whole path bytes entry calls
    (synced_beside path aside failure written calls syncs (written_beside path aside bytes None written apart writes))
fronts_of dir path aside bytes entry calls apart (failure, inr (written, writes, inr (synced, syncs, inl renames))) =
    subst (Fronts path bytes entry) (sym (some_same renames))
    (renamed_whole path aside bytes entry failure synced apart
    (aside_is_safe path aside bytes written synced syncs (all_written_aside path aside bytes written apart writes)))
fronts_of dir path aside bytes entry calls apart (failure, inr (written, writes, inr (synced, syncs, inr (renamed, renames, settles)))) =
    settled_whole dir path bytes entry failure renamed calls settles
    (subst (Fronts path bytes entry) (sym (some_same renames))
    (renamed_whole path aside bytes entry None synced apart
    (aside_is_safe path aside bytes written synced syncs (all_written_aside path aside bytes written apart writes))))

pub saves_whole : SavesWhole
saves_whole dir path aside bytes calls later made apart saving is entry content left =
    (fronts_of dir path aside bytes entry calls apart saving).at later made is content left
