-- Reading an input piece by piece.
use Rattle.std.proofs.Common.{ℕ, ◌≡◌, ◌<◌, ◌≤◌, ◌+◌, ◌^◌, ◌-◌, List, [], ◌++◌, length, take, drop, Option, Some, None, Ok, Err, refl, sym, ap, subst, ◌∙◌, append_assoc, append-nil, arith}
use Rattle.std.proofs.lemmas.List.{take-append-drop, length-append}
use Rattle.std.proofs.Math.Seq.{drop-append-add}
use Rattle.std.proofs.Math.Nat.{min-le_left, min-eq_left}
use Rattle.net_types.specs.declared.fault.Failed.{Failed}
use Rattle.world.specs.Streams.{Reads, count_after, taken_after}
use Rattle.text_works.specs.Input.{limit, Moves, Takes, InputTold, CountsTaken, TakesSome, ReadsWithin, IsFront, HasRead, IsInput, IsTooLong}

pub read_none : (input : Option (List ℕ)) → HasRead input [] input
read_none None = tt
read_none (Some input) = refl

front_more : (input read read_new : List ℕ) (left left_new : Option (List ℕ)) (n : ℕ) → IsFront input read left → Moves left left_new read read_new n
    → IsFront input read_new left_new
front_more input read read_new None left_new n front moved = absurd front
front_more input read read_new (Some bytes) left_new n front moved =
    subst (λ (l : Option (List ℕ)). IsFront input read_new l) (sym moved.2)
    (front ∙ ap (λ (b : List ℕ). read ++ b) (sym (take-append-drop n bytes)) ∙ sym (append_assoc read (take n bytes) (drop n bytes))
    ∙ ap (λ (r : List ℕ). r ++ drop n bytes) (sym moved.1))

pub read_more : (input left left_new : Option (List ℕ)) (read read_new : List ℕ) (n : ℕ) → HasRead input read left → Moves left left_new read read_new n
    → HasRead input read_new left_new
read_more None left left_new read read_new n has moved = tt
read_more (Some input) left left_new read read_new n has moved = front_more input read read_new left left_new n has moved

front_all : (input read read_new : List ℕ) (left left_new : Option (List ℕ)) (n : ℕ) → n ≡ 0 → IsFront input read left → Moves left left_new read read_new n
    → input ≡ read_new
front_all input read read_new None left_new n none front moved = absurd front
front_all input read read_new (Some bytes) left_new n none front moved =
    let empty : bytes ≡ [] = moved.3 none in
    let added : read_new ≡ read = moved.1 ∙ ap (λ (k : ℕ). read ++ take k bytes) none ∙ append-nil read in
    front ∙ ap (λ (b : List ℕ). read ++ b) empty ∙ append-nil read ∙ sym added

pub read_whole : (input left left_new : Option (List ℕ)) (read read_new : List ℕ) (n : ℕ) → n ≡ 0 → HasRead input read left
    → Moves left left_new read read_new n → IsInput input read_new
read_whole None left left_new read read_new n none has moved = tt
read_whole (Some input) left left_new read read_new n none has moved = front_all input read read_new left left_new n none has moved

front_long : (input read : List ℕ) (left : Option (List ℕ)) → limit < length read → IsFront input read left → limit < length input
front_long input read None long front = absurd front
front_long input read (Some bytes) long front = omega (arith, ap length front, length-append read bytes, long)

pub read_long : (input left : Option (List ℕ)) (read : List ℕ) → limit < length read → HasRead input read left → IsTooLong input
read_long None left read long has = tt
read_long (Some input) left read long has = front_long input read left long has

failed_takes : (old new : Option (List ℕ)) (buffer : List ℕ) (e : Failed) → Reads old new buffer (Err e) → Takes 0 old new
failed_takes None new buffer e read = tt
failed_takes (Some bytes) new buffer e read = (omega arith, read)

-- a read that failed took nothing
pub takes_none : (room : ℕ) (old new : InputTold) (buffer : List ℕ) (e : Failed) → Reads old.left new.left buffer (Err e)
    → new.taken ≡ taken_after old.taken (Err e) → TakesSome room old new
takes_none room old new buffer e read counted = record {
  taken = 0;
  few = omega arith;
  takes = failed_takes old.left new.left buffer e read;
  counted = λ within. omega (arith, counted);
}

done_takes : (old new : Option (List ℕ)) (buffer : List ℕ) (n : ℕ) → Reads old new buffer (Ok n) → Takes n old new
done_takes None new buffer n read = tt
done_takes (Some bytes) new buffer n read = (read.0, read.2)

pub counts_taken : (old new n : ℕ) → new ≡ taken_after old (Ok n) → CountsTaken n old new
counts_taken old new n is within = is ∙ min-eq_left within

pub takes_some : (room : ℕ) (old new : InputTold) (buffer : List ℕ) (n : ℕ) → n ≤ room → Reads old.left new.left buffer (Ok n)
    → new.taken ≡ taken_after old.taken (Ok n) → TakesSome room old new
takes_some room old new buffer n few read counted = record {
  taken = n;
  few = few;
  takes = done_takes old.left new.left buffer n read;
  counted = counts_taken old.taken new.taken n counted;
}

pub reads_once : (old new : ℕ) → new ≡ count_after old → new ≤ old + 1
reads_once old new is = subst (λ (k : ℕ). k ≤ old + 1) (sym is) (min-le_left (old + 1) (2 ^ 64 - 1))

front_takes : (input read : List ℕ) (mid new : Option (List ℕ)) (n : ℕ) → IsFront input read mid → Takes n mid new
    → (length read + n ≤ length input) × (new ≡ Some (drop (length read + n) input))
front_takes input read None new n front takes = absurd front
front_takes input read (Some bytes) new n front takes = (
  omega (arith, ap length front, length-append read bytes, takes.0),
  takes.1 ∙ ap (λ (b : List ℕ). Some b) (sym (drop-append-add read bytes n) ∙ ap (drop (length read + n)) (sym front)),
)

takes_after : (input mid new : Option (List ℕ)) (read : List ℕ) (n : ℕ) → HasRead input read mid → Takes n mid new → Takes (length read + n) input new
takes_after None mid new read n has takes = tt
takes_after (Some input) mid new read n has takes = front_takes input read mid new n has takes

-- counts of two takings add up
pub counts_more : (old mid new a b : ℕ) → CountsTaken a old mid → CountsTaken b mid new → CountsTaken (a + b) old new
counts_more old mid new a b first then within =
    let before : mid ≡ old + a = first (omega (arith, within)) in
    then (omega (arith, within, before)) ∙ omega (arith, before)

-- a read gave nothing that was kept, after all that was read before
pub within_stopped : (input mid new : InputTold) (read : List ℕ) (room : ℕ) → HasRead input.left read mid.left
    → CountsTaken (length read) input.taken mid.taken → TakesSome room mid new → length read + room ≤ limit + 1
    → mid.reads ≤ input.reads + length read → new.reads ≤ mid.reads + 1 → ReadsWithin input new
within_stopped input mid new read room has counted some fits before once = record {
  taken = length read + some.taken;
  few = omega (arith, fits, some.few);
  takes = takes_after input.left mid.left new.left read some.taken has some.takes;
  counted = counts_more input.taken mid.taken new.taken (length read) some.taken counted some.counted;
  reads = omega (arith, before, once);
}

nothing_more : (left : Option (List ℕ)) → Takes 0 left left
nothing_more None = tt
nothing_more (Some bytes) = (omega arith, refl)

-- all that was taken was read
pub within_read : (input new : InputTold) (read : List ℕ) → HasRead input.left read new.left → CountsTaken (length read) input.taken new.taken
    → length read ≤ limit + 1 → new.reads ≤ input.reads + length read + 1 → ReadsWithin input new
within_read input new read has counted fits few = record {
  taken = length read + 0;
  few = omega (arith, fits);
  takes = takes_after input.left new.left new.left read 0 has (nothing_more new.left);
  counted = λ within. counted (omega (arith, within)) ∙ omega arith;
  reads = omega (arith, few);
}

pub within_none : (told : InputTold) → ReadsWithin told told
within_none told = within_read told told [] (read_none told.left) (λ within. omega arith) (omega arith) (omega arith)
