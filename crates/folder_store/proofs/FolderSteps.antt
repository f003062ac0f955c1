-- Pieces of a file and names of a folder, one after another.
use Rattle.std.proofs.Common.{arith, ◌≡◌, ◌≤◌, ◌+◌, ℕ, true, inl, inr, List, [], ◌∷◌, ◌++◌, Option, None, Some, Result, Ok, Err, filter, length, take, drop, append_assoc, append-nil, refl, sym, ap, subst, ◌∙◌}
use Rattle.std.proofs.Math.Seq.{take-append_seam}
use Rattle.std.proofs.lemmas.List.{take-append-drop}
use Rattle.std.proofs.lemmas.List.Elements.{filter-append}
use Rattle.std.specs.Prelude.{IsTrue}
use Rattle.std.specs.List.{list_all}
use Rattle.std.specs.declared.io.ErrorKind.{ErrorKind}
use Rattle.world.specs.declared.faults.DeviceAnswer.{DeviceAnswer}
use Rattle.world.specs.declared.faults.DeviceAnswer.TheVariants as Answer
use Rattle.system_calls.specs.Asking.{Does, reason_of}
use Rattle.system_calls.specs.DiskCalls.{DiskCall, Opened, Made, Read, Wrote, Synced, Closed, Renamed, Removed, Listed, Named, read_by, written_by, named_by, is_piece, is_write, is_entry, is_no_text}
use Rattle.folder_store.specs.FolderCalls.{GivesNothing, WritesAll, WritesSome, ReadsAll, ReadsSome, FailsToName, ListsEntry, ListsOn, ListsSome, is_aside_name, most_pieces}
use Rattle.system_calls.proofs.Doing.{then, nothing}

-- what was written so far, and the rest
pub record Writing (bytes rest : List ℕ) (old new : Option (List DiskCall)) : Type 0 where
  pub pieces : List DiskCall
  pub writes : IsTrue (list_all is_write pieces)
  pub so_far : written_by pieces ++ rest ≡ bytes
  pub asked : Does pieces old new

pub writing_begins : (bytes : List ℕ) (old : Option (List DiskCall)) → Writing bytes bytes old old
writing_begins bytes old = record { pieces = []; writes = refl; so_far = refl; asked = nothing old }

pub writing_goes_on : (bytes rest left : List ℕ) (n : ℕ) (old mid new : Option (List DiskCall)) → left ≡ drop n rest → Writing bytes rest old mid
    → Does (Wrote rest (Ok n) ∷ []) mid new → Writing bytes left old new
writing_goes_on bytes rest left n old mid new is h more = record {
  pieces = Wrote rest (Ok n) ∷ h.pieces;
  writes = h.writes;
  so_far =
      ap (λ xs. (written_by h.pieces ++ take n rest) ++ xs) is
      ∙ append_assoc (written_by h.pieces) (take n rest) (drop n rest)
      ∙ ap (λ xs. written_by h.pieces ++ xs) (take-append-drop n rest) ∙ h.so_far;
  asked = then (Wrote rest (Ok n)) h.pieces old mid new h.asked more;
}

nothing_left : (rest : List ℕ) → length rest ≡ 0 → rest ≡ []
nothing_left [] e = refl
nothing_left (b ∷ rest) e = cc

pub all_written : (bytes rest : List ℕ) (old new : Option (List DiskCall)) → length rest ≡ 0 → Writing bytes rest old new → WritesAll bytes old new
all_written bytes rest old new none h = record {
  pieces = h.pieces;
  writes = h.writes;
  whole = sym (append-nil (written_by h.pieces)) ∙ ap (λ xs. written_by h.pieces ++ xs) (sym (nothing_left rest none)) ∙ h.so_far;
  asked = h.asked;
}

pub some_written : (bytes rest : List ℕ) (answer : Result ℕ ErrorKind) (failure : ErrorKind) (old mid new : Option (List DiskCall))
    → GivesNothing answer failure → Writing bytes rest old mid → Does (Wrote rest answer ∷ []) mid new → WritesSome bytes failure old new
some_written bytes rest answer failure old mid new none h last = record {
  pieces = h.pieces;
  writes = h.writes;
  rest = rest;
  front = h.so_far;
  answer = answer;
  gives_nothing = none;
  asked = then (Wrote rest answer) h.pieces old mid new h.asked last;
}

-- what was read so far, in so many pieces
pub record Reading (count : ℕ) (old new : Option (List DiskCall)) (before after : List ℕ) : Type 0 where
  pub pieces : List DiskCall
  pub pieced : IsTrue (list_all is_piece pieces)
  pub counted : length pieces ≡ count
  pub appended : after ≡ before ++ read_by pieces
  pub asked : Does pieces old new

pub reading_begins : (old : Option (List DiskCall)) (before : List ℕ) → Reading 0 old old before before
reading_begins old before = record { pieces = []; pieced = refl; counted = refl; appended = sym (append-nil before); asked = nothing old }

pub reading_goes_on : (count next : ℕ) (old mid new : Option (List DiskCall)) (before after more bytes : List ℕ) → next ≡ count + 1 → more ≡ after ++ bytes
    → Reading count old mid before after → Does (Read (Ok bytes) ∷ []) mid new → Reading next old new before more
reading_goes_on count next old mid new before after more bytes one is h last = record {
  pieces = Read (Ok bytes) ∷ h.pieces;
  pieced = h.pieced;
  counted = let counted = h.counted in omega arith;
  appended = is ∙ ap (λ xs. xs ++ bytes) h.appended ∙ append_assoc before (read_by h.pieces) bytes;
  asked = then (Read (Ok bytes)) h.pieces old mid new h.asked last;
}

pub all_read : (count n : ℕ) (buffer : List ℕ) (old mid new : Option (List DiskCall)) (before after : List ℕ) → n ≡ 0
    → Reading count old mid before after → Does (Read (Ok (take n buffer)) ∷ []) mid new → ReadsAll old new before after
all_read count n buffer old mid new before after none h last = record {
  pieces = h.pieces;
  reads = h.pieced;
  appended = h.appended;
  asked = then (Read (Ok [])) h.pieces old mid new h.asked (subst (λ n. Does (Read (Ok (take n buffer)) ∷ []) mid new) none last);
}

-- what was there before stands in front
pub front_kept : (count : ℕ) (old new : Option (List DiskCall)) (before after : List ℕ) → Reading count old new before after
    → take (length before) after ≡ before
front_kept count old new before after h = rw h.appended (take-append_seam before (read_by h.pieces))

-- a piece that failed
pub piece_failed : (count : ℕ) (failure : ErrorKind) (answer : DeviceAnswer) (old mid new : Option (List DiskCall)) (before after : List ℕ)
    → answer ≡ reason_of failure → Reading count old mid before after → Does (Read (Err failure) ∷ []) mid new → ReadsSome answer old new
piece_failed count failure answer old mid new before after why h last = record {
  pieces = h.pieces;
  reads = h.pieced;
  ends = inl (failure, why, then (Read (Err failure)) h.pieces old mid new h.asked last);
}

-- a piece that couldn't be kept
pub piece_lost : (count : ℕ) (bytes : List ℕ) (old mid new : Option (List DiskCall)) (before after : List ℕ) → Reading count old mid before after
    → Does (Read (Ok bytes) ∷ []) mid new → ReadsSome Answer.NoMemory old new
piece_lost count bytes old mid new before after h last = record {
  pieces = Read (Ok bytes) ∷ h.pieces;
  reads = h.pieced;
  ends = inr (inl (refl, then (Read (Ok bytes)) h.pieces old mid new h.asked last));
}

-- too many pieces
pub too_many_pieces : (count : ℕ) (old new : Option (List DiskCall)) (before after : List ℕ) → most_pieces ≤ count → Reading count old new before after
    → ReadsSome Answer.Failed old new
too_many_pieces count old new before after many h = record {
  pieces = h.pieces;
  reads = h.pieced;
  ends = inr (inr (refl, rw h.counted many, h.asked));
}

-- the names that were listed so far, by so many calls
pub record Listing (count : ℕ) (old new : Option (List DiskCall)) (before after : List (List ℕ)) : Type 0 where
  pub entries : List DiskCall
  pub counted : length entries ≡ count
  pub names : IsTrue (list_all is_entry entries)
  pub found : after ≡ before ++ filter is_aside_name (named_by entries)
  pub asked : Does entries old new

pub listing_begins : (old : Option (List DiskCall)) (before : List (List ℕ)) → Listing 0 old old before before
listing_begins old before = record { entries = []; counted = refl; names = refl; found = sym (append-nil before); asked = nothing old }

named_one : (entry : DiskCall) (entries : List DiskCall) → named_by (entry ∷ entries) ≡ named_by entries ++ named_by (entry ∷ [])
named_one (Named (Ok (Some name))) entries = refl
named_one (Named (Ok None)) entries = sym (append-nil (named_by entries))
named_one (Named (Err kind)) entries = sym (append-nil (named_by entries))
named_one (Opened path failure) entries = sym (append-nil (named_by entries))
named_one (Made path failure) entries = sym (append-nil (named_by entries))
named_one (Read answer) entries = sym (append-nil (named_by entries))
named_one (Wrote bytes answer) entries = sym (append-nil (named_by entries))
named_one (Synced failure) entries = sym (append-nil (named_by entries))
named_one Closed entries = sym (append-nil (named_by entries))
named_one (Renamed from to failure) entries = sym (append-nil (named_by entries))
named_one (Removed path failure) entries = sym (append-nil (named_by entries))
named_one (Listed path failure) entries = sym (append-nil (named_by entries))

pub listing_goes_on : (count next : ℕ) (old mid new : Option (List DiskCall)) (before after more : List (List ℕ)) → next ≡ count + 1
    → Listing count old mid before after → ListsEntry mid new after more → Listing next old new before more
listing_goes_on count next old mid new before after more counts h one = record {
  entries = one.entry ∷ h.entries;
  counted = let counted = h.counted in omega arith;
  names = rw one.is_one h.names;
  found =
      one.found ∙ ap (λ xs. xs ++ filter is_aside_name (named_by (one.entry ∷ []))) h.found
      ∙ append_assoc before (filter is_aside_name (named_by h.entries)) (filter is_aside_name (named_by (one.entry ∷ [])))
      ∙ ap (λ xs. before ++ xs)
      (sym (filter-append is_aside_name (named_by h.entries) (named_by (one.entry ∷ [])))
      ∙ ap (filter is_aside_name) (sym (named_one one.entry h.entries)));
  asked = then one.entry h.entries old mid new h.asked one.asked;
}

-- a name that was given, and one that is no text
pub one_named : (old new : Option (List DiskCall)) (before after : List (List ℕ)) (name : List ℕ) → after ≡ before ++ filter is_aside_name (name ∷ [])
    → Does (Named (Ok (Some name)) ∷ []) old new → ListsEntry old new before after
one_named old new before after name is asked = record { entry = Named (Ok (Some name)); is_one = refl; found = is; asked = asked }

pub one_passed : (old new : Option (List DiskCall)) (before : List (List ℕ)) (kind : ErrorKind) → is_no_text kind ≡ true → Does (Named (Err kind) ∷ []) old new
    → ListsEntry old new before before
one_passed old new before kind is asked = record { entry = Named (Err kind); is_one = is; found = sym (append-nil before); asked = asked }

pub all_listed : (count : ℕ) (old mid new : Option (List DiskCall)) (before after last : List (List ℕ)) → last ≡ after → Listing count old mid before after
    → Does (Named (Ok None) ∷ []) mid new → ListsOn old new before last
all_listed count old mid new before after last same h end = record {
  entries = h.entries;
  names = h.names;
  found = same ∙ h.found;
  asked = then (Named (Ok None)) h.entries old mid new h.asked end;
}

-- a listing that was cut off by one name
pub name_lost : (count : ℕ) (answer : DeviceAnswer) (old mid new : Option (List DiskCall)) (before after : List (List ℕ)) → Listing count old mid before after
    → FailsToName answer mid new → ListsSome answer old new
name_lost count answer old mid new before after h (inl (failure, other, why, asked)) = record {
  entries = h.entries;
  names = h.names;
  ends = inl (failure, why, then (Named (Err failure)) h.entries old mid new h.asked asked);
}
name_lost count answer old mid new before after h (inr (name, why, asked)) = record {
  entries = Named (Ok (Some name)) ∷ h.entries;
  names = h.names;
  ends = inr (inl (why, then (Named (Ok (Some name))) h.entries old mid new h.asked asked));
}

-- or by their number
pub too_many_names : (count : ℕ) (old new : Option (List DiskCall)) (before after : List (List ℕ)) → most_pieces ≤ count
    → Listing count old new before after → ListsSome Answer.Failed old new
too_many_names count old new before after many h = record {
  entries = h.entries;
  names = h.names;
  ends = inr (inr (refl, rw h.counted many, h.asked));
}

-- a file is read piece by piece
pub ruleset pieces_read = (all_read, front_kept, piece_failed, piece_lost, too_many_pieces)

-- a file is written piece by piece
pub ruleset pieces_written = (writing_begins, writing_goes_on, all_written, some_written)

-- a name of the folder comes
pub ruleset names_come = (one_named, one_passed)

-- the folder is listed name by name
pub ruleset names_listed = (listing_begins, listing_goes_on, all_listed, name_lost, too_many_names)
