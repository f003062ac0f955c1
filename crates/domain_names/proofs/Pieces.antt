-- What stands at a place says what the name there is.
use Rattle.std.proofs.Common.{◌≡◌, ℕ, ◌+◌, ◌<◌, ◌≤◌, inl, inr, List, [], ◌∷◌, length, take, drop, refl, sym, ap, subst, ◌∙◌, arith, eqb, ltb, leb}
use Rattle.std.specs.Prelude.{slice_index}
use Rattle.std.proofs.lemmas.Bool.{leb-true, leb-false, ltb-true}
use Rattle.domain_names.specs.declared.compressed.Piece.{Piece}
use Rattle.domain_names.specs.declared.compressed.Piece.TheVariants.{End, Label, Pointer, Bad}
use Rattle.domain_names.specs.CompressedName.{target_of, label_piece, pointer_piece, piece_of, Spells, ends, goes_on, points}
use Rattle.domain_names.specs.CompressedSteps.{HasRoom}
use Rattle.domain_names.proofs.Labels.{cases_bool}

label_room : (value : List ℕ) (start at len : ℕ) → HasRoom value start at (label_piece value at len)
label_room value start at len =
    elim (cases_bool (leb (at + 1 + len) (length value))) [
      | inl e ↦ rw e (leb-true (at + 1 + len) (length value) e)
      | inr e ↦ rw e tt
    ]

pointer_room : (value : List ℕ) (start at : ℕ) → HasRoom value start at (pointer_piece value start at)
pointer_room value start at =
    let target = target_of (slice_index value at) (slice_index value (at + 1)) in
    elim (cases_bool (leb (at + 2) (length value))) [
      | inl e ↦ elim (cases_bool (ltb target start)) [
        | inl f ↦ rw (e, f) (leb-true (at + 2) (length value) e, ltb-true target start f)
        | inr f ↦ rw (e, f) tt
      ]
      | inr e ↦ rw e tt
    ]

room_at : (value : List ℕ) (start at : ℕ) → HasRoom value start at (piece_of value start at)
unfolding piece_of
room_at value start at =
    elim (cases_bool (leb (length value) at)) [
      | inl e ↦ rw e tt
      | inr within ↦ elim (cases_bool (eqb (slice_index value at) 0)) [
        | inl e ↦ rw (within, e) (leb-false (length value) at within)
        | inr some ↦ elim (cases_bool (ltb (slice_index value at) 64)) [
          | inl e ↦ rw (within, some, e) (label_room value start at (slice_index value at))
          | inr long ↦ elim (cases_bool (ltb (slice_index value at) 192)) [
            | inl e ↦ rw (within, some, long, e) tt
            | inr e ↦ rw (within, some, long, e) (pointer_room value start at)
          ]
        ]
      ]
    ]

pub room_of : (value : List ℕ) (start at : ℕ) (piece : Piece) → piece_of value start at ≡ piece → HasRoom value start at piece
room_of value start at piece e = subst (λ (p : Piece). HasRoom value start at p) e (room_at value start at)

abbrev pub SpelledBy : List ℕ → ℕ → ℕ → Piece → List (List ℕ) → ℕ → Type 0
SpelledBy value start at End labels next = (labels ≡ []) × (next ≡ at + 1)
SpelledBy value start at (Label n) labels next =
    (more : List (List ℕ)) × Spells value start (at + 1 + n) more next × (labels ≡ take n (drop (at + 1) value) ∷ more)
SpelledBy value start at (Pointer target) labels next = (after : ℕ) × Spells value target target labels after × (next ≡ at + 2)
SpelledBy value start at Bad labels next = ⊥

pub spelled_by : {value : List ℕ} {start at next : ℕ} {labels : List (List ℕ)} (piece : Piece) → piece_of value start at ≡ piece
    → Spells value start at labels next → SpelledBy value start at piece labels next
spelled_by {value} {start} {at} piece e (ends q) =
    subst (λ (p : Piece). SpelledBy value start at p [] (at + 1)) (sym q ∙ e) (refl, refl)
spelled_by {value} {start} {at} {next} piece e (goes_on {n = n} {labels = more} q s) =
    subst (λ (p : Piece). SpelledBy value start at p (take n (drop (at + 1) value) ∷ more) next) (sym q ∙ e) (more, s, refl)
spelled_by {value} {start} {at} {labels = labels} piece e (points {after = after} q s) =
    subst (λ (p : Piece). SpelledBy value start at p labels (at + 2)) (sym q ∙ e) (after, s, refl)

-- a name goes forward, within its value
pub forward : {value : List ℕ} {start at next : ℕ} {labels : List (List ℕ)} → Spells value start at labels next → (at < next) × (next ≤ length value)
forward {value} {start} {at} (ends q) = let room = room_of value start at End q in (omega arith, omega arith)
forward {value} {start} {at} (goes_on {n = n} q s) = let more = forward s in (omega (arith, more.0), more.1)
forward {value} {start} {at} (points {target = target} q s) = let room = room_of value start at (Pointer target) q in (omega arith, room.0)

-- a place spells one list of labels
pub one_spelling : {value : List ℕ} {start at m n : ℕ} {xs ys : List (List ℕ)} → Spells value start at xs m → Spells value start at ys n → (xs ≡ ys) × (m ≡ n)
one_spelling (ends q) other = let by = spelled_by End q other in (sym by.0, sym by.1)
one_spelling {value} {start} {at} (goes_on {n = n} q s) other =
    let by = spelled_by (Label n) q other in
    let same = one_spelling s by.1 in
    (ap (λ (more : List (List ℕ)). take n (drop (at + 1) value) ∷ more) same.0 ∙ sym by.2, same.1)
one_spelling (points {target = target} q s) other =
    let by = spelled_by (Pointer target) q other in
    ((one_spelling s by.1).0, sym by.2)
