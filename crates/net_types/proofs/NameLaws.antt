-- Names of interfaces: what is read is spelled so, and what is spelled so is read.
use Rattle.std.proofs.Common.{◌≡◌, ℕ, ◌-◌, ◌<◌, ◌≤◌, true, false, cond, ◌&&◌, List, ◌++◌, length, take, drop, replicate, Some, None, refl, sym, ap, ◌∙◌, subst, arith, ltb}
use Rattle.std.specs.Char.{is_ascii_alphanumeric}
use Rattle.std.specs.List.{list_all, slice_index}
use Rattle.std.proofs.lemmas.Bool.{and_parts, ltb-true, false≢true}
use Rattle.std.proofs.lemmas.Bool.Decides.{nat_tests}
use Rattle.std.proofs.lemmas.List.{take_at, drop_at, take-append-drop, length-append, length-replicate, length-take-le}
use Rattle.net_types.specs.declared.interface.Name.{Name}
use Rattle.net_types.specs.Reads.{Reads}
use Rattle.net_types.specs.Marks.{Only, Lacks, is_printable, IsPrintable}
use Rattle.net_types.specs.NameText.{is_name, is_name_byte, name_text, name_at, FitsName}
use Rattle.net_types.proofs.MarkLaws.{lacks_from, only_weaker}
use Rattle.net_types.proofs.ReadsLaws.{some_same}

name_whole : (name : Name) → FitsName name → name_at (name_text name) ≡ Some name
unfolding name_at name_text
name_whole name fits =
    let inside : name.len ≤ length name.bytes = let f = fits.fifteen in let w = fits.within in omega arith in
    let long : length (take name.len name.bytes) ≡ name.len = length-take-le name.len name.bytes inside in
    let rest : take name.len name.bytes ++ replicate (15 - name.len) 0 ≡ name.bytes =
    ap (λ r. take name.len name.bytes ++ r) (sym fits.padded) ∙ take-append-drop name.len name.bytes in
    rw (fits.spelled, long, rest) refl

pub is_name_short : (text : List ℕ) → is_name text ≡ true → length text < 16
unfolding is_name
is_name_short text e =
    elim (is_ascii_alphanumeric (slice_index text 0)) as (λ b. cond b (ltb (length text) 16 && list_all is_name_byte text) false ≡ true → length text < 16) [
      | true ↦ λ q. ltb-true _ _ (and_parts _ _ q).0
      | false ↦ λ q. absurd (false≢true q)
    ] e

made : List ℕ → Name
made text = record { bytes = text ++ replicate (15 - length text) 0; len = length text }

made_text : (text : List ℕ) → name_text (made text) ≡ text
unfolding name_text made
made_text text = take_at text (replicate (15 - length text) 0) (length text) refl

made_within : (text : List ℕ) → length text < 16 → (made text).len ≤ 15
unfolding made
made_within text short = omega arith

made_length : (text : List ℕ) → length text < 16 → length (made text).bytes ≡ 15
unfolding made
made_length text short = simp (length-append, length-replicate) (omega arith)

made_padded : (text : List ℕ) → drop (made text).len (made text).bytes ≡ replicate (15 - (made text).len) 0
unfolding made
made_padded text = drop_at text (replicate (15 - length text) 0) (length text) refl

made_fits : (text : List ℕ) → is_name text ≡ true → FitsName (made text)
made_fits text e =
    let short : length text < 16 = is_name_short text e in
    record { spelled = rw (made_text text) e; within = made_within text short; fifteen = made_length text short; padded = made_padded text }

name_sound : (text : List ℕ) (name : Name) → name_at text ≡ Some name → (text ≡ name_text name) × FitsName name
unfolding name_at made
name_sound text name e =
    elim (is_name text) as (λ b. is_name text ≡ b → cond b (Some (made text)) None ≡ Some name → (text ≡ name_text name) × FitsName name) [
      | true ↦ λ t q.
          let same : made text ≡ name = some_same q in
          (sym (made_text text) ∙ ap name_text same, subst FitsName same (made_fits text t))
      | false ↦ λ t q. let never : ⊥ = cc in absurd never
    ] refl e

pub name_reads : Reads name_text FitsName name_at
name_reads = record { sound = name_sound; whole = name_whole }

-- ---- what a name is made of

name_bytes : (text : List ℕ) → is_name text ≡ true → Only is_name_byte text
unfolding is_name
name_bytes text e =
    elim (is_ascii_alphanumeric (slice_index text 0)) as
    (λ b. cond b (ltb (length text) 16 && list_all is_name_byte text) false ≡ true → list_all is_name_byte text ≡ true) [
      | true ↦ λ q. (and_parts _ _ q).1
      | false ↦ λ q. absurd (false≢true q)
    ] e

pub name_only : (name : Name) → FitsName name → Only is_name_byte (name_text name)
name_only name fits = name_bytes (name_text name) fits.spelled

pub name_lacks : (name : Name) (byte : ℕ) → FitsName name → is_name_byte byte ≡ false → Lacks byte (name_text name)
name_lacks name byte fits other = lacks_from is_name_byte byte (name_text name) other (name_only name fits)

name_byte_printable : (b : ℕ) → is_name_byte b ≡ true → is_printable b ≡ true
name_byte_printable b h = grind (arith, nat_tests)

pub name_printable : (name : Name) → FitsName name → IsPrintable (name_text name)
name_printable name fits = only_weaker is_name_byte is_printable (name_text name) name_byte_printable (name_only name fits)
