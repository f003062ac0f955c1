-- Names as far as they were read.
use Rattle.std.proofs.Common.{◌≡◌, ◌≢◌, ℕ, ◌<◌, ◌≤◌, List, [], ◌∷◌, ◌++◌, length, map, Option, Some, refl, sym, ap, ◌∙◌, append_assoc, arith}
use Rattle.std.specs.Str.{IsUtf8}
use Rattle.std.proofs.lemmas.List.{append-nil}
use Rattle.domain_names.specs.DomainName.{name_of}
use Rattle.domain_names.specs.CompressedName.{IsNameAt, NoNameAt, AreNames, NoNames}
use Rattle.domain_names.proofs.NameBytes.{name_utf8}
use Rattle.domain_names.proofs.Pieces.{forward, one_spelling}

pub name_is_text : (value : List ℕ) (at : ℕ) (text : List ℕ) (next : ℕ) → IsNameAt value at text next → IsUtf8 text
name_is_text value at text next is = name_utf8 is.labels text is.named

pub name_forward : (value : List ℕ) (at : ℕ) (text : List ℕ) (next : ℕ) → IsNameAt value at text next → (at < next) × (next ≤ length value)
name_forward value at text next is = forward is.spelled

abbrev some_text : List ℕ → Option (List ℕ)
some_text text = Some text

-- one name stands at a place
pub one_name : (value : List ℕ) (at : ℕ) (text other : List ℕ) (m n : ℕ) → IsNameAt value at text m → IsNameAt value at other n → (text ≡ other) × (m ≡ n)
one_name value at text other m n is also =
    let same = one_spelling is.spelled also.spelled in
    let texts : some_text text ≡ some_text other = sym is.named ∙ ap name_of same.0 ∙ also.named in
    (cc, same.1)

-- The names that were read; those from this place on come after them.
pub record ReadNames (value : List ℕ) (done : List (List ℕ)) (at : ℕ) : Type 0 where
  pub within : at ≤ length value
  pub found : (texts : List (List ℕ)) → AreNames value at texts → AreNames value 0 (done ++ texts)
  pub only : (all : List (List ℕ)) → AreNames value 0 all → (texts : List (List ℕ)) × AreNames value at texts × (all ≡ done ++ texts)

-- the same, where what was read wasn't kept
pub record WalkedNames (value : List ℕ) (at : ℕ) : Type 0 where
  pub done : List (List ℕ)
  pub read : ReadNames value done at

pub no_name_yet : (value : List ℕ) → ReadNames value [] 0
no_name_yet value = record { within = omega arith; found = λ texts are. are; only = λ all are. (all, are, refl) }

module _ (value : List ℕ) (done : List (List ℕ)) (at : ℕ) (r : ReadNames value done at) where
  pub one_more_name : (text : List ℕ) (next : ℕ) → IsNameAt value at text next → ReadNames value (done ++ text ∷ []) next
  one_more_name text next is = record {
    within = (forward is.spelled).1;
    found = λ texts are. rw append_assoc (r.found (text ∷ texts) (next, is, are));
    only = λ all are. let before = r.only all are in follows all before.0 before.1 before.2;
  }
    where
      follows : (all texts : List (List ℕ)) → AreNames value at texts → all ≡ done ++ texts
          → (others : List (List ℕ)) × AreNames value next others × (all ≡ (done ++ text ∷ []) ++ others)
      follows all [] ended same = let on = forward is.spelled in absurd (omega (arith, on.0, on.1, ended))
      follows all (other ∷ others) are same =
          let one = one_name value at text other next are.0 is are.1 in
          (others, rw (← one.1) at are.2, same ∙ ap (λ (t : List ℕ). done ++ t ∷ others) (sym one.0) ∙ sym (append_assoc done (text ∷ []) others))

  pub no_name_more : NoNameAt value at → at < length value → NoNames value
  no_name_more none within texts some are = let before = r.only texts are in ended before.0 before.1
    where
      ended : (others : List (List ℕ)) → AreNames value at others → ⊥
      ended [] end = absurd (omega arith)
      ended (text ∷ others) are = none text are.0 are.1

  pub names_whole : length value ≤ at → AreNames value 0 done
  names_whole ended = let end : at ≡ length value = omega (arith, r.within) in rw append-nil at (r.found [] end)

pub one_more_walked : (value : List ℕ) (at : ℕ) → WalkedNames value at → (text : List ℕ) (next : ℕ) → IsNameAt value at text next → WalkedNames value next
one_more_walked value at w text next is = record { done = w.done ++ text ∷ []; read = one_more_name value w.done at w.read text next is }

pub names_some : {X : Type 0} (text_of : X → List ℕ) (value : List ℕ) (names : List X) → 0 < length value → AreNames value 0 (map text_of names) → names ≢ []
names_some text_of value [] filled are e = absurd (omega arith)
names_some text_of value (name ∷ names) filled are e = absurd cc

pub nothing_named : (value : List ℕ) → length value ≡ 0 → NoNames value
nothing_named value empty [] some are = some refl
nothing_named value empty (text ∷ texts) some are = let on = forward are.1.spelled in omega (arith, on.0, on.1)
