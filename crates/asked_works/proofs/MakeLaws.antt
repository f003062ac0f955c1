-- The words of `make`: what is read is what they say, and what they say is read.
use Rattle.std.proofs.Common.{◌≡◌, ℕ, ◌≤◌, true, false, cond, List, [], ◌∷◌, Option, Some, None, refl, sym, ap, ◌∙◌, arith, codes, bytes_eq, leb}
use Rattle.std.specs.Fmt.{decimal}
use Rattle.std.proofs.lemmas.Bool.{leb-true, le-leb}
use Rattle.std.proofs.lemmas.Slice.Eq.{bytes_eq-Decides}
use Rattle.net_types.specs.Reads.{Reads}
use Rattle.net_types.proofs.ReadsLaws.{same_range, guard_reads, some_same}
use Rattle.net_types.proofs.NumberLaws.{number_reads}
use Rattle.asked_works.specs.Words.{AsksMake}
use Rattle.asked_works.specs.MakeReading.{rounds_at, make_at, IsMakeRead}

abbrev are_rounds : ℕ → Type 0
are_rounds rounds = (1 ≤ rounds) × (rounds ≤ 100)

rounds_reads : Reads decimal are_rounds rounds_at
unfolding rounds_at
rounds_reads =
    same_range are_rounds (λ n is. let high = is.1 in (omega arith, le-leb _ _ is.0)) (λ n is. let below = is.0 in (leb-true _ _ is.1, omega arith))
    (guard_reads (λ n. leb 1 n) (number_reads 101 (omega arith)))

make_sound : (words : List (List ℕ)) (rounds : ℕ) → make_at words ≡ Some rounds → AsksMake words rounds
unfolding make_at
make_sound [] rounds e = cc
make_sound (a ∷ []) rounds e = cc
make_sound (a ∷ b ∷ c ∷ words) rounds e = cc
make_sound (work ∷ word ∷ []) rounds e =
    elim (bytes_eq work (codes "make")) as
    (λ b. bytes_eq work (codes "make") ≡ b → cond b (rounds_at word) None ≡ Some rounds → AsksMake (work ∷ word ∷ []) rounds) [
      | true ↦ λ t q.
          let read = rounds_reads.sound word rounds q in
          record {
            says = ap (λ w. w ∷ word ∷ []) ((bytes_eq-Decides work (codes "make")).0 t) ∙ ap (λ w. codes "make" ∷ w ∷ []) read.0;
            some = read.1.0;
            few = read.1.1;
          }
      | false ↦ λ t q. let never : ⊥ = cc in absurd never
    ] refl e

make_whole : (words : List (List ℕ)) (rounds : ℕ) → AsksMake words rounds → make_at words ≡ Some rounds
unfolding make_at
make_whole words rounds asks = rw asks.says (rounds_reads.whole rounds (asks.some, asks.few))

-- what is read says what the words ask
pub make_read : (words : List (List ℕ)) (found : Option ℕ) → found ≡ make_at words → IsMakeRead words found
make_read words (Some rounds) e = make_sound words rounds (sym e)
make_read words None e = λ rounds asks. let both : None ≡ Some rounds = e ∙ make_whole words rounds asks in cc

-- words say one number of rounds
pub rounds_are_one : (words : List (List ℕ)) (one other : ℕ) → AsksMake words one → AsksMake words other → one ≡ other
rounds_are_one words one other first second = some_same (sym (make_whole words one first) ∙ make_whole words other second)
