-- Taking back what was appended.
use Rattle.std.proofs.Common.{◌≡◌, ◌≤◌, ℕ, List, ◌++◌, length, take, sym, ap, ◌∙◌}
use Rattle.std.proofs.lemmas.List.{take-append-le}
use Rattle.std.proofs.Math.Seq.{take-append_seam}

-- a list that began as another, cut to the length of that
pub cut_back : {A : Type 0} (n : ℕ) (old more new rest : List A) → n ≡ length old → new ++ rest ≡ old ++ more → length old ≤ length new → take n new ≡ old
cut_back n old more new rest is e le = rw is (sym (take-append-le (length old) new rest le) ∙ ap (take (length old)) e ∙ take-append_seam old more)
