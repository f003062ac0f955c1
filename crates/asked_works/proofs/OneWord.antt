-- A list of one word, or of two.
use Rattle.std.proofs.Common.{◌≡◌, ◌≤◌, ◌<◌, List, [], ◌∷◌, length, map, get_or, sym, ap, ◌∙◌, arith}

pub one_word : {A B : Type 0} (f : A → B) (words : List A) (word : A) (meant : B) → word ≡ get_or words 0 word → 1 ≤ length words → length words < 2
    → f word ≡ meant → map f words ≡ meant ∷ []
one_word f [] word meant first some few same = absurd (omega (arith, some))
one_word f (x ∷ []) word meant first some few same = ap (λ b. b ∷ []) (sym (ap f first) ∙ same)
one_word f (x ∷ y ∷ words) word meant first some few same = absurd (omega (arith, few))

pub two_words : {A B : Type 0} (f : A → B) (words : List A) (one other : A) (first second : B) → one ≡ get_or words 0 one → other ≡ get_or words 1 other
    → 2 ≤ length words → length words < 3 → f one ≡ first → f other ≡ second → map f words ≡ first ∷ second ∷ []
two_words f [] one other first second is_one is_other some few same also = absurd (omega (arith, some))
two_words f (x ∷ []) one other first second is_one is_other some few same also = absurd (omega (arith, some))
two_words f (x ∷ y ∷ []) one other first second is_one is_other some few same also =
    λ i. (sym (ap f is_one) ∙ same) i ∷ (sym (ap f is_other) ∙ also) i ∷ []
two_words f (x ∷ y ∷ z ∷ words) one other first second is_one is_other some few same also = absurd (omega (arith, few))
