-- The values kept so far, one code after another.
use Rattle.std.proofs.Common.{◌≡◌, ℕ, ◌+◌, ◌<◌, List, [], ◌++◌, length, take, get_or, sym, ◌∙◌, ap}
use Rattle.std.specs.List.{flat_map}
use Rattle.std.proofs.lemmas.List.{flat_map_more, take_more}
use Rattle.lease_text.specs.Leases.{ValueContent}

pub one_more : (f : ℕ → List ValueContent) (codes : List ℕ) (i : ℕ) (some more : List ValueContent) → i < length codes
    → some ≡ flat_map f (take i codes) → more ≡ some ++ f (get_or codes i 0) → more ≡ flat_map f (take (i + 1) codes)
one_more f codes i some more below so_far adds =
    adds ∙ ap (λ (s : List ValueContent). s ++ f (get_or codes i 0)) so_far ∙ flat_map_more f [] (take i codes) (get_or codes i 0)
    ∙ ap (flat_map f) (sym (take_more codes i 0 below))
