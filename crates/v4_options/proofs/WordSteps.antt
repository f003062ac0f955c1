-- A word that the pieces of a value are laid into, one after another.
use Rattle.std.proofs.Common.{◌≡◌, ◌≢◌, ℕ, ◌+◌, ◌<◌, ◌≤◌, List, [], ◌∷◌, ◌++◌, length, take, sym, ap, ◌∙◌, arith}
use Rattle.std.specs.List.{flat_map}
use Rattle.std.proofs.lemmas.List.{length-append, length-take-le, take_all, append-nil}

module _ (word : List ℕ) (filled : ℕ) (left : List (List ℕ)) (total : List ℕ)
    (so_far : take filled word ++ flat_map (λ piece. piece) left ≡ total) where
  pub no_room : (piece : List ℕ) (next : List (List ℕ)) → left ≡ piece ∷ next → filled ≤ length word → 4 < filled + length piece → length total ≢ 4
  no_room piece next taken within high four =
      let rest : List ℕ = flat_map (λ p. p) next in
      let all : take filled word ++ (piece ++ rest) ≡ total = rw taken at so_far in
      let long : length (take filled word ++ (piece ++ rest)) ≡ 4 = ap length all ∙ four in
      omega (arith, high, long, length-append (take filled word) (piece ++ rest), length-append piece rest, length-take-le filled word within)

  pub filled_up : left ≡ [] → length word ≤ filled → word ≡ total
  filled_up none full =
      let all : take filled word ++ [] ≡ total = rw none at so_far in
      sym (take_all filled word full) ∙ (sym (append-nil (take filled word)) ∙ all)
