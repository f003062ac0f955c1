-- A text, one line more, and what the parts say, one part more.
use Rattle.std.proofs.Common.{◌≡◌, ◌+◌, ◌<◌, ℕ, List, [], ◌∷◌, ◌++◌, length, take, get_or, map, flat_map, sym, ◌∙◌, codes, append_assoc}
use Rattle.std.proofs.lemmas.List.{append-nil, map-append, take_more}
use Rattle.std.proofs.lemmas.Grind.{flat_map-append}
use Rattle.net_types.specs.TextLines.{ended, lines_text}
use Rattle.resolver_text.specs.Parts.{PartContent}
use Rattle.resolver_text.specs.Order.{in_order}
use Rattle.resolver_text.specs.Texts.{part_names, part_servers, unlike}
use Rattle.resolver_text.specs.ResolverText.{SEARCH_LIMIT, SERVER_LIMIT, resolver_text, search_lines, server_line}

pub server_ended : (old server : List ℕ) → ((old ++ codes "nameserver ") ++ server) ++ 10 ∷ [] ≡ old ++ ended (server_line server)
server_ended old server = append_assoc (old ++ codes "nameserver ") server (10 ∷ []) ∙ append_assoc old (codes "nameserver ") (server ++ 10 ∷ [])

pub server_more : {A : Type 0} (f : A → List ℕ) (xs : List A) (i : ℕ) (x : A) → i < length xs → x ≡ get_or xs i x
    → (old text : List ℕ) → text ≡ old ++ lines_text (map server_line (map f (take i xs)))
    → text ++ ended (server_line (f x)) ≡ old ++ lines_text (map server_line (map f (take (i + 1) xs)))
server_more f xs i x within at old text e =
    rw (
      take_more xs i x within,
      ← at,
      map-append f (take i xs) (x ∷ []),
      map-append server_line (map f (take i xs)) (f x ∷ []),
      flat_map-append ended (map server_line (map f (take i xs))) (server_line (f x) ∷ []),
      append-nil (ended (server_line (f x))),
      e,
    )
    (append_assoc old (lines_text (map server_line (map f (take i xs)))) (ended (server_line (f x))))

pub whole_text : (parts ordered : List PartContent) (first_names first_servers : List (List ℕ)) (middle text : List ℕ)
    → ordered ≡ in_order parts → first_names ≡ take SEARCH_LIMIT (unlike (flat_map part_names ordered))
    → first_servers ≡ take SERVER_LIMIT (unlike (flat_map part_servers ordered))
    → middle ≡ lines_text (search_lines first_names) → text ≡ middle ++ lines_text (map server_line first_servers)
    → text ≡ resolver_text parts
whole_text parts ordered first_names first_servers middle text a b c d e =
    e
    ∙ rw (d, c, b, a)
    (sym
    (flat_map-append ended (search_lines (take SEARCH_LIMIT (unlike (flat_map part_names (in_order parts)))))
    (map server_line (take SERVER_LIMIT (unlike (flat_map part_servers (in_order parts)))))))
