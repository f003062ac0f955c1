-- The text of the resolver's file (resolv.conf(5)).
use Rattle.std.specs.Prelude.{ℕ, List, [], ◌∷◌, ◌++◌, map, take, flat_map, codes}
use Rattle.net_types.specs.TextLines.{Line, lines_text}
use Rattle.resolver_text.specs.Parts.{PartContent}
use Rattle.resolver_text.specs.Order.{in_order}
use Rattle.resolver_text.specs.Texts.{part_names, part_servers, unlike}

-- how many names and servers the text has at most
abbrev pub SEARCH_LIMIT : ℕ
SEARCH_LIMIT = 16

abbrev pub SERVER_LIMIT : ℕ
SERVER_LIMIT = 8

-- ---- the lines

abbrev pub search_line : List (List ℕ) → Line
search_line names = codes "search" ++ flat_map (λ name. 32 ∷ name) names

-- no line where there is no name
abbrev pub search_lines : List (List ℕ) → List Line
search_lines [] = []
search_lines (name ∷ names) = search_line (name ∷ names) ∷ []

abbrev pub server_line : List ℕ → Line
server_line server = codes "nameserver " ++ server

-- ---- the text of parts

abbrev pub names_of : List PartContent → List (List ℕ)
names_of parts = take SEARCH_LIMIT (unlike (flat_map part_names (in_order parts)))

abbrev pub servers_of : List PartContent → List (List ℕ)
servers_of parts = take SERVER_LIMIT (unlike (flat_map part_servers (in_order parts)))

abbrev pub resolver_lines : List PartContent → List Line
resolver_lines parts = search_lines (names_of parts) ++ map server_line (servers_of parts)

-- it is empty where there is neither a name nor a server
abbrev pub resolver_text : List PartContent → List ℕ
resolver_text parts = lines_text (resolver_lines parts)
