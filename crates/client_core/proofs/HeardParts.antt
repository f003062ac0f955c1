-- Parts that tell nothing don't count in the text of the resolver's file.
use Rattle.std.proofs.Common.{◌≡◌, ◌<◌, ℕ, suc, List, [], ◌∷◌, ◌++◌, length, get_or, map, take, refl, sym, ap, ◌∙◌, Bool, true, false, cond, arith, subst, append_assoc, append-nil, ltb, eqb}
use Rattle.std.specs.Prelude.{AllPairs, filter, flat_map}
use Rattle.std.proofs.lemmas.List.Elements.{filter-append}
use Rattle.std.proofs.lemmas.List.Sums.{fold-append}
use Rattle.net_types.specs.TextLines.{lines_text}
use Rattle.net_types.specs.declared.interface.Name.{Name}
use Rattle.domain_names.specs.NameText.{is_name}
use Rattle.resolver_text.specs.declared.part.Server.{Server}
use Rattle.resolver_text.specs.Parts.{PartContent}
use Rattle.resolver_text.specs.Order.{family_rank, in_order, is_before, placed}
use Rattle.resolver_text.specs.ResolverText.{SEARCH_LIMIT, SERVER_LIMIT, resolver_text, search_lines, server_line}
use Rattle.resolver_text.specs.Texts.{part_names, part_servers, server_text, unlike}
use Rattle.resolver_text.proofs.OrderedParts.{parts_ordered}

abbrev says : List Server → List (List ℕ) → Bool
says [] [] = false
says [] (name ∷ names) = true
says (server ∷ servers) names = true

-- whether a part tells something
abbrev pub tells : PartContent → Bool
tells part = says part.servers part.names

-- ---- the order

abbrev before2 : (b c y z : ℕ) → Bool
before2 b c y z = cond (eqb b y) (ltb c z) (ltb b y)

abbrev before : (a b c x y z : ℕ) → Bool
before a b c x y z = cond (eqb a x) (before2 b c y z) (ltb a x)

through2 : (b c y z q r : ℕ) → before2 b c y z ≡ true → before2 q r y z ≡ false → before2 b c q r ≡ true
through2 b c y z q r one other = grind (arith, one, other)

-- what comes before one comes before each that doesn't
through : (a b c x y z p q r : ℕ) → before a b c x y z ≡ true → before p q r x y z ≡ false → before a b c p q r ≡ true
through a b c x y z p q r one other = by_case (eqb a x) refl one (eqb p x) refl other
  where
    apart : eqb a p ≡ false → ltb a p ≡ true → before a b c p q r ≡ true
    apart unlike less = ap (λ (s : Bool). cond s (before2 b c q r) (ltb a p)) unlike ∙ less

    by_case : (same : Bool) → eqb a x ≡ same → cond same (before2 b c y z) (ltb a x) ≡ true → (also : Bool) → eqb p x ≡ also
        → cond also (before2 q r y z) (ltb p x) ≡ false → before a b c p q r ≡ true
    by_case true e first true f last =
        let here : eqb a p ≡ true = grind (arith, e, f) in
        ap (λ (s : Bool). cond s (before2 b c q r) (ltb a p)) here ∙ through2 b c y z q r first last
    by_case true e first false f last = apart (grind (arith, e, f, last)) (grind (arith, e, f, last))
    by_case false e first true f last = apart (grind (arith, e, f, first)) (grind (arith, e, f, first))
    by_case false e first false f last = apart (grind (arith, e, f, first, last)) (grind (arith, e, f, first, last))

before_all : (part first other : PartContent) → is_before part first ≡ true → is_before other first ≡ false → is_before part other ≡ true
before_all part first other e f =
    through part.metric part.index.number (family_rank part.family) first.metric first.index.number (family_rank first.family) other.metric other.index.number
    (family_rank other.family) e f

-- ---- a part among ordered ones

abbrev Later : PartContent → List PartContent → Type 0
Later first others = (k : ℕ) (d : PartContent) → k < length others → is_before (get_or others k d) first ≡ false

-- it stands before those that tell something, where it stands before all
placed_first : (part first : PartContent) (others : List PartContent) → is_before part first ≡ true → Later first others
    → placed part (filter tells others) ≡ part ∷ filter tells others
placed_first part first [] e later = refl
placed_first part first (other ∷ others) e later =
    by_case (tells other) (before_all part first other e (later 0 other (omega arith)))
    (placed_first part first others e (λ k d lt. later (suc k) d (omega arith)))
  where
    by_case : (b : Bool) → is_before part other ≡ true → placed part (filter tells others) ≡ part ∷ filter tells others
        → placed part (cond b (other ∷ filter tells others) (filter tells others)) ≡ part ∷ cond b (other ∷ filter tells others) (filter tells others)
    by_case true here rest = ap (λ (s : Bool). cond s (part ∷ other ∷ filter tells others) (other ∷ placed part (filter tells others))) here
    by_case false here rest = rest

-- with a part that tells something, or without one that doesn't
abbrev placed_if : Bool → PartContent → List PartContent → List PartContent
placed_if b part parts = cond b (placed part parts) parts

abbrev InOrder : List PartContent → Type 0
InOrder ordered = AllPairs (λ one other. is_before other one ≡ false) ordered

filter_placed : (part : PartContent) (ordered : List PartContent) → InOrder ordered
    → filter tells (placed part ordered) ≡ placed_if (tells part) part (filter tells ordered)
filter_placed part [] sorted = by_case (tells part)
  where
    by_case : (b : Bool) → cond b (part ∷ []) [] ≡ placed_if b part []
    by_case true = refl
    by_case false = refl
filter_placed part (first ∷ others) sorted =
    by_order (is_before part first) refl (filter_placed part others (λ i j d low high. sorted (suc i) (suc j) d (omega arith) (omega arith)))
  where
    later : Later first others
    later k d lt = sorted 0 (suc k) d (omega arith) (omega arith)

    before_it : is_before part first ≡ true → (t u : Bool)
        → cond t (part ∷ cond u (first ∷ filter tells others) (filter tells others)) (cond u (first ∷ filter tells others) (filter tells others))
        ≡ placed_if t part (cond u (first ∷ filter tells others) (filter tells others))
    before_it e false u = refl
    before_it e true true =
        ap (λ (s : Bool). cond s (part ∷ first ∷ filter tells others) (first ∷ placed part (filter tells others))) (sym e)
    before_it e true false = sym (placed_first part first others e later)

    behind_it : is_before part first ≡ false → (t u : Bool) → filter tells (placed part others) ≡ placed_if t part (filter tells others)
        → cond u (first ∷ filter tells (placed part others)) (filter tells (placed part others))
        ≡ placed_if t part (cond u (first ∷ filter tells others) (filter tells others))
    behind_it e t false rest = rest
    behind_it e false true rest = ap (λ (ps : List PartContent). first ∷ ps) rest
    behind_it e true true rest =
        ap (λ (ps : List PartContent). first ∷ ps) rest
        ∙ ap (λ (s : Bool). cond s (part ∷ first ∷ filter tells others) (first ∷ placed part (filter tells others))) (sym e)

    by_order : (b : Bool) → is_before part first ≡ b → filter tells (placed part others) ≡ placed_if (tells part) part (filter tells others)
        → filter tells (cond b (part ∷ first ∷ others) (first ∷ placed part others)) ≡ placed_if (tells part) part (filter tells (first ∷ others))
    by_order true e rest = before_it e (tells part) (tells first)
    by_order false e rest = behind_it e (tells part) (tells first) rest

-- ---- all parts

order_more : (parts : List PartContent) (part : PartContent) → in_order (parts ++ part ∷ []) ≡ placed part (in_order parts)
order_more parts part = fold-append (λ all one. placed one all) [] parts (part ∷ [])

order_if : (parts : List PartContent) (part : PartContent) (b : Bool) → in_order (parts ++ cond b (part ∷ []) []) ≡ placed_if b part (in_order parts)
order_if parts part true = order_more parts part
order_if parts part false = ap in_order (append-nil parts)

heard_from : (done parts : List PartContent) → filter tells (in_order done) ≡ in_order (filter tells done)
    → filter tells (in_order (done ++ parts)) ≡ in_order (filter tells (done ++ parts))
heard_from done [] same = subst (λ (ps : List PartContent). filter tells (in_order ps) ≡ in_order (filter tells ps)) (sym (append-nil done)) same
heard_from done (part ∷ parts) same =
    subst (λ (ps : List PartContent). filter tells (in_order ps) ≡ in_order (filter tells ps)) (append_assoc done (part ∷ []) parts)
    (heard_from (done ++ part ∷ []) parts
    (ap (filter tells) (order_more done part) ∙ filter_placed part (in_order done) (parts_ordered done).sorted ∙ ap (placed_if (tells part) part) same
    ∙ sym (order_if (filter tells done) part (tells part)) ∙ ap in_order (sym (filter-append tells done (part ∷ [])))))

heard : (parts : List PartContent) → filter tells (in_order parts) ≡ in_order (filter tells parts)
heard parts = heard_from [] parts refl

-- ---- the text

-- what parts say, where those that tell nothing say nothing
flat_heard : (say : PartContent → List (List ℕ)) → ((part : PartContent) → tells part ≡ false → say part ≡ []) → (parts : List PartContent)
    → flat_map say (filter tells parts) ≡ flat_map say parts
flat_heard say none [] = refl
flat_heard say none (part ∷ parts) = by_case (tells part) refl (flat_heard say none parts)
  where
    by_case : (b : Bool) → tells part ≡ b → flat_map say (filter tells parts) ≡ flat_map say parts
        → flat_map say (cond b (part ∷ filter tells parts) (filter tells parts)) ≡ say part ++ flat_map say parts
    by_case true e rest = ap (λ (ts : List (List ℕ)). say part ++ ts) rest
    by_case false e rest = rest ∙ ap (λ (ts : List (List ℕ)). ts ++ flat_map say parts) (sym (none part e))

said_alike : (say : PartContent → List (List ℕ)) → ((part : PartContent) → tells part ≡ false → say part ≡ []) → (parts : List PartContent)
    → flat_map say (in_order (filter tells parts)) ≡ flat_map say (in_order parts)
said_alike say none parts = ap (flat_map say) (sym (heard parts)) ∙ flat_heard say none (in_order parts)

no_names : (servers : List Server) (names : List (List ℕ)) → says servers names ≡ false → filter is_name names ≡ []
no_names [] [] e = refl
no_names [] (name ∷ names) e = cc
no_names (server ∷ servers) names e = cc

no_servers : (name : Name) (servers : List Server) (names : List (List ℕ)) → says servers names ≡ false → map (server_text name) servers ≡ []
no_servers name [] names e = refl
no_servers name (server ∷ servers) names e = cc

pub heard_text : (parts : List PartContent) → resolver_text (filter tells parts) ≡ resolver_text parts
heard_text parts =
    let names : flat_map part_names (in_order (filter tells parts)) ≡ flat_map part_names (in_order parts) =
    said_alike part_names (λ part e. no_names part.servers part.names e) parts in
    let servers : flat_map part_servers (in_order (filter tells parts)) ≡ flat_map part_servers (in_order parts) =
    said_alike part_servers (λ part e. no_servers part.name part.servers part.names e) parts in
    λ i. lines_text (search_lines (take SEARCH_LIMIT (unlike (names i))) ++ map server_line (take SERVER_LIMIT (unlike (servers i))))
