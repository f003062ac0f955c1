-- Unlike texts, one text more.
use Rattle.std.proofs.Common.{◌≡◌, min, ◌<◌, ◌≤◌, ℕ, List, [], ◌∷◌, ◌++◌, length, take, map, refl, ap, sym, ◌∙◌, Bool, true, false, cond, not, arith, length-append, length-take, append_assoc}
use Rattle.std.specs.Prelude.{bytes_eq, filter, ◌||◌, ◌≢◌, All, AllPairs}
use Rattle.std.specs.List.{list_any}
use Rattle.std.proofs.lemmas.Slice.Eq.{bytes_eq-Decides}
use Rattle.std.proofs.lemmas.List.{append-nil, length-map, map-append, take-append-le, take_all}
use Rattle.std.proofs.lemmas.List.Elements.{All-cons, filter-append}
use Rattle.std.proofs.lemmas.List.Kept.{AllPairs-cons, AllPairs-filter}
use Rattle.resolver_text.specs.Keeping.{KeepsOn}
use Rattle.resolver_text.specs.Texts.{unlike}
use Rattle.resolver_text.specs.TextLaws.{KeepUnlike}

abbrev pub is_like : List ℕ → List ℕ → Bool
is_like text other = bytes_eq other text

abbrev pub differs : List ℕ → List ℕ → Bool
differs text other = not (bytes_eq other text)

pub like_refl : (text : List ℕ) → bytes_eq text text ≡ true
like_refl text = (bytes_eq-Decides text text).1 refl

like_sym : (text other : List ℕ) (b : Bool) → bytes_eq text other ≡ b → bytes_eq other text ≡ b
like_sym text other true e = rw ((bytes_eq-Decides text other).0 e) (like_refl other)
like_sym text other false e = by_case (bytes_eq other text) refl
  where
    by_case : (b : Bool) → bytes_eq other text ≡ b → bytes_eq other text ≡ false
    by_case false f = f
    by_case true f = let same : other ≡ text = (bytes_eq-Decides other text).0 f in absurd (differ same)
      where
        differ : other ≡ text → ⊥
        differ same =
            let whole : bytes_eq text other ≡ true = (bytes_eq-Decides text other).1 (sym same) in let both : false ≡ true = sym e ∙ whole in absurd cc

-- what is unlike one text is among the others or not
any_filtered : (text one : List ℕ) (texts : List (List ℕ)) → bytes_eq one text ≡ false
    → list_any (is_like text) (filter (differs one) texts) ≡ list_any (is_like text) texts
any_filtered text one [] other = refl
any_filtered text one (first ∷ texts) other = by_case (any_filtered text one texts other) (bytes_eq first one) refl
  where
    by_case : list_any (is_like text) (filter (differs one) texts) ≡ list_any (is_like text) texts
        → (b : Bool) → bytes_eq first one ≡ b → list_any (is_like text) (filter (differs one) (first ∷ texts)) ≡ list_any (is_like text) (first ∷ texts)
    by_case rest true e =
        let same : first ≡ one = (bytes_eq-Decides first one).0 e in
        let no : bytes_eq first text ≡ false = ap (λ t. bytes_eq t text) same ∙ other in
        rw (e, no) rest
    by_case rest false e = rw e (ap (λ b. bytes_eq first text || b) rest)

abbrev with_one : Bool → List (List ℕ) → List ℕ → List (List ℕ)
with_one b texts text = cond b texts (texts ++ text ∷ [])

pub unlike_more : (texts : List (List ℕ)) (text : List ℕ)
    → unlike (texts ++ text ∷ []) ≡ with_one (list_any (is_like text) (unlike texts)) (unlike texts) text
unlike_more [] text = refl
unlike_more (first ∷ texts) text =
    ap (λ rest. first ∷ filter (differs first) rest) (unlike_more texts text) ∙ by_case (list_any (is_like text) (unlike texts)) refl (bytes_eq first text) refl
  where
    by_case : (b : Bool) → list_any (is_like text) (unlike texts) ≡ b → (same : Bool) → bytes_eq first text ≡ same
        → first ∷ filter (differs first) (with_one b (unlike texts) text)
        ≡ with_one (list_any (is_like text) (unlike (first ∷ texts))) (unlike (first ∷ texts)) text
    by_case true any true e = rw e refl
    by_case true any false e = rw (e, any_filtered text first (unlike texts) e, any) refl
    by_case false any true e =
        rw (e, filter-append (differs first) (unlike texts) (text ∷ []), like_sym first text true e) (ap (λ rest. first ∷ rest) (append-nil _))
    by_case false any false e =
        rw (e, any_filtered text first (unlike texts) e, any, filter-append (differs first) (unlike texts) (text ∷ []), like_sym first text false e) refl

module _ (limit : ℕ) (kept texts : List (List ℕ)) (so_far : kept ≡ take limit (unlike texts)) where
  longer : (text : List ℕ) (b : Bool) → limit ≤ length (unlike texts) → take limit (with_one b (unlike texts) text) ≡ take limit (unlike texts)
  longer text true full = refl
  longer text false full = take-append-le limit _ _ full

  -- enough are kept
  enough : (text : List ℕ) → limit ≤ length kept → kept ≡ take limit (unlike (texts ++ text ∷ []))
  enough text full =
      let all : length kept ≡ min limit (length (unlike texts)) = ap length so_far ∙ length-take limit _ in
      let more : limit ≤ length (unlike texts) = omega (arith, all, full) in
      so_far ∙ sym (ap (take limit) (unlike_more texts text) ∙ longer text _ more)

  room : length kept < limit → kept ≡ unlike texts
  room few =
      let all : length kept ≡ min limit (length (unlike texts)) = ap length so_far ∙ length-take limit _ in
      so_far ∙ take_all limit _ (omega (arith, all, few))

  -- it is among those that are kept
  again : (text : List ℕ) → length kept < limit → list_any (is_like text) kept ≡ true → kept ≡ take limit (unlike (texts ++ text ∷ []))
  again text few among =
      let any : list_any (is_like text) (unlike texts) ≡ true = sym (ap (list_any (is_like text)) (room few)) ∙ among in
      so_far ∙ sym (ap (take limit) (unlike_more texts text) ∙ rw any refl)

  -- it is a new one
  anew : (text : List ℕ) → length kept < limit → list_any (is_like text) kept ≡ false → kept ++ text ∷ [] ≡ take limit (unlike (texts ++ text ∷ []))
  anew text few among =
      let whole = room few in
      let any : list_any (is_like text) (unlike texts) ≡ false = sym (ap (list_any (is_like text)) whole) ∙ among in
      let fits : length (kept ++ text ∷ []) ≤ limit = rw length-append (omega (arith, few)) in
      sym (ap (take limit) (unlike_more texts text) ∙ rw (any, ← whole) (take_all limit _ fits))

-- ---- what is kept, with more texts

pub keeps_none : (limit : ℕ) (kept : List (List ℕ)) → KeepsOn limit [] kept kept
keeps_none limit kept texts so_far = rw (append-nil texts) so_far

pub keeps_both : (limit : ℕ) (some more old middle new : List (List ℕ)) → KeepsOn limit some old middle → KeepsOn limit more middle new
    → KeepsOn limit (some ++ more) old new
keeps_both limit some more old middle new first then texts so_far =
    then (texts ++ some) (first texts so_far) ∙ ap (λ t. take limit (unlike t)) (append_assoc texts some more)

pub keeps_full : (limit : ℕ) (more kept : List (List ℕ)) → limit ≤ length kept → KeepsOn limit more kept kept
keeps_full limit [] kept full = keeps_none limit kept
keeps_full limit (text ∷ more) kept full =
    keeps_both limit (text ∷ []) more kept kept kept (λ texts so_far. enough limit kept texts so_far text full) (keeps_full limit more kept full)

pub keeps_old : (limit : ℕ) (text : List ℕ) (kept : List (List ℕ)) → length kept < limit → list_any (is_like text) kept ≡ true
    → KeepsOn limit (text ∷ []) kept kept
keeps_old limit text kept few among texts so_far = again limit kept texts so_far text few among

pub keeps_new : (limit : ℕ) (text : List ℕ) (kept : List (List ℕ)) → length kept < limit → list_any (is_like text) kept ≡ false
    → KeepsOn limit (text ∷ []) kept (kept ++ text ∷ [])
keeps_new limit text kept few among texts so_far = anew limit kept texts so_far text few among

pub any_mapped : {A : Type 0} (f : A → List ℕ) (text : List ℕ) (xs : List A) → list_any (λ x. bytes_eq (f x) text) xs ≡ list_any (is_like text) (map f xs)
any_mapped f text [] = refl
any_mapped f text (x ∷ xs) = ap (λ b. bytes_eq (f x) text || b) (any_mapped f text xs)

module _ {A : Type 0} (view : A → List ℕ) (limit : ℕ) (kept seen : List A) (text : List ℕ) (few : length kept < limit) (same : seen ≡ kept) where
  among_views : (answer b : Bool) → answer ≡ list_any (λ x. bytes_eq (view x) text) seen → answer ≡ b → list_any (is_like text) (map view kept) ≡ b
  among_views answer b given e = sym (any_mapped view text kept) ∙ sym (ap (list_any (λ x. bytes_eq (view x) text)) same) ∙ sym given ∙ e

  few_views : length (map view kept) < limit
  few_views = rw (length-map kept view) few

  -- a text that is among them
  pub told_again : (answer : Bool) → answer ≡ list_any (λ x. bytes_eq (view x) text) seen → answer ≡ true
      → KeepsOn limit (text ∷ []) (map view kept) (map view kept)
  told_again answer given e = keeps_old limit text (map view kept) few_views (among_views answer true given e)

  -- a new one
  pub told_anew : (answer : Bool) → answer ≡ list_any (λ x. bytes_eq (view x) text) seen → answer ≡ false
      → (new : List A) (one : A) → new ≡ kept ++ one ∷ [] → view one ≡ text → KeepsOn limit (text ∷ []) (map view kept) (map view new)
  told_anew answer given e new one pushed is =
      rw (pushed, map-append view kept (one ∷ []), is) (keeps_new limit text (map view kept) few_views (among_views answer false given e))

-- ---- the law

any_unlike : (text : List ℕ) (texts : List (List ℕ)) → list_any (is_like text) (unlike texts) ≡ list_any (is_like text) texts
any_unlike text [] = refl
any_unlike text (first ∷ texts) = by_case (any_unlike text texts) (bytes_eq first text) refl
  where
    by_case : list_any (is_like text) (unlike texts) ≡ list_any (is_like text) texts
        → (b : Bool) → bytes_eq first text ≡ b → list_any (is_like text) (unlike (first ∷ texts)) ≡ list_any (is_like text) (first ∷ texts)
    by_case rest true e = rw e refl
    by_case rest false e = ap (λ b. bytes_eq first text || b) (any_filtered text first (unlike texts) e ∙ rest)

others_differ : (text : List ℕ) (texts : List (List ℕ)) → All (λ other. text ≢ other) (filter (differs text) texts)
others_differ text [] = λ k d within e. absurd (omega (arith, within))
others_differ text (first ∷ texts) = by_case (others_differ text texts) (bytes_eq first text) refl
  where
    by_case : All (λ other. text ≢ other) (filter (differs text) texts) → (b : Bool) → bytes_eq first text ≡ b
        → All (λ other. text ≢ other) (filter (differs text) (first ∷ texts))
    by_case rest true e = rw e rest
    by_case rest false e =
        let new : text ≢ first = λ same. clash ((bytes_eq-Decides first text).1 (sym same)) in
        rw e (All-cons (λ other. text ≢ other) first (filter (differs text) texts) new rest)
      where
        clash : bytes_eq first text ≡ true → ⊥
        clash both = let no : false ≡ true = sym e ∙ both in absurd cc

texts_apart : (texts : List (List ℕ)) → AllPairs (λ one other. one ≢ other) (unlike texts)
texts_apart [] = λ i j d low high. absurd (omega (arith, high))
texts_apart (text ∷ texts) =
    AllPairs-cons (λ one other. one ≢ other) text (filter (differs text) (unlike texts)) (others_differ text (unlike texts))
    (AllPairs-filter (λ one other. one ≢ other) (differs text) (unlike texts) (texts_apart texts))

pub texts_unlike : KeepUnlike
texts_unlike texts = record { apart = texts_apart texts; same = λ text. any_unlike text texts }
