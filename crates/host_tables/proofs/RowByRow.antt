-- Sets of rows, as one row after another leaves them or joins.
use Rattle.std.proofs.Common.{ℕ, ◌≡◌, ◌+◌, ◌<◌, Bool, true, false, cond, not, ◌||◌, ◌&&◌, List, [], ◌∷◌, length, get_or, take, refl, sym, ap, ◌∙◌}
use Rattle.std.proofs.lemmas.List.{take_more}
use Rattle.std.proofs.lemmas.List.Folds.{list_any-append}
use Rattle.std.specs.List.{list_any}
use Rattle.std.specs.Ordering.{is_eq}
use Rattle.std.specs.BTreeMap.{is_at}
use Rattle.world.specs.declared.rows.HostRow.{HostRow}
use Rattle.world.specs.RowOrder.{row_cmp, has_row}
use Rattle.host_tables.specs.Bringings.{contends, stands, stands_at, stands_for}
use Rattle.host_tables.proofs.Contending.{equal_turned, row_is}

or_none : (a : Bool) → (a || false) ≡ a
or_none true = refl
or_none false = refl

-- one more of a list may pass
any_more : (p : HostRow → Bool) (rows : List HostRow) (i : ℕ) (d : HostRow) → i < length rows
    → list_any p (take (i + 1) rows) ≡ (list_any p (take i rows) || p (get_or rows i d))
any_more p rows i d lt =
    ap (list_any p) (take_more rows i d lt) ∙ list_any-append p (take i rows) (get_or rows i d ∷ [])
    ∙ ap (λ (b : Bool). list_any p (take i rows) || b) (or_none (p (get_or rows i d)))

shared : (a c s : Bool) → ((a || c) && s) ≡ ((a && s) || (c && s))
shared true true true = refl
shared true true false = refl
shared true false true = refl
shared true false false = refl
shared false c s = refl

stands_more : (targets rows : List HostRow) (i : ℕ) (d q : HostRow) → i < length targets
    → stands_for (take (i + 1) targets) rows q ≡ (stands_for (take i targets) rows q || stands_at (get_or targets i d) rows q)
stands_more targets rows i d q lt =
    ap (λ (b : Bool). b && stands rows q) (any_more (contends q) targets i d lt)
    ∙ shared (list_any (contends q) (take i targets)) (contends q (get_or targets i d)) (stands rows q)

more_again : (w f e : Bool) → ((w || f) || e) ≡ (w || (f || e))
more_again true f e = refl
more_again false f e = refl

-- the head of one target after those before
pub heads_more : (targets rows : List HostRow) (i : ℕ) (d q : HostRow) (was now new : Bool) → i < length targets
    → now ≡ (was || stands_for (take i targets) rows q) → new ≡ (now || stands_at (get_or targets i d) rows q)
    → new ≡ (was || stands_for (take (i + 1) targets) rows q)
heads_more targets rows i d q was now new lt so_far step =
    step ∙ ap (λ (b : Bool). b || stands_at (get_or targets i d) rows q) so_far
    ∙ more_again was (stands_for (take i targets) rows q) (stands_at (get_or targets i d) rows q)
    ∙ ap (λ (b : Bool). was || b) (sym (stands_more targets rows i d q lt))

less_here : (b h a r : Bool) → (not (a && r) && (b && not (a && h))) ≡ (b && not (a && (h || r)))
less_here true true true true = refl
less_here true true true false = refl
less_here true false true true = refl
less_here true false true false = refl
less_here true h false r = refl
less_here false h true true = refl
less_here false h true false = refl
less_here false h false r = refl

more_here : (b h a r : Bool) → ((a && r) || (b || (a && h))) ≡ (b || (a && (h || r)))
more_here true h true true = refl
more_here true h true false = refl
more_here true h false r = refl
more_here false true true true = refl
more_here false true true false = refl
more_here false false true true = refl
more_here false false true false = refl
more_here false h false r = refl

-- one bringing after those before
pub taken_more : (rows : List HostRow) (i : ℕ) (d q : HostRow) (here e was now new : Bool) → i < length rows
    → now ≡ (was && not (here && has_row (take i rows) q)) → new ≡ (not e && now) → e ≡ (here && is_eq (row_cmp q (get_or rows i d)))
    → new ≡ (was && not (here && has_row (take (i + 1) rows) q))
taken_more rows i d q here e was now new lt so_far step it =
    step ∙ ap (λ (b : Bool). not b && now) it ∙ ap (λ (b : Bool). not (here && is_eq (row_cmp q (get_or rows i d))) && b) so_far
    ∙ less_here was (has_row (take i rows) q) here (is_eq (row_cmp q (get_or rows i d)))
    ∙ ap (λ (b : Bool). was && not (here && b)) (sym (any_more (is_at (row_cmp q)) rows i d lt))

pub brought_more : (rows : List HostRow) (i : ℕ) (d q : HostRow) (here e was now new : Bool) → i < length rows
    → now ≡ (was || (here && has_row (take i rows) q)) → new ≡ (e || now) → e ≡ (here && is_eq (row_cmp q (get_or rows i d)))
    → new ≡ (was || (here && has_row (take (i + 1) rows) q))
brought_more rows i d q here e was now new lt so_far step it =
    step ∙ ap (λ (b : Bool). b || now) it ∙ ap (λ (b : Bool). (here && is_eq (row_cmp q (get_or rows i d))) || b) so_far
    ∙ more_here was (has_row (take i rows) q) here (is_eq (row_cmp q (get_or rows i d)))
    ∙ ap (λ (b : Bool). was || (here && b)) (sym (any_more (is_at (row_cmp q)) rows i d lt))

-- ---- one head

pub more_one : (w c e : Bool) → c ≡ e → (e || w) ≡ (w || c)
more_one true c true same = refl
more_one true c false same = refl
more_one false c true same = sym same
more_one false c false same = sym same

pub more_none : (w c : Bool) → c ≡ false → w ≡ (w || c)
more_none true c none = refl
more_none false c none = sym none

-- ---- rows themselves, after those before

or_here : (e w : Bool) → cond e true w ≡ (e || w)
or_here true w = refl
or_here false w = refl

not_here : (e w : Bool) → cond e false w ≡ (not e && w)
not_here true w = refl
not_here false w = refl

pub removed_more : (rows : List HostRow) (i : ℕ) (d q : HostRow) (was now new : Bool) → i < length rows
    → now ≡ (was && not (has_row (take i rows) q)) → new ≡ (not (is_eq (row_cmp q (get_or rows i d))) && now)
    → new ≡ (was && not (has_row (take (i + 1) rows) q))
removed_more rows i d q was now new lt so_far step = taken_more rows i d q true (is_eq (row_cmp q (get_or rows i d))) was now new lt so_far step refl

pub added_more : (rows : List HostRow) (i : ℕ) (d q : HostRow) (was now new : Bool) → i < length rows
    → now ≡ (was || has_row (take i rows) q) → new ≡ (is_eq (row_cmp q (get_or rows i d)) || now) → new ≡ (was || has_row (take (i + 1) rows) q)
added_more rows i d q was now new lt so_far step = brought_more rows i d q true (is_eq (row_cmp q (get_or rows i d))) was now new lt so_far step refl

pub dropped_more : (rows : List HostRow) (i : ℕ) (d q : HostRow) (was now new : Bool) → i < length rows
    → now ≡ (was && not (has_row (take i rows) q)) → new ≡ cond (is_eq (row_cmp (get_or rows i d) q)) false now
    → new ≡ (was && not (has_row (take (i + 1) rows) q))
dropped_more rows i d q was now new lt so_far step =
    removed_more rows i d q was now new lt so_far
    (step ∙ not_here (is_eq (row_cmp (get_or rows i d) q)) now ∙ ap (λ (b : Bool). not b && now) (equal_turned (get_or rows i d) q))

-- ---- rows that others lack

only_if : (h e : Bool) → (e ≡ true → h ≡ false) → e ≡ (not h && e)
only_if true true f = f refl
only_if true false f = refl
only_if false e f = refl

off_if : (h e : Bool) → (e ≡ true → h ≡ true) → false ≡ (not h && e)
off_if true e f = refl
off_if false true f = f refl
off_if false false f = refl

module _ (others rows : List HostRow) (i : ℕ) (d q : HostRow) (was now : Bool) (lt : i < length rows)
    (so_far : now ≡ (was || (not (has_row others q) && has_row (take i rows) q))) where
  abbrev row : HostRow
  row = get_or rows i d

  abbrev is_it : Bool
  is_it = is_eq (row_cmp q row)

  answers : is_it ≡ true → has_row others q ≡ has_row others row
  answers e = ap (has_row others) (row_is q row e)

  pub put_more : (new : Bool) → has_row others row ≡ false → new ≡ cond (is_eq (row_cmp row q)) true now
      → new ≡ (was || (not (has_row others q) && has_row (take (i + 1) rows) q))
  put_more new lacks step =
      brought_more rows i d q (not (has_row others q)) is_it was now new lt so_far
      (step ∙ or_here (is_eq (row_cmp row q)) now ∙ ap (λ (b : Bool). b || now) (equal_turned row q))
      (only_if (has_row others q) is_it (λ e. answers e ∙ lacks))

  pub left_out : has_row others row ≡ true → now ≡ (was || (not (has_row others q) && has_row (take (i + 1) rows) q))
  left_out has = brought_more rows i d q (not (has_row others q)) false was now now lt so_far refl (off_if (has_row others q) is_it (λ e. answers e ∙ has))
