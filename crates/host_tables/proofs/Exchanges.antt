-- The sets of the rows of all places, as one place brings other rows.
use Rattle.std.proofs.Common.{ℕ, zero, suc, ◌≡◌, ◌<◌, Bool, true, false, not, ◌||◌, ◌&&◌, List, [], ◌∷◌, ◌++◌, nat_eq, length, get_or, set, refl, sym, ap, ap₂, ◌∙◌, arith}
use Rattle.std.proofs.lemmas.Bool.{false≢true, and_parts, eqb-true}
use Rattle.std.proofs.lemmas.Bool.Decides.{nat_tests}
use Rattle.std.proofs.lemmas.List.Folds.{list_any-append}
use Rattle.std.specs.List.{list_any}
use Rattle.std.specs.BTreeMap.{is_at}
use Rattle.std.specs.Global.{Vec}
use Rattle.net_types.proofs.CaseLaws.{split}
use Rattle.world.specs.declared.rows.HostRow.{HostRow}
use Rattle.world.specs.RowOrder.{row_cmp, has_row, rows_beyond}
use Rattle.host_tables.specs.declared.bringing.Bringing.{Bringing}
use Rattle.host_tables.specs.declared.union.Diff.{Diff}
use Rattle.host_tables.specs.declared.union.Union.{Union}
use Rattle.host_model.specs.Precedence.{outranks, is_kept, all_rows, wanted_of}
use Rattle.host_tables.specs.Bringings.{contends, has_bringing, rows_in, stands}
use Rattle.host_tables.specs.Unions.{AddsRows, AreHeads, Brings, Exchanged, RemovesRows, TakesOut, Unites}
use Rattle.host_model.proofs.HostTableRows.{same_rows, has_filter, filter_in_order}
use Rattle.host_tables.proofs.WantedRows.{wanted_has, wanted_sorted}
use Rattle.host_tables.proofs.Contending.{or_is, or_more, off_last, one_answer, passed_among, passed_alike, contends_turned, contending, outranks_is}
use Rattle.host_tables.proofs.Heads.{Brought, bringer, row_brought}

-- ---- all at once

set_at : (places : List (List HostRow)) (place : ℕ) (rows : List HostRow) → place < length places → get_or (set places place rows) place [] ≡ rows
set_at [] place rows lt = absurd (omega arith)
set_at (x ∷ places) zero rows lt = refl
set_at (x ∷ places) (suc k) rows lt = set_at places k rows (omega arith)

suc_apart : (m k : ℕ) → nat_eq (suc m) (suc k) ≡ false → nat_eq m k ≡ false
suc_apart m k apart = grind (arith, nat_tests)

set_apart : (places : List (List HostRow)) (place at : ℕ) (rows : List HostRow) → nat_eq at place ≡ false
    → get_or (set places place rows) at [] ≡ get_or places at []
set_apart [] place at rows apart = refl
set_apart (x ∷ places) zero zero rows apart = let never : true ≡ false = apart in cc
set_apart (x ∷ places) zero (suc m) rows apart = refl
set_apart (x ∷ places) (suc k) zero rows apart = refl
set_apart (x ∷ places) (suc k) (suc m) rows apart = set_apart places k m rows (suc_apart m k apart)

replaced_here : (h n : Bool) → ((h && not (true && h)) || (true && n)) ≡ n
replaced_here true n = refl
replaced_here false n = refl

replaced_apart : (b h n : Bool) → ((b && not (false && h)) || (false && n)) ≡ b
replaced_apart true h n = refl
replaced_apart false h n = refl

-- what the bringings are where this place brings other rows
pub exchanged_bringings : (places : List (List HostRow)) (place : ℕ) (before after : List HostRow) (was now new : HostRow → ℕ → Bool) → place < length places
    → before ≡ get_or places place []
    → ((q : HostRow) (at : ℕ) → was q at ≡ has_row (get_or places at []) q)
    → ((q : HostRow) (at : ℕ) → now q at ≡ (was q at && not (nat_eq at place && has_row before q)))
    → ((q : HostRow) (at : ℕ) → new q at ≡ (now q at || (nat_eq at place && has_row after q)))
    → (q : HostRow) (at : ℕ) → new q at ≡ has_row (get_or (set places place after) at []) q
exchanged_bringings places place before after was now new lt is whole out come q at =
    come q at ∙ ap (λ (b : Bool). b || (nat_eq at place && has_row after q)) (out q at)
    ∙ split (nat_eq at place)
    (λ here. ap (λ (e : Bool). (was q at && not (e && has_row before q)) || (e && has_row after q)) here
    ∙ ap (λ (b : Bool). (b && not (true && has_row before q)) || (true && has_row after q))
    (whole q at ∙ ap (λ (n : ℕ). has_row (get_or places n []) q) (eqb-true at place here) ∙ ap (λ (rows : List HostRow). has_row rows q) (sym is))
    ∙ replaced_here (has_row before q) (has_row after q)
    ∙ ap (λ (rows : List HostRow). has_row rows q) (sym (set_at places place after lt))
    ∙ ap (λ (n : ℕ). has_row (get_or (set places place after) n []) q) (sym (eqb-true at place here)))
    (λ apart. ap (λ (e : Bool). (was q at && not (e && has_row before q)) || (e && has_row after q)) apart
    ∙ replaced_apart (was q at) (has_row before q) (has_row after q) ∙ whole q at
    ∙ ap (λ (rows : List HostRow). has_row rows q) (sym (set_apart places place at after apart)))

-- ---- the rows of all places

all_has : (rows : List HostRow) (places : List (List HostRow)) (q : HostRow)
    → has_row (all_rows (rows ∷ places)) q ≡ (has_row rows q || has_row (all_rows places) q)
all_has rows places q = list_any-append (is_at (row_cmp q)) rows (all_rows places)

at_some : (places : List (List HostRow)) (q : HostRow) (at : ℕ) → has_row (get_or places at []) q ≡ true → has_row (all_rows places) q ≡ true
at_some [] q at has = has
at_some (rows ∷ places) q zero has = all_has rows places q ∙ or_is (has_row rows q) (has_row (all_rows places) q) has
at_some (rows ∷ places) q (suc k) has = all_has rows places q ∙ or_more (has_row rows q) (has_row (all_rows places) q) (at_some places q k has)

record AtPlace (places : List (List HostRow)) (q : HostRow) : Type 0 where
  pub at : ℕ
  pub has : has_row (get_or places at []) q ≡ true

some_place : (places : List (List HostRow)) (q : HostRow) → has_row (all_rows places) q ≡ true → AtPlace places q
some_place [] q has = absurd (false≢true has)
some_place (rows ∷ places) q has =
    split (has_row rows q) (λ here. record { at = 0; has = here })
    (λ none.
    let more : AtPlace places q = some_place places q (sym (all_has rows places q ∙ ap (λ (b : Bool). b || has_row (all_rows places) q) none) ∙ has) in
    record { at = suc more.at; has = more.has })

-- the bringings' rows are those of all places
pub same_rows_brought : (places : List (List HostRow)) (bs : List Bringing) → ((q : HostRow) (at : ℕ) → has_bringing bs q at ≡ has_row (get_or places at []) q)
    → (q : HostRow) → has_row (rows_in bs) q ≡ has_row (all_rows places) q
same_rows_brought places bs whole q =
    one_answer (has_row (rows_in bs) q) (has_row (all_rows places) q)
    (λ has. let by : Brought bs q = bringer bs q has in at_some places q by.place (sym (whole q by.place) ∙ by.has))
    (λ has. let some : AtPlace places q = some_place places q has in row_brought bs q some.at (whole q some.at ∙ some.has))

pub same_stands : (xs ys : List HostRow) → ((q : HostRow) → has_row xs q ≡ has_row ys q) → (q : HostRow) → stands xs q ≡ stands ys q
same_stands xs ys same q =
    ap (λ (b : Bool). not b && has_row xs q) (passed_alike (λ other. outranks other q) xs ys (λ row passes. same row))
    ∙ ap (λ (b : Bool). is_kept ys q && b) (same q)

-- ---- what stands for other targets stays

exchanged_has : (places : List (List HostRow)) (place : ℕ) (after : List HostRow) (q : HostRow) → place < length places
    → has_row (get_or places place []) q ≡ false → has_row after q ≡ false → has_row (all_rows (set places place after)) q ≡ has_row (all_rows places) q
exchanged_has [] place after q lt none out = absurd (omega arith)
exchanged_has (rows ∷ places) zero after q lt none out =
    all_has after places q ∙ ap (λ (b : Bool). b || has_row (all_rows places) q) (out ∙ sym none) ∙ sym (all_has rows places q)
exchanged_has (rows ∷ places) (suc k) after q lt none out =
    all_has rows (set places k after) q ∙ ap (λ (b : Bool). has_row rows q || b) (exchanged_has places k after q (omega arith) none out)
    ∙ sym (all_has rows places q)

-- what contends with none of these isn't one of them
not_among : (rows : List HostRow) (q o : HostRow) → contends q o ≡ true → list_any (contends q) rows ≡ false → has_row rows o ≡ false
not_among rows q o same none =
    split (has_row rows o) (λ has. absurd (false≢true (sym none ∙ passed_among (contends q) rows o has same))) (λ no. no)

stays_standing : (places : List (List HostRow)) (place : ℕ) (before after : List HostRow) (q : HostRow) → place < length places
    → before ≡ get_or places place []
    → list_any (contends q) before ≡ false → list_any (contends q) after ≡ false
    → stands (all_rows places) q ≡ stands (all_rows (set places place after)) q
stays_standing places place before after q lt is none out =
    let same : (o : HostRow) → contends q o ≡ true → has_row (all_rows places) o ≡ has_row (all_rows (set places place after)) o =
    λ o one. sym
    (exchanged_has places place after o lt (ap (λ (rows : List HostRow). has_row rows o) (sym is) ∙ not_among before q o one none)
    (not_among after q o one out))
    in
    ap (λ (b : Bool). not b && has_row (all_rows places) q)
    (passed_alike (λ other. outranks other q) (all_rows places) (all_rows (set places place after))
    (λ o above. same o (contends_turned o q (and_parts (contends o q) _ (sym (outranks_is o q) ∙ above)).0)))
    ∙ ap (λ (b : Bool). is_kept (all_rows (set places place after)) q && b) (same q (contending q q refl))

beyond_is : (f g c d : Bool) → (c ≡ false → d ≡ false → f ≡ g) → (not ((c && g) || (d && g)) && ((c && f) || (d && f))) ≡ (not g && f)
beyond_is true true true d same = refl
beyond_is true true false true same = refl
beyond_is true true false false same = refl
beyond_is true false true true same = refl
beyond_is true false true false same = refl
beyond_is true false false true same = refl
beyond_is true false false false same = absurd (false≢true (sym (same refl refl)))
beyond_is false g true true same = off_last (not (g || g)) false refl ∙ sym (off_last (not g) false refl)
beyond_is false g true false same = off_last (not (g || false)) false refl ∙ sym (off_last (not g) false refl)
beyond_is false g false true same = off_last (not g) false refl ∙ sym (off_last (not g) false refl)
beyond_is false g false false same = sym (off_last (not g) false refl)

updated_is : (f g : Bool) → ((f && not (not g && f)) || (not f && g)) ≡ g
updated_is true true = refl
updated_is true false = refl
updated_is false true = refl
updated_is false false = refl

-- the steps of an exchange
pub record ExchangeSteps (place : ℕ) (before after : List HostRow) (old out new : Union) (stood stand lacks wanted : Vec HostRow) (diff : Diff) : Type 0 where
  pub heads_before : AreHeads before after (rows_in old.brought.items) stood.items
  pub takes_out : TakesOut place before old out
  pub brings : Brings place after out new
  pub heads_after : AreHeads before after (rows_in new.brought.items) stand.items
  pub gone : diff.gone.items ≡ rows_beyond stand.items stood.items
  pub come : diff.come.items ≡ rows_beyond stood.items stand.items
  pub removes : RemovesRows diff.gone.items new.wanted.items lacks.items
  pub adds : AddsRows diff.come.items lacks.items wanted.items

module _ (place : ℕ) (before after : List HostRow) (old out new : Union) (stood stand lacks wanted : Vec HostRow) (diff : Diff)
    (steps : ExchangeSteps place before after old out new stood stand lacks wanted diff)
    (places : List (List HostRow)) (lt : place < length places) (is : before ≡ get_or places place []) (unites : Unites places old) where
  abbrev later : List (List HostRow)
  later = set places place after

  wholly : (q : HostRow) (at : ℕ) → has_bringing new.brought.items q at ≡ has_row (get_or later at []) q
  wholly =
      exchanged_bringings places place before after (has_bringing old.brought.items) (has_bringing out.brought.items)
      (has_bringing new.brought.items) lt is unites.brought
      steps.takes_out.brought steps.brings.brought

  module _ (q : HostRow) where
    abbrev was : Bool
    was = stands (all_rows places) q

    abbrev will : Bool
    will = stands (all_rows later) q

    abbrev near : Bool
    near = list_any (contends q) before

    abbrev close : Bool
    close = list_any (contends q) after

    stood_is : has_row stood.items q ≡ ((near && was) || (close && was))
    stood_is =
        steps.heads_before.has q ∙ ap (λ (s : Bool). (near && s) || (close && s))
        (same_stands (rows_in old.brought.items) (all_rows places) (same_rows_brought places old.brought.items unites.brought) q)

    stand_is : has_row stand.items q ≡ ((near && will) || (close && will))
    stand_is =
        steps.heads_after.has q ∙ ap (λ (s : Bool). (near && s) || (close && s))
        (same_stands (rows_in new.brought.items) (all_rows later) (same_rows_brought later new.brought.items wholly) q)

    gone_is : has_row (rows_beyond stand.items stood.items) q ≡ (not will && was)
    gone_is =
        has_filter (λ row. not (has_row stand.items row)) stood.items q ∙ ap₂ (λ (a b : Bool). not a && b) stand_is stood_is
        ∙ beyond_is was will near close (stays_standing places place before after q lt is)

    come_is : has_row (rows_beyond stood.items stand.items) q ≡ (not was && will)
    come_is =
        has_filter (λ row. not (has_row stood.items row)) stand.items q ∙ ap₂ (λ (a b : Bool). not a && b) stood_is stand_is
        ∙ beyond_is will was near close (λ none out. sym (stays_standing places place before after q lt is none out))

    wanted_is : has_row wanted.items q ≡ will
    wanted_is =
        steps.adds.has q
        ∙ ap₂ (λ (a b : Bool). a || b)
        (steps.removes.has q
        ∙ ap₂ (λ (a b : Bool). a && not b)
        (ap (λ (w : Vec HostRow). has_row w.items q) (steps.brings.wanted ∙ steps.takes_out.wanted) ∙ unites.wanted q)
        (ap (λ (rows : List HostRow). has_row rows q) steps.gone ∙ gone_is))
        (ap (λ (rows : List HostRow). has_row rows q) steps.come ∙ come_is)
        ∙ updated_is was will

    beyond_has : (from to : List (List HostRow))
        → has_row (rows_beyond (wanted_of to) (wanted_of from)) q ≡ (not (stands (all_rows to) q) && stands (all_rows from) q)
    beyond_has from to =
        has_filter (λ row. not (has_row (wanted_of to) row)) (wanted_of from) q ∙ ap₂ (λ (a b : Bool). not a && b) (wanted_has to q) (wanted_has from q)

  pub exchanged : Exchanged places later (record { brought = new.brought; wanted = wanted }) diff
  exchanged = record {
    unites = record {
      brought = wholly;
      each_once = steps.brings.each_once;
      wanted = wanted_is;
      in_order = steps.adds.in_order;
    };
    differ = record {
      gone = steps.gone
          ∙ same_rows (rows_beyond stand.items stood.items) (rows_beyond (wanted_of later) (wanted_of places))
          (filter_in_order (λ row. not (has_row stand.items row)) stood.items steps.heads_before.in_order)
          (filter_in_order (λ row. not (has_row (wanted_of later) row)) (wanted_of places) (wanted_sorted places))
          (λ q. gone_is q ∙ sym (beyond_has q places later));
      come = steps.come
          ∙ same_rows (rows_beyond stood.items stand.items) (rows_beyond (wanted_of places) (wanted_of later))
          (filter_in_order (λ row. not (has_row stood.items row)) stand.items steps.heads_after.in_order)
          (filter_in_order (λ row. not (has_row (wanted_of places) row)) (wanted_of later) (wanted_sorted later))
          (λ q. come_is q ∙ sym (beyond_has q later places));
    };
  }

-- ---- places without rows

empty_end : (places : List (List HostRow)) (at : ℕ) → get_or (places ++ [] ∷ []) at [] ≡ get_or places at []
empty_end [] zero = refl
empty_end [] (suc k) = refl
empty_end (x ∷ places) zero = refl
empty_end (x ∷ places) (suc k) = empty_end places k

empty_more : (places : List (List HostRow)) → all_rows (places ++ [] ∷ []) ≡ all_rows places
empty_more [] = refl
empty_more (rows ∷ places) = ap (λ (more : List HostRow). rows ++ more) (empty_more places)

pub with_empty : (places : List (List HostRow)) (union : Union) → Unites places union → Unites (places ++ [] ∷ []) union
with_empty places union unites = record {
  brought = λ row at. unites.brought row at ∙ ap (λ (rows : List HostRow). has_row rows row) (sym (empty_end places at));
  each_once = unites.each_once;
  wanted = λ row. unites.wanted row ∙ ap (λ (rows : List HostRow). stands rows row) (sym (empty_more places));
  in_order = unites.in_order;
}

pub empty_last : (places : List (List HostRow)) → [] ≡ get_or (places ++ [] ∷ []) (length places) []
empty_last [] = refl
empty_last (x ∷ places) = empty_last places

pub filled_last : (places : List (List HostRow)) (rows : List HostRow) → set (places ++ [] ∷ []) (length places) rows ≡ places ++ rows ∷ []
filled_last [] rows = refl
filled_last (x ∷ places) rows = ap (λ (more : List (List HostRow)). x ∷ more) (filled_last places rows)
