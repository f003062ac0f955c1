-- Lines that stand in their places: listings are followed by their rows, and each line is within its bounds.
use Rattle.std.proofs.Common.{◌≡◌, ℕ, suc, ◌<◌, ◌≤◌, ◌^◌, List, [], ◌∷◌, ◌++◌, map, length, Some, None, refl, sym, ap, subst, ◌∙◌, arith}
use Rattle.std.specs.List.{AllByRecursion}
use Rattle.std.specs.List.Sorted.{IsStrictlySortedBy}
use Rattle.std.specs.declared.cmp.Ordering.TheVariants.{Less}
use Rattle.std.specs.Ordering.{is_lt}
use Rattle.net_types.proofs.AllLaws.{all_join}
use Rattle.world.specs.declared.rows.HostRow.{HostRow}
use Rattle.world.specs.RowOrder.{row_cmp}
use Rattle.world.specs.Rows.{IsRow}
use Rattle.script_model.specs.Lines.{Line}
use Rattle.script_model.specs.Lines as model
use Rattle.host_model.specs.HostTable.{InRowOrder}
use Rattle.transcript_lines.specs.declared.role.Role.{Role}
use Rattle.transcript_lines.specs.declared.role.Role.TheVariants as roles
use Rattle.transcript_lines.specs.Bounds.{FitsTold}
use Rattle.transcript_lines.specs.Roles.{role_of}
use Rattle.transcript_model.specs.LifeShapes.{AreAsked, FitListings, Rise, moment_before, moments_in, row_before, rows_in_front}

-- within its bounds, but for how many rows are listed
abbrev pub FitsBut : Line → Type 0
FitsBut (model.HostListed count) = Unit {0}
FitsBut line = FitsTold line

-- no row stands in front, and these moments are those of the turns
pub record Stand (lines : List Line) (turns : List ℕ) : Type 0 where
  pub listings : FitListings lines
  pub front : rows_in_front lines ≡ []
  pub moments : moments_in lines ≡ turns
  pub fits : AllByRecursion FitsBut lines

-- ---- one after another

rows_join : (a b : List Line) → rows_in_front b ≡ [] → rows_in_front (a ++ b) ≡ rows_in_front a
rows_join [] b none = none
rows_join (line ∷ a) b none = ap (λ rows. row_before (role_of line) rows) (rows_join a b none)

lists_join : (a b : List Line) → rows_in_front b ≡ [] → FitListings a → FitListings b → FitListings (a ++ b)
lists_join [] b none first later = later
lists_join (line ∷ a) b none first later =
    (subst (λ rows. AreAsked (role_of line) rows) (sym (rows_join a b none)) first.0, lists_join a b none first.1 later)

before_join : (role : Role) (xs ys : List ℕ) → moment_before role (xs ++ ys) ≡ moment_before role xs ++ ys
before_join roles.Head xs ys = refl
before_join (roles.Interface spec) xs ys = refl
before_join (roles.Life number) xs ys = refl
before_join (roles.Start at) xs ys = refl
before_join (roles.Turn at) xs ys = refl
before_join (roles.Listing count) xs ys = refl
before_join (roles.Row row) xs ys = refl
before_join roles.Other xs ys = refl
before_join roles.End xs ys = refl

moments_join : (a b : List Line) → moments_in (a ++ b) ≡ moments_in a ++ moments_in b
moments_join [] b = refl
moments_join (line ∷ a) b =
    ap (λ moments. moment_before (role_of line) moments) (moments_join a b) ∙ before_join (role_of line) (moments_in a) (moments_in b)

pub stand_none : Stand [] []
stand_none = record { listings = tt; front = refl; moments = refl; fits = tt }

pub stand_both : (a b : List Line) (xs ys : List ℕ) → Stand a xs → Stand b ys → Stand (a ++ b) (xs ++ ys)
stand_both a b xs ys one two = record {
  listings = lists_join a b two.front one.listings two.listings;
  front = rows_join a b two.front ∙ one.front;
  moments = moments_join a b ∙ (λ i. one.moments i ++ two.moments i);
  fits = all_join FitsBut a b one.fits two.fits;
}

-- ---- lines of one kind

abbrev pub IsOther : Line → Type 0
IsOther line = role_of line ≡ roles.Other

pub other_stands : (line : Line) → IsOther line → FitsBut line → Stand (line ∷ []) []
other_stands line other fits = record {
  listings = (subst (λ role. AreAsked role []) (sym other) refl, tt);
  front = ap (λ role. row_before role []) other;
  moments = ap (λ role. moment_before role []) other;
  fits = (fits, tt);
}

pub others_stand : (lines : List Line) → AllByRecursion IsOther lines → AllByRecursion FitsBut lines → Stand lines []
others_stand [] others fits = stand_none
others_stand (line ∷ lines) others fits =
    stand_both (line ∷ []) lines [] [] (other_stands line others.0 fits.0) (others_stand lines others.1 fits.1)

-- ---- a listing

rows_front : (rows : List HostRow) → rows_in_front (map model.Row rows) ≡ rows
rows_front [] = refl
rows_front (row ∷ rows) = ap (λ others. row ∷ others) (rows_front rows)

rows_listed : (rows : List HostRow) → FitListings (map model.Row rows)
rows_listed [] = tt
rows_listed (row ∷ rows) = (tt, rows_listed rows)

rows_timeless : (rows : List HostRow) → moments_in (map model.Row rows) ≡ []
rows_timeless [] = refl
rows_timeless (row ∷ rows) = rows_timeless rows

rows_fit : (rows : List HostRow) → AllByRecursion IsRow rows → AllByRecursion FitsBut (map model.Row rows)
rows_fit [] are = tt
rows_fit (row ∷ rows) are = (record { fits = are.0; told = refl }, rows_fit rows are.1)

rise_after : (last : HostRow) (rows : List HostRow) → AllByRecursion (λ row. row_cmp last row ≡ Less) rows → IsStrictlySortedBy row_cmp rows
    → Rise (Some last) rows
unfolding IsStrictlySortedBy
rise_after last [] below order = tt
rise_after last (row ∷ rows) below order = (ap is_lt below.0, rise_after row rows order.0 order.1)

rise : (rows : List HostRow) → InRowOrder rows → Rise None rows
unfolding IsStrictlySortedBy
rise [] order = tt
rise (row ∷ rows) order = (refl, rise_after row rows order.0 order.1)

pub listing_stands : (rows : List HostRow) → AllByRecursion IsRow rows → InRowOrder rows
    → Stand (model.HostListed (length rows) ∷ map model.Row rows) []
listing_stands rows are order = record {
  listings =
      (subst (λ front. AreAsked (roles.Listing (length rows)) front) (sym (rows_front rows)) (refl, rise rows order), rows_listed rows);
  front = refl;
  moments = rows_timeless rows;
  fits = (tt, rows_fit rows are);
}

-- ---- how many rows are listed

front_short : (lines : List Line) → length (rows_in_front lines) ≤ length lines
front_short [] = omega arith
front_short (line ∷ lines) = by_role (role_of line) (front_short lines)
  where
    by_role : (role : Role) → length (rows_in_front lines) ≤ length lines → length (row_before role (rows_in_front lines)) ≤ suc (length lines)
    by_role roles.Head fewer = omega arith
    by_role (roles.Interface spec) fewer = omega arith
    by_role (roles.Life number) fewer = omega arith
    by_role (roles.Start at) fewer = omega arith
    by_role (roles.Turn at) fewer = omega arith
    by_role (roles.Listing count) fewer = omega arith
    by_role (roles.Row row) fewer = omega (arith, fewer)
    by_role roles.Other fewer = omega arith
    by_role roles.End fewer = omega arith

-- a line before these
line_counts : (line : Line) (rest : List Line) → AreAsked (role_of line) (rows_in_front rest) → length rest < 2 ^ 64 → FitsBut line → FitsTold line
line_counts (model.HostListed count) rest asked short fits =
    let few = front_short rest in record { fits = omega (arith, few, asked.0, short); told = refl }
line_counts model.Head rest asked short fits = fits
line_counts (model.Conf text) rest asked short fits = fits
line_counts (model.Notice line word) rest asked short fits = fits
line_counts (model.Interface spec) rest asked short fits = fits
line_counts (model.Life number) rest asked short fits = fits
line_counts (model.Start begin) rest asked short fits = fits
line_counts (model.Asides names) rest asked short fits = fits
line_counts model.AsidesFailed rest asked short fits = fits
line_counts (model.Wrote name bytes done) rest asked short fits = fits
line_counts (model.Synced name done) rest asked short fits = fits
line_counts (model.Renamed name done) rest asked short fits = fits
line_counts (model.Removed name done) rest asked short fits = fits
line_counts (model.Settled done) rest asked short fits = fits
line_counts (model.Read name reading) rest asked short fits = fits
line_counts (model.Turn at salt event bytes) rest asked short fits = fits
line_counts (model.HookPolled number answer) rest asked short fits = fits
line_counts (model.HookAbandoned number) rest asked short fits = fits
line_counts (model.HookDropped number reason name) rest asked short fits = fits
line_counts (model.HookStarted number reason name done) rest asked short fits = fits
line_counts (model.Variable name value) rest asked short fits = fits
line_counts (model.Send iface bytes taken) rest asked short fits = fits
line_counts (model.Row row) rest asked short fits = fits
line_counts model.HostListFailed rest asked short fits = fits
line_counts (model.HostDel row done) rest asked short fits = fits
line_counts (model.HostAdd row done) rest asked short fits = fits
line_counts (model.Until moment) rest asked short fits = fits
line_counts (model.Hold iface net) rest asked short fits = fits
line_counts model.EndOfLife rest asked short fits = fits

-- where the lines are fewer than so many, so are the rows of each listing
pub lines_told : (lines : List Line) → FitListings lines → length lines < 2 ^ 64 → AllByRecursion FitsBut lines → AllByRecursion FitsTold lines
lines_told [] listings short fits = tt
lines_told (line ∷ lines) listings short fits =
    let shorter : length lines < 2 ^ 64 = omega (arith, short) in
    (line_counts line lines listings.0 shorter fits.0, lines_told lines listings.1 shorter fits.1)
