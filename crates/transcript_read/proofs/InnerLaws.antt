-- The lines of a life: which may come is told by where the last one stands.
use Rattle.std.proofs.Common.{◌≡◌, ◌-◌, ◌<◌, ◌^◌, Bool, true, ◌&&◌, cond, List, [], ◌∷◌, length, Some, None, refl, sym, ap, ◌∙◌, subst, arith, eqb, leb, ltb, IsTrue}
use Rattle.std.specs.List.{AllByRecursion}
use Rattle.std.proofs.lemmas.Bool.{and_from, and_parts, eq-eqb, eqb-true, le-leb, leb-true, lt-ltb, ltb-true}
use Rattle.net_types.proofs.ReadsLaws.{some_same}
use Rattle.world.specs.declared.rows.HostRow.{HostRow}
use Rattle.world.specs.Rows.{IsRow}
use Rattle.script_model.specs.Lines.{Line}
use Rattle.replay_text.proofs.TakenLines.{cond_is}
use Rattle.transcript_lines.specs.declared.role.Role.{Role}
use Rattle.transcript_lines.specs.declared.role.Role.TheVariants as roles
use Rattle.transcript_lines.specs.Roles.{role_of}
use Rattle.transcript_model.specs.LifeShapes.{row_before, rows_in_front, comes_after, Rise, AreAsked, FitListings, moment_before, moments_in, NeverFall, follows}
use Rattle.transcript_read.specs.declared.place.Within.{Within}
use Rattle.transcript_read.specs.Places.{leaves_room, next_within}
use Rattle.transcript_read.proofs.RoomLaws.{room_left}

-- a turn, or what follows one
abbrev pub is_inner : Role → Bool
is_inner (roles.Turn at) = true
is_inner role = follows role

-- these lines may come next, up to the end of the life
pub record Good (within : Within) (lines : List Line) : Type 0 where
  pub inner : AllByRecursion (λ line. IsTrue (is_inner (role_of line))) lines
  pub counted : length (rows_in_front lines) ≡ within.left
  pub rise : Rise within.last (rows_in_front lines)
  pub listings : FitListings lines
  pub moments : NeverFall within.now (moments_in lines)

-- a line of this role may, and then these
pub record GoodNext (within : Within) (role : Role) (lines : List Line) : Type 0 where
  pub is : is_inner role ≡ true
  pub inner : AllByRecursion (λ line. IsTrue (is_inner (role_of line))) lines
  pub counted : length (row_before role (rows_in_front lines)) ≡ within.left
  pub rise : Rise within.last (row_before role (rows_in_front lines))
  pub asked : AreAsked role (rows_in_front lines)
  pub listings : FitListings lines
  pub moments : NeverFall within.now (moment_before role (moments_in lines))

pub next_good : (within : Within) (line : Line) (lines : List Line) → GoodNext within (role_of line) lines → Good within (line ∷ lines)
next_good within line lines good =
    record { inner = (good.is, good.inner); counted = good.counted; rise = good.rise; listings = (good.asked, good.listings); moments = good.moments }

pub good_next : (within : Within) (line : Line) (lines : List Line) → Good within (line ∷ lines) → GoodNext within (role_of line) lines
good_next within line lines good =
    record {
      is = good.inner.0;
      inner = good.inner.1;
      counted = good.counted;
      rise = good.rise;
      asked = good.listings.0;
      listings = good.listings.1;
      moments = good.moments;
    }

pub no_rows : (rows : List HostRow) → length rows ≡ 0 → rows ≡ []
no_rows [] e = refl
no_rows (row ∷ rows) e = absurd (omega (arith, e))

-- ---- where a line comes, it and what comes then may come

pub stepped : (within next : Within) (role : Role) (lines : List Line) → next_within within role ≡ Some next → Good next lines → GoodNext within role lines
stepped within next (roles.Row row) lines e good =
    let test = (ltb 0 within.left && comes_after within.last row) && leaves_room (within.left - 1) row in
    let t = cond_is test (Some (record within { left = within.left - 1; last = Some row })) next e in
    let both = and_parts (ltb 0 within.left && comes_after within.last row) (leaves_room (within.left - 1) row) t.0 in
    let parts = and_parts (ltb 0 within.left) (comes_after within.last row) both.0 in
    let some = ltb-true 0 within.left parts.0 in
    let same : record within { left = within.left - 1; last = Some row } ≡ next = some_same t.1 in
    let less : within.left - 1 ≡ next.left = ap (λ (w : Within). w.left) same in
    let counted = good.counted in
    record {
      is = refl;
      inner = good.inner;
      counted = omega (arith, counted, less, some);
      rise = (parts.1, subst (λ last. Rise last (rows_in_front lines)) (sym (ap (λ (w : Within). w.last) same)) good.rise);
      asked = tt;
      listings = good.listings;
      moments = subst (λ now. NeverFall now (moments_in lines)) (sym (ap (λ (w : Within). w.now) same)) good.moments;
    }
stepped within next (roles.Turn at) lines e good =
    let t = cond_is (eqb within.left 0 && leb within.now at) (Some (record within { now = at })) next e in
    let parts = and_parts (eqb within.left 0) (leb within.now at) t.0 in
    let none : within.left ≡ 0 = eqb-true within.left 0 parts.0 in
    let same : record within { now = at } ≡ next = some_same t.1 in
    let left : next.left ≡ 0 = sym (ap (λ (w : Within). w.left) same) ∙ none in
    record {
      is = refl;
      inner = good.inner;
      counted = sym none;
      rise = tt;
      asked = no_rows (rows_in_front lines) (good.counted ∙ left);
      listings = good.listings;
      moments = (leb-true within.now at parts.1, subst (λ now. NeverFall now (moments_in lines)) (sym (ap (λ (w : Within). w.now) same)) good.moments);
    }
stepped within next (roles.Listing count) lines e good =
    let t = cond_is (eqb within.left 0) (Some (record within { left = count; last = None })) next e in
    let none : within.left ≡ 0 = eqb-true within.left 0 t.0 in
    let same : record within { left = count; last = None } ≡ next = some_same t.1 in
    let last : next.last ≡ None = sym (ap (λ (w : Within). w.last) same) in
    record {
      is = refl;
      inner = good.inner;
      counted = sym none;
      rise = tt;
      asked =
          (good.counted ∙ sym (ap (λ (w : Within). w.left) same), subst (λ last. Rise last (rows_in_front lines)) last good.rise);
      listings = good.listings;
      moments = subst (λ now. NeverFall now (moments_in lines)) (sym (ap (λ (w : Within). w.now) same)) good.moments;
    }
stepped within next roles.Other lines e good =
    let t = cond_is (eqb within.left 0) (Some within) next e in
    let none : within.left ≡ 0 = eqb-true within.left 0 t.0 in
    let same : within ≡ next = some_same t.1 in
    let left : next.left ≡ 0 = sym (ap (λ (w : Within). w.left) same) ∙ none in
    record {
      is = refl;
      inner = good.inner;
      counted = sym none;
      rise = tt;
      asked = no_rows (rows_in_front lines) (good.counted ∙ left);
      listings = good.listings;
      moments = subst (λ now. NeverFall now (moments_in lines)) (sym (ap (λ (w : Within). w.now) same)) good.moments;
    }
stepped within next roles.Head lines e good = cc
stepped within next (roles.Interface spec) lines e good = cc
stepped within next (roles.Life number) lines e good = cc
stepped within next (roles.Start at) lines e good = cc
stepped within next roles.End lines e good = cc

-- ---- and where it may, it comes

pub record Steps (within : Within) (role : Role) (lines : List Line) : Type 0 where
  pub next : Within
  pub is : next_within within role ≡ Some next
  pub same : next.number ≡ within.number
  pub good : Good next lines

-- rows that a host can hold, and listings that a number of 64 bits counts
abbrev pub FitRole : Role → Type 0
FitRole (roles.Row row) = IsRow row
FitRole (roles.Listing count) = count < 2 ^ 64
FitRole _ = Unit {0}

abbrev pub FitRoles : List Line → Type 0
FitRoles lines = AllByRecursion (λ line. FitRole (role_of line)) lines

row_fits : (role : Role) (rows : List HostRow) → FitRole role → AllByRecursion IsRow rows → AllByRecursion IsRow (row_before role rows)
row_fits roles.Head rows fits each = tt
row_fits (roles.Interface spec) rows fits each = tt
row_fits (roles.Life number) rows fits each = tt
row_fits (roles.Start at) rows fits each = tt
row_fits (roles.Turn at) rows fits each = tt
row_fits (roles.Listing count) rows fits each = tt
row_fits (roles.Row row) rows fits each = (fits, each)
row_fits roles.Other rows fits each = tt
row_fits roles.End rows fits each = tt

pub rows_fit : (lines : List Line) → FitRoles lines → AllByRecursion IsRow (rows_in_front lines)
rows_fit [] fits = tt
rows_fit (line ∷ lines) fits = row_fits (role_of line) (rows_in_front lines) fits.0 (rows_fit lines fits.1)

pub steps : (within : Within) (role : Role) (lines : List Line) → FitRoles lines → GoodNext within role lines → Steps within role lines
steps within (roles.Row row) lines fits good =
    let counted = good.counted in
    let some : 0 < within.left = omega (arith, counted) in
    let fewer : length (rows_in_front lines) ≡ within.left - 1 = omega (arith, counted) in
    let room : leaves_room (within.left - 1) row ≡ true =
    subst (λ n. leaves_room n row ≡ true) fewer (room_left row (rows_in_front lines) (rows_fit lines fits) good.rise.1) in
    let test : ((ltb 0 within.left && comes_after within.last row) && leaves_room (within.left - 1) row) ≡ true =
    and_from _ _ (and_from _ _ (lt-ltb 0 within.left some) good.rise.0) room in
    record {
      next = record within { left = within.left - 1; last = Some row };
      is = ap (λ b. cond b (Some (record within { left = within.left - 1; last = Some row })) None) test;
      same = refl;
      good = record { inner = good.inner; counted = omega (arith, counted); rise = good.rise.1; listings = good.listings; moments = good.moments };
    }
steps within (roles.Turn at) lines fits good =
    let none : within.left ≡ 0 = sym good.counted in
    let test : (eqb within.left 0 && leb within.now at) ≡ true = and_from _ _ (eq-eqb within.left 0 none) (le-leb within.now at good.moments.0) in
    record {
      next = record within { now = at };
      is = ap (λ b. cond b (Some (record within { now = at })) None) test;
      same = refl;
      good = record {
        inner = good.inner;
        counted = ap length good.asked ∙ sym none;
        rise = subst (λ rows. Rise within.last rows) (sym good.asked) tt;
        listings = good.listings;
        moments = good.moments.1;
      };
    }
steps within (roles.Listing count) lines fits good =
    let none : within.left ≡ 0 = sym good.counted in
    record {
      next = record within { left = count; last = None };
      is = ap (λ b. cond b (Some (record within { left = count; last = None })) None) (eq-eqb within.left 0 none);
      same = refl;
      good = record { inner = good.inner; counted = good.asked.0; rise = good.asked.1; listings = good.listings; moments = good.moments };
    }
steps within roles.Other lines fits good =
    let none : within.left ≡ 0 = sym good.counted in
    record {
      next = within;
      is = ap (λ b. cond b (Some within) None) (eq-eqb within.left 0 none);
      same = refl;
      good = record {
        inner = good.inner;
        counted = ap length good.asked ∙ sym none;
        rise = subst (λ rows. Rise within.last rows) (sym good.asked) tt;
        listings = good.listings;
        moments = good.moments;
      };
    }
steps within roles.Head lines fits good = let never = good.is in cc
steps within (roles.Interface spec) lines fits good = let never = good.is in cc
steps within (roles.Life number) lines fits good = let never = good.is in cc
steps within (roles.Start at) lines fits good = let never = good.is in cc
steps within roles.End lines fits good = let never = good.is in cc

-- a life keeps its number
pub kept : (within next : Within) (role : Role) → next_within within role ≡ Some next → next.number ≡ within.number
kept within next (roles.Row row) e =
    let test = (ltb 0 within.left && comes_after within.last row) && leaves_room (within.left - 1) row in
    sym (ap (λ (w : Within). w.number) (some_same (cond_is test (Some (record within { left = within.left - 1; last = Some row })) next e).1))
kept within next (roles.Turn at) e =
    sym (ap (λ (w : Within). w.number) (some_same (cond_is (eqb within.left 0 && leb within.now at) (Some (record within { now = at })) next e).1))
kept within next (roles.Listing count) e =
    sym (ap (λ (w : Within). w.number) (some_same (cond_is (eqb within.left 0) (Some (record within { left = count; last = None })) next e).1))
kept within next roles.Other e = sym (ap (λ (w : Within). w.number) (some_same (cond_is (eqb within.left 0) (Some within) next e).1))
kept within next roles.Head e = cc
kept within next (roles.Interface spec) e = cc
kept within next (roles.Life number) e = cc
kept within next (roles.Start at) e = cc
kept within next roles.End e = cc
