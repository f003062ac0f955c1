-- Tests of lists, over what these were made of.
use Rattle.std.proofs.Common.{Bool, true, not, ◌||◌, List, [], ◌∷◌, ◌≡◌, Option, Some, refl, sym, ap, subst, ◌∙◌, map}
use Rattle.std.specs.Prelude.{cond}
use Rattle.std.specs.List.{list_any, find}
use Rattle.world.specs.declared.rows.HostRow.{HostRow}
use Rattle.world.specs.declared.rows.HostRow.TheVariants.{Addr, Route}
use Rattle.audit_words.specs.EvidenceWords.Inputs.{Site}
use Rattle.audit_turns.specs.AuditModel.Auditing.{Living, is_just, site_in}
use Rattle.audit_seats.specs.Tests.{OwnTest, ShareTest, judged_by, rests_at, row_rests}

pub any_mapped : {X Y : Type 0} (test : Y → Bool) (view : X → Y) (xs : List X) → list_any test (map view xs) ≡ list_any (λ x. test (view x)) xs
any_mapped test view [] = refl
any_mapped test view (x ∷ xs) = ap (λ (b : Bool). test (view x) || b) (any_mapped test view xs)

pub find_alike : {X : Type 0} (f g : X → Bool) → ((x : X) → f x ≡ g x) → (xs : List X) → find f xs ≡ find g xs
find_alike f g same [] = refl
find_alike f g same (x ∷ xs) =
    ap (λ (b : Bool). cond b (Some x) (find f xs)) (same x) ∙ ap (λ (o : Option _). cond (g x) (Some x) o) (find_alike f g same xs)

-- a row is judged over the interfaces as over their sites
pub row_judged : (own : OwnTest) (shared : ShareTest) (living : Living) (row : HostRow)
    → row_rests own shared (map (site_in living) living.managed) (living.entry ∷ living.past) row ≡ is_just (judged_by own shared) living row
row_judged own shared living (Addr index net) =
    any_mapped (rests_at own shared index.number net (living.entry ∷ living.past)) (site_in living) living.managed
row_judged own shared living (Route iface dest via metric) = refl

pub rows_judged : (own : OwnTest) (shared : ShareTest) (living : Living) (sites : List Site) (rows : List HostRow)
    → sites ≡ map (site_in living) living.managed
    → find (λ row. not (row_rests own shared sites (living.entry ∷ living.past) row)) rows
    ≡ find (λ row. not (is_just (judged_by own shared) living row)) rows
rows_judged own shared living sites rows is =
    subst
    (λ (all : List Site). find (λ row. not (row_rests own shared all (living.entry ∷ living.past) row)) rows
    ≡ find (λ row. not (is_just (judged_by own shared) living row)) rows)
    (sym is) (find_alike _ _ (λ row. ap not (row_judged own shared living row)) rows)
