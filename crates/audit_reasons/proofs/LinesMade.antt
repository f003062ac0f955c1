-- The lines that are made on a life are one on each address that is shown, and each holds.
use Rattle.std.proofs.Common.{◌≡◌, ℕ, ◌+◌, Bool, true, false, List, [], ◌∷◌, ◌++◌, map, length, Option, Some, None, option_map, if◌then◌else◌, refl, sym, ap, subst, ◌∙◌, append-nil}
use Rattle.std.specs.Prelude.{filter}
use Rattle.std.specs.List.{AllByRecursion}
use Rattle.std.specs.Cmp.{tied_itself}
use Rattle.std.specs.Option.{is_some}
use Rattle.std.specs.Ordering.{is_eq}
use Rattle.std.proofs.lemmas.Bool.{or_left, or_right}
use Rattle.std.proofs.lemmas.Grind.{flat_map-append}
use Rattle.net_types.specs.declared.address.Net.{Net}
use Rattle.net_types.specs.declared.interface.IfIndex.{IfIndex}
use Rattle.net_types.specs.declared.interface.IfSpec.{IfSpec}
use Rattle.world.specs.declared.rows.HostRow.{HostRow}
use Rattle.world.specs.declared.rows.HostRow.TheVariants.{Addr, Route}
use Rattle.world.specs.RowOrder.{has_row, row_cmp, row_cmp_total}
use Rattle.conf_text.specs.Configurations.{Configuration}
use Rattle.settings.specs.declared.interfaces.Managed.{Managed}
use Rattle.row_reasons.specs.EvidenceWords.Entries.{Entry}
use Rattle.row_reasons.specs.EvidenceWords.Inputs.{Site}
use Rattle.transcript_model.specs.Told.{LifeTold, Told, TurnTold}
use Rattle.row_reasons.specs.AuditModel.Auditing.{is_judged}
use Rattle.row_reasons.specs.AuditModel.Showing.{Shown, managed_told, shown_after, shown_at_first, shown_next, site_told}
use Rattle.row_reasons.specs.AuditModel.Verdicts.{IsShown, LifeIsJust, RestsThen}
use Rattle.row_reasons.proofs.AuditModel.LivesWalked.{living_of, scene_of}
use Rattle.row_reasons.proofs.IfaceJudges.Among.{all_told}
use Rattle.row_reasons.specs.TranscriptAudit.Verdicts.{HasBasisShown}
use Rattle.row_reasons.specs.BasisTurns.BasisShown.{FoundAreShown}
use Rattle.row_reasons.specs.ReasonLines.{LifeJudged, basis_line, life_judged, line_in, lines_of, said_of}
use Rattle.row_reasons.specs.Finding.{or_else, row_reason}
use Rattle.row_reasons.specs.Reasons.{RowRests}
use Rattle.row_reasons.specs.declared.line.BasisLine.{BasisLine}
use Rattle.row_reasons.specs.declared.reason.Reason.{Reason}
use Rattle.row_reasons.proofs.Givings.{all_given, each_given, each_kept, each_so, made_of, some_mapped}
use Rattle.row_reasons.proofs.Reasoned.{address_rests, address_some}
use Rattle.audit_reasons.specs.Accounts.{AreLinesAfter, AreLinesOf, AreReasons, HoldsAfter, if_judged, judged_last, last_judged}

-- ---- rows

all_had : (rows : List HostRow) → AllByRecursion (λ row. has_row rows row ≡ true) rows
all_had [] = tt
all_had (x ∷ xs) = (
  or_left (is_eq (row_cmp x x)) (has_row xs x) (ap is_eq (tied_itself row_cmp_total x)),
  each_so (λ row. has_row xs row ≡ true) (λ row. has_row (x ∷ xs) row ≡ true) (λ row has. or_right (is_eq (row_cmp row x)) (has_row xs row) has) xs
      (all_had xs),
)

-- ---- a life, after its last judged turn

module _ (found : FoundAreShown) (told : Told) (number : ℕ) (life : LifeTold) (shown : Shown) where
  abbrev managed : List Managed
  managed = managed_told told

  abbrev sites : Managed → Site
  sites m = site_told told life m

  abbrev past : List Entry
  past = shown.entry ∷ shown.past

  abbrev judged : LifeJudged
  judged = record { number = number; living = living_of (scene_of told.configuration told.body.ifaces life) shown }

  row_rests : (row : HostRow) (reason : Reason) → row_reason (map sites managed) past row ≡ Some reason → RowRests reason managed sites past row
  row_rests (Addr index net) reason e = address_rests found managed sites (λ m. refl) past index net reason e
  row_rests (Route iface dest via metric) reason e = absurd cc

  line_holds : (row : HostRow) (line : BasisLine) → line_in judged row ≡ Some line → HoldsAfter told number life shown line
  line_holds row line e =
      let m = made_of (basis_line number (length shown.past) row) (row_reason (map sites managed) past row) line e in
      subst (λ (l : BasisLine). HoldsAfter told number life shown l) m.is
      (record { in_life = refl; after_turn = refl; rests = row_rests row m.x m.was })

  line_row : (row : HostRow) (line : BasisLine) → line_in judged row ≡ Some line → line.row ≡ row
  line_row row line e =
      let m = made_of (basis_line number (length shown.past) row) (row_reason (map sites managed) past row) line e in
      sym (ap (λ (l : BasisLine). l.row) m.is)

  abbrev Justly : Type 0
  Justly = (index : IfIndex) (net : Net) → IsShown managed shown (Addr index net) → RestsThen HasBasisShown managed sites shown index net

  some_line : Justly → (row : HostRow) → is_judged managed row ≡ true → has_row shown.rows row ≡ true → is_some (line_in judged row) ≡ true
  some_line just (Addr index net) among has =
      some_mapped (basis_line number (length shown.past) (Addr index net)) (row_reason (map sites managed) past (Addr index net))
      ∙ address_some found managed sites (λ m. refl) past index net
      (all_told.no managed sites past index net (just index net (record { managed_row = among; has = has })))
  some_line just (Route iface dest via metric) among has = absurd cc

  are_reasons : Justly → AreReasons told number life shown (lines_of judged)
  are_reasons just =
      let some =
      each_kept (is_judged managed) (λ row. has_row shown.rows row ≡ true) (λ row. is_some (line_in judged row) ≡ true) (some_line just) shown.rows
      (all_had shown.rows) in
      record {
        rows = all_given (line_in judged) (λ (line : BasisLine). line.row) line_row (filter (is_judged managed) shown.rows) some;
        each = each_given (line_in judged) (HoldsAfter told number life shown) line_holds (filter (is_judged managed) shown.rows);
      }

-- ---- the last judged turn

record IsLast (first : Shown) (turns : List TurnTold) (shown : Shown) : Type 0 where
  front : List TurnTold
  rest : List TurnTold
  split : turns ≡ front ++ rest
  is : shown_after first front ≡ shown
  done : shown.failed ≡ false

judged_is : (first shown : Shown) (b : Bool) → first.failed ≡ b → (if b then None else Some first) ≡ Some shown → (first ≡ shown) × (shown.failed ≡ false)
judged_is first shown true is e = absurd cc
judged_is first shown false is e =
    let same : first ≡ shown = cc in (same, ap (λ (s : Shown). s.failed) (sym same) ∙ is)

none_more : (first : Shown) (turns : List TurnTold) (shown : Shown) → if_judged first ≡ Some shown → IsLast first turns shown
none_more first turns shown e =
    let at = judged_is first shown first.failed refl e in record { front = []; rest = turns; split = refl; is = at.0; done = at.1 }

further : (first : Shown) (turn : TurnTold) (turns : List TurnTold) (shown : Shown) → IsLast (shown_next first turn) turns shown
    → IsLast first (turn ∷ turns) shown
further first turn turns shown l =
    record { front = turn ∷ l.front; rest = l.rest; split = ap (λ (ts : List TurnTold). turn ∷ ts) l.split; is = l.is; done = l.done }

is_last : (first : Shown) (turns : List TurnTold) (shown : Shown) → last_judged first turns ≡ Some shown → IsLast first turns shown
is_last first [] shown e = none_more first [] shown e
is_last first (turn ∷ turns) shown e =
    at (last_judged (shown_next first turn) turns) e (λ later. further first turn turns shown (is_last (shown_next first turn) turns shown later))
  where
    at : (o : Option Shown) → or_else o (if_judged first) ≡ Some shown → (o ≡ Some shown → IsLast first (turn ∷ turns) shown)
        → IsLast first (turn ∷ turns) shown
    at None same later = none_more first (turn ∷ turns) shown same
    at (Some s) same later = later same

-- ---- a life

-- the life as it is kept by the end of its last judged turn
abbrev pub lived_of : Configuration → List IfSpec → (number : ℕ) → LifeTold → Option Shown → List LifeJudged
lived_of configuration ifaces number life shown = life_judged number (option_map (living_of (scene_of configuration ifaces life)) shown)

abbrev pub lives_lived : Configuration → List IfSpec → (number : ℕ) → List LifeTold → List LifeJudged
lives_lived configuration ifaces number [] = []
lives_lived configuration ifaces number (life ∷ lives) =
    lived_of configuration ifaces number life (judged_last life) ++ lives_lived configuration ifaces (number + 1) lives

module _ (found : FoundAreShown) (told : Told) where
  life_said : (number : ℕ) (life : LifeTold) (last : Option Shown) → judged_last life ≡ last → LifeIsJust HasBasisShown told life
      → AreLinesAfter told number life last (said_of (lived_of told.configuration told.body.ifaces number life last))
  life_said number life None is just = refl
  life_said number life (Some shown) is just =
      let last = is_last (shown_at_first life) life.turns shown is in
      let rests = subst (λ (s : Shown). s.failed ≡ false → Justly found told number life s) last.is (just last.front last.rest last.split) last.done in
      subst (λ (lines : List BasisLine). AreReasons told number life shown lines)
      (sym (append-nil (lines_of (judged found told number life shown)))) (are_reasons found told number life shown rests)

  -- ---- all lives

  pub lives_said : (number : ℕ) (lives : List LifeTold) → AllByRecursion (LifeIsJust HasBasisShown told) lives
      → AreLinesOf told number lives (said_of (lives_lived told.configuration told.body.ifaces number lives))
  lives_said number [] just = refl
  lives_said number (life ∷ lives) just =
      let own = lived_of told.configuration told.body.ifaces number life (judged_last life) in
      let later = lives_lived told.configuration told.body.ifaces (number + 1) lives in
      record {
        own = said_of own;
        later = said_of later;
        are = flat_map-append lines_of own later;
        first = life_said number life (judged_last life) refl just.0;
        others = lives_said (number + 1) lives just.1;
      }
