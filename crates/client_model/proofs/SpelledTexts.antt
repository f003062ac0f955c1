-- The value that a text of lines spells, by a reader of its lines, is the one whose text it is.
use Rattle.std.proofs.Common.{ℕ, ◌≡◌, ◌+◌, Bool, not, ◌&&◌, cond, List, [], ◌∷◌, ◌++◌, length, Option, Some, None, option_map, option_and_then, false, refl, sym, ap, subst, ◌∙◌, eqb, IsTrue}
use Rattle.std.specs.List.{list_all}
use Rattle.std.proofs.lemmas.Bool.{and_parts, not-true, eqb-true}
use Rattle.std.proofs.lemmas.List.{append-nil}
use Rattle.std.proofs.lemmas.Option.{none-some}
use Rattle.net_types.specs.FirstBadLine.{IsSpelled}
use Rattle.net_types.specs.LineFormats.{LineLaws}
use Rattle.net_types.specs.LineReading.{run}
use Rattle.net_types.specs.Marks.{Lacks}
use Rattle.net_types.specs.TextLines.{Line, ended, lines_text, AreLines, Front}
use Rattle.net_types.proofs.CaseLaws.{split}
use Rattle.net_types.proofs.FirstBadLaws.{given_spelled}
use Rattle.net_types.proofs.ReadsLaws.{mapped, passed, some_same}
use Rattle.client_model.specs.TextsByLine.{lines_in, with_byte}

-- ---- the lines of a text

-- the text is these lines
record IsOf (text : List ℕ) (lines : List Line) : Type 0 where
  are : AreLines lines
  cut : text ≡ lines_text lines

abbrev LinesOf : List ℕ → Option (List Line) → Type 0
LinesOf text found = (lines : List Line) → found ≡ Some lines → IsOf text lines

longer_lacks : (byte : ℕ) (line : Line) → eqb byte 10 ≡ false → Lacks 10 line → Lacks 10 (byte ∷ line)
longer_lacks byte line other lacks = subst (λ (b : Bool). IsTrue (not b && list_all (λ c. not (eqb c 10)) line)) (sym other) lacks

longer : (byte : ℕ) (text : List ℕ) (found : Option (List Line)) → eqb byte 10 ≡ false → LinesOf text found → LinesOf (byte ∷ text) (with_byte byte found)
longer byte text None other of all e = absurd (none-some all e)
longer byte text (Some []) other of all e = absurd (none-some all e)
longer byte text (Some (line ∷ lines)) other of all e =
    let before : IsOf text (line ∷ lines) = of (line ∷ lines) refl in
    subst (IsOf (byte ∷ text)) (some_same e)
    (record { are = (longer_lacks byte line other before.are.0, before.are.1); cut = ap (λ (t : List ℕ). byte ∷ t) before.cut })

fed : (byte : ℕ) (text : List ℕ) (found : Option (List Line)) → byte ≡ 10 → LinesOf text found → LinesOf (byte ∷ text) (option_map (λ lines. [] ∷ lines) found)
fed byte text found feed of all e =
    let m = mapped (λ (lines : List Line). [] ∷ lines) found all e in
    let before : IsOf text m.value = of m.value m.was in
    subst (IsOf (byte ∷ text)) m.gives
    (record { are = (refl, before.are); cut = ap (λ (b : ℕ). b ∷ text) feed ∙ ap (λ (t : List ℕ). 10 ∷ t) before.cut })

lines_of : (text : List ℕ) → LinesOf text (lines_in text)
lines_of [] lines e = subst (IsOf []) (some_same e) (record { are = tt; cut = refl })
lines_of (byte ∷ text) lines e =
    let feed_lines : Option (List Line) = option_map (λ ls. [] ∷ ls) (lines_in text) in
    let by : Bool → Option (List Line) = λ b. cond b feed_lines (with_byte byte (lines_in text)) in
    split (eqb byte 10)
    (λ t. fed byte text (lines_in text) (eqb-true byte 10 t) (lines_of text) lines (sym (ap by t) ∙ e))
    (λ f. longer byte text (lines_in text) f (lines_of text) lines (sym (ap by f) ∙ e))

line_in_front : (line : Line) (rest : List ℕ) (lines : List Line) → Lacks 10 line → lines_in rest ≡ Some lines
    → lines_in (ended line ++ rest) ≡ Some (line ∷ lines)
line_in_front [] rest lines lacks e = ap (option_map (λ (ls : List Line). [] ∷ ls)) e
line_in_front (byte ∷ line) rest lines lacks e =
    let parts = and_parts (not (eqb byte 10)) _ lacks in
    let found : Option (List Line) = lines_in (ended line ++ rest) in
    ap (λ (b : Bool). cond b (option_map (λ (ls : List Line). [] ∷ ls) found) (with_byte byte found)) (not-true (eqb byte 10) parts.0)
    ∙ ap (with_byte byte) (line_in_front line rest lines parts.1 e)

lines_back : (lines : List Line) → AreLines lines → lines_in (lines_text lines) ≡ Some lines
lines_back [] are = refl
lines_back (line ∷ lines) are = line_in_front line (lines_text lines) lines are.0 (lines_back lines are.1)

-- ---- the value of a text

module _ {S V C : Type 0} {Spells : V → List Line → Type 0} {Why : List Line → Front → C → Type 0} {step : S → Line → Option S} {given : S → Option V}
    {cause_of : S → Front → C} {After : S → List Line → Type 0} {start : S} (law : LineLaws Spells Why step given cause_of After start) where
  -- the value that a reader of lines finds in them
  abbrev pub by_lines : List Line → Option V
  by_lines lines = option_and_then given (run step lines start)

  pub spelled_by : (text : List ℕ) (value : V) → option_and_then by_lines (lines_in text) ≡ Some value → IsSpelled Spells text value
  spelled_by text value e =
      let found = passed (lines_in text) by_lines value e in
      let ran = passed (run step found.value start) given value found.gives in
      let of : IsOf text found.value = lines_of text found.value found.was in
      given_spelled law text value (record {
        number = length found.value + 1;
        state = ran.value;
        took = record { lines = found.value; are = of.are; cut = of.cut ∙ sym (append-nil (lines_text found.value)); counted = refl; runs = ran.was };
        gives = ran.gives;
      })

  pub spells_it : (text : List ℕ) (value : V) → IsSpelled Spells text value → option_and_then by_lines (lines_in text) ≡ Some value
  spells_it text value spelled =
      let w = law.whole value spelled.lines spelled.spells in
      ap (λ (t : List ℕ). option_and_then by_lines (lines_in t)) spelled.text_is
      ∙ ap (option_and_then by_lines) (lines_back spelled.lines (law.are value spelled.lines spelled.spells))
      ∙ ap (option_and_then given) w.runs ∙ w.gives
