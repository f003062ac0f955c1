-- What is kept of a life stays so with a turn more, and gives its lines.
use Rattle.std.proofs.Common.{◌≡◌, ℕ, ◌+◌, Bool, true, false, if◌then◌else◌, List, [], ◌∷◌, ◌++◌, map, length, take, Option, Some, None, option_map, refl, sym, ap, subst, ◌∙◌, append-nil, arith}
use Rattle.std.specs.Global.{Vec}
use Rattle.std.specs.List.{filter_map}
use Rattle.std.proofs.lemmas.List.{take_all, take-append-le, length-append}
use Rattle.world.specs.declared.rows.HostRow.{HostRow}
use Rattle.world.specs.declared.wakes.Event.{Event}
use Rattle.audit_words.specs.EvidenceWords.Entries.{Entry}
use Rattle.audit_words.specs.EvidenceWords.Inputs.{Site}
use Rattle.transcript_audit.specs.AuditModel.Auditing.{Living, site_in, turned}
use Rattle.transcript_audit.specs.AuditSites.Openings.{Opens}
use Rattle.transcript_audit.specs.AuditSites.declared.opening.Opening.{Opening}
use Rattle.audit_words.specs.Shown.{entry_shown}
use Rattle.basis_turns.specs.Turns.{shown_after}
use Rattle.basis_turns.specs.declared.shown_turn.ShownTurn.{ShownTurn}
use Rattle.row_reasons.specs.ReasonLines.{judged_now, life_judged, line_at, lines_of, past_of, said_of}
use Rattle.row_reasons.specs.LifeHeld.{ClosesOne, Holds, IsJudgedTurn, IsLived, JudgedAs, turn_judged, unturned}
use Rattle.row_reasons.specs.declared.lived.JudgedTurn.{JudgedTurn}
use Rattle.row_reasons.specs.declared.lived.Lived.{Lived}

shown_more : (past : List Entry) (turns : List ShownTurn) (turn : ShownTurn)
    → shown_after past (turns ++ turn ∷ []) ≡ entry_shown turn.entry ∷ shown_after past turns
shown_more past [] turn = refl
shown_more past (first ∷ turns) turn = shown_more (entry_shown first.entry ∷ past) turns turn

count_from : (past : List Entry) (turns : List ShownTurn) → length (shown_after past turns) ≡ length past + length turns
count_from past [] = omega arith
count_from past (turn ∷ turns) =
    let now : List Entry = entry_shown turn.entry ∷ past in
    let more : length (shown_after now turns) ≡ length now + length turns = count_from now turns in
    let longer : length now ≡ length past + 1 = omega arith in
    omega (arith, more, longer)

one_longer : (turns : List ShownTurn) (turn : ShownTurn) → length (turns ++ turn ∷ []) ≡ length turns + 1
one_longer turns turn = length-append turns (turn ∷ [])

-- ---- a turn more

module _ (before after : Lived) (turn : ShownTurn) (number count : ℕ) (opening_is : after.opening ≡ before.opening)
    (turns_are : after.turns.items ≡ before.turns.items ++ turn ∷ []) (number_is : number ≡ length before.turns.items)
    (count_is : count ≡ length after.turns.items) where
  opens_too : (w : Living) → Opens before.opening w → Opens after.opening w
  opens_too w opens = subst (λ (o : Opening). Opens o w) (sym opening_is) opens

  longer : length after.turns.items ≡ length before.turns.items + 1
  longer = ap length turns_are ∙ one_longer before.turns.items turn

  stays_judged : (judged : JudgedTurn) (w : Living) → IsJudgedTurn before judged w → IsJudgedTurn after judged w
  stays_judged judged w is = record {
    opens = opens_too (unturned w) is.opens;
    is_over = let within = is.is_over in omega (arith, within, longer);
    turns = ap (λ (all : List ShownTurn). shown_after [] (take judged.count all)) turns_are
        ∙ ap (shown_after []) (take-append-le judged.count before.turns.items (turn ∷ []) is.is_over) ∙ is.turns;
    number = is.number;
    rows = is.rows;
  }

  stay_judged : (judged : Option JudgedTurn) (w : Option Living) → JudgedAs before judged w → JudgedAs after judged w
  stay_judged None None is = tt
  stay_judged None (Some w) is = absurd is
  stay_judged (Some judged) None is = absurd is
  stay_judged (Some judged) (Some w) is = stays_judged judged w is

  module _ (rows : Option (Vec HostRow)) (living : Living) (closes : ClosesOne turn rows living) (judged : Option Living)
      (holds : Holds before living judged) where
    turns_now : shown_after [] after.turns.items ≡ past_of living
    turns_now =
        ap (shown_after []) turns_are ∙ shown_more [] before.turns.items turn
        ∙ (λ i. closes.entry i ∷ holds.turns i)

    counted : number ≡ length living.past
    counted =
        let all : length (shown_after [] before.turns.items) ≡ 0 + length before.turns.items = count_from [] before.turns.items in
        let same : length (shown_after [] before.turns.items) ≡ length living.past = ap length holds.turns in
        omega (arith, all, same, number_is)

    judged_here : (shown : Vec HostRow) → shown.items ≡ living.rows
        → IsJudgedTurn after (record { number = number; count = count; rows = shown }) living
    judged_here shown rows_are = record {
      opens = opens_too (unturned living) holds.opens;
      is_over = omega (arith, count_is);
      turns = ap (shown_after []) (take_all count after.turns.items (omega (arith, count_is))) ∙ turns_now;
      number = counted;
      rows = rows_are;
    }

    last_now : (failed : Bool) (given : Option (Vec HostRow))
        → option_map (λ (all : Vec HostRow). all.items) given ≡ (if failed then None else Some living.rows)
        → JudgedAs after (turn_judged number count given before.judged) (if failed then judged else Some living)
    last_now true None is = stay_judged before.judged judged holds.last
    last_now true (Some shown) is = absurd cc
    last_now false None is = absurd cc
    last_now false (Some shown) is = judged_here shown cc

    pub lived_on : (at : ℕ) (event : Event) (bytes : List ℕ) → after.judged ≡ turn_judged number count rows before.judged
        → IsLived after (turned at event bytes living) (judged_now (Some living) judged)
    lived_on at event bytes judged_is = record {
      past_one = tt;
      holds = record {
        opens =
            let opens = opens_too (unturned living) holds.opens in
            record { managed = opens.managed; own = opens.own; begin = opens.begin; reads = opens.reads; first = refl };
        turns = turns_now;
        last = subst (λ (j : Option JudgedTurn). JudgedAs after j (judged_now (Some living) judged)) (sym judged_is)
            (last_now living.failed rows closes.are);
      };
    }

-- before the first turn is over
pub begins_lived : (lived : Lived) (opening : Opening) (living : Living) → lived.opening ≡ opening → lived.turns.items ≡ [] → lived.judged ≡ None
    → Opens opening living → Holds lived living None
begins_lived lived opening living opening_is none unjudged opens = record {
  opens = subst (λ (o : Opening). Opens o (unturned living)) (sym opening_is)
      (record { managed = opens.managed; own = opens.own; begin = opens.begin; reads = opens.reads; first = refl });
  turns = ap (shown_after []) none ∙ sym opens.first;
  last = subst (λ (j : Option JudgedTurn). JudgedAs lived j None) (sym unjudged) tt;
}

-- ---- its lines

one_said : (lived : Lived) (last : JudgedTurn) (life : ℕ) (w : Living) (sites : List Site) (past : List Entry) → IsJudgedTurn lived last w
    → past ≡ shown_after [] (take last.count lived.turns.items)
    → ((o : Living) → Opens lived.opening o → sites ≡ map (site_in o) o.managed)
    → filter_map (line_at life last.number sites past) last.rows.items ≡ lines_of (record { number = life; living = w }) ++ []
one_said lived last life w sites past is past_is sites_are =
    (λ i. filter_map (line_at life (is.number i) (sites_are (unturned w) is.opens i) ((past_is ∙ is.turns) i)) (is.rows i))
    ∙ sym (append-nil (lines_of (record { number = life; living = w })))

pub some_said : (lived : Lived) (last : JudgedTurn) (life : ℕ) (judged : Option Living) (sites : List Site) (past : List Entry)
    → lived.judged ≡ Some last → JudgedAs lived lived.judged judged
    → past ≡ shown_after [] (take last.count lived.turns.items)
    → ((o : Living) → Opens lived.opening o → sites ≡ map (site_in o) o.managed)
    → filter_map (line_at life last.number sites past) last.rows.items ≡ said_of (life_judged life judged)
some_said lived last life judged sites past some is past_is sites_are =
    at judged (subst (λ (j : Option JudgedTurn). JudgedAs lived j judged) some is)
  where
    at : (w : Option Living) → JudgedAs lived (Some last) w
        → filter_map (line_at life last.number sites past) last.rows.items ≡ said_of (life_judged life w)
    at None nothing = absurd nothing
    at (Some w) one = one_said lived last life w sites past one past_is sites_are
