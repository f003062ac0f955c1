-- What a turn makes of the tables is what the definitions make of the items.
use Rattle.std.proofs.Common.{◌≡◌, ℕ, Bool, true, false, not, ◌&&◌, List, [], ◌∷◌, ◌++◌, Option, Some, None, refl, sym, ap, subst, ◌∙◌}
use Rattle.std.specs.Prelude.{◌==◌, if◌then◌else◌}
use Rattle.std.specs.Option.{option_map}
use Rattle.net_types.specs.declared.address.Ip6.{Ip6}
use Rattle.net_types.specs.declared.address.Net6.{Net6}
use Rattle.v6_options.specs.declared.ia.IaKind.{IaKind}
use Rattle.v6_options.specs.declared.ia.IaKind.TheVariants.{Na, Pd}
use Rattle.world.specs.declared.wakes.Event.{Event}
use Rattle.world.specs.declared.wakes.Event.TheVariants.{Frame, Carrier, Duplicate, Release, Rebind, Stop, Quiet, End}
use Rattle.v6_items.specs.declared.asks.IaAsk.{IaAsk}
use Rattle.evidence_words.specs.Entries.{Entry}
use Rattle.evidence_words.specs.Inputs.{Site, has_carrier, index_at}
use Rattle.lease6_judge.specs.HeardTerms.{good_reply, heard_by, heard_from, heard_in, is_new}
use Rattle.lease6_judge.specs.Terms.{Term, not_held, if_left, is_alone, is_left, stays}
use Rattle.lease6_judge.specs.Watching.{Replied, watch_in}
use Rattle.lease6_judge.proofs.Numbering.{up_is}
use Rattle.item_judge.specs.declared.table.ItemTable.{ItemTable}
use Rattle.item_judge.specs.declared.table.Turn.{Turn}
use Rattle.item_judge.specs.Asking.{Heard, heard_at}
use Rattle.item_judge.specs.Judging.{AreTurned, TellsItems, TellsTables, TellsTurn}
use Rattle.item_judge.specs.Kept.{heard_content}
use Rattle.item_judge.specs.Tables.{term_at}
use Rattle.item_judge.specs.Telling.{TellsHeard, asking_in, term_next}
use Rattle.item_judge.specs.Turns.{FitsKind, IsTurned, alone_by, next_term, reported_at}
use Rattle.item_judge.proofs.Opened.{heard_told}

reported_same : (here : Bool) (addr ip : Ip6)
    → not (here && addr.number == ip.number) ≡ alone_by Na ip (if here then Some addr else None)
reported_same true addr ip = refl
reported_same false addr ip = refl

alone_same : (index : ℕ) (kind : IaKind) (ip : Ip6) (event : Event) → is_alone index kind ip event ≡ alone_by kind ip (reported_at index event)
alone_same index Pd ip event = refl
alone_same index Na ip (Frame other len) = refl
alone_same index Na ip (Carrier other now) = refl
alone_same index Na ip (Duplicate other addr) = reported_same (index == other) addr ip
alone_same index Na ip (Release other) = refl
alone_same index Na ip (Rebind other) = refl
alone_same index Na ip Stop = refl
alone_same index Na ip Quiet = refl
alone_same index Na ip End = refl

left_twice : (stays alone : Bool) (term : Term) → if_left alone (if_left stays term) ≡ if_left (stays && alone) term
left_twice true alone term = refl
left_twice false true term = refl
left_twice false false term = refl

term_same : (came answered : ℕ) (ask : IaAsk) (net : Net6) (heard : Option Heard) (replied : Option Replied) → TellsHeard answered heard replied
    → (term : Term) → term_next came ask net heard term ≡ heard_by came answered ask net replied term
term_same came answered ask net None None is term = refl
term_same came answered ask net None (Some r) is term = absurd is
term_same came answered ask net (Some h) None is term = absurd is
term_same came answered ask net (Some h) (Some r) is term = λ i. heard_from came (is.is_new i) ask net (is.message i) term

module _ (site : Site) (e : Entry) (past : List Entry) (turn : Turn) (tells : TellsTurn turn site e past) where
  kept_same : (ask : IaAsk) (net : Net6) (term : Term)
      → if_left (alone_by ask.kind net.ip turn.reported) (if_left turn.stays term)
      ≡ if_left (is_left site ask net e (watch_in site past).up) term
  kept_same ask net term =
      ap (λ (r : Option Ip6). if_left (alone_by ask.kind net.ip r) (if_left turn.stays term)) tells.reported
      ∙ ap (λ (b : Bool). if_left b (if_left turn.stays term)) (sym (alone_same (index_at site) ask.kind net.ip e.event))
      ∙ ap (λ (b : Bool). if_left (is_alone (index_at site) ask.kind net.ip e.event) (if_left b term))
      (tells.stays ∙ ap (λ (up : Bool). stays up (index_at site) e.event) (sym (up_is site past)))
      ∙ left_twice (stays (watch_in site past).up (index_at site) e.event) (is_alone (index_at site) ask.kind net.ip e.event) term

  item_same : (ask : IaAsk) (net : Net6) (term : Term) → term ≡ heard_in site ask net past
      → next_term turn ask net term ≡ heard_in site ask net (e ∷ past)
  item_same ask net term is =
      ap (λ (h : Option Heard). term_next turn.came ask net h (if_left (alone_by ask.kind net.ip turn.reported) (if_left turn.stays term))) tells.heard
      ∙ ap (λ (came : ℕ). term_next came ask net (heard_at site e (asking_in site past))
      (if_left (alone_by ask.kind net.ip turn.reported) (if_left turn.stays term))) tells.came
      ∙ ap (λ (t : Term). term_next e.moment ask net (heard_at site e (asking_in site past)) t) (kept_same ask net term)
      ∙ term_same e.moment (watch_in site past).answered ask net (heard_at site e (asking_in site past))
      (good_reply site e (watch_in site past)) (heard_told site e past) (if_left (is_left site ask net e (watch_in site past).up) term)
      ∙ ap (λ (t : Term). heard_by e.moment (watch_in site past).answered ask net (good_reply site e (watch_in site past))
      (if_left (is_left site ask net e (watch_in site past).up) t)) is

  table_turned : (table next : ItemTable) (ask : IaAsk) → IsTurned turn table next → TellsItems site past table ask
      → TellsItems site (e ∷ past) next ask
  table_turned table next ask turned t = record {
    ask_is = turned.ask ∙ t.ask_is;
    terms = λ net fits.
        turned.terms net (subst (λ (a : IaAsk). FitsKind a.kind net) (sym t.ask_is) fits)
        ∙ ap (λ (a : IaAsk). next_term turn a net (term_at table.terms net)) t.ask_is
        ∙ item_same ask net (term_at table.terms net) (t.terms net fits);
  }

  pub tables_turned : (tables nexts : List ItemTable) (asks : List IaAsk) → AreTurned turn tables nexts → TellsTables site past tables asks
      → TellsTables site (e ∷ past) nexts asks
  tables_turned [] [] [] turned t = tt
  tables_turned [] [] (ask ∷ asks) turned t = absurd t
  tables_turned [] (next ∷ nexts) asks turned t = absurd turned
  tables_turned (table ∷ tables) [] asks turned t = absurd turned
  tables_turned (table ∷ tables) (next ∷ nexts) [] turned t = absurd t
  tables_turned (table ∷ tables) (next ∷ nexts) (ask ∷ asks) turned t =
      (table_turned table next ask turned.0 t.0, tables_turned tables nexts asks turned.1 t.1)

-- ---- one table after another

pub more_turned : (turn : Turn) (tables nexts : List ItemTable) (table next : ItemTable) → AreTurned turn tables nexts
    → IsTurned turn table next → AreTurned turn (tables ++ table ∷ []) (nexts ++ next ∷ [])
more_turned turn [] [] table next are is = (is, tt)
more_turned turn [] (n ∷ nexts) table next are is = absurd are
more_turned turn (t ∷ tables) [] table next are is = absurd are
more_turned turn (t ∷ tables) (n ∷ nexts) table next are is = (are.0, more_turned turn tables nexts table next are.1 is)
