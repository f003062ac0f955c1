-- What a turn's Reply gives by itself, and which IA holds an address, are told by what the judge keeps.
use Rattle.std.proofs.Common.{◌≡◌, ℕ, Bool, true, false, not, ◌&&◌, List, [], ◌∷◌, Option, Some, None, refl, ap, ◌∙◌}
use Rattle.std.specs.Prelude.{if◌then◌else◌}
use Rattle.std.specs.Option.{option_map}
use Rattle.net_types.specs.declared.address.Net6.{Net6}
use Rattle.v6_message.specs.Replies.{Content6}
use Rattle.v6_items.specs.declared.asks.IaAsk.{IaAsk}
use Rattle.evidence_words.specs.Entries.{Entry}
use Rattle.evidence_words.specs.Inputs.{Site}
use Rattle.lease6_evidence.specs.Exchanges6.{Numbered6}
use Rattle.lease6_evidence.specs.Replies6.{message6_at}
use Rattle.lease6_judge.specs.HeardTerms.{good_in, items_heard}
use Rattle.lease6_judge.specs.Terms.{Term, held_forever, held_until, is_held, longer, not_held, revises, term_in_saids}
use Rattle.lease6_judge.specs.Watching.{watch_in}
use Rattle.item_judge.specs.declared.heard.Heard as shown
use Rattle.item_judge.specs.declared.table.ItemTable.{ItemTable}
use Rattle.item_judge.specs.Asking.{AskingContent, Heard, heard_by, is_good}
use Rattle.item_judge.specs.Hearing.{gives_by, hears_item, holder_among, holder_of, holds_in}
use Rattle.item_judge.specs.Judging.{TellsTables}
use Rattle.item_judge.specs.Kept.{heard_content}
use Rattle.item_judge.specs.Telling.{TellsOpen, asking_in, term_next}
use Rattle.item_judge.proofs.Giving.{holds_same}
use Rattle.item_judge.proofs.Opened.{good_is, open_told}

-- ---- a Reply by itself

longer_alone : (term : Term) → longer term not_held ≡ term
longer_alone not_held = refl
longer_alone (held_until end) = refl
longer_alone held_forever = refl

none_left : (b : Bool) → (if b then not_held else not_held) ≡ not_held
none_left true = refl
none_left false = refl

module _ (came : ℕ) (ask : IaAsk) (net : Net6) (now : ℕ) where
  abbrev alone : Option Heard → Bool
  alone heard = is_held now (term_next came ask net heard not_held)

  by_itself : (is_new : Bool) (message : Content6) (opened : Numbered6)
      → alone (Some (record { message = message; is_new = is_new })) ≡ gives_by came ask net now (Some (record { opened = opened; message = message }))
  by_itself is_new message opened =
      let term : Term = term_in_saids came net (items_heard ask message) in
      ap (λ (t : Term). is_held now (longer term t)) (none_left (is_new && revises ask net message)) ∙ ap (is_held now) (longer_alone term)

  if_good : (b : Bool) (is_new : Bool) (message : Content6) (opened : Numbered6)
      → alone (if b then Some (record { message = message; is_new = is_new }) else None)
      ≡ gives_by came ask net now (if b then Some (record { opened = opened; message = message }) else None)
  if_good true is_new message opened = by_itself is_new message opened
  if_good false is_new message opened = refl

  by_open : (site : Site) (answered : ℕ) (asking : Option AskingContent) (current : Option Numbered6) (message : Option Content6)
      → TellsOpen answered asking current → alone (heard_by site asking message) ≡ gives_by came ask net now (good_in site current message)
  by_open site answered None None message is = refl
  by_open site answered None (Some opened) message is = absurd is
  by_open site answered (Some asking) None message is = absurd is
  by_open site answered (Some asking) (Some opened) None is = refl
  by_open site answered (Some asking) (Some opened) (Some message) is =
      if_good (is_good site asking message) (not asking.answered) message opened
      ∙ ap (λ (b : Bool). gives_by came ask net now (if b then Some (record { opened = opened; message = message }) else None))
      (good_is site answered asking opened message is)

pub hears_so : (site : Site) (e : Entry) (past : List Entry) (ask : IaAsk) (net : Net6) (now : ℕ) (asking : Option AskingContent) (heard : Option shown.Heard)
    → asking ≡ asking_in site (e ∷ past) → option_map heard_content heard ≡ heard_by site asking (message6_at site e)
    → is_held now (term_next e.moment ask net (option_map heard_content heard) not_held) ≡ hears_item site ask net now e past
hears_so site e past ask net now asking heard is hears =
    let after = watch_in site (e ∷ past) in
    ap (λ (h : Option Heard). is_held now (term_next e.moment ask net h not_held))
    (hears ∙ ap (λ (a : Option AskingContent). heard_by site a (message6_at site e)) is)
    ∙ by_open e.moment ask net now site after.answered (asking_in site (e ∷ past)) after.seen.current (message6_at site e) (open_told site (e ∷ past))

-- ---- the holder

module _ (site : Site) (net : Net6) (now : ℕ) (past : List Entry) where
  pub holder_same : (tables : List ItemTable) (asks : List IaAsk) → TellsTables site past tables asks
      → holder_among tables net now ≡ holder_of site net now past asks
  holder_same [] [] t = refl
  holder_same [] (ask ∷ asks) t = absurd t
  holder_same (table ∷ tables) [] t = absurd t
  holder_same (table ∷ tables) (ask ∷ asks) t =
      ap (λ (b : Bool). if b then Some table.ask else holder_among tables net now) (holds_same site now past net table ask t.0)
      ∙ ap (λ (a : IaAsk). if holds_in site net now past ask then Some a else holder_among tables net now) t.0.ask_is
      ∙ ap (λ (o : Option IaAsk). if holds_in site net now past ask then Some ask else o) (holder_same tables asks t.1)
