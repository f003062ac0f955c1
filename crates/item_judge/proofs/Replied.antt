-- A good Reply is told by the exchange that the judge keeps.
use Rattle.std.proofs.Common.{◌≡◌, ℕ, Bool, true, false, List, Option, Some, None, refl, ap, ◌∙◌}
use Rattle.std.specs.Prelude.{if◌then◌else◌, is_some}
use Rattle.std.specs.Option.{option_map}
use Rattle.v6_message.specs.Replies.{Content6}
use Rattle.evidence_words.specs.Entries.{Entry}
use Rattle.evidence_words.specs.Inputs.{Site}
use Rattle.lease6_evidence.specs.Exchanges6.{Numbered6, Seen6, seen6_in}
use Rattle.lease6_judge.proofs.Numbering.{seen_is}
use Rattle.lease6_judge.specs.Watching.{watch_in}
use Rattle.item_judge.specs.declared.heard.Heard as shown
use Rattle.item_judge.specs.Asking.{AskingContent, Heard, heard_by, is_good}
use Rattle.item_judge.specs.Kept.{heard_content}
use Rattle.item_judge.specs.Replying.{has_good}
use Rattle.item_judge.specs.Telling.{TellsOpen, asking_in}
use Rattle.item_judge.proofs.Opened.{good_is, open_told}

some_if : (b : Bool) (heard : Heard) → is_some (if b then Some heard else None) ≡ b
some_if true heard = refl
some_if false heard = refl

good_so : (site : Site) (answered : ℕ) (asking : Option AskingContent) (current : Option Numbered6) (came : Option Content6)
    → TellsOpen answered asking current → is_some (heard_by site asking came) ≡ has_good site current came
good_so site answered None None came is = refl
good_so site answered None (Some opened) came is = absurd is
good_so site answered (Some asking) None came is = absurd is
good_so site answered (Some asking) (Some opened) None is = refl
good_so site answered (Some asking) (Some opened) (Some message) is =
    some_if (is_good site asking message) _ ∙ good_is site answered asking opened message is

shown_some : (heard : Option shown.Heard) → is_some heard ≡ is_some (option_map heard_content heard)
shown_some None = refl
shown_some (Some heard) = refl

pub reply_so : (site : Site) (past : List Entry) (asking : Option AskingContent) (came : Option Content6) (heard : Option shown.Heard)
    → asking ≡ asking_in site past → option_map heard_content heard ≡ heard_by site asking came
    → is_some heard ≡ has_good site (seen6_in site past).current came
reply_so site past asking came heard is hears =
    shown_some heard
    ∙ ap (λ (h : Option Heard). is_some h) (hears ∙ ap (λ (a : Option AskingContent). heard_by site a came) is)
    ∙ good_so site (watch_in site past).answered (asking_in site past) (watch_in site past).seen.current came (open_told site past)
    ∙ ap (λ (seen : Seen6). has_good site seen.current came) (seen_is site past)
