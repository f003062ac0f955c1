-- What the code keeps of an item, after some turns.
use Rattle.std.specs.Prelude.{◌≡◌, List}
use Rattle.evidence_words.specs.Entries.{Entry}
use Rattle.evidence_words.specs.Inputs.{Site}
use Rattle.item_judge.specs.Judging as items
use Rattle.basis_turns.specs.ItemFinds.{reply_in}
use Rattle.basis_turns.specs.declared.items.Held.{Held}
use Rattle.basis_turns.specs.declared.items.ItemWalk.{ItemWalk}

pub record Tells (held : Held) (site : Site) (past : List Entry) (walk : ItemWalk) : Type 0 where
  pub judge : items.Tells walk.judge site past
  pub reply : walk.reply ≡ reply_in site held.ask held.net held.at past
