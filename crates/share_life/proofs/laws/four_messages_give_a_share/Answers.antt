use Rattle.share_life.proofs.SharedHeard.{are_turns, is_held, is_opened, is_wanted, share_based, turns_show}
use Rattle.share_life.proofs.laws.four_messages_give_a_share.Goals as goal

pub returns-clause-opened : goal.returns-clause-opened
returns-clause-opened c = is_opened

pub returns-clause-made : goal.returns-clause-made
returns-clause-made c = are_turns

pub returns-clause-shown : goal.returns-clause-shown
returns-clause-shown c = turns_show

pub returns-clause-wanted : goal.returns-clause-wanted
returns-clause-wanted c = is_wanted

pub returns-clause-held : goal.returns-clause-held
returns-clause-held c = is_held

pub returns-clause-basis : goal.returns-clause-basis
returns-clause-basis c = share_based
