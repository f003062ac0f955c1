use Rattle.v4_message.proofs.SaidOptions.{said_is_read, said_is_whole}
use Rattle.v4_message.proofs.Lengths.{message_most}
use Rattle.v4_message.specs.Requests.{ask_content}
use Rattle.v4_message.proofs.writing.write4.Goals as goal

pub returns-in-Ok-clause-whole : goal.returns-in-Ok-clause-whole
returns-in-Ok-clause-whole c = rw c.in-Ok.ensures.text (said_is_whole c.args.said.now (ask_content c.args.ask.now) c.requires c.in-Ok.ensures.len)

pub returns-in-Ok-clause-options : goal.returns-in-Ok-clause-options
returns-in-Ok-clause-options c = rw c.in-Ok.ensures.text (said_is_read c.args.said.now (ask_content c.args.ask.now) c.requires c.in-Ok.ensures.len)

pub returns-in-Ok-clause-most : goal.returns-in-Ok-clause-most
returns-in-Ok-clause-most c = rw c.in-Ok.ensures.text (message_most c.args.said.now (ask_content c.args.ask.now) c.requires c.in-Ok.ensures.len)
