use Rattle.server_data.proofs.RepliesRead.{reads_back, reply_most}
use Rattle.server_data.proofs.writing.server_data.Goals as goal

pub returns-in-Ok-clause-read : goal.returns-in-Ok-clause-read
returns-in-Ok-clause-read c = rw c.in-Ok.ensures.text (reads_back c.args.reply.now c.message.ensures.fits)

pub returns-in-Ok-clause-most : goal.returns-in-Ok-clause-most
returns-in-Ok-clause-most c = rw c.in-Ok.ensures.text (reply_most c.args.reply.now c.message.ensures.fits.chaddr)
