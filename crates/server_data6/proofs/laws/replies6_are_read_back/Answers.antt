use Rattle.server_data6.proofs.RepliesRead.{message_read, ias_read}
use Rattle.server_data6.proofs.ServersRead.{servers_read}
use Rattle.server_data6.proofs.laws.replies6_are_read_back.Goals as goal

pub returns-clause-message : goal.returns-clause-message
returns-clause-message c = message_read

pub returns-clause-ias : goal.returns-clause-ias
returns-clause-ias c = ias_read

pub returns-clause-servers : goal.returns-clause-servers
returns-clause-servers c = servers_read
