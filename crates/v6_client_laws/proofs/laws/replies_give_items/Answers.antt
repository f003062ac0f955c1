use Rattle.v6_client_laws.proofs.Given.{bindings_are_known, items_are_given, messages_serve, servers_are_named}
use Rattle.v6_client_laws.proofs.laws.replies_give_items.Goals as goal

pub returns-clause-items : goal.returns-clause-items
returns-clause-items c = items_are_given

pub returns-clause-bindings : goal.returns-clause-bindings
returns-clause-bindings c = bindings_are_known

pub returns-clause-serves : goal.returns-clause-serves
returns-clause-serves c = messages_serve

pub returns-clause-servers : goal.returns-clause-servers
returns-clause-servers c = servers_are_named
