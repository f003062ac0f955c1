-- What a message that was read shows.
use Rattle.std.specs.Option.{option_map}
use Rattle.v6_message.specs.declared.reading.Msg6.{Msg6}
use Rattle.v6_message.specs.Replies.{Content6}

abbrev pub message_shown : Msg6 → Content6
message_shown message = record {
  kind = message.kind;
  xid = message.xid;
  client = option_map (λ v. v.now) message.client;
  server = option_map (λ v. v.now) message.server;
  status = message.status.number;
  preference = message.preference;
  rapid = message.rapid;
  sol_max = message.sol_max;
  dns = message.dns.now;
  search = message.search.now;
  options = message.options.now;
}
