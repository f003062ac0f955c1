use Rattle.std.proofs.Common.{None}
use Rattle.lab_text.proofs.SeenExchanges.{none_at}
use Rattle.lab_text.proofs.exchanges.no_numbers.Goals as goal

pub returns : goal.returns
returns c = λ iface few. none_at None 65 iface
