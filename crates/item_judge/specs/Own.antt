-- A step of the walk over the IAs that an interface gives back or declines.
use Rattle.std.specs.Prelude.{Bool, ◌&&◌}
use Rattle.v6_message.specs.Requests.{AskedContent}
use Rattle.v6_items.specs.declared.asks.IaAsk.{IaAsk}
use Rattle.v6_items.specs.Items.{is_nonempty}
use Rattle.lease6_evidence.specs.OwnMessages6.{is_ia_of}

-- the IA is the asked one and has items
abbrev pub is_given_back : IaAsk → AskedContent → Bool
is_given_back ask ia = is_ia_of ask ia && is_nonempty ia.items
