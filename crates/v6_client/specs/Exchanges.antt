-- The exchanges of a client (RFC 8415, sections 15 and 16.1).
use Rattle.std.specs.Prelude.{ℕ, ◌+◌, ◌/◌, ◌%◌, ◌^◌, Bool, min, Option, Some, None, nat_le, ◌==◌, if◌then◌else◌}
use Rattle.net_types.specs.declared.interface.IfIndex.{IfIndex}
use Rattle.v6_retrans.specs.declared.parameters.Parameters.{Parameters}
use Rattle.v6_retrans.specs.declared.parameters.TheConstants.{SOLICIT}
use Rattle.v6_retrans.specs.declared.retrans.Retrans.{Retrans}
use Rattle.v6_retrans.specs.Retransmission.{rand_of, first_said, said_again, is_over}
use Rattle.v6_client.specs.declared.exchange.Exchange6.{Exchange6}
use Rattle.v6_client.specs.declared.exchange.TheConstants.{LONGEST_TIME}
use Rattle.v6_client.specs.declared.turn.Turn6.{Turn6}

-- a number of three bytes, or the next one where it is the one before (RFC 8415, section 8)
abbrev pub other_than : Option ℕ → ℕ → ℕ
other_than None xid = xid
other_than (Some last) xid = if last == xid then (xid + 1) % 2 ^ 24 else xid

-- the transaction id of a new exchange, from the salt's upper word
abbrev pub xid_drawn : (salt : ℕ) → IfIndex → Option ℕ → ℕ
xid_drawn salt iface last = other_than last ((salt / 2 ^ 32 + iface.number) % 2 ^ 24)

abbrev pub new_xid : Turn6 → ℕ
new_xid turn = xid_drawn turn.salt turn.site.iface.index turn.last

abbrev pub rand_in : Turn6 → ℕ
rand_in turn = rand_of turn.salt turn.site.iface.index

-- the parameters of SOLICIT: a server may have told another bound (RFC 8415, section 21.24)
abbrev pub solicit_parameters : Turn6 → Parameters
solicit_parameters turn = record { irt = SOLICIT.irt; mrt = turn.sol_max; mrc = SOLICIT.mrc }

-- a time as far as an exchange has room for it
abbrev pub capped : (time : ℕ) → ℕ
capped time = min time LONGEST_TIME

-- the message of an exchange is said now
abbrev pub said : Turn6 → (xid began : ℕ) → Retrans → Exchange6
said turn xid began r =
    record { xid = xid; began = began; rt = capped r.rt; sent = r.sent; due = turn.at + capped r.rt }

-- a new exchange
abbrev pub begun : Turn6 → Parameters → (rand : ℕ) → Exchange6
begun turn p rand = said turn (new_xid turn) turn.at (first_said p rand)

abbrev pub retrans_of : Parameters → Exchange6 → Retrans
retrans_of p exchange = record { rt = exchange.rt; sent = exchange.sent; parameters = p }

-- the message again
abbrev pub again : Turn6 → Parameters → Exchange6 → Exchange6
again turn p exchange = said turn exchange.xid exchange.began (said_again (retrans_of p exchange) (rand_in turn))

-- it was said as often as it may be
abbrev pub is_used_up : Parameters → Exchange6 → Bool
is_used_up p exchange = is_over (retrans_of p exchange)

abbrev pub is_again_due : Turn6 → Exchange6 → Bool
is_again_due turn exchange = nat_le exchange.due turn.at
