use Rattle.std.proofs.Common.{◌≡◌, ◌+◌, ◌*◌, length, arith}
use Rattle.v6_message.specs.Requests.{asked_content}
use Rattle.v6_message.proofs.OptionLists.{ia_value_len}
use Rattle.v6_message.proofs.writing.ia_len.Goals as goal

pub returns : goal.returns
returns c =
    let count : c.len.result ≡ length c.args.ia.now.items.items = omega (arith, c.args.ia.now.items.ok) in
    rw (ia_value_len (asked_content c.args.ia.now)) (λ i. 12 + count i * c.item_len.ensures i)
