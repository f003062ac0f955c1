use Rattle.std.proofs.Common.{◌++◌, drop, take, ap, ◌∙◌}
use Rattle.net_types.specs.TextLines.{lines_text}
use Rattle.lease_text.specs.Leases.{lease_content}
use Rattle.lease_text.specs.LeaseLines.{grant_lines, holder_lines}
use Rattle.lease_text.proofs.Printed.{three_parts}
use Rattle.lease_text.proofs.printing.append_head.Goals as goal

pub returns : goal.returns
returns c =
    let lease = lease_content c.args.lease.now in
    let lines = grant_lines lease in
    let granted = c.in_ok-append_grant.ensures ∙ ap (λ xs. xs ++ lines_text (take 3 lines)) c.in_ok-append_holder.ensures in
    c.in_ok-append_times.ensures ∙ ap (λ xs. xs ++ lines_text (drop 3 lines)) granted
    ∙ three_parts c.args.into.now.items (holder_lines lease) (take 3 lines) (drop 3 lines)
