use Rattle.std.proofs.Common.{◌++◌, append_assoc, ap, ◌∙◌}
use Rattle.net_types.specs.TextLines.{ended, lines_text}
use Rattle.lease_text.specs.LeaseLines.{origin_lines}
use Rattle.lease6_text.specs.LeaseLines.{first_line, interface_line}
use Rattle.lease6_text.proofs.printing.append_holder.Goals as goal

pub returns : goal.returns
returns c =
    let lease = c.args.lease.now in
    let old = c.args.into.now.items in
    let first = ended (first_line lease.origin) in
    let named = ended (interface_line lease.name) in
    let origin = lines_text (origin_lines lease.origin) in
    c.in_ok-append_origin.ensures
    ∙ ap (λ xs. xs ++ origin) (c.in_ok-append_line.ensures.ok ∙ ap (λ xs. xs ++ named) c.in_ok-append_version.ensures)
    ∙ append_assoc (old ++ first) named origin ∙ append_assoc old first (named ++ origin)
