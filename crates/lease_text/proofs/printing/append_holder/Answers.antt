use Rattle.std.proofs.Common.{◌++◌, ap, ◌∙◌}
use Rattle.net_types.specs.NameText.{name_text}
use Rattle.net_types.specs.TextLines.{ended, lines_text}
use Rattle.lease_text.specs.LeaseLines.{interface_word, origin_lines, version_line}
use Rattle.lease_text.proofs.Printed.{two_then}
use Rattle.lease_text.proofs.printing.append_holder.Goals as goal

pub returns : goal.returns
returns c =
    let lease = c.args.lease.now in
    let named = c.in_ok-append_line.ensures.ok ∙ ap (λ xs. xs ++ ended (interface_word ++ name_text lease.name)) c.in_ok-append_version.ensures in
    c.in_ok-append_origin.ensures ∙ ap (λ xs. xs ++ lines_text (origin_lines lease.origin)) named
    ∙ two_then c.args.into.now.items (version_line lease.origin) (interface_word ++ name_text lease.name) (origin_lines lease.origin)
