use Rattle.std.proofs.Common.{◌++◌, append_assoc, ap, sym, ◌∙◌}
use Rattle.std.proofs.lemmas.Grind.{flat_map-append}
use Rattle.net_types.specs.TextLines.{ended, lines_text}
use Rattle.lease6_text.specs.Leases.{lease6_content}
use Rattle.lease6_text.specs.LeaseLines.{grant_lines, holder_lines}
use Rattle.lease6_text.proofs.printing.append_head.Goals as goal

pub returns : goal.returns
returns c =
    let lease = lease6_content c.args.lease.now in
    let holder = holder_lines lease.origin lease.name in
    let grant = grant_lines lease in
    let old = c.args.into.now.items in
    c.in_ok-append_grant.ensures ∙ ap (λ xs. xs ++ lines_text grant) c.in_ok-append_holder.ensures
    ∙ append_assoc old (lines_text holder) (lines_text grant) ∙ ap (λ xs. old ++ xs) (sym (flat_map-append ended holder grant))
