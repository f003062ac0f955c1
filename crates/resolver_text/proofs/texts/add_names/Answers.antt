use Rattle.std.proofs.Common.{arith, map}
use Rattle.std.specs.Prelude.{filter}
use Rattle.std.specs.String.{string_bytes}
use Rattle.domain_names.specs.NameText.{is_name}
use Rattle.resolver_text.proofs.KeptTexts.{enough_views, filtered_parted, reads_no_more}
use Rattle.resolver_text.proofs.texts.add_names.Goals as goal

pub returns-then-len-limit : goal.returns-then-len-limit
returns-then-len-limit c =
    reads_no_more (λ xs. filter is_name (map (λ name. string_bytes name) xs)) (filtered_parted (λ name. string_bytes name) is_name)
    c.args.limit c.args.part.now.names.items c.loop-name.name-index _ _ c.loop-name.invariant
    (enough_views (λ name. name.now) c.args.limit c.loop-name.names.items (omega (arith, c.if-len-limit.true, c.len.ensures)))
