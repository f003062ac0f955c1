use Rattle.std.proofs.Common.{arith, ◌∙◌, map, flat_map}
use Rattle.resolver_text.specs.Parts.{part_content}
use Rattle.resolver_text.specs.Texts.{part_servers}
use Rattle.resolver_text.proofs.KeptTexts.{flat_parted, kept_first, reads_all, reads_no_more, reads_part}
use Rattle.resolver_text.proofs.texts.first_servers.Goals as goal

pub returns-then-len-limit : goal.returns-then-len-limit
returns-then-len-limit c =
    c.into_texts.ensures
    ∙ kept_first c.args.limit _ _
    (reads_no_more (λ xs. flat_map part_servers (map (λ p. part_content p.now) xs)) (flat_parted (λ p. part_content p.now) part_servers)
    c.args.limit c.args.parts.now c.loop-part.part-index _ _ c.loop-part.invariant
    (omega (arith, c.if-len-limit.true, c.len.ensures)))

pub loop-part-preserved : goal.loop-part-preserved
loop-part-preserved c =
    reads_part (λ p. part_content p.now) part_servers c.args.limit c.args.parts.now c.loop-part.part-index _ _ c.loop-part.invariant
    c.part-item.result c.loop-part-test.true c.part-item.is _ c.in_ok-add_part.ensures

pub returns : goal.returns
returns c =
    c.into_texts-2.ensures
    ∙ kept_first c.args.limit _ _
    (reads_all (λ xs. flat_map part_servers (map (λ p. part_content p.now) xs)) (flat_parted (λ p. part_content p.now) part_servers)
    c.args.limit c.args.parts.now c.loop-part.part-index _ _ c.loop-part.invariant c.loop-part-test.false)
