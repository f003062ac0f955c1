use Rattle.std.proofs.Common.{◌∙◌, ap, ◌++◌, map, flat_map, take}
use Rattle.std.specs.String.{string_bytes}
use Rattle.net_types.specs.TextLines.{lines_text}
use Rattle.resolver_text.specs.Parts.{part_content, parts_content}
use Rattle.resolver_text.specs.Texts.{part_names, part_servers, unlike}
use Rattle.resolver_text.specs.ResolverText.{search_lines, server_line}
use Rattle.resolver_text.proofs.LineSteps.{whole_text}
use Rattle.resolver_text.proofs.resolver_lines.resolver.Goals as goal

pub returns : goal.returns
returns c =
    whole_text (parts_content c.args.parts.now) (map (λ p. part_content p.now) c.in_ok-ordered.ordered.items)
    (map (λ name. name.now) c.in_ok-first_names.field-0.items) (map (λ text. string_bytes text) c.in_ok-first_servers.field-0.items)
    (string_bytes c.add_search.new.text) (string_bytes c.add_servers.new.text)
    c.in_ok-ordered.ensures
    (c.in_ok-first_names.ensures ∙ ap (λ ps. take 16 (unlike (flat_map part_names (map (λ p. part_content p.now) ps)))) c.deref.ensures.value)
    (c.in_ok-first_servers.ensures ∙ ap (λ ps. take 8 (unlike (flat_map part_servers (map (λ p. part_content p.now) ps)))) c.deref-3.ensures.value)
    (c.in_ok-add_search.ensures ∙ ap (λ t. t ++ lines_text (search_lines (map (λ name. name.now) c.deref-2.result.now))) c.new-text.ensures.bytes
    ∙ ap (λ ns. lines_text (search_lines (map (λ name. name.now) ns))) c.deref-2.ensures.value)
    (c.in_ok-add_servers.ensures
    ∙ ap (λ ss. string_bytes c.add_search.new.text ++ lines_text (map server_line (map (λ server. string_bytes server) ss))) c.deref-4.ensures.value)
