use Rattle.std.proofs.Common.{◌≡◌, map, ap, ◌∙◌, sym}
use Rattle.conf_words.specs.Arguments.{shown_argument}
use Rattle.conf_values.proofs.Views.{map_viewed}
use Rattle.conf_values.proofs.words.argument_texts.Goals as goal

pub returns : goal.returns
returns c =
    let items : c.deref.result.now ≡ c.in_ok-arguments.arguments.items = cc in
    record {
      arguments = map shown_argument c.in_ok-arguments.arguments.items;
      follow = c.in_ok-arguments.ensures;
      are = ap (map (λ text. text.now)) (c.in_ok-texts_of.ensures ∙ ap (map (λ argument. argument.text)) items)
          ∙ (map_viewed (λ text. text.now) (λ argument. argument.text) c.in_ok-arguments.arguments.items
          ∙ sym (map_viewed (λ argument. argument.text) shown_argument c.in_ok-arguments.arguments.items));
    }
