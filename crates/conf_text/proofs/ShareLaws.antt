-- Shares of a line, one after another.
use Rattle.std.proofs.Common.{◌≡◌, ℕ, ◌+◌, ◌<◌, List, [], ◌∷◌, ◌++◌, length, take, get_or, refl, sym, ap, ◌∙◌}
use Rattle.std.proofs.lemmas.List.{take_more}
use Rattle.net_types.specs.declared.interface.IfSpec.{IfSpec}
use Rattle.prefix_share.specs.declared.share.Share.{Share}
use Rattle.conf_directives.specs.declared.values.ShareLine.{ShareLine}
use Rattle.conf_text.specs.AssociationSteps.{taken_on}
use Rattle.conf_text.specs.Shares.{share_of, shares_taken, taken_after, taken_with}
use Rattle.conf_text.proofs.ListLaws.{with_found}

taken_last : (taken shares : List Share) (share : Share) → taken_after taken (shares ++ share ∷ []) ≡ taken_with (taken_after taken shares) share
taken_last taken [] share = refl
taken_last taken (first ∷ shares) share = taken_last (taken_with taken first) shares share

pub share_step : (specs : List IfSpec) (hint : ℕ) (lines : List ShareLine) (at : ℕ) (line : ShareLine) (now next : List Share) → at < length lines
    → now ≡ shares_taken specs hint (take at lines) → next ≡ taken_on now (share_of specs hint (get_or lines at line))
    → next ≡ shares_taken specs hint (take (at + 1) lines)
share_step specs hint lines at line now next within so_far more =
    more
    ∙ ap (λ (taken : List Share). taken_on taken (share_of specs hint (get_or lines at line))) so_far
    ∙ sym (ap (shares_taken specs hint) (take_more lines at line within)
    ∙ with_found (share_of specs hint) (taken_after []) taken_on (λ xs. refl) (taken_last []) (take at lines) (get_or lines at line))
