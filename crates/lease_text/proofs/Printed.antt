-- What lines laid end to end spell.
use Rattle.std.proofs.Common.{◌≡◌, ℕ, List, [], ◌∷◌, ◌++◌, append_assoc, codes, ◌∙◌}
use Rattle.std.proofs.lemmas.Grind.{flat_map-append}
use Rattle.net_types.specs.TextLines.{Line, ended, lines_text}
use Rattle.lease_text.specs.LeaseLines.{end_line}

-- a line, another, and then others
pub two_then : (old one two : List ℕ) (others : List Line) → ((old ++ ended one) ++ ended two) ++ lines_text others ≡ old ++ lines_text (one ∷ two ∷ others)
two_then old one two others = append_assoc (old ++ ended one) (ended two) (lines_text others) ∙ append_assoc old (ended one) (ended two ++ lines_text others)

-- lines, others, and the last ones
pub three_parts : (old : List ℕ) (first others last : List Line)
    → ((old ++ lines_text first) ++ lines_text others) ++ lines_text last ≡ old ++ lines_text (first ++ (others ++ last))
three_parts old first others last =
    rw (flat_map-append ended first (others ++ last), flat_map-append ended others last)
    (append_assoc (old ++ lines_text first) (lines_text others) (lines_text last) ∙ append_assoc old (lines_text first) (lines_text others ++ lines_text last))

-- the lines before those of the values, these, and the last one
pub whole_text : (heads values : List Line) → (lines_text heads ++ lines_text values) ++ codes "end\n" ≡ lines_text (heads ++ (values ++ end_line ∷ []))
whole_text heads values =
    rw (flat_map-append ended heads (values ++ end_line ∷ []), flat_map-append ended values (end_line ∷ []))
    (append_assoc (lines_text heads) (lines_text values) (codes "end\n"))
