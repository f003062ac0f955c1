use Rattle.std.proofs.Common.{◌∙◌, List, ℕ, Some, map, rules}
use Rattle.std.specs.String.{string_bytes}
use Rattle.live_words.specs.LiveReading.{ArePlaced, places_at}
use Rattle.live_words.proofs.PlacedWords.{said_placed}
use Rattle.live_words.proofs.reading.plain_said.Goals as goal

pub returns-in-Some : goal.returns-in-Some
returns-in-Some c =
    let words : List (List ℕ) = map string_bytes c.args.words.now in
    let has : ArePlaced (Some c.in-Some.matches) (places_at words) = search rules in
    c.said_by.ensures ∙ said_placed c.in-Some.matches (places_at words) has
