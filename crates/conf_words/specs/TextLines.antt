-- The lines of a configuration. Each ends with a line feed, before which one carriage return may stand that isn't of
-- the line; the last one may lack them.
use Rattle.std.specs.Prelude.{◌≡◌, ◌≢◌, ℕ, List, [], ◌∷◌, ◌++◌}
use Rattle.net_types.specs.Marks.{Lacks}
use Rattle.conf_words.specs.Marks.{line_feed, carriage_return}

pub data LineEnd : Type 0 where
  Feed : LineEnd
  ReturnAndFeed : LineEnd
  TextEnd : LineEnd

abbrev pub end_text : LineEnd → List ℕ
end_text Feed = line_feed ∷ []
end_text ReturnAndFeed = carriage_return ∷ line_feed ∷ []
end_text TextEnd = []

-- before a line feed alone no carriage return stands, and where the text ends, there is a line to end
abbrev pub MayEnd : LineEnd → List ℕ → List ℕ → Type 0
MayEnd Feed line rest = (before : List ℕ) → line ≢ before ++ carriage_return ∷ []
MayEnd ReturnAndFeed line rest = Unit {0}
MayEnd TextEnd line rest = (line ≢ []) × (rest ≡ [])

-- the text is a line, its end, and the rest
pub record BeginsWithLine (text line rest : List ℕ) : Type 0 where
  pub line_end : LineEnd
  pub spelled : text ≡ line ++ (end_text line_end ++ rest)
  pub lacks : Lacks line_feed line
  pub may_end : MayEnd line_end line rest
