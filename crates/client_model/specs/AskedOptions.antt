-- Which options a client asks for, as a whole.
use Rattle.std.specs.Prelude.{◌≡◌, ℕ, ◌<◌, ◌≤◌, true, false, List, [], ◌∷◌, ◌++◌, length}
use Rattle.v4_client.specs.Messages.{is_among}
use Rattle.client_model.specs.ClientSettings.{codes_of, most_codes, wanted_codes}

-- no code is there twice
abbrev pub AreUnlike : List ℕ → Type 0
AreUnlike [] = Unit {0}
AreUnlike (code ∷ codes) = (is_among codes code ≡ false) × AreUnlike codes

-- Each code that is asked for is one of every client's or is configured, none is refused, and none is asked for twice.
-- Where there are fewer than the most, every such code is asked for.
pub record AsksRightly (asked refused : List ℕ) : Type 0 where
  pub wanted : (code : ℕ) → is_among (codes_of asked refused) code ≡ true → is_among (wanted_codes ++ asked) code ≡ true
  pub taken : (code : ℕ) → is_among (codes_of asked refused) code ≡ true → is_among refused code ≡ false
  pub once : AreUnlike (codes_of asked refused)
  pub few : length (codes_of asked refused) ≤ most_codes
  pub whole : length (codes_of asked refused) < most_codes
      → (code : ℕ) → is_among (wanted_codes ++ asked) code ≡ true → is_among refused code ≡ false
      → is_among (codes_of asked refused) code ≡ true
