-- What words that ask for no work are answered.
use Rattle.std.specs.Prelude.{ℕ, List}
use Rattle.live_words.specs.LiveWords.{BeginsLive}
use Rattle.replayed_lives.specs.TextWorks.declared.status.Status.{Status}
use Rattle.replayed_lives.specs.TextWorks.declared.status.Status.TheVariants as status

-- only those that begin with `live` may want memory
abbrev pub IsUsage : List (List ℕ) → Status → Type 0
IsUsage words status.Usage = Unit {0}
IsUsage words status.NoMemory = BeginsLive words
IsUsage words other = ⊥
