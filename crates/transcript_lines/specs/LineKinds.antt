-- By which word a line begins.
use Rattle.std.specs.Prelude.{ℕ, List, [], ◌∷◌, codes, Option, Some, None}
use Rattle.net_types.specs.Cutting.{by_word, strip_word}
use Rattle.transcript_lines.specs.declared.kinds.Kind.{Kind}
use Rattle.transcript_lines.specs.declared.kinds.Kind.TheVariants as kinds

-- the first kind with whose word the text begins, and the text after the word
abbrev pub kind_among : List (Kind × List ℕ) → List ℕ → Option (Kind × List ℕ)
kind_among [] text = None
kind_among (row ∷ rows) text = by_word (strip_word row.1 text) (λ rest. Some (row.0, rest)) (kind_among rows text)

abbrev pub words : List (Kind × List ℕ)
words =
    (kinds.Turn, codes "turn ")
    ∷ (kinds.Until, codes "until ")
    ∷ (kinds.Send, codes "send ")
    ∷ (kinds.Row, codes "row ")
    ∷ (kinds.Variable, codes "var ")
    ∷ (kinds.HostListed, codes "host list ok ")
    ∷ (kinds.HostAdd, codes "host add ")
    ∷ (kinds.HostDel, codes "host del ")
    ∷ (kinds.HookStarted, codes "hook start ")
    ∷ (kinds.HookPolled, codes "hook poll ")
    ∷ (kinds.HookDropped, codes "hook drop ")
    ∷ (kinds.HookAbandoned, codes "hook abandon ")
    ∷ (kinds.Wrote, codes "store write ")
    ∷ (kinds.Synced, codes "store sync ")
    ∷ (kinds.Renamed, codes "store rename ")
    ∷ (kinds.Removed, codes "store remove ")
    ∷ (kinds.Settled, codes "store settle ")
    ∷ (kinds.Read, codes "store read ")
    ∷ (kinds.Asides, codes "store list ok")
    ∷ (kinds.AsidesFailed, codes "store list failed")
    ∷ (kinds.HostListFailed, codes "host list failed")
    ∷ (kinds.Hold, codes "hold ")
    ∷ (kinds.EndOfLife, codes "end")
    ∷ (kinds.Life, codes "life ")
    ∷ (kinds.Start, codes "start ")
    ∷ (kinds.Interface, codes "if ")
    ∷ []

unfoldable pub kind_at : List ℕ → Option (Kind × List ℕ)
kind_at text = kind_among words text
