-- What is true of the calls of a saving, a removal and a clearing over every store.
use Rattle.std.specs.Prelude.{ℕ, List, Option}
use Rattle.world.specs.StoreFails.{StoreFails}
use Rattle.world.specs.StoreCalls.{StoreTold}
use Rattle.world.specs.SoundStores.{IsSound}
use Rattle.lease_file.specs.WholeFiles.{SavesWhole, RemovesWhole, KeepsFiles}

abbrev pub SavingIsWhole : Type 0
SavingIsWhole = (failing : Option StoreFails) (name bytes : List ℕ) (before after : StoreTold) → IsSound before
    → SavesWhole failing name bytes before after

abbrev pub RemovingIsWhole : Type 0
RemovingIsWhole = (failing : Option StoreFails) (name : List ℕ) (before after : StoreTold) → IsSound before
    → RemovesWhole failing name before after

abbrev pub OthersStay : Type 0
OthersStay = (failing : Option StoreFails) (before after : StoreTold) → IsSound before → KeepsFiles failing before after
