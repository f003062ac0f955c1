-- What holds of each address that was probed three times holds where the third probe is long enough ago at some moment.
use Rattle.std.proofs.Common.{◌≡◌, ℕ, ◌+◌, ◌-◌, ◌^◌, ◌<◌, ◌≤◌, Bool, true, false, ◌||◌, nat_le, List, [], ◌∷◌, Option, Some, None, refl, sym, ap, ◌∙◌, arith}
use Rattle.std.proofs.lemmas.Bool.Decides.{nat_tests}
use Rattle.std.specs.Prelude.{◌==◌}
use Rattle.std.specs.List.{list_all, list_any}
use Rattle.net_types.specs.declared.address.Ip4.{Ip4}
use Rattle.evidence_words.specs.Entries.{Entry as Told}
use Rattle.evidence_words.specs.Inputs.{Site}
use Rattle.probe_table.specs.ByAddress.{is_addr}
use Rattle.probe_table.specs.ProbeTimes.{is_past}
use Rattle.probe_table.specs.Table.{AreProbed, times_of}
use Rattle.probe_table.specs.declared.times.ProbeTimes.{ProbeTimes}
use Rattle.probe_table.proofs.Requests.{same_address}
use Rattle.local_judge.specs.Judge.{Tells, choice_at}
use Rattle.local_judge.specs.Settled.{IsSettled, is_unused}
use Rattle.local_judge.specs.declared.judge.LocalJudge.{LocalJudge}
use Rattle.local_judge.proofs.Moments.{at_most, tested, parts}

same : (a b : ℕ) → (a == b) ≡ true → a ≡ b
same a b e = grind (arith, nat_tests)

-- a moment that is two seconds ago at one of 64 bits isn't after the last of these
pub at_last : (moment : Option ℕ) (now : ℕ) → now < 2 ^ 64 → is_past 2000 moment now ≡ true → is_past 0 moment (2 ^ 64 - 1) ≡ true
at_last None now fits past = past
at_last (Some at) now fits past =
    let order : at + 2000 ≤ now = at_most (at + 2000) now past in
    tested (at + 0) (2 ^ 64 - 1) (omega arith)

-- a test that holds of all holds of one among them
pub one_among : (test : Ip4 → Bool) (addr : Ip4) (addrs : List Ip4) → list_all test addrs ≡ true → list_any (is_addr addr) addrs ≡ true
    → test addr ≡ true
one_among test addr [] all among = absurd cc
one_among test addr (a ∷ addrs) all among =
    let p = parts (test a) (list_all test addrs) all in at (is_addr addr a) refl among p.0 (one_among test addr addrs p.1)
  where
    at : (here : Bool) → is_addr addr a ≡ here → (here || list_any (is_addr addr) addrs) ≡ true → test a ≡ true
        → (list_any (is_addr addr) addrs ≡ true → test addr ≡ true) → test addr ≡ true
    at true is found first others = ap test (sym (same_address a addr (same a.number addr.number is))) ∙ first
    at false is found first others = others found

pub settled_so : (judge : LocalJudge) (addrs : List Ip4) (settled : Bool) → AreProbed 0 (2 ^ 64 - 1) judge.probed addrs
    → settled ≡ list_all (λ addr. is_unused (choice_at judge.chosen.items addr)) addrs → settled ≡ true → (site : Site) (past : List Told)
    → Tells judge site past → IsSettled site past
settled_so judge addrs settled probed tested_so holds site past tells = λ addr fits now lt thrice.
    let third = ap (λ (times : ProbeTimes). is_past 2000 times.third now) (tells.probed addr fits) ∙ thrice in
    ap is_unused (sym (tells.chosen addr fits))
    ∙ one_among (λ a. is_unused (choice_at judge.chosen.items a)) addr addrs (sym tested_so ∙ holds)
    (probed addr (at_last (times_of judge.probed addr).third now lt third))
