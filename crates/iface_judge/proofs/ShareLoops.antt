-- The lengths of prefixes and the shares, one after another.
use Rattle.std.proofs.Common.{◌≡◌, ℕ, suc, ◌+◌, ◌-◌, ◌^◌, ◌<◌, ◌≤◌, ◌||◌, Bool, true, false, List, length, drop, drop-cons, get_or, sym, ap, ◌∙◌, arith, add-one}
use Rattle.std.specs.Prelude.{min}
use Rattle.std.specs.List.{list_any}
use Rattle.net_types.specs.declared.address.Net6.{Net6}
use Rattle.net_types.specs.declared.interface.IfIndex.{IfIndex}
use Rattle.settings.specs.declared.dhcp6_conf.ShareConf.{ShareConf}
use Rattle.evidence_words.specs.Entries.{Entry}
use Rattle.evidence_words.specs.Inputs.{Site}
use Rattle.iface_judge.specs.HeardShares.{is_of, is_of_some, prefix_by}
use Rattle.iface_judge.proofs.SharesTold.{some_of}

-- what is at most the limit is less that much, or less what that is limited to
pub taken_off : (number added limit : ℕ) → number ≤ limit → number - min added limit ≡ number - added
taken_off number added limit less = omega (arith, less)

neither : (a b : Bool) → a ≡ false → b ≡ false → (a || b) ≡ false
neither true b h k = absurd cc
neither false b h k = k

module _ (upstream : Site) (index : IfIndex) (net : Net6) (past : List Entry) (share : ShareConf) where
  abbrev up_to : ℕ → Bool
  up_to below = is_of_some upstream index net past share below

  abbrev at : ℕ → Bool
  at len = is_of upstream index net past (prefix_by net share len)

  pub len_found : (len : ℕ) → len < 128 → at len ≡ true → up_to 128 ≡ true
  len_found len less here = some_of upstream index net past share len 128 less here

  pub len_step : (len : ℕ) → at len ≡ false → up_to len ≡ false → up_to (len + 1) ≡ false
  len_step len not_here none = ap up_to (add-one len) ∙ neither (at len) (up_to len) not_here none

  pub len_none : (len : ℕ) → 128 ≤ len → len ≤ 128 → up_to len ≡ false → up_to 128 ≡ false
  len_none len least most none = let all : len ≡ 128 = omega (arith, least, most) in sym (ap up_to all) ∙ none

-- a further element of which the test isn't so
pub any_less : {X : Type 0} (test : X → Bool) (xs : List X) (i : ℕ) (d : X) → i < length xs → test (get_or xs i d) ≡ false
    → list_any test (drop i xs) ≡ list_any test (drop (i + 1) xs)
any_less test xs i d less not_here =
    rw add-one (ap (list_any test) (drop-cons xs i d less) ∙ ap (λ (b : Bool). b || list_any test (drop (suc i) xs)) not_here)
