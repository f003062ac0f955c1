-- What the code keeps of the addresses that are probed, turn by turn.
use Rattle.std.proofs.Common.{◌≡◌, ℕ, Bool, true, false, not, ◌&&◌, ◌||◌, List, [], ◌∷◌, ◌++◌, refl, subst, ap, ◌∙◌, filter, cond, arith}
use Rattle.std.proofs.lemmas.Bool.Decides.{nat_tests}
use Rattle.std.proofs.lemmas.List.Folds.{list_any-append}
use Rattle.std.specs.Prelude.{◌==◌}
use Rattle.std.specs.List.{list_any}
use Rattle.net_types.specs.declared.address.Ip4.{Ip4}
use Rattle.evidence_words.specs.Entries as told
use Rattle.evidence_words.specs.Inputs as told_of
use Rattle.audit_words.specs.Shown.{entry_shown, site_shown}
use Rattle.audit_words.specs.declared.shown.Entry.{Entry}
use Rattle.audit_words.specs.declared.shown.Site.{Site}
use Rattle.local_judge.specs.ProbeTables.ByAddress.{is_addr}
use Rattle.local_judge.specs.ProbeTables.ProbeTimes.{is_past, no_probes, times_in}
use Rattle.local_judge.specs.ProbeTables.declared.times.ProbeTimes.{ProbeTimes}
use Rattle.local_judge.specs.ProbeTables.Table as table
use Rattle.local_judge.specs.ProbeTables.Table.{times_of}
use Rattle.local_judge.proofs.ProbeTables.Requests.{same_address}
use Rattle.local_judge.proofs.ProbeTables.Standing.{holds_on}
use Rattle.lease_judge.specs.ProbedTurns.{calm_in}
use Rattle.lease_judge.specs.Probes.{AreFresh, Holds, IsTurned, is_fresh, is_ready, probed_of}
use Rattle.lease_judge.specs.declared.probes.LeaseProbes.{LeaseProbes}

same : (a b : ℕ) → (a == b) ≡ true → a ≡ b
same a b e = grind (arith, nat_tests)

-- ---- the addresses that become probed ones

module _ (test : Ip4 → Bool) (addr : Ip4) where
  abbrev among : List Ip4 → Bool
  among addrs = list_any (is_addr addr) addrs

  kept_first : (keeps : Bool) (a : Ip4) (rest : List Ip4) → among (cond keeps (a ∷ rest) rest) ≡ ((keeps && is_addr addr a) || among rest)
  kept_first true a rest = refl
  kept_first false a rest = refl

  one_of : (keeps here rest : Bool) → (here ≡ true → keeps ≡ test addr) → ((keeps && here) || (rest && test addr)) ≡ ((here || rest) && test addr)
  one_of keeps true rest alike = rw (alike refl) (with_it (test addr) rest)
    where
      with_it : (b rest : Bool) → ((b && true) || (rest && b)) ≡ b
      with_it true rest = refl
      with_it false true = refl
      with_it false false = refl
  one_of true false rest alike = refl
  one_of false false rest alike = refl

  filtered : (addrs : List Ip4) → among (filter test addrs) ≡ (among addrs && test addr)
  filtered [] = refl
  filtered (a ∷ addrs) =
      kept_first (test a) a (filter test addrs)
      ∙ ap (λ (rest : Bool). (test a && is_addr addr a) || rest) (filtered addrs)
      ∙ one_of (test a) (is_addr addr a) (among addrs) (λ here. ap test (same_address a addr (same a.number addr.number here)))

covered : (among ready probed : Bool) → (ready ≡ true → among ≡ true) → (among && (not probed && ready)) ≡ (not probed && ready)
covered true ready probed h = refl
covered false true probed h = absurd (cc (h refl))
covered false false true h = refl
covered false false false h = refl

pub fresh_so : (probes : LeaseProbes) (now : ℕ) (ready fresh : List Ip4) → table.AreProbed 2000 now probes.table ready
    → fresh ≡ filter (is_fresh probes now) ready → AreFresh probes now fresh
fresh_so probes now ready fresh are is =
    λ addr. ap (list_any (is_addr addr)) is ∙ filtered (is_fresh probes now) addr ready
    ∙ covered (list_any (is_addr addr) ready) (is_ready probes now addr) (probed_of probes addr) (are addr)

-- ---- a turn

more : (probed ready : Bool) → (probed || (not probed && ready)) ≡ (ready || probed)
more true true = refl
more true false = refl
more false true = refl
more false false = refl

pub calm_so : (site : Site) (entry : Entry) (old new : LeaseProbes) (fresh : List Ip4) → AreFresh old entry.moment fresh
    → new.probed.items ≡ old.probed.items ++ fresh → table.IsTurned site entry true old.table new.table → IsTurned site entry true old new
calm_so site entry old new fresh are is turned = record {
  table = turned;
  probed = λ addr.
      ap (list_any (is_addr addr)) is ∙ list_any-append (is_addr addr) old.probed.items fresh
      ∙ ap (λ (b : Bool). probed_of old addr || b) (are addr)
      ∙ more (probed_of old addr) (is_ready old entry.moment addr);
}

pub broken_so : (site : Site) (entry : Entry) (old new : LeaseProbes) → new.probed.items ≡ [] → table.IsTurned site entry false old.table new.table
    → IsTurned site entry false old new
broken_so site entry old new is turned = record { table = turned; probed = λ addr. ap (list_any (is_addr addr)) is }

-- ---- the turns

pub none_held : (site : told_of.Site) (probes : LeaseProbes) → ((addr : Ip4) → times_of probes.table addr ≡ no_probes) → probes.probed.items ≡ []
    → Holds site [] probes
none_held site probes none is = record { table = λ addr fits. none addr; probed = λ addr fits. ap (list_any (is_addr addr)) is }

pub still_held : (site : Site) (entry : Entry) (past : List told.Entry) (calm : Bool) (old new : LeaseProbes)
    → calm ≡ calm_in (site_shown site) (entry_shown entry) past → Holds (site_shown site) past old → IsTurned site entry calm old new
    → Holds (site_shown site) (entry_shown entry ∷ past) new
still_held site entry past calm old new is held turned = record {
  table =
      holds_on (calm_in (site_shown site)) site entry past old.table new.table held.table
      (subst (λ (b : Bool). table.IsTurned site entry b old.table new.table) is turned.table);
  probed = λ addr fits.
      turned.probed addr
      ∙ ap (λ (b : Bool). b && (is_ready old entry.moment addr || probed_of old addr)) is
      ∙ ap (λ (t : ProbeTimes). calm_in (site_shown site) (entry_shown entry) past && (is_past 2000 t.third entry.moment || probed_of old addr))
      (held.table addr fits)
      ∙ ap (λ (b : Bool). calm_in (site_shown site) (entry_shown entry) past
      && (is_past 2000 (times_in (calm_in (site_shown site)) (site_shown site) addr past).third entry.moment || b))
      (held.probed addr fits);
}
