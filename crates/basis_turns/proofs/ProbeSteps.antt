-- What is kept of an address that is probed, after a turn more.
use Rattle.std.proofs.Common.{◌≡◌, ℕ, Bool, List, ◌∷◌, length, ◌∙◌}
use Rattle.net_types.specs.AddressText.{FitsIp4}
use Rattle.net_types.specs.declared.address.Ip4.{Ip4}
use Rattle.evidence_words.specs.Entries as told
use Rattle.evidence_words.specs.Inputs as told_of
use Rattle.audit_words.specs.Shown.{entry_shown, site_shown}
use Rattle.audit_words.specs.declared.shown.Entry.{Entry}
use Rattle.audit_words.specs.declared.shown.Site.{Site}
use Rattle.probe_table.specs.ProbeTimes.{TurnTest, is_past, times_after, times_in, turn_to}
use Rattle.probe_table.specs.Table.{IsTurned, times_of}
use Rattle.probe_table.specs.declared.times.ProbeTimes.{ProbeTimes}
use Rattle.basis_turns.specs.Chains.{chain_after, fourth_after}
use Rattle.basis_turns.specs.ProbeWalks.{Holds}
use Rattle.basis_turns.specs.declared.probe_walk.ProbeWalk.{ProbeWalk}

-- a turn of the walk by what the code makes of the entry
pub record Meets (site : Site) (entry : Entry) (addr : Ip4) (number : ℕ) (calm : Bool) (old next : ProbeWalk) : Type 0 where
  pub fits : FitsIp4 addr
  pub before : ProbeTimes
  pub after : ProbeTimes
  pub was : before ≡ times_of old.table addr
  pub is : after ≡ times_of next.table addr
  pub table : IsTurned site entry calm old.table next.table
  pub chain : next.chain ≡ chain_after number calm before after old.chain
  pub probed : next.probed ≡ fourth_after number calm (is_past 2000 before.third entry.moment) old.chain.three old.probed

module _ (test : TurnTest) (site : Site) (entry : Entry) (addr : Ip4) (past : List told.Entry) (number : ℕ) (calm : Bool) where
  abbrev s : told_of.Site
  s = site_shown site

  abbrev e : told.Entry
  e = entry_shown entry

  pub walked : (old next : ProbeWalk) → Meets site entry addr number calm old next → number ≡ length past → calm ≡ test e past
      → Holds test s addr past old → Holds test s addr (e ∷ past) next
  walked old next m count calms held =
      let table : (a : Ip4) → FitsIp4 a → times_of next.table a ≡ times_in test s a (e ∷ past) =
      λ a fits. m.table a fits ∙ (λ i. times_after (turn_to (calms i) s a e) (held.table a fits i)) in
      let before : m.before ≡ times_in test s addr past = m.was ∙ held.table addr m.fits in
      let after : m.after ≡ times_in test s addr (e ∷ past) = m.is ∙ table addr m.fits in
      record {
        table = table;
        chain = m.chain ∙ (λ i. chain_after (count i) (calms i) (before i) (after i) (held.chain i));
        probed = m.probed ∙ (λ i. fourth_after (count i) (calms i) (is_past 2000 (before i).third entry.moment) (held.chain i).three (held.probed i));
      }
