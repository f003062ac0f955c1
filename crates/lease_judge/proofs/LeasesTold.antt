-- The test of a leased address tells its basis.
use Rattle.std.proofs.Common.{◌≡◌, ℕ, Bool, true, false, ◌&&◌, ◌||◌, List, Option, Some, None, refl, sym, subst, ap, ◌∙◌, arith}
use Rattle.std.proofs.lemmas.Bool.Decides.{nat_tests}
use Rattle.std.specs.Prelude.{◌==◌}
use Rattle.net_types.specs.declared.address.Ip4.{Ip4}
use Rattle.net_types.specs.declared.address.Net.{Net}
use Rattle.net_types.specs.declared.address.Net.TheVariants.{V4, V6}
use Rattle.net_types.specs.declared.address.Net4.{Net4}
use Rattle.v4_client.specs.Answers.{is_unexpired}
use Rattle.evidence_words.specs.Entries.{Entry}
use Rattle.evidence_words.specs.Inputs.{Site}
use Rattle.evidence_words.specs.Probed.{Probed}
use Rattle.own_frames4.specs.LeaseEvidence.LeaseBasis.{Calm}
use Rattle.lease_judge.specs.Judge.{Granted, judge_in}
use Rattle.lease_judge.specs.ProbedTurns.{calm_in, probed_in}
use Rattle.lease_judge.specs.Leased.{is_same, grants, is_probed, is_leased}
use Rattle.lease_judge.specs.Laws.{IsJudged, ProbesAreJudged, LeasesAreJudged}
use Rattle.lease_judge.proofs.Judging.{bases_judged}
use Rattle.lease_judge.proofs.ProbedTold.{are_probed, probed_stand, lease_calm_tells}

both : (a b : Bool) → a ≡ true → b ≡ true → (a && b) ≡ true
both true b one other = other
both false b one other = one

parts : (a b : Bool) → (a && b) ≡ true → (a ≡ true) × (b ≡ true)
parts true b h = (refl, h)
parts false b h = absurd cc

abbrev WasProbed : Site → Ip4 → List Entry → Type 0
WasProbed site addr past = Probed (Calm site) (λ first before. Unit {0}) site addr past

probed : (site : Site) (addr : Ip4) (past : List Entry) → probed_in (calm_in site) site addr past ≡ true → WasProbed site addr past
probed site addr past h = are_probed (Calm site) (calm_in site) (lease_calm_tells site) site addr past h

stands : (site : Site) (addr : Ip4) (past : List Entry) → WasProbed site addr past → probed_in (calm_in site) site addr past ≡ true
stands site addr past p = probed_stand (Calm site) (calm_in site) (lease_calm_tells site) site addr past p

pub probes_judged : ProbesAreJudged
probes_judged site addr past = (probed site addr past, stands site addr past)

-- ---- one address

alike : (a b : ℕ) → a ≡ b → (a == b) ≡ true
alike a b e = grind (arith, nat_tests)

same : (a b : ℕ) → (a == b) ≡ true → a ≡ b
same a b e = grind (arith, nat_tests)

net_of : (net other : Net4) → is_same net other ≡ true → net ≡ other
net_of net other h =
    let p = parts (net.ip.number == other.ip.number) (net.len == other.len) h in
    λ i. record { ip = record { number = same net.ip.number other.ip.number p.0 i }; len = same net.len other.len p.1 i }

itself : (net : Net4) → is_same net net ≡ true
itself net = both (net.ip.number == net.ip.number) (net.len == net.len) (alike net.ip.number net.ip.number refl) (alike net.len net.len refl)

unless : (noarp probed : Bool) → (noarp || probed) ≡ true → noarp ≡ false → probed ≡ true
unless true probed h off = absurd cc
unless false probed h off = h

if_asked : (noarp probed : Bool) → (noarp ≡ false → probed ≡ true) → (noarp || probed) ≡ true
if_asked true probed h = refl
if_asked false probed h = h refl

module _ (site : Site) (now : ℕ) (past : List Entry) where
  by_grant : (net : Net4) (kept : Option Granted) → (judge_in site past).granted ≡ kept → (grants kept net now && is_probed site net.ip past) ≡ true
      → IsJudged site (V4 net) now past
  by_grant net None is h = absurd cc
  by_grant net (Some granted) is h =
      let p = parts (grants (Some granted) net now) (is_probed site net.ip past) h in
      let q = parts (is_same net granted.terms.net) (is_unexpired granted.opened.exchange.first granted.terms.lease now) p.0 in
      let given : net ≡ granted.terms.net = net_of net granted.terms.net q.0 in
      record {
        granted = granted;
        stands = is;
        gives = ap (λ (n : Net4). V4 n) given;
        unexpired = q.1;
        probed = λ off. subst (λ (n : Net4). WasProbed site n.ip past) given
            (probed site net.ip past (unless site.managed.conf.flags.noarp (probed_in (calm_in site) site net.ip past) p.1 off));
      }

  judged : (net : Net) → is_leased site net now past ≡ true → IsJudged site net now past
  judged (V4 net) h = by_grant net (judge_in site past).granted refl h
  judged (V6 net) h = absurd cc

  given_is : (net : Net) (it : IsJudged site net now past) → is_leased site (V4 it.granted.terms.net) now past ≡ true
  given_is any it =
      let net = it.granted.terms.net in
      both (grants (judge_in site past).granted net now) (is_probed site net.ip past)
      (ap (λ (kept : Option Granted). grants kept net now) it.stands
      ∙ both (is_same net net) (is_unexpired it.granted.opened.exchange.first it.granted.terms.lease now) (itself net) it.unexpired)
      (if_asked site.managed.conf.flags.noarp (probed_in (calm_in site) site net.ip past) (λ off. stands site net.ip past (it.probed off)))

  leased : (net : Net) (it : IsJudged site net now past) → is_leased site net now past ≡ true
  leased net it = subst (λ (n : Net). is_leased site n now past ≡ true) (sym it.gives) (given_is net it)

pub leases_judged : LeasesAreJudged
leases_judged site net now past =
    (λ h. (bases_judged site net now past).1 (judged site now past net h), λ basis. leased site now past net ((bases_judged site net now past).0 basis))
