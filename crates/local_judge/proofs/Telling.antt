-- What a judge tells is the basis of a link-local address.
use Rattle.std.proofs.Common.{◌≡◌, ℕ, ◌≤◌, Bool, true, false, ◌&&◌, nat_le, List, refl, sym, subst, ap, arith}
use Rattle.std.proofs.lemmas.Bool.Decides.{nat_tests}
use Rattle.std.specs.Prelude.{◌==◌}
use Rattle.std.specs.Option.{is_some}
use Rattle.net_types.specs.AddressText.{FitsIp4}
use Rattle.net_types.specs.declared.address.Ip4.{Ip4}
use Rattle.net_types.specs.declared.address.Net.{Net}
use Rattle.net_types.specs.declared.address.Net.TheVariants.{V4, V6}
use Rattle.net_types.specs.declared.address.Net4.{Net4}
use Rattle.ipv4ll.specs.Choice.{IsChoice}
use Rattle.evidence_words.specs.ClientModel.WantedRows.{local_net}
use Rattle.evidence_words.specs.Entries.{Entry as Told}
use Rattle.evidence_words.specs.Inputs.{Site}
use Rattle.local_evidence.specs.LinkLocalBasis.{LinkLocalBasis}
use Rattle.local_judge.specs.Choices.{choice_in}
use Rattle.local_judge.specs.Judge.{ChosenHaveBases, Tells, choice_at, gives_in, in_range, stands_in}
use Rattle.local_judge.specs.declared.judge.LocalJudge.{LocalJudge}
use Rattle.local_judge.proofs.ChoicesTold.{choices}
use Rattle.local_judge.proofs.Moments.{at_most, tested, both, parts}

same : (a b : ℕ) → (a == b) ≡ true → a ≡ b
same a b e = grind (arith, nat_tests)

alike : (a b : ℕ) → a ≡ b → (a == b) ≡ true
alike a b e = grind (arith, nat_tests)

is_choice : (addr : Ip4) → in_range addr ≡ true → IsChoice addr
is_choice addr h =
    let p = parts (nat_le 0xa9fe_0100 addr.number) (nat_le addr.number 0xa9fe_feff) h in
    record { at_least = at_most 0xa9fe_0100 addr.number p.0; at_most = at_most addr.number 0xa9fe_feff p.1 }

is_in_range : (addr : Ip4) → IsChoice addr → in_range addr ≡ true
is_in_range addr c =
    both (nat_le 0xa9fe_0100 addr.number) (nat_le addr.number 0xa9fe_feff) (tested 0xa9fe_0100 addr.number c.at_least)
    (tested addr.number 0xa9fe_feff c.at_most)

is_local : (net : Net4) → net.len ≡ 16 → net ≡ local_net net.ip
is_local net e = ap (λ (len : ℕ). record { ip = net.ip; len = len }) e

module _ (site : Site) (past : List Told) where
  has_basis : (net : Net) → gives_in site net past ≡ true → LinkLocalBasis site net past
  has_basis (V4 net) h =
      let p = parts (net.len == 16 && in_range net.ip) (is_some (choice_in site net.ip past)) h in
      let q = parts (net.len == 16) (in_range net.ip) p.0 in
      subst (λ (n : Net4). LinkLocalBasis site (V4 n) past) (sym (is_local net (same net.len 16 q.0)))
      ((choices site net.ip past).yes (is_choice net.ip q.1) p.1)
  has_basis (V6 net) h = absurd cc

  is_given : (net : Net) → LinkLocalBasis site net past → gives_in site net past ≡ true
  is_given net h =
      let local : LinkLocalBasis site (V4 (local_net h.addr)) past = subst (λ (n : Net). LinkLocalBasis site n past) h.gives h in
      subst (λ (n : Net). gives_in site n past ≡ true) (sym h.gives)
      (both (16 == 16 && in_range h.addr) (is_some (choice_in site h.addr past))
      (both (16 == 16) (in_range h.addr) refl (is_in_range h.addr h.in_range)) ((choices site h.addr past).no local))

pub bases : ChosenHaveBases
bases site net past = (has_basis site past net, is_given site past net)

-- ---- what the judge holds of one address

pub in_bounds : (addr : Ip4) → in_range addr ≡ true → FitsIp4 addr
in_bounds addr h = let c = is_choice addr h in let most : addr.number ≤ 0xa9fe_feff = c.at_most in omega arith

pub if_in_range : (of_local range mine told : Bool) → (range ≡ true → mine ≡ told) → (of_local && range && mine) ≡ (of_local && range && told)
if_in_range true true mine told h = h refl
if_in_range true false mine told h = refl
if_in_range false range mine told h = refl

pub is_told : (judge : LocalJudge) (site : Site) (past : List Told) → Tells judge site past → (net : Net4)
    → stands_in judge net ≡ gives_in site (V4 net) past
is_told judge site past tells net =
    if_in_range (net.len == 16) (in_range net.ip) (is_some (choice_at judge.chosen.items net.ip)) (is_some (choice_in site net.ip past))
    (λ h. ap is_some (tells.chosen net.ip (in_bounds net.ip h)))
