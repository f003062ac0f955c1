-- What a judge of static addresses tells is their basis.
use Rattle.std.proofs.Common.{◌≡◌, ◌⊎◌, ℕ, Bool, true, false, not, ◌&&◌, List, Option, Some, None, inl, inr, refl, sym, subst, ap, ◌∙◌, arith}
use Rattle.std.proofs.lemmas.Bool.Decides.{nat_tests}
use Rattle.std.specs.Prelude.{◌==◌}
use Rattle.net_types.specs.declared.address.Net.{Net}
use Rattle.net_types.specs.declared.address.Net.TheVariants.{V4, V6}
use Rattle.net_types.specs.declared.address.Net4.{Net4}
use Rattle.net_types.specs.declared.address.Net6.{Net6}
use Rattle.settings.specs.declared.interfaces.IfConf.{IfConf}
use Rattle.audit_words.specs.EvidenceWords.Entries.{Entry}
use Rattle.audit_words.specs.EvidenceWords.Inputs.{Site, has_carrier, is_stopped}
use Rattle.evidence.specs.StaticBasis.{IsStatic4, IsStatic6, StaticBasis}
use Rattle.static_judge.specs.Judge.{StaticsHaveBases, gives_in, is_configured, is_same4, is_same6}

same : (a b : ℕ) → (a == b) ≡ true → a ≡ b
same a b e = grind (arith, nat_tests)

alike : (a : ℕ) → (a == a) ≡ true
alike a = grind (arith, nat_tests)

parts : (a b : Bool) → (a && b) ≡ true → (a ≡ true) × (b ≡ true)
parts true b h = (refl, h)
parts false b h = absurd cc

both : (a b : Bool) → a ≡ true → b ≡ true → (a && b) ≡ true
both true b h k = k
both false b h k = absurd cc

abbrev net4 : ℕ → ℕ → Net4
net4 number len = record { ip = record { number = number }; len = len }

abbrev net6 : ℕ → ℕ → Net6
net6 number len = record { ip = record { number = number }; len = len }

same_net4 : (a b : Net4) → a.ip.number ≡ b.ip.number → a.len ≡ b.len → a ≡ b
same_net4 a b p q = ap (λ (n : ℕ). net4 n a.len) p ∙ ap (λ (n : ℕ). net4 b.ip.number n) q

same_net6 : (a b : Net6) → a.ip.number ≡ b.ip.number → a.len ≡ b.len → a ≡ b
same_net6 a b p q = ap (λ (n : ℕ). net6 n a.len) p ∙ ap (λ (n : ℕ). net6 b.ip.number n) q

static4 : (conf : IfConf) (own : Option Net4) (net : Net4) → conf.address ≡ own → is_same4 own net ≡ true → IsStatic4 conf (V4 net)
static4 conf None net is h = absurd cc
static4 conf (Some own) net is h =
    let p = parts (own.ip.number == net.ip.number) (own.len == net.len) h in
    record { address = own; configured = is; gives = ap V4 (sym (same_net4 own net (same own.ip.number net.ip.number p.0) (same own.len net.len p.1))) }

static6 : (conf : IfConf) (own : Option Net6) (net : Net6) → conf.address6 ≡ own → is_same6 own net ≡ true → IsStatic6 conf (V6 net)
static6 conf None net is h = absurd cc
static6 conf (Some own) net is h =
    let p = parts (own.ip.number == net.ip.number) (own.len == net.len) h in
    record { address = own; configured = is; gives = ap V6 (sym (same_net6 own net (same own.ip.number net.ip.number p.0) (same own.len net.len p.1))) }

off : (b : Bool) → not b ≡ true → b ≡ false
off true h = absurd cc
off false h = refl

on : (b : Bool) → b ≡ false → not b ≡ true
on true h = absurd cc
on false h = refl

is_static : (conf : IfConf) (net : Net) → is_configured conf net ≡ true → IsStatic4 conf net ⊎ IsStatic6 conf net
is_static conf (V4 net) h = inl (static4 conf conf.address net refl h)
is_static conf (V6 net) h = inr (static6 conf conf.address6 net refl h)

configured4 : (conf : IfConf) (net : Net) → IsStatic4 conf net → is_configured conf net ≡ true
configured4 conf net s =
    subst (λ (n : Net). is_configured conf n ≡ true) (sym s.gives)
    (subst (λ (own : Option Net4). is_same4 own s.address ≡ true) (sym s.configured)
    (both (s.address.ip.number == s.address.ip.number) (s.address.len == s.address.len) (alike s.address.ip.number) (alike s.address.len)))

configured6 : (conf : IfConf) (net : Net) → IsStatic6 conf net → is_configured conf net ≡ true
configured6 conf net s =
    subst (λ (n : Net). is_configured conf n ≡ true) (sym s.gives)
    (subst (λ (own : Option Net6). is_same6 own s.address ≡ true) (sym s.configured)
    (both (s.address.ip.number == s.address.ip.number) (s.address.len == s.address.len) (alike s.address.ip.number) (alike s.address.len)))

configured : (conf : IfConf) (net : Net) → IsStatic4 conf net ⊎ IsStatic6 conf net → is_configured conf net ≡ true
configured conf net h = elim h [ inl four ↦ configured4 conf net four | inr six ↦ configured6 conf net six ]

has_basis : (site : Site) (net : Net) (past : List Entry) → gives_in site net past ≡ true → StaticBasis site net past
has_basis site net past h =
    let p = parts (has_carrier site past && not (is_stopped past)) (is_configured site.managed.conf net) h in
    let q = parts (has_carrier site past) (not (is_stopped past)) p.0 in
    record { is_static = is_static site.managed.conf net p.1; up = q.0; running = off (is_stopped past) q.1 }

is_given : (site : Site) (net : Net) (past : List Entry) → StaticBasis site net past → gives_in site net past ≡ true
is_given site net past b =
    both (has_carrier site past && not (is_stopped past)) (is_configured site.managed.conf net)
    (both (has_carrier site past) (not (is_stopped past)) b.up (on (is_stopped past) b.running)) (configured site.managed.conf net b.is_static)

pub bases : StaticsHaveBases
bases site net past = (has_basis site net past, is_given site net past)
