-- What the client's tests of an item and of an IA decide.
use Rattle.std.proofs.Common.{◌≡◌, ℕ, ◌+◌, ◌-◌, ◌*◌, ◌/◌, ◌%◌, ◌^◌, ◌≤◌, ◌⊎◌, inl, inr, true, ◌&&◌, refl, sym, ap, ◌∙◌, subst, arith}
use Rattle.std.specs.Prelude.{◌==◌, nat_le}
use Rattle.std.specs.Bool.{Decides}
use Rattle.std.proofs.lemmas.Bool.{and_parts, and_from, eqb-true, eq-eqb, leb-true, le-leb}
use Rattle.std.proofs.lemmas.Bool.Decides.{Decides-and, Decides-not, nat_tests}
use Rattle.std.proofs.lemmas.Nat.{div-add-mod', div-mul-add, mod_below, pow_pos}
use Rattle.net_types.specs.declared.address.Ip6.{Ip6}
use Rattle.net_types.specs.declared.address.Net6.{Net6}
use Rattle.v6_options.specs.declared.ia.IaKind.{IaKind}
use Rattle.v6_options.specs.declared.ia.IaKind.TheVariants.{Na, Pd}
use Rattle.v6_options.specs.declared.ia.ItemSaid.{ItemSaid}
use Rattle.v6_options.specs.Ias.{IaContent}
use Rattle.v6_items.specs.Reading.{are_ordered, cleared, net_cleared, has_len, is_read, is_readable, is_usable}
use Rattle.v6_client_laws.specs.GivenItems.{HasFront, HasLen, IsAssignable, IsHeldAs, IsWell, MayBeHeld}

-- ---- bits in front

own_front : (number behind : ℕ) → HasFront number (number / 2 ^ behind) behind
own_front number behind = record {
  rest = number % 2 ^ behind;
  fits = mod_below number (2 ^ behind) (pow_pos behind);
  whole = sym (div-add-mod' number (2 ^ behind));
}

front_is : (number front behind : ℕ) → HasFront number front behind → number / 2 ^ behind ≡ front
front_is number front behind has = ap (λ n. n / 2 ^ behind) has.whole ∙ div-mul-add front (2 ^ behind) has.rest has.fits

front_decides : (number front behind : ℕ) → Decides ((number / 2 ^ behind) == front) (HasFront number front behind)
front_decides number front behind = (
  λ e. subst (λ f. HasFront number f behind) (eqb-true (number / 2 ^ behind) front e) (own_front number behind),
  λ has. eq-eqb (number / 2 ^ behind) front (front_is number front behind has),
)

-- ---- items

address_decides : (ip : Ip6) → Decides (is_usable ip) (IsAssignable ip)
address_decides ip =
    let parts = Decides-and _ _
    (Decides-and _ _ (Decides-not _ (front_decides ip.number 0 120)) (Decides-not _ (front_decides ip.number 255 120)))
    (Decides-not _ (front_decides ip.number 0x3fa 118)) in (
      λ e. let none = parts.0 e in record { not_reserved = none.0.0; not_multicast = none.0.1; not_link_local = none.1 },
      λ is. parts.1 ((is.not_reserved, is.not_multicast), is.not_link_local),
    )

len_decides : (kind : IaKind) (len : ℕ) → Decides (has_len kind len) (HasLen kind len)
len_decides Na len = (λ e. tt, λ fits. refl)
len_decides Pd len = (λ e. grind (arith, nat_tests, e), λ fits. grind (arith, nat_tests, fits))

pub may_decides : (kind : IaKind) (said : ItemSaid) → Decides (is_read kind said) (MayBeHeld kind said)
may_decides kind said = (
  λ e.
      let parts = and_parts (nat_le said.preferred said.valid && is_usable said.net.ip) (has_len kind said.net.len) e in
      let two = and_parts (nat_le said.preferred said.valid) (is_usable said.net.ip) parts.0 in
      record {
        lifetimes = leb-true said.preferred said.valid two.0;
        address = (address_decides said.net.ip).0 two.1;
        len = (len_decides kind said.net.len).0 parts.1;
      },
  λ may.
      and_from (nat_le said.preferred said.valid && is_usable said.net.ip) (has_len kind said.net.len)
      (and_from (nat_le said.preferred said.valid) (is_usable said.net.ip) (le-leb said.preferred said.valid may.lifetimes)
      ((address_decides said.net.ip).1 may.address))
      ((len_decides kind said.net.len).1 may.len),
)

-- ---- how an item is held

without_rest : (n d : ℕ) → n - n % d ≡ n / d * d
without_rest n d = let parts : n / d * d + n % d ≡ n = div-add-mod' n d in omega arith

pub held_as : (kind : IaKind) (said : ItemSaid) → IsHeldAs kind said.net (cleared kind said).net
held_as Na said = refl
held_as Pd said = record {
  len = refl;
  front = said.net.ip.number / 2 ^ (128 - said.net.len);
  front_is = own_front said.net.ip.number (128 - said.net.len);
  number = without_rest said.net.ip.number (2 ^ (128 - said.net.len));
}

pub preferred_as : (kind : IaKind) (said : ItemSaid) → (cleared kind said).preferred ≡ said.preferred
preferred_as Na said = refl
preferred_as Pd said = refl

pub valid_as : (kind : IaKind) (said : ItemSaid) → (cleared kind said).valid ≡ said.valid
valid_as Na said = refl
valid_as Pd said = refl

abbrev net_of : (number len : ℕ) → Net6
net_of number len = record { ip = record { number = number }; len = len }

abbrev item_of : Net6 → (preferred valid : ℕ) → ItemSaid
item_of net preferred valid = record { net = net; preferred = preferred; valid = valid }

same_item : (net : Net6) (said held : ItemSaid) → held.net ≡ net → held.preferred ≡ said.preferred → held.valid ≡ said.valid
    → held ≡ item_of net said.preferred said.valid
same_item net said held same preferred valid =
    ap (λ n. item_of n held.preferred held.valid) same
    ∙ (ap (λ p. item_of net p held.valid) preferred ∙ ap (λ v. item_of net said.preferred v) valid)

pub held_is : (kind : IaKind) (said held : ItemSaid) → IsHeldAs kind said.net held.net → held.preferred ≡ said.preferred
    → held.valid ≡ said.valid → held ≡ cleared kind said
held_is Na said held net preferred valid = same_item said.net said held net preferred valid
held_is Pd said held net preferred valid =
    let size : ℕ = 2 ^ (128 - said.net.len) in
    let is : net.front ≡ said.net.ip.number / size = sym (front_is said.net.ip.number net.front (128 - said.net.len) net.front_is) in
    let number : held.net.ip.number ≡ said.net.ip.number - said.net.ip.number % size =
    net.number ∙ ap (λ front. front * size) is ∙ sym (without_rest said.net.ip.number size) in
    let same : held.net ≡ net_cleared said.net =
    ap (λ n. net_of n held.net.len) number ∙ ap (λ len. net_of (said.net.ip.number - said.net.ip.number % size) len) net.len in
    same_item (net_cleared said.net) said held same preferred valid

-- ---- an IA

ordered : (t1 t2 : ℕ) → are_ordered t1 t2 ≡ true → (t2 ≡ 0) ⊎ (t1 ≤ t2)
ordered t1 t2 e = grind (arith, nat_tests, e)

in_order : (t1 t2 : ℕ) → ((t2 ≡ 0) ⊎ (t1 ≤ t2)) → are_ordered t1 t2 ≡ true
in_order t1 t2 (inl none) = grind (arith, nat_tests, none)
in_order t1 t2 (inr less) = grind (arith, nat_tests, less)

pub well_decides : (ia : IaContent) → Decides (is_readable ia) (IsWell ia)
well_decides ia = (
  λ e.
      let parts = and_parts (ia.status == 0) (are_ordered ia.t1 ia.t2) e in
      record { went = eqb-true ia.status 0 parts.0; ordered = ordered ia.t1 ia.t2 parts.1 },
  λ well. and_from (ia.status == 0) (are_ordered ia.t1 ia.t2) (eq-eqb ia.status 0 well.went) (in_order ia.t1 ia.t2 well.ordered),
)
