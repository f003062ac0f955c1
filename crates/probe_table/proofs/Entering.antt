-- Addresses that enter a list without a value change nothing that stands in it.
use Rattle.std.proofs.Common.{◌≡◌, ℕ, ◌+◌, ◌<◌, Bool, true, false, ◌||◌, if◌then◌else◌, List, [], ◌∷◌, ◌++◌, length, get_or, take, refl, sym, subst, ap, ◌∙◌, arith}
use Rattle.std.proofs.lemmas.Bool.Decides.{nat_tests}
use Rattle.std.proofs.lemmas.List.{take_more}
use Rattle.std.proofs.lemmas.List.Folds.{list_any-append}
use Rattle.std.specs.Prelude.{◌==◌}
use Rattle.std.specs.List.{list_any}
use Rattle.net_types.specs.declared.address.Ip4.{Ip4}
use Rattle.probe_table.specs.ByAddress.{IsEntered, is_addr, is_for, value_at}
use Rattle.probe_table.proofs.Requests.{same_address}

pub same : (a b : ℕ) → (a == b) ≡ true → a ≡ b
same a b e = grind (arith, nat_tests)

or_none : (a : Bool) → (a || false) ≡ a
or_none true = refl
or_none false = refl

regrouped : (a b c : Bool) → ((a || b) || c) ≡ (a || (b || c))
regrouped true b c = refl
regrouped false b c = refl

covered : (a b : Bool) → (b ≡ true → a ≡ true) → (a || b) ≡ a
covered true b h = refl
covered false true h = sym (h refl)
covered false false h = refl

one_more : (addr : Ip4) (addrs : List Ip4) (i : ℕ) (d : Ip4) → i < length addrs
    → list_any (is_addr addr) (take (i + 1) addrs) ≡ (list_any (is_addr addr) (take i addrs) || is_addr addr (get_or addrs i d))
one_more addr addrs i d lt =
    ap (list_any (is_addr addr)) (take_more addrs i d lt) ∙ list_any-append (is_addr addr) (take i addrs) (get_or addrs i d ∷ [])
    ∙ ap (λ (b : Bool). list_any (is_addr addr) (take i addrs) || b) (or_none (is_addr addr (get_or addrs i d)))

module _ {P V : Type 0} (key : P → Ip4) (value : P → V) (nothing : V) where
  either : (here : Bool) (p : P) → value p ≡ nothing → (if here then value p else nothing) ≡ nothing
  either true p none = none
  either false p none = refl

  stands_still : (ps : List P) (p : P) → value p ≡ nothing → (addr : Ip4)
      → value_at key value nothing (ps ++ p ∷ []) addr ≡ value_at key value nothing ps addr
  stands_still [] p none addr = either (is_for key addr p) p none
  stands_still (q ∷ ps) p none addr = ap (λ (v : V). if is_for key addr q then value q else v) (stands_still ps p none addr)

  pub none_yet : (old : List P) → IsEntered key value nothing old [] old
  none_yet old = record { same = λ addr. refl; has = λ addr. sym (or_none (list_any (is_for key addr) old)) }

  module _ (old now : List P) (addrs : List Ip4) (i : ℕ) (d : Ip4) (lt : i < length addrs)
      (so_far : IsEntered key value nothing old (take i addrs) now) where
    abbrev target : Ip4
    target = get_or addrs i d

    -- with one more of the addresses
    after : (addr : Ip4) (there : Bool) → there ≡ (list_any (is_for key addr) now || is_addr addr target)
        → there ≡ (list_any (is_for key addr) old || list_any (is_addr addr) (take (i + 1) addrs))
    after addr there is =
        is ∙ ap (λ (b : Bool). b || is_addr addr target) (so_far.has addr)
        ∙ regrouped (list_any (is_for key addr) old) (list_any (is_addr addr) (take i addrs)) (is_addr addr target)
        ∙ ap (λ (b : Bool). list_any (is_for key addr) old || b) (sym (one_more addr addrs i d lt))

    pub enters : (p : P) (new : List P) → new ≡ now ++ p ∷ [] → key p ≡ target → value p ≡ nothing
        → IsEntered key value nothing old (take (i + 1) addrs) new
    enters p new made is none = subst (λ (ps : List P). IsEntered key value nothing old (take (i + 1) addrs) ps) (sym made) (record {
      same = λ addr. stands_still now p none addr ∙ so_far.same addr;
      has = λ addr. after addr (list_any (is_for key addr) (now ++ p ∷ []))
          (list_any-append (is_for key addr) now (p ∷ [])
          ∙ ap (λ (b : Bool). list_any (is_for key addr) now || b) (or_none (is_for key addr p) ∙ ap (λ (a : Ip4). is_addr addr a) is));
    })

    there_too : list_any (is_for key target) now ≡ true → (addr : Ip4) → is_addr addr target ≡ true → list_any (is_for key addr) now ≡ true
    there_too there addr is =
        subst (λ (a : Ip4). list_any (is_for key a) now ≡ true) (same_address target addr (same target.number addr.number is)) there

    pub stays : (there : Bool) → there ≡ list_any (is_for key target) now → there ≡ true → IsEntered key value nothing old (take (i + 1) addrs) now
    stays there is so = record {
      same = so_far.same;
      has = λ addr. after addr (list_any (is_for key addr) now)
          (sym (covered (list_any (is_for key addr) now) (is_addr addr target) (λ h. there_too (sym is ∙ so) addr h)));
    }
