-- What a link-local address can't be without.
use Rattle.std.proofs.Common.{◌≡◌, inl, inr, List, [], ◌∷◌, ◌++◌, sym, subst, ap, ◌∙◌, arith}
use Rattle.std.specs.List.{AllByRecursion, Contains}
use Rattle.std.proofs.lemmas.List.Elements.{All-contains, All-from_recursion}
use Rattle.net_types.specs.declared.address.Ip4.{Ip4}
use Rattle.world.specs.RowOrder.{net_number}
use Rattle.ipv4ll.specs.Choice.{IsChoice}
use Rattle.evidence_words.specs.Entries.{Entry, Offer}
use Rattle.evidence_words.specs.Inputs.{Site, offers_at}
use Rattle.local_evidence.specs.LinkLocalBasis.{AnnouncesNoOther, IsAlone, EndsByAnother, NeedsItsRange}

pub needs_range : NeedsItsRange
needs_range site addr past outside basis =
    let same : addr ≡ basis.addr = ap (λ net. record { number = net_number net }) basis.gives in
    let choice : IsChoice addr = subst IsChoice (sym same) basis.in_range in
    elim outside [
      | inl below ↦ (let least = choice.at_least in omega arith)
      | inr above ↦ (let most = choice.at_most in omega arith)
    ]

-- the newest turn is among those from the fourth on
newest : (site : Site) (addr : Ip4) (later : List Entry) (fourth : Entry) (earlier : List Entry) (e : Entry) (past : List Entry)
    → e ∷ past ≡ later ++ fourth ∷ earlier → AllByRecursion (IsAlone site addr) (later ++ fourth ∷ []) → IsAlone site addr e
newest site addr [] fourth earlier e past cut alone = subst (IsAlone site addr) (sym (head_of cut)) alone.0
  where
    head_of : e ∷ past ≡ fourth ∷ earlier → e ≡ fourth
    head_of h = cc
newest site addr (first ∷ later) fourth earlier e past cut alone = subst (IsAlone site addr) (sym (head_of cut)) alone.0
  where
    head_of : e ∷ past ≡ first ∷ (later ++ fourth ∷ earlier) → e ≡ first
    head_of h = cc

one_of : (P : Offer → Type 0) (offers : List Offer) (o : Offer) → Contains offers o → AllByRecursion P offers → P o
one_of P offers o among each = All-contains P offers o (All-from_recursion P offers each) among

pub ends_by_another : EndsByAnother
ends_by_another site addr other e past fits unlike says basis =
    let same : addr ≡ basis.addr = ap (λ net. record { number = net_number net }) basis.gives in
    let p = basis.probed in
    let alone : IsAlone site basis.addr e = newest site basis.addr p.later p.fourth p.earlier e past p.cut basis.alone in
    let none : AnnouncesNoOther site basis.addr says.offer =
    one_of (AnnouncesNoOther site basis.addr) (offers_at site e) says.offer says.among alone in
    unlike (none other fits says.spells ∙ sym same)
