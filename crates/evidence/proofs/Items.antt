-- Each item of a held DHCPv6 lease has its basis, in every life.
use Rattle.std.proofs.Common.{◌≡◌, ℕ, ◌≤◌, Bool, List, [], ◌∷◌, ◌∙◌, subst}
use Rattle.std.specs.Prelude.{map}
use Rattle.std.specs.List.{AllByRecursion, Contains}
use Rattle.net_types.proofs.AllLaws.{all_both, all_map}
use Rattle.net_types.specs.declared.address.Mac.{Mac}
use Rattle.net_types.specs.declared.interface.IfSpec.{IfSpec}
use Rattle.settings.specs.declared.interfaces.Managed.{Managed}
use Rattle.settings.specs.Fitting.{AreManaged, FitsManaged}
use Rattle.script_model.specs.IfaceSets.{is_up}
use Rattle.client_model.specs.declared.interfaces.Iface.{Iface}
use Rattle.evidence_words.specs.TurnModel.Lives.{OpeningMet, Met, life_after}
use Rattle.evidence_words.specs.TurnModel.Turns.{Life}
use Rattle.evidence_words.specs.Entries.{Entry, opening_entry, shown_of}
use Rattle.evidence_words.specs.HostDuids.{duid_read, duid_shown}
use Rattle.evidence_words.proofs.Offers.{number_of}
use Rattle.lease6_evidence.specs.HeldItems.{ItemHasBasis}
use Rattle.evidence.specs.Laws.{AreOctets, IsLife}
use Rattle.evidence.proofs.Based.{HearsOctets, ItemsAreBased, ItemsHave, among, duid_fits, each_managed, none_octets, shown_octets}
use Rattle.evidence.proofs.Lives.{LivedRelation, lived_carried, items_based}
use Rattle.evidence.proofs.Turns.{AreCounted, Found, found_in, KeptAfter, KeptOne, opened_own, opening_kept, own_stays, site_by, turns_kept}

module _ (managed : List Managed) (specs : List IfSpec) (opening : OpeningMet) (mets : List Met) (is : IsLife managed specs opening mets)
    (fit : AreManaged managed) (octets : AreOctets mets) where
  abbrev start : ℕ → Bool
  start number = is_up opening.begin.up number

  abbrev duid : List ℕ
  duid = duid_shown managed opening.calls

  abbrev found : Found
  found = found_in managed opening.calls

  abbrev life : Life
  life = life_after opening.life mets

  abbrev shown : List Entry
  shown = shown_of opening mets

  abbrev Counted : Type 0
  Counted = AreCounted managed

  counted : Counted
  counted = all_map FitsManaged (λ m. 1 ≤ number_of m) (λ m fits. fits.index.0) managed fit

  abbrev Lives : Iface → Type 0
  Lives iface = KeptOne Counted (LivedRelation Counted) (lived_carried Counted) start found life.client.own life.unsent shown iface

  lived : KeptAfter Counted (LivedRelation Counted) (lived_carried Counted) start found managed life shown
  lived =
      turns_kept Counted (LivedRelation Counted) (lived_carried Counted) start found managed is.numbered (λ c. c) mets opening.life (opening_entry opening ∷ [])
      (opening_kept Counted (LivedRelation Counted) (lived_carried Counted) managed is.numbered is.named (λ c. c) specs opening is.opens) is.turns

  heard : HearsOctets shown
  heard = shown_octets mets (opening_entry opening ∷ []) (none_octets, tt) octets

  same_own : life.client.own ≡ map (λ spec. spec.mac) specs
  same_own = own_stays managed mets opening.life is.turns ∙ opened_own managed specs opening is.opens

  one_has : (iface : Iface) → Lives iface → FitsManaged iface.managed × Contains managed iface.managed → ItemsHave managed specs opening mets iface
  one_has iface lives here lease ia item held contains contains_item =
      subst (λ (own : List Mac). ItemHasBasis (site_by own (start (number_of iface.managed)) found iface.managed) ia item shown) same_own
      (items_based Counted (site_by life.client.own (start (number_of iface.managed)) found iface.managed) _ iface shown lives.carries counted here.0
      (duid_fits managed iface.managed (duid_read opening.calls) here.1 fit) heard lease ia item held contains contains_item)

  all_have : AllByRecursion (ItemsHave managed specs opening mets) life.client.ifaces
  all_have =
      all_both Lives (λ iface. FitsManaged iface.managed × Contains managed iface.managed)
      (ItemsHave managed specs opening mets) one_has life.client.ifaces lived.kept
      (all_both _ _ _ (λ iface f c. (f, c)) life.client.ifaces (each_managed FitsManaged life.client.ifaces managed lived.of_managed fit)
      (among managed specs opening mets is))

pub items_have_basis : ItemsAreBased
items_have_basis managed specs opening mets is fit octets = all_have managed specs opening mets is fit octets
