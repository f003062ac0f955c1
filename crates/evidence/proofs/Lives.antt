-- The life of each interface alone, out of a life of all interfaces; and so the basis of each item that it holds.
use Rattle.std.proofs.Common.{◌≡◌, ℕ, ◌<◌, ◌^◌, ◌-◌, Bool, true, false, not, ◌||◌, List, [], ◌∷◌, Some, refl, sym, ap, subst, ◌∙◌, arith}
use Rattle.std.proofs.lemmas.Bool.Decides.{nat_tests}
use Rattle.std.proofs.lemmas.Nat.Bits.{bit_at-pow_same, bit_at-zero}
use Rattle.std.specs.Prelude.{IfSome, map, ◌==◌, if◌then◌else◌}
use Rattle.std.specs.Int.{bit_at}
use Rattle.std.specs.List.{AllByRecursion, Contains}
use Rattle.net_types.specs.declared.address.Mac.{Mac}
use Rattle.net_types.specs.declared.interface.IfSpec.{IfSpec}
use Rattle.net_types.specs.Marks.{AreBytes}
use Rattle.lease_text.specs.Bounds.{HasText}
use Rattle.lease6_text.specs.Bounds.{HasText6, IsDuid}
use Rattle.lease6_text.specs.declared.lease.Item6.{Item6}
use Rattle.lease6_text.specs.Leases.{IaLeaseContent, Lease6Content}
use Rattle.v4_message.specs.Requests.{AskContent}
use Rattle.v6_client.specs.Clients as dhcp6
use Rattle.world.specs.declared.wakes.Event.TheVariants.{Quiet}
use Rattle.settings.specs.declared.interfaces.Managed.{Managed}
use Rattle.settings.specs.Fitting.{FitsManaged}
use Rattle.script_model.specs.IfaceSets.{is_in, is_up}
use Rattle.client_model.specs.declared.interfaces.Iface.{Iface}
use Rattle.client_model.specs.ClientSettings.{ask_of}
use Rattle.client_model.specs.Clients.{frame_of}
use Rattle.client_model.specs.Fitting.{FitsBeginning}
use Rattle.client_model.specs.IfaceSteps.{IfaceStep, index_of}
use Rattle.client_model.specs.KeptLeases.{Beginning}
use Rattle.client_model.specs.Messages.{Said}
use Rattle.evidence_words.specs.Entries.{Entry, Offer, offers_on}
use Rattle.evidence_words.specs.IfaceLives.{Opening, Met, site_of, shown, iface_after, IsSaid, IsLived, failed_last}
use Rattle.evidence_words.specs.Inputs.{Site, offers_at}
use Rattle.evidence_words.proofs.Carrying.{Relation, Shows, IsCarried, at_site, entry, opened_when, turned_by}
use Rattle.evidence_words.proofs.Offers.{Offered, refused_among}
use Rattle.lease6_evidence.specs.LeaseEvidence.HeldLeases.{KeepsTyped}
use Rattle.lease6_evidence.proofs.LeaseEvidence.LeasedTurns.{lease_fits, lease_typed}
use Rattle.lease6_evidence.specs.HeldItems.{ItemHasBasis}
use Rattle.lease6_evidence.proofs.FourFrames.{held_items_have_basis}

-- ---- the frames that are offered are those of what was said

module _ (spec : IfSpec) (ask : AskContent) (clean : Type 0) where
  frames_said : (said : List Said) (offers : List Offer) → Offered spec ask clean said offers → map (λ o. o.bytes) offers ≡ map (frame_of spec ask) said
  frames_said [] [] h = refl
  frames_said [] (o ∷ offers) h = absurd h
  frames_said (say ∷ said) [] h = absurd h
  frames_said (say ∷ said) (o ∷ offers) h = λ i. h.0 i ∷ frames_said said offers h.2 i

  none_refused : clean → (said : List Said) (offers : List Offer) → Offered spec ask clean said offers → refused_among offers ≡ false
  none_refused k [] [] h = refl
  none_refused k [] (o ∷ offers) h = absurd h
  none_refused k (say ∷ said) [] h = absurd h
  none_refused k (say ∷ said) (o ∷ offers) h = ap (λ t. not t || refused_among offers) (h.1 k) ∙ none_refused k said offers h.2

-- ---- the life of an interface

pub record LivedSo (site : Site) (clean : Type 0) (f : Iface) (past : List Entry) : Type 0 where
  pub b : Beginning
  pub opening : Opening
  pub mets : List Met
  pub fits : FitsBeginning b
  pub typed : KeepsTyped b
  pub site_is : site_of site.own b opening ≡ site
  pub face_is : iface_after site.own b opening mets ≡ f
  pub shown_is : shown opening mets ≡ past
  pub lived : IsLived site.own b opening mets
  pub fine : clean → failed_last site past ≡ false
  pub failed : (clean → ⊥) → failed_last site past ≡ true

abbrev pub HearBytes : List Entry → Type 0
HearBytes past = AllByRecursion (λ e. AreBytes e.bytes) past

-- where the settings and the DUID fit, and what came in are bytes
abbrev pub LivedRelation : (Counted : Type 0) → Relation
LivedRelation Counted site clean f past = Counted → FitsManaged site.managed → IsDuid site.duid → HearBytes past → LivedSo site clean f past

-- a set with this interface alone, or none
abbrev set_with : ℕ → Bool → ℕ
set_with number up = if up then 2 ^ (number - 1) else 0

up_so : (number : ℕ) (up : Bool) → is_up (set_with number up) number ≡ up
up_so number true = one (bit_at (2 ^ (number - 1)) (number - 1)) (bit_at-pow_same (number - 1))
  where
    one : (x : ℕ) → x ≡ 1 → (x == 1) ≡ true
    one x e = grind (arith, nat_tests)
up_so number false = none (bit_at 0 (number - 1)) (bit_at-zero (number - 1))
  where
    none : (x : ℕ) → x ≡ 0 → (x == 1) ≡ false
    none x e = grind (arith, nat_tests)

module _ (Counted : Type 0) where
  opens_lived : (own : List Mac) (clean : Type 0) (at salt : ℕ) → at < 10 ^ 15 → (offers : List Offer) (b : Beginning)
      → IfSome b.kept4 HasText → IfSome b.kept6 HasText6 → (up : Bool)
      → Shows Counted (at_site own up b) clean (entry at Quiet [] offers) (opened_when up at salt b).said
      → LivedRelation Counted (at_site own up b) clean (opened_when up at salt b).iface (entry at Quiet [] offers ∷ [])
  opens_lived own clean at salt early offers b within within6 up shows counted fits is octets =
      let number : ℕ = b.managed.spec.index.number in
      let opening : Opening = record { up = set_with number up; at = at; salt = salt; offers = offers } in
      let so : is_up (set_with number up) number ≡ up = up_so number up in
      record {
        b = b;
        opening = opening;
        mets = [];
        fits = record { managed = fits; duid = is; kept4 = lease_fits b.kept4 within; kept6 = within6 };
        typed = lease_typed b.kept4 within;
        site_is = ap (λ (u : Bool). at_site own u b) so;
        face_is = ap (λ (u : Bool). (opened_when u at salt b).iface) so;
        shown_is = refl;
        lived = (
          early,
          subst (λ (u : Bool). IsSaid (at_site own u b) (entry at Quiet [] offers) (opened_when u at salt b)) (sym so)
              (frames_said b.managed.spec (ask_of b.duid b.managed) clean (opened_when up at salt b).said (offers_on number offers) shows.offered),
        );
        fine = λ k. none_refused b.managed.spec (ask_of b.duid b.managed) clean k (opened_when up at salt b).said (offers_on number offers) shows.offered;
        failed = shows.refused counted;
      }

  same_failed : (failed : Bool) (last : Bool) → (failed ≡ false → last ≡ false) → ((failed ≡ false → ⊥) → last ≡ true) → failed ≡ last
  same_failed true last fine refused = sym (refused (λ e. cc))
  same_failed false last fine refused = sym (fine refl)

  turns_lived : (site : Site) (clean : Type 0) (salt : ℕ) (e : Entry) → e.moment < 10 ^ 15 → (past : List Entry) (unsent : ℕ) (f : Iface)
      → f.managed ≡ site.managed → LivedRelation Counted site (is_in unsent (index_of f) ≡ false) f past
      → Shows Counted site clean e (turned_by site salt unsent e f).said → LivedRelation Counted site clean (turned_by site salt unsent e f).iface (e ∷ past)
  turns_lived site clean salt e early past unsent f same before shows counted fits is octets =
      let l : LivedSo site (is_in unsent (index_of f) ≡ false) f past = before counted fits is octets.1 in
      let met : Met = record { turn = record { at = e.moment; salt = salt; unsent = unsent; event = e.event; bytes = e.bytes }; offers = e.offers } in
      let step : IfaceStep = turned_by site salt unsent e f in
      let said : IsSaid site e step = frames_said site.managed.spec (ask_of site.duid site.managed) clean step.said (offers_at site e) shows.offered in
      let number_is : l.b.managed.spec.index.number ≡ index_of f =
      ap (λ (s : Site). s.managed.spec.index.number) l.site_is ∙ ap (λ (m : Managed). m.spec.index.number) (sym same) in
      let bit : is_in unsent (index_of f) ≡ failed_last site past = same_failed (is_in unsent (index_of f)) (failed_last site past) l.fine l.failed in
      record {
        b = l.b;
        opening = l.opening;
        mets = met ∷ l.mets;
        fits = l.fits;
        typed = l.typed;
        site_is = l.site_is;
        face_is = ap (λ (g : Iface). (turned_by site salt unsent e g).iface) l.face_is;
        shown_is = ap (λ (turns : List Entry). e ∷ turns) l.shown_is;
        lived = (
          early,
          octets.0,
          ap (is_in unsent) number_is ∙ bit ∙ (λ i. failed_last (sym l.site_is i) (sym l.shown_is i)),
          subst (λ (s : Site). IsSaid s e (turned_by site salt unsent e (iface_after site.own l.b l.opening l.mets))) (sym l.site_is)
              (subst (λ (g : Iface). IsSaid site e (turned_by site salt unsent e g)) (sym l.face_is) said),
          l.lived,
        );
        fine = λ k. none_refused site.managed.spec (ask_of site.duid site.managed) clean k step.said (offers_at site e) shows.offered;
        failed = shows.refused counted;
      }

  pub lived_carried : IsCarried Counted (LivedRelation Counted)
  lived_carried = record { opens = opens_lived; turns = turns_lived }

-- ---- its items

module _ (site : Site) (clean : Type 0) (f : Iface) (past : List Entry) (l : LivedSo site clean f past) where
  item_basis : (lease : Lease6Content) (ia : IaLeaseContent) (item : Item6) → dhcp6.held_of f.dhcp6 ≡ Some lease → Contains lease.ias ia
      → Contains ia.items item
      → ItemHasBasis site ia item past
  item_basis lease ia item held among among_items =
      subst (λ (s : Site). ItemHasBasis s ia item past) l.site_is
      (subst (λ (turns : List Entry). ItemHasBasis (site_of site.own l.b l.opening) ia item turns) l.shown_is
      (held_items_have_basis site.own l.b l.opening l.mets lease ia item l.fits l.typed l.lived
      (ap (λ (g : Iface). dhcp6.held_of g.dhcp6) l.face_is ∙ held) among among_items))

pub items_based : (Counted : Type 0) (site : Site) (clean : Type 0) (f : Iface) (past : List Entry) → LivedRelation Counted site clean f past → Counted
    → FitsManaged site.managed → IsDuid site.duid → HearBytes past
    → (lease : Lease6Content) (ia : IaLeaseContent) (item : Item6) → dhcp6.held_of f.dhcp6 ≡ Some lease → Contains lease.ias ia → Contains ia.items item
    → ItemHasBasis site ia item past
items_based Counted site clean f past carries counted fits is octets lease ia item held among among_items =
    item_basis site clean f past (carries counted fits is octets) lease ia item held among among_items
