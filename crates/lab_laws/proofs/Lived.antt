-- The life of a client of a lab, in the words of the evidence.
use Rattle.std.proofs.Common.{◌≡◌, ℕ, ◌<◌, ◌^◌, true, false, not, List, [], ◌∷◌, map, None, refl, sym, ap, ◌∙◌, arith}
use Rattle.std.specs.Prelude.{◌==◌}
use Rattle.std.specs.List.{AllByRecursion, Contains, list_any}
use Rattle.std.proofs.lemmas.Bool.Decides.{nat_tests}
use Rattle.std.proofs.lemmas.List.Elements.{All-contains, All-from_recursion}
use Rattle.std.proofs.lemmas.Nat.Bits.{bit_at-zero}
use Rattle.machine.specs.Moment.{moment_of}
use Rattle.settings.specs.declared.interfaces.Managed.{Managed}
use Rattle.settings.specs.Fitting.{AreManaged, FitsManaged}
use Rattle.lease6_text.specs.Bounds.{IsDuid}
use Rattle.script_model.specs.IfaceSets.{is_in}
use Rattle.client_model.specs.declared.interfaces.Iface.{Iface}
use Rattle.client_model.specs.ClientSettings.{ask_of}
use Rattle.client_model.specs.Clients.{frame_of}
use Rattle.client_model.specs.HostDuid.{host_duid}
use Rattle.client_model.specs.IfaceTurns.{Turn, iface_turned}
use Rattle.client_model.specs.Messages.{Said}
use Rattle.client_model.proofs.HostDuids.{host_duid_fits}
use Rattle.evidence_words.specs.Entries.{Offer, offers_on}
use Rattle.evidence_words.specs.IfaceLives.{Opening, Met, site_of, entry_of, shown, iface_after, failed_last, IsSaid, IsLived}
use Rattle.evidence_words.specs.Inputs.{Site}
use Rattle.lab_schedule.specs.Schedules.{Schedule}
use Rattle.lab_laws.specs.LabClients.{AreClients, FitsStart, FitsTurn}
use Rattle.lab_laws.specs.Lives.{start_in}
use Rattle.lab_laws.specs.Messages.{Start, step_after}

number_itself : (a : ℕ) → (a == a) ≡ true
number_itself a = grind (arith, nat_tests)

module _ (start : Start) where
  abbrev one : Managed
  one = start.beginning.managed

  -- the frame of what the client says, which is taken
  abbrev pub offer : Said → Offer
  offer say = record { iface = one.spec.index.number; bytes = frame_of one.spec (ask_of start.beginning.duid one) say; taken = true }

  abbrev pub opening : Opening
  opening = record { up = start.up; at = start.at; salt = start.salt; offers = map offer (step_after start []).said }

  abbrev pub mets : List Turn → List Met
  mets [] = []
  mets (turn ∷ turns) = record { turn = turn; offers = map offer (step_after start (turn ∷ turns)).said } ∷ mets turns

  abbrev pub site : Site
  site = site_of start.own start.beginning opening

  pub stands : (turns : List Turn) → iface_after start.own start.beginning opening (mets turns) ≡ (step_after start turns).iface
  stands [] = refl
  stands (turn ∷ turns) = ap (λ (f : Iface). (iface_turned start.own turn f).iface) (stands turns)

  -- each offer is the client's own, and none failed
  pub own_offers : (said : List Said) → offers_on one.spec.index.number (map offer said) ≡ map offer said
  own_offers [] = refl
  own_offers (say ∷ said) = rw (number_itself one.spec.index.number) (ap (λ (offers : List Offer). offer say ∷ offers) (own_offers said))

  frames_so : (said : List Said) → map (λ (o : Offer). o.bytes) (map offer said) ≡ map (frame_of one.spec (ask_of start.beginning.duid one)) said
  frames_so [] = refl
  frames_so (say ∷ said) = ap (λ (frames : List (List ℕ)). frame_of one.spec (ask_of start.beginning.duid one) say ∷ frames) (frames_so said)

  none_refused : (said : List Said) → list_any (λ (o : Offer). not o.taken) (map offer said) ≡ false
  none_refused [] = refl
  none_refused (say ∷ said) = none_refused said

  said_so : (said : List Said) → map (λ (o : Offer). o.bytes) (offers_on one.spec.index.number (map offer said))
      ≡ map (frame_of one.spec (ask_of start.beginning.duid one)) said
  said_so said = ap (map (λ (o : Offer). o.bytes)) (own_offers said) ∙ frames_so said

  none_failed : (turns : List Turn) → failed_last site (shown opening (mets turns)) ≡ false
  none_failed [] =
      ap (list_any (λ (o : Offer). not o.taken)) (own_offers (step_after start []).said) ∙ none_refused (step_after start []).said
  none_failed (turn ∷ turns) =
      ap (list_any (λ (o : Offer). not o.taken)) (own_offers (step_after start (turn ∷ turns)).said) ∙ none_refused (step_after start (turn ∷ turns)).said

  none_unsent : (unsent index : ℕ) → unsent ≡ 0 → is_in unsent index ≡ false
  none_unsent unsent index is = ap (λ n. is_in n index) is ∙ ap (λ b. b == 1) (bit_at-zero _)

  said_then : (turn : Turn) (turns : List Turn)
      → IsSaid site (entry_of (record { turn = turn; offers = map offer (step_after start (turn ∷ turns)).said }))
      (iface_turned start.own turn (iface_after start.own start.beginning opening (mets turns)))
  said_then turn turns =
      said_so (step_after start (turn ∷ turns)).said
      ∙ ap (λ (f : Iface). map (frame_of one.spec (ask_of start.beginning.duid one)) (iface_turned start.own turn f).said) (sym (stands turns))

  pub lived : FitsStart start → (turns : List Turn) → AllByRecursion FitsTurn turns → IsLived start.own start.beginning opening (mets turns)
  lived fits [] h = (fits.at, said_so (step_after start []).said)
  lived fits (turn ∷ turns) h = (
    h.0.at,
    h.0.octets,
    none_unsent turn.unsent one.spec.index.number h.0.sent ∙ sym (none_failed turns),
    said_then turn turns,
    lived fits turns h.1,
  )

-- ---- how the clients of a lab begin

pub one_of : {X : Type 0} (P : X → Type 0) (xs : List X) (x : X) → AllByRecursion P xs → Contains xs x → P x
one_of P xs x all among = All-contains P xs x (All-from_recursion P xs all) among

moments_end : (at : ℕ) → moment_of at < 10 ^ 15
moments_end at = grind arith

duid_fits : (managed : List Managed) (client : Managed) → AreManaged managed → Contains managed client → IsDuid (host_duid managed None)
duid_fits [] client fit among = absurd (omega (arith, among.1))
duid_fits (first ∷ others) client fit among = host_duid_fits first others None fit.0.mac

pub starts_fit : (managed : List Managed) (schedule : Schedule) → AreClients managed → (client : Managed) → Contains managed client
    → FitsStart (start_in schedule managed client)
starts_fit managed schedule clients client among = record {
  at = moments_end schedule.begin.at;
  fits = record {
    managed = one_of FitsManaged managed client clients.fit among;
    duid = duid_fits managed client clients.fit among;
    kept4 = tt;
    kept6 = tt;
  };
  none = refl;
}
