-- What came: what is read is spelled so, and what is spelled so is read.
use Rattle.std.proofs.Common.{◌≡◌, ℕ, List, [], refl, sym, subst, append_assoc}
use Rattle.net_types.specs.Reads.{Reads}
use Rattle.net_types.proofs.ChoiceLaws.{Chosen, choose_reads}
use Rattle.net_types.proofs.HexLaws.{hex_reads}
use Rattle.net_types.proofs.Ip6Laws.{printed_ip6_reads}
use Rattle.net_types.proofs.ReadsLaws.{end_reads, pair_reads, same_range}
use Rattle.world.specs.declared.wakes.Event.{Event}
use Rattle.world.specs.declared.wakes.Event.TheVariants.{Frame, Carrier, Duplicate, Release, Rebind, Stop, Quiet, End}
use Rattle.script_model.specs.Lines.{event_text}
use Rattle.transcript_text.specs.EventFields.{Came, came_field, carrier, duplicate, events, frame, quiet, rebind, release, stop}
use Rattle.transcript_text.specs.Fits.{FitsEvent}
use Rattle.transcript_text.proofs.FieldReads.{carrier_reads, index_lacks, index_reads}
use Rattle.transcript_text.proofs.ShapeLaws.{AreSound, IsShape, no_shape, of_shape, with_shape}

abbrev text_of : Came → List ℕ
text_of came = event_text came.0 came.1

abbrev Fits : Came → Type 0
Fits came = FitsEvent came.0 came.1

frame_is : IsShape text_of Fits frame
frame_is = record {
  reads = same_range (λ p. Fits (frame.make p)) (λ p fits. (fits.0, fits.2)) (λ p fits. (fits.0, refl, fits.1))
      (pair_reads 32 index_reads hex_reads index_lacks);
  spelled = λ p. simp append_assoc;
}

carrier_is : IsShape text_of Fits carrier
carrier_is = record {
  reads = same_range (λ p. Fits (carrier.make p)) (λ p fits. (fits.0, tt)) (λ p fits. (fits.0, refl)) (pair_reads 32 index_reads carrier_reads index_lacks);
  spelled = λ p. simp append_assoc;
}

duplicate_is : IsShape text_of Fits duplicate
duplicate_is = record {
  reads = same_range (λ p. Fits (duplicate.make p)) (λ p fits. (fits.0, fits.1)) (λ p fits. (fits.0, fits.1, refl))
      (pair_reads 32 index_reads printed_ip6_reads index_lacks);
  spelled = λ p. simp append_assoc;
}

release_is : IsShape text_of Fits release
release_is = record { reads = same_range (λ n. Fits (release.make n)) (λ n fits. fits.0) (λ n fits. (fits, refl)) index_reads; spelled = λ n. refl }

rebind_is : IsShape text_of Fits rebind
rebind_is = record { reads = same_range (λ n. Fits (rebind.make n)) (λ n fits. fits.0) (λ n fits. (fits, refl)) index_reads; spelled = λ n. refl }

stop_is : IsShape text_of Fits stop
stop_is = record { reads = same_range (λ n. Fits (stop.make n)) (λ n fits. tt) (λ n fits. refl) end_reads; spelled = λ n. refl }

quiet_is : IsShape text_of Fits quiet
quiet_is = record { reads = same_range (λ n. Fits (quiet.make n)) (λ n fits. tt) (λ n fits. refl) end_reads; spelled = λ n. refl }

sounds : AreSound text_of Fits events
sounds =
    with_shape frame_is
    (with_shape carrier_is
    (with_shape duplicate_is (with_shape release_is (with_shape rebind_is (with_shape stop_is (with_shape quiet_is no_shape))))))

-- an event without bytes
abbrev IsChosen : Event → List ℕ → Type 0
IsChosen event bytes = Chosen events text_of (event, bytes)

without : (event : Event) (bytes : List ℕ) → bytes ≡ [] → IsChosen event [] → IsChosen event bytes
without event bytes none chosen = subst (IsChosen event) (sym none) chosen

chosen : (event : Event) (bytes : List ℕ) → FitsEvent event bytes → IsChosen event bytes
chosen (Frame iface len) bytes fits =
    subst (λ n. IsChosen (Frame iface n) bytes) (sym fits.1) (of_shape events 0 frame_is refl (iface, bytes) (fits.0, refl, fits.2))
chosen (Carrier iface up) bytes fits = without (Carrier iface up) bytes fits.1 (of_shape events 1 carrier_is refl (iface, up) (fits.0, refl))
chosen (Duplicate iface addr) bytes fits =
    without (Duplicate iface addr) bytes fits.2 (of_shape events 2 duplicate_is refl (iface, addr) (fits.0, fits.1, refl))
chosen (Release iface) bytes fits = without (Release iface) bytes fits.1 (of_shape events 3 release_is refl iface (fits.0, refl))
chosen (Rebind iface) bytes fits = without (Rebind iface) bytes fits.1 (of_shape events 4 rebind_is refl iface (fits.0, refl))
chosen Stop bytes fits = without Stop bytes fits (of_shape events 5 stop_is refl tt refl)
chosen Quiet bytes fits = without Quiet bytes fits (of_shape events 6 quiet_is refl tt refl)
chosen End bytes fits = absurd fits

pub came_reads : Reads came_field.text came_field.Fits came_field.at
came_reads = choose_reads events refl sounds.each (λ came fits. chosen came.0 came.1 fits)
