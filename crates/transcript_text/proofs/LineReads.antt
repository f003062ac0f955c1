-- Lines: what is read is spelled so, and what is spelled so is read. A line is so by its shape.
use Rattle.std.proofs.Common.{[], ◌∷◌, refl, append_assoc}
use Rattle.std.proofs.lemmas.List.{append_cancel_right}
use Rattle.std.specs.Prelude.{codes}
use Rattle.net_types.specs.Reads.{Reads}
use Rattle.net_types.proofs.AddressLaws.{mac_reads}
use Rattle.net_types.proofs.ChoiceLaws.{Chosen, choose_reads}
use Rattle.net_types.proofs.HexLaws.{hex_reads}
use Rattle.net_types.proofs.NameLaws.{name_lacks, name_reads}
use Rattle.net_types.proofs.ReadsLaws.{end_reads, pair_reads, same_range, texts_apart, word_reads}
use Rattle.script_model.specs.Lines as Model
use Rattle.script_model.specs.Lines.{Line, line_words}
use Rattle.transcript_text.specs.Fits.{FitsLine, LinesApart}
use Rattle.transcript_text.specs.LineShapes.{abandoned, asides, asides_failed, conf, dropped, end_of_life, head, hold, host_add, host_del, host_list_failed, host_listed, interface, life, line_at, notice, polled, read, removed, renamed, row, send, settled, shapes, start, started, synced, turn, until, variable, wrote}
use Rattle.transcript_text.specs.Shapes.{Shape}
use Rattle.transcript_text.proofs.EventReads.{came_reads}
use Rattle.transcript_text.proofs.FieldReads.{count_lacks, count_reads, file_lacks, file_reads, index_lacks, index_reads, job_reads, moment_reads, names_reads, net_reads, poll_reads, reading_reads, row_reads, up_reads, variable_reads}
use Rattle.transcript_text.proofs.FormLaws.{called_reads, outcome_reads, text_reads}
use Rattle.transcript_text.proofs.ShapeLaws.{AreSound, IsShape, no_shape, of_shape, with_shape}

abbrev IsLine : {X : Type 0} → Shape Line X → Type 0
IsLine shape = IsShape line_words FitsLine shape

-- ---- the head

head_is : IsLine head
unfolding line_words
head_is = record { reads = end_reads; spelled = λ _. refl }

conf_is : IsLine conf
unfolding line_words
conf_is = record { reads = text_reads; spelled = λ text. refl }

notice_is : IsLine notice
unfolding line_words
notice_is = record {
  reads = same_range (λ p. FitsLine (notice.make p)) (λ p fits. (fits, tt)) (λ p fits. fits.0) (pair_reads 32 index_reads text_reads index_lacks);
  spelled = λ p. simp append_assoc;
}

interface_is : IsLine interface
unfolding line_words
interface_is = record {
  reads = same_range (λ p. FitsLine (interface.make p)) (λ p fits. (fits.0, (fits.1, fits.2))) (λ p fits. (fits.0, fits.1.0, fits.1.1))
      (pair_reads 32 index_reads (pair_reads 32 name_reads mac_reads (λ name fits. name_lacks name 32 fits refl)) index_lacks);
  spelled = λ p. simp append_assoc;
}

life_is : IsLine life
unfolding line_words
life_is = record { reads = count_reads; spelled = λ n. refl }

start_is : IsLine start
unfolding line_words
start_is = record {
  reads = same_range (λ p. FitsLine (start.make p)) (λ p fits. (fits.0, (fits.1, fits.2))) (λ p fits. (fits.0, fits.1.0, fits.1.1))
      (pair_reads 32 count_reads (pair_reads 32 count_reads (word_reads (codes "up ") up_reads) count_lacks) count_lacks);
  spelled = λ p. simp append_assoc;
}

-- ---- the store

asides_is : IsLine asides
unfolding line_words
asides_is = record { reads = names_reads; spelled = λ names. refl }

asides_failed_is : IsLine asides_failed
unfolding line_words
asides_failed_is = record { reads = end_reads; spelled = λ _. refl }

wrote_is : IsLine wrote
unfolding line_words
wrote_is = record { reads = called_reads _ (pair_reads 32 file_reads hex_reads file_lacks); spelled = λ p. simp append_assoc }

synced_is : IsLine synced
unfolding line_words
synced_is = record { reads = called_reads _ file_reads; spelled = λ p. simp append_assoc }

renamed_is : IsLine renamed
unfolding line_words
renamed_is = record { reads = called_reads _ file_reads; spelled = λ p. simp append_assoc }

removed_is : IsLine removed
unfolding line_words
removed_is = record { reads = called_reads _ file_reads; spelled = λ p. simp append_assoc }

settled_is : IsLine settled
unfolding line_words
settled_is = record { reads = outcome_reads; spelled = λ done. refl }

read_is : IsLine read
unfolding line_words
read_is = record { reads = pair_reads 32 file_reads reading_reads file_lacks; spelled = λ p. simp append_assoc }

-- ---- a wake, hooks and the link

turn_is : IsLine turn
unfolding line_words
turn_is = record {
  reads = same_range (λ p. FitsLine (turn.make p)) (λ p fits. (fits.0, (fits.1, fits.2))) (λ p fits. (fits.0, fits.1.0, fits.1.1))
      (pair_reads 32 count_reads (pair_reads 32 count_reads came_reads count_lacks) count_lacks);
  spelled = λ p. simp append_assoc;
}

polled_is : IsLine polled
unfolding line_words
polled_is = record { reads = pair_reads 32 count_reads poll_reads count_lacks; spelled = λ p. simp append_assoc }

abandoned_is : IsLine abandoned
unfolding line_words
abandoned_is = record { reads = count_reads; spelled = λ n. refl }

dropped_is : IsLine dropped
unfolding line_words
dropped_is = record { reads = job_reads; spelled = λ p. simp append_assoc }

started_is : IsLine started
unfolding line_words
started_is = record { reads = called_reads _ job_reads; spelled = λ p. simp append_assoc }

variable_is : IsLine variable
unfolding line_words
variable_is = record { reads = variable_reads; spelled = λ p. simp append_assoc }

send_is : IsLine send
unfolding line_words
send_is = record { reads = called_reads _ (pair_reads 32 index_reads hex_reads index_lacks); spelled = λ p. simp append_assoc }

-- ---- the host, and the end of a turn and of a life

host_listed_is : IsLine host_listed
unfolding line_words
host_listed_is = record { reads = count_reads; spelled = λ n. refl }

row_is : IsLine row
unfolding line_words
row_is = record { reads = row_reads; spelled = λ row. refl }

host_list_failed_is : IsLine host_list_failed
unfolding line_words
host_list_failed_is = record { reads = end_reads; spelled = λ _. refl }

host_del_is : IsLine host_del
unfolding line_words
host_del_is = record { reads = called_reads _ row_reads; spelled = λ p. simp append_assoc }

host_add_is : IsLine host_add
unfolding line_words
host_add_is = record { reads = called_reads _ row_reads; spelled = λ p. simp append_assoc }

until_is : IsLine until
unfolding line_words
until_is = record { reads = moment_reads; spelled = λ moment. refl }

hold_is : IsLine hold
unfolding line_words
hold_is = record { reads = pair_reads 32 index_reads net_reads index_lacks; spelled = λ p. simp append_assoc }

end_of_life_is : IsLine end_of_life
unfolding line_words
end_of_life_is = record { reads = end_reads; spelled = λ _. refl }

-- ---- all of them

sounds : AreSound line_words FitsLine shapes
sounds =
    with_shape head_is
    (with_shape conf_is
    (with_shape notice_is
    (with_shape interface_is
    (with_shape life_is
    (with_shape start_is
    (with_shape asides_is
    (with_shape asides_failed_is
    (with_shape wrote_is
    (with_shape synced_is
    (with_shape renamed_is
    (with_shape removed_is
    (with_shape settled_is
    (with_shape read_is
    (with_shape turn_is
    (with_shape polled_is
    (with_shape abandoned_is
    (with_shape dropped_is
    (with_shape started_is
    (with_shape variable_is
    (with_shape send_is
    (with_shape host_listed_is
    (with_shape row_is
    (with_shape host_list_failed_is
    (with_shape host_del_is
    (with_shape host_add_is (with_shape until_is (with_shape hold_is (with_shape end_of_life_is no_shape))))))))))))))))))))))))))))

chosen : (line : Line) → FitsLine line → Chosen shapes line_words line
chosen Model.Head fits = of_shape shapes 0 head_is refl tt fits
chosen (Model.Conf text) fits = of_shape shapes 1 conf_is refl text fits
chosen (Model.Notice line word) fits = of_shape shapes 2 notice_is refl (line, word) fits
chosen (Model.Interface spec) fits = of_shape shapes 3 interface_is refl (spec.index.number, (spec.name, spec.mac)) fits
chosen (Model.Life number) fits = of_shape shapes 4 life_is refl number fits
chosen (Model.Start begin) fits = of_shape shapes 5 start_is refl (begin.at, (begin.salt, begin.up)) fits
chosen (Model.Asides names) fits = of_shape shapes 6 asides_is refl names fits
chosen Model.AsidesFailed fits = of_shape shapes 7 asides_failed_is refl tt fits
chosen (Model.Wrote name bytes done) fits = of_shape shapes 8 wrote_is refl ((name, bytes), done) fits
chosen (Model.Synced name done) fits = of_shape shapes 9 synced_is refl (name, done) fits
chosen (Model.Renamed name done) fits = of_shape shapes 10 renamed_is refl (name, done) fits
chosen (Model.Removed name done) fits = of_shape shapes 11 removed_is refl (name, done) fits
chosen (Model.Settled done) fits = of_shape shapes 12 settled_is refl done fits
chosen (Model.Read name reading) fits = of_shape shapes 13 read_is refl (name, reading) fits
chosen (Model.Turn at salt event bytes) fits = of_shape shapes 14 turn_is refl (at, (salt, (event, bytes))) fits
chosen (Model.HookPolled number answer) fits = of_shape shapes 15 polled_is refl (number, answer) fits
chosen (Model.HookAbandoned number) fits = of_shape shapes 16 abandoned_is refl number fits
chosen (Model.HookDropped number reason name) fits = of_shape shapes 17 dropped_is refl (number, (reason, name)) fits
chosen (Model.HookStarted number reason name done) fits = of_shape shapes 18 started_is refl ((number, (reason, name)), done) fits
chosen (Model.Variable name value) fits = of_shape shapes 19 variable_is refl (name, value) fits
chosen (Model.Send iface bytes taken) fits = of_shape shapes 20 send_is refl ((iface.number, bytes), taken) fits
chosen (Model.HostListed count) fits = of_shape shapes 21 host_listed_is refl count fits
chosen (Model.Row row) fits = of_shape shapes 22 row_is refl row fits
chosen Model.HostListFailed fits = of_shape shapes 23 host_list_failed_is refl tt fits
chosen (Model.HostDel row done) fits = of_shape shapes 24 host_del_is refl (row, done) fits
chosen (Model.HostAdd row done) fits = of_shape shapes 25 host_add_is refl (row, done) fits
chosen (Model.Until moment) fits = of_shape shapes 26 until_is refl moment fits
chosen (Model.Hold iface net) fits = of_shape shapes 27 hold_is refl (iface.number, net) fits
chosen Model.EndOfLife fits = of_shape shapes 28 end_of_life_is refl tt fits

pub line_reads : Reads line_words FitsLine line_at
unfolding line_at
line_reads = choose_reads shapes refl sounds.each chosen

pub apart : LinesApart
apart a b fits_a fits_b same =
    texts_apart line_reads a b fits_a fits_b (append_cancel_right (line_words a) (line_words b) (10 ∷ []) same)
