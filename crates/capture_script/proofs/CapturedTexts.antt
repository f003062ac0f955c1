-- The text of the script that a capture means, and that it is the text of a script.
use Rattle.std.specs.Prelude.{AllPairs, IfSome, IsTrue, is_some, bytes_eq}
use Rattle.std.proofs.Common.{◌≡◌, ℕ, zero, suc, ◌+◌, ◌*◌, ◌/◌, ◌<◌, ◌≤◌, ◌^◌, Bool, true, false, not, ◌&&◌, max, List, [], ◌∷◌, ◌++◌, length, map, filter, take, drop, cond, Option, None, Ok, codes, leb, refl, sym, ap, subst, ◌∙◌, arith, append_assoc, append-nil}
use Rattle.std.specs.List.{AllByRecursion}
use Rattle.std.proofs.lemmas.Bool.{leb-true}
use Rattle.std.proofs.lemmas.List.Elements.{All-nil, All-cons, All-from_recursion}
use Rattle.std.proofs.lemmas.List.Kept.{AllPairs-cons}
use Rattle.byteorder.specs.Numbers.{big_from-lt, little_from-lt}
use Rattle.net_types.specs.declared.address.Mac.{Mac}
use Rattle.net_types.specs.declared.interface.IfSpec.{IfSpec}
use Rattle.net_types.specs.declared.interface.Name.{Name}
use Rattle.net_types.specs.AddressText.{FitsMac}
use Rattle.net_types.specs.Marks.{AreBytes, Lacks}
use Rattle.net_types.specs.NameText.{FitsName}
use Rattle.net_types.specs.TextLines.{Line, ended, lines_text}
use Rattle.net_types.proofs.Checksum.{drop_bytes, take_bytes}
use Rattle.world.specs.declared.wakes.Wake.{Wake}
use Rattle.world.specs.LinkCalls.{Given}
use Rattle.world.specs.Rows.{IsRow}
use Rattle.script_model.specs.FailingCalls.{FitsFail}
use Rattle.script_model.specs.FirstFiles.{FitsFile, UnlikeNames}
use Rattle.script_model.specs.HookAnswers.{FitsAnswer}
use Rattle.script_model.specs.Lines.{line_text, line_words}
use Rattle.script_model.specs.Lines as lines
use Rattle.script_model.specs.ScriptTexts.{LifeScript, given_text}
use Rattle.script_model.specs.Scripts.{FitsGiven, FitsLife, FitsScript, FitInterfaces, Unlike}
use Rattle.script_model.specs.Spellings.{AreSpelled}
use Rattle.script_model.specs.Stops.{wakes_seen, stop_moment, time_after_stop, EndsWhenOver}
use Rattle.script_model.specs.TurnSpellings.{SpellsGiven}
use Rattle.replay_text.specs.LinesInOrder.{SpellsLife, SpellsScript}
use Rattle.replay_text.proofs.Grown.{pairs_none}
use Rattle.capture_script.specs.declared.forms.Form.{Form}
use Rattle.capture_script.specs.declared.forms.Fraction.{Fraction}
use Rattle.capture_script.specs.declared.forms.Fraction.TheVariants as fractions
use Rattle.capture_script.specs.declared.forms.Order.{Order}
use Rattle.capture_script.specs.declared.forms.Order.TheVariants as orders
use Rattle.capture_script.specs.Captures.{Packet, after_packet, capture_form, fractions_of_one, has_packet, moment_at, number_at, packet_at, packets_in, packets_within, size_at}
use Rattle.capture_script.specs.CapturedScripts.{IsImported, begin_at, captured_life, captured_lines, captured_script, first_moment, head_lines, is_own, is_used, packet_given, spec_of, turn_lines, used_of}

-- ---- the lines before the turns

pub head_said : (old one two three : List ℕ) (spec : IfSpec) (at : ℕ) → one ≡ old ++ codes "dhcpcd-script 1\n" → two ≡ one ++ line_text (lines.Interface spec)
    → three ≡ two ++ line_text (lines.Start (begin_at at)) → three ≡ old ++ lines_text (head_lines spec at)
unfolding line_words
head_said old one two three spec at first second third =
    let head : List ℕ = codes "dhcpcd-script 1\n" in
    let interface : List ℕ = line_text (lines.Interface spec) in
    let start : List ℕ = line_text (lines.Start (begin_at at)) in
    third ∙ ap (λ (t : List ℕ). t ++ start) (second ∙ ap (λ (t : List ℕ). t ++ interface) first)
    ∙ append_assoc (old ++ head) interface start ∙ append_assoc old head (interface ++ start)
    ∙ ap (λ (t : List ℕ). old ++ (head ++ (interface ++ t))) (sym (append-nil start))

-- ---- packets fit

small : (order : Order) (at : ℕ) (bytes : List ℕ) → AreBytes bytes → number_at order at bytes < 2 ^ 32
small orders.Big at bytes octets = omega (arith, big_from-lt 0 4 (drop at bytes) (drop_bytes at bytes octets))
small orders.Little at bytes octets = omega (arith, little_from-lt 0 4 (drop at bytes) (drop_bytes at bytes octets))

part : (fraction : Fraction) (n : ℕ) → n / fractions_of_one fraction ≤ n
part fractions.Microseconds n = omega arith
part fractions.Nanoseconds n = omega arith

early : (form : Form) (bytes : List ℕ) → AreBytes bytes → moment_at form bytes < 10 ^ 15
early form bytes octets =
    let seconds = small form.order 0 bytes octets in
    let fraction = small form.order 4 bytes octets in
    let less = part form.fraction (number_at form.order 4 bytes) in
    omega (arith, seconds, fraction, less)

record FitsPacket (packet : Packet) : Type 0 where
  at : packet.at < 10 ^ 15
  octets : AreBytes packet.bytes

-- each of them
packets_fit : (steps : ℕ) (form : Form) (bytes : List ℕ) → AreBytes bytes → AllByRecursion FitsPacket (packets_within steps form bytes)
packets_fit zero form bytes octets = tt
packets_fit (suc steps) form bytes octets =
    elim (has_packet form bytes) as
    (λ has. AllByRecursion FitsPacket (cond has (packet_at form bytes ∷ packets_within steps form (after_packet form bytes)) [])) [
      | true ↦ (
        record { at = early form bytes octets; octets = take_bytes (size_at form bytes) (drop 16 bytes) (drop_bytes 16 bytes octets) },
        packets_fit steps form (after_packet form bytes) (drop_bytes (size_at form bytes) (drop 16 bytes) (drop_bytes 16 bytes octets)),
      )
      | false ↦ tt
    ]

-- those that are used have room, too
record FitsUsed (packet : Packet) : Type 0 where
  fits : FitsPacket packet
  room : length packet.bytes ≤ 2048

has_room : (own : List ℕ) (packet : Packet) → is_used own packet ≡ true → length packet.bytes ≤ 2048
has_room own packet used =
    elim (leb (length packet.bytes) 2048) as
    (λ room. leb (length packet.bytes) 2048 ≡ room → (room && not (is_own own packet.bytes)) ≡ true → length packet.bytes ≤ 2048) [
      | true ↦ λ room is. leb-true (length packet.bytes) 2048 room
      | false ↦ λ room is. let never : ⊥ = cc in absurd never
    ] refl used

used_fit : (own : List ℕ) (packets : List Packet) → AllByRecursion FitsPacket packets → AllByRecursion FitsUsed (filter (is_used own) packets)
used_fit own [] fit = tt
used_fit own (packet ∷ packets) fit =
    elim (is_used own packet) as
    (λ used. is_used own packet ≡ used → AllByRecursion FitsUsed (cond used (packet ∷ filter (is_used own) packets) (filter (is_used own) packets))) [
      | true ↦ λ used. (record { fits = fit.0; room = has_room own packet used }, used_fit own packets fit.1)
      | false ↦ λ used. used_fit own packets fit.1
    ] refl

all_used : (form : Form) (bytes : List ℕ) (own : Mac) → AreBytes bytes → AllByRecursion FitsUsed (used_of own (packets_in form bytes))
unfolding packets_in
all_used form bytes own octets = used_fit own.bytes (packets_within (length bytes) form bytes) (packets_fit (length bytes) form bytes octets)

-- ---- the script

turns_fit : (packets : List Packet) → AllByRecursion FitsUsed packets → AllByRecursion (FitsGiven 1) (map packet_given packets)
turns_fit [] fit = tt
turns_fit (packet ∷ packets) fit =
    let used = fit.0 in (
      record {
        at = used.fits.at;
        salt = omega arith;
        event = (omega arith, omega arith);
        bytes = record { whole = refl; room = used.room; octets = used.fits.octets };
      },
      turns_fit packets fit.1,
    )

first_early : (packets : List Packet) → AllByRecursion FitsUsed packets → first_moment packets < 10 ^ 15
first_early [] fit = omega arith
first_early (packet ∷ packets) fit = let used = fit.0 in used.fits.at

never_stops : (now : ℕ) (packets : List Packet) → stop_moment (wakes_seen now (map packet_given packets)) ≡ None
never_stops now [] = refl
never_stops now (packet ∷ packets) = never_stops (max now packet.at) packets

abbrev OverBy : List Wake → Option ℕ → Type 0
OverBy wakes moment = IfSome moment (λ stop. AllPairs (λ wake later. wake.at < stop + time_after_stop) wakes)

over : (wakes : List Wake) → stop_moment wakes ≡ None → EndsWhenOver wakes
over wakes none = subst (OverBy wakes) (sym none) tt

life_fits : (packets : List Packet) → AllByRecursion FitsUsed packets → FitsLife 1 (captured_life packets)
life_fits packets fit = record {
  at = first_early packets fit;
  salt = omega arith;
  up = omega arith;
  turns = All-from_recursion (FitsGiven 1) (map packet_given packets) (turns_fit packets fit);
  over = over (wakes_seen (first_moment packets) (map packet_given packets)) (never_stops (first_moment packets) packets);
  crash = tt;
}

one_fits : (name : Name) (mac : Mac) → FitsName name → FitsMac mac → FitInterfaces (spec_of name mac ∷ [])
one_fits name mac named addressed = record {
  few = omega arith;
  counted = (refl, named, addressed, tt);
  unlike = AllPairs-cons Unlike (spec_of name mac) [] (All-nil (Unlike (spec_of name mac))) (pairs_none Unlike);
}

abbrev CrashesBefore : LifeScript → LifeScript → Type 0
CrashesBefore life later = IsTrue (is_some life.crash)

script_fits : (name : Name) (mac : Mac) (packets : List Packet) → FitsName name → FitsMac mac → AllByRecursion FitsUsed packets
    → FitsScript (captured_script (spec_of name mac) packets)
unfolding captured_script
script_fits name mac packets named addressed fit = record {
  conf = All-nil (Lacks 10);
  ifaces = one_fits name mac named addressed;
  rows = All-nil IsRow;
  once = refl;
  files = All-nil FitsFile;
  unlike = pairs_none UnlikeNames;
  fails = All-nil FitsFail;
  polls = All-nil FitsAnswer;
  some = omega arith;
  parted = AllPairs-cons CrashesBefore (captured_life packets) [] (All-nil (CrashesBefore (captured_life packets))) (pairs_none CrashesBefore);
  lives = All-cons (FitsLife 1) (captured_life packets) [] (life_fits packets fit) (All-nil (FitsLife 1));
}

-- ---- its lines

turns_spelled : (packets : List Packet) → AreSpelled SpellsGiven (turn_lines packets) (map packet_given packets)
turns_spelled [] = tt
turns_spelled (packet ∷ packets) = (record { event = _; spelled = refl; spells = refl }, turns_spelled packets)

life_spelled : (packets : List Packet) → SpellsLife (lines.start_text (begin_at (first_moment packets)) ∷ turn_lines packets) (captured_life packets)
life_spelled packets = record {
  turns = turn_lines packets;
  spelled = turns_spelled packets;
  are = ap (λ (more : List Line). lines.start_text (begin_at (first_moment packets)) ∷ more) (sym (append-nil (turn_lines packets)));
}

script_spelled : (name : Name) (mac : Mac) (packets : List Packet) → FitsName name → FitsMac mac → AllByRecursion FitsUsed packets
    → SpellsScript (captured_script (spec_of name mac) packets) (captured_lines (spec_of name mac) packets)
unfolding captured_script
script_spelled name mac packets named addressed fit = record {
  rows = [];
  spelled = tt;
  lives = (lines.start_text (begin_at (first_moment packets)) ∷ turn_lines packets) ∷ [];
  lived = (life_spelled packets, tt);
  are = ap (λ (more : List Line). head_lines (spec_of name mac) (first_moment packets) ++ more) (sym (append-nil (turn_lines packets)));
  fits = script_fits name mac packets named addressed fit;
}

-- ---- the whole

lines_join : (front back : List Line) → lines_text front ++ lines_text back ≡ lines_text (front ++ back)
lines_join [] back = refl
lines_join (line ∷ front) back =
    append_assoc (ended line) (lines_text front) (lines_text back) ∙ ap (λ (more : List ℕ). ended line ++ more) (lines_join front back)

pub imported : (bytes records middle text : List ℕ) (form : Form) (name : Name) (mac : Mac) (at : ℕ) → AreBytes bytes → capture_form bytes ≡ Ok form
    → records ≡ drop 24 bytes
    → at ≡ first_moment (used_of mac (packets_in form records)) → middle ≡ lines_text (head_lines (spec_of name mac) at)
    → text ≡ middle ++ lines_text (turn_lines (used_of mac (packets_in form records))) → IsImported bytes (spec_of name mac) text
imported bytes records middle text form name mac at octets formed cut first head turns =
    let packets : List Packet = used_of mac (packets_in form (drop 24 bytes)) in
    let said : text ≡ lines_text (captured_lines (spec_of name mac) packets) =
    rw (turns, head, first, cut) (lines_join (head_lines (spec_of name mac) (first_moment packets)) (turn_lines packets)) in
    record {
      form = form;
      formed = formed;
      text_is = said;
      spelled = λ named addressed. record {
        lines = captured_lines (spec_of name mac) packets;
        spells = script_spelled name mac packets named addressed (all_used form (drop 24 bytes) mac (drop_bytes 24 bytes octets));
        text_is = said;
      };
    }
