-- The messages that are read in the frames of a lab's clients are those that each interface says.
use Rattle.std.proofs.Common.{◌≡◌, ℕ, suc, Bool, true, false, List, [], ◌∷◌, ◌++◌, map, Option, Some, None, refl, sym, ap, ap₂, subst, ◌∙◌, arith, append_assoc, if◌then◌else◌}
use Rattle.std.specs.Prelude.{◌==◌, AllPairs, flat_map, reverse}
use Rattle.std.specs.List.{AllByRecursion}
use Rattle.std.proofs.lemmas.Bool.Decides.{nat_tests}
use Rattle.std.proofs.lemmas.Grind.{flat_map-append}
use Rattle.std.proofs.lemmas.List.{append-nil, reverse-append}
use Rattle.std.proofs.lemmas.List.Elements.{All-contains, All-contains_itself, All-from_recursion, recursion_from_All}
use Rattle.net_types.proofs.AllLaws.{all_both, all_map}
use Rattle.net_types.specs.declared.interface.IfSpec.{IfSpec}
use Rattle.v4_message.specs.Requests.{AskContent}
use Rattle.v4_message.specs.declared.writing.Said4.{Said4}
use Rattle.world.specs.declared.wakes.Event.TheVariants as wakes
use Rattle.settings.specs.declared.interfaces.Managed.{Managed}
use Rattle.client_model.specs.ClientSettings.{ask_of}
use Rattle.client_model.specs.Clients.{Sending, client_turned, sends_of, spelled}
use Rattle.client_model.specs.IfaceSteps.{IfaceStep}
use Rattle.client_model.specs.IfaceTurns.{Turn}
use Rattle.client_model.specs.KeptLeases.{Beginning}
use Rattle.client_model.specs.Messages.{Said, Dhcp4, Arp, Dhcp6}
use Rattle.lease_evidence.proofs.Spoken.{message_said}
use Rattle.lab_schedule.specs.declared.event.LabEvent.{LabEvent}
use Rattle.lab_schedule.specs.declared.event.LabEvent.TheVariants.{Tick, Carrier, Release, Give, Hear}
use Rattle.lab_schedule.specs.Schedules.{Schedule}
use Rattle.lab_model.specs.Exchanges.{Message, message_in, message_with, messages_of}
use Rattle.lab_model.specs.Labs.{Lab, clients_turned, lab_after, lab_opened, lab_step, numbered, peer_heard, raised, turn_given, turn_with}
use Rattle.lab_laws.specs.LabClients.{AreApart, AreClients, FitsStart, FitsTurn}
use Rattle.lab_laws.specs.Lives.{start_in, turn_of, turns_onto, with_turn}
use Rattle.lab_laws.specs.Messages.{Start, messages_after, said_onto, step_after}
use Rattle.lab_laws.specs.Numbers.{are_unlike, numbers}
use Rattle.lab_laws.specs.Reading.{IsReadFrom, NumbersAreUnlike}
use Rattle.lab_laws.proofs.Apart.{clients, frames_so, gone, opening_steps, opens_so, turn_sends}
use Rattle.lab_laws.proofs.Lived.{starts_fit}
use Rattle.lab_laws.proofs.SaidExchanges.{messages_on, each_unlike}
use Rattle.lab_laws.proofs.SaidFrames.{each_message_is_read}

-- ---- the messages of one interface among those of all

module _ (iface : ℕ) where
  on_both : (xs ys : List Message) → messages_on iface (xs ++ ys) ≡ messages_on iface xs ++ messages_on iface ys
  on_both [] ys = refl
  on_both (x ∷ xs) ys = by (x.iface == iface) (on_both xs ys)
    where
      by : (on : Bool) → messages_on iface (xs ++ ys) ≡ messages_on iface xs ++ messages_on iface ys
          → (if on then x.said ∷ messages_on iface (xs ++ ys) else messages_on iface (xs ++ ys))
          ≡ (if on then x.said ∷ messages_on iface xs else messages_on iface xs) ++ messages_on iface ys
      by true e = ap (λ (said : List Said4). x.said ∷ said) e
      by false e = e

  on_reverse : (xs : List Message) → messages_on iface (reverse xs) ≡ reverse (messages_on iface xs)
  on_reverse [] = refl
  on_reverse (x ∷ xs) =
      ap (messages_on iface) (reverse-append (x ∷ []) xs) ∙ on_both (reverse xs) (x ∷ []) ∙ by (x.iface == iface) (on_reverse xs)
    where
      by : (on : Bool) → messages_on iface (reverse xs) ≡ reverse (messages_on iface xs)
          → messages_on iface (reverse xs) ++ (if on then x.said ∷ [] else []) ≡ reverse (if on then x.said ∷ messages_on iface xs else messages_on iface xs)
      by true e = ap (λ (said : List Said4). said ++ x.said ∷ []) e ∙ sym (reverse-append (x.said ∷ []) (messages_on iface xs))
      by false e = append-nil (messages_on iface (reverse xs)) ∙ e

more_messages : (sent sends : List Sending) → messages_of (sent ++ sends) ≡ reverse (flat_map message_in sends) ++ messages_of sent
more_messages sent sends =
    ap reverse (flat_map-append message_in sent sends) ∙ reverse-append (flat_map message_in sent) (flat_map message_in sends)

-- ---- the messages of DHCPv4 among what is said, the first one first

abbrev saids : List Said → List Said4
saids [] = []
saids (Dhcp4 say ∷ said) = say.said ∷ saids said
saids (Arp say ∷ said) = saids said
saids (Dhcp6 sent ∷ said) = saids said

onto_is : (said : List Said) (past : List Said4) → said_onto said past ≡ reverse (saids said) ++ past
onto_is [] past = refl
onto_is (Dhcp4 say ∷ said) past =
    onto_is said (say.said ∷ past)
    ∙ sym (append_assoc (reverse (saids said)) (say.said ∷ []) past)
    ∙ ap (λ (before : List Said4). before ++ past) (sym (reverse-append (say.said ∷ []) (saids said)))
onto_is (Arp say ∷ said) past = onto_is said past
onto_is (Dhcp6 sent ∷ said) past = onto_is said past

module _ (beginning : Beginning) where
  abbrev spec : IfSpec
  spec = beginning.managed.spec

  abbrev ask : AskContent
  ask = ask_of beginning.duid beginning.managed

  -- the messages that are said, as those of the interface
  abbrev said_here : List Said → List Message
  said_here said = flat_map (λ (say : Said). message_with spec.index.number (message_said say)) said

  read_message : (say : Said) → IsReadFrom beginning say → message_in (spelled spec ask say) ≡ message_with spec.index.number (message_said say)
  read_message (Dhcp4 say) read = ap (message_with spec.index.number) read.0
  read_message (Arp say) read = ap (message_with spec.index.number) read
  read_message (Dhcp6 sent) read = ap (message_with spec.index.number) read

  all_messages : (said : List Said) → AllByRecursion (IsReadFrom beginning) said → flat_map message_in (map (spelled spec ask) said) ≡ said_here said
  all_messages [] all = refl
  all_messages (say ∷ said) all = ap₂ (λ (a b : List Message). a ++ b) (read_message say all.0) (all_messages said all.1)

  here : (iface : ℕ) → (spec.index.number == iface) ≡ true → (said : List Said) → messages_on iface (said_here said) ≡ saids said
  here iface is [] = refl
  here iface is (Dhcp4 say ∷ said) =
      ap (λ (on : Bool). if on then say.said ∷ messages_on iface (said_here said) else messages_on iface (said_here said)) is
      ∙ ap (λ (past : List Said4). say.said ∷ past) (here iface is said)
  here iface is (Arp say ∷ said) = here iface is said
  here iface is (Dhcp6 sent ∷ said) = here iface is said

  elsewhere : (iface : ℕ) → (spec.index.number == iface) ≡ false → (said : List Said) → messages_on iface (said_here said) ≡ []
  elsewhere iface other [] = refl
  elsewhere iface other (Dhcp4 say ∷ said) =
      ap (λ (on : Bool). if on then say.said ∷ messages_on iface (said_here said) else messages_on iface (said_here said)) other ∙ elsewhere iface other said
  elsewhere iface other (Arp say ∷ said) = elsewhere iface other said
  elsewhere iface other (Dhcp6 sent ∷ said) = elsewhere iface other said

-- ---- interfaces with unlike numbers

abbrev index : Managed → ℕ
index one = one.spec.index.number

abbrev AreUnlike : List Managed → Type 0
AreUnlike [] = Unit {0}
AreUnlike (one ∷ ones) = AllByRecursion (λ other. (index one == index other) ≡ false) ones × AreUnlike ones

same_number : (n : ℕ) → (n == n) ≡ true
same_number n = grind (arith, nat_tests)

unlike_numbers : (a b : ℕ) → (a ≡ b → ⊥) → (a == b) ≡ false
unlike_numbers a b other = by (a == b) refl
  where
    by : (same : Bool) → (a == b) ≡ same → same ≡ false
    by true is = absurd (other (grind (arith, nat_tests)))
    by false is = refl

flipped : (a b : ℕ) → (a == b) ≡ false → (b == a) ≡ false
flipped a b h = grind (arith, nat_tests)

unlike_pairs : (ones : List Managed) → AllPairs AreApart ones → AreUnlike ones
unlike_pairs [] apart = tt
unlike_pairs (one ∷ ones) apart = (
  recursion_from_All (λ other. (index one == index other) ≡ false) ones
      (λ k d less. unlike_numbers _ _ (apart 0 (suc k) d (omega arith) (omega (arith, less))).numbers),
  unlike_pairs ones (λ i j d below less. apart (suc i) (suc j) d (omega (arith, below)) (omega (arith, less))),
)

-- ---- the clients of a lab

module _ (managed : List Managed) (schedule : Schedule) where
  abbrev start : Managed → Start
  start one = start_in schedule managed one

  abbrev step : List Turn → Managed → IfaceStep
  step turns one = step_after (start one) turns

  abbrev frames : List Turn → List Managed → List Sending
  frames turns ones = flat_map sends_of (map (step turns) ones)

  abbrev read : List Turn → List Managed → List Message
  read turns ones = flat_map message_in (frames turns ones)

  abbrev Starts : List Managed → Type 0
  Starts ones = AllByRecursion (λ one. FitsStart (start one)) ones

  -- what is read of one among these is what it says
  abbrev Says : List Turn → List Managed → Managed → Type 0
  Says turns ones one = messages_on (index one) (read turns ones) ≡ saids (step turns one).said

  module _ (turns : List Turn) (fit : AllByRecursion FitsTurn turns) where
    abbrev mine : Managed → List Message
    mine one = flat_map message_in (sends_of (step turns one))

    mine_is : (one : Managed) → FitsStart (start one) → mine one ≡ said_here (start one).beginning (step turns one).said
    mine_is one fits =
        ap (flat_map message_in) (frames_so (start one) turns)
        ∙ all_messages (start one).beginning (step turns one).said (each_message_is_read (start one) turns fits fit)

    -- those of one interface among one's and those of others
    read_more : (iface : ℕ) (one : Managed) (ones : List Managed) → FitsStart (start one)
        → messages_on iface (read turns (one ∷ ones))
        ≡ messages_on iface (said_here (start one).beginning (step turns one).said) ++ messages_on iface (read turns ones)
    read_more iface one ones fits =
        ap (messages_on iface) (flat_map-append message_in (sends_of (step turns one)) (frames turns ones)) ∙ on_both iface (mine one) (read turns ones)
        ∙ ap (λ (messages : List Message). messages_on iface messages ++ messages_on iface (read turns ones)) (mine_is one fits)

    absent : (iface : ℕ) (ones : List Managed) → AllByRecursion (λ one. (index one == iface) ≡ false) ones → Starts ones
        → messages_on iface (read turns ones) ≡ []
    absent iface [] others starts = refl
    absent iface (one ∷ ones) others starts =
        read_more iface one ones starts.0
        ∙ ap₂ (λ (a b : List Said4). a ++ b) (elsewhere (start one).beginning iface others.0 (step turns one).said) (absent iface ones others.1 starts.1)

    each_says : (ones : List Managed) → AreUnlike ones → Starts ones → AllByRecursion (Says turns ones) ones
    each_says [] unlike starts = tt
    each_says (one ∷ ones) unlike starts = (
      read_more (index one) one ones starts.0
          ∙ ap₂ (λ (a b : List Said4). a ++ b) (here (start one).beginning (index one) (same_number (index one)) (step turns one).said)
          (absent (index one) ones
          (all_map (λ other. (index one == index other) ≡ false) (λ other. (index other == index one) ≡ false)
          (λ other h. flipped (index one) (index other) h) ones unlike.0)
          starts.1)
          ∙ append-nil (saids (step turns one).said),
      all_both (λ other. (index one == index other) ≡ false) (Says turns ones) (Says turns (one ∷ ones))
          (λ other h says. read_more (index other) one ones starts.0
          ∙ ap₂ (λ (a b : List Said4). a ++ b) (elsewhere (start one).beginning (index other) h (step turns one).said) says) ones unlike.0
          (each_says ones unlike.1 starts.1),
    )

  -- ---- the frames of a lab

  -- what was said in it is what each interface said
  abbrev pub SaidIn : List Turn → List Sending → Type 0
  SaidIn turns sent = AllByRecursion (λ one. messages_on (index one) (messages_of sent) ≡ messages_after (start one) turns) managed

  pub record Tells (lab : Lab) (turns : List Turn) : Type 0 where
    pub client : lab.client ≡ clients managed schedule turns
    pub said : SaidIn turns lab.sent

  module _ (are : AreClients managed) where
    unlike : AreUnlike managed
    unlike = unlike_pairs managed are.apart

    starts : Starts managed
    starts = recursion_from_All (λ one. FitsStart (start one)) managed (λ k d less. starts_fit managed schedule are _ (All-contains_itself managed k d less))

    -- a step more
    says_more : (turns : List Turn) (sent sends : List Sending) (past : Managed → List Said4) → sends ≡ frames turns managed → (one : Managed)
        → Says turns managed one → messages_on (index one) (messages_of sent) ≡ past one
        → messages_on (index one) (messages_of (sent ++ sends)) ≡ said_onto (step turns one).said (past one)
    says_more turns sent sends past are_sends one says before =
        ap (messages_on (index one)) (more_messages sent sends)
        ∙ on_both (index one) (reverse (flat_map message_in sends)) (messages_of sent)
        ∙ ap₂ (λ (a b : List Said4). a ++ b)
        (on_reverse (index one) (flat_map message_in sends)
        ∙ ap reverse (ap (λ (s : List Sending). messages_on (index one) (flat_map message_in s)) are_sends ∙ says)) before
        ∙ sym (onto_is (step turns one).said (past one))

    turn_tells : (turn : Turn) (turns : List Turn) (lab : Lab) → AllByRecursion FitsTurn (turn ∷ turns) → Tells lab turns
        → Tells (clients_turned turn lab).lab (turn ∷ turns)
    turn_tells turn turns lab fit tells = record {
      client = gone managed schedule turn turns lab.client tells.client;
      said = all_both (Says (turn ∷ turns) managed) (λ one. messages_on (index one) (messages_of lab.sent) ≡ messages_after (start one) turns)
          (λ one. messages_on (index one) (messages_of (lab.sent ++ (client_turned turn lab.client).sends)) ≡ messages_after (start one) (turn ∷ turns))
          (says_more (turn ∷ turns) lab.sent (client_turned turn lab.client).sends (λ one. messages_after (start one) turns)
          (turn_sends managed schedule turn turns lab.client tells.client))
          managed (each_says (turn ∷ turns) fit managed unlike starts) tells.said;
    }

    opening_tells : Tells (lab_opened managed schedule).lab []
    opening_tells = record {
      client = opens_so managed schedule;
      said = all_map (Says [] managed) (λ one. messages_on (index one) (messages_of (lab_opened managed schedule).lab.sent) ≡ messages_after (start one) [])
          (λ one says. says_more [] [] (lab_opened managed schedule).sends (λ one. []) (ap (flat_map sends_of) (opening_steps managed schedule)) one says refl)
          managed (each_says [] tt managed unlike starts);
    }

    heard_tells : (now : ℕ) (frame : Option Sending) (lab : Lab) (turns : List Turn) → Tells lab turns → Tells (peer_heard now frame lab).lab turns
    heard_tells now None lab turns tells = record { client = tells.client; said = tells.said }
    heard_tells now (Some sending) lab turns tells = record { client = tells.client; said = tells.said }

    step_tells : (event : LabEvent) (lab : Lab) (turns : List Turn) → AllByRecursion FitsTurn (with_turn (turn_of event lab) turns) → Tells lab turns
        → Tells (lab_step event lab).lab (with_turn (turn_of event lab) turns)
    step_tells (Tick at salt) lab turns fit tells = turn_tells (turn_with (raised at lab) salt wakes.Quiet []) turns lab fit tells
    step_tells (Carrier at salt iface up) lab turns fit tells =
        turn_tells (turn_with (raised at lab) salt (wakes.Carrier iface.number up) []) turns lab fit tells
    step_tells (Release at salt iface) lab turns fit tells = turn_tells (turn_with (raised at lab) salt (wakes.Release iface.number) []) turns lab fit tells
    step_tells (Give at salt iface frame) lab turns fit tells = turn_tells (turn_given (raised at lab) salt iface (numbered frame lab.made)) turns lab fit tells
    step_tells (Hear at frame) lab turns fit tells = heard_tells (raised at lab) (numbered frame lab.sent) lab turns tells

    before : (turn : Option Turn) (turns : List Turn) → AllByRecursion FitsTurn (with_turn turn turns) → AllByRecursion FitsTurn turns
    before None turns fit = fit
    before (Some turn) turns fit = fit.1

    earlier_fit : (events : List LabEvent) (lab : Lab) (turns : List Turn) → AllByRecursion FitsTurn (turns_onto events lab turns)
        → AllByRecursion FitsTurn turns
    earlier_fit [] lab turns fit = fit
    earlier_fit (event ∷ events) lab turns fit =
        before (turn_of event lab) turns (earlier_fit events (lab_step event lab).lab (with_turn (turn_of event lab) turns) fit)

    all_tell : (events : List LabEvent) (lab : Lab) (turns : List Turn) → AllByRecursion FitsTurn (turns_onto events lab turns) → Tells lab turns
        → Tells (lab_after events lab) (turns_onto events lab turns)
    all_tell [] lab turns fit tells = tells
    all_tell (event ∷ events) lab turns fit tells =
        let onto : List Turn = with_turn (turn_of event lab) turns in
        all_tell events (lab_step event lab).lab onto fit
        (step_tells event lab turns (earlier_fit events (lab_step event lab).lab onto fit) tells)

-- What is read in the frames of a lab is what each of its interfaces says.
pub lab_tells : (managed : List Managed) (schedule : Schedule) (events : List LabEvent) → AreClients managed
    → AllByRecursion FitsTurn (turns_onto events (lab_opened managed schedule).lab [])
    → Tells managed schedule (lab_after events (lab_opened managed schedule).lab) (turns_onto events (lab_opened managed schedule).lab [])
lab_tells managed schedule events are fit =
    all_tell managed schedule are events (lab_opened managed schedule).lab [] fit (opening_tells managed schedule are)

pub unlike_each : NumbersAreUnlike
unlike_each managed schedule events are fit unlike one among =
    let lab : Lab = lab_after events (lab_opened managed schedule).lab in
    let turns : List Turn = turns_onto events (lab_opened managed schedule).lab [] in
    let HasOwn : Managed → Type 0 = λ (one : Managed). messages_on (index one) (messages_of lab.sent) ≡ messages_after (start_in schedule managed one) turns in
    let is : HasOwn one = All-contains HasOwn managed one (All-from_recursion HasOwn managed (lab_tells managed schedule events are fit).said) among in
    subst (λ (said : List Said4). are_unlike (numbers said) ≡ true) is (each_unlike (index one) (messages_of lab.sent) unlike)
