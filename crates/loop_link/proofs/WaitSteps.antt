-- What comes in a wait, call by call.
use Rattle.std.proofs.Common.{◌≡◌, ℕ, Bool, true, false, cond, inl, inr, List, [], ◌∷◌, ◌++◌, append-nil, length, take, drop, Option, None, Some, Ok, Err, refl, subst, ap, ◌∙◌}
use Rattle.world.specs.declared.wakes.Event.{Event}
use Rattle.world.specs.declared.wakes.Event.TheVariants.{Quiet}
use Rattle.world.specs.LinkCalls.{frame_len, cut_event}
use Rattle.loop_link.specs.declared.datagrams.TheConstants.{HEAD}
use Rattle.loop_link.specs.Datagrams.{event_said}
use Rattle.loop_link.specs.WireCalls.{WireCall, Bound, Limited, Received, Sent, WallRead, SteadyRead, TellsMoment, Receives, is_from}
use Rattle.loop_link.specs.Waits.{heard_from, HearsAll, HearsNone, Brings, BringsYet, Brought, Says}
use Rattle.system_calls.proofs.Doing.{behind}

one_more : (is : Bool) (bytes : List ℕ) (all later earlier : List (List ℕ)) → all ≡ later ++ earlier
    → cond is (bytes ∷ all) all ≡ cond is (bytes ∷ later) later ++ earlier
one_more true bytes all later earlier e = ap (λ xs. bytes ∷ xs) e
one_more false bytes all later earlier e = e

-- what was heard in calls, and in those before them
pub heard_behind : (peer : ℕ) (later earlier : List WireCall) → heard_from peer (later ++ earlier) ≡ heard_from peer later ++ heard_from peer earlier
heard_behind peer [] earlier = refl
heard_behind peer (Received (Ok datagram) ∷ later) earlier =
    one_more (is_from peer datagram.sender) datagram.bytes (heard_from peer (later ++ earlier)) (heard_from peer later) (heard_from peer earlier)
    (heard_behind peer later earlier)
heard_behind peer (Received (Err kind) ∷ later) earlier = heard_behind peer later earlier
heard_behind peer (Bound port failure ∷ later) earlier = heard_behind peer later earlier
heard_behind peer (Limited millis failure ∷ later) earlier = heard_behind peer later earlier
heard_behind peer (Sent datagram port failure ∷ later) earlier = heard_behind peer later earlier
heard_behind peer (WallRead answer ∷ later) earlier = heard_behind peer later earlier
heard_behind peer (SteadyRead answer ∷ later) earlier = heard_behind peer later earlier

hears_both : (peer : ℕ) (first second : List (List ℕ)) (old mid new : Option (List WireCall)) → HearsAll peer first old mid → HearsAll peer second mid new
    → HearsAll peer (second ++ first) old new
hears_both peer first second old mid new a b = record {
  made = b.made ++ a.made;
  asked = behind b.made a.made old mid new a.asked b.asked;
  all = heard_behind peer b.made a.made ∙ ap (λ xs. xs ++ heard_from peer a.made) b.all ∙ ap (λ xs. second ++ xs) a.all;
}

-- nothing is heard in no calls, nor where a moment is told
pub nothing_heard : (peer : ℕ) (old : Option (List WireCall)) → HearsNone peer old old
nothing_heard peer None = record { made = []; asked = refl; all = refl }
nothing_heard peer (Some calls) = record { made = []; asked = refl; all = refl }

pub moment_told : (peer moment last begun since : ℕ) (old new : Option (List WireCall)) → TellsMoment moment last begun since old new → HearsNone peer old new
moment_told peer moment last begun since old new told = record { made = SteadyRead (Ok told.nanos) ∷ []; asked = told.asked; all = refl }

pub both_quiet : (peer : ℕ) (old mid new : Option (List WireCall)) → HearsNone peer old mid → HearsNone peer mid new → HearsNone peer old new
both_quiet peer old mid new first second = hears_both peer [] [] old mid new first second

-- a piece in which nothing of the peer came
pub none_heard : (millis peer room : ℕ) (due : Type 0) (datagram buffer : List ℕ) (old new : Option (List WireCall))
    → Receives millis peer datagram old new (Ok None) → BringsYet peer due None room buffer old new
none_heard millis peer room due datagram buffer old new (inl (other, strange, asked)) = record {
  made = Received (Ok other) ∷ Limited millis None ∷ [];
  asked = asked;
  all = ap (λ is. cond is (other.bytes ∷ []) []) strange;
}
none_heard millis peer room due datagram buffer old new (inr (kind, over, asked)) = record {
  made = Received (Err kind) ∷ Limited millis None ∷ [];
  asked = asked;
  all = refl;
}

-- and one in which a datagram of the peer came
pub one_heard : (millis peer room len : ℕ) (due : Type 0) (datagram buffer : List ℕ) (event : Event) (old new : Option (List WireCall))
    → Receives millis peer datagram old new (Ok (Some len))
    → event ≡ cut_event (event_said (take len datagram)) (length (drop HEAD (take len datagram))) room
    → take (frame_len event) buffer ≡ take (frame_len event) (drop HEAD (take len datagram)) → BringsYet peer due (Some event) room buffer old new
one_heard millis peer room len due datagram buffer event old new received says frame = record {
  heard = take len datagram ∷ [];
  came = record {
    made = Received (Ok (record { bytes = take len datagram; sender = received.sender })) ∷ Limited millis None ∷ [];
    asked = received.asked;
    all = ap (λ is. cond is (take len datagram ∷ []) []) received.is_peer;
  };
  says = record { event = says; frame = frame };
}

-- a wait in which nothing came is quiet, where it's over
pub quiet_or_on : (peer room : ℕ) (due : Type 0) (buffer : List ℕ) (over : Bool) (heard : Option Event) (old new : Option (List WireCall))
    → heard ≡ cond over (Some Quiet) None → (over ≡ true → due) → HearsNone peer old new → BringsYet peer due heard room buffer old new
quiet_or_on peer room due buffer true heard old new is over none = rw is (record { heard = []; came = none; says = (refl, over refl) })
quiet_or_on peer room due buffer false heard old new is over none = rw is none

-- what comes behind calls in which nothing was heard, and before such calls
pub then_brings : (peer room : ℕ) (due : Type 0) (buffer : List ℕ) (heard : Option Event) (old mid new : Option (List WireCall)) → HearsNone peer old mid
    → BringsYet peer due heard room buffer mid new → BringsYet peer due heard room buffer old new
then_brings peer room due buffer None old mid new first rest = both_quiet peer old mid new first rest
then_brings peer room due buffer (Some event) old mid new first rest = record {
  heard = rest.heard ++ [];
  came = hears_both peer [] rest.heard old mid new first rest.came;
  says = rw (append-nil rest.heard) rest.says;
}

pub piece_brings : (peer kept room space : ℕ) (due : Type 0) (buffer : List ℕ) (heard : Option Event) (event : Event) (old mid new : Option (List WireCall))
    → kept ≡ peer → space ≡ room → heard ≡ Some event → HearsNone peer old mid → BringsYet kept due heard space buffer mid new
    → Brings peer due (record { event = event; room = room; buffer = buffer }) old new
piece_brings peer kept room space due buffer heard event old mid new same all is first rest =
    then_brings peer room due buffer (Some event) old mid new first
    (subst (λ p. BringsYet p due (Some event) room buffer mid new) same
    (subst (λ n. BringsYet kept due (Some event) n buffer mid new) all (subst (λ h. BringsYet kept due h space buffer mid new) is rest)))

says_if : (due later : Type 0) (heard : List (List ℕ)) (brought : Brought) → (due → later) → Says due heard brought → Says later heard brought
says_if due later [] brought f says = (says.0, f says.1)
says_if due later (datagram ∷ []) brought f says = says
says_if due later (datagram ∷ earlier ∷ heard) brought f says = says

-- what follows from what holds of a quiet wait
pub brings_if : (peer : ℕ) (due later : Type 0) (brought : Brought) (old new : Option (List WireCall)) → (due → later) → Brings peer due brought old new
    → Brings peer later brought old new
brings_if peer due later brought old new f brings = record {
  heard = brings.heard;
  came = brings.came;
  says = says_if due later brings.heard brought f brings.says;
}

pub yet_if : (peer room : ℕ) (due later : Type 0) (buffer : List ℕ) (heard : Option Event) (old new : Option (List WireCall)) → (due → later)
    → BringsYet peer due heard room buffer old new → BringsYet peer later heard room buffer old new
yet_if peer room due later buffer None old new f none = none
yet_if peer room due later buffer (Some event) old new f brings =
    brings_if peer due later (record { event = event; room = room; buffer = buffer }) old new f brings

pub brings_then : (peer kept room : ℕ) (due : Type 0) (buffer : List ℕ) (event : Event) (old mid new : Option (List WireCall)) → kept ≡ peer
    → Brings peer due (record { event = event; room = room; buffer = buffer }) old mid → HearsNone kept mid new
    → Brings peer due (record { event = event; room = room; buffer = buffer }) old new
brings_then peer kept room due buffer event old mid new same first last = record {
  heard = first.heard;
  came = hears_both peer first.heard [] old mid new first.came (subst (λ p. HearsNone p mid new) same last);
  says = first.says;
}

-- how a wait goes on
pub ruleset waits_go_on = (nothing_heard, moment_told, both_quiet, none_heard, one_heard, then_brings, yet_if, quiet_or_on)
