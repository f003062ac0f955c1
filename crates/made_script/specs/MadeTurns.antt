-- The turns of the life: each interface gets a lease, and then renews it again and again.
use Rattle.std.specs.Prelude.{ℕ, ◌+◌, ◌*◌, ◌%◌, List, [], ◌∷◌, ◌++◌, map, flat_map}
use Rattle.world.specs.declared.wakes.Event.TheVariants.{Quiet}
use Rattle.world.specs.LinkCalls.{Given}
use Rattle.script_model.specs.Lines.{numbers_from}
use Rattle.server_data.specs.declared.reply.ReplyKind.TheVariants.{Ack}
use Rattle.made_script.specs.declared.frames.TheConstants.{SALT}
use Rattle.made_script.specs.declared.turns.Wave.{Wave}
use Rattle.made_script.specs.declared.turns.TheConstants.{FIRST_TURN, ROUND, OFFERS, ACKS}
use Rattle.made_script.specs.MadeHosts.{all_interfaces}
use Rattle.made_script.specs.MadeReplies.{reply_given}

abbrev pub quiet_given : (at : ℕ) → Given
quiet_given at = record { wake = record { at = at; salt = SALT; event = Quiet }; bytes = [] }

-- the message to an interface
abbrev pub wave_turn : Wave → ℕ → Given
wave_turn wave index =
    reply_given (wave.after + index) (record { index = index; kind = wave.kind; xid = index + wave.ahead })

-- a message to each interface, a millisecond after the one before
unfoldable pub wave_given : Wave → List Given
wave_given wave = map (wave_turn wave) all_interfaces

-- the transaction numbers of odd rounds are one ahead, since a client doesn't draw that of its last exchange again
abbrev pub renewals : (round : ℕ) → Wave
renewals round = record { kind = Ack; after = ROUND * round; ahead = round % 2 }

abbrev pub round_given : (round : ℕ) → List Given
round_given round = quiet_given (ROUND * round) ∷ wave_given (renewals round)

abbrev pub made_turns : (rounds : ℕ) → List Given
made_turns rounds =
    quiet_given FIRST_TURN ∷ (wave_given OFFERS ++ wave_given ACKS ++ flat_map round_given (numbers_from 1 rounds))
