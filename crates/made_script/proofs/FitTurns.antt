-- The turns are those of a script, and none of them is a stop.
use Rattle.std.proofs.Common.{◌≡◌, ℕ, ◌+◌, ◌*◌, ◌^◌, ◌<◌, ◌≤◌, false, max, List, [], ◌∷◌, ◌++◌, length, flat_map, None, refl, arith}
use Rattle.std.specs.List.{AllByRecursion}
use Rattle.net_types.specs.Marks.{AreBytes}
use Rattle.net_types.proofs.AllLaws.{all_join}
use Rattle.server_data.proofs.RepliesRead.{reply_most}
use Rattle.server_data.specs.declared.framing.TheConstants.{SERVER_MAC}
use Rattle.server_data.specs.Replies.{reply_text}
use Rattle.server_data.specs.ServerFrames.{ends_of, server_frame}
use Rattle.udp_frame.proofs.Cells.{all_bytes}
use Rattle.udp_frame.proofs.Laws.{frame_len}
use Rattle.v4_frames.specs.declared.sent.TheConstants.{CLIENT_PORT, SERVER_PORT}
use Rattle.world.specs.LinkCalls.{Given}
use Rattle.script_model.specs.Lines.{numbers_from}
use Rattle.script_model.specs.Stops.{wakes_seen, is_stop, stop_moment}
use Rattle.script_model.specs.Scripts.{FitsGiven}
use Rattle.made_script.specs.declared.frames.ReplyTo.{ReplyTo}
use Rattle.made_script.specs.declared.turns.Wave.{Wave}
use Rattle.made_script.specs.declared.turns.TheConstants.{OFFERS, ACKS, ROUND}
use Rattle.made_script.specs.MadeHosts.{own_mac}
use Rattle.made_script.specs.MadeReplies.{reply_to, reply_given}
use Rattle.made_script.specs.MadeTurns.{quiet_given, wave_turn, wave_given, renewals, round_given, made_turns}
use Rattle.made_script.proofs.FrameBytes.{reply_bytes}
use Rattle.made_script.proofs.Numbers.{mapped_all, joined_all}

-- ---- what holds of each turn

module _ (P : Given → Type 0) (quiet : (at : ℕ) → at < 10 ^ 15 → P (quiet_given at))
    (said : (at : ℕ) (to : ReplyTo) → at < 10 ^ 15 → 1 ≤ to.index → to.index ≤ 64 → P (reply_given at to)) where
  each_of_wave : (wave : Wave) → wave.after < 10 ^ 14 → AllByRecursion P (wave_given wave)
  unfolding wave_given
  each_of_wave wave early =
      mapped_all P (wave_turn wave) 1 64
      (λ i from below. said (wave.after + i) (record { index = i; kind = wave.kind; xid = i + wave.ahead }) (omega arith) from (omega arith))

  each_of_round : (round : ℕ) → round ≤ 100 → AllByRecursion P (round_given round)
  each_of_round round few = (quiet (ROUND * round) (omega arith), each_of_wave (renewals round) (omega arith))

  pub each_turn : (rounds : ℕ) → rounds ≤ 100 → AllByRecursion P (made_turns rounds)
  each_turn rounds few = (
    quiet 1 (omega arith),
    all_join P (wave_given OFFERS ++ wave_given ACKS) (flat_map round_given (numbers_from 1 rounds))
        (all_join P (wave_given OFFERS) (wave_given ACKS) (each_of_wave OFFERS (omega arith)) (each_of_wave ACKS (omega arith)))
        (joined_all P round_given 1 rounds (λ i from below. each_of_round i (omega arith))),
  )

-- ---- each fits

mac_bytes : (index : ℕ) → index ≤ 64 → AreBytes (own_mac index).bytes
mac_bytes index small =
    all_bytes (own_mac index).bytes (omega arith, (omega arith, (omega arith, (omega arith, (omega arith, (omega arith, tt))))))

server_bytes : AreBytes SERVER_MAC.bytes
server_bytes = all_bytes SERVER_MAC.bytes (omega arith, (omega arith, (omega arith, (omega arith, (omega arith, (omega arith, tt))))))

reply_octets : (to : ReplyTo) → to.index ≤ 64 → AreBytes (server_frame (reply_to to))
unfolding server_frame
reply_octets to small =
    reply_bytes (ends_of (reply_to to)) SERVER_PORT CLIENT_PORT (reply_to to) (mac_bytes to.index small) server_bytes (mac_bytes to.index small)

reply_short : (to : ReplyTo) → length (server_frame (reply_to to)) ≤ 2048
unfolding server_frame
reply_short to =
    let whole : length (server_frame (reply_to to)) ≡ 42 + length (reply_text (reply_to to)) =
    frame_len (ends_of (reply_to to)) SERVER_PORT CLIENT_PORT (reply_text (reply_to to)) refl refl in
    let most = reply_most (reply_to to) refl in
    omega (arith, whole, most)

quiet_fits : (at : ℕ) → at < 10 ^ 15 → FitsGiven 64 (quiet_given at)
quiet_fits at early = record { at = early; salt = omega arith; event = tt; bytes = refl }

reply_fits : (at : ℕ) (to : ReplyTo) → at < 10 ^ 15 → 1 ≤ to.index → to.index ≤ 64 → FitsGiven 64 (reply_given at to)
reply_fits at to early from small = record {
  at = early;
  salt = omega arith;
  event = (from, small);
  bytes = record { whole = refl; room = reply_short to; octets = reply_octets to small };
}

pub turns_fit : (rounds : ℕ) → rounds ≤ 100 → AllByRecursion (FitsGiven 64) (made_turns rounds)
turns_fit rounds few = each_turn (FitsGiven 64) quiet_fits reply_fits rounds few

-- ---- none is a stop

abbrev IsNoStop : Given → Type 0
IsNoStop given = is_stop given.wake.event ≡ false

never : (turns : List Given) (now : ℕ) → AllByRecursion IsNoStop turns → stop_moment (wakes_seen now turns) ≡ None
never [] now all = refl
never (given ∷ turns) now all = rw all.0 (never turns (max now given.wake.at) all.1)

pub never_stops : (rounds : ℕ) → rounds ≤ 100 → stop_moment (wakes_seen 0 (made_turns rounds)) ≡ None
never_stops rounds few = never (made_turns rounds) 0 (each_turn IsNoStop (λ at early. refl) (λ at to early from small. refl) rounds few)
