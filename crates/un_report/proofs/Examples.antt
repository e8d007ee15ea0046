-- The lines of lanes, computed from the definitions for whole runs.
use Rattle.std.specs.Prelude.{◌≡◌, refl, ℕ, ◌-◌, List, [], ◌∷◌, ◌++◌, take, replicate, codes}
use Rattle.std.specs.Fmt.{digits}
use Rattle.hex.specs.Hex.{encode_with}
use Rattle.un_frame.specs.declared.params.Lane.{Lane}
use Rattle.un_frame.specs.declared.params.Lane.TheVariants.{Outward, Inward}
use Rattle.un_frame.specs.declared.params.Class.{Class}
use Rattle.un_frame.specs.declared.kinds.Planned.{Planned}
use Rattle.un_frame.specs.Parts.{datagram_of}
use Rattle.un_journal.specs.declared.controls.PlannedFault.{PlannedFault}
use Rattle.un_journal.specs.Script.{Script, Frame}
use Rattle.un_journal.specs.History.{past}
use Rattle.un_journal.specs.Drain.{drain}
use Rattle.un_report.specs.Counts.{counts, fed}
use Rattle.un_report.specs.Report.{item, offered, fates, rest, lane_line, frame_head, delivered_line, lane_part}

abbrev frame_of : ℕ → Frame
frame_of n = take n ((2 ∷ 0 ∷ 0 ∷ 0 ∷ 0 ∷ 2 ∷ 2 ∷ 0 ∷ 0 ∷ 0 ∷ 0 ∷ 1 ∷ 8 ∷ 0 ∷ []) ++ replicate (n - 14) 0)

-- ECM with one request in each pool, two outward senders and a fault plan
abbrev script_of : List Frame → List Frame → List PlannedFault → Script
script_of first second faults = record {
  params = record {
    class = Class.Ecm;
    segment = 1514;
    packet = 512;
    filter = 14;
    block = 16384;
    datagrams = 32;
    divisor = 4;
    remainder = 0;
    alignment = 4;
    tx_out = 1;
    rx_out = 1;
    tx_in = 1;
    rx_in = 1;
  };
  outward = record { first = first; second = second; third = []; fourth = [] };
  inward = record { first = []; second = []; third = []; fourth = [] };
  controls = [];
  faults = faults;
}

-- the line of a lane after the whole run
abbrev line_after : Script → Lane → List ℕ
line_after script lane = let t = counts script.params.packet (past lane (drain script [])) in lane_line lane t (fed script lane t.consumed)

-- one frame, and nothing inward
one_frame : line_after (script_of (frame_of 60 ∷ []) [] []) Outward ≡ codes "lane out taken 1 short 0 long 0 filtered 0 given 1 failed 0 cut 0 dropped 0 left 0 feed 0 transfers 1 packets 1\n"
unfolding item offered fates rest lane_line digits
one_frame = refl

nothing_inward : line_after (script_of (frame_of 60 ∷ []) [] []) Inward ≡ codes "lane in taken 0 short 0 long 0 filtered 0 given 0 failed 0 cut 0 dropped 0 left 0 feed 0 transfers 0 packets 0\n"
unfolding item offered fates rest lane_line digits
nothing_inward = refl

-- a transfer of just a packet is ended by an empty one
whole_packet : line_after (script_of (frame_of 512 ∷ []) [] []) Outward ≡ codes "lane out taken 1 short 0 long 0 filtered 0 given 1 failed 0 cut 0 dropped 0 left 0 feed 0 transfers 1 packets 2\n"
unfolding item offered fates rest lane_line digits
whole_packet = refl

-- a short and a long frame
short_and_long : line_after (script_of (frame_of 13 ∷ frame_of 1514 ∷ frame_of 1515 ∷ []) [] []) Outward ≡ codes "lane out taken 1 short 1 long 1 filtered 0 given 1 failed 0 cut 0 dropped 0 left 0 feed 0 transfers 1 packets 3\n"
unfolding item offered fates rest lane_line digits
short_and_long = refl

-- two senders
two_senders : line_after (script_of (frame_of 60 ∷ []) (frame_of 60 ∷ []) []) Outward ≡ codes "lane out taken 2 short 0 long 0 filtered 0 given 2 failed 0 cut 0 dropped 0 left 0 feed 0 transfers 2 packets 2\n"
unfolding item offered fates rest lane_line digits
two_senders = refl

-- a failed transfer is neither delivered nor are its packets counted
one_failed : line_after (script_of (frame_of 60 ∷ frame_of 60 ∷ []) [] (record { lane = Outward; serial = 0; planned = Planned.Halt } ∷ [])) Outward ≡ codes "lane out taken 2 short 0 long 0 filtered 0 given 1 failed 1 cut 0 dropped 0 left 0 feed 0 transfers 2 packets 1\n"
unfolding item offered fates rest lane_line digits datagram_of
one_failed = refl

-- a transfer that is tried again is one transfer, and hasn't failed while it is
tried_again : line_after (script_of (frame_of 60 ∷ []) [] (record { lane = Outward; serial = 0; planned = Planned.Proto 2 } ∷ [])) Outward ≡ codes "lane out taken 1 short 0 long 0 filtered 0 given 1 failed 0 cut 0 dropped 0 left 0 feed 0 transfers 1 packets 1\n"
unfolding item offered fates rest lane_line digits datagram_of
tried_again = refl

given_up : line_after (script_of (frame_of 60 ∷ []) [] (record { lane = Outward; serial = 0; planned = Planned.Proto 4 } ∷ [])) Outward ≡ codes "lane out taken 1 short 0 long 0 filtered 0 given 0 failed 1 cut 0 dropped 0 left 0 feed 0 transfers 1 packets 0\n"
unfolding item offered fates rest lane_line digits datagram_of
given_up = refl

-- a lane's line and its delivered datagrams
delivered_frame : lane_part (script_of (frame_of 14 ∷ []) [] []) Outward (counts 512 (past Outward (drain (script_of (frame_of 14 ∷ []) [] []) []))) (drain (script_of (frame_of 14 ∷ []) [] []) [])
    ≡ codes "lane out taken 1 short 0 long 0 filtered 0 given 1 failed 0 cut 0 dropped 0 left 0 feed 0 transfers 1 packets 1\nframe out 0 0200000000020200000000010800\n"
unfolding item offered fates rest lane_line frame_head delivered_line lane_part digits encode_with datagram_of
delivered_frame = refl
