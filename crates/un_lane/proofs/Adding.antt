-- Lines that a journal has more, and room for lines.
use Rattle.std.proofs.Common.{◌≡◌, ◌+◌, ◌<◌, ◌≤◌, ◌^◌, ◌++◌, [], ◌∷◌, take, length, sym, ap, ◌∙◌, arith, append-nil, append_assoc, length-append}
use Rattle.un_journal.specs.History.{History}
use Rattle.un_journal.specs.Log.{Log}
use Rattle.un_journal.specs.Bytes.{bytes_in}
use Rattle.un_journal.proofs.ForLane.{bytes_append, past_short, taken_short, made_short}
use Rattle.un_journal.specs.History.{past, taken, made}
use Rattle.un_lane.specs.Way.{Way, HasRoom, Adds}
use Rattle.un_lane.specs.Stands.{Stands}

pub adds_none : (log : Log) → Adds log log []
adds_none log = record { history_is = sym (append-nil log.history); lines_left = omega arith; bytes_left = omega arith }

pub adds_more : (a b c : Log) (xs ys : History) → Adds a b xs → Adds b c ys → Adds a c (xs ++ ys)
adds_more a b c xs ys f s =
    let l : length (xs ++ ys) ≡ length xs + length ys = length-append xs ys in
    let n : bytes_in (xs ++ ys) ≡ bytes_in xs + bytes_in ys = bytes_append xs ys in
    let fl : b.spare_lines + length xs ≡ a.spare_lines = f.lines_left in
    let sl : c.spare_lines + length ys ≡ b.spare_lines = s.lines_left in
    let fb : b.spare_bytes + bytes_in xs ≡ a.spare_bytes = f.bytes_left in
    let sb : c.spare_bytes + bytes_in ys ≡ b.spare_bytes = s.bytes_left in
    record {
      history_is = s.history_is ∙ (ap (λ h. h ++ ys) f.history_is ∙ append_assoc a.history xs ys);
      lines_left = omega arith;
      bytes_left = omega arith;
    }

-- of lines with room the first have room, and the others after them
pub room_front : (log : Log) (xs ys : History) → HasRoom log (xs ++ ys) → HasRoom log xs
room_front log xs ys r =
    let l : length (xs ++ ys) ≡ length xs + length ys = length-append xs ys in
    let n : bytes_in (xs ++ ys) ≡ bytes_in xs + bytes_in ys = bytes_append xs ys in
    let rl : length (xs ++ ys) ≤ log.spare_lines = r.lines_fit in
    let rb : bytes_in (xs ++ ys) ≤ log.spare_bytes = r.bytes_fit in
    let rc : length log.history + length (xs ++ ys) < 2 ^ 63 = r.counts_fit in
    record { lines_fit = omega arith; bytes_fit = omega arith; counts_fit = omega arith }

pub first_room : (log : Log) (xs ys : History) → HasRoom log (take 1 (xs ++ ys)) → HasRoom log (take 1 xs)
first_room log [] ys r = room_front log [] (take 1 ys) r
first_room log (x ∷ xs) ys r = r

pub room_rest : (log log' : Log) (xs ys : History) → HasRoom log (xs ++ ys) → Adds log log' xs → HasRoom log' ys
room_rest log log' xs ys r a =
    let l : length (xs ++ ys) ≡ length xs + length ys = length-append xs ys in
    let n : bytes_in (xs ++ ys) ≡ bytes_in xs + bytes_in ys = bytes_append xs ys in
    let rl : length (xs ++ ys) ≤ log.spare_lines = r.lines_fit in
    let rb : bytes_in (xs ++ ys) ≤ log.spare_bytes = r.bytes_fit in
    let rc : length log.history + length (xs ++ ys) < 2 ^ 63 = r.counts_fit in
    let al : log'.spare_lines + length xs ≡ log.spare_lines = a.lines_left in
    let ab : log'.spare_bytes + bytes_in xs ≡ log.spare_bytes = a.bytes_left in
    let h : length log'.history ≡ length log.history + length xs = ap length a.history_is ∙ length-append log.history xs in
    record { lines_fit = omega arith; bytes_fit = omega arith; counts_fit = omega arith }

-- with room for lines the numbers of datagrams and transfers are far from their type's end
pub accepted_small : (way : Way) (log : Log) (lines : History) → Stands way (past way.lane log.history) → HasRoom log lines → way.accepted + 1 < 2 ^ 64
accepted_small way log lines w r =
    let e : taken (past way.lane log.history) ≡ way.accepted = w.building.accepted_is in
    let t : taken (past way.lane log.history) ≤ length (past way.lane log.history) = taken_short (past way.lane log.history) in
    let p : length (past way.lane log.history) ≤ length log.history = past_short way.lane log.history in
    let c : length log.history + length lines < 2 ^ 63 = r.counts_fit in
    omega arith

pub made_small : (way : Way) (log : Log) (lines : History) → Stands way (past way.lane log.history) → HasRoom log lines → way.made + 1 < 2 ^ 64
made_small way log lines w r =
    let e : made (past way.lane log.history) ≡ way.made = w.building.made_is in
    let t : made (past way.lane log.history) ≤ length (past way.lane log.history) = made_short (past way.lane log.history) in
    let p : length (past way.lane log.history) ≤ length log.history = past_short way.lane log.history in
    let c : length log.history + length lines < 2 ^ 63 = r.counts_fit in
    omega arith
