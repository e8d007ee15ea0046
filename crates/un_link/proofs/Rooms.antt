-- The room of a script's lines and their bytes.
use Rattle.std.proofs.Common.{◌≡◌, ℕ, zero, suc, ◌+◌, ◌*◌, ◌<◌, ◌≤◌, ◌^◌, List, [], ◌∷◌, length, take, slice_get, Some, ap, ◌∙◌, arith}
use Rattle.std.specs.List.{sum_by}
use Rattle.std.proofs.lemmas.List.Sums.{sum_by-append}
use Rattle.std.proofs.lemmas.List.{take_all}
use Rattle.std.proofs.lemmas.Nat.{mul-le}
use Rattle.un_frame.specs.declared.params.Lane.{Lane}
use Rattle.un_frame.specs.declared.params.Lane.TheVariants.{Outward, Inward}
use Rattle.un_journal.specs.Script.{Script, Frame, Feeds, frames_of, feed_list, frames_in_all, frame_count}
use Rattle.un_journal.specs.Bytes.{frame_room}
use Rattle.un_journal.specs.Drain.{line_bound}
use Rattle.un_journal.proofs.ForLink.{take_one}
use Rattle.un_script.specs.Ready.{IsReady}

-- one frame more of a feed
pub feed_more : (frames : List Frame) (i before bytes bytes' : ℕ) (frame : Frame) → slice_get frames i ≡ Some frame → bytes ≡ before + sum_by frame_room (take i frames) → bytes' ≡ bytes + 192 + 2 * length frame
    → bytes' ≡ before + sum_by frame_room (take (i + 1) frames)
feed_more frames i before bytes bytes' frame at old new =
    let more : sum_by frame_room (take (i + 1) frames) ≡ sum_by frame_room (take i frames) + (0 + (2 * length frame + 192)) = ap (sum_by frame_room) (take_one i frames frame at) ∙ sum_by-append frame_room (take i frames) (frame ∷ []) in
    omega arith

pub feed_all : (frames : List Frame) (i before bytes : ℕ) → length frames ≤ i → bytes ≡ before + sum_by frame_room (take i frames) → bytes ≡ before + sum_by frame_room frames
feed_all frames i before bytes low e = e ∙ ap (λ fs. before + sum_by frame_room fs) (take_all i frames low)

-- no feed has more frames than a script
feeds_few : (feeds : Feeds) (sender : ℕ) → length (Rattle.std.specs.Prelude.unwrap_or (slice_get (feed_list feeds) sender) []) ≤ frames_in_all feeds
feeds_few feeds zero = omega arith
feeds_few feeds (suc zero) = omega arith
feeds_few feeds (suc (suc zero)) = omega arith
feeds_few feeds (suc (suc (suc zero))) = omega arith
feeds_few feeds (suc (suc (suc (suc n)))) = omega arith

pub feed_few : (script : Script) (lane : Lane) (sender : ℕ) → IsReady script → length (frames_of script lane sender) ≤ 65536
feed_few script Outward sender r = let f : frame_count script ≤ 65536 = r.few in let l : length (frames_of script Outward sender) ≤ frames_in_all script.outward = feeds_few script.outward sender in omega arith
feed_few script Inward sender r = let f : frame_count script ≤ 65536 = r.few in let l : length (frames_of script Inward sender) ≤ frames_in_all script.inward = feeds_few script.inward sender in omega arith

-- a history has fewer lines than its counts have room for
pub few_lines : (script : Script) → IsReady script → line_bound script < 2 ^ 63
few_lines script r =
    let f : frame_count script ≤ 65536 = r.few in
    let c : length script.controls ≤ 256 = r.controls in
    let o : script.params.rx_out ≤ 64 = r.in_range.rx_out.1 in
    let i : script.params.rx_in ≤ 64 = r.in_range.rx_in.1 in
    let m : (2 * length script.controls + 1) * (script.params.rx_out + script.params.rx_in) ≤ 513 * 128 = mul-le (2 * length script.controls + 1) (script.params.rx_out + script.params.rx_in) 513 128 (omega arith) (omega arith) in
    omega arith
