-- What a path is, as plain data, and what its calls need of a journal and do to it.
use Rattle.std.specs.Prelude.{◌≡◌, ℕ, ◌+◌, ◌<◌, ◌≤◌, ◌^◌, ◌++◌, length}
use Rattle.un_frame.specs.declared.params.Lane.{Lane}
use Rattle.un_endpoint.specs.Bus.{Bus}
use Rattle.un_endpoint.specs.Ends.{Transmitter, Receiver}
use Rattle.un_journal.specs.History.{History, past}
use Rattle.un_journal.specs.Log.{Log}
use Rattle.un_journal.specs.Bytes.{bytes_in}

-- a lane: how many datagrams were accepted and how many transfers were made, its two ends, and the endpoint between them
pub record Way : Type 0 where
  pub lane : Lane
  pub accepted : ℕ
  pub made : ℕ
  pub tx : Transmitter
  pub rx : Receiver
  pub bus : Bus

-- the lines of the path's lane in a journal, the newest first
abbrev pub lane_lines : Way → Log → History
lane_lines way log = past way.lane log.history

-- A journal has room for lines: for their number, and for their bytes. With them it has fewer than 2 ^ 63 lines, so no number of a
-- datagram or of a transfer runs out of its type.
pub record HasRoom (log : Log) (lines : History) : Type 0 where
  pub lines_fit : length lines ≤ log.spare_lines
  pub bytes_fit : bytes_in lines ≤ log.spare_bytes
  pub counts_fit : length log.history + length lines < 2 ^ 63

-- a journal has these lines more, and room for as many fewer
pub record Adds (old new : Log) (lines : History) : Type 0 where
  pub history_is : new.history ≡ old.history ++ lines
  pub lines_left : new.spare_lines + length lines ≡ old.spare_lines
  pub bytes_left : new.spare_bytes + bytes_in lines ≡ old.spare_bytes
