-- What a line needs of the script and of the lines before it, the newest first: why a transfer failed, was tried again or
-- was cut, why datagrams were dropped, and that every request is home where a stop settles.
use Rattle.std.specs.Prelude.{◌≡◌, ◌<◌, ℕ, ◌+◌, true, false, ◌||◌, Some, None, slice_get, filter, reverse}
use Rattle.un_frame.specs.Lanes.{tx_size, rx_size}
use Rattle.un_frame.specs.declared.params.Lane.{Lane}
use Rattle.un_frame.specs.declared.params.Lane.TheVariants.{Outward, Inward}
use Rattle.un_frame.specs.declared.kinds.Planned.{Planned}
use Rattle.un_journal.specs.declared.lines.Line.{Line}
use Rattle.un_journal.specs.declared.lines.Line.TheVariants.{Failed, Retried, Marked, Cut, Dropped, Settled}
use Rattle.un_journal.specs.declared.controls.Control.{Control as Order}
use Rattle.un_journal.specs.declared.controls.Due.{Due}
use Rattle.un_frame.specs.Attempts.{RetriesAfter, FailsAfter}
use Rattle.un_journal.specs.Script.{Script, planned}
use Rattle.un_journal.specs.History.{Entry, History, concerns, mark, attempts}
use Rattle.un_journal.specs.Lookup.{controls_done, phase_after, is_stopping, is_leaving}
use Rattle.un_journal.specs.Step.{all_home}
use Rattle.std.specs.Prelude.{[], ◌∷◌}

-- whether an order gives up transfers of the lane, whether it stops the link
abbrev pub Cuts : Order → Lane → Type 0
Cuts Order.Down lane = Unit {0}
Cuts Order.Unplug lane = Unit {0}
Cuts (Order.Unlink l) lane = l ≡ lane
Cuts order lane = ⊥

abbrev pub Stops : Order → Type 0
Stops Order.Down = Unit {0}
Stops Order.Unplug = Unit {0}
Stops order = ⊥

-- control c is done, and its order is of this kind
pub record IsCause (script : Script) (older : History) (c : ℕ) (kind : Order → Type 0) : Type 0 where
  pub due : Due
  pub is_control : slice_get script.controls c ≡ Some due
  pub is_done : c < controls_done older
  pub is_kind : kind due.control

-- the plan lets the transfer do this after the attempts that failed, and no control marked it
pub record IsPlanned (script : Script) (older : History) (lane : Lane) (k : ℕ) (does : Planned → ℕ → Type 0) : Type 0 where
  pub by_plan : does (planned script lane k) (attempts (filter (concerns lane) older) k)
  pub is_unmarked : mark (filter (concerns lane) older) k ≡ None

-- a control line is of the next control of the script, and no stop is being settled
pub record IsOrder (script : Script) (older : History) (c : ℕ) : Type 0 where
  pub is_next : c ≡ controls_done older
  pub due : Due
  pub is_control : slice_get script.controls c ≡ Some due
  pub is_settled : (is_stopping (phase_after script.controls older) || is_leaving (phase_after script.controls older)) ≡ false

-- the four numbers of a settled line are the sizes of the pools
pub record AreSizes (script : Script) (t1 r1 t2 r2 : ℕ) : Type 0 where
  pub tx_out : t1 ≡ tx_size script.params Outward
  pub rx_out : r1 ≡ rx_size script.params Outward
  pub tx_in : t2 ≡ tx_size script.params Inward
  pub rx_in : r2 ≡ rx_size script.params Inward

-- a settled line with these numbers finds every request at home: so it is after the lines before it, and the numbers say so
pub record FindsHome (script : Script) (before : History) (t1 r1 t2 r2 : ℕ) : Type 0 where
  pub is_home : all_home script before ≡ true
  pub sizes : AreSizes script t1 r1 t2 r2

-- What licenses a line at its place. A failed, retried, cut or dropped line has its cause; a marked line names a control that
-- cuts its lane; control and settled lines stand where they may.
abbrev pub Licensed : Script → History → Entry → Type 0
Licensed script older (Failed l k kind, bytes) = IsPlanned script older l k (λ plan r. FailsAfter plan r kind)
Licensed script older (Retried l k n, bytes) =
    IsPlanned script older l k (λ plan r. RetriesAfter plan r × (n ≡ r + 1))
Licensed script older (Marked l k c, bytes) = IsCause script older c (λ o. Cuts o l)
Licensed script older (Cut l k c, bytes) = IsCause script older c (λ o. Cuts o l)
Licensed script older (Dropped l a b c, bytes) = IsCause script older c Stops
Licensed script older (Settled t1 r1 t2 r2, bytes) = FindsHome script (reverse older) t1 r1 t2 r2
Licensed script older (Line.Control c f, bytes) = IsOrder script older c
Licensed script older (e, bytes) = Unit {0}

-- every line is licensed at its place
abbrev pub AllLicensed : Script → History → Type 0
AllLicensed script [] = Unit {0}
AllLicensed script (e ∷ older) = Licensed script older e × AllLicensed script older
