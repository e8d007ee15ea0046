-- What a script's parts are when one more is added, and which may be.
use Rattle.std.specs.Prelude.{ℕ, ◌<◌, Bool, ◌==◌, List, [], ◌∷◌, ◌++◌, length, Option, Some, None, is_some, All, if◌then◌else◌}
use Rattle.un_frame.specs.declared.params.Lane.{Lane}
use Rattle.un_frame.specs.declared.params.Lane.TheVariants.{Outward, Inward}
use Rattle.un_frame.specs.declared.params.Params.{Params}
use Rattle.un_journal.specs.declared.controls.Control.{Control}
use Rattle.un_journal.specs.declared.controls.Control.TheVariants.{Suspend, Resume, Down, Up, Unlink, Unplug}
use Rattle.un_journal.specs.declared.controls.Due.{Due}
use Rattle.un_journal.specs.Script.{Frame, Feeds, Script}
use Rattle.un_script.specs.declared.state.LinkState.{LinkState}
use Rattle.un_script.specs.declared.state.LinkState.TheVariants.{Awake, Suspended, Stopped, Unplugged}

abbrev pub no_frames : Feeds
no_frames = record { first = []; second = []; third = []; fourth = [] }

abbrev pub empty_script : Params → Script
empty_script params = record { params = params; outward = no_frames; inward = no_frames; controls = []; faults = [] }

-- FRAMES

abbrev pub frame_added : ℕ → Frame → Feeds → Feeds
frame_added sender frame feeds =
    if sender == 0 then record feeds { first = feeds.first ++ frame ∷ [] }
    else (if sender == 1 then record feeds { second = feeds.second ++ frame ∷ [] }
    else (if sender == 2 then record feeds { third = feeds.third ++ frame ∷ [] }
    else record feeds { fourth = feeds.fourth ++ frame ∷ [] }))

abbrev pub with_frame : Lane → ℕ → Frame → Script → Script
with_frame Outward sender frame script = record script { outward = frame_added sender frame script.outward }
with_frame Inward sender frame script = record script { inward = frame_added sender frame script.inward }

-- a frame of no byte isn't one
abbrev pub HasBytes : Frame → Type 0
HasBytes frame = 0 < length frame

pub record FeedsHaveBytes (feeds : Feeds) : Type 0 where
  pub first : All HasBytes feeds.first
  pub second : All HasBytes feeds.second
  pub third : All HasBytes feeds.third
  pub fourth : All HasBytes feeds.fourth

-- CONTROLS

-- how a link stands after a control, where it may come
abbrev pub state_after : Control → LinkState → Option LinkState
state_after Suspend Awake = Some Suspended
state_after Resume Suspended = Some Awake
state_after Down Awake = Some Stopped
state_after Down Suspended = Some Stopped
state_after Up Stopped = Some Awake
state_after (Unlink lane) Awake = Some Awake
state_after (Unlink lane) Suspended = Some Suspended
state_after Unplug Awake = Some Unplugged
state_after Unplug Suspended = Some Unplugged
state_after Unplug Stopped = Some Unplugged
state_after control state = None

abbrev pub where_some : {X Y : Type 0} → Option X → (X → Option Y) → Option Y
where_some (Some x) f = f x
where_some None f = None

-- one control after another
unfoldable pub state_from : LinkState → List Due → Option LinkState
state_from state [] = Some state
state_from state (due ∷ dues) = where_some (state_after due.control state) (λ next. state_from next dues)

-- how a link stands after these controls, where each may come
abbrev pub state_of : List Due → Option LinkState
state_of dues = state_from Awake dues

-- the control may come after the earlier ones
abbrev pub may_come : List Due → Due → Bool
may_come dues due = is_some (state_of (dues ++ due ∷ []))
