-- What the device answers to a set-up packet: the first reason to stall, in the order of the tests, or the effect and
-- the reply of the request's row. The order is this project's own.
use Rattle.std.specs.Prelude.{◌≡◌, ℕ, Bool, true, false, ◌&&◌, ◌||◌, List, length, take, find, nat_le, ◌==◌, Option, Some, None, Result, Ok, Err}
use Rattle.un_facts.specs.Results.{◌>>=◌, needs, given}
use Rattle.un_frame.specs.declared.params.Params.{Params}
use Rattle.un_frame.specs.declared.params.Class.{Class}
use Rattle.un_frame.specs.declared.params.Class.TheVariants.{Ecm, Eem, Rndis}
use Rattle.un_classreq.specs.declared.setup.Setup.{Setup}
use Rattle.un_classreq.specs.declared.request.Request.{Request}
use Rattle.un_classreq.specs.declared.request.Classes.{Classes}
use Rattle.un_classreq.specs.declared.request.Classes.TheVariants.{All, EcmAndNcm, NcmAlone}
use Rattle.un_classreq.specs.declared.request.Columns.{Columns}
use Rattle.un_classreq.specs.declared.state.State.{State}
use Rattle.un_classreq.specs.declared.device.Why.{Why}
use Rattle.un_classreq.specs.declared.device.Why.TheVariants as reasons
use Rattle.un_classreq.specs.declared.device.Reply.{Reply}
use Rattle.un_classreq.specs.declared.device.Reply.TheVariants.{Sent, Stall, NoMemory}
use Rattle.un_classreq.specs.declared.device.Accepted.{Accepted}
use Rattle.un_classreq.specs.Requests.{row, requests}

-- a device as its users see it: the parameters it was made with, and its state
pub record Gadget : Type 0 where
  pub params : Params
  pub state : State

-- the state that a device begins in
abbrev pub first_state : Params → State
first_state p = record {
  configuration = 0;
  setting = 0;
  filter = 0;
  format = 0;
  input_size = p.block;
  datagram_size = p.segment;
}

abbrev pub first_gadget : Params → Gadget
first_gadget p = record { params = p; state = first_state p }

-- which classes have a request
abbrev pub serves : Classes → Class → Bool
serves All class = true
serves EcmAndNcm Eem = false
serves EcmAndNcm Rndis = false
serves EcmAndNcm class = true
serves NcmAlone Ecm = false
serves NcmAlone Eem = false
serves NcmAlone Rndis = false
serves NcmAlone class = true

-- whether a set-up packet tells this request, of a class that has it
abbrev pub tells : Setup → Class → Columns → Bool
tells setup class c = (c.request_type == setup.request_type) && ((c.request == setup.request) && serves c.classes class)

unfoldable pub named : Class → Setup → Option Request
named class setup = find (λ request. tells setup class (row request).columns) requests

-- whether a number is the one that is asked for, if one is
abbrev pub is_asked : Option ℕ → ℕ → Bool
is_asked (Some wanted) n = n == wanted
is_asked None n = true

-- a request from the device has the highest bit of its type set (USB 2.0, table 9-2)
abbrev pub is_from_device : ℕ → Bool
is_from_device request_type = nat_le 128 request_type

-- the length field is the row's, and to the device so many bytes were sent
unfoldable pub has_length : Columns → Setup → List ℕ → Bool
has_length c setup payload =
    is_asked c.length setup.length && (is_from_device c.request_type || (length payload == setup.length))

-- the request that is accepted, and the state after it; else the first reason
unfoldable pub judged : Params → State → Setup → List ℕ → Result Accepted Why
judged p s setup payload = do
  request ← given reasons.Unknown (named p.class setup)
  index ← needs reasons.Index (setup.index == (row request).columns.index)
  size ← needs reasons.Length (has_length (row request).columns setup payload)
  setting ← needs reasons.State (is_asked (row request).columns.setting s.setting)
  next ← given reasons.Value ((row request).next p s setup.value payload)
  Ok (record { request = request; next = next })

-- what is sent: the row's reply, and no more of it than the length field says
abbrev pub sent : Gadget → Setup → Request → List ℕ
sent gadget setup request = take setup.length ((row request).reply gadget.params gadget.state)

-- the device after a set-up packet and a payload, and what it sends; else the reason to stall
pub record Controlled : Type 0 where
  pub gadget : Gadget
  pub bytes : List ℕ

unfoldable pub controlled : Gadget → Setup → List ℕ → Result Controlled Why
controlled gadget setup payload = do
  accepted ← judged gadget.params gadget.state setup payload
  Ok (record { gadget = record gadget { state = accepted.next }; bytes = sent gadget setup accepted.request })

-- what the code answers is that; without memory, which no stall takes, the device stays as it was
abbrev pub IsAccepted : Result Controlled Why → Type 0
IsAccepted (Ok c) = Unit {0}
IsAccepted (Err why) = ⊥

abbrev pub Answers : Result Controlled Why → Gadget → Gadget → Reply → Type 0
Answers answer old new (Sent bytes) = answer ≡ Ok (record { gadget = new; bytes = bytes })
Answers answer old new (Stall why) = (answer ≡ Err why) × (new ≡ old)
Answers answer old new NoMemory = IsAccepted answer × (new ≡ old)
