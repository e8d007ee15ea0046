-- A transfer of RNDIS has no fault exactly where it is messages one after the other and what may follow them, and the walk
-- over its messages finds their frames.
use Rattle.std.proofs.Common.{◌≡◌, ℕ, zero, suc, ◌+◌, ◌-◌, ◌<◌, ◌≤◌, Bool, true, false, not, ◌||◌, nat_lt, ◌==◌, List, [], ◌∷◌, ◌++◌, length, take, drop, Option, Some, None, refl, sym, ap, ◌∙◌, subst, arith, append_assoc, length-append, length-drop, length-take, drop-drop, take-append-drop, take_at, drop_at}
use Rattle.std.proofs.lemmas.Bool.Decides.{nat_tests}
use Rattle.std.proofs.lemmas.List.{nil_from_length}
use Rattle.std.specs.List.{AllByRecursion, concat}
use Rattle.byteorder.specs.Endian.{little_number}
use Rattle.byteorder.specs.Numbers.{little_from-take}
use Rattle.un_frame.specs.Bytes.{Place, number_at}
use Rattle.un_frame.specs.Fault.{or_else}
use Rattle.un_frame.specs.Rndis.{IsMessage, RndisReads, is_past, data_length, data_offset, message_fault, message_frame, message_length, message_places, message_type, messages_fault, rndis_fault, rndis_places}
use Rattle.un_frame.specs.declared.fault.Fault.{Fault}
use Rattle.un_frame.proofs.NtbCursorLemmas.{take-drop-take}
use Rattle.un_frame.proofs.NtbLemmas.{none_if, none_or_else}

-- what the checks of a message say where they find nothing
pub record IsChecked (bytes : List ℕ) (at : ℕ) : Type 0 where
  pub header : at + 44 ≤ length bytes
  pub is_data : message_type bytes at ≡ 1
  pub least : 44 ≤ message_length bytes at
  pub whole : at + message_length bytes at ≤ length bytes
  pub past_the_header : 36 ≤ data_offset bytes at
  pub inside : 8 + data_offset bytes at + data_length bytes at ≤ message_length bytes at
  pub frame : 14 ≤ data_length bytes at

pub checked : (bytes : List ℕ) (at : ℕ) → message_fault bytes at ≡ None → IsChecked bytes at
unfolding message_fault
checked bytes at none =
    let a = none_if (nat_lt (length bytes) (at + 44)) _ _ none in
    let b = none_if (not (message_type bytes at == 1)) _ _ a.1 in
    let c = none_if (nat_lt (message_length bytes at) 44 || nat_lt (length bytes) (at + message_length bytes at)) _ _ b.1 in
    let d = none_if (nat_lt (data_offset bytes at) 36 || nat_lt (message_length bytes at) (8 + data_offset bytes at + data_length bytes at)) _ _ c.1 in
    let e = none_if (nat_lt (data_length bytes at) 14) _ _ d.1 in
    record {
      header = grind (arith, nat_tests, a.0);
      is_data = grind (arith, nat_tests, b.0);
      least = grind (arith, nat_tests, c.0);
      whole = grind (arith, nat_tests, c.0);
      past_the_header = grind (arith, nat_tests, d.0);
      inside = grind (arith, nat_tests, d.0);
      frame = grind (arith, nat_tests, e.0);
    }

pub checked_back : (bytes : List ℕ) (at : ℕ) → IsChecked bytes at → message_fault bytes at ≡ None
unfolding message_fault
checked_back bytes at c =
    let a : nat_lt (length bytes) (at + 44) ≡ false = let h = c.header in grind (arith, nat_tests, h) in
    let b : not (message_type bytes at == 1) ≡ false = let h = c.is_data in grind (arith, nat_tests, h) in
    let l : nat_lt (message_length bytes at) 44 ≡ false = let h = c.least in grind (arith, nat_tests, h) in
    let w : nat_lt (length bytes) (at + message_length bytes at) ≡ false = let h = c.whole in grind (arith, nat_tests, h) in
    let o : nat_lt (data_offset bytes at) 36 ≡ false = let h = c.past_the_header in grind (arith, nat_tests, h) in
    let i : nat_lt (message_length bytes at) (8 + data_offset bytes at + data_length bytes at) ≡ false = let h = c.inside in grind (arith, nat_tests, h) in
    let f : nat_lt (data_length bytes at) 14 ≡ false = let h = c.frame in grind (arith, nat_tests, h) in
    rw (a, b, l, w, o, i, f) refl

-- STEPS OF A WALK

-- at the end no message begins
pub past_end : (bytes : List ℕ) (at : ℕ) → length bytes ≤ at → is_past bytes at ≡ true
past_end bytes at end = grind (arith, nat_tests, end)

-- nor does one where a single byte is left behind others
past_further : (bytes : List ℕ) (at : ℕ) → 0 < at → length bytes ≡ at + 1 → is_past bytes at ≡ true
past_further bytes at some end = grind (arith, nat_tests, some, end)

-- where more bytes are left, one does
pub on_message : (bytes : List ℕ) (at : ℕ) → at + 2 ≤ length bytes → is_past bytes at ≡ false
on_message bytes at room = grind (arith, nat_tests, room)

-- no message is left
pub fault_past : (left : ℕ) (bytes : List ℕ) (at : ℕ) → is_past bytes at ≡ true → messages_fault left bytes at ≡ None
unfolding messages_fault
fault_past zero bytes at end = refl
fault_past (suc left) bytes at end = rw end refl

pub places_past : (left : ℕ) (bytes : List ℕ) (at : ℕ) → is_past bytes at ≡ true → rndis_places left bytes at ≡ []
unfolding rndis_places
places_past zero bytes at end = refl
places_past (suc left) bytes at end = rw end refl

-- one is
pub fault_next : (left : ℕ) (bytes : List ℕ) (at : ℕ) → is_past bytes at ≡ false → messages_fault (suc left) bytes at ≡ or_else (message_fault bytes at) (messages_fault left bytes (at + message_length bytes at))
unfolding messages_fault
fault_next left bytes at on = rw on refl

pub places_next : (left : ℕ) (bytes : List ℕ) (at : ℕ) → is_past bytes at ≡ false → rndis_places (suc left) bytes at ≡ message_frame bytes at ∷ rndis_places left bytes (at + message_length bytes at)
unfolding rndis_places
places_next left bytes at on = rw on refl

-- it has a fault
pub fault_here : (left : ℕ) (bytes : List ℕ) (at : ℕ) (f : Fault) → is_past bytes at ≡ false → message_fault bytes at ≡ Some f → messages_fault (suc left) bytes at ≡ Some f
fault_here left bytes at f on e = fault_next left bytes at on ∙ ap (λ (first : Option Fault). or_else first (messages_fault left bytes (at + message_length bytes at))) e

-- it has none
pub fault_on : (left : ℕ) (bytes : List ℕ) (at : ℕ) → is_past bytes at ≡ false → message_fault bytes at ≡ None → messages_fault (suc left) bytes at ≡ messages_fault left bytes (at + message_length bytes at)
fault_on left bytes at on e = fault_next left bytes at on ∙ ap (λ (first : Option Fault). or_else first (messages_fault left bytes (at + message_length bytes at))) e

-- MESSAGES

-- a number of a part is the one at its place
pub in_part : (size at j place : ℕ) (bytes : List ℕ) → j + 4 ≤ size → place ≡ at + j → number_at 4 (take size (drop at bytes)) j ≡ number_at 4 bytes place
unfolding number_at
in_part size at j place bytes room same =
    let dropped : drop j (drop at bytes) ≡ drop place bytes = drop-drop _ _ bytes ∙ ap (λ (n : ℕ). drop n bytes) (omega (arith, same)) in
    sym (little_from-take 0 4 4 (drop j (take size (drop at bytes))) (omega arith))
    ∙ ap (little_number 4) (take-drop-take j 4 size (drop at bytes) room ∙ ap (take 4) dropped)
    ∙ little_from-take 0 4 4 (drop place bytes) (omega arith)

-- the numbers of a message are those at its place
pub record HasNumbers (bytes : List ℕ) (at : ℕ) (message : List ℕ) : Type 0 where
  pub kind : message_type message 0 ≡ message_type bytes at
  pub size : message_length message 0 ≡ message_length bytes at
  pub offset : data_offset message 0 ≡ data_offset bytes at
  pub frame : data_length message 0 ≡ data_length bytes at

pub numbers_of : (bytes : List ℕ) (at size : ℕ) (message : List ℕ) → 44 ≤ size → take size (drop at bytes) ≡ message → HasNumbers bytes at message
numbers_of bytes at size message room same = record {
  kind = ap (λ (m : List ℕ). number_at 4 m 0) (sym same) ∙ in_part size at 0 at bytes (omega (arith, room)) (omega arith);
  size = ap (λ (m : List ℕ). number_at 4 m 4) (sym same) ∙ in_part size at 4 (at + 4) bytes (omega (arith, room)) refl;
  offset = ap (λ (m : List ℕ). number_at 4 m 8) (sym same) ∙ in_part size at 8 (at + 8) bytes (omega (arith, room)) refl;
  frame = ap (λ (m : List ℕ). number_at 4 m 12) (sym same) ∙ in_part size at 12 (at + 12) bytes (omega (arith, room)) refl;
}

-- where the frame of a message stands
frame_here : (bytes : List ℕ) (at : ℕ) (message : List ℕ) → HasNumbers bytes at message → message_frame bytes at ≡ record { at = at + 8 + data_offset message 0; size = data_length message 0 }
frame_here bytes at message n =
    ap (λ (k : ℕ). record { at = at + 8 + k; size = data_length bytes at }) (sym n.offset)
    ∙ ap (λ (k : ℕ). record { at = at + 8 + data_offset message 0; size = k }) (sym n.frame)

-- what the bytes from a place on are: messages with frames at these places, and what may follow them
pub record IsSplit (bytes : List ℕ) (at : ℕ) (places : List Place) : Type 0 where
  pub messages : List (List ℕ)
  pub further : List ℕ
  pub sound : AllByRecursion IsMessage messages
  pub most : length further ≤ 1
  pub after_one : at ≡ 0 → messages ≡ [] → further ≡ []
  pub spelled : drop at bytes ≡ concat messages ++ further
  pub frames : places ≡ message_places at messages

-- WHAT HAS NO FAULT IS MESSAGES

split_end : (bytes : List ℕ) (at : ℕ) → is_past bytes at ≡ true → IsSplit bytes at []
split_end bytes at end = record {
  messages = [];
  further = drop at bytes;
  sound = tt;
  most = let long = length-drop at bytes in grind (arith, nat_tests, end, long);
  after_one = λ start none. nil_from_length (drop at bytes) (let long = length-drop at bytes in grind (arith, nat_tests, end, long, start));
  spelled = refl;
  frames = refl;
}

module _ (bytes : List ℕ) (at : ℕ) (c : IsChecked bytes at) where
  abbrev first : List ℕ
  first = take (message_length bytes at) (drop at bytes)

  long : length first ≡ message_length bytes at
  long = let whole = c.whole in simp (length-take, length-drop) (omega (arith, whole))

  first_sound : IsMessage first
  first_sound =
      let n = numbers_of bytes at (message_length bytes at) first c.least refl in
      let offset = n.offset in
      let size = n.frame in
      let past = c.past_the_header in
      let least = c.frame in
      let inside = c.inside in
      record {
        is_data = n.kind ∙ c.is_data;
        whole = n.size ∙ sym long;
        past_the_header = omega (arith, offset, past);
        least = omega (arith, size, least);
        inside = omega (arith, offset, size, inside, long);
      }

  split_on : (places : List Place) → IsSplit bytes (at + message_length bytes at) places → IsSplit bytes at (message_frame bytes at ∷ places)
  split_on places s = record {
    messages = first ∷ s.messages;
    further = s.further;
    sound = (first_sound, s.sound);
    most = s.most;
    after_one = λ start none. cc;
    spelled =
        let rest : drop (message_length bytes at) (drop at bytes) ≡ concat s.messages ++ s.further = drop-drop _ _ bytes ∙ ap (λ (n : ℕ). drop n bytes) (omega arith) ∙ s.spelled in
        sym (take-append-drop (message_length bytes at) (drop at bytes)) ∙ ap (λ (xs : List ℕ). first ++ xs) rest ∙ sym (append_assoc first (concat s.messages) s.further);
    frames =
        ap (λ (p : Place). p ∷ places) (frame_here bytes at first (numbers_of bytes at (message_length bytes at) first c.least refl))
        ∙ ap (λ (ps : List Place). record { at = at + 8 + data_offset first 0; size = data_length first 0 } ∷ ps) (s.frames ∙ ap (λ (n : ℕ). message_places (at + n) s.messages) (sym long));
  }

-- the messages from a place on, so many at most
split_by : (left : ℕ) (bytes : List ℕ) (at : ℕ) (b : Bool) → is_past bytes at ≡ b → messages_fault (suc left) bytes at ≡ None
    → (messages_fault left bytes (at + message_length bytes at) ≡ None → IsChecked bytes at → IsSplit bytes (at + message_length bytes at) (rndis_places left bytes (at + message_length bytes at)))
    → IsSplit bytes at (rndis_places (suc left) bytes at)
split_by left bytes at true end none rest = subst (IsSplit bytes at) (sym (places_past (suc left) bytes at end)) (split_end bytes at end)
split_by left bytes at false on none rest =
    let both = none_or_else (message_fault bytes at) (messages_fault left bytes (at + message_length bytes at)) (sym (fault_next left bytes at on) ∙ none) in
    let c = checked bytes at both.0 in
    subst (IsSplit bytes at) (sym (places_next left bytes at on)) (split_on bytes at c (rndis_places left bytes (at + message_length bytes at)) (rest both.1 c))

pub split : (left : ℕ) (bytes : List ℕ) (at : ℕ) → length bytes ≤ at + left → messages_fault left bytes at ≡ None → IsSplit bytes at (rndis_places left bytes at)
split zero bytes at room none =
    let end = past_end bytes at (omega (arith, room)) in
    subst (IsSplit bytes at) (sym (places_past zero bytes at end)) (split_end bytes at end)
split (suc left) bytes at room none =
    split_by left bytes at (is_past bytes at) refl none (λ behind c. let least = c.least in split left bytes (at + message_length bytes at) (omega (arith, room, least)) behind)

pub rndis_sound : (bytes : List ℕ) → rndis_fault bytes ≡ None → RndisReads bytes (rndis_places (length bytes) bytes 0)
rndis_sound bytes none =
    let s = split (length bytes) bytes 0 (omega arith) none in
    record {
      messages = s.messages;
      further = s.further;
      sound = s.sound;
      follows = record { most = s.most; after_one = s.after_one refl };
      spelled = s.spelled;
      frames = s.frames;
    }

-- MESSAGES HAVE NO FAULT

-- what may follow messages is no message
past_messages : (bytes : List ℕ) (at : ℕ) (further : List ℕ) → length further ≤ 1 → (at ≡ 0 → further ≡ []) → drop at bytes ≡ further → is_past bytes at ≡ true
past_messages bytes at [] most after same = past_end bytes at (let long = sym (length-drop at bytes) ∙ ap length same in omega (arith, long))
past_messages bytes zero (x ∷ further) most after same = let none = after refl in cc
past_messages bytes (suc at) (x ∷ further) most after same = past_further bytes (suc at) (omega arith) (let long = sym (length-drop (suc at) bytes) ∙ ap length same in omega (arith, long, most))

-- no fault is found, and the frames at these places
pub record IsFound (left : ℕ) (bytes : List ℕ) (at : ℕ) (places : List Place) : Type 0 where
  pub none : messages_fault left bytes at ≡ None
  pub frames : rndis_places left bytes at ≡ places

-- a message and the bytes behind it
module _ (bytes : List ℕ) (at : ℕ) (message rest : List ℕ) (sound : IsMessage message) (spelled : drop at bytes ≡ message ++ rest) where
  message_least : 58 ≤ length message
  message_least = let offset = sound.past_the_header in let size = sound.least in let inside = sound.inside in omega (arith, offset, size, inside)

  message_room : at + length message ≤ length bytes
  message_room =
      let long : length bytes - at ≡ length message + length rest = sym (length-drop at bytes) ∙ ap length spelled ∙ length-append message rest in
      let least = message_least in
      omega (arith, long, least)

  message_numbers : HasNumbers bytes at message
  message_numbers = numbers_of bytes at (length message) message (let least = message_least in omega (arith, least)) (ap (take (length message)) spelled ∙ take_at message rest (length message) refl)

  message_size : message_length bytes at ≡ length message
  message_size = sym message_numbers.size ∙ sound.whole

  message_checked : IsChecked bytes at
  message_checked =
      let n = message_numbers in
      let offset = n.offset in
      let frame = n.frame in
      let size = message_size in
      let room = message_room in
      let least = message_least in
      let past = sound.past_the_header in
      let fourteen = sound.least in
      let inside = sound.inside in
      record {
        header = omega (arith, room, least);
        is_data = sym n.kind ∙ sound.is_data;
        least = omega (arith, size, least);
        whole = omega (arith, size, room);
        past_the_header = omega (arith, offset, past);
        inside = omega (arith, offset, frame, inside, size);
        frame = omega (arith, frame, fourteen);
      }

  message_rest : drop (at + length message) bytes ≡ rest
  message_rest = sym (drop-drop (length message) at bytes) ∙ ap (drop (length message)) spelled ∙ drop_at message rest (length message) refl

  message_found : (left : ℕ) (places : List Place) → IsFound left bytes (at + length message) places → IsFound (suc left) bytes at (record { at = at + 8 + data_offset message 0; size = data_length message 0 } ∷ places)
  message_found left places behind =
      let on = on_message bytes at (let room = message_room in let least = message_least in omega (arith, room, least)) in
      let next : at + message_length bytes at ≡ at + length message = ap (λ (k : ℕ). at + k) message_size in
      record {
        none = fault_on left bytes at on (checked_back bytes at message_checked) ∙ ap (messages_fault left bytes) next ∙ behind.none;
        frames =
            places_next left bytes at on
            ∙ ap (λ (p : Place). p ∷ rndis_places left bytes (at + message_length bytes at)) (frame_here bytes at message message_numbers)
            ∙ ap (λ (ps : List Place). record { at = at + 8 + data_offset message 0; size = data_length message 0 } ∷ ps) (ap (rndis_places left bytes) next ∙ behind.frames);
      }

pub found : (left : ℕ) (bytes : List ℕ) (at : ℕ) (messages : List (List ℕ)) (further : List ℕ) → AllByRecursion IsMessage messages → length further ≤ 1 → (at ≡ 0 → messages ≡ [] → further ≡ []) → drop at bytes ≡ concat messages ++ further → length bytes ≤ at + left → IsFound left bytes at (message_places at messages)
found left bytes at [] further sound most after spelled room =
    let end = past_messages bytes at further most (λ start. after start refl) spelled in
    record { none = fault_past left bytes at end; frames = places_past left bytes at end }
found zero bytes at (m ∷ ms) further sound most after spelled room =
    let grouped = spelled ∙ append_assoc m (concat ms) further in
    absurd (let least = message_least bytes at m (concat ms ++ further) sound.0 grouped in let whole = message_room bytes at m (concat ms ++ further) sound.0 grouped in omega (arith, least, whole, room))
found (suc left) bytes at (m ∷ ms) further sound most after spelled room =
    let rest = concat ms ++ further in
    let grouped = spelled ∙ append_assoc m (concat ms) further in
    let least = message_least bytes at m rest sound.0 grouped in
    message_found bytes at m rest sound.0 grouped left (message_places (at + length m) ms)
    (found left bytes (at + length m) ms further sound.1 most (λ start none. absurd (omega (arith, start, least))) (message_rest bytes at m rest sound.0 grouped) (omega (arith, room, least)))

-- what is read has no fault, and its frames are found where they are
pub rndis_found : (bytes : List ℕ) (places : List Place) → RndisReads bytes places → IsFound (length bytes) bytes 0 places
rndis_found bytes places r =
    subst (IsFound (length bytes) bytes 0) (sym r.frames) (found (length bytes) bytes 0 r.messages r.further r.sound r.follows.most (λ start. r.follows.after_one) r.spelled (omega arith))
