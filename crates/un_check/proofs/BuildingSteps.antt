-- What an offer and a tick write, by what is kept of what a lane builds.
use Rattle.std.proofs.Common.{◌≡◌, ℕ, ◌+◌, ◌-◌, Bool, true, false, not, ◌&&◌, ◌==◌, nat_lt, List, [], ◌∷◌, Option, Some, None, refl, sym, ap, ◌∙◌, subst, arith, if◌then◌else◌}
use Rattle.un_facts.specs.Lists.{is_empty}
use Rattle.un_frame.specs.declared.params.Params.{Params}
use Rattle.un_frame.specs.declared.params.Lane.{Lane}
use Rattle.un_frame.specs.declared.params.Lane.TheVariants.{Outward, Inward}
use Rattle.un_frame.specs.Cut.{closed_span}
use Rattle.un_frame.specs.Lanes.{packs}
use Rattle.un_journal.specs.declared.lines.Line.TheVariants.{Took, Made, Waited}
use Rattle.un_journal.specs.declared.actions.Answer.{Answer}
use Rattle.un_journal.specs.Script.{Script, Frame}
use Rattle.un_journal.specs.History.{Entry, History, taken, cover, made}
use Rattle.un_journal.specs.Lookup.{feed_head, built_frames, tx_home, block_open, offer_needs_home, tick_needs_home, pending}
use Rattle.un_journal.specs.LaneSteps.{Outcome, Writes, Answers, bare, accept, made_line, made_lines, tick_built}
use Rattle.un_check.specs.Says.{SaysAll}
use Rattle.un_check.specs.Building.{Building, IsBuilt, end, open_in}
use Rattle.un_check.specs.BuildingLines.{GoesOn, took, closes, with_frame, made_entry, made_entries, offer_needs, offer_lines, tick_needs, tick_lines}
use Rattle.un_check.proofs.BuildingTests.{built_none, open_is}
use Rattle.un_check.proofs.BuildingSpans.{closes_span}
use Rattle.un_check.proofs.BuildingKept.{of, same_of, taken_of, took_kept}

open_of : (script : Script) (lane : Lane) (g : History) (b : Building) → IsBuilt script lane g b → block_open script.params lane g ≡ open_in lane b
open_of script lane g b w = open_is script.params lane g b w.params_are (taken_of script lane g b w) w.fresh_is

-- AN OFFER

offer_needs_is : (params : Params) (lane : Lane) (g : History) (b : Building) (closed : Option (ℕ × ℕ)) → b.lane ≡ lane → block_open params lane g ≡ open_in lane b → offer_needs_home params lane g closed ≡ offer_needs lane b closed
offer_needs_is params Outward g b closed l e = ap not (e ∙ ap (λ i. open_in i b) (sym l))
offer_needs_is params Inward g b closed l e = refl

-- what an offer writes, by the span that it closes, whether it needs a request, and those at home
abbrev offered : Params → Lane → ℕ → List Frame → History → Option (ℕ × ℕ) → Bool → ℕ → Outcome
offered params lane sender frames g closed needs home =
    if needs && home == 0 then Answers Answer.Busy
    else Writes (bare (Took lane sender) ∷ made_lines params lane frames (bare (Took lane sender) ∷ g) closed)

offer_said : (script : Script) (lane : Lane) (sender : ℕ) (frames : List Frame) (g : History) (b : Building) (closed : Option (ℕ × ℕ)) (busy : Bool)
    → SaysAll (if busy then None else Some (bare (Took lane sender) ∷ made_entries lane (made g) frames (of script lane b) closed))
    (if busy then Answers Answer.Busy else Writes (bare (Took lane sender) ∷ made_lines script.params lane frames (bare (Took lane sender) ∷ g) closed))
offer_said script lane sender frames g b closed true = refl
offer_said script lane sender frames g b None false = refl
offer_said script lane sender frames g b (Some s) false = refl

module _ (script : Script) (lane : Lane) (sender home : ℕ) (g : History) (b : Building) (frame : Frame) (w : IsBuilt script lane g b)
    (head : feed_head script lane g sender ≡ Some frame) (at_home : tx_home script.params lane g ≡ home) where
  frames_are : built_frames script lane (bare (Took lane sender) ∷ g) ≡ with_frame frame b
  frames_are = (took_kept script lane lane sender [] g b frame head w).frames_are

  closes_is : closed_span script.params lane (with_frame frame b) (cover g) (taken g + 1 - 1) ≡ closes frame (of script lane b)
  closes_is =
      let last : taken g + 1 - 1 ≡ end b = let e : taken g ≡ end b = w.taken_is in omega (arith, e) in
      ap (λ c. closed_span script.params lane (with_frame frame b) c (taken g + 1 - 1)) w.cover_is ∙ ap (λ n. closed_span script.params lane (with_frame frame b) b.cover n) last

  offered_is : accept script.params lane sender (built_frames script lane (bare (Took lane sender) ∷ g)) g
      ≡ offered script.params lane sender (with_frame frame b) g (closes frame (of script lane b)) (offer_needs lane (of script lane b) (closes frame (of script lane b))) home
  offered_is =
      let frames = with_frame frame b in
      let span = closes frame (of script lane b) in
      ap (λ fs. accept script.params lane sender fs g) frames_are
      ∙ (ap (λ o. offered script.params lane sender frames g o (offer_needs_home script.params lane g o) (tx_home script.params lane g)) closes_is
      ∙ (ap (λ n. offered script.params lane sender frames g span n (tx_home script.params lane g)) (offer_needs_is script.params lane g (of script lane b) span refl (open_of script lane g b w ∙ ap (open_in lane) (same_of script lane g b w)))
      ∙ ap (λ h. offered script.params lane sender frames g span (offer_needs lane (of script lane b) span) h) at_home))

  pub offer_says : SaysAll (offer_lines sender (made g) home frame b) (accept script.params lane sender (built_frames script lane (bare (Took lane sender) ∷ g)) g)
  offer_says =
      let span = closes frame (of script lane b) in
      subst (λ (c : Building). SaysAll (offer_lines sender (made g) home frame c) (accept script.params lane sender (built_frames script lane (bare (Took lane sender) ∷ g)) g)) (sym (same_of script lane g b w))
      (subst (SaysAll (offer_lines sender (made g) home frame (of script lane b))) (sym offered_is)
      (offer_said script lane sender (with_frame frame b) g b span (offer_needs lane (of script lane b) span && home == 0)))

-- what an offer closes may follow
pub offer_goes : (script : Script) (lane l : Lane) (k : ℕ) (g : History) (b : Building) (frame : Frame) (span : ℕ × ℕ)
    → IsBuilt script lane g b → (packs script.params.class lane ≡ false → cover g ≡ taken g) → closes frame b ≡ Some span → GoesOn (Made l k span.0 span.1) (took frame b)
offer_goes script lane l k g b frame span w alone e =
    closes_span frame b span (λ p. sym w.cover_is ∙ alone (sym (ap (λ (c : Building). packs c.params.class c.lane) (same_of script lane g b w)) ∙ p) ∙ w.taken_is) e

-- A TICK

tick_needs_is : (params : Params) (lane : Lane) (g : History) (b : Building) → b.lane ≡ lane → block_open params lane g ≡ open_in lane b → tick_needs_home params lane g ≡ tick_needs lane b
tick_needs_is params Outward g b l e = ap not (e ∙ ap (λ i. open_in i b) (sym l))
tick_needs_is params Inward g b l e = refl

-- what a tick writes, by whether nothing is built, what is waited, whether it needs a request, and those at home
abbrev ticked : Lane → Bool → ℕ → Bool → ℕ → Entry → Outcome
ticked lane none waits needs home line =
    if none then Answers Answer.Nothing
    else (if nat_lt 0 waits then Writes (bare (Waited lane) ∷ [])
    else (if needs && home == 0 then Answers Answer.NoRequest
    else Writes (line ∷ [])))

tick_said : (lane : Lane) (none waits busy : Bool) (line : Entry)
    → SaysAll (if none then None else (if waits then Some (bare (Waited lane) ∷ []) else (if busy then None else Some (line ∷ []))))
    (if none then Answers Answer.Nothing else (if waits then Writes (bare (Waited lane) ∷ []) else (if busy then Answers Answer.NoRequest else Writes (line ∷ []))))
tick_said lane true waits busy line = refl
tick_said lane false true busy line = refl
tick_said lane false false true line = refl
tick_said lane false false false line = refl

module _ (script : Script) (lane : Lane) (home : ℕ) (g : History) (b : Building) (w : IsBuilt script lane g b) (at_home : tx_home script.params lane g ≡ home) where
  ticked_is : tick_built script.params lane (built_frames script lane g) g
      ≡ ticked lane (is_empty b.frames) b.pending (tick_needs lane (of script lane b)) home (made_entry lane (made g) b.frames (of script lane b) (b.cover, end b))
  ticked_is =
      let line : List Frame → ℕ → ℕ → Entry = λ fs from to. made_line script.params lane fs g (from, to) in
      ap (λ fs. tick_built script.params lane fs g) w.frames_are
      ∙ (ap (λ n. ticked lane n (pending script.params lane g) (tick_needs_home script.params lane g) (tx_home script.params lane g) (line b.frames (cover g) (taken g))) (built_none (taken g) (cover g) b.frames (taken_of script lane g b w))
      ∙ (ap (λ p. ticked lane (is_empty b.frames) p (tick_needs_home script.params lane g) (tx_home script.params lane g) (line b.frames (cover g) (taken g))) w.pending_is
      ∙ (ap (λ n. ticked lane (is_empty b.frames) b.pending n (tx_home script.params lane g) (line b.frames (cover g) (taken g))) (tick_needs_is script.params lane g (of script lane b) refl (open_of script lane g b w ∙ ap (open_in lane) (same_of script lane g b w)))
      ∙ (ap (λ h. ticked lane (is_empty b.frames) b.pending (tick_needs lane (of script lane b)) h (line b.frames (cover g) (taken g))) at_home
      ∙ (ap (λ c. ticked lane (is_empty b.frames) b.pending (tick_needs lane (of script lane b)) home (line b.frames c (taken g))) w.cover_is
      ∙ ap (λ t. ticked lane (is_empty b.frames) b.pending (tick_needs lane (of script lane b)) home (line b.frames b.cover t)) w.taken_is)))))

  pub tick_says : SaysAll (tick_lines (made g) home b) (tick_built script.params lane (built_frames script lane g) g)
  tick_says =
      subst (λ (c : Building). SaysAll (tick_lines (made g) home c) (tick_built script.params lane (built_frames script lane g) g)) (sym (same_of script lane g b w))
      (subst (SaysAll (tick_lines (made g) home (of script lane b))) (sym ticked_is)
      (tick_said lane (is_empty b.frames) (nat_lt 0 b.pending) (tick_needs lane (of script lane b) && home == 0) (made_entry lane (made g) b.frames (of script lane b) (b.cover, end b))))
