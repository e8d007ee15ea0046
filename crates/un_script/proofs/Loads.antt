-- A load of one frame more.
use Rattle.std.proofs.Common.{◌≡◌, ℕ, zero, suc, ◌+◌, ◌-◌, ◌%◌, ◌<◌, ◌≤◌, ◌==◌, ◌&&◌, Bool, true, false, List, [], ◌∷◌, ◌++◌, map, if◌then◌else◌, refl, ap, subst, ◌∙◌, arith}
use Rattle.std.proofs.lemmas.List.Elements.{filter-append}
use Rattle.std.proofs.lemmas.List.{map-append}
use Rattle.std.proofs.lemmas.List.FromFn.{map-range_with_len_more}
use Rattle.std.specs.List.{filter, range_with_len}
use Rattle.un_frame.specs.Lanes.{same_lane}
use Rattle.un_frame.specs.declared.params.Class.TheVariants.{Ncm16}
use Rattle.un_frame.specs.declared.params.Lane.{Lane}
use Rattle.un_frame.specs.declared.params.Lane.TheVariants.{Outward, Inward}
use Rattle.un_journal.specs.Script.{Frame, Feeds, Script, frame_count}
use Rattle.un_script.specs.Parts.{frame_added, with_frame, empty_script}
use Rattle.un_frame.specs.Params.{defaults}
use Rattle.un_script.specs.Load.{load_lane, load_sender, load_body, load_frame, is_from, load_feed, load_feeds, load_script}
use Rattle.un_script.proofs.Readiness.{one_more}

range_more : (a n : ℕ) → range_with_len a (n + 1) ≡ range_with_len a n ++ (a + n) ∷ []
range_more a zero = let e : a ≡ a + 0 = omega arith in ap (λ x. x ∷ []) e
range_more a (suc n) =
    let e : a + 1 + n ≡ a + suc n = omega arith in
    let same : suc (n + 1) ≡ suc n + 1 = omega arith in
    subst (λ m. range_with_len a m ≡ range_with_len a (suc n) ++ (a + suc n) ∷ []) same
    (ap (λ xs. a ∷ xs) (subst (λ x. range_with_len (a + 1) (n + 1) ≡ range_with_len (a + 1) n ++ x ∷ []) e (range_more (a + 1) n)))

range_onward : (n : ℕ) → range_with_len 0 (n + 1) ≡ range_with_len 0 n ++ n ∷ []
range_onward n = let e : 0 + n ≡ n = omega arith in subst (λ x. range_with_len 0 (n + 1) ≡ range_with_len 0 n ++ x ∷ []) e (range_more 0 n)

pub body_more : (i place : ℕ) → 18 ≤ place → load_body i (place + 1) ≡ load_body i place ++ ((i + place) % 256) ∷ []
unfolding load_body
body_more i place h =
    let e : place + 1 - 18 ≡ place - 18 + 1 = omega (arith, h) in
    let at : 18 + (place - 18) ≡ place = omega (arith, h) in
    rw e (map-range_with_len_more (λ p. (i + p) % 256) 18 (place - 18) place at)

pub body_none : (i : ℕ) → load_body i 18 ≡ []
unfolding load_body
body_none i = refl

kept_or : (p : ℕ → Bool) (i : ℕ) (b : Bool) → p i ≡ b → (xs : List ℕ) → map load_frame (filter p xs) ++ map load_frame (filter p (i ∷ [])) ≡ (if b then map load_frame (filter p xs) ++ load_frame i ∷ [] else map load_frame (filter p xs))
kept_or p i true e xs = rw e refl
kept_or p i false e xs = rw e (append_nil (map load_frame (filter p xs))) where
  append_nil : (ys : List Frame) → ys ++ [] ≡ ys
  append_nil [] = refl
  append_nil (y ∷ ys) = ap (λ zs. y ∷ zs) (append_nil ys)

feed_more : (lane : Lane) (sender n : ℕ) → load_feed lane sender (n + 1) ≡ (if is_from lane sender n then load_feed lane sender n ++ load_frame n ∷ [] else load_feed lane sender n)
unfolding load_feed
feed_more lane sender n =
    let p : ℕ → Bool = is_from lane sender in
    let e : range_with_len 0 (n + 1) ≡ range_with_len 0 n ++ n ∷ [] = range_onward n in
    ap (λ xs. map load_frame (filter p xs)) e
    ∙ ap (map load_frame) (filter-append p (range_with_len 0 n) (n ∷ []))
    ∙ map-append load_frame (filter p (range_with_len 0 n)) (filter p (n ∷ []))
    ∙ kept_or p n (p n) refl (range_with_len 0 n)

abbrev feeds_if : Bool → ℕ → Frame → Feeds → Feeds
feeds_if here sender frame feeds = record {
  first = if here && sender == 0 then feeds.first ++ frame ∷ [] else feeds.first;
  second = if here && sender == 1 then feeds.second ++ frame ∷ [] else feeds.second;
  third = if here && sender == 2 then feeds.third ++ frame ∷ [] else feeds.third;
  fourth = if here && sender == 3 then feeds.fourth ++ frame ∷ [] else feeds.fourth;
}

feeds_more : (lane : Lane) (n : ℕ) → load_feeds lane (n + 1) ≡ feeds_if (same_lane (load_lane n) lane) (load_sender n) (load_frame n) (load_feeds lane n)
feeds_more lane n = rw (feed_more lane 0 n, feed_more lane 1 n, feed_more lane 2 n, feed_more lane 3 n) refl

feeds_here : (sender : ℕ) (frame : Frame) (feeds : Feeds) → sender < 4 → feeds_if true sender frame feeds ≡ frame_added sender frame feeds
feeds_here zero frame feeds h = refl
feeds_here (suc zero) frame feeds h = refl
feeds_here (suc (suc zero)) frame feeds h = refl
feeds_here (suc (suc (suc zero))) frame feeds h = refl
feeds_here (suc (suc (suc (suc n)))) frame feeds h = absurd (omega (arith, h))

feeds_there : (sender : ℕ) (frame : Frame) (feeds : Feeds) → feeds_if false sender frame feeds ≡ feeds
feeds_there sender frame feeds = refl

pub load_more : (n : ℕ) → load_script (n + 1) ≡ with_frame (load_lane n) (load_sender n) (load_frame n) (load_script n)
load_more n = rw (feeds_more Outward n, feeds_more Inward n) (by_lane (n % 2 == 0) (load_sender n) (omega arith)) where
  by_lane : (even : Bool) (sender : ℕ) → sender < 4 → (record { params = defaults Ncm16; outward = feeds_if (same_lane (if even then Outward else Inward) Outward) sender (load_frame n) (load_feeds Outward n); inward = feeds_if (same_lane (if even then Outward else Inward) Inward) sender (load_frame n) (load_feeds Inward n); controls = []; faults = [] }) ≡ with_frame (if even then Outward else Inward) sender (load_frame n) (load_script n)
  by_lane true sender h = ap (λ (feeds : Feeds). record (load_script n) { outward = feeds }) (feeds_here sender (load_frame n) (load_feeds Outward n) h)
  by_lane false sender h = ap (λ (feeds : Feeds). record (load_script n) { inward = feeds }) (feeds_here sender (load_frame n) (load_feeds Inward n) h)

pub load_none : load_script 0 ≡ empty_script (defaults Ncm16)
unfolding load_feed
load_none = refl

pub sender_below : (i : ℕ) → load_sender i < 4
sender_below i = omega arith

pub count_more : (lane : Lane) (sender : ℕ) (frame : Frame) (script : Script) → frame_count (with_frame lane sender frame script) ≡ frame_count script + 1
count_more Outward sender frame script = omega (arith, one_more sender frame script.outward)
count_more Inward sender frame script = omega (arith, one_more sender frame script.inward)
