-- Each step keeps the rule of the turn.
use Rattle.std.proofs.Common.{◌≡◌, ◌≢◌, ◌⊎◌, ℕ, zero, suc, ◌+◌, ◌-◌, ◌<◌, ◌≤◌, Bool, true, false, List, [], ◌∷◌, ◌++◌, length, set, get_or, cond, nat_lt, eqb, eqb-true, eq-eqb, ◌&&◌, Option, Some, refl, sym, ap, ◌∙◌, subst, ⊎_elim, inl, inr, arith, length-set, append_assoc, length-append}
use Rattle.un_facts.specs.Numbers.{one_if}
use mathlib.Core.Option.{some, none, some-injective, some-ne-none}
use lib.ListN.{get_elem?}
use lib.Seq.{set-get_or}
use borrow.Author.Tests.{ltb-true, ltb-false}
use prog.Atomic.{either}
use Rattle.atomic_table.specs.Table.{State, Act, keeps, takes, gives, step, opening, Valid, Allows, Splits, Joins, Final, Seen, stepped, carried_after}
use Rattle.atomic_table.proofs.Lists.{at_set, at_snoc, set_here, set_else, exchanged}
use Rattle.un_journal.specs.History.{History}
use Rattle.un_turn.specs.declared.view.View.{View}
use Rattle.un_journal.specs.declared.machine.FlightKey.{FlightKey}
use Rattle.un_journal.specs.Flights.{total_of, times}
use Rattle.un_turn.specs.Views.{Follows}
use Rattle.un_turn.specs.Views.{StartsWith, KeepsMachine}
use Rattle.un_turn.specs.Steps.{opening_view, spent, entered, lost, left, split_left, split_right, told, compared, met, Sat, won_or_lost, freed}
use Rattle.un_turn.specs.Rule.{IsSeated, Turned}
use Rattle.un_turn.proofs.Sums.{sum-set, sum-snoc, term_le, terms_le, only_one}
use Rattle.un_turn.proofs.Flights.{empty}

-- beginnings of histories
pub starts_refl : (xs : History) → StartsWith xs xs
starts_refl xs = ([], sym (append-nil xs))
  where
    append-nil : (l : History) → l ++ [] ≡ l
    append-nil [] = refl
    append-nil (x ∷ xs) = ap (λ t. x ∷ t) (append-nil xs)

pub starts_trans : (xs ys zs : History) → StartsWith xs ys → StartsWith ys zs → StartsWith xs zs
starts_trans xs ys zs p q = (q.0 ++ p.0, p.1 ∙ ap (λ t. t ++ p.0) q.1 ∙ append_assoc zs q.0 p.0)

module _ {M S : Type 0} (script : M → S) (history : M → History) (flights : M → List FlightKey) where
  at_one : (v u : View S) (j : ℕ) → get_elem? (v ∷ []) j ≡ some u → v ≡ u
  at_one v u zero e = some-injective v u e
  at_one v u (suc j) e = absurd (some-ne-none u (sym e))

  pub begins : (machine : M) (shares : ℕ) → 0 < shares → flights machine ≡ [] → Turned script history flights (opening (0 ∷ []) (Some machine ∷ []) (opening_view (script machine) (history machine) shares))
  begins machine shares some_share none_out =
      let v = opening_view (script machine) (history machine) shares in
      record {
        word = 0;
        plan = script machine;
        total = shares;
        log = history machine;
        out = [];
        words = refl;
        slots = refl;
        bit = omega arith;
        holders = refl;
        at_home = λ _. (machine, refl, refl, refl, none_out);
        held = λ j u at holds. absurd (cc (ap (λ (x : View S). x.holds) (at_one v u j at)));
        seated = λ j u at. inr (subst (IsSeated (script machine) shares) (at_one v u j at) (record { plan = refl; whole = refl; some_share = some_share }));
        seen = λ j u at. subst (λ (x : View S). StartsWith (history machine) x.seen) (at_one v u j at) (starts_refl (history machine));
        heard = λ j u at. subst (λ (x : View S). StartsWith (history machine) x.heard) (at_one v u j at) (history machine, refl);
        shares = omega arith;
        known = λ x. refl;
        single = λ x. omega arith;
      }

  -- a seat with a share was not joined away
  seated_with : (plan : S) (total : ℕ) (v : View S) → 0 < v.shares → (v ≡ spent) ⊎ IsSeated plan total v → IsSeated plan total v
  seated_with plan total v some_share (inl e) = absurd (omega (arith, ap (λ (x : View S). x.shares) e))
  seated_with plan total v some_share (inr is) = is

  -- one view changes
  changed : (s : State (Option M) (View S)) (t : Turned script history flights s) (id : ℕ) (v w : View S) (ws : List ℕ) (hs : List (mathlib.Core.Option.Option (Option M))) (word : ℕ) (log : History) (out : List FlightKey)
      → get_elem? s.views id ≡ some v → ws ≡ word ∷ [] → length hs ≡ 1 → word ≤ 1
      → one_if w.holds + t.word ≡ one_if v.holds + word
      → (word ≡ 0 → (machine : M) × (get_elem? hs 0 ≡ some (some (Some machine))) × (script machine ≡ t.plan) × (history machine ≡ log) × (flights machine ≡ out))
      → ((j : ℕ) (u : View S) → j ≢ id → get_elem? s.views j ≡ some u → u.holds ≡ true → (u.entry ≡ log) × (u.flying ≡ out))
      → (w.holds ≡ true → (w.entry ≡ log) × (w.flying ≡ out))
      → IsSeated t.plan t.total w
      → ((xs : History) → StartsWith t.log xs → StartsWith log xs) → StartsWith log w.seen → StartsWith log w.heard
      → w.shares ≡ v.shares
      → ((x : FlightKey) → times x w.known + times x t.out ≡ times x v.known + times x out)
      → ((x : FlightKey) → times x out ≤ 1)
      → Turned script history flights (record { words = ws; homes = hs; views = set s.views id w })
  changed s t id v w ws hs word log out me words slots bit holders home others mine seated grows seen heard shares follows single = record {
    word = word;
    plan = t.plan;
    total = t.total;
    log = log;
    out = out;
    words = words;
    slots = slots;
    bit = bit;
    holders = omega (arith, sum-set (λ (u : View S). one_if u.holds) s.views id v w me, t.holders);
    at_home = home;
    held = λ j u at holds. ⊎_elim
        (λ (x : (j ≡ id) × (w ≡ u)). let k = mine (ap (λ (y : View S). y.holds) x.1 ∙ holds) in (ap (λ (y : View S). y.entry) (sym x.1) ∙ k.0, ap (λ (y : View S). y.flying) (sym x.1) ∙ k.1))
        (λ (x : (j ≢ id) × (get_elem? s.views j ≡ some u)). others j u x.0 x.1 holds)
        (at_set s.views id j w u at);
    seated = λ j u at. ⊎_elim
        (λ (x : (j ≡ id) × (w ≡ u)). inr (subst (IsSeated t.plan t.total) x.1 seated))
        (λ (x : (j ≢ id) × (get_elem? s.views j ≡ some u)). t.seated j u x.1)
        (at_set s.views id j w u at);
    seen = λ j u at. ⊎_elim
        (λ (x : (j ≡ id) × (w ≡ u)). subst (λ (y : View S). StartsWith log y.seen) x.1 seen)
        (λ (x : (j ≢ id) × (get_elem? s.views j ≡ some u)). grows u.seen (t.seen j u x.1))
        (at_set s.views id j w u at);
    heard = λ j u at. ⊎_elim
        (λ (x : (j ≡ id) × (w ≡ u)). subst (λ (y : View S). StartsWith log y.heard) x.1 heard)
        (λ (x : (j ≢ id) × (get_elem? s.views j ≡ some u)). grows u.heard (t.heard j u x.1))
        (at_set s.views id j w u at);
    shares = omega (arith, sum-set (λ (u : View S). u.shares) s.views id v w me, t.shares);
    known = λ x. omega (arith, sum-set (λ (u : View S). times x u.known) s.views id v w me, t.known x, follows x);
    single = single;
  }

  abbrev Goes : State (Option M) (View S) → ℕ → Sat M S → (ℕ → Sat M S → Type 0) → ℕ → Type 0
  Goes s id m then k = (w : View S) × (a : Act (Option M)) × Valid s.homes m.1 a × Turned script history flights (stepped s 0 k id m.1 w a) × then (get_or s.words 0 0) (w, carried_after m.1 a)

  pub tries : (id : ℕ) (m : Sat M S) → m.0.holds ≡ false → 0 < m.0.shares
      → Allows (Turned script history flights) 1 id m 0 (λ n. either (Rattle.std.proofs.Common.eqb n 0) 1 n) (won_or_lost script history flights (step 1 0 0 1 none) m)
  tries id m away some_share s t wide me small =
      let v = m.0 in
      let then = won_or_lost script history flights (step 1 0 0 1 none) m in
      let is = seated_with t.plan t.total v some_share (t.seated id v me) in
      let found : get_or s.words 0 0 ≡ t.word = ap (λ (ws : List ℕ). get_or ws 0 0) t.words in
      exchanged (get_or s.words 0 0) 0 1 (Goes s id m then)
      (λ hit.
      let h = t.at_home (sym found ∙ hit) in
      let w = entered v (history h.0) (flights h.0) in (
        w,
        takes 0 (Some h.0),
        h.1,
        changed s t id v w (set s.words 0 1) (set s.homes 0 none) 1 t.log t.out me (ap (λ (ws : List ℕ). set ws 0 1) t.words) (length-set s.homes 0 none ∙ wide) (omega arith)
            (omega (arith, sym found ∙ hit, ap one_if away)) (λ e. absurd (omega arith)) (λ j u _ at holds. t.held j u at holds) (λ _. (h.3, h.4))
            (record { plan = is.plan; whole = is.whole; some_share = is.some_share }) (λ xs p. p) (t.seen id v me) (t.heard id v me) refl (λ x. refl) t.single,
        (
          (λ _. (
            h.0,
            refl,
            is.plan ∙ ap Some (sym h.2),
            subst (λ (l : History). StartsWith l v.seen) (sym h.3) (t.seen id v me),
            λ x. omega (arith, term_le (λ (u : View S). times x u.known) s.views id v me, t.known x, ap (times x) h.4),
            λ x. omega (arith, t.single x, ap (times x) h.4),
          )),
          λ miss. absurd (miss hit),
        ),
      ))
      (λ miss.
      let w = lost v in (
        w,
        keeps,
        tt,
        changed s t id v w (set s.words 0 (get_or s.words 0 0)) s.homes t.word t.log t.out me (set-get_or s.words 0 0 ∙ t.words) t.slots t.bit refl t.at_home (λ j u _ at holds. t.held j u at holds) (λ holds. t.held id v me holds)
            (record { plan = is.plan; whole = is.whole; some_share = is.some_share }) (λ xs p. p) (t.seen id v me) (t.heard id v me) refl (λ x. refl) t.single,
        ((λ hit. absurd (miss hit)), λ _. ((let b = t.bit in omega arith), refl)),
      ))

  same_held : (x y : M) → ◌≡◌ {A = List (ℕ × Option M)} ((0, Some x) ∷ []) ((0, Some y) ∷ []) → x ≡ y
  same_held x y e = let f : Some x ≡ Some y = ap (λ (l : List (ℕ × Option M)). (get_or l 0 (0, Some x)).1) e in cc

  leaves_with : (id calls : ℕ) (v : View S) (machine : M) (known : List FlightKey) → v.holds ≡ true → 0 < v.shares → v.script ≡ Some (script machine) → StartsWith (history machine) v.entry → Follows v.flying (flights machine) v.known known → ((x : FlightKey) → times x (flights machine) ≤ 1)
      → Allows (Turned script history flights) 1 id (v, (0, Some machine) ∷ []) 0 (λ _. 0) (λ _. freed history flights calls (step 1 0 0 0 none) (v, (0, Some machine) ∷ []) 0)
  leaves_with id calls v machine known holds some_share same_script grown follows single s t wide me small =
      let w = left v calls (history machine) known in
      let is = seated_with t.plan t.total v some_share (t.seated id v me) in
      let mine = term_le (λ (u : View S). one_if u.holds) s.views id v me in
      let entry = (t.held id v me holds).0 in
      let flying : v.flying ≡ t.out = (t.held id v me holds).1 in
      let word1 : t.word ≡ 1 = omega (arith, t.bit, t.holders, ap one_if holds) in
      let same : Some (script machine) ≡ Some t.plan = sym same_script ∙ is.plan in
      let same' : script machine ≡ t.plan = cc in
      let grows : (xs : History) → StartsWith t.log xs → StartsWith (history machine) xs = λ xs p. starts_trans (history machine) v.entry xs grown (subst (λ (l : History). StartsWith l xs) (sym entry) p) in (
        w,
        gives,
        tt,
        changed s t id v w (set s.words 0 0) (set s.homes 0 (some (Some machine))) 0 (history machine) (flights machine) me (ap (λ (ws : List ℕ). set ws 0 0) t.words) (length-set s.homes 0 (some (Some machine)) ∙ wide) (omega arith)
            (omega (arith, word1, ap one_if holds))
            (λ _. (machine, set_here s.homes 0 (some (Some machine)) (omega arith), same', refl, refl))
            (λ j u apart at has. absurd (omega (arith, terms_le (λ (x : View S). one_if x.holds) s.views id j v u apart me at, t.holders, ap one_if holds, ap one_if has)))
            (λ has. absurd (cc))
            (record { plan = is.plan; whole = is.whole; some_share = is.some_share }) grows (starts_refl (history machine)) (history machine, refl) refl (λ x. omega (arith, follows.count x, ap (times x) flying)) single,
        λ other has. subst (λ (x : M). (◌≡◌ {A = Sat M S} (w, []) (left v calls (history x) known, [])) × Follows v.flying (flights x) v.known known) (same_held machine other has) (refl, follows),
      )

  pub leaves : (id calls : ℕ) (m : Sat M S) (machine : M) (called : Bool) → m.1 ≡ (0, Some machine) ∷ [] → KeepsMachine script history flights m.0 machine called
      → Allows (Turned script history flights) 1 id m 0 (λ _. 0) (λ _. freed history flights calls (step 1 0 0 0 none) m 0)
  leaves id calls m machine called has kept =
      let e : m ≡ (m.0, (0, Some machine) ∷ []) = λ i. (m.0, has i) in
      subst (λ (x : Sat M S). Allows (Turned script history flights) 1 id x 0 (λ _. 0) (λ _. freed history flights calls (step 1 0 0 0 none) x 0)) (sym e)
      (leaves_with id calls m.0 machine kept.known kept.holds kept.some_share kept.plan kept.grown kept.follows kept.single)

  -- the views after a split
  pub splits : (id given : ℕ) (v : View S) → v.holds ≡ false → 0 < given → given < v.shares → Splits (Turned script history flights) id v (split_left given v) (split_right given v)
  splits id given v away some_share less s t me =
      let w = split_left given v in
      let u = split_right given v in
      let is = seated_with t.plan t.total v (omega arith) (t.seated id v me) in
      let P : (View S → Type 0) → Type 0 = λ Q. ((j : ℕ) (x : View S) → get_elem? s.views j ≡ some x → Q x) → Q w → Q u → (j : ℕ) (x : View S) → get_elem? (set s.views id w ++ u ∷ []) j ≡ some x → Q x in
      let each : (Q : View S → Type 0) → P Q = λ Q old left right j x at. ⊎_elim
      (λ (e : get_elem? (set s.views id w) j ≡ some x). ⊎_elim
      (λ (y : (j ≡ id) × (w ≡ x)). subst Q y.1 left)
      (λ (y : (j ≢ id) × (get_elem? s.views j ≡ some x)). old j x y.1)
      (at_set s.views id j w x e))
      (λ (e : u ≡ x). subst Q e right)
      (at_snoc (set s.views id w) u x j at) in
      record {
        word = t.word;
        plan = t.plan;
        total = t.total;
        log = t.log;
        out = t.out;
        words = t.words;
        slots = t.slots;
        bit = t.bit;
        holders = omega (arith, sum-snoc (λ (x : View S). one_if x.holds) (set s.views id w) u, sum-set (λ (x : View S). one_if x.holds) s.views id v w me, t.holders);
        at_home = t.at_home;
        held = each (λ x. x.holds ≡ true → (x.entry ≡ t.log) × (x.flying ≡ t.out)) t.held (t.held id v me) (λ has. absurd (cc));
        seated = each (λ x. (x ≡ spent) ⊎ IsSeated t.plan t.total x) t.seated
            (inr (record { plan = is.plan; whole = is.whole; some_share = omega arith })) (inr (record { plan = is.plan; whole = is.whole; some_share = some_share }));
        seen = each (λ x. StartsWith t.log x.seen) t.seen (t.seen id v me) (t.seen id v me);
        heard = each (λ x. StartsWith t.log x.heard) t.heard (t.heard id v me) (t.log, refl);
        shares = omega (arith, sum-snoc (λ (x : View S). x.shares) (set s.views id w) u, sum-set (λ (x : View S). x.shares) s.views id v w me, t.shares);
        known = λ x. omega (arith, sum-snoc (λ (y : View S). times x y.known) (set s.views id w) u, sum-set (λ (y : View S). times x y.known) s.views id v w me, t.known x);
        single = t.single;
      }

  pub joins : (id other : ℕ) (v w : View S) → v.holds ≡ false → w.holds ≡ false → 0 < v.shares → w.known ≡ [] → Joins (Turned script history flights) id v other w (told v w) spent
  joins id other v w away away' some_share none_known s t me apart there =
      let both = told v w in
      let is = seated_with t.plan t.total v some_share (t.seated id v me) in
      let there' : get_elem? s.views other ≡ some w = sym (set_else s.views id other both apart) ∙ there in
      let P : (View S → Type 0) → Type 0 = λ Q. ((j : ℕ) (x : View S) → get_elem? s.views j ≡ some x → Q x) → Q both → Q spent → (j : ℕ) (x : View S) → get_elem? (set (set s.views id both) other spent) j ≡ some x → Q x in
      let each : (Q : View S → Type 0) → P Q = λ Q old left right j x at. ⊎_elim
      (λ (y : (j ≡ other) × (spent ≡ x)). subst Q y.1 right)
      (λ (z : (j ≢ other) × (get_elem? (set s.views id both) j ≡ some x)). ⊎_elim
      (λ (y : (j ≡ id) × (both ≡ x)). subst Q y.1 left)
      (λ (y : (j ≢ id) × (get_elem? s.views j ≡ some x)). old j x y.1)
      (at_set s.views id j both x z.1))
      (at_set (set s.views id both) other j spent x at) in
      let sums : (f : View S → ℕ) → total_of f (set (set s.views id both) other spent) + f w + f v ≡ total_of f s.views + f both + f spent = λ f. omega (arith, sum-set f s.views id v both me, sum-set f (set s.views id both) other w spent there) in
      record {
        word = t.word;
        plan = t.plan;
        total = t.total;
        log = t.log;
        out = t.out;
        words = t.words;
        slots = t.slots;
        bit = t.bit;
        holders = omega (arith, sums (λ (x : View S). one_if x.holds), t.holders, ap one_if away');
        at_home = t.at_home;
        held = each (λ x. x.holds ≡ true → (x.entry ≡ t.log) × (x.flying ≡ t.out)) t.held (t.held id v me) (λ has. absurd (cc));
        seated = each (λ x. (x ≡ spent) ⊎ IsSeated t.plan t.total x) t.seated (inr (record { plan = is.plan; whole = is.whole; some_share = omega arith })) (inl refl);
        seen = each (λ x. StartsWith t.log x.seen) t.seen (t.seen id v me) (t.log, refl);
        heard = each (λ x. StartsWith t.log x.heard) t.heard (t.seen other w there') (t.log, refl);
        shares = omega (arith, sums (λ (x : View S). x.shares), t.shares);
        known = λ x. omega (arith, sums (λ (y : View S). times x y.known), t.known x, ap (times x) none_known);
        single = t.single;
      }

-- of two beginnings of one history the shorter begins the longer
pub begins_other : (log xs ys : History) → StartsWith log xs → StartsWith log ys → length xs ≤ length ys → StartsWith ys xs
begins_other log [] ys p q le = (ys, refl)
begins_other log (x ∷ xs) [] p q le = absurd (omega arith)
begins_other [] (x ∷ xs) (y ∷ ys) p q le = absurd (cc (p.1))
begins_other (z ∷ log) (x ∷ xs) (y ∷ ys) p q le =
    let p' : z ∷ log ≡ x ∷ (xs ++ p.0) = p.1 in
    let q' : z ∷ log ≡ y ∷ (ys ++ q.0) = q.1 in
    let one : log ≡ xs ++ p.0 = cc in
    let two : log ≡ ys ++ q.0 = cc in
    let head : y ≡ x = cc in
    let r = begins_other log xs ys (p.0, one) (q.0, two) (omega arith) in
    (r.0, λ i. head i ∷ r.1 i)

pub longer_begins : (log xs ys : History) → StartsWith log xs → StartsWith log ys → (b : Bool) → nat_lt (length xs) (length ys) ≡ b → StartsWith (cond b ys xs) xs × StartsWith (cond b ys xs) ys
longer_begins log xs ys p q true e = (begins_other log xs ys p q (let lt = ltb-true (length xs) (length ys) e in omega arith), starts_refl ys)
longer_begins log xs ys p q false e = (starts_refl xs, begins_other log ys xs q p (let le = ltb-false (length xs) (length ys) e in omega arith))

longer_from : (log xs ys : History) → StartsWith log xs → StartsWith log ys → (b : Bool) → StartsWith log (cond b ys xs)
longer_from log xs ys p q true = q
longer_from log xs ys p q false = p

module _ {M S : Type 0} (script : M → S) (history : M → History) (flights : M → List FlightKey) where
  pub compares : (id : ℕ) (m : Sat M S) → 0 < m.0.shares → Allows (Turned script history flights) 1 id m 0 (λ n. n) (met (step 1 0 0 0 none) m)
  compares id m some_share s t wide me small =
      let v = m.0 in
      let w = compared v in
      let is = seated_with script history flights t.plan t.total v some_share (t.seated id v me) in (
        w,
        keeps,
        tt,
        changed script history flights s t id v w (set s.words 0 (get_or s.words 0 0)) s.homes t.word t.log t.out me (set-get_or s.words 0 0 ∙ t.words) t.slots t.bit refl t.at_home (λ j u _ at holds. t.held j u at holds) (λ holds. t.held id v me holds)
            (record { plan = is.plan; whole = is.whole; some_share = is.some_share }) (λ xs p. p) (longer_from t.log v.seen v.heard (t.seen id v me) (t.heard id v me) _) (t.log, refl) refl (λ x. refl) t.single,
        (let both = longer_begins t.log v.seen v.heard (t.seen id v me) (t.heard id v me) _ refl in (refl, both.0, both.1)),
      )

module _ {M S : Type 0} (script : M → S) (history : M → History) (flights : M → List FlightKey) where
  -- where one seat has all shares, the others were joined away
  pub alone : (s : State (Option M) (View S)) (t : Turned script history flights s) (id : ℕ) (v : View S) → get_elem? s.views id ≡ some v → 0 < v.shares → v.shares ≡ v.total → (j : ℕ) (u : View S) → j ≢ id → get_elem? s.views j ≡ some u → u ≡ spent
  alone s t id v me some_share all j u apart at =
      let is = seated_with script history flights t.plan t.total v some_share (t.seated id v me) in
      ⊎_elim (λ (e : u ≡ spent). e) (λ (x : IsSeated t.plan t.total u). absurd (omega (arith, x.some_share, is.whole, all, t.shares, terms_le (λ (y : View S). y.shares) s.views id j v u apart me at))) (t.seated j u at)

  -- then nobody holds the turn, and the machine is at home
  pub ends : (s : State (Option M) (View S)) (t : Turned script history flights s) (id : ℕ) (v : View S) → get_elem? s.views id ≡ some v → 0 < v.shares → v.shares ≡ v.total → v.holds ≡ false → v.known ≡ []
      → (machine : M) × (get_elem? s.homes 0 ≡ some (some (Some machine))) × (v.script ≡ Some (script machine)) × StartsWith (history machine) v.seen × (flights machine ≡ [])
  ends s t id v me some_share all away none_known =
      let f : View S → ℕ = λ u. one_if u.holds in
      let free : t.word ≡ 0 = omega (arith, t.holders, ap one_if away, only_one f s.views id v me (λ j u apart at. ap f (alone s t id v me some_share all j u apart at))) in
      let h = t.at_home free in
      let is = seated_with script history flights t.plan t.total v some_share (t.seated id v me) in
      (h.0, h.1, is.plan ∙ ap Some (sym h.2), subst (λ (l : History). StartsWith l v.seen) (sym h.3) (t.seen id v me), h.4 ∙ empty t.out (λ x. sym (t.known x) ∙ only_one (λ (u : View S). times x u.known) s.views id v me (λ j u apart at. ap (λ (y : View S). times x y.known) (alone s t id v me some_share all j u apart at)) ∙ ap (times x) none_known))

  -- what the slot holds when the table has been closed
  pub comes_home : (id : ℕ) (v : View S) (ws : List ℕ) (xs : List (Option M)) → Final (Seen (Turned script history flights) id v) ws xs → 0 < v.shares → v.shares ≡ v.total → v.holds ≡ false → v.known ≡ []
      → (found : Option M) → get_elem? xs 0 ≡ some found → (machine : M) × (found ≡ Some machine) × (v.script ≡ Some (script machine)) × StartsWith (history machine) v.seen × (flights machine ≡ [])
  comes_home id v ws xs f some_share all away none_known found at =
      let h = ends f.0 f.1.0 id v f.1.1 some_share all away none_known in
      (h.0, some-injective found (Some h.0) (sym at ∙ f.4 0 (Some h.0) h.1), h.2, h.3, h.4)
