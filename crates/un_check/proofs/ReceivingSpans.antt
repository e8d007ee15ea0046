-- The numbers of a transfer that isn't opened: there is one, and none of them is given.
use Rattle.std.proofs.Common.{◌≡◌, ℕ, ◌-◌, ◌<◌, ◌≤◌, Bool, true, false, not, ◌==◌, [], ◌∷◌, Option, Some, inl, inr, refl, sym, ap, ◌∙◌, subst, arith}
use Rattle.std.proofs.lemmas.Bool.{false≢true, eqb-false, cases_Bool}
use Rattle.std.proofs.lemmas.Option.{same_Some}
use Rattle.un_facts.specs.Lists.{is_empty}
use Rattle.un_journal.specs.declared.lines.Line.TheVariants.{Made}
use Rattle.un_journal.specs.History.{History, made, span, told_if, serial_of, opened, landed, gave, left_of, row_from}
use Rattle.un_journal.specs.Sound.{IsSound}
use Rattle.un_journal.proofs.ForLane.{owns_span, left_is, given_from, fresh, status_of, is_arrived}
use Rattle.un_check.proofs.ReceivingLists.{all_pass, row_some}

pub record HasNumbers (o : Option (ℕ × ℕ)) : Type 0 where
  pub from : ℕ
  pub to : ℕ
  pub is_span : o ≡ Some (from, to)
  pub some : from < to

told_numbers : (v : Bool) (a b : ℕ) (o : Option (ℕ × ℕ)) → a < b → (v ≡ false → HasNumbers o) → HasNumbers (told_if v (a, b) o)
told_numbers true a b o some rest = record { from = a; to = b; is_span = refl; some = some }
told_numbers false a b o some rest = rest refl

pub has_numbers : (g : History) → IsSound g → (k : ℕ) → k < made g → HasNumbers (span g k)
has_numbers [] sound k h = absurd (omega arith)
has_numbers ((Made l j a b, bytes) ∷ g) sound k h =
    told_numbers (j == k) a b (span g k) sound.0.1.is_some
    (λ e. has_numbers g sound.1 k (let apart : j ≡ k → ⊥ = eqb-false j k e in let last : j ≡ made g = sound.0.0 in omega arith))
has_numbers (e ∷ g) sound k h = has_numbers g sound.1 k h

-- a transfer that wasn't made hasn't landed
pub unlanded : (g : History) → IsSound g → (k : ℕ) → made g ≤ k → landed g k ≡ false
unlanded g sound k h = (status_of g sound k).landed_is ∙ ap is_arrived (fresh g sound k h)

ungiven : (g : History) → IsSound g → (k a b n : ℕ) → opened g k ≡ false → span g k ≡ Some (a, b) → a ≤ n → n < b → gave g n ≡ false
ungiven g sound k a b n closed s lo hi = elim (cases_Bool (gave g n)) [
  | inl e ↦
      let from = given_from g sound n e in
      let mine : serial_of g n ≡ Some k = (owns_span g sound k (a, b) s).owns n lo hi in
      absurd (false≢true (sym closed ∙ subst (λ i. opened g i ≡ true) (same_Some from.serial k (sym from.is_owner ∙ mine)) from.was_opened))
  | inr e ↦ e
]

-- so its whole span is left
pub left_whole : (g : History) → IsSound g → (k a b : ℕ) → opened g k ≡ false → span g k ≡ Some (a, b) → left_of g k ≡ row_from a (b - a)
left_whole g sound k a b closed s =
    left_is g k a b s ∙ all_pass (λ n. not (gave g n)) a (b - a) (λ n lo hi. rw (ungiven g sound k a b n closed s lo (omega arith)) refl)

pub left_some : (g : History) → IsSound g → (k a b : ℕ) → opened g k ≡ false → span g k ≡ Some (a, b) → a < b → is_empty (left_of g k) ≡ false
left_some g sound k a b closed s some = ap is_empty (left_whole g sound k a b closed s ∙ row_some a (b - a) (omega arith))
