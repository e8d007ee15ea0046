-- A plan with one fault more.
use Rattle.std.proofs.Common.{◌≡◌, ℕ, Bool, true, false, ◌&&◌, ◌==◌, if◌then◌else◌, List, [], ◌∷◌, ◌++◌, Some, Result, Ok, Err, OnOk, OnErr, inl, inr, refl, sym, ap, ◌∙◌, subst, arith, IsTrue, unwrap_or}
use Rattle.std.proofs.lemmas.Bool.{cases_eq, and_from, and_right}
use Rattle.std.proofs.lemmas.Bool.Decides.{nat_tests}
use Rattle.std.proofs.lemmas.Map.Lookups.{exact_unsigned}
use Rattle.std.specs.List.{AllByRecursion}
use Rattle.un_facts.proofs.Lists.{all_more}
use Rattle.std.specs.Ordering.{nat_cmp, is_eq}
use Rattle.std.specs.declared.cmp.Ordering.{Ordering}
use Rattle.std.specs.declared.cmp.Ordering.TheVariants.{Less, Equal, Greater}
use Rattle.std.specs.Map.{lookup}
use Rattle.std.specs.BTreeMap.{BTreeMap, Updates, IsUnchanged, get, is_at}
use Rattle.un_frame.specs.declared.params.Lane.{Lane}
use Rattle.un_frame.specs.declared.params.Lane.TheVariants.{Outward, Inward}
use Rattle.un_frame.specs.declared.kinds.Planned.{Planned}
use Rattle.un_frame.specs.declared.kinds.Planned.TheVariants.{Clean, Proto, Halt}
use Rattle.un_frame.specs.Lanes.{same_lane}
use Rattle.un_journal.specs.declared.controls.PlannedFault.{PlannedFault}
use Rattle.un_journal.specs.Script.{planned_in}
use Rattle.un_script.specs.Plan.{Finds, PlansFault}
use Rattle.un_script.specs.Table.{is_fault}

pub not_clean : (plan : Planned) → IsTrue (is_fault plan) → plan ≡ Clean → ⊥
not_clean Clean fault e = cc
not_clean (Proto times) fault e = cc
not_clean Halt fault e = cc

-- the new fault is found behind the others
planned_new : (faults : List PlannedFault) (fault : PlannedFault) (lane : Lane) (serial : ℕ) → (same_lane fault.lane lane && fault.serial == serial) ≡ true → AllByRecursion PlansFault faults → planned_in faults lane serial ≡ Clean
    → planned_in (faults ++ fault ∷ []) lane serial ≡ fault.planned
planned_new [] fault lane serial here all none = rw here refl
planned_new (f ∷ fs) fault lane serial here all none = pick (same_lane f.lane lane && f.serial == serial) none (λ rest. planned_new fs fault lane serial here all.1 rest)
  where
    pick : (b : Bool) → (if b then f.planned else planned_in fs lane serial) ≡ Clean → (planned_in fs lane serial ≡ Clean → planned_in (fs ++ fault ∷ []) lane serial ≡ fault.planned)
        → (if b then f.planned else planned_in (fs ++ fault ∷ []) lane serial) ≡ fault.planned
    pick true found next = absurd (not_clean f.planned all.0 found)
    pick false rest next = next rest

-- and hides none of them
planned_other : (faults : List PlannedFault) (fault : PlannedFault) (lane : Lane) (serial : ℕ) → (same_lane fault.lane lane && fault.serial == serial) ≡ false
    → planned_in (faults ++ fault ∷ []) lane serial ≡ planned_in faults lane serial
planned_other [] fault lane serial there = rw there refl
planned_other (f ∷ fs) fault lane serial there = rw (planned_other fs fault lane serial there) refl

equal_only : (o : Ordering) → (o ≡ Equal → ⊥) → is_eq o ≡ false
equal_only Less h = refl
equal_only Equal h = absurd (h refl)
equal_only Greater h = refl

apart : (a b : ℕ) → (a ≡ b → ⊥) → is_at (nat_cmp a) b ≡ false
apart a b h = equal_only (nat_cmp a b) (λ e. h (exact_unsigned a b e))

same_lane_same : (a b : Lane) → a ≡ b → same_lane a b ≡ true
same_lane_same Outward Outward e = refl
same_lane_same Outward Inward e = absurd (cc)
same_lane_same Inward Outward e = absurd (cc)
same_lane_same Inward Inward e = refl

-- the lane's map with the new fault
finds_new : (faults : List PlannedFault) (fault : PlannedFault) (lane : Lane) (old new : BTreeMap ℕ Planned) → fault.lane ≡ lane → Finds lane faults old → AllByRecursion PlansFault faults → planned_in faults lane fault.serial ≡ Clean
    → Updates nat_cmp old new fault.serial (Some fault.planned) → Finds lane (faults ++ fault ∷ []) new
finds_new faults fault lane old new mine finds all none update serial = elim (cases_eq fault.serial serial) [
  | inl same ↦
      let test : (fault.serial == serial) ≡ true = grind (arith, nat_tests, same) in
      let free : planned_in faults lane serial ≡ Clean = subst (λ (k : ℕ). planned_in faults lane k ≡ Clean) same none in
      let found : get nat_cmp new serial ≡ Some fault.planned = subst (λ (k : ℕ). get nat_cmp new k ≡ Some fault.planned) same update.1 in
      ap (λ o. unwrap_or o Clean) found ∙ sym (planned_new faults fault lane serial (and_from (same_lane fault.lane lane) (fault.serial == serial) (same_lane_same fault.lane lane mine) test) all free)
  | inr other ↦
      let test : (fault.serial == serial) ≡ false = grind (arith, nat_tests, other) in
      ap (λ o. unwrap_or o Clean) (update.2 serial (apart fault.serial serial other)) ∙ finds serial ∙ sym (planned_other faults fault lane serial (and_right (same_lane fault.lane lane) (fault.serial == serial) test))
]

-- the other lane's map
finds_other : (faults : List PlannedFault) (fault : PlannedFault) (lane : Lane) (map : BTreeMap ℕ Planned) → same_lane fault.lane lane ≡ false → Finds lane faults map → Finds lane (faults ++ fault ∷ []) map
finds_other faults fault lane map other finds serial = finds serial ∙ sym (planned_other faults fault lane serial (rw other refl))

-- maps with the same entries find the same
finds_same : (faults : List PlannedFault) (lane : Lane) (old new : BTreeMap ℕ Planned) → IsUnchanged old new → Finds lane faults old → Finds lane faults new
finds_same faults lane old new same finds serial = ap (λ o. unwrap_or o Clean) (ap (lookup (is_at (nat_cmp serial))) same) ∙ finds serial

-- after a call that added to the list and to the lane's map, or to neither
pub mine_after : {E : Type 0} (r : Result (Unit {0}) E) (faults faults' : List PlannedFault) (fault : PlannedFault) (lane : Lane) (old new : BTreeMap ℕ Planned) → fault.lane ≡ lane → AllByRecursion PlansFault faults → planned_in faults lane fault.serial ≡ Clean
    → Finds lane faults old → OnOk r (faults' ≡ faults ++ fault ∷ []) → OnOk r (Updates nat_cmp old new fault.serial (Some fault.planned)) → OnErr r (faults' ≡ faults) → OnErr r (IsUnchanged old new) → Finds lane faults' new
mine_after (Ok u) faults faults' fault lane old new mine all none finds list map _ _ = subst (λ (fs : List PlannedFault). Finds lane fs new) (sym list) (finds_new faults fault lane old new mine finds all none map)
mine_after (Err e) faults faults' fault lane old new mine all none finds _ _ list map = subst (λ (fs : List PlannedFault). Finds lane fs new) (sym list) (finds_same faults lane old new map finds)

pub other_after : {E : Type 0} (r : Result (Unit {0}) E) (faults faults' : List PlannedFault) (fault : PlannedFault) (lane : Lane) (map : BTreeMap ℕ Planned) → same_lane fault.lane lane ≡ false
    → Finds lane faults map → OnOk r (faults' ≡ faults ++ fault ∷ []) → OnErr r (faults' ≡ faults) → Finds lane faults' map
other_after (Ok u) faults faults' fault lane map other finds list _ = subst (λ (fs : List PlannedFault). Finds lane fs map) (sym list) (finds_other faults fault lane map other finds)
other_after (Err e) faults faults' fault lane map other finds _ list = subst (λ (fs : List PlannedFault). Finds lane fs map) (sym list) finds

pub all_after : {E : Type 0} (r : Result (Unit {0}) E) (faults faults' : List PlannedFault) (fault : PlannedFault) → AllByRecursion PlansFault faults → PlansFault fault
    → OnOk r (faults' ≡ faults ++ fault ∷ []) → OnErr r (faults' ≡ faults) → AllByRecursion PlansFault faults'
all_after (Ok u) faults faults' fault all is_one list _ = subst (AllByRecursion PlansFault) (sym list) (all_more PlansFault faults fault all is_one)
all_after (Err e) faults faults' fault all is_one _ list = subst (AllByRecursion PlansFault) (sym list) all
