-- How a link stands after one control more.
use Rattle.std.proofs.Common.{◌≡◌, List, [], ◌∷◌, ◌++◌, Option, Some, None, refl, ap, ◌∙◌}
use Rattle.un_journal.specs.declared.controls.Due.{Due}
use Rattle.un_script.specs.declared.state.LinkState.{LinkState}
use Rattle.un_script.specs.Parts.{state_after, state_from, where_some}

unit : (o : Option LinkState) → where_some o (λ s. Some s) ≡ o
unit None = refl
unit (Some s) = refl

same_some : (x y : LinkState) → Some x ≡ Some y → x ≡ y
same_some x y h = cc

next : (o : Option LinkState) (f g : LinkState → Option LinkState) (target : Option LinkState) (state : LinkState)
    → ((s : LinkState) → f s ≡ Some state → g s ≡ target) → where_some o f ≡ Some state → where_some o g ≡ target
next None f g target state step h = absurd (cc)
next (Some s) f g target state step h = step s h

pub state_more : (from : LinkState) (dues : List Due) (due : Due) (state : LinkState) → state_from from dues ≡ Some state
    → state_from from (dues ++ due ∷ []) ≡ state_after due.control state
unfolding state_from
state_more from [] due state h = unit (state_after due.control from) ∙ ap (λ s. state_after due.control s) (same_some from state h)
state_more from (d ∷ ds) due state h = next (state_after d.control from) _ _ _ state (λ s e. state_more s ds due state e) h
