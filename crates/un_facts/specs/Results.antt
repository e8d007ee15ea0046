-- Tests one after another, the first of which that fails gives the reason.
use Rattle.std.specs.Prelude.{Bool, Option, Some, None, Result, Ok, Err, if◌then◌else◌}

-- what follows a result, where there is one
infixl 10 ◌>>=◌
abbrev pub ◌>>=◌ : {A B E : Type 0} → Result A E → (A → Result B E) → Result B E
(Ok x) >>= f = f x
(Err why) >>= f = Err why

-- nothing where a test holds, else the reason
abbrev pub needs : {E : Type 0} → E → Bool → Result (Unit {0}) E
needs why holds = if holds then Ok tt else Err why

-- the value where there is one, else the reason
abbrev pub given : {X E : Type 0} → E → Option X → Result X E
given why (Some x) = Ok x
given why None = Err why
