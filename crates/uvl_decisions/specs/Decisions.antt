-- Decisions on features, and which values they leave and force (staged configuration after Czarnecki, Helsen and
-- Eisenecker). A set is a list of names, of which only membership counts.
use Rattle.std.specs.Prelude.{ℕ, Bool, not, ◌&&◌, List}
use Rattle.std.specs.Bool.{beq}
use Rattle.std.specs.List.{list_all}
use Rattle.uvl_semantics.specs.Family.{Family, some_set}
use Rattle.uvl_semantics.specs.Product.{has}

-- a decision on a feature: whether it is to be in the product
pub record Decision : Type 0 where
  pub feature : List ℕ
  pub value : Bool

-- the decision for the other value
abbrev pub opposite : Decision → Decision
opposite decision = record { feature = decision.feature; value = not decision.value }

-- a set agrees with a decision: the feature is in it exactly where the value is yes
abbrev pub agrees_with : List (List ℕ) → Decision → Bool
agrees_with set decision = beq (has set decision.feature) decision.value

-- a set agrees with all of these decisions
abbrev pub agrees : List (List ℕ) → List Decision → Bool
agrees set decisions = list_all (agrees_with set) decisions

-- the sets of a family that agree with decisions
abbrev pub agreeing : Family → List Decision → Family
agreeing family decisions = record { names = family.names; contains = λ set. family.contains set && agrees set decisions }

-- a value is offered: some set that agrees with the decisions has it
abbrev pub is_offered : Family → List Decision → Decision → Bool
is_offered family decisions asked = some_set (agreeing family decisions) (λ set. agrees_with set asked)

-- a value is forced: every set that agrees with the decisions has it
abbrev pub is_forced : Family → List Decision → Decision → Bool
is_forced family decisions asked = not (some_set (agreeing family decisions) (λ set. not (agrees_with set asked)))
