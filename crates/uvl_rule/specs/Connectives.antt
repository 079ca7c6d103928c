-- What connectives make of truths and of functions.
use Rattle.std.specs.Prelude.{Bool, not, ◌&&◌, ◌||◌, List, [], ◌∷◌}
use Rattle.std.specs.Bool.{beq}
use Rattle.dd_store.specs.Size.{Function}
use Rattle.uvl_functions.specs.RuleParts.{group_of}
use Rattle.uvl_rule.specs.declared.connective.Connective.{Connective}
use Rattle.uvl_rule.specs.declared.connective.Connective.TheVariants.{And, Or, Implies, Iff}

-- of two truths
abbrev pub connected : Connective → Bool → Bool → Bool
connected And p q = p && q
connected Or p q = p || q
connected Implies p q = not p || q
connected Iff p q = beq p q

-- of two functions, for each assignment
abbrev pub connection : Connective → Function → Function → Function
connection c f g a = connected c (f a) (g a)

-- the group of a connective and its operands
abbrev pub connection_group : Connective → Function → Function → List Function
connection_group c f g = group_of (connection c f g) (f ∷ g ∷ []) []
