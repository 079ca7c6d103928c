-- What is wrong with a rule, by the rules in front of it and by what the lines of its file bring. This project's own.
use Rattle.std.specs.Prelude.{ℕ, ◌+◌, List, [], ◌∷◌, length, Option}
use Rattle.uvl_base.specs.declared.fault.FaultKind.TheVariants.{TooManyRules}
use Rattle.uvl_ast.specs.declared.expression.Expr.{Expr}
use Rattle.uvl_ast.specs.declared.feature.Attribute.{Attribute}
use Rattle.uvl_ast.specs.Nodes.{nodes_of}
use Rattle.uvl_scope.specs.Brought.{Brought}
use Rattle.uvl_scope.specs.Firsts.{when, first_of}
use Rattle.uvl_scope.specs.LineFaults.{Finding, finding, are_too_many}
use Rattle.uvl_scope.specs.NumberFaults.{fault_inside}
use Rattle.uvl_scope.specs.Rules.{place_of, nodes_in}

-- The fault of a rule behind so many rules with so many nodes, those of placed files counted: with it there are too
-- many, or else what is wrong inside it, the first in the text.
abbrev pub fault_behind_rules :
    List (List ℕ) → List (List Attribute) → (rules nodes : ℕ) → Expr → Option Finding
fault_behind_rules names attributes rules nodes rule = first_of (
    when (are_too_many (rules + 1) (nodes + nodes_of rule)) (finding TooManyRules (place_of rule))
    ∷ fault_inside names attributes rule
    ∷ []
    )

-- the fault of a rule, with what the lines of its file bring, and the rules in front of it
abbrev pub fault_of_rule : Brought → List Expr → Expr → Option Finding
fault_of_rule brought front rule =
    fault_behind_rules brought.names brought.attributes (brought.rules + length front) (brought.nodes + nodes_in front)
    rule
