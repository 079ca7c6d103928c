-- What is wrong inside a rule, in the order of its text: references that name nothing, what stands where the other sort
-- is needed, and products that aren't linear. This project's own.
use Rattle.std.specs.Prelude.{ℕ, ℤ, pos, ◌-ℤ◌, int_lt, Bool, true, false, not, ◌&&◌, ◌||◌, List, [], ◌∷◌, Option, Some, None, if◌then◌else◌}
use Rattle.std.specs.Bool.{beq}
use Rattle.std.specs.Option.{is_none, option_or}
use Rattle.uvl_base.specs.declared.fault.FaultKind.TheVariants.{UnknownFeature, UnknownAttribute, WrongSort, NotLinear, FactorTooLarge}
use Rattle.uvl_base.specs.declared.place.Place.{Place}
use Rattle.uvl_ast.specs.declared.expression.BinOp.{BinOp}
use Rattle.uvl_ast.specs.declared.expression.BinOp.TheVariants as op
use Rattle.uvl_ast.specs.declared.expression.Expr.{Expr}
use Rattle.uvl_ast.specs.declared.expression.Expr.TheOpen.{Expr-F}
use Rattle.uvl_ast.specs.declared.expression.Expr.TheFolds.{fold-Expr}
use Rattle.uvl_ast.specs.declared.feature.Attribute.{Attribute}
use Rattle.uvl_ast.specs.declared.feature.AttrValue.{AttrValue}
use Rattle.uvl_ast.specs.declared.feature.AttrValue.TheVariants as value
use Rattle.uvl_placing.specs.Names.{dotted, front_of, last_of}
pub use Rattle.uvl_scope.specs.declared.factors.Factor.{Factor}
use Rattle.uvl_scope.specs.Firsts.{beside, first_of, when}
use Rattle.uvl_scope.specs.LineFaults.{Finding, finding}
use Rattle.uvl_scope.specs.Rules.{joins_truths}
use Rattle.uvl_semantics.specs.Attributes.{value_of_key}
use Rattle.uvl_semantics.specs.Product.{has}

-- `+`, `-` and `*` make numbers, and all other operators truths
abbrev pub makes_number : BinOp → Bool
makes_number op.Plus = true
makes_number op.Minus = true
makes_number op.Times = true
makes_number _ = false

abbrev pub is_times : BinOp → Bool
is_times op.Times = true
is_times _ = false

-- a value stands where a number is needed: there is none, or it is no number
abbrev pub fault_of_value : Option AttrValue → Place → Option Finding
fault_of_value None place = Some (finding UnknownAttribute place)
fault_of_value (Some (value.Number number)) place = None
fault_of_value (Some _) place = Some (finding WrongSort place)

-- an attribute is needed of a feature, which is known by its attributes, or not known
abbrev pub fault_of_attribute : Option (List Attribute) → List ℕ → Place → Option Finding
fault_of_attribute None key place = Some (finding UnknownFeature place)
fault_of_attribute (Some attributes) key place = fault_of_value (value_of_key key attributes) place

-- a truth is needed: the whole reference names a feature
abbrev pub fault_of_truth : List (List ℕ) → List ℕ → Place → Option Finding
fault_of_truth names name place = when (not (has names name)) (finding UnknownFeature place)

-- a number is needed, and one name alone stands there: it is a feature, and no number, or nothing
abbrev pub fault_of_single : List (List ℕ) → List ℕ → Place → Finding
fault_of_single names name place = finding (if has names name then WrongSort else UnknownFeature) place

-- a number is needed: the last name is the attribute, and those in front are the feature
abbrev pub fault_of_number : List (List ℕ) → List (List Attribute) → List (List ℕ) → Place → Option Finding
fault_of_number names attributes [] place = Some (finding UnknownFeature place)
fault_of_number names attributes (name ∷ []) place = Some (fault_of_single names name place)
fault_of_number names attributes (name ∷ next ∷ parts) place =
    fault_of_attribute (beside (dotted (front_of (name ∷ next ∷ parts))) names attributes)
    (last_of (next ∷ parts)) place

-- an operand as a product sees it: whether a product is in it, and the millionths of a literal
abbrev pub factor_at : Expr-F Factor → Factor
factor_at (Expr-F.Number number place) = record { product = false; literal = Some number }
factor_at (Expr-F.Name reference) = record { product = false; literal = None }
factor_at (Expr-F.Sum name place) = record { product = false; literal = None }
factor_at (Expr-F.Not operand place) = record { product = operand.product; literal = None }
factor_at (Expr-F.Binary operator left right place) =
    record { product = is_times operator || right.product || left.product; literal = None }

abbrev pub factor_of : Expr → Factor
factor_of = fold-Expr Factor factor_at

-- a literal below 1,000,000 in size, told in millionths
abbrev pub is_small : Option ℤ → Bool
is_small None = false
is_small (Some n) = int_lt (pos 0 -ℤ pos 1000000000000) n && int_lt n (pos 1000000000000)

-- a side of a product has a product in it, or neither side is a literal
abbrev pub is_not_linear : Factor → Factor → Bool
is_not_linear left right = left.product || right.product || (is_none left.literal && is_none right.literal)

-- a product isn't linear, or else no side of it is a literal that is small enough
abbrev pub fault_of_product : Factor → Factor → Place → Option Finding
fault_of_product left right place = first_of (
    when (is_not_linear left right) (finding NotLinear place)
    ∷ when (not (is_small left.literal || is_small right.literal)) (finding FactorTooLarge place)
    ∷ []
    )

-- What is wrong at an operator alone, where a truth is needed or else a number: it makes the other sort, or it is a
-- product with a fault.
abbrev pub fault_of_operator : BinOp → Factor → Factor → Place → Bool → Option Finding
fault_of_operator operator left right place boolean = first_of (
    when (beq boolean (makes_number operator)) (finding WrongSort place)
    ∷ (if is_times operator then fault_of_product left right place else None)
    ∷ []
    )

-- an expression as what stands around it sees it: as a factor, and what is wrong first in it, where a truth is needed
-- or else a number
pub record Part : Type 0 where
  pub factor : Factor
  pub fault : Bool → Option Finding

-- What is wrong first at a node and in its operands, in the order of the text: an operator stands between its operands,
-- and `!` in front of its own.
abbrev pub fault_at : List (List ℕ) → List (List Attribute) → Expr-F Part → Bool → Option Finding
fault_at names attributes (Expr-F.Number number place) boolean = when boolean (finding WrongSort place)
fault_at names attributes (Expr-F.Name reference) boolean =
    if boolean
    then fault_of_truth names (dotted reference.parts) reference.place
    else fault_of_number names attributes reference.parts reference.place
fault_at names attributes (Expr-F.Sum name place) boolean = when boolean (finding WrongSort place)
fault_at names attributes (Expr-F.Not operand place) boolean =
    option_or (when (not boolean) (finding WrongSort place)) (operand.fault true)
fault_at names attributes (Expr-F.Binary operator left right place) boolean =
    option_or (left.fault (joins_truths operator))
    (option_or (fault_of_operator operator left.factor right.factor place boolean) (right.fault (joins_truths operator)))

-- a node as a factor, by its operands
abbrev pub factor_in : Expr-F Part → Factor
factor_in (Expr-F.Number number place) = factor_at (Expr-F.Number number place)
factor_in (Expr-F.Name reference) = factor_at (Expr-F.Name reference)
factor_in (Expr-F.Sum name place) = factor_at (Expr-F.Sum name place)
factor_in (Expr-F.Not operand place) = factor_at (Expr-F.Not operand.factor place)
factor_in (Expr-F.Binary operator left right place) =
    factor_at (Expr-F.Binary operator left.factor right.factor place)

abbrev pub part_at : List (List ℕ) → List (List Attribute) → Expr-F Part → Part
part_at names attributes node =
    record { factor = factor_in node; fault = λ boolean. fault_at names attributes node boolean }

abbrev pub part_of : List (List ℕ) → List (List Attribute) → Expr → Part
part_of names attributes = fold-Expr Part (part_at names attributes)

-- what is wrong first in an expression, where a truth is needed or else a number
abbrev pub fault_within : List (List ℕ) → List (List Attribute) → Expr → Bool → Option Finding
fault_within names attributes expression boolean = (part_of names attributes expression).fault boolean

-- What is wrong first in a rule, in the order of its text. Names are those of the file's placed tree, and beside them
-- stand the attributes of each feature. A rule is a truth.
abbrev pub fault_inside : List (List ℕ) → List (List Attribute) → Expr → Option Finding
fault_inside names attributes rule = fault_within names attributes rule true
