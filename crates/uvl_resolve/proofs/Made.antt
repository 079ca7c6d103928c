-- What rules make, node by node, and down their left operands.
use Rattle.std.proofs.Common.{◌≡◌, ℕ, ◌+◌, arith, length, List, [], ◌∷◌, ◌++◌, Option, Some, None, refl, sym, ap, ◌∙◌}
use Rattle.std.specs.Prelude.{ℤ}
use Rattle.std.specs.Option.{option_map}
use Rattle.uvl_base.specs.declared.place.Place.{Place}
use Rattle.uvl_ast.specs.declared.names.Ref.{Ref}
use Rattle.uvl_ast.specs.declared.expression.BinOp.{BinOp}
use Rattle.uvl_ast.specs.declared.expression.Expr.{Expr}
use Rattle.uvl_ast.specs.declared.expression.Expr.TheVariants as expr
use Rattle.uvl_ast.specs.declared.expression.Expr.TheVariants.{rolls-Number, rolls-Name, rolls-Sum, rolls-Not, rolls-Binary}
use Rattle.uvl_ast.specs.declared.expression.Expr.TheOpen.{Expr-F}
use Rattle.uvl_ast.specs.declared.expression.Expr.TheFolds.{fold-roll-Expr}
use Rattle.uvl_ast.specs.Nodes.{node_count, nodes_of}
use Rattle.uvl_model.specs.declared.rule.Cmp.{Cmp}
use Rattle.uvl_model.specs.declared.rule.Number.{Number}
use Rattle.uvl_model.specs.declared.rule.Number.TheVariants as number
use Rattle.uvl_model.specs.declared.rule.Rule.{Rule}
use Rattle.uvl_model.specs.declared.rule.Rule.TheVariants as rule
use Rattle.uvl_placing.specs.Names.{dotted}
use Rattle.uvl_resolve.specs.declared.rule.Pending.{Pending}
use Rattle.uvl_resolve.specs.steps.Rules.{IsMade, Made, attribute_called, both_of, compared, comparison_by, feature_called, joined, joined_by, made_of, made_with, number_of, of_two, reckoned, sum_of, truth_by, within}

pub both_name : (names : List (List ℕ)) (offset : ℕ) (r : Ref) → both_of names offset (expr.Name r) ≡ made_with names offset (Expr-F.Name r)
both_name names offset r = ap (both_of names offset) (sym (rolls-Name r)) ∙ fold-roll-Expr Made (made_with names offset) (Expr-F.Name r)

pub both_number : (names : List (List ℕ)) (offset : ℕ) (v : ℤ) (p : Place) → both_of names offset (expr.Number v p) ≡ made_with names offset (Expr-F.Number v p)
both_number names offset v p = ap (both_of names offset) (sym (rolls-Number v p)) ∙ fold-roll-Expr Made (made_with names offset) (Expr-F.Number v p)

pub both_sum : (names : List (List ℕ)) (offset : ℕ) (key : List ℕ) (p : Place) → both_of names offset (expr.Sum key p) ≡ made_with names offset (Expr-F.Sum key p)
both_sum names offset key p = ap (both_of names offset) (sym (rolls-Sum key p)) ∙ fold-roll-Expr Made (made_with names offset) (Expr-F.Sum key p)

pub both_not : (names : List (List ℕ)) (offset : ℕ) (e : Expr) (p : Place)
    → both_of names offset (expr.Not e p) ≡ made_with names offset (Expr-F.Not (both_of names offset e) p)
both_not names offset e p = ap (both_of names offset) (sym (rolls-Not e p)) ∙ fold-roll-Expr Made (made_with names offset) (Expr-F.Not e p)

pub both_binary : (names : List (List ℕ)) (offset : ℕ) (o : BinOp) (left right : Expr) (p : Place)
    → both_of names offset (expr.Binary o left right p) ≡ made_with names offset (Expr-F.Binary o (both_of names offset left) (both_of names offset right) p)
both_binary names offset o left right p =
    ap (both_of names offset) (sym (rolls-Binary o left right p)) ∙ fold-roll-Expr Made (made_with names offset) (Expr-F.Binary o left right p)

abbrev truth : Made → Option Rule
truth made = made.truth

abbrev amount : Made → Option Number
amount made = made.number

pub made_name : (names : List (List ℕ)) (offset : ℕ) (r : Ref) → made_of names offset (expr.Name r) ≡ feature_called names offset (dotted r.parts)
made_name names offset r = ap truth (both_name names offset r)

pub made_number : (names : List (List ℕ)) (offset : ℕ) (v : ℤ) (p : Place) → made_of names offset (expr.Number v p) ≡ None
made_number names offset v p = ap truth (both_number names offset v p)

pub made_sum : (names : List (List ℕ)) (offset : ℕ) (key : List ℕ) (p : Place) → made_of names offset (expr.Sum key p) ≡ None
made_sum names offset key p = ap truth (both_sum names offset key p)

pub made_not : (names : List (List ℕ)) (offset : ℕ) (e : Expr) (p : Place)
    → made_of names offset (expr.Not e p) ≡ option_map (λ r. rule.Not r) (made_of names offset e)
made_not names offset e p = ap truth (both_not names offset e p)

pub number_literal : (names : List (List ℕ)) (offset : ℕ) (v : ℤ) (p : Place) → number_of names offset (expr.Number v p) ≡ Some (number.Literal v)
number_literal names offset v p = ap amount (both_number names offset v p)

pub number_name : (names : List (List ℕ)) (offset : ℕ) (r : Ref) → number_of names offset (expr.Name r) ≡ attribute_called names offset r.parts
number_name names offset r = ap amount (both_name names offset r)

pub number_sum : (names : List (List ℕ)) (offset : ℕ) (key : List ℕ) (p : Place) → number_of names offset (expr.Sum key p) ≡ sum_of names offset key
number_sum names offset key p = ap amount (both_sum names offset key p)

pub number_not : (names : List (List ℕ)) (offset : ℕ) (e : Expr) (p : Place) → number_of names offset (expr.Not e p) ≡ None
number_not names offset e p = ap amount (both_not names offset e p)

-- an operator that doesn't compare
pub made_binary : (names : List (List ℕ)) (offset : ℕ) (o : BinOp) (left right : Expr) (p : Place) → comparison_by o ≡ None
    → made_of names offset (expr.Binary o left right p) ≡ joined o (made_of names offset left) (made_of names offset right)
made_binary names offset o left right p none =
    ap truth (both_binary names offset o left right p)
    ∙ ap (λ (c : Option Cmp). truth_by c o (both_of names offset left) (both_of names offset right)) none

-- one that does
pub made_comparison : (names : List (List ℕ)) (offset : ℕ) (o : BinOp) (how : Cmp) (left right : Expr) (p : Place) → comparison_by o ≡ Some how
    → made_of names offset (expr.Binary o left right p) ≡ compared how (number_of names offset left) (number_of names offset right)
made_comparison names offset o how left right p is =
    ap truth (both_binary names offset o left right p)
    ∙ ap (λ (c : Option Cmp). truth_by c o (both_of names offset left) (both_of names offset right)) is

-- one that reckons
pub number_binary : (names : List (List ℕ)) (offset : ℕ) (o : BinOp) (left right : Expr) (p : Place)
    → number_of names offset (expr.Binary o left right p) ≡ reckoned o (number_of names offset left) (number_of names offset right)
number_binary names offset o left right p = ap amount (both_binary names offset o left right p)

pub nodes_not : (e : Expr) (p : Place) → nodes_of (expr.Not e p) ≡ 1 + nodes_of e
nodes_not e p = ap nodes_of (sym (rolls-Not e p)) ∙ fold-roll-Expr ℕ node_count (Expr-F.Not e p)

pub nodes_binary : (o : BinOp) (left right : Expr) (p : Place) → nodes_of (expr.Binary o left right p) ≡ 1 + nodes_of left + nodes_of right
nodes_binary o left right p = ap nodes_of (sym (rolls-Binary o left right p)) ∙ fold-roll-Expr ℕ node_count (Expr-F.Binary o left right p)

-- both operands of what is made are made
pub left_there : {A B : Type 0} (make : A → A → Option B) (left right : Option A) → IsMade (of_two make left right) → IsMade left
left_there make None right made = absurd cc
left_there make (Some left) right made = (left, refl)

pub right_operand : {A B : Type 0} (make : A → A → Option B) (left right : Option A) → IsMade (of_two make left right) → IsMade right
right_operand make None right made = absurd cc
right_operand make (Some left) None made = absurd cc
right_operand make (Some left) (Some right) made = (right, refl)

pub both_compared : (how : Cmp) (left right : Option Number) → IsMade (compared how left right) → IsMade left × IsMade right
both_compared how None right made = absurd cc
both_compared how (Some left) None made = absurd cc
both_compared how (Some left) (Some right) made = ((left, refl), (right, refl))

-- and so is the innermost
pub inner_made : (outer : List Pending) (inner : Option Rule) → IsMade (within outer inner) → IsMade inner
inner_made [] inner made = made
inner_made (first ∷ others) inner made = inner_made others inner (left_there (joined_by first.operator) (within others inner) (Some first.right) made)

-- the innermost operator
pub within_last : (outer : List Pending) (last : Pending) (inner : Option Rule)
    → within (outer ++ last ∷ []) inner ≡ within outer (joined last.operator inner (Some last.right))
within_last [] last inner = refl
within_last (first ∷ others) last inner = ap (λ (o : Option Rule). joined first.operator o (Some first.right)) (within_last others last inner)

-- one operator less
pub one_less : (all front : List Pending) (last : Pending) (inner made : Rule) → all ≡ front ++ last ∷ []
    → joined_by last.operator inner last.right ≡ Some made → within front (Some made) ≡ within all (Some inner)
one_less all front last inner made split is =
    sym (ap (λ (ps : List Pending). within ps (Some inner)) split ∙ within_last front last (Some inner) ∙ ap (within front) is)

pub last_made : (all front : List Pending) (last : Pending) (inner : Rule) → all ≡ front ++ last ∷ []
    → IsMade (within all (Some inner)) → IsMade (joined_by last.operator inner last.right)
last_made all front last inner split made =
    inner_made front (joined_by last.operator inner last.right)
    (made.0, sym (ap (λ (ps : List Pending). within ps (Some inner)) split ∙ within_last front last (Some inner)) ∙ made.1)

-- one operator more
pub one_more : (names : List (List ℕ)) (offset : ℕ) (whole : Option Rule) (outer new : List Pending) (current : Expr) (o : BinOp) (left right : Expr) (p : Place)
    (made : Rule) → comparison_by o ≡ None → current ≡ expr.Binary o left right p → whole ≡ within outer (made_of names offset current)
    → made_of names offset right ≡ Some made → new ≡ outer ++ record { operator = o; right = made } ∷ [] → whole ≡ within new (made_of names offset left)
one_more names offset whole outer new current o left right p made none is so_far is_made pushed =
    so_far ∙ ap (λ (e : Expr). within outer (made_of names offset e)) is
    ∙ ap (within outer) (made_binary names offset o left right p none ∙ ap (λ (r : Option Rule). joined o (made_of names offset left) r) is_made)
    ∙ sym (ap (λ (ps : List Pending). within ps (made_of names offset left)) pushed ∙ within_last outer (record { operator = o; right = made }) (made_of names offset left))

-- the right operand there is made
pub right_there : (names : List (List ℕ)) (offset : ℕ) (whole : Option Rule) (outer : List Pending) (current : Expr) (o : BinOp) (left right : Expr) (p : Place)
    → comparison_by o ≡ None → current ≡ expr.Binary o left right p → whole ≡ within outer (made_of names offset current) → IsMade whole
    → IsMade (made_of names offset right)
right_there names offset whole outer current o left right p none is so_far made =
    let here = inner_made outer (made_of names offset current) (made.0, sym so_far ∙ made.1) in
    right_operand (joined_by o) (made_of names offset left) (made_of names offset right)
    (here.0, sym (ap (made_of names offset) is ∙ made_binary names offset o left right p none) ∙ here.1)

-- the operands of a comparison there are numbers
pub numbers_there : (names : List (List ℕ)) (offset : ℕ) (whole : Option Rule) (outer : List Pending) (current : Expr) (o : BinOp) (how : Cmp) (left right : Expr) (p : Place)
    → comparison_by o ≡ Some how → current ≡ expr.Binary o left right p → whole ≡ within outer (made_of names offset current) → IsMade whole
    → IsMade (number_of names offset left) × IsMade (number_of names offset right)
numbers_there names offset whole outer current o how left right p compares is so_far made =
    let here = inner_made outer (made_of names offset current) (made.0, sym so_far ∙ made.1) in
    both_compared how (number_of names offset left) (number_of names offset right)
    (here.0, sym (ap (made_of names offset) is ∙ made_comparison names offset o how left right p compares) ∙ here.1)

-- none is left
pub none_left : {A : Type 0} (xs : List A) → length xs ≡ 0 → xs ≡ []
none_left [] none = refl
none_left (x ∷ xs) none = absurd (omega (arith, none))

-- the operand of `!` is made
pub inside_made : (names : List (List ℕ)) (offset : ℕ) (whole inner : Expr) (p : Place) → whole ≡ expr.Not inner p
    → IsMade (made_of names offset whole) → IsMade (made_of names offset inner)
inside_made names offset whole inner p is made =
    there (made_of names offset inner) (made.0, sym (ap (made_of names offset) is ∙ made_not names offset inner p) ∙ made.1)
  where
    there : (inner : Option Rule) → IsMade (option_map (λ r. rule.Not r) inner) → IsMade inner
    there None made = absurd cc
    there (Some inner) made = (inner, refl)
