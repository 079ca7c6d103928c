-- Rules one after another, of which some may speak of numbers.
use Rattle.std.proofs.Common.{◌≡◌, Bool, true, false, List, ◌++◌, sym, ap, ◌∙◌}
use Rattle.std.specs.Prelude.{◌||◌}
use Rattle.std.specs.List.{list_any}
use Rattle.std.proofs.lemmas.List.Folds.{list_any-append}
use Rattle.uvl_ast.specs.declared.expression.Expr.{Expr}
use Rattle.uvl_scope.specs.Rules.{has_numbers}

-- a rule of the front does
pub any_in_front : (front rest : List Expr) (all : Bool) → list_any has_numbers (front ++ rest) ≡ all → list_any has_numbers front ≡ true → true ≡ all
any_in_front front rest all h found =
    ap (λ (b : Bool). b || list_any has_numbers rest) (sym found) ∙ sym (list_any-append has_numbers front rest) ∙ h

-- none of the front does
pub any_in_rest : (front rest : List Expr) (all : Bool) → list_any has_numbers (front ++ rest) ≡ all → list_any has_numbers front ≡ false
    → list_any has_numbers rest ≡ all
any_in_rest front rest all h none =
    ap (λ (b : Bool). b || list_any has_numbers rest) (sym none) ∙ sym (list_any-append has_numbers front rest) ∙ h
