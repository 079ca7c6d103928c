-- Linear forms over the features of a model: a weight for each feature, which counts where the feature is marked, and a
-- constant. All numbers of a form are in one unit.
use Rattle.std.specs.Prelude.{◌≡◌, ℕ, ◌+◌, ◌*◌, ◌^◌, ◌≤◌, ℤ, pos, ◌+ℤ◌, unsigned_abs, Bool, List, [], ◌∷◌, length}
use Rattle.std.specs.List.{sum_by}
use Rattle.uvl_linear.specs.declared.form.LinearForm.{LinearForm}
use Rattle.uvl_model.specs.declared.rule.Number.{Number}
use Rattle.uvl_model.specs.declared.rule.Number.TheFolds.{fold-Number}
use Rattle.uvl_model.specs.Amounts.{counted, most_terms}
use Rattle.uvl_model.specs.Rules.{Factor, factor_node}

-- what the marked features add up to, where each has a weight; one without a mark isn't marked
abbrev pub marked_weight : List Bool → List ℤ → ℤ
marked_weight [] weights = pos 0
marked_weight (mark ∷ marks) [] = pos 0
marked_weight (mark ∷ marks) (weight ∷ weights) = counted mark weight +ℤ marked_weight marks weights

-- what a form is under the marks
abbrev pub form_value : List Bool → LinearForm → ℤ
form_value marks form = form.constant +ℤ marked_weight marks form.weights.items

-- the sizes of the constant and of the weights together
abbrev pub size_of_form : LinearForm → ℕ
size_of_form form = unsigned_abs form.constant + sum_by (λ weight. unsigned_abs weight) form.weights.items

-- the size of one term of a rule at most: below 10^18 millionths, with a factor of fewer than 10^12 millionths
abbrev pub largest_term : ℕ
largest_term = 10 ^ 30

-- the size of all terms of a rule at most
abbrev pub largest_form : ℕ
largest_form = most_terms * largest_term

-- so many terms more have room in a form
abbrev pub HasRoom : LinearForm → ℕ → Type 0
HasRoom form terms = size_of_form form + terms * largest_term ≤ largest_form

-- A form with something added to it that has no more than so many terms.
pub record Adds (old new : LinearForm) (terms : ℕ) (more : List Bool → ℤ) : Type 0 where
  pub value : (marks : List Bool) → form_value marks new ≡ form_value marks old +ℤ more marks
  pub size : size_of_form new ≤ size_of_form old + terms * largest_term
  pub count : length new.weights.items ≡ length old.weights.items

-- whether a number is a literal below 1,000,000 in size
abbrev pub is_small_literal : Number → Bool
is_small_literal number = (fold-Number Factor factor_node number).is_small_literal
