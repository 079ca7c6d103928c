-- The names of the variables, by number, and how a model's names are placed among them.
use Rattle.std.specs.Prelude.{◌≡◌, ◌<◌, ◌≤◌, ℕ, Bool, length, List, [], ◌∷◌, ◌++◌, map, Some, slice_get, if◌then◌else◌}
use Rattle.dd_store.specs.declared.row.Var.{Var}
use Rattle.dd_store.specs.Changes.{KeepsRowsAndBudget}
use Rattle.dd_store.specs.Handles.{KeepsHandles}
use Rattle.dd_store.specs.Table.{Table, IsSound, value_of}
use Rattle.uvl_semantics.specs.Product.{has}
use Rattle.uvl_functions.specs.declared.naming.PlaceRefusal.{PlaceRefusal}
use Rattle.uvl_functions.specs.declared.naming.PlaceRefusal.TheVariants.{TooManyVariables, OutOfMemory}

-- the names with one more, unless it is there
abbrev pub with_name : List (List ℕ) → List ℕ → List (List ℕ)
with_name names name = if has names name then names else names ++ name ∷ []

-- the names with more of them: those that are new stand last, in their order
abbrev pub with_names : List (List ℕ) → List (List ℕ) → List (List ℕ)
with_names names [] = names
with_names names (name ∷ more) = with_names (with_name names name) more

-- the variables have these names: the name with a variable's number is the one that stands beside it
abbrev pub AreNamed : List (List ℕ) → List Var → List (List ℕ) → Type 0
AreNamed names vars wanted = map (λ v. slice_get names v.0) vars ≡ map (λ name. Some name) wanted

-- The table has the variables that it had, where they stood, and perhaps some more behind them. All else is as before.
pub record AddsVariables (old new : Table) : Type 0 where
  pub order : (more : List Var) × (new.order ≡ old.order ++ more)
  pub handles : KeepsHandles old new
  pub nodes : KeepsRowsAndBudget old new
  pub values : (n : ℕ) (a : ℕ → Bool) → value_of new n a ≡ value_of old n a
  -- each variable that is added has its place in the order as its number
  pub numbered : (k : ℕ) → length old.order ≤ k → k < length new.order → slice_get new.order k ≡ Some (record { 0 = k })
  pub sound : IsSound new

-- the names are those before with the first of some, as many as there was memory for
pub record HasSomeOf (old new more : List (List ℕ)) : Type 0 where
  pub front : List (List ℕ)
  pub rest : List (List ℕ)
  pub parts : more ≡ front ++ rest
  pub names : new ≡ with_names old front

-- where there would be too many variables nothing is added
abbrev pub IsPlacedSoFar : (old new more : List (List ℕ)) → (before after : Table) → PlaceRefusal → Type 0
IsPlacedSoFar old new more before after (TooManyVariables needed) = (new ≡ old) × (after ≡ before)
IsPlacedSoFar old new more before after OutOfMemory = HasSomeOf old new more
