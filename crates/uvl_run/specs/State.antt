-- What the lines of a script are answered from, and what they may change. This project's own.
use Rattle.std.specs.Prelude.{◌≡◌, ℕ, List, Some}
use Rattle.uvl_imports.specs.declared.file_set.Loaded.{Loaded}
use Rattle.uvl_model.specs.Products.{Products}
use Rattle.uvl_model.specs.Rows.{Rows}
use Rattle.uvl_resolve.specs.Flat.{Flat}
use Rattle.uvl_run.specs.Models.{products_of}

-- the main model, and how many nodes the table of diagrams may hold
pub record State : Type 0 where
  pub main : Rows
  pub budget : ℕ

-- the state in front of the first line
abbrev pub start_of : Rows → ℕ → State
start_of main budget = record { main = main; budget = budget }

-- this is one, where the main model is the placed tree of these files with its constraints, and has their products
pub record IsStart (files : List Loaded) (budget : ℕ) (s : State) : Type 0 where
  pub flat : Flat files s.main
  pub products : products_of files ≡ Some (Products s.main)
  pub table : s.budget ≡ budget
