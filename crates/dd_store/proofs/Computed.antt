-- The definitions computed on one small diagram, that of 'x0 and x1, or x2'.
use Rattle.std.proofs.Common.{◌≡◌, ℕ, true, ◌&&◌, ◌||◌, [], ◌∷◌, Some, None, refl}
use Rattle.dd_store.specs.declared.row.Var.{Var}
use Rattle.dd_store.specs.Table.{Table, row_with, node_count, value_of, level_of, top_of, handle_count}
use Rattle.dd_store.specs.Size.{Function, alike, size, level_size}

abbrev var : ℕ → Var
var v = record { 0 = v }

-- the function itself
abbrev both_or : Function
both_or a = (a 0 && a 1) || a 2

-- its diagram: node 2 tests x2, node 3 tests x1 and node 4 tests x0, on which a handle stands
abbrev diagram : Table
diagram = record {
  slots = None ∷ None ∷ Some (row_with 2 0 1) ∷ Some (row_with 1 2 1) ∷ Some (row_with 0 2 3) ∷ [];
  order = var 0 ∷ var 1 ∷ var 2 ∷ [];
  counts = 0 ∷ 0 ∷ 0 ∷ 0 ∷ 1 ∷ [];
  budget = 16;
}

-- the diagram has the function's value for all eight assignments
value : alike diagram.order (λ a. value_of diagram 4 a) both_or ≡ true
value = refl

-- a node in the middle has the value of its part
part : alike diagram.order (λ a. value_of diagram 3 a) (λ a. a 1 || a 2) ≡ true
part = refl

-- three nodes, one handle, and the levels
counted : node_count diagram ≡ 3
counted = refl

held : handle_count diagram ≡ 1
held = refl

tops : top_of diagram 3 ≡ level_of diagram 1
tops = refl

-- the size of the function is the number of its nodes, with one node on each level
sized : size diagram.order (both_or ∷ []) ≡ 3
sized = refl

last_level : level_size diagram.order (both_or ∷ []) 2 ≡ 1
last_level = refl

-- over another order it has four nodes, two of them on the middle level
other_order : size (var 0 ∷ var 2 ∷ var 1 ∷ []) (both_or ∷ []) ≡ 4
other_order = refl

middle_level : level_size (var 0 ∷ var 2 ∷ var 1 ∷ []) (both_or ∷ []) 1 ≡ 2
middle_level = refl

-- what two functions share counts once
shared : size diagram.order (both_or ∷ (λ a. a 1 || a 2) ∷ (λ a. true) ∷ []) ≡ 3
shared = refl
