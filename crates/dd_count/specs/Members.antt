-- The members of a group: variables of a table.
use Rattle.std.specs.Prelude.{List}
use Rattle.std.specs.List.{All}
use Rattle.dd_store.specs.declared.row.Var.{Var}
use Rattle.dd_store.specs.Order.{IsDistinct}
use Rattle.dd_store.specs.Table.{Table, IsVariable}

-- Each of the members is a variable of the table, and none stands twice. They may stand in any order.
pub record AreMembers (t : Table) (members : List Var) : Type 0 where
  pub there : All (λ v. IsVariable t v.0) members
  pub distinct : IsDistinct members
