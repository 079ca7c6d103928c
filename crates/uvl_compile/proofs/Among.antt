-- In sound rows each group's parent and members are features, and no member stands twice.
use Rattle.std.proofs.Common.{ℕ, suc, ◌+◌, ◌<◌, ◌≤◌, List, ◌++◌, length, sym, ap, subst, arith, length-append}
use Rattle.std.specs.List.{All, Contains}
use Rattle.std.proofs.lemmas.List.{length-map}
use Rattle.std.proofs.lemmas.List.Elements.{All-nil, All-cons, All-append, All-contains}
use Rattle.dd_store.specs.declared.row.Var.{Var}
use Rattle.dd_store.specs.Table.{Table}
use Rattle.uvl_functions.specs.Variables.{HasVariables}
use Rattle.uvl_model.specs.declared.rows.FeatureNo.{FeatureNo}
use Rattle.uvl_model.specs.declared.rows.GroupRow.{GroupRow}
use Rattle.uvl_model.specs.Rows.{Rows}
use Rattle.uvl_model.specs.Sound.{IsSound}
use Rattle.uvl_model.specs.Spelling.{numbered, size_of, size_of_members, group_rows, group_rows_of_groups, group_rows_of_members, member_numbers}
use Rattle.uvl_model.proofs.Families.{spelled_names}
use Rattle.uvl_semantics.specs.Tree.{Tree, Groups, Members, feature, no_groups, group, no_members, member, names_of, names_of_groups, names_of_members}
use Rattle.uvl_compile.specs.Members.{IsRisingFrom, IsAmong}

-- a tree has its root
has_root : (tree : Tree) → 0 < size_of tree
has_root (feature head below) = omega arith

-- the members' numbers rise
rising : (first n : ℕ) (members : Members) → first ≤ n → IsRisingFrom first (member_numbers n members)
rising first n no_members less = tt
rising first n (member tree others) less = (less, rising (suc n) (n + size_of tree) others (let some = has_root tree in omega arith))

-- and are those of features of their trees
members-within : (k n : ℕ) (members : Members) → n + size_of_members members ≤ k → All (λ (f : FeatureNo). f.0 < k) (member_numbers n members)
members-within k n no_members less = All-nil (λ (f : FeatureNo). f.0 < k)
members-within k n (member tree others) less =
    let size = length-append (names_of tree) (names_of_members others) in
    let some = has_root tree in
    All-cons (λ (f : FeatureNo). f.0 < k) (numbered n) (member_numbers (n + size_of tree) others) (omega arith)
    (members-within k (n + size_of tree) others (omega arith))

mutual
  tree-among : (k n : ℕ) (tree : Tree) → n + size_of tree ≤ k → All (IsAmong k) (group_rows n tree)
  tree-among k n (feature head below) less = groups-among k (numbered n) (n + 1) below (omega arith) (omega arith)

  groups-among : (k : ℕ) (parent : FeatureNo) (n : ℕ) (groups : Groups) → parent.0 < k → n + length (names_of_groups groups) ≤ k
      → All (IsAmong k) (group_rows_of_groups parent n groups)
  groups-among k parent n no_groups there less = All-nil (IsAmong k)
  groups-among k parent n (group lo hi members others) there less =
      let size = length-append (names_of_members members) (names_of_groups others) in
      All-cons (IsAmong k) (record { parent = parent; lo = lo; hi = hi; members = member_numbers n members })
      (group_rows_of_members n members ++ group_rows_of_groups parent (n + size_of_members members) others)
      (record { parent = there; members = members-within k n members (omega arith); rising = rising 0 n members (omega arith) })
      (All-append (IsAmong k) (group_rows_of_members n members) (group_rows_of_groups parent (n + size_of_members members) others)
      (members-among k n members (omega arith)) (groups-among k parent (n + size_of_members members) others there (omega arith)))

  members-among : (k n : ℕ) (members : Members) → n + size_of_members members ≤ k → All (IsAmong k) (group_rows_of_members n members)
  members-among k n no_members less = All-nil (IsAmong k)
  members-among k n (member tree others) less =
      let size = length-append (names_of tree) (names_of_members others) in
      All-append (IsAmong k) (group_rows n tree) (group_rows_of_members (n + size_of tree) others)
      (tree-among k n tree (omega arith)) (members-among k (n + size_of tree) others (omega arith))

-- the groups of sound rows
pub group-among : (rows : Rows) → IsSound rows → (row : GroupRow) → Contains rows.groups row → IsAmong (length rows.features) row
group-among rows sound row has =
    let size = ap length (spelled_names sound.tree rows sound.spelled) in
    let names = length-map rows.features (λ row. row.name) in
    All-contains (IsAmong (length rows.features)) rows.groups row
    (subst (λ (gs : List GroupRow). All (IsAmong (length rows.features)) gs) (sym sound.spelled.groups)
    (tree-among (length rows.features) 0 sound.tree (omega arith)))
    has

-- and so among as many as there are variables
pub row-among : (t : Table) (rows : Rows) (vars : List Var) (row : GroupRow) → HasVariables t rows vars → IsSound rows → Contains rows.groups row → IsAmong (length vars) row
row-among t rows vars row has sound there = subst (λ (n : ℕ). IsAmong n row) (sym has.count) (group-among rows sound row there)
