-- What stands below a line is less deep.
use Rattle.std.proofs.Common.{◌≡◌, ℕ, zero, suc, ◌+◌, ◌<◌, ◌≤◌, List, [], ◌∷◌, map, length, get_or, ap, arith}
use Rattle.uvl_ast.specs.Depth.{depth_of, depth_of_group, feature_depth, greatest, group_depth}
use Rattle.uvl_ast.specs.declared.feature.Feature.{Feature, out-Feature}
use Rattle.uvl_ast.specs.declared.feature.Feature.TheFolds.{fold_out-Feature, fold_out-Group}
use Rattle.uvl_ast.specs.declared.feature.Group.{Group, out-Group}

-- how deep groups are, and members
abbrev pub groups_depth : List Group → ℕ
groups_depth groups = greatest (map depth_of_group groups)

abbrev pub members_depth : List Feature → ℕ
members_depth members = greatest (map depth_of members)

pub depth_at : (line : Feature) → depth_of line ≡ 1 + groups_depth (out-Feature line).groups
depth_at line = fold_out-Feature ℕ ℕ feature_depth group_depth line

pub depth_in : (written : Group) → depth_of_group written ≡ members_depth (out-Group written).members
depth_in written = fold_out-Group ℕ ℕ feature_depth group_depth written

greatest_at : {A : Type 0} (f : A → ℕ) (xs : List A) (i : ℕ) (x : A) → i < length xs → x ≡ get_or xs i x → f x ≤ greatest (map f xs)
greatest_at f [] i x lt is = absurd (omega (arith, lt))
greatest_at f (y ∷ xs) zero x lt is = let same = ap f is in omega (arith, same)
greatest_at f (y ∷ xs) (suc i) x lt is = let rest = greatest_at f xs i x (omega (arith, lt)) is in omega (arith, rest)

pub group_within : (groups : List Group) (i : ℕ) (item : Group) → i < length groups → item ≡ get_or groups i item → depth_of_group item ≤ groups_depth groups
group_within groups i item lt is = greatest_at depth_of_group groups i item lt is

pub member_within : (members : List Feature) (i : ℕ) (item : Feature) → i < length members → item ≡ get_or members i item → depth_of item ≤ members_depth members
member_within members i item lt is = greatest_at depth_of members i item lt is
