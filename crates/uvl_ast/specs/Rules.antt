-- The rules of a file.
use Rattle.std.specs.Prelude.{List, [], ◌++◌, Option, Some, None}
use Rattle.std.specs.List.{All, flat_map}
use Rattle.uvl_ast.specs.declared.expression.Expr.{Expr}
use Rattle.uvl_ast.specs.declared.feature.Feature.{Feature}
use Rattle.uvl_ast.specs.declared.feature.Feature.TheOpen.{Feature-F, Group-F}
use Rattle.uvl_ast.specs.declared.feature.Feature.TheFolds.{fold-Feature, fold-Group}
use Rattle.uvl_ast.specs.declared.feature.Group.{Group}
use Rattle.uvl_ast.specs.declared.file.File.{File}

-- the rules of a feature stand in front of those of its groups
abbrev pub feature_rules : Feature-F (List Expr) (List Expr) → List Expr
feature_rules feature = feature.rules ++ flat_map (λ rules. rules) feature.groups

-- the rules of a group are those of its members
abbrev pub group_rules : Group-F (List Expr) (List Expr) → List Expr
group_rules group = flat_map (λ rules. rules) group.members

-- the rules in braces of a feature and of all below it, in document order
abbrev pub all_rules : Feature → List Expr
all_rules = fold-Feature (List Expr) (List Expr) feature_rules group_rules

-- the rules in braces of all below a group
abbrev pub all_rules_of_group : Group → List Expr
all_rules_of_group = fold-Group (List Expr) (List Expr) feature_rules group_rules

-- the rules in braces of a tree, where there is one
abbrev pub all_rules_of_root : Option Feature → List Expr
all_rules_of_root None = []
all_rules_of_root (Some root) = all_rules root

-- all rules of a file: those in braces, in document order, and then the lines of `constraints`
abbrev pub rules_of : File → List Expr
rules_of file = all_rules_of_root file.root ++ file.rules

-- something holds of every rule of a file
abbrev pub EachRule : (Expr → Type 0) → File → Type 0
EachRule Holds file = All Holds (rules_of file)
