-- The constraints of a file with those of the files that it places. This project's own.
use Rattle.std.specs.Prelude.{ℕ, List, [], ◌∷◌, Option, map, slice_get}
use Rattle.std.specs.List.{flat_map}
use Rattle.std.specs.Option.{option_map, option_and_then}
use Rattle.uvl_ast.specs.declared.expression.Expr.{Expr}
use Rattle.uvl_ast.specs.declared.feature.Feature.{Feature}
use Rattle.uvl_ast.specs.declared.feature.Feature.TheOpen.{Feature-F, Group-F}
use Rattle.uvl_ast.specs.declared.feature.Feature.TheFolds.{fold-Feature, fold-Group}
use Rattle.uvl_ast.specs.declared.feature.Group.{Group}
use Rattle.uvl_semantics.specs.Constraint.{Constraint}
use Rattle.uvl_semantics.specs.Prefix.{prefixed_constraint}
use Rattle.uvl_placing.specs.Meaning.{constraint_of}
use Rattle.uvl_placing.specs.Names.{dotted, front_of, target_called}
use Rattle.uvl_placing.specs.Options.{all_of, joined, known}
use Rattle.uvl_placing.specs.Trees.{Imports}

-- the names of a reference, where it places a tree, in front of those below it otherwise
abbrev pub placing_names : List (List ℕ) → List (List (List ℕ)) → List (List (List ℕ))
placing_names [] below = []
placing_names (name ∷ []) below = below
placing_names (name ∷ next ∷ names) below = (name ∷ next ∷ names) ∷ []

-- the placing lines of a feature, where those of each group are known
abbrev pub placings_of_feature : Feature-F (List (List (List ℕ))) (List (List (List ℕ))) → List (List (List ℕ))
placings_of_feature line = placing_names line.name.parts (flat_map (λ placings. placings) line.groups)

-- the placing lines of a group are those of its members
abbrev pub placings_of_group : Group-F (List (List (List ℕ))) (List (List (List ℕ))) → List (List (List ℕ))
placings_of_group written = flat_map (λ placings. placings) written.members

-- the references of the placing lines from one line on downwards, in document order
abbrev pub placings_from : Feature → List (List (List ℕ))
placings_from =
    fold-Feature (List (List (List ℕ))) (List (List (List ℕ))) placings_of_feature placings_of_group

-- those below a group
abbrev pub placings_below : Group → List (List (List ℕ))
placings_below = fold-Group (List (List (List ℕ))) (List (List (List ℕ))) placings_of_feature placings_of_group

-- the constraints of rules in a file whose root has this name, where each rule is a constraint
abbrev pub constraints_of_rules : List ℕ → List Expr → Option (List Constraint)
constraints_of_rules root rules = all_of (map (constraint_of root) rules)

-- what a placing line adds: the constraints of the file that it places, under its qualifier
abbrev pub constraints_placed :
    Imports → List (Option (List Constraint)) → List (List ℕ) → Option (List Constraint)
constraints_placed imports constraints names =
    option_map (map (prefixed_constraint (dotted (front_of names))))
    (option_and_then (λ position. known (slice_get constraints position))
    (target_called (dotted (front_of names)) imports.lines imports.targets))

-- what the placing lines add, one after another
abbrev pub constraints_of_placings :
    Imports → List (Option (List Constraint)) → List (List (List ℕ)) → Option (List Constraint)
constraints_of_placings imports constraints placings = joined (map (constraints_placed imports constraints) placings)
