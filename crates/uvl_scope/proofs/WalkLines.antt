-- The lines of features and of groups, line by line.
use Rattle.std.proofs.Common.{◌≡◌, ℕ, ◌+◌, List, ◌∷◌, map, ap, ◌∙◌}
use Rattle.std.specs.List.{flat_map}
use Rattle.std.proofs.lemmas.List.{length-map}
use Rattle.uvl_ast.specs.declared.feature.Feature.{Feature, out-Feature}
use Rattle.uvl_ast.specs.declared.feature.Feature.TheFolds.{fold_out-Feature, fold_out-Group}
use Rattle.uvl_ast.specs.declared.feature.Group.{Group, out-Group}
use Rattle.uvl_scope.specs.Lines.{Line, of_feature, of_group, line_of, lines_of_feature, lines_of_group, lines_from, lines_below}

abbrev pub lines_of_groups : ℕ → List Group → List Line
lines_of_groups depth groups = flat_map (λ (lines : ℕ → List Line). lines depth) (map lines_below groups)

abbrev pub lines_of_members : ℕ → List Feature → List Line
lines_of_members depth members = flat_map (λ (lines : ℕ → List Line). lines depth) (map lines_from members)

abbrev pub group_line : Group → Line
group_line written = of_group (record { kind = (out-Group written).kind; place = (out-Group written).place })

-- a line with so many groups
abbrev counted : Feature → ℕ → ℕ → Line
counted line depth count = of_feature (record {
  reference = (out-Feature line).name;
  attributes = (out-Feature line).attributes;
  rules = (out-Feature line).rules;
  groups = count;
  depth = depth;
})

pub lines_at : (line : Feature) (depth : ℕ)
    → lines_from line depth ≡ of_feature (line_of (out-Feature line) depth) ∷ lines_of_groups depth (out-Feature line).groups
lines_at line depth =
    ap (λ (lines : ℕ → List Line). lines depth) (fold_out-Feature (ℕ → List Line) (ℕ → List Line) lines_of_feature lines_of_group line)
    ∙ ap (λ (count : ℕ). counted line depth count ∷ lines_of_groups depth (out-Feature line).groups) (length-map (out-Feature line).groups lines_below)

pub lines_in : (written : Group) (depth : ℕ) → lines_below written depth ≡ group_line written ∷ lines_of_members (depth + 1) (out-Group written).members
lines_in written depth =
    ap (λ (lines : ℕ → List Line). lines depth) (fold_out-Group (ℕ → List Line) (ℕ → List Line) lines_of_feature lines_of_group written)
