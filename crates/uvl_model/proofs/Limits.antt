-- How many features sound rows have.
use Rattle.std.proofs.Common.{◌≡◌, ◌<◌, ◌≤◌, ℕ, length, sym, ap, ◌∙◌, subst, arith}
use Rattle.std.proofs.lemmas.List.{length-map}
use Rattle.uvl_base.specs.Limits.{most_features}
use Rattle.uvl_model.specs.Rows.{Rows}
use Rattle.uvl_model.specs.Sound.{IsSound}
use Rattle.uvl_model.specs.Spelling.{size_of}
use Rattle.uvl_semantics.specs.Tree.{Tree, feature}
use Rattle.uvl_model.proofs.NamesSpelled.{spelled_names}

-- as many as the tree
size_is : (rows : Rows) (sound : IsSound rows) → size_of sound.tree ≡ length rows.features
size_is rows sound = ap length (sym (spelled_names sound.tree rows sound.spelled)) ∙ length-map rows.features (λ row. row.name)

-- a tree has its root
has_root : (tree : Tree) → 0 < size_of tree
has_root (feature head below) = omega arith

pub features-some : (rows : Rows) → IsSound rows → 0 < length rows.features
features-some rows sound = subst (λ (n : ℕ). 0 < n) (size_is rows sound) (has_root sound.tree)

pub features-few : (rows : Rows) → IsSound rows → length rows.features ≤ most_features
features-few rows sound = subst (λ (n : ℕ). n ≤ most_features) (size_is rows sound) sound.within.few
