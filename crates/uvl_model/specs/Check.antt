-- What a mark for each feature says of the groups and the rules: the plain check reads rows alone.
use Rattle.std.specs.Prelude.{ℕ, ◌==◌, Bool, false, not, ◌&&◌, ◌||◌, nat_le, List, if◌then◌else◌, slice_get, unwrap_or, count_by}
use Rattle.std.specs.Bool.{beq}
use Rattle.std.specs.List.{list_all}
use Rattle.uvl_model.specs.declared.rows.FeatureNo.{FeatureNo}
use Rattle.uvl_model.specs.declared.rows.GroupRow.{GroupRow}
use Rattle.uvl_model.specs.declared.rule.Rule.{Rule}
use Rattle.uvl_model.specs.declared.rule.Rule.TheOpen.{Rule-F}
use Rattle.uvl_model.specs.declared.rule.Rule.TheFolds.{fold-Rule}
use Rattle.uvl_model.specs.Rows.{Rows}
use Rattle.uvl_model.specs.Spelling.{numbered}

-- whether a feature is marked, as none is beyond the end of the marks
abbrev pub is_marked : List Bool → FeatureNo → Bool
is_marked marks f = unwrap_or (slice_get marks f.0) false

-- how many of the features are marked
abbrev pub marked_count : List Bool → List FeatureNo → ℕ
marked_count marks features = count_by (is_marked marks) features

-- of a group's members from lo to hi are marked where its parent is, and none is elsewhere
abbrev pub group_holds : List Bool → GroupRow → Bool
group_holds marks row =
    if is_marked marks row.parent
    then nat_le row.lo (marked_count marks row.members) && nat_le (marked_count marks row.members) row.hi
    else marked_count marks row.members == 0

-- the root is marked, and each group holds
abbrev pub groups_hold : Rows → List Bool → Bool
groups_hold rows marks = is_marked marks (numbered 0) && list_all (group_holds marks) rows.groups

-- a node of a rule without comparisons, where a truth stands for each operand
abbrev pub truth_of : List Bool → Rule-F Bool → Bool
truth_of marks (Rule-F.Feature f) = is_marked marks f
truth_of marks (Rule-F.Not operand) = not operand
truth_of marks (Rule-F.And left right) = left && right
truth_of marks (Rule-F.Or left right) = left || right
truth_of marks (Rule-F.Implies left right) = not left || right
truth_of marks (Rule-F.Iff left right) = beq left right
truth_of marks (Rule-F.Compare how left right) = false

-- whether a rule without comparisons holds under the marks; one with a comparison counts as false there
abbrev pub rule_holds : List Bool → Rule → Bool
rule_holds marks = fold-Rule Bool (truth_of marks)

-- the root is marked, and each group and each rule holds
abbrev pub rows_hold : Rows → List Bool → Bool
rows_hold rows marks = groups_hold rows marks && list_all (rule_holds marks) rows.rules
