-- The main file is the last, and no rows are there before.
use Rattle.std.proofs.Common.{◌≡◌, ◌++◌, length, List, Option, None, sym, ap, ◌∙◌, refl, subst, arith}
use Rattle.std.specs.Prelude.{unwrap_or}
use Rattle.std.proofs.lemmas.Str.{chars-nil}
use Rattle.uvl_model.specs.declared.rows.FeatureRow.{FeatureRow}
use Rattle.uvl_model.specs.declared.rows.GroupRow.{GroupRow}
use Rattle.uvl_model.specs.Spelling.{feature_rows, group_rows}
use Rattle.uvl_resolve.specs.Under.{MayStandInName}
use Rattle.uvl_resolve.specs.steps.Walk.{qualifiers_of, said_by_file}
use Rattle.uvl_resolve.proofs.Main.{main_says, none_says}
use Rattle.uvl_semantics.specs.Tree.{Tree}
use Rattle.uvl_resolve.proofs.features.rows_of.Goals as goal

pub add_file-requires : goal.add_file-requires
add_file-requires g c =
    let front = c.in-Some.front.now in
    let loaded = c.in-Some.loaded.now in
    let says = ap (said_by_file front loaded) chars-nil
    ∙ main_says c.files_are_read_in_order.ensures.in_front c.args.files.now front loaded g.tree c.in-Some.ensures.cases.0 c.requires.1.0 in
    record {
      known = c.requires.0 ∙ ap qualifiers_of c.in-Some.ensures.cases.0;
      name = subst MayStandInName (sym chars-nil) refl;
      fits = (g.tree, says, omega (arith, ap length c.new-rows.ensures.features, c.requires.1.1));
    }

pub unreachable-requires : goal.unreachable-requires
unreachable-requires g c = none_says c.args.files.now g.tree c.in-None.ensures.cases c.requires.1.0

pub returns-clause-features : goal.returns-clause-features
returns-clause-features g c =
    let front = c.in-Some.front.now in
    let loaded = c.in-Some.loaded.now in
    let says = ap (said_by_file front loaded) chars-nil
    ∙ main_says c.files_are_read_in_order.ensures.in_front c.args.files.now front loaded g.tree c.in-Some.ensures.cases.0 c.requires.1.0 in
    let h = c.in_ok-add_file-in-Some.ensures.added in
    let same : h.tree ≡ g.tree = ap (λ (o : Option Tree). unwrap_or o g.tree) (sym h.says ∙ says) in
    h.features ∙ ap (λ (rows : List FeatureRow). rows ++ feature_rows None (length rows) h.tree) c.new-rows.ensures.features
    ∙ ap (feature_rows None 0) same

pub returns-clause-groups : goal.returns-clause-groups
returns-clause-groups g c =
    let front = c.in-Some.front.now in
    let loaded = c.in-Some.loaded.now in
    let says = ap (said_by_file front loaded) chars-nil
    ∙ main_says c.files_are_read_in_order.ensures.in_front c.args.files.now front loaded g.tree c.in-Some.ensures.cases.0 c.requires.1.0 in
    let h = c.in_ok-add_file-in-Some.ensures.added in
    let same : h.tree ≡ g.tree = ap (λ (o : Option Tree). unwrap_or o g.tree) (sym h.says ∙ says) in
    h.groups ∙ ap (λ (rows : List GroupRow). rows ++ group_rows (length c.new-rows.result.features) h.tree) c.new-rows.ensures.groups
    ∙ ap (λ (rows : List FeatureRow). group_rows (length rows) h.tree) c.new-rows.ensures.features
    ∙ ap (group_rows 0) same
