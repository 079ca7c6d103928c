-- What an analysis of the main model found, and the reply to it.
use Rattle.std.specs.Prelude.{◌≡◌, ℕ, true, List, map, codes, Result, Ok, Err, IfOk, IfErr, IsErrAnd}
use Rattle.std.specs.Global.{Vec}
use Rattle.uvl_analyses.specs.declared.refusal.AnalysisRefusal.{AnalysisRefusal}
use Rattle.uvl_analyses.specs.declared.refusal.AnalysisRefusal.TheVariants.{VoidModel, OutOfMemory}
use Rattle.uvl_analyses.specs.Members.{AreThere, name_in}
use Rattle.uvl_lines.specs.Replies.{refused}
use Rattle.uvl_model.specs.declared.rows.FeatureNo.{FeatureNo}
use Rattle.uvl_model.specs.declared.rows.FeatureRow.{FeatureRow}
use Rattle.uvl_model.specs.Names.{name_of}
use Rattle.uvl_model.specs.Products.{Products}
use Rattle.uvl_model.specs.Rows.{Rows}
use Rattle.uvl_run.specs.NameList.{name_list}
use Rattle.uvl_semantics.specs.Family.{is_void}

-- The features with these names, which are there; or that there is no product, exactly where there is none. Want of
-- memory has no cause.
pub record Finds (rows : Rows) (names : List (List ℕ)) (found : Result (Vec FeatureNo) AnalysisRefusal) : Type 0 where
  pub named : IfOk found (λ features. map (name_in rows) features.items ≡ names)
  pub there : IfOk found (λ features. AreThere rows features.items)
  pub void : is_void (Products rows) ≡ true → IsErrAnd found (λ refusal. refusal ≡ VoidModel)
  pub only_void : IfErr found (λ refusal. refusal ≡ VoidModel → is_void (Products rows) ≡ true)

-- the reply to what was found; where memory is wanting there is none
abbrev pub Says : List FeatureRow → Result (Vec FeatureNo) AnalysisRefusal → List ℕ → Type 0
Says rows (Ok features) text = text ≡ name_list (map (name_of (map (λ row. row.name) rows)) features.items)
Says rows (Err VoidModel) text = text ≡ refused (codes "void")
Says rows (Err OutOfMemory) text = ⊥
