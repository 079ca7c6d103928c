-- What an analysis found, as its reply says it.
use Rattle.std.proofs.Common.{◌≡◌, ℕ, Bool, true, false, List, map, Result, Ok, Err, OnOk, refl, sym, ap, ◌∙◌}
use Rattle.std.specs.Prelude.{if◌then◌else◌, codes}
use Rattle.std.specs.Global.{Vec}
use Rattle.uvl_analyses.specs.declared.refusal.AnalysisRefusal.{AnalysisRefusal}
use Rattle.uvl_analyses.specs.declared.refusal.AnalysisRefusal.TheVariants.{VoidModel, OutOfMemory}
use Rattle.uvl_lines.specs.Replies.{refused}
use Rattle.uvl_model.specs.declared.rows.FeatureNo.{FeatureNo}
use Rattle.uvl_model.specs.declared.rows.FeatureRow.{FeatureRow}
use Rattle.uvl_model.specs.Names.{name_of}
use Rattle.uvl_model.specs.Products.{Products}
use Rattle.uvl_model.specs.Rows.{Rows}
use Rattle.uvl_semantics.specs.Family.{is_void}
use Rattle.uvl_run.specs.NameList.{name_list}
use Rattle.uvl_run.specs.Products.{found_text}
use Rattle.uvl_run.specs.steps.Found.{Finds, Says}

text_where : (void : Bool) (refusal list : List ℕ) (value : Bool) → void ≡ value → (if value then refusal else list) ≡ (if void then refusal else list)
text_where void refusal list value is = ap (λ (b : Bool). if b then refusal else list) (sym is)

-- a model in which something is found isn't void
not_void : (rows : Rows) (names : List (List ℕ)) (features : Vec FeatureNo) → Finds rows names (Ok features) → is_void (Products rows) ≡ false
not_void rows names features finds = by (is_void (Products rows)) finds.void
  where
    by : (b : Bool) → (b ≡ true → ⊥) → b ≡ false
    by true never = absurd (never refl)
    by false never = refl

-- the text says what was found
pub text_of : (rows : Rows) (list : List FeatureRow) (names : List (List ℕ)) (found : Result (Vec FeatureNo) AnalysisRefusal) (text : List ℕ) → list ≡ rows.features → Finds rows names found
    → Says list found text → text ≡ found_text (Products rows) names
text_of rows list names (Ok features) text same finds says =
    says ∙ ap (λ (fs : List FeatureRow). name_list (map (name_of (map (λ row. row.name) fs)) features.items)) same ∙ ap name_list finds.named
    ∙ text_where (is_void (Products rows)) (refused (codes "void")) (name_list names) false (not_void rows names features finds)
text_of rows list names (Err VoidModel) text same finds says =
    says ∙ text_where (is_void (Products rows)) (refused (codes "void")) (name_list names) true (finds.only_void refl)
text_of rows list names (Err OutOfMemory) text same finds says = absurd says

-- so does an answer that is written, and the state is as before
pub answered : {S T E : Type 0} (s : S) (result : Result T E) (rows : Rows) (list : List FeatureRow) (names : List (List ℕ)) (found : Result (Vec FeatureNo) AnalysisRefusal) (text : List ℕ)
    → list ≡ rows.features → Finds rows names found → OnOk result (Says list found text) → OnOk result ((text ≡ found_text (Products rows) names) × (s ≡ s))
answered s (Ok value) rows list names found text same finds says = (text_of rows list names found text same finds says, refl)
answered s (Err fault) rows list names found text same finds says = tt
