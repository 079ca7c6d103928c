-- What a session's diagram leaves open is what the products that agree with its decisions have.
use Rattle.std.proofs.Common.{◌≡◌, ◌↔◌, ◌<◌, ℕ, Bool, true, false, List, [], ◌∷◌, length, get_or, Some, inl, inr, refl, sym, ap, ◌∙◌}
use Rattle.std.specs.Bool.{beq}
use Rattle.std.specs.Prelude.{IsTrue, slice_get}
use Rattle.std.proofs.lemmas.Bool.{and_from, and_parts, cases_Bool, false_from_ne_true, false≢true}
use Rattle.std.proofs.lemmas.List.{length-map}
use Rattle.std.proofs.lemmas.List.Elements.{All-nil, All-cons, All-head}
use Rattle.std.proofs.lemmas.Option.{same_Some, slice_get-get_or}
use Rattle.dd_store.specs.declared.row.Var.{Var}
use Rattle.dd_store.specs.Exhausted.{value_at}
use Rattle.dd_store.specs.Size.{Function}
use Rattle.dd_store.specs.Table.{Table, value_of}
use Rattle.dd_quant.specs.declared.literal.Literal.{Literal}
use Rattle.dd_quant.specs.Possible.{IsPossible}
use Rattle.uvl_functions.specs.Variables.{HasVariables, marks_under}
use Rattle.uvl_model.specs.Laws.{ProductsAreSets}
use Rattle.uvl_model.specs.Names.{feature_names, chosen_names}
use Rattle.uvl_model.specs.Products.{Products}
use Rattle.uvl_model.specs.Rows.{Rows}
use Rattle.uvl_model.specs.Sound.{IsSound}
use Rattle.uvl_semantics.specs.Family.{Family, IsTestOfSets, IsOfSets, marked, some_set}
use Rattle.uvl_semantics.proofs.NoProduct.{some_set-exactly, some_set-none}
use Rattle.uvl_analyses.specs.Compiled.{IsCompiled}
use Rattle.uvl_analyses.specs.Listed.{var_of}
use Rattle.uvl_analyses.proofs.Meaning.{has_chosen}
use Rattle.uvl_analyses.proofs.Variables.{assignment_by, marked-assignment_by}
use Rattle.uvl_decisions.specs.Decisions.{Decision as Named, agreeing, agrees_with, is_offered}
use Rattle.uvl_decisions.proofs.Agreeing.{agreeing-IsOfSets, agrees_with-IsTestOfSets}
use Rattle.uvl_session.specs.declared.decision.Decision.{Decision}
use Rattle.uvl_session.specs.Numbered.{agreeing_function, decision_of}

pub beq-true : (a b : Bool) → beq a b ≡ true → a ≡ b
beq-true true true e = refl
beq-true false false e = refl
beq-true true false e = absurd (false≢true e)
beq-true false true e = absurd (false≢true e)

pub beq-same : (a b : Bool) → a ≡ b → beq a b ≡ true
beq-same true true e = refl
beq-same false false e = refl
beq-same true false e = absurd (false≢true (sym e))
beq-same false true e = absurd (false≢true e)

-- the variable of a feature
pub variable : (vars : List Var) (k : ℕ) (v : Var) → k < length vars → slice_get vars k ≡ Some v → v ≡ get_or vars k (record { 0 = 0 })
variable vars k v within at = same_Some _ _ (sym at ∙ slice_get-get_or vars k (record { 0 = 0 }) within)

module _ (rows : Rows) (t : Table) (vars : List Var) (decisions : List Named) (h : ℕ) (variables : HasVariables t rows vars) (sets : ProductsAreSets)
    (value : value_at t h ≡ agreeing_function vars rows decisions) where
  abbrev chosen : (ℕ → Bool) → List (List ℕ)
  chosen a = chosen_names rows (marks_under vars a)

  abbrev family : Family
  family = agreeing (Products rows) decisions

  is-set : IsOfSets family
  is-set = agreeing-IsOfSets (Products rows) decisions (sets rows)

  chosen_by : (marks : List Bool) → chosen (assignment_by vars marks) ≡ marked (feature_names rows) marks
  chosen_by marks =
      marked-assignment_by (feature_names rows) vars marks (variables.count ∙ sym (length-map rows.features (λ row. row.name))) variables.distinct

  is : (a : ℕ → Bool) → value_of t h a ≡ family.contains (chosen a)
  is a = ap (λ (f : Function). f a) value

  -- a test of sets is answered by the assignments that make the value true
  pub answered : (test : List (List ℕ) → Bool) (answer : Bool) → IsTestOfSets test
      → (answer ≡ true → (a : ℕ → Bool) × (value_of t h a ≡ true) × (test (chosen a) ≡ true))
      → ((a : ℕ → Bool) → value_of t h a ≡ true → test (chosen a) ≡ true → answer ≡ true)
      → some_set family test ≡ answer
  answered test answer alike some any = by answer some any
    where
      by : (b : Bool) → (b ≡ true → (a : ℕ → Bool) × (value_of t h a ≡ true) × (test (chosen a) ≡ true))
          → ((a : ℕ → Bool) → value_of t h a ≡ true → test (chosen a) ≡ true → b ≡ true) → some_set family test ≡ b
      by true some' any' =
          elim (cases_Bool (some_set family test)) [
            | inl found ↦ found
            | inr none ↦
                let w = some' refl in
                let out = (some_set-exactly family test is-set alike).0 none (chosen w.0) in
                absurd (false≢true (sym out ∙ and_from _ _ (sym (is w.0) ∙ w.1) w.2))
          ]
      by false some' any' =
          some_set-none family test (λ marks. false_from_ne_true _ (λ both.
          let parts = and_parts (family.contains (marked (feature_names rows) marks)) (test (marked (feature_names rows) marks)) both in
          let a = assignment_by vars marks in
          let here : value_of t h a ≡ true = is a ∙ ap family.contains (chosen_by marks) ∙ parts.0 in
          false≢true (any' a here (ap test (chosen_by marks) ∙ parts.1))))

  module _ (products : ℕ) (compiled : IsCompiled rows t vars products) (sound : IsSound rows) where
    -- a set that an assignment chooses agrees with a decision exactly where the variable has the value
    pub agrees-variable : (a : ℕ → Bool) (decision : Decision) → decision.feature.0 < length vars
        → agrees_with (chosen a) (decision_of rows decision) ≡ beq (a (var_of vars decision.feature)) decision.value
    agrees-variable a decision within =
        ap (λ (b : Bool). beq b decision.value) (has_chosen rows t vars products compiled sets sound a decision.feature.0 within)

    -- so a literal that is possible answers whether the value is offered
    pub offered-possible : (decision : Decision) (v : Var) (answer : Bool) → decision.feature.0 < length vars → slice_get vars decision.feature.0 ≡ Some v
        → (IsTrue answer ↔ IsPossible (value_at t h) (record { var = v; value = decision.value } ∷ []))
        → answer ≡ is_offered (Products rows) decisions (decision_of rows decision)
    offered-possible decision v answer within at tells =
        let same : v.0 ≡ var_of vars decision.feature = ap (λ (w : Var). w.0) (variable vars decision.feature.0 v within at) in
        let one : Literal = record { var = v; value = decision.value } in
        sym (answered (λ set. agrees_with set (decision_of rows decision)) answer (agrees_with-IsTestOfSets (decision_of rows decision))
        (λ holds.
        let w = tells.0 holds in
        let has_it = All-head (λ (l : Literal). w.0 l.var.0 ≡ l.value) one [] w.1 in
        (w.0, w.2, agrees-variable w.0 decision within ∙ beq-same _ _ (sym (ap w.0 same) ∙ has_it)))
        (λ a here told. tells.1 (
          a,
          All-cons (λ (l : Literal). a l.var.0 ≡ l.value) one [] (ap a same ∙ beq-true _ _ (sym (agrees-variable a decision within) ∙ told)) (All-nil (λ (l : Literal). a l.var.0 ≡ l.value)),
          here,
        )))
