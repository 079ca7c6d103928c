-- Names are placed one by one.
use Rattle.std.proofs.Common.{◌≡◌, ◌+◌, ◌≤◌, List, ℕ, [], ◌∷◌, ◌++◌, take, drop, length, map, sym, ap, ◌∙◌, subst, arith}
use Rattle.std.proofs.lemmas.List.{length-map, take_all, take-append-drop}
use Rattle.std.proofs.lemmas.Result.{err_from_is_err_and}
use Rattle.dd_store.specs.declared.row.Var.{Var}
use Rattle.uvl_model.specs.declared.rows.FeatureRow.{FeatureRow}
use Rattle.uvl_model.specs.Names.{feature_names}
use Rattle.uvl_model.specs.Sound.{AreDistinct}
use Rattle.uvl_functions.specs.Placing.{with_name, with_names, AreNamed, HasSomeOf}
use Rattle.uvl_functions.specs.Variables.{HasVariables}
use Rattle.uvl_functions.proofs.Placed.{with_names-push, no-longer, take-names, room, named-with, named-push, has-variables, adds-then}
use Rattle.uvl_functions.proofs.naming.Names.place.Goals as goal

pub overflow_cast-result : goal.overflow_cast-result
overflow_cast-result c =
    let few = no-longer c.args.self.now (map (λ (row : FeatureRow). row.name) c.features-features.result.now) in
    let count = length-map c.features-features.result.now (λ (row : FeatureRow). row.name) in
    let names = c.needed-needed.ensures in
    let many = c.requires.as_many in
    let limit = c.variables.ensures.sound.few_variables in
    omega (arith, c.features-features.ensures.few)

-- the names up to a feature's
module _ (c : goal.After-place_name-arg-in-loop-row-1) where
  more : take (c.loop-row.row-index + 1) (feature_names c.args.model.now) ≡ take c.loop-row.row-index (feature_names c.args.model.now) ++ c.row-item.result.name ∷ []
  more = take-names c.features-features.result.now c.args.model.now.features c.features-features.ensures.rows c.loop-row.row-index c.row-item.result c.row-item.is c.loop-row-test.true

pub place_name-requires-clause-room : goal.place_name-requires-clause-room
place_name-requires-clause-room c =
    let k = c.loop-row.row-index in
    let one = room c.args.self.now (feature_names c.args.model.now) k c.row-item.result.name (more c) in
    let same = ap (λ (names : List (List ℕ)). length (with_name names c.row-item.result.name)) c.loop-row.invariant.names in
    let needed = c.needed-needed.ensures in
    let shown = ap (λ (rows : List FeatureRow). length (with_names c.args.self.now (map (λ (row : FeatureRow). row.name) rows))) c.features-features.ensures.rows in
    let limit = c.if-needed.false in
    omega arith

-- the first names alone are there
some-of : (old new names : List (List ℕ)) (k : ℕ) → new ≡ with_names old (take k names) → HasSomeOf old new names
some-of old new names k is = record { front = take k names; rest = drop k names; parts = sym (take-append-drop k names); names = is }

pub returns-in_err-var-clause-adds : goal.returns-in_err-var-clause-adds
returns-in_err-var-clause-adds c = adds-then c.args.kernel.now c.loop-row.kernel c.place_name.new.kernel c.loop-row.invariant.adds c.in_err-var.ensures.adds

pub returns-in_err-var-clause-refused : goal.returns-in_err-var-clause-refused
returns-in_err-var-clause-refused c =
    let p = err_from_is_err_and c.from_residual.result c.from_residual.ensures.1 in
    rw (p.1, p.2)
    (some-of c.args.self.now c.place_name.new.self (feature_names c.args.model.now) c.loop-row.row-index (c.in_err-var.ensures.refused ∙ c.loop-row.invariant.names))

-- one name more is there
module _ (old names : List (List ℕ)) (k : ℕ) (name : List ℕ) (self new : List (List ℕ)) (step : take (k + 1) names ≡ take k names ++ name ∷ [])
    (is : self ≡ with_names old (take k names)) (after : new ≡ with_name self name) where
  names-after : new ≡ with_names old (take (k + 1) names)
  names-after =
      after ∙ ap (λ (ns : List (List ℕ)). with_name ns name) is ∙ sym (with_names-push old (take k names) name) ∙ ap (with_names old) (sym step)

pub returns-in_err-push-clause-adds : goal.returns-in_err-push-clause-adds
returns-in_err-push-clause-adds c = adds-then c.args.kernel.now c.loop-row.kernel c.place_name.new.kernel c.loop-row.invariant.adds c.in_ok-var.ensures.adds

pub returns-in_err-push-clause-refused : goal.returns-in_err-push-clause-refused
returns-in_err-push-clause-refused c =
    let p = err_from_is_err_and c.from_residual-in_err-push.result c.from_residual-in_err-push.ensures.1 in
    let k = c.loop-row.row-index in
    let names = feature_names c.args.model.now in
    let step = take-names c.features-features.result.now c.args.model.now.features c.features-features.ensures.rows k c.row-item.result c.row-item.is c.loop-row-test.true in
    rw (p.1, p.2)
    (some-of c.args.self.now c.place_name.new.self names (k + 1)
    (names-after c.args.self.now names k c.row-item.result.name c.loop-row.self c.place_name.new.self step c.loop-row.invariant.names c.in_ok-var.ensures.names))

pub loop-row-preserved : goal.loop-row-preserved
loop-row-preserved c =
    let k = c.loop-row.row-index in
    let names = feature_names c.args.model.now in
    let name = c.row-item.result.name in
    let step = take-names c.features-features.result.now c.args.model.now.features c.features-features.ensures.rows k c.row-item.result c.row-item.is c.loop-row-test.true in
    let grown = subst (λ (ns : List (List ℕ)). AreNamed ns c.loop-row.vars.items (take k names)) (sym c.in_ok-var.ensures.names)
    (named-with c.loop-row.self name c.loop-row.vars.items (take k names) c.loop-row.invariant.named) in
    let pushed = named-push c.place_name.new.self c.loop-row.vars.items (take k names) c.in_ok-var.var name grown c.in_ok-var.ensures.named in
    record {
      names = names-after c.args.self.now names k name c.loop-row.self c.place_name.new.self step c.loop-row.invariant.names c.in_ok-var.ensures.names;
      named = subst (λ (vs : List Var). AreNamed c.place_name.new.self vs (take (k + 1) names)) (sym c.in_ok-push.ensures.items)
          (subst (λ (ns : List (List ℕ)). AreNamed c.place_name.new.self (c.loop-row.vars.items ++ c.in_ok-var.var ∷ []) ns) (sym step) pushed);
      as_many = c.in_ok-var.ensures.as_many;
      adds = adds-then c.args.kernel.now c.loop-row.kernel c.place_name.new.kernel c.loop-row.invariant.adds c.in_ok-var.ensures.adds;
    }

pub returns-clause-variables : goal.returns-clause-variables
returns-clause-variables c =
    let rows = c.args.model.now in
    let sound = c.features-features.ensures.sound in
    let distinct = subst AreDistinct (sym (c.rows_give_names.ensures sound.tree rows sound.spelled)) sound.within.distinct in
    let count = length-map rows.features (λ (row : FeatureRow). row.name) in
    let shown = ap length c.features-features.ensures.rows in
    let all : length (feature_names rows) ≤ c.loop-row.row-index = omega (arith, c.loop-row-test.false) in
    let named = subst (λ (ns : List (List ℕ)). AreNamed c.loop-row.self c.loop-row.vars.items ns) (take_all c.loop-row.row-index (feature_names rows) all) c.loop-row.invariant.named in
    subst (λ (vs : List Var). HasVariables c.loop-row.kernel rows vs) (sym c.new.ensures)
    (has-variables c.loop-row.kernel rows c.loop-row.self c.loop-row.vars.items c.loop-row.invariant.adds.sound c.loop-row.invariant.as_many named distinct)
