-- The lines of the file, and then its rules.
use Rattle.uvl_scope.specs.steps.Walk.{brought_of}
use Rattle.uvl_scope.proofs.FileWalked.{begin, brought_met, stop_in_lines, stop_in_rules, no_fault, scope_is}
use Rattle.uvl_scope.proofs.Walked.{err_is}
use Rattle.uvl_scope.proofs.checking.checked.Goals as goal

pub returns-in_err-add_feature-clause-found : goal.returns-in_err-add_feature-clause-found
returns-in_err-add_feature-clause-found c =
    let scopes = c.args.scopes.now in
    let loaded = c.args.loaded.now in
    let root = c.in-Some.root in
    let imports = c.in_ok-imports.imports in
    let start = brought_of c.new-tally.result in
    let begun = begin scopes loaded root imports start c.as_slice.result.now c.as_slice-2.result.now c.in-Some.is c.in_ok-imports.ensures c.as_slice.ensures c.as_slice-2.ensures
    c.new-tally.ensures.nothing in
    let r = c.from_residual-in_err-add_feature in
    let e = c.in_err-add_feature.field-0.0 in
    stop_in_lines scopes loaded root imports start begun (Unit {0}) _ e r.result (err_is r.result e r.ensures.1) c.in_err-add_feature.ensures.found

pub returns-in_err-add_all_rules-clause-found : goal.returns-in_err-add_all_rules-clause-found
returns-in_err-add_all_rules-clause-found c =
    let scopes = c.args.scopes.now in
    let loaded = c.args.loaded.now in
    let root = c.in-Some.root in
    let imports = c.in_ok-imports.imports in
    let start = brought_of c.new-tally.result in
    let begun = begin scopes loaded root imports start c.as_slice.result.now c.as_slice-2.result.now c.in-Some.is c.in_ok-imports.ensures c.as_slice.ensures c.as_slice-2.ensures
    c.new-tally.ensures.nothing in
    let tally = c.add_feature.new.self in
    let r = c.from_residual-in_err-add_all_rules in
    let e = c.in_err-add_all_rules.field-0.0 in
    stop_in_rules scopes loaded root imports start begun (Unit {0}) _ tally c.as_slice-3.result.now e r.result
    (brought_met scopes loaded root imports start begun (brought_of tally) c.in_ok-add_feature.ensures.brought) c.as_slice-3.ensures c.in_ok-add_feature.ensures.found
    (err_is r.result e r.ensures.1) c.in_err-add_all_rules.ensures.found

pub returns-clause-found : goal.returns-clause-found
returns-clause-found c =
    let scopes = c.args.scopes.now in
    let loaded = c.args.loaded.now in
    let root = c.in-Some.root in
    let imports = c.in_ok-imports.imports in
    let start = brought_of c.new-tally.result in
    let begun = begin scopes loaded root imports start c.as_slice.result.now c.as_slice-2.result.now c.in-Some.is c.in_ok-imports.ensures c.as_slice.ensures c.as_slice-2.ensures
    c.new-tally.ensures.nothing in
    let tally = c.add_feature.new.self in
    no_fault scopes loaded root imports start begun tally c.as_slice-3.result.now
    (brought_met scopes loaded root imports start begun (brought_of tally) c.in_ok-add_feature.ensures.brought) c.as_slice-3.ensures c.in_ok-add_feature.ensures.found
    c.in_ok-add_all_rules.ensures.found

pub returns-clause-scope : goal.returns-clause-scope
returns-clause-scope c =
    let scopes = c.args.scopes.now in
    let loaded = c.args.loaded.now in
    let root = c.in-Some.root in
    let imports = c.in_ok-imports.imports in
    let start = brought_of c.new-tally.result in
    let begun = begin scopes loaded root imports start c.as_slice.result.now c.as_slice-2.result.now c.in-Some.is c.in_ok-imports.ensures c.as_slice.ensures c.as_slice-2.ensures
    c.new-tally.ensures.nothing in
    let tally = c.add_feature.new.self in
    scope_is scopes loaded root imports start begun tally c.add_all_rules.new.self c.as_slice-3.result.now c.into_scope.result
    (brought_met scopes loaded root imports start begun (brought_of tally) c.in_ok-add_feature.ensures.brought) c.as_slice-3.ensures
    c.in_ok-add_all_rules.ensures.adds c.into_scope.ensures.names c.into_scope.ensures.attributes c.into_scope.ensures.depth c.into_scope.ensures.rules c.into_scope.ensures.nodes
