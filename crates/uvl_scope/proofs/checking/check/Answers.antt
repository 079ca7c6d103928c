-- The scopes of files without fault are of their trees.
use Rattle.std.proofs.Common.{sym, ap, ◌∙◌, subst}
use Rattle.uvl_scope.specs.Faults.{HasNoFault, scopes_of}
use Rattle.uvl_scope.specs.Trees.{AreScopesOf}
use Rattle.uvl_scope.proofs.ScopesFit.{scopes_fit}
use Rattle.uvl_scope.proofs.checking.check.Goals as goal

pub returns-clause-trees : goal.returns-clause-trees
returns-clause-trees c =
    let files = c.args.files.now.files in
    let fine : HasNoFault files = subst HasNoFault c.as_slice.ensures c.in_ok-scopes.ensures.fine in
    subst (AreScopesOf files) (sym (c.in_ok-scopes.ensures.scopes ∙ ap scopes_of c.as_slice.ensures)) (scopes_fit files fine)
