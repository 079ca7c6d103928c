-- What is met with the names is why there is no model.
use Rattle.std.proofs.Common.{List, subst, sym, ap, ◌∙◌}
use Rattle.uvl_imports.specs.declared.file_set.Loaded.{Loaded}
use Rattle.uvl_imports.specs.Sets.{IsWhole}
use Rattle.uvl_scope.specs.Faults.{HasNoFault, scopes_of}
use Rattle.uvl_scope.specs.Trees.{AreScopesOf}
use Rattle.uvl_resolve.proofs.resolving.resolve_with_numbers.Goals as goal

pub model_of-requires : goal.model_of-requires
model_of-requires c =
    let files = sym c.as_slice.ensures in
    record {
      whole = subst IsWhole files c.requires;
      no_fault = subst HasNoFault files c.in_ok-scopes.ensures.fine;
      scopes = c.as_slice-2.ensures ∙ c.in_ok-scopes.ensures.scopes ∙ ap scopes_of files;
      trees = subst (λ (fs : List Loaded). AreScopesOf fs c.as_slice-2.result.now) files
          (subst (AreScopesOf c.args.files.now.files) (sym c.as_slice-2.ensures) c.in_ok-scopes.ensures.trees);
    }
