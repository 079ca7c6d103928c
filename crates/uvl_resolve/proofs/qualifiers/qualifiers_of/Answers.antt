-- The qualifiers of each file differ.
use Rattle.std.proofs.Common.{◌≡◌, ◌++◌, ◌∷◌, [], List, ℕ, map, take, sym, ap, ◌∙◌, subst}
use Rattle.std.proofs.lemmas.List.{map-append, take_more}
use Rattle.std.proofs.lemmas.Option.{slice_get_read}
use Rattle.std.proofs.Common.{refl}
use Rattle.uvl_ast.specs.declared.file.Import.{Import}
use Rattle.uvl_imports.specs.Texts.{AreDistinct}
use Rattle.uvl_imports.specs.declared.file_set.Loaded.{Loaded}
use Rattle.uvl_placing.specs.Names.{qualifier_of}
use Rattle.uvl_resolve.specs.steps.Walk.{qualifiers_of}
use Rattle.uvl_resolve.proofs.Apart.{apart}
use Rattle.uvl_resolve.proofs.qualifiers.qualifiers_of.Goals as goal

pub qualifiers_in-requires : goal.qualifiers_in-requires
qualifiers_in-requires c =
    let files = c.args.files.now in
    let i = c.loop-loaded.loaded-index in
    let there = slice_get_read files _ i c.loaded-item.result refl c.loop-loaded-test.true c.loaded-item.is in
    subst (λ (lines : List Import). AreDistinct (map qualifier_of lines)) (sym c.as_slice.ensures)
    (apart c.loaded-item.result.file.imports (c.requires.each i c.loaded-item.result there).qualifiers)

pub loop-loaded-preserved : goal.loop-loaded-preserved
loop-loaded-preserved c =
    let files = c.args.files.now in
    let i = c.loop-loaded.loaded-index in
    let item = c.loaded-item.result in
    let mine : c.in_ok-qualifiers_in.field-0 ≡ map qualifier_of item.file.imports = c.in_ok-qualifiers_in.ensures ∙ ap (map qualifier_of) c.as_slice.ensures in
    c.in_ok-push.ensures.items
    ∙ ap (λ (qs : List (List (List ℕ))). qs ++ c.in_ok-qualifiers_in.field-0 ∷ []) c.loop-loaded.invariant
    ∙ ap (λ (q : List (List ℕ)). qualifiers_of (take i files) ++ q ∷ []) mine
    ∙ sym (ap qualifiers_of (take_more files i item c.loop-loaded-test.true ∙ ap (λ (l : Loaded). take i files ++ l ∷ []) (sym c.loaded-item.is))
    ∙ map-append (λ (loaded : Loaded). map qualifier_of loaded.file.imports) (take i files) (item ∷ []))
