-- The folder is cut at the last slash.
use Rattle.std.proofs.Common.{◌++◌, ◌∷◌, [], List, ℕ, ap, ◌∙◌, string_bytes}
use Rattle.uvl_imports.proofs.Folders.{folder_at, folder_without}
use Rattle.uvl_imports.proofs.import_line.folder_of.Goals as goal
use Rattle.uvl_imports.proofs.import_line.folder_of.Goals.{in-Some+in_ok-push_str+in_ok-push_str-2, in_default}

pub returns : goal.returns
returns c =
    elim c.match-rsplit_once.branch [
      | in-Some+in_ok-push_str+in_ok-push_str-2 w ↦
          let x = w.in-Some.ensures.cases in
          ap string_bytes w.folder-is ∙ w.in_ok-push_str-2.ensures.bytes
          ∙ ap (λ (t : List ℕ). t ++ 47 ∷ []) (w.in_ok-push_str.ensures.bytes ∙ ap (λ (t : List ℕ). t ++ w.in-Some.outer.now) c.new-folder.ensures.bytes ∙ x.3)
          ∙ folder_at c.args.path.now x.0 x.1 x.2.0 x.2.1
      | in_default w ↦ ap string_bytes w.folder-is ∙ c.new-folder.ensures.bytes ∙ folder_without c.args.path.now w.in_default.ensures.cases
    ]
