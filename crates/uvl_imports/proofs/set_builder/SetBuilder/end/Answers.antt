-- The file that has ended is not among those that are loaded.
use Rattle.std.proofs.Common.{◌≡◌, ◌++◌, ◌∷◌, [], List, ℕ, sym, ap, ◌∙◌, subst, not, string_bytes, if◌then◌else◌}
use Rattle.std.proofs.lemmas.Str.{IsUtf8-string_bytes}
use Rattle.uvl_imports.specs.declared.file_set.Loaded.{Loaded}
use Rattle.uvl_imports.specs.Texts.{has}
use Rattle.uvl_imports.specs.Walking.{loaded_file}
use Rattle.uvl_imports.specs.steps.Growing.{IsSound}
use Rattle.uvl_imports.proofs.Growing.{ended_sound, way_left}
use Rattle.uvl_imports.proofs.set_builder.SetBuilder.end.Goals as goal

pub returns-clause-sound : goal.returns-clause-sound
returns-clause-sound c =
    let set = c.args.self.now in
    let path = string_bytes c.args.path in
    let same : string_bytes c.in_ok-key.key ≡ path = c.in_ok-key.ensures.cases in
    let file = loaded_file path c.args.file c.args.targets in
    let files : c.push.new.self ≡ set.files ++ file ∷ [] =
    c.in_ok-push.ensures.ok ∙ ap (λ (p : List ℕ). set.files ++ record { path = p; file = c.args.file; targets = c.args.targets } ∷ []) c.from-path.ensures in
    let known = c.in_ok-add.ensures.known ∙ ap (λ (t : List ℕ). not (has set.index t)) same in
    let added = c.in_ok-add.ensures.added ∙ ap (λ (t : List ℕ). if c.in_ok-add.field-0 then set.index ++ t ∷ [] else set.index) same in
    let inner = way_left set.way c.requires.inner.0 c.pop.new.self path c.requires.inner.1 c.pop.ensures in
    let sound = ended_sound set path (IsUtf8-string_bytes c.args.path) c.args.file c.args.targets c.pop.new.self c.requires.sound inner c.add.new.self c.in_ok-add.field-0 known added
    (record { written = c.requires.written; targets = c.requires.targets; in_front = c.requires.in_front; qualifiers = c.requires.qualifiers }) in
    subst (λ (fs : List Loaded). IsSound (record { index = c.add.new.self; files = fs; way = c.pop.new.self; bytes = set.bytes })) (sym files) sound
