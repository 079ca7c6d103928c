-- The key with the number.
use Rattle.std.proofs.Common.{ℕ, List, sym, ap, ◌∙◌, slice_get, Some}
use Rattle.std.specs.Prelude.{chars}
use Rattle.uvl_scope.proofs.NameKeys.{name_at}
use Rattle.uvl_scope.proofs.names.NameIndex.name.Goals as goal

pub returns-in-Some : goal.returns-in-Some
returns-in-Some c =
    ap (λ (names : List (List ℕ)). slice_get names c.args.number) (sym c.self.view_is)
    ∙ name_at c.self.inside.names.keys c.args.number c.in-Some.name.now (sym c.in-Some.ensures.key)
    ∙ ap (λ (bytes : List ℕ). Some (chars bytes)) (sym c.as_str.ensures.value)
