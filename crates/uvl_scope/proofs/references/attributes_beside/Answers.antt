-- The text is the names that dots join.
use Rattle.std.proofs.Common.{ℕ, List, ap, ◌∙◌, string_bytes}
use Rattle.std.specs.Prelude.{chars}
use Rattle.uvl_scope.specs.Firsts.{beside}
use Rattle.uvl_scope.proofs.Dotting.{behind_nothing}
use Rattle.uvl_scope.proofs.references.attributes_beside.Goals as goal

pub returns : goal.returns
returns c =
    c.attributes_called.ensures
    ∙ ap (λ (name : List ℕ). beside name c.args.names.now c.args.attributes.now)
    (ap chars c.as_str.ensures.value ∙ c.in_ok-push_dotted.ensures.pushed
    ∙ behind_nothing (string_bytes c.clear.new.self) _ c.clear.ensures.bytes)
