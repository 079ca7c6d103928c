-- The text is the names that dots join.
use Rattle.std.proofs.Common.{ap, ◌∙◌, string_bytes}
use Rattle.std.specs.Prelude.{chars}
use Rattle.uvl_placing.specs.Names.{dotted}
use Rattle.uvl_semantics.specs.Product.{has}
use Rattle.uvl_scope.proofs.Dotting.{behind_nothing}
use Rattle.uvl_scope.proofs.references.is_known.Goals as goal

pub returns : goal.returns
returns c =
    c.has-2.ensures
    ∙ ap (has c.args.names.now)
    (ap chars c.as_str.ensures.value ∙ c.in_ok-push_dotted.ensures.pushed
    ∙ behind_nothing (string_bytes c.clear.new.self) (dotted c.as_slice-2.result.now) c.clear.ensures.bytes ∙ ap dotted c.as_slice-2.ensures)
