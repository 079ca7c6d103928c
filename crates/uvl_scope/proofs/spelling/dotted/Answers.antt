-- Behind an empty text.
use Rattle.std.proofs.Common.{◌∙◌, string_bytes}
use Rattle.uvl_placing.specs.Names.{dotted}
use Rattle.uvl_scope.proofs.Dotting.{behind_nothing}
use Rattle.uvl_scope.proofs.spelling.dotted.Goals as goal

pub returns : goal.returns
returns c = c.in_ok-push_dotted.ensures.pushed ∙ behind_nothing (string_bytes c.new-text.result) (dotted c.args.names.now) c.new-text.ensures.bytes
