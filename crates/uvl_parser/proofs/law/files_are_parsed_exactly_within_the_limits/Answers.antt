use Rattle.uvl_parser.proofs.Within.{parsed_within, limits_kept}
use Rattle.uvl_parser.proofs.law.files_are_parsed_exactly_within_the_limits.Goals as goal

pub returns-clause-parsed : goal.returns-clause-parsed
returns-clause-parsed c tokens file spelled limits none = parsed_within tokens file spelled limits none

pub returns-clause-kept : goal.returns-clause-kept
returns-clause-kept c tokens file parsed = limits_kept tokens file parsed
