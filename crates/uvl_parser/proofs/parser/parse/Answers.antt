-- The clauses of a caller follow from those of reading.
use Rattle.uvl_parser.proofs.Answers.{never_refused, never_read, shallow, members, nested, nodes, grouped, texts}
use Rattle.uvl_parser.proofs.parser.parse.Goals as goal

pub returns-clause-never_refused : goal.returns-clause-never_refused
returns-clause-never_refused c file parsed = never_refused c.args.tokens.now file parsed c.parse_tokens.result c.parse_tokens.ensures.fault

pub returns-clause-never_read : goal.returns-clause-never_read
returns-clause-never_read c place kind refused = never_read c.args.tokens.now place kind refused c.parse_tokens.result c.parse_tokens.ensures.file

pub returns-clause-shallow : goal.returns-clause-shallow
returns-clause-shallow c = shallow c.args.tokens.now c.parse_tokens.result c.parse_tokens.ensures.file

pub returns-clause-members : goal.returns-clause-members
returns-clause-members c = members c.args.tokens.now c.parse_tokens.result c.parse_tokens.ensures.file

pub returns-clause-nested : goal.returns-clause-nested
returns-clause-nested c = nested c.args.tokens.now c.parse_tokens.result c.parse_tokens.ensures.file

pub returns-clause-grouped : goal.returns-clause-grouped
returns-clause-grouped c = grouped c.args.tokens.now c.parse_tokens.result c.parse_tokens.ensures.file

pub returns-clause-nodes : goal.returns-clause-nodes
returns-clause-nodes c = nodes c.args.tokens.now c.parse_tokens.result c.parse_tokens.ensures.file

pub returns-clause-texts : goal.returns-clause-texts
returns-clause-texts c = texts c.args.tokens.now c.requires c.parse_tokens.result c.parse_tokens.ensures.file
