use Rattle.uvl_faults.proofs.Nodes.Rules.{tokens_tell_nodes, nodes_are_counted}
use Rattle.uvl_faults.proofs.law.nodes_are_counted_by_tokens.Goals as goal

pub returns-clause-tokens : goal.returns-clause-tokens
returns-clause-tokens c before t tokens rule begins spelled = tokens_tell_nodes before t tokens rule begins spelled

pub returns-clause-counted : goal.returns-clause-counted
returns-clause-counted c before t tokens rule begins spelled = nodes_are_counted before t tokens rule begins spelled
