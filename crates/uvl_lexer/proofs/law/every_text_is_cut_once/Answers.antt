-- A piece is the longest that begins at its place, and so a text has one cut.
use Rattle.uvl_lexer.proofs.Ends.{tokens_of_a_cut, stops_of_a_cut}
use Rattle.uvl_lexer.proofs.OneCut.{each_longest, cut_once}
use Rattle.uvl_lexer.proofs.law.every_text_is_cut_once.Goals as goal

pub returns-clause-longest : goal.returns-clause-longest
returns-clause-longest c = each_longest

pub returns-clause-cut : goal.returns-clause-cut
returns-clause-cut c = cut_once

pub returns-clause-tokens : goal.returns-clause-tokens
returns-clause-tokens c = tokens_of_a_cut

pub returns-clause-stops : goal.returns-clause-stops
returns-clause-stops c = stops_of_a_cut
