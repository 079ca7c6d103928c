-- Tests of layout tokens.
use Rattle.uvl_grammar.specs.steps.Tests.{Test, is_newline, is_indent, is_dedent, is_finish}
use Rattle.uvl_parser.specs.declared.layout.Layout.{Layout}
use Rattle.uvl_parser.specs.declared.layout.Layout.TheVariants as layout

abbrev pub is_layout : Layout → Test
is_layout layout.Newline = is_newline
is_layout layout.Indent = is_indent
is_layout layout.Dedent = is_dedent
is_layout layout.Finish = is_finish
