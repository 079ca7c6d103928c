-- The tokens so far, with the Dedents of the indentations that are still to close, are the tokens with all Dedents.
use Rattle.std.proofs.Common.{◌≡◌, ◌++◌, length}
use Rattle.uvl_lexer.specs.Layout.{dedents}
use Rattle.uvl_lexer.specs.Indentations.{kept_by}
use Rattle.uvl_lexer.proofs.reader.Reader.close_indentations.Given as goal

abbrev pub invariant-loop-self : goal.invariant-loop-self
invariant-loop-self l =
    (l.self.tokens.items ++ dedents l.indentation l.self.indentations l.self.position
    ≡ l.initial.self.tokens.items ++ dedents l.indentation l.initial.self.indentations l.initial.self.position)
    × (kept_by l.indentation l.self.indentations ≡ kept_by l.indentation l.initial.self.indentations)
    × (l.self ≡ record l.initial.self { tokens = l.self.tokens; indentations = l.self.indentations })

abbrev pub decreases-loop-self : goal.decreases-loop-self
decreases-loop-self l = length l.self.indentations
