-- The section in which a token stands, by the tokens in front of it, the nearest first. The line of a
-- section's word belongs to it, and the body that is indented behind that line: without one the section
-- is over behind its line, else behind the Dedent that closes the body. The line of `namespace` has no
-- token that is first in a line behind its word, so nothing asks for it.
use Rattle.std.specs.Prelude.{ℕ, ◌+◌, ◌-◌, Bool, true, false, nat_lt, cond, List, [], ◌∷◌, Option, Some, None}
use Rattle.uvl_lexer.specs.declared.token.Token.{Token}
use Rattle.uvl_lexer.specs.declared.token.TokenKind.{TokenKind}
use Rattle.uvl_lexer.specs.declared.token.TokenKind.TheVariants as token
use Rattle.uvl_base.specs.declared.word.Word.TheVariants as word
use Rattle.uvl_profile.specs.declared.section.Section.{Section}
use Rattle.uvl_profile.specs.declared.section.Section.TheVariants.{Include, Imports, Features, Constraints}
use Rattle.uvl_profile.specs.declared.section.SectionPart.{SectionPart}
use Rattle.uvl_profile.specs.declared.section.SectionPart.TheVariants.{Outside, Heading, Headed, Body}
use Rattle.uvl_lexer.specs.Kinds.{is_newline, is_indent, is_dedent}
use Rattle.uvl_profile.specs.Lines.{begins_line}

-- the section that a token names
abbrev pub section_named : TokenKind → Option Section
section_named (token.Word word.Include) = Some Include
section_named (token.Word word.Imports) = Some Imports
section_named (token.Word word.Features) = Some Features
section_named (token.Word word.Constraints) = Some Constraints
section_named _ = None

-- in the line of a section's word, or outside
abbrev pub in_heading : Option Section → SectionPart
in_heading (Some s) = Heading s
in_heading None = Outside

-- outside all sections a section's word that is first in its line begins one
abbrev pub behind_outside : Bool → TokenKind → SectionPart
behind_outside first kind = cond first (in_heading (section_named kind)) Outside

-- a body is over behind the Dedent that closes its first indentation
abbrev pub behind_in_body : Section → ℕ → TokenKind → SectionPart
behind_in_body s indentations kind =
    cond (is_indent kind) (Body s (indentations + 1))
    (cond (is_dedent kind) (cond (nat_lt indentations 2) Outside (Body s (indentations - 1))) (Body s indentations))

-- the part of a section behind a token, which is the first in its line or not
abbrev pub part_behind : SectionPart → Bool → TokenKind → SectionPart
part_behind Outside first kind = behind_outside first kind
part_behind (Heading s) first kind = cond (is_newline kind) (Headed s) (Heading s)
part_behind (Headed s) first kind = cond (is_indent kind) (Body s 1) (behind_outside first kind)
part_behind (Body s indentations) first kind = behind_in_body s indentations kind

-- the part of a section in which what follows stands
abbrev pub part_of : List Token → SectionPart
part_of [] = Outside
part_of (t ∷ before) = part_behind (part_of before) (begins_line before) t.kind

-- whether two sections are one
abbrev pub same_section : Section → Section → Bool
same_section Include Include = true
same_section Imports Imports = true
same_section Features Features = true
same_section Constraints Constraints = true
same_section _ _ = false

-- whether a part belongs to a section
abbrev pub belongs : Section → SectionPart → Bool
belongs s Outside = false
belongs s (Heading other) = same_section s other
belongs s (Headed other) = false
belongs s (Body other indentations) = same_section s other

-- whether what follows stands in a section
abbrev pub is_in : Section → List Token → Bool
is_in s before = belongs s (part_of before)
