-- What a text is read as, one token after another.
use Rattle.std.specs.Prelude.{ℕ, Bool, true, false, ◌||◌, if◌then◌else◌, List, [], ◌∷◌, ◌++◌, Ok, Err}
use Rattle.uvl_base.specs.declared.fault.FaultKind.TheVariants.{BadIndent}
use Rattle.uvl_lexer.specs.declared.token.Token.{Token}
use Rattle.uvl_lexer.specs.declared.token.TokenKind.TheVariants as token
use Rattle.uvl_lexer.specs.declared.position.Position.{Position}
use Rattle.uvl_lexer.specs.Cut.{cut}
use Rattle.uvl_lexer.specs.Layout.{Lexed, Units, Finished, Stopped, Refused, Ended, Spelled, tokens_onto, line_layout, unspelled_at, token_at, dedents, units_of, front_of, after_mark}
use Rattle.uvl_lexer.specs.Indentations.{is_aligned, indentations_behind}
use Rattle.uvl_lexer.specs.Positions.{place_of}

-- the layout tokens in front of a token, which only the first of a line has
abbrev pub layout_before : Bool → List ℕ → Position → List Token
layout_before true indentations p = []
layout_before false indentations p = line_layout indentations p

-- each line with a token ends with Newline
abbrev pub newline_at : Bool → Position → List Token
newline_at true p = unspelled_at token.Newline p ∷ []
newline_at false p = []

-- whether a token may stand where it does: the first of a line meets an open indentation or opens one
abbrev pub may_begin : Bool → List ℕ → Position → Bool
may_begin begun indentations p = begun || is_aligned p.reach indentations

-- the indentations behind a token
abbrev pub indentations_after : Bool → List ℕ → Position → List ℕ
indentations_after true indentations p = indentations
indentations_after false indentations p = indentations_behind p.reach indentations

-- what units are read as, one after another, where the line has begun or not, and these indentations are open
abbrev pub read_units : Bool → List ℕ → Units → Lexed
read_units begun indentations (Finished p) =
    Ok (newline_at begun p ++ dedents 0 indentations p ++ unspelled_at token.Finish p ∷ [])
read_units begun indentations (Stopped p kind) = Err (place_of p, kind)
read_units begun indentations (Refused p kind) =
    if may_begin begun indentations p then Err (place_of p, kind) else Err (place_of p, BadIndent)
read_units begun indentations (Ended p rest) = tokens_onto (newline_at begun p) (read_units false indentations rest)
read_units begun indentations (Spelled p kind after rest) =
    if may_begin begun indentations p
    then tokens_onto
    (layout_before begun indentations p ++ token_at kind p after ∷ [])
    (read_units true (indentations_after begun indentations p) rest)
    else Err (place_of p, BadIndent)

-- what a text is read as, one token after another
abbrev pub read_through : List ℕ → Lexed
read_through text = read_units false [] (units_of (front_of text) [] (cut (after_mark text)))
