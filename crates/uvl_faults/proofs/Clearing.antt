-- What keeps a limit is spelled by tokens at which nothing is met: shapes of productions, gone through with what is in front.
use Rattle.std.specs.Prelude.{◌≡◌, Bool, false, List, [], ◌∷◌, ◌++◌}
use Rattle.std.specs.List.{All}
use Rattle.std.proofs.Common.{sym, subst}
use Rattle.std.proofs.lemmas.List.Elements.{All-head, All-tail}
use Rattle.uvl_lexer.specs.declared.token.Token.{Token}
use Rattle.uvl_lexer.specs.declared.token.Symbol.TheVariants as symbol
use Rattle.uvl_grammar.specs.Tokens.{IsSymbol, IsIndent, IsDedent}
use Rattle.uvl_grammar.specs.Shapes.{Spelling, Repeated, None_more, One_more, OneOrMore, First, BehindComma, Comma, Separated, Nothing, Parts, Body, No_body, Indented}
use Rattle.uvl_profile.specs.Lines.{is_layout}
use Rattle.uvl_faults.proofs.Walking.{walk, walk_append, Clear, InLine}

-- tokens are clear, and what is in front behind them is of some sort
abbrev pub ClearUntil : (List Token → Token → Bool) → (List Token → Type 0) → List Token → List Token → Type 0
ClearUntil met Q before ts = Clear met before ts × Q (walk before ts)

-- what is spelled where P holds in front is clear, and Q holds behind it, where it keeps a limit
abbrev pub Clears : {A : Type 0} → (List Token → Token → Bool) → (P Q : List Token → Type 0) → Spelling A → (A → Type 0) → Type 0
Clears {A} met P Q Part Within = (before ts : List Token) (a : A) → P before → Within a → Part ts a → ClearUntil met Q before ts

-- nothing is met at a token of some sort where P holds in front, and Q holds behind it
abbrev pub Spares : (List Token → Token → Bool) → (P Q : List Token → Type 0) → (Token → Type 0) → Type 0
Spares met P Q Is = (before : List Token) (t : Token) → P before → Is t → (met before t ≡ false) × Q (t ∷ before)

module _ (met : List Token → Token → Bool) where
  pub clear_append : (before xs ys : List Token) → Clear met before xs → Clear met (walk before xs) ys → Clear met before (xs ++ ys)
  clear_append before [] ys front back = back
  clear_append before (x ∷ xs) ys front back = (front.0, clear_append (x ∷ before) xs ys front.1 back)

  -- tokens, and then others
  pub clear_then : (P Q : List Token → Type 0) (before xs ys : List Token) → ClearUntil met P before xs
      → (P (walk before xs) → ClearUntil met Q (walk before xs) ys) → ClearUntil met Q before (xs ++ ys)
  clear_then P Q before xs ys front back =
      let rest = back front.1 in
      (clear_append before xs ys front.0 rest.0, subst Q (sym (walk_append before xs ys)) rest.1)

  -- tokens in a line, each of which leaves what is in front of one sort
  pub in_line_clear : (P : List Token → Type 0) → Spares met P P (λ t. is_layout t.kind ≡ false) → (before xs : List Token) → P before → InLine xs
      → ClearUntil met P before xs
  in_line_clear P step before [] here inline = (tt, here)
  in_line_clear P step before (t ∷ ts) here inline =
      let at = step before t here inline.0 in
      let rest = in_line_clear P step (t ∷ before) ts at.1 inline.1 in
      ((at.0, rest.0), rest.1)

-- ---- repeated parts

module _ {A : Type 0} (met : List Token → Token → Bool) (P : List Token → Type 0) (Part : Spelling A) (Within : A → Type 0)
    (step : Clears met P P Part Within) where
  pub repeated_clears : Clears met P P (Repeated Part) (All Within)
  repeated_clears before ts items here each None_more = (tt, here)
  repeated_clears before ts items here each (One_more {xs} {ys} {a} {items = rest} r rs) =
      clear_then met P P before xs ys (step before xs a here (All-head Within a rest each) r)
      λ now. repeated_clears (walk before xs) ys rest now (All-tail Within a rest each) rs

  pub one_or_more_clears : Clears met P P (OneOrMore Part) (All Within)
  one_or_more_clears before ts items here each (First {xs} {ys} {a} {items = rest} r rs) =
      clear_then met P P before xs ys (step before xs a here (All-head Within a rest each) r)
      λ now. repeated_clears (walk before xs) ys rest now (All-tail Within a rest each) rs

-- parts with commas between them
module _ {A : Type 0} (met : List Token → Token → Bool) (P Q : List Token → Type 0) (Part : Spelling A) (Within : A → Type 0)
    (step : Clears met P Q Part Within) (none : (before : List Token) → P before → Q before)
    (comma_step : Spares met Q P (IsSymbol symbol.Comma)) where
  behind_comma_clears : Clears met Q Q (BehindComma Part) Within
  behind_comma_clears before ts a here within (Comma comma {xs} is r) =
      let at = comma_step before comma here is in
      let rest = step (comma ∷ before) xs a at.1 within r in
      ((at.0, rest.0), rest.1)

  pub separated_clears : Clears met P Q (Separated Part) (All Within)
  separated_clears before ts items here each Nothing = (tt, none before here)
  separated_clears before ts items here each (Parts {xs} {ys} {a} {items = rest} r rs) =
      clear_then met Q Q before xs ys (step before xs a here (All-head Within a rest each) r)
      λ now. repeated_clears met Q (BehindComma Part) Within behind_comma_clears (walk before xs) ys rest now (All-tail Within a rest each) rs

-- what is indented below a line
module _ {A : Type 0} (met : List Token → Token → Bool) (P Inner : List Token → Type 0) (Part : Spelling A) (Within : A → Type 0)
    (step : Clears met Inner Inner Part Within) (indent_step : Spares met P Inner IsIndent) (dedent_step : Spares met Inner P IsDedent) where
  pub body_clears : Clears met P P (Body Part) (All Within)
  body_clears before ts items here each No_body = (tt, here)
  body_clears before ts items here each (Indented indent dedent {xs} opens parts closes) =
      let at = indent_step before indent here opens in
      let front = indent ∷ before in
      let rest = clear_then met Inner P front xs (dedent ∷ []) (one_or_more_clears met Inner Part Within step front xs items at.1 each parts)
      λ now. let end = dedent_step (walk front xs) dedent now closes in ((end.0, tt), end.1) in
      ((at.0, rest.0), rest.1)
