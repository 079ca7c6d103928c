-- A token is an operator of one precedence at most.
use Rattle.std.specs.Prelude.{◌≡◌, Bool, true, false, cond, List, ◌∷◌, Option, Some, None}
use Rattle.std.proofs.Common.{refl, sym, ap, ◌∙◌, arith}
use Rattle.std.proofs.Math.Dec.{eqb}
use Rattle.std.proofs.lemmas.Bool.{eqb-true, ne_eqb}
use Rattle.uvl_lexer.specs.declared.token.Token.{Token}
use Rattle.uvl_lexer.specs.declared.token.TokenKind.{TokenKind}
use Rattle.uvl_lexer.specs.declared.token.TokenKind.TheVariants as token
use Rattle.uvl_lexer.specs.declared.token.Symbol.TheVariants as symbol
use Rattle.uvl_ast.specs.declared.expression.BinOp.{BinOp}
use Rattle.uvl_parser.specs.declared.expression.precedence.Precedence.{Precedence}
use Rattle.uvl_parser.specs.declared.expression.precedence.Precedence.TheVariants as precedence
use Rattle.uvl_grammar.specs.steps.Tests.{is_there, begins}
use Rattle.uvl_grammar.specs.steps.Reading.{accept, accepted}
use Rattle.uvl_grammar.specs.steps.Expressions.{is_operator}
use Rattle.uvl_parser.specs.steps.Precedence.{operators_of}
use Rattle.uvl_parser.specs.steps.Operators.{precedences, strength, operator_on, IsBetween, Splits}

-- the operator that was found, if it is of a precedence
abbrev chosen : Precedence → Option (BinOp × Precedence) → Option BinOp
chosen l None = None
chosen l (Some o) = cond (eqb (strength o.1) (strength l)) (Some o.0) None

on_precedence : (l : Precedence) (kind : TokenKind) → operators_of l kind ≡ chosen l (operator_on precedences kind)
on_precedence precedence.Iff (token.Symbol symbol.Iff) = refl
on_precedence precedence.Iff (token.Symbol _) = refl
on_precedence precedence.Iff _ = refl
on_precedence precedence.Implies (token.Symbol symbol.Implies) = refl
on_precedence precedence.Implies (token.Symbol _) = refl
on_precedence precedence.Implies _ = refl
on_precedence precedence.Or (token.Symbol symbol.Bar) = refl
on_precedence precedence.Or (token.Symbol _) = refl
on_precedence precedence.Or _ = refl
on_precedence precedence.And (token.Symbol symbol.Amp) = refl
on_precedence precedence.And (token.Symbol _) = refl
on_precedence precedence.And _ = refl
on_precedence precedence.Sum (token.Symbol symbol.Plus) = refl
on_precedence precedence.Sum (token.Symbol _) = refl
on_precedence precedence.Sum _ = refl
on_precedence precedence.Product (token.Symbol symbol.Star) = refl
on_precedence precedence.Product (token.Symbol _) = refl
on_precedence precedence.Product _ = refl

same_precedence : (o : BinOp) (l : Precedence) → chosen l (Some (o, l)) ≡ Some o
same_precedence o precedence.Iff = refl
same_precedence o precedence.Implies = refl
same_precedence o precedence.Or = refl
same_precedence o precedence.And = refl
same_precedence o precedence.Sum = refl
same_precedence o precedence.Product = refl

-- what is found is an operator of its precedence
found_is : (kind : TokenKind) (o : BinOp) (l : Precedence) → Some (o, l) ≡ operator_on precedences kind → operators_of l kind ≡ Some o
found_is kind o l e = on_precedence l kind ∙ ap (chosen l) (sym e) ∙ same_precedence o l

-- and of no other one
found_alone : (kind : TokenKind) (o : BinOp) (l other : Precedence) → Some (o, l) ≡ operator_on precedences kind → (strength l ≡ strength other → ⊥)
    → operators_of other kind ≡ None
found_alone kind o l other e differs =
    on_precedence other kind ∙ ap (chosen other) (sym e)
    ∙ ap (λ b. cond {A = Option BinOp} b (Some o) None) (ne_eqb (strength l) (strength other) differs)

-- an operator of a precedence is none of another one
pub one_precedence : (kind : TokenKind) (o : BinOp) (l other : Precedence) → operators_of l kind ≡ Some o → (strength l ≡ strength other → ⊥)
    → operators_of other kind ≡ None
one_precedence kind o l other e differs = by_found (operator_on precedences kind) (sym (on_precedence l kind) ∙ e) (on_precedence other kind)
  where
    by_test : (x : BinOp × Precedence) (b : Bool) → eqb (strength x.1) (strength l) ≡ b → cond {A = Option BinOp} b (Some x.0) None ≡ Some o
        → operators_of other kind ≡ chosen other (Some x) → operators_of other kind ≡ None
    by_test x true tests f g =
        let same : strength x.1 ≡ strength l = eqb-true (strength x.1) (strength l) tests in
        g ∙ ap (λ b. cond {A = Option BinOp} b (Some x.0) None) (ne_eqb (strength x.1) (strength other) (λ h. differs (sym same ∙ h)))
    by_test x false tests f g = absurd (cc)

    by_found : (found : Option (BinOp × Precedence)) → chosen l found ≡ Some o → operators_of other kind ≡ chosen other found
        → operators_of other kind ≡ None
    by_found None f g = absurd (cc)
    by_found (Some x) f g = by_test x (eqb (strength x.1) (strength l)) refl f g

-- ---- in front of tokens

pub splits_inside : (least most : Precedence) (tokens : List Token) (t : Token) (rest : List Token) (o : BinOp) (l : Precedence) → tokens ≡ t ∷ rest
    → Some (o, l) ≡ operator_on precedences t.kind → IsBetween least most l → Splits least most tokens (Some (o, l, t.place, rest))
unfolding accept
splits_inside least most tokens t rest o l e found between =
    (between, ap (accept (operators_of l)) e ∙ ap (λ x. accepted x t rest) (found_is t.kind o l found))

pub splits_outside : (least most : Precedence) (tokens : List Token) (t : Token) (rest : List Token) (o : BinOp) (l : Precedence) → tokens ≡ t ∷ rest
    → Some (o, l) ≡ operator_on precedences t.kind → (IsBetween least most l → ⊥) → Splits least most tokens None
splits_outside least most tokens t rest o l e found outside other between =
    ap (begins (is_operator (operators_of other))) e
    ∙ ap is_there (found_alone t.kind o l other found (λ same. outside (omega arith, omega arith)))
