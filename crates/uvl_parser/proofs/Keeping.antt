-- A loop that keeps the attributes and the rules of entries, turn by turn.
use Rattle.std.specs.Prelude.{◌≡◌, ℕ, ◌+◌, ◌<◌, ◌≤◌, length, cond, true, false, List, [], ◌∷◌, ◌++◌, Ok, Err}
use Rattle.std.proofs.Common.{refl, sym, ap, ◌∙◌, append_assoc, append-nil}
use Rattle.uvl_lexer.specs.declared.token.Token.{Token}
use Rattle.uvl_lexer.specs.declared.token.Symbol.TheVariants as symbol
use Rattle.uvl_ast.specs.declared.expression.Expr.{Expr}
use Rattle.uvl_ast.specs.declared.feature.Attribute.{Attribute}
use Rattle.uvl_grammar.specs.declared.entry.Entry.{Entry}
use Rattle.uvl_grammar.specs.declared.entry.Entry.TheVariants.{Plain, Rule, Rules}
use Rattle.uvl_grammar.specs.Braces.{attributes_of, rules_of}
use Rattle.uvl_grammar.specs.steps.Tests.{is_symbol, begins}
use Rattle.uvl_grammar.specs.steps.Reading.{Read, ◌>>=◌, done, bind, one, choose, many, behind_comma, separated, with_front}
use Rattle.uvl_base.specs.declared.place.Place.{Place}
use Rattle.uvl_grammar.specs.steps.Braces.{entry, braces, kept, kept_behind, kept_closed}
use Rattle.uvl_parser.proofs.Turns.{TurnsLeft, turns_begin, turn_taken, turn_failed, turn_ended, turns_over}

attributes_of-append : (xs ys : List Entry) → attributes_of (xs ++ ys) ≡ attributes_of xs ++ attributes_of ys
attributes_of-append [] ys = refl
attributes_of-append (Plain a ∷ xs) ys = ap (λ z. a ∷ z) (attributes_of-append xs ys)
attributes_of-append (Rule e ∷ xs) ys = attributes_of-append xs ys
attributes_of-append (Rules es ∷ xs) ys = attributes_of-append xs ys

rules_of-append : (xs ys : List Entry) → rules_of (xs ++ ys) ≡ rules_of xs ++ rules_of ys
rules_of-append [] ys = refl
rules_of-append (Plain a ∷ xs) ys = rules_of-append xs ys
rules_of-append (Rule e ∷ xs) ys = ap (λ z. e ∷ z) (rules_of-append xs ys)
rules_of-append (Rules es ∷ xs) ys = ap (λ z. es ++ z) (rules_of-append xs ys) ∙ sym (append_assoc es (rules_of xs) (rules_of ys))

no_front : (r : Read (List Entry)) → with_front [] r ≡ r
no_front (Ok r) = refl
no_front (Err left) = refl

-- what is kept so far is what some entries have, and the turns that are left read the others
pub record KeptSoFar (before : List Attribute) (ruled : List Expr) (attributes : List Attribute) (rules : List Expr)
    (whole : Read (List Entry)) (end turn : ℕ) (ts : List Token) : Type 0 where
  pub entries : List Entry
  pub left : TurnsLeft (is_symbol symbol.Comma) (behind_comma entry) whole entries end turn ts
  pub has : attributes ≡ before ++ attributes_of entries
  pub holds : rules ≡ ruled ++ rules_of entries

pub keeping_begins : (before : List Attribute) (ruled : List Expr) (ts : List Token)
    → KeptSoFar before ruled before ruled (many (is_symbol symbol.Comma) (behind_comma entry) ts) (length ts) 0 ts
keeping_begins before ruled ts = record {
  entries = [];
  left = turns_begin (is_symbol symbol.Comma) (behind_comma entry) [] ts ∙ no_front (many (is_symbol symbol.Comma) (behind_comma entry) ts);
  has = sym (append-nil before);
  holds = sym (append-nil ruled);
}

module _ (before : List Attribute) (ruled : List Expr) (attributes : List Attribute) (rules : List Expr)
    (whole : Read (List Entry)) (end turn : ℕ) (ts : List Token) (so_far : KeptSoFar before ruled attributes rules whole end turn ts) where
  pub keeping_taken : (e : Entry) (rest : List Token) (later : List Attribute) (ruled_later : List Expr) → turn < end
      → begins (is_symbol symbol.Comma) ts ≡ true → behind_comma entry ts ≡ Ok (e, rest)
      → later ≡ attributes ++ attributes_of (e ∷ []) → ruled_later ≡ rules ++ rules_of (e ∷ [])
      → KeptSoFar before ruled later ruled_later whole end (turn + 1) rest
  keeping_taken e rest later ruled_later within begin reads a r = record {
    entries = so_far.entries ++ e ∷ [];
    left = turn_taken (is_symbol symbol.Comma) (behind_comma entry) whole so_far.entries (so_far.entries ++ e ∷ []) end turn ts rest e so_far.left within begin reads refl;
    has = a ∙ ap (λ z. z ++ attributes_of (e ∷ [])) so_far.has ∙ append_assoc before (attributes_of so_far.entries) (attributes_of (e ∷ []))
        ∙ ap (λ z. before ++ z) (sym (attributes_of-append so_far.entries (e ∷ [])));
    holds = r ∙ ap (λ z. z ++ rules_of (e ∷ [])) so_far.holds ∙ append_assoc ruled (rules_of so_far.entries) (rules_of (e ∷ []))
        ∙ ap (λ z. ruled ++ z) (sym (rules_of-append so_far.entries (e ∷ [])));
  }

  pub keeping_failed : (left : ℕ) → turn < end → begins (is_symbol symbol.Comma) ts ≡ true → behind_comma entry ts ≡ Err left
      → kept_behind before ruled whole ≡ Err left
  keeping_failed left within begin stops =
      ap (kept_behind before ruled) (turn_failed (is_symbol symbol.Comma) (behind_comma entry) whole so_far.entries end turn ts left so_far.left within begin stops)

  told : whole ≡ Ok (so_far.entries, ts) → kept_behind before ruled whole ≡ Ok ((attributes, rules), ts)
  told e = ap (kept_behind before ruled) e ∙ ap (λ z. Ok ((z, ruled ++ rules_of so_far.entries), ts)) (sym so_far.has)
      ∙ ap (λ z. Ok ((attributes, z), ts)) (sym so_far.holds)

  pub keeping_ended : begins (is_symbol symbol.Comma) ts ≡ false → kept_behind before ruled whole ≡ Ok ((attributes, rules), ts)
  keeping_ended end_here = told (turn_ended (is_symbol symbol.Comma) (behind_comma entry) whole so_far.entries end turn ts so_far.left end_here)

  pub keeping_over : end ≤ turn → kept_behind before ruled whole ≡ Ok ((attributes, rules), ts)
  keeping_over over = told (turns_over (is_symbol symbol.Comma) (behind_comma entry) whole so_far.entries end turn ts so_far.left over)

-- braces that open are read behind their first token
kept_out : (r : Read (List Entry)) → kept (r >>= λ z. one (is_symbol symbol.RightBrace) z.1 >>= λ y. Ok (z.0, y.1)) ≡ kept_closed (kept r)
kept_out (Ok r) = out (one (is_symbol symbol.RightBrace) r.1)
  where
    out : (q : Read Place) → kept (q >>= λ y. Ok (r.0, y.1)) ≡ (q >>= λ y. Ok ((attributes_of r.0, rules_of r.0), y.1))
    out (Ok q) = refl
    out (Err left) = refl
kept_out (Err left) = refl

pub braces_begun : (ts rest : List Token) (place : Place) → begins (is_symbol symbol.LeftBrace) ts ≡ true
    → one (is_symbol symbol.LeftBrace) ts ≡ Ok (place, rest)
    → kept (braces ts) ≡ kept_closed (kept (separated (is_symbol symbol.RightBrace) entry rest))
unfolding braces choose bind done
braces_begun ts rest place opens reads =
    ap (λ b. kept (cond b (one (is_symbol symbol.LeftBrace) ts >>= λ l. separated (is_symbol symbol.RightBrace) entry l.1 >>= λ z. one (is_symbol symbol.RightBrace) z.1 >>= λ y. Ok (z.0, y.1)) (Ok ([], ts)))) opens
    ∙ ap (λ r. kept (r >>= λ l. separated (is_symbol symbol.RightBrace) entry l.1 >>= λ z. one (is_symbol symbol.RightBrace) z.1 >>= λ y. Ok (z.0, y.1))) reads
    ∙ kept_out (separated (is_symbol symbol.RightBrace) entry rest)
