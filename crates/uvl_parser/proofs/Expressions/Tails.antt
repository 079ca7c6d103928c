-- Operations of several precedences behind one operand: the loop over their operators, turn by turn. Behind an
-- operand stand those of the precedence that binds most, then those of the precedence below it, down to the least.
use Rattle.std.specs.Prelude.{◌≡◌, ℕ, zero, suc, ◌+◌, ◌-◌, ◌<◌, ◌≤◌, false, List, [], ◌∷◌, length, Ok, Err, Option, Some, None}
use Rattle.std.proofs.Common.{refl, sym, ap, subst, ◌∙◌, arith}
use Rattle.uvl_base.specs.declared.place.Place.{Place}
use Rattle.uvl_lexer.specs.declared.token.Token.{Token}
use Rattle.uvl_ast.specs.declared.expression.Expr.{Expr}
use Rattle.uvl_ast.specs.declared.expression.Expr.TheVariants as expr
use Rattle.uvl_ast.specs.declared.expression.BinOp.{BinOp}
use Rattle.uvl_parser.specs.declared.expression.precedence.Precedence.{Precedence}
use Rattle.uvl_parser.specs.declared.expression.precedence.Precedence.TheVariants as precedence
use Rattle.uvl_grammar.specs.steps.Tests.{Test, begins, is_there}
use Rattle.uvl_grammar.specs.steps.Reading.{Read, ◌>>=◌, done, bind, accept, accepted, repeat, many, closed}
use Rattle.uvl_grammar.specs.steps.Expressions.{is_operator, operation, grouped}
use Rattle.uvl_parser.specs.steps.Precedence.{operators_of, part_within, of_precedence, part_of}
use Rattle.uvl_parser.specs.steps.Operators.{strength, tightest, Splits}
use Rattle.uvl_parser.proofs.Expressions.Operators.{one_precedence}
use Rattle.uvl_parser.proofs.Expressions.Steps.{accept_takes, part_settled, behind_left, turns_end, turn_reads, turn_stops}

-- ---- the precedences one below the other

-- the precedence that binds next to a precedence, and less
abbrev looser : Precedence → Precedence
looser precedence.Iff = precedence.Iff
looser precedence.Implies = precedence.Iff
looser precedence.Or = precedence.Implies
looser precedence.And = precedence.Or
looser precedence.Sum = precedence.And
looser precedence.Product = precedence.Sum

looser_strength : (l : Precedence) → strength (looser l) ≡ strength l - 1
looser_strength precedence.Iff = refl
looser_strength precedence.Implies = refl
looser_strength precedence.Or = refl
looser_strength precedence.And = refl
looser_strength precedence.Sum = refl
looser_strength precedence.Product = refl

-- the precedence at a place
abbrev precedence_at : ℕ → Precedence
precedence_at zero = precedence.Iff
precedence_at (suc zero) = precedence.Implies
precedence_at (suc (suc zero)) = precedence.Or
precedence_at (suc (suc (suc zero))) = precedence.And
precedence_at (suc (suc (suc (suc zero)))) = precedence.Sum
precedence_at _ = precedence.Product

at_its_place : (l : Precedence) → precedence_at (strength l) ≡ l
at_its_place precedence.Iff = refl
at_its_place precedence.Implies = refl
at_its_place precedence.Or = refl
at_its_place precedence.And = refl
at_its_place precedence.Sum = refl
at_its_place precedence.Product = refl

same_place : (k l : Precedence) → strength k ≡ strength l → k ≡ l
same_place k l e = sym (at_its_place k) ∙ ap precedence_at e ∙ at_its_place l

-- ---- operations of one precedence, and of several

module _ (depth : ℕ) where
  -- at most so many operations of a precedence on what stands in front
  abbrev turns_of : Precedence → ℕ → Expr → List Token → Read Expr
  turns_of l n left ts = behind_left left (repeat n (is_operator (operators_of l)) (operation (operators_of l) (part_within l depth)) ts)

  -- all operations of a precedence on what is read
  abbrev tail : Precedence → Read Expr → Read Expr
  tail l r = r >>= λ z. turns_of l (length z.1) z.0 z.1

  -- and of so many precedences below one
  abbrev tails : ℕ → Precedence → Read Expr → Read Expr
  tails zero l r = r
  tails (suc k) l r = tails k (looser l) (tail (looser l) r)

  tails_stop : (k : ℕ) (l : Precedence) (left_over : ℕ) → tails k l (Err left_over) ≡ Err left_over
  tails_stop zero l left_over = refl
  tails_stop (suc k) l left_over = tails_stop k (looser l) left_over

  -- where no operator of the precedences is in front, nothing is taken
  tails_end : (k : ℕ) (least most : Precedence) (left : Expr) (ts : List Token) → strength most ≡ k + strength least → Splits least most ts None
      → tails k most (Ok (left, ts)) ≡ Ok (left, ts)
  tails_end zero least most left ts counts none = refl
  tails_end (suc k) least most left ts counts none =
      let place = looser_strength most in
      let below : strength (looser most) ≡ k + strength least = omega arith in
      ap (tails k (looser most)) (turns_end (operators_of (looser most)) (part_within (looser most) depth) left (length ts) ts
      (none (looser most) (omega arith, omega arith)))
      ∙ tails_end k least (looser most) left ts below (λ l between. none l (between.0, omega (arith, between.1)))

-- how many precedences are below the one that binds most
abbrev below_tightest : Precedence → ℕ
below_tightest precedence.Iff = 3
below_tightest precedence.Implies = 2
below_tightest precedence.Or = 1
below_tightest precedence.And = 0
below_tightest precedence.Sum = 1
below_tightest precedence.Product = 0

below_counts : (l : Precedence) → strength (tightest l) ≡ below_tightest l + strength l
below_counts precedence.Iff = refl
below_counts precedence.Implies = refl
below_counts precedence.Or = refl
below_counts precedence.And = refl
below_counts precedence.Sum = refl
below_counts precedence.Product = refl

-- a precedence is an operand of the one that binds most, and the operations of the precedences down from it
precedence_is : (l : Precedence) (ts : List Token) → of_precedence l ts
    ≡ tails (suc (length ts)) (below_tightest l) (tightest l) (tail (suc (length ts)) (tightest l) (part_of (tightest l) ts))
unfolding of_precedence part_of closed grouped many bind done
precedence_is precedence.Iff ts = refl
precedence_is precedence.Implies ts = refl
precedence_is precedence.Or ts = refl
precedence_is precedence.And ts = refl
precedence_is precedence.Sum ts = refl
precedence_is precedence.Product ts = refl

-- ---- the turns of the loop

-- What is left of reading a precedence of some tokens, behind an operator of another precedence or none: what is
-- joined so far, and the operations of that precedence and of those down from it.
pub record Goes (least most : Precedence) (tokens : List Token) (left : Expr) (turns : ℕ) (rest : List Token) : Type 0 where
  pub below : ℕ
  pub counts : strength most ≡ below + strength least
  pub more : ℕ
  pub enough : length rest ≤ more
  pub whole : tails (suc (length tokens)) below most (turns_of (suc (length tokens)) most more left rest) ≡ of_precedence least tokens
  pub fits : length rest ≤ turns
  pub shorter : length rest < length tokens

pub precedence_begins : (least most : Precedence) (tokens : List Token) (left : Expr) (rest : List Token) → most ≡ tightest least
    → part_of most tokens ≡ Ok (left, rest) → length rest < length tokens → (n : ℕ) → n ≡ length rest → Goes least most tokens left n rest
precedence_begins least most tokens left rest is e h n all =
    let depth = suc (length tokens) in
    record {
      below = below_tightest least;
      counts = ap strength is ∙ below_counts least;
      more = length rest;
      enough = omega arith;
      whole =
          ap (λ r. tails depth (below_tightest least) most (tail depth most r)) (sym e)
          ∙ ap (λ l. tails depth (below_tightest least) l (tail depth l (part_of l tokens))) is
          ∙ sym (precedence_is least tokens);
      fits = omega arith;
      shorter = h;
    }

pub precedence_fails : (least most : Precedence) (tokens : List Token) (left_over : ℕ) → most ≡ tightest least → part_of most tokens ≡ Err left_over
    → of_precedence least tokens ≡ Err left_over
precedence_fails least most tokens left_over is e =
    let depth = suc (length tokens) in
    precedence_is least tokens
    ∙ ap (λ l. tails depth (below_tightest least) l (tail depth l (part_of l tokens))) (sym is)
    ∙ ap (λ r. tails depth (below_tightest least) most (tail depth most r)) e
    ∙ tails_stop depth (below_tightest least) most left_over

module _ (least : Precedence) (tokens : List Token) (left : Expr) (turns : ℕ) (rest : List Token) where
  -- without an operator of its precedence in front, it goes on with the precedence below
  loosened : (most : Precedence) → Goes least most tokens left turns rest → begins (is_operator (operators_of most)) rest ≡ false
      → strength least < strength most → Goes least (looser most) tokens left turns rest
  loosened most goes none above = by_below goes.below goes.counts goes.whole
    where
      by_below : (k : ℕ) → strength most ≡ k + strength least
          → tails (suc (length tokens)) k most (turns_of (suc (length tokens)) most goes.more left rest) ≡ of_precedence least tokens
          → Goes least (looser most) tokens left turns rest
      by_below zero counts whole = absurd (omega arith)
      by_below (suc k) counts whole =
          let place = looser_strength most in
          record {
            below = k;
            counts = omega arith;
            more = length rest;
            enough = omega arith;
            whole =
                ap (tails (suc (length tokens)) (suc k) most)
                (sym (turns_end (operators_of most) (part_within most (suc (length tokens))) left goes.more rest none))
                ∙ whole;
            fits = goes.fits;
            shorter = goes.shorter;
          }

  -- an operator of a precedence in front is none of another precedence
  no_other : (l other : Precedence) (o : BinOp × Place) (behind : List Token) → accept (operators_of l) rest ≡ Ok (o, behind)
      → (strength l ≡ strength other → ⊥) → begins (is_operator (operators_of other)) rest ≡ false
  unfolding accept
  no_other l other o behind e differs = by_tokens rest e
    where
      by_value : (t : Token) (ts : List Token) (x : Option BinOp) → operators_of l t.kind ≡ x → accepted x t ts ≡ Ok (o, behind)
          → is_there (operators_of other t.kind) ≡ false
      by_value t ts (Some a) is f = ap is_there (one_precedence t.kind a l other is differs)
      by_value t ts None is f = absurd (cc)

      by_tokens : (ts : List Token) → accept (operators_of l) ts ≡ Ok (o, behind) → begins (is_operator (operators_of other)) ts ≡ false
      by_tokens [] f = absurd (cc)
      by_tokens (t ∷ ts) f = by_value t ts (operators_of l t.kind) refl f

  -- so it goes on with the precedence of the operator in front
  reached : (l : Precedence) (o : BinOp × Place) (behind : List Token) → accept (operators_of l) rest ≡ Ok (o, behind) → strength least ≤ strength l
      → (gap : ℕ) (most : Precedence) → strength most ≡ gap + strength l → Goes least most tokens left turns rest → Goes least l tokens left turns rest
  reached l o behind is h zero most counts goes =
      subst (λ m. Goes least m tokens left turns rest) (same_place most l (omega arith)) goes
  reached l o behind is h (suc gap) most counts goes =
      let place = looser_strength most in
      let above : strength least < strength most = omega arith in
      reached l o behind is h gap (looser most) (omega arith)
      (loosened most goes (no_other l most o behind is (λ same. let wrong : ⊥ = omega arith in wrong)) above)

-- the loop is done where no operator of the precedences is in front
pub precedence_ends : (least most : Precedence) (tokens : List Token) (left : Expr) (turns : ℕ) (rest : List Token) → Goes least most tokens left turns rest
    → Splits least most rest None → of_precedence least tokens ≡ Ok (left, rest)
precedence_ends least most tokens left turns rest goes none =
    let depth = suc (length tokens) in
    let counts = goes.counts in
    sym goes.whole
    ∙ ap (tails depth goes.below most) (turns_end (operators_of most) (part_within most depth) left goes.more rest (none most (omega arith, omega arith)))
    ∙ tails_end depth goes.below least most left rest goes.counts none

-- and where all tokens were looked at
pub precedence_over : (least most : Precedence) (tokens : List Token) (left : Expr) (end turn : ℕ) (rest : List Token)
    → Goes least most tokens left (end - turn) rest → end ≤ turn → of_precedence least tokens ≡ Ok (left, rest)
precedence_over least most tokens left end turn rest goes over =
    let empty : length rest ≡ 0 = omega (arith, goes.fits) in
    precedence_ends least most tokens left (end - turn) rest goes (λ l between. nothing (is_operator (operators_of l)) rest empty)
  where
    nothing : (test : Test) (ts : List Token) → length ts ≡ 0 → begins test ts ≡ false
    nothing test [] e = refl
    nothing test (t ∷ ts) e = absurd (omega arith)

-- a turn takes an operator and its operand
pub precedence_goes : (least most : Precedence) (tokens : List Token) (left later : Expr) (end turn : ℕ) (rest : List Token) (o : BinOp) (l : Precedence) (place : Place)
    (behind : List Token) (right : Expr) (after : List Token) → Goes least most tokens left (end - turn) rest
    → Splits least most rest (Some (o, l, place, behind)) → part_of l behind ≡ Ok (right, after) → length after < length behind
    → later ≡ expr.Binary o left right place → Goes least l tokens later (end - (turn + 1)) after
precedence_goes least most tokens left later end turn rest o l place behind right after goes splits reads h joins =
    let depth = suc (length tokens) in
    let fewer : length rest ≡ suc (length behind) = accept_takes (operators_of l) rest (o, place) behind splits.1 in
    let inside : length behind < depth = omega (arith, goes.shorter) in
    let gap : strength most ≡ (strength most - strength l) + strength l = omega (arith, splits.0.1) in
    let on = reached least tokens left (end - turn) rest l (o, place) behind splits.1 splits.0.0 (strength most - strength l) most gap goes in
    let more : on.more ≡ suc (on.more - 1) = omega (arith, on.enough) in
    record {
      below = on.below;
      counts = on.counts;
      more = on.more - 1;
      enough = omega (arith, on.enough);
      whole =
          ap (λ z. tails depth on.below l (turns_of depth l (on.more - 1) z after)) joins
          ∙ ap (tails depth on.below l) (sym (turn_reads (operators_of l) (part_within l depth) left (on.more - 1) rest (o, place) behind right after splits.1
          (part_settled l behind depth inside ∙ reads)))
          ∙ ap (λ n. tails depth on.below l (turns_of depth l n left rest)) (sym more)
          ∙ on.whole;
      fits = omega (arith, goes.fits);
      shorter = omega (arith, goes.shorter);
    }

-- or stops at its operand
pub precedence_stops : (least most : Precedence) (tokens : List Token) (left : Expr) (turns : ℕ) (rest : List Token) (o : BinOp) (l : Precedence) (place : Place)
    (behind : List Token) (left_over : ℕ) → Goes least most tokens left turns rest → Splits least most rest (Some (o, l, place, behind))
    → part_of l behind ≡ Err left_over → of_precedence least tokens ≡ Err left_over
precedence_stops least most tokens left turns rest o l place behind left_over goes splits stops =
    let depth = suc (length tokens) in
    let fewer : length rest ≡ suc (length behind) = accept_takes (operators_of l) rest (o, place) behind splits.1 in
    let inside : length behind < depth = omega (arith, goes.shorter) in
    let gap : strength most ≡ (strength most - strength l) + strength l = omega (arith, splits.0.1) in
    let on = reached least tokens left turns rest l (o, place) behind splits.1 splits.0.0 (strength most - strength l) most gap goes in
    let more : on.more ≡ suc (on.more - 1) = omega (arith, on.enough) in
    sym on.whole
    ∙ ap (λ n. tails depth on.below l (turns_of depth l n left rest)) more
    ∙ ap (tails depth on.below l) (turn_stops (operators_of l) (part_within l depth) left (on.more - 1) rest (o, place) behind left_over splits.1
    (part_settled l behind depth inside ∙ stops))
    ∙ tails_stop depth on.below l left_over
