-- Behind a part that has a token there are fewer tokens left, and so more depth than what stands there can need.
use Rattle.std.specs.Prelude.{ℕ, suc, ◌<◌, List, ◌++◌, length, Ok, Err}
use Rattle.std.proofs.Common.{sym, ap, arith, append_assoc, length-append}
use Rattle.uvl_lexer.specs.declared.token.Token.{Token}
use Rattle.uvl_grammar.specs.Shapes.{Spelling}
use Rattle.uvl_grammar.specs.steps.Reading.{Read, Reader, ◌>>=◌, bind}
use Rattle.uvl_grammar.proofs.Readers.{Good, Outcome, Then, Example, HasToken, second_of}

module _ {A B : Type 0} (p : ℕ → Reader A) (f : ℕ → A → Reader B) (R : Spelling A) (S : A → Spelling B) (d n : ℕ)
    (has : HasToken R) (goods : (v : A) → Good (λ m. f m v) (S v) d n) (examples : (v : A) → Example (S v)) where
  behind : (ts : List Token) → length ts < suc n → (r : Read A) → Outcome p R d ts r
      → Outcome (λ m. bind (p m) (f m)) (Then R S) d ts (r >>= λ z. f d z.0 z.1)
  unfolding bind
  behind ts h (Ok r) o =
      let shorter : length r.1 < n = omega (arith, has o.front r.0 o.spelled, ap length o.splits, length-append o.front r.1) in
      second_of p f R S d ts r.0 r.1 o (f d r.0 r.1) ((goods r.0).at r.1 shorter)
  behind ts h (Err left) o =
      let last = examples o.value in
      record {
        front = o.front;
        rest = o.rest;
        splits = o.splits;
        count = o.count;
        more = o.more ++ last.tokens;
        value = last.value;
        completed = record {
          front = o.front ++ o.more;
          back = last.tokens;
          middle = o.value;
          joins = sym (append_assoc o.front o.more last.tokens);
          first = o.completed;
          second = last.spelled;
        };
        again = λ m le later same. ap (λ r. r >>= λ z. f m z.0 z.1) (o.again m le later same);
      }

  good_behind : Good p R d (suc n) → Good (λ m. bind (p m) (f m)) (Then R S) d (suc n)
  unfolding bind
  good_behind good = record { at = λ ts h. behind ts h (p d ts) (good.at ts h) }

pub behind_good : {A B : Type 0} {p : ℕ → Reader A} {f : ℕ → A → Reader B} {R : Spelling A} {S : A → Spelling B} {d n : ℕ}
    → HasToken R → ((v : A) → Example (S v)) → Good p R d (suc n) → ((v : A) → Good (λ m. f m v) (S v) d n)
    → Good (λ m. bind (p m) (f m)) (Then R S) d (suc n)
behind_good {p} {f} {R} {S} {d} {n} has examples good goods = good_behind p f R S d n has goods examples good
