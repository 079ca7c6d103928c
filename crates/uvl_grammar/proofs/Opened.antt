-- Behind an opening token there are fewer tokens left, and so more depth than what stands there can need.
use Rattle.std.specs.Prelude.{◌≡◌, ℕ, zero, suc, ◌<◌, ◌≤◌, Bool, true, false, List, [], ◌∷◌, ◌++◌, length, Ok, Err}
use Rattle.std.proofs.Common.{refl, sym, ap, subst, ◌∙◌, inl, inr, arith}
use Rattle.uvl_base.specs.declared.place.Place.{Place}
use Rattle.uvl_lexer.specs.declared.token.Token.{Token}
use Rattle.uvl_grammar.specs.steps.Tests.{Test}
use Rattle.uvl_grammar.specs.Shapes.{Spelling}
use Rattle.uvl_grammar.specs.steps.Reading.{Read, Reader, ◌>>=◌, bind, one, choose}
use Rattle.uvl_grammar.proofs.Readers.{Good, Outcome, ReadsOn, Then, IsOne, Either, same_head, one_passes, second_of, first_along, second_along, nothing_along, follow_outcome, weaken_outcome}

module _ {A : Type 0} (test : Test) (f : ℕ → Place → Reader A) (q : ℕ → Reader A) (R : Place → Spelling A) (S : Spelling A) (d n : ℕ)
    (good : (place : Place) → Good (λ m. f m place) (R place) d n) (other : Good q S d (suc n)) where
  -- the token, and what f reads behind it
  begun : ℕ → Reader A
  begun m = bind (one test) (f m)

  chosen : ℕ → Reader A
  chosen m = choose test (begun m) (q m)

  Parts : Spelling A
  Parts = Either (Then (IsOne test) R) S

  reads_token : (t : Token) (ts : List Token) → test t.kind ≡ true → ReadsOn (λ m. one test) (IsOne test) d (t ∷ ts) t.place ts
  reads_token t ts e = record {
    front = t ∷ [];
    splits = refl;
    spelled = record { token = t; alone = refl; passes = e; stands = refl };
    again = λ m le later same. one_passes test t later e;
  }

  begun_is : (t : Token) (ts : List Token) (m : ℕ) → test t.kind ≡ true → begun m (t ∷ ts) ≡ f m t.place ts
  unfolding begun bind
  begun_is t ts m e = ap (λ r. r >>= λ z. f m z.0 z.1) (one_passes test t ts e)

  opened_outcome : (t : Token) (ts : List Token) → test t.kind ≡ true → length (t ∷ ts) < suc n
      → Outcome begun (Then (IsOne test) R) d (t ∷ ts) (f d t.place ts)
  unfolding begun
  opened_outcome t ts e h =
      let shorter : length ts < n = omega arith in
      second_of (λ m. one test) f (IsOne test) R d (t ∷ ts) t.place ts (reads_token t ts e) (f d t.place ts) ((good t.place).at ts shorter)

  chosen_token : (t : Token) (ts : List Token) → length (t ∷ ts) < suc n → (b : Bool) → test t.kind ≡ b
      → Outcome chosen Parts d (t ∷ ts) (chosen d (t ∷ ts))
  unfolding chosen Parts
  chosen_token t ts h true e =
      subst (λ r. Outcome chosen Parts d (t ∷ ts) r)
      (sym (first_along test begun q t ts (t ∷ ts) d e (same_head (t ∷ ts)) ∙ begun_is t ts d e))
      (follow_outcome begun chosen Parts d (t ∷ ts) (λ m us same. first_along test begun q t ts us m e same) (f d t.place ts)
      (weaken_outcome begun (Then (IsOne test) R) Parts d (t ∷ ts) (λ xs v r. inl r) (f d t.place ts) (opened_outcome t ts e h)))
  chosen_token t ts h false e =
      subst (λ r. Outcome chosen Parts d (t ∷ ts) r)
      (sym (second_along test begun q t ts (t ∷ ts) d e (same_head (t ∷ ts))))
      (follow_outcome q chosen Parts d (t ∷ ts) (λ m us same. second_along test begun q t ts us m e same) (q d (t ∷ ts))
      (weaken_outcome q S Parts d (t ∷ ts) (λ xs v r. inr r) (q d (t ∷ ts)) (other.at (t ∷ ts) h)))

  chosen_list : (ts : List Token) → length ts < suc n → Outcome chosen Parts d ts (chosen d ts)
  unfolding chosen Parts
  chosen_list [] h =
      subst (λ r. Outcome chosen Parts d [] r)
      (sym (nothing_along test begun q [] d tt))
      (follow_outcome q chosen Parts d [] (λ m us same. nothing_along test begun q us m same) (q d [])
      (weaken_outcome q S Parts d [] (λ xs v r. inr r) (q d []) (other.at [] h)))
  chosen_list (t ∷ ts) h = chosen_token t ts h (test t.kind) refl

  pub good_opened : Good (λ m. choose test (bind (one test) (f m)) (q m)) (Either (Then (IsOne test) R) S) d (suc n)
  unfolding chosen Parts begun
  good_opened = record { at = λ ts h. chosen_list ts h }

-- at each depth from some on, in the words of the other reader
pub at_deeper : {A : Type 0} (p q : ℕ → Reader A) (d m : ℕ) → suc d ≤ m → (ts : List Token) (r : Read A)
    → ((k : ℕ) (us : List Token) → p (suc k) us ≡ q k us) → ((k : ℕ) → d ≤ k → q k ts ≡ r) → p m ts ≡ r
at_deeper p q d zero le ts r is again = absurd (omega arith)
at_deeper p q d (suc m) le ts r is again = is m ts ∙ again m (omega arith)

-- one deeper
deeper_outcome : {A : Type 0} (p q : ℕ → Reader A) (R : Spelling A) (d : ℕ) (ts : List Token)
    → ((m : ℕ) (us : List Token) → p (suc m) us ≡ q m us)
    → (r : Read A) → Outcome q R d ts r → Outcome p R (suc d) ts r
deeper_outcome p q R d ts is (Ok r) o = record {
  front = o.front;
  splits = o.splits;
  spelled = o.spelled;
  again = λ m le later same. at_deeper p q d m le (o.front ++ later) (Ok (r.0, later)) is (λ k le'. o.again k le' later same);
}
deeper_outcome p q R d ts is (Err left) o = record {
  front = o.front;
  rest = o.rest;
  splits = o.splits;
  count = o.count;
  more = o.more;
  value = o.value;
  completed = o.completed;
  again = λ m le later same. at_deeper p q d m le (o.front ++ later) (Err (length later)) is (λ k le'. o.again k le' later same);
}

-- a reader that goes as another does one above
pub good_deeper : {A : Type 0} (p q : ℕ → Reader A) (R : Spelling A) (d n : ℕ)
    → ((m : ℕ) (us : List Token) → p (suc m) us ≡ q m us) → Good q R d n → Good p R (suc d) n
good_deeper p q R d n is good = record {
  at = λ ts h.
      deeper_outcome p q R d ts is (p (suc d) ts) (subst (λ r. Outcome q R d ts r) (sym (is d ts)) (good.at ts h));
}
