-- What every reader keeps to, and that readers put together keep to it.
--
-- Where a reader reads a part, the tokens in front of the rest spell it, and it is read again at every
-- greater depth whatever follows the first token of the rest. Where it stops, the tokens in front of the
-- rest can be completed to a part, and it stops there again whatever follows that token.
use Rattle.std.specs.Prelude.{◌≡◌, ℕ, zero, suc, ◌<◌, ◌≤◌, ◌+◌, ◌⊎◌, Bool, true, false, cond, List, [], ◌∷◌, ◌++◌, length, Ok, Err, Option, Some, None}
use Rattle.std.proofs.Common.{refl, sym, ap, subst, ◌∙◌, inl, inr, append_assoc, arith, length-append}
use Rattle.uvl_base.specs.declared.place.Place.{Place}
use Rattle.uvl_lexer.specs.declared.token.Token.{Token}
use Rattle.uvl_lexer.specs.declared.token.TokenKind.{TokenKind}
use Rattle.uvl_grammar.specs.steps.Tests.{Test}
use Rattle.uvl_grammar.specs.Shapes.{Spelling, Repeated, None_more, One_more}
use Rattle.uvl_grammar.specs.steps.Reading.{Read, Reader, ◌>>=◌, done, bind, one, accept, accepted, choose, repeat, many, closed}

-- ---- two rests that begin with one token

abbrev pub SameHead : List Token → List Token → Type 0
SameHead [] [] = Unit {0}
SameHead (t ∷ ts) (u ∷ us) = t ≡ u
SameHead [] (u ∷ us) = ⊥
SameHead (t ∷ ts) [] = ⊥

pub same_head : (ts : List Token) → SameHead ts ts
unfolding bind one accept choose done many closed
same_head [] = tt
same_head (t ∷ ts) = refl

pub same_behind : (xs ts us : List Token) → SameHead ts us → SameHead (xs ++ ts) (xs ++ us)
unfolding bind one accept choose done many closed
same_behind [] ts us same = same
same_behind (x ∷ xs) ts us same = refl

-- ---- the property

pub record ReadsOn {A : Type 0} (p : ℕ → Reader A) (R : Spelling A) (depth : ℕ) (ts : List Token) (value : A) (rest : List Token) : Type 0 where
  pub front : List Token
  pub splits : ts ≡ front ++ rest
  pub spelled : R front value
  pub again : (m : ℕ) → depth ≤ m → (later : List Token) → SameHead rest later → p m (front ++ later) ≡ Ok (value, later)

pub record StopsAt {A : Type 0} (p : ℕ → Reader A) (R : Spelling A) (depth : ℕ) (ts : List Token) (left : ℕ) : Type 0 where
  pub front : List Token
  pub rest : List Token
  pub splits : ts ≡ front ++ rest
  pub count : left ≡ length rest
  pub more : List Token
  pub value : A
  pub completed : R (front ++ more) value
  pub again : (m : ℕ) → depth ≤ m → (later : List Token) → SameHead rest later → p m (front ++ later) ≡ Err (length later)

abbrev pub Outcome : {A : Type 0} → (ℕ → Reader A) → Spelling A → ℕ → List Token → Read A → Type 0
Outcome p R depth ts (Ok r) = ReadsOn p R depth ts r.0 r.1
Outcome p R depth ts (Err left) = StopsAt p R depth ts left

-- a reader of this depth keeps to it on lists of fewer than so many tokens
pub record Good {A : Type 0} (p : ℕ → Reader A) (R : Spelling A) (depth bound : ℕ) : Type 0 where
  pub at : (ts : List Token) → length ts < bound → Outcome p R depth ts (p depth ts)

-- ---- what is spelled in another way

pub weaken_outcome : {A : Type 0} (p : ℕ → Reader A) (R S : Spelling A) (d : ℕ) (ts : List Token)
    → ((xs : List Token) (v : A) → R xs v → S xs v) → (r : Read A) → Outcome p R d ts r → Outcome p S d ts r
unfolding bind one accept choose done many closed
weaken_outcome p R S d ts f (Ok r) o =
    record { front = o.front; splits = o.splits; spelled = f _ _ o.spelled; again = o.again }
weaken_outcome p R S d ts f (Err left) o = record {
  front = o.front;
  rest = o.rest;
  splits = o.splits;
  count = o.count;
  more = o.more;
  value = o.value;
  completed = f _ _ o.completed;
  again = o.again;
}

pub weaken : {A : Type 0} (p : ℕ → Reader A) (R S : Spelling A) (d n : ℕ)
    → ((xs : List Token) (v : A) → R xs v → S xs v) → Good p R d n → Good p S d n
unfolding bind one accept choose done many closed
weaken p R S d n f good = record { at = λ ts h. weaken_outcome p R S d ts f (p d ts) (good.at ts h) }

-- ---- some part there is

pub record Example {A : Type 0} (R : Spelling A) : Type 0 where
  pub tokens : List Token
  pub value : A
  pub spelled : R tokens value

no_front : (xs ys : List Token) → [] ≡ xs ++ ys → xs ≡ []
unfolding bind one accept choose done many closed
no_front [] ys e = refl
no_front (x ∷ xs) ys e = cc

pub example_of : {A : Type 0} (p : ℕ → Reader A) (R : Spelling A) (d : ℕ) (r : Read A) → Outcome p R d [] r → Example R
unfolding bind one accept choose done many closed
example_of p R d (Ok r) o = record { tokens = o.front; value = r.0; spelled = o.spelled }
example_of p R d (Err left) o = record { tokens = o.front ++ o.more; value = o.value; spelled = o.completed }

pub example : {A : Type 0} (p : ℕ → Reader A) (R : Spelling A) (d n : ℕ) → Good p R d n → 0 < n → Example R
unfolding bind one accept choose done many closed
example p R d n good some = example_of p R d (p d []) (good.at [] some)

-- ---- one behind the other

pub record Then {A B : Type 0} (R : Spelling A) (S : A → Spelling B) (ts : List Token) (w : B) : Type 0 where
  pub front : List Token
  pub back : List Token
  pub middle : A
  pub joins : ts ≡ front ++ back
  pub first : R front middle
  pub second : S middle back w

module _ {A B : Type 0} (p : ℕ → Reader A) (f : ℕ → A → Reader B) (R : Spelling A) (S : A → Spelling B) (d : ℕ) where
  both : ℕ → Reader B
  unfolding bind one accept choose done many closed
  both m = bind (p m) (f m)

  pub second_of : (ts : List Token) (v : A) (rest : List Token) → ReadsOn p R d ts v rest
      → (q : Read B) → Outcome (λ m. f m v) (S v) d rest q → Outcome (λ m. bind (p m) (f m)) (Then R S) d ts q
  unfolding bind one accept choose done many closed
  second_of ts v rest o (Ok x) o2 = record {
    front = o.front ++ o2.front;
    splits = o.splits ∙ ap (λ z. o.front ++ z) o2.splits ∙ sym (append_assoc o.front o2.front x.1);
    spelled = record { front = o.front; back = o2.front; middle = v; joins = refl; first = o.spelled; second = o2.spelled };
    again = λ m le later same.
        ap (bind (p m) (f m)) (append_assoc o.front o2.front later)
        ∙ ap (λ r. r >>= λ z. f m z.0 z.1) (o.again m le (o2.front ++ later)
        (subst (λ z. SameHead z (o2.front ++ later)) (sym o2.splits) (same_behind o2.front x.1 later same)))
        ∙ o2.again m le later same;
  }
  second_of ts v rest o (Err left) o2 = record {
    front = o.front ++ o2.front;
    rest = o2.rest;
    splits = o.splits ∙ ap (λ z. o.front ++ z) o2.splits ∙ sym (append_assoc o.front o2.front o2.rest);
    count = o2.count;
    more = o2.more;
    value = o2.value;
    completed = record {
      front = o.front;
      back = o2.front ++ o2.more;
      middle = v;
      joins = append_assoc o.front o2.front o2.more;
      first = o.spelled;
      second = o2.completed;
    };
    again = λ m le later same.
        ap (bind (p m) (f m)) (append_assoc o.front o2.front later)
        ∙ ap (λ r. r >>= λ z. f m z.0 z.1) (o.again m le (o2.front ++ later)
        (subst (λ z. SameHead z (o2.front ++ later)) (sym o2.splits) (same_behind o2.front o2.rest later same)))
        ∙ o2.again m le later same;
  }

  first_of_both : (n : ℕ) → ((v : A) → Good (λ m. f m v) (S v) d n) → (ts : List Token) → length ts < n
      → (r : Read A) → Outcome p R d ts r → Outcome (λ m. bind (p m) (f m)) (Then R S) d ts (r >>= λ z. f d z.0 z.1)
  unfolding bind one accept choose done many closed
  first_of_both n goods ts h (Ok r) o =
      let shorter : length r.1 < n = omega (arith, ap length o.splits, length-append o.front r.1) in
      second_of ts r.0 r.1 o (f d r.0 r.1) ((goods r.0).at r.1 shorter)
  first_of_both n goods ts h (Err left) o =
      let some : 0 < n = omega arith in
      let last = example (λ m. f m o.value) (S o.value) d n (goods o.value) some in
      record {
        front = o.front;
        rest = o.rest;
        splits = o.splits;
        count = o.count;
        more = o.more ++ last.tokens;
        value = last.value;
        completed = record {
          front = o.front ++ o.more;
          back = last.tokens;
          middle = o.value;
          joins = sym (append_assoc o.front o.more last.tokens);
          first = o.completed;
          second = last.spelled;
        };
        again = λ m le later same. ap (λ r. r >>= λ z. f m z.0 z.1) (o.again m le later same);
      }

  pub good_bind : (n : ℕ) → Good p R d n → ((v : A) → Good (λ m. f m v) (S v) d n)
      → Good (λ m. bind (p m) (f m)) (Then R S) d n
  unfolding bind one accept choose done many closed
  good_bind n good goods = record { at = λ ts h. first_of_both n goods ts h (p d ts) (good.at ts h) }

-- ---- one token

pub record IsOne (test : Test) (ts : List Token) (place : Place) : Type 0 where
  pub token : Token
  pub alone : ts ≡ token ∷ []
  pub passes : test token.kind ≡ true
  pub stands : place ≡ token.place

pub one_passes : (test : Test) (t : Token) (ts : List Token) → test t.kind ≡ true → one test (t ∷ ts) ≡ Ok (t.place, ts)
unfolding bind one accept choose done many closed
one_passes test t ts e = ap (λ b. cond b (Ok (t.place, ts)) (Err (suc (length ts)))) e

pub one_fails : (test : Test) (t : Token) (ts : List Token) → test t.kind ≡ false → one test (t ∷ ts) ≡ Err (suc (length ts))
unfolding bind one accept choose done many closed
one_fails test t ts e = ap (λ b. cond b (Ok (t.place, ts)) (Err (suc (length ts)))) e

one_fails_there : (test : Test) (t : Token) (ts later : List Token) → test t.kind ≡ false → SameHead (t ∷ ts) later
    → one test later ≡ Err (length later)
unfolding bind one accept choose done many closed
one_fails_there test t ts [] e same = absurd same
one_fails_there test t ts (u ∷ us) e same = one_fails test u us (subst (λ (z : Token). test z.kind ≡ false) same e)

one_ends_there : (test : Test) (later : List Token) → SameHead [] later → one test later ≡ Err (length later)
unfolding bind one accept choose done many closed
one_ends_there test [] same = refl
one_ends_there test (u ∷ us) same = absurd same

module _ (test : Test) (sample : Token) (fits : test sample.kind ≡ true) (d : ℕ) where
  one_token : (t : Token) (ts : List Token) (b : Bool) → test t.kind ≡ b
      → Outcome (λ m. one test) (IsOne test) d (t ∷ ts) (cond b (Ok (t.place, ts)) (Err (suc (length ts))))
  unfolding bind one accept choose done many closed
  one_token t ts true e = record {
    front = t ∷ [];
    splits = refl;
    spelled = record { token = t; alone = refl; passes = e; stands = refl };
    again = λ m le later same. one_passes test t later e;
  }
  one_token t ts false e = record {
    front = [];
    rest = t ∷ ts;
    splits = refl;
    count = refl;
    more = sample ∷ [];
    value = sample.place;
    completed = record { token = sample; alone = refl; passes = fits; stands = refl };
    again = λ m le later same. one_fails_there test t ts later e same;
  }

  one_list : (ts : List Token) → Outcome (λ m. one test) (IsOne test) d ts (one test ts)
  unfolding bind one accept choose done many closed
  one_list [] = record {
    front = [];
    rest = [];
    splits = refl;
    count = refl;
    more = sample ∷ [];
    value = sample.place;
    completed = record { token = sample; alone = refl; passes = fits; stands = refl };
    again = λ m le later same. one_ends_there test later same;
  }
  one_list (t ∷ ts) = one_token t ts (test t.kind) refl

  pub good_one : (n : ℕ) → Good (λ m. one test) (IsOne test) d n
  unfolding bind one accept choose done many closed
  good_one n = record { at = λ ts h. one_list ts }

-- ---- a token that is something

pub record IsAccepted {A : Type 0} (f : TokenKind → Option A) (ts : List Token) (value : A × Place) : Type 0 where
  pub token : Token
  pub alone : ts ≡ token ∷ []
  pub gives : f token.kind ≡ Some value.0
  pub stands : value.1 ≡ token.place

module _ {A : Type 0} (f : TokenKind → Option A) where
  accept_fails_there : (t : Token) (ts later : List Token) → f t.kind ≡ None → SameHead (t ∷ ts) later
      → accept f later ≡ Err (length later)
  unfolding bind one accept choose done many closed
  accept_fails_there t ts [] e same = absurd same
  accept_fails_there t ts (u ∷ us) e same =
      ap (λ o. accepted o u us) (subst (λ (z : Token). f z.kind ≡ None) same e)

  accept_ends_there : (later : List Token) → SameHead [] later → accept f later ≡ Err (length later)
  unfolding bind one accept choose done many closed
  accept_ends_there [] same = refl
  accept_ends_there (u ∷ us) same = absurd same

module _ {A : Type 0} (f : TokenKind → Option A) (sample : Token) (value : A) (fits : f sample.kind ≡ Some value) (d : ℕ) where
  accept_token : (t : Token) (ts : List Token) (o : Option A) → f t.kind ≡ o
      → Outcome (λ m. accept f) (IsAccepted f) d (t ∷ ts) (accepted o t ts)
  unfolding bind one accept choose done many closed
  accept_token t ts (Some a) e = record {
    front = t ∷ [];
    splits = refl;
    spelled = record { token = t; alone = refl; gives = e; stands = refl };
    again = λ m le later same. ap (λ o. accepted o t later) e;
  }
  accept_token t ts None e = record {
    front = [];
    rest = t ∷ ts;
    splits = refl;
    count = refl;
    more = sample ∷ [];
    value = (value, sample.place);
    completed = record { token = sample; alone = refl; gives = fits; stands = refl };
    again = λ m le later same. accept_fails_there f t ts later e same;
  }

  accept_list : (ts : List Token) → Outcome (λ m. accept f) (IsAccepted f) d ts (accept f ts)
  unfolding bind one accept choose done many closed
  accept_list [] = record {
    front = [];
    rest = [];
    splits = refl;
    count = refl;
    more = sample ∷ [];
    value = (value, sample.place);
    completed = record { token = sample; alone = refl; gives = fits; stands = refl };
    again = λ m le later same. accept_ends_there f later same;
  }
  accept_list (t ∷ ts) = accept_token t ts (f t.kind) refl

  pub good_accept : (n : ℕ) → Good (λ m. accept f) (IsAccepted f) d n
  unfolding bind one accept choose done many closed
  good_accept n = record { at = λ ts h. accept_list ts }

-- ---- nothing

pub record IsDone {A : Type 0} (a : A) (ts : List Token) (value : A) : Type 0 where
  pub nothing : ts ≡ []
  pub gives : value ≡ a

pub good_done : {A : Type 0} (a : A) (d n : ℕ) → Good (λ m. done a) (IsDone a) d n
unfolding bind one accept choose done many closed
good_done a d n = record {
  at = λ ts h. record {
    front = [];
    splits = refl;
    spelled = record { nothing = refl; gives = refl };
    again = λ m le later same. refl;
  };
}

-- ---- one of two

abbrev pub Either : {A : Type 0} → Spelling A → Spelling A → Spelling A
Either R S ts v = R ts v ⊎ S ts v

module _ {A : Type 0} (test : Test) (p q : ℕ → Reader A) where
  -- a choice by a token that passes, or not
  chose_first : (t : Token) (ts : List Token) (m : ℕ) → test t.kind ≡ true → choose test (p m) (q m) (t ∷ ts) ≡ p m (t ∷ ts)
  unfolding bind one accept choose done many closed
  chose_first t ts m e = ap (λ b. cond b (p m (t ∷ ts)) (q m (t ∷ ts))) e

  chose_second : (t : Token) (ts : List Token) (m : ℕ) → test t.kind ≡ false → choose test (p m) (q m) (t ∷ ts) ≡ q m (t ∷ ts)
  unfolding bind one accept choose done many closed
  chose_second t ts m e = ap (λ b. cond b (p m (t ∷ ts)) (q m (t ∷ ts))) e

  -- whatever list begins with this token is read by the first
  pub first_along : (t : Token) (ts us : List Token) (m : ℕ) → test t.kind ≡ true → SameHead (t ∷ ts) us
      → choose test (p m) (q m) us ≡ p m us
  unfolding bind one accept choose done many closed
  first_along t ts [] m e same = absurd same
  first_along t ts (u ∷ us) m e same = chose_first u us m (subst (λ (z : Token). test z.kind ≡ true) same e)

  pub second_along : (t : Token) (ts us : List Token) (m : ℕ) → test t.kind ≡ false → SameHead (t ∷ ts) us
      → choose test (p m) (q m) us ≡ q m us
  unfolding bind one accept choose done many closed
  second_along t ts [] m e same = absurd same
  second_along t ts (u ∷ us) m e same = chose_second u us m (subst (λ (z : Token). test z.kind ≡ false) same e)

  pub nothing_along : (us : List Token) (m : ℕ) → SameHead [] us → choose test (p m) (q m) us ≡ q m us
  unfolding bind one accept choose done many closed
  nothing_along [] m same = refl
  nothing_along (u ∷ us) m same = absurd same

pub along : (ts front rest later : List Token) → ts ≡ front ++ rest → SameHead rest later → SameHead ts (front ++ later)
unfolding bind one accept choose done many closed
along ts front rest later e same = subst (λ z. SameHead z (front ++ later)) (sym e) (same_behind front rest later same)

-- the outcome of a reader that goes on as another does wherever the first token is the same
pub follow_outcome : {A : Type 0} (p q : ℕ → Reader A) (R : Spelling A) (d : ℕ) (ts : List Token)
    → ((m : ℕ) (us : List Token) → SameHead ts us → q m us ≡ p m us)
    → (r : Read A) → Outcome p R d ts r → Outcome q R d ts r
unfolding bind one accept choose done many closed
follow_outcome p q R d ts f (Ok r) o = record {
  front = o.front;
  splits = o.splits;
  spelled = o.spelled;
  again = λ m le later same. f m (o.front ++ later) (along ts o.front r.1 later o.splits same) ∙ o.again m le later same;
}
follow_outcome p q R d ts f (Err left) o = record {
  front = o.front;
  rest = o.rest;
  splits = o.splits;
  count = o.count;
  more = o.more;
  value = o.value;
  completed = o.completed;
  again = λ m le later same. f m (o.front ++ later) (along ts o.front o.rest later o.splits same) ∙ o.again m le later same;
}

module _ {A : Type 0} (test : Test) (p q : ℕ → Reader A) (R S : Spelling A) (d n : ℕ)
    (good : Good p R d n) (other : Good q S d n) where
  choose_token : (t : Token) (ts : List Token) → length (t ∷ ts) < n → (b : Bool) → test t.kind ≡ b
      → Outcome (λ m. choose test (p m) (q m)) (Either R S) d (t ∷ ts) (cond b (p d (t ∷ ts)) (q d (t ∷ ts)))
  unfolding bind one accept choose done many closed
  choose_token t ts h true e =
      weaken_outcome (λ m. choose test (p m) (q m)) R (Either R S) d (t ∷ ts) (λ xs v spelled. inl spelled) (p d (t ∷ ts))
      (follow_outcome p (λ m. choose test (p m) (q m)) R d (t ∷ ts) (λ m us same. first_along test p q t ts us m e same)
      (p d (t ∷ ts)) (good.at (t ∷ ts) h))
  choose_token t ts h false e =
      weaken_outcome (λ m. choose test (p m) (q m)) S (Either R S) d (t ∷ ts) (λ xs v spelled. inr spelled) (q d (t ∷ ts))
      (follow_outcome q (λ m. choose test (p m) (q m)) S d (t ∷ ts) (λ m us same. second_along test p q t ts us m e same)
      (q d (t ∷ ts)) (other.at (t ∷ ts) h))

  choose_list : (ts : List Token) → length ts < n
      → Outcome (λ m. choose test (p m) (q m)) (Either R S) d ts (choose test (p d) (q d) ts)
  unfolding bind one accept choose done many closed
  choose_list [] h =
      weaken_outcome (λ m. choose test (p m) (q m)) S (Either R S) d [] (λ xs v spelled. inr spelled) (q d [])
      (follow_outcome q (λ m. choose test (p m) (q m)) S d [] (λ m us same. nothing_along test p q us m same)
      (q d []) (other.at [] h))
  choose_list (t ∷ ts) h = choose_token t ts h (test t.kind) refl

  pub good_choose : Good (λ m. choose test (p m) (q m)) (Either R S) d n
  unfolding bind one accept choose done many closed
  good_choose = record { at = λ ts h. choose_list ts h }

-- ---- none or more

-- parts have a token at least
abbrev pub HasToken : {A : Type 0} → Spelling A → Type 0
HasToken {A} R = (xs : List Token) (v : A) → R xs v → 0 < length xs

-- what the repeated reader keeps to, where it has as many turns as there are tokens
pub record RepeatsOn {A : Type 0} (test : Test) (p : ℕ → Reader A) (R : Spelling A) (depth : ℕ) (ts : List Token) (value : List A) (rest : List Token) : Type 0 where
  front : List Token
  splits : ts ≡ front ++ rest
  spelled : Repeated R front value
  again : (m k : ℕ) → depth ≤ m → (later : List Token) → SameHead rest later → length (front ++ later) ≤ k
      → repeat k test (p m) (front ++ later) ≡ Ok (value, later)

pub record RepeatStops {A : Type 0} (test : Test) (p : ℕ → Reader A) (R : Spelling A) (depth : ℕ) (ts : List Token) (left : ℕ) : Type 0 where
  front : List Token
  rest : List Token
  splits : ts ≡ front ++ rest
  count : left ≡ length rest
  more : List Token
  value : List A
  completed : Repeated R (front ++ more) value
  again : (m k : ℕ) → depth ≤ m → (later : List Token) → SameHead rest later → length (front ++ later) ≤ k
      → repeat k test (p m) (front ++ later) ≡ Err (length later)

abbrev Repeats : {A : Type 0} → Test → (ℕ → Reader A) → Spelling A → ℕ → List Token → Read (List A) → Type 0
Repeats test p R depth ts (Ok r) = RepeatsOn test p R depth ts r.0 r.1
Repeats test p R depth ts (Err left) = RepeatStops test p R depth ts left

-- a turn and the turns behind it
abbrev turn : {A : Type 0} → ℕ → Test → Reader A → Reader (List A)
turn n test q = bind q (λ a. bind (repeat n test q) (λ items. done (a ∷ items)))

-- what the turns behind a turn make of its part
abbrev put_front : {A : Type 0} → A → Read (List A) → Read (List A)
put_front a r = r >>= λ z. Ok (a ∷ z.0, z.1)

module _ {A : Type 0} (test : Test) (q : Reader A) where
  turns_nothing : (k : ℕ) (later : List Token) → SameHead [] later → repeat k test q later ≡ Ok ([], later)
  unfolding repeat bind one accept choose done many closed
  turns_nothing zero [] same = refl
  turns_nothing (suc k) [] same = refl
  turns_nothing k (u ∷ us) same = absurd same

  turns_end : (t : Token) (ts : List Token) (k : ℕ) (later : List Token) → test t.kind ≡ false → SameHead (t ∷ ts) later
      → repeat k test q later ≡ Ok ([], later)
  unfolding repeat bind one accept choose done many closed
  turns_end t ts zero later e same = refl
  turns_end t ts (suc k) [] e same = absurd same
  turns_end t ts (suc k) (u ∷ us) e same =
      ap (λ b. cond b (turn k test q (u ∷ us)) (Ok ([], u ∷ us))) (subst (λ (z : Token). test z.kind ≡ false) same e)

  turns_on : (t : Token) (ts : List Token) (k : ℕ) (later : List Token) → test t.kind ≡ true → SameHead (t ∷ ts) later
      → repeat (suc k) test q later ≡ turn k test q later
  unfolding repeat bind one accept choose done many closed
  turns_on t ts k [] e same = absurd same
  turns_on t ts k (u ∷ us) e same =
      ap (λ b. cond b (turn k test q (u ∷ us)) (Ok ([], u ∷ us))) (subst (λ (z : Token). test z.kind ≡ true) same e)

  -- there is a turn where there is a token
  turns_from : (t : Token) (ts : List Token) (k : ℕ) (later : List Token) → test t.kind ≡ true → SameHead (t ∷ ts) later
      → length later ≤ k → (j : ℕ) × (k ≡ suc j) × (repeat k test q later ≡ turn j test q later)
  unfolding bind one accept choose done many closed
  turns_from t ts k [] e same le = absurd same
  turns_from t ts zero (u ∷ us) e same le = absurd (omega arith)
  turns_from t ts (suc k) (u ∷ us) e same le = (k, refl, turns_on t ts k (u ∷ us) e same)

module _ {A : Type 0} (test : Test) (p : ℕ → Reader A) (R : Spelling A) (d n : ℕ) (good : Good p R d n) (has : HasToken R) where
  -- a part, and then the turns behind it
  turn_behind : (t : Token) (ts : List Token) → test t.kind ≡ true → (a : A) (rest : List Token) → ReadsOn p R d (t ∷ ts) a rest
      → (r : Read (List A)) → Repeats test p R d rest r → Repeats test p R d (t ∷ ts) (put_front a r)
  unfolding bind one accept choose done many closed
  turn_behind t ts e a rest o (Ok x) o2 = record {
    front = o.front ++ o2.front;
    splits = o.splits ∙ ap (λ z. o.front ++ z) o2.splits ∙ sym (append_assoc o.front o2.front x.1);
    spelled = One_more o.spelled o2.spelled;
    again = λ m k le later same fits.
        let regrouped = append_assoc o.front o2.front later in
        let begins = subst (λ (z : List Token). SameHead (t ∷ ts) z) regrouped (along (t ∷ ts) (o.front ++ o2.front) x.1 later (o.splits ∙ ap (λ z. o.front ++ z) o2.splits ∙ sym (append_assoc o.front o2.front x.1)) same) in
        let within : length (o.front ++ (o2.front ++ later)) ≤ k = subst (λ (z : List Token). length z ≤ k) regrouped fits in
        let first = turns_from test (p m) t ts k (o.front ++ (o2.front ++ later)) e begins within in
        let shorter : length (o2.front ++ later) ≤ first.0 = omega (arith, has o.front a o.spelled, length-append o.front (o2.front ++ later), first.1) in
        ap (repeat k test (p m)) regrouped ∙ first.2
        ∙ ap (λ r. r >>= λ z. put_front z.0 (repeat first.0 test (p m) z.1)) (o.again m le (o2.front ++ later) (subst (λ z. SameHead z (o2.front ++ later)) (sym o2.splits) (same_behind o2.front x.1 later same)))
        ∙ ap (put_front a) (o2.again m first.0 le later same shorter);
  }
  turn_behind t ts e a rest o (Err left) o2 = record {
    front = o.front ++ o2.front;
    rest = o2.rest;
    splits = o.splits ∙ ap (λ z. o.front ++ z) o2.splits ∙ sym (append_assoc o.front o2.front o2.rest);
    count = o2.count;
    more = o2.more;
    value = a ∷ o2.value;
    completed = subst (λ (z : List Token). Repeated R z (a ∷ o2.value)) (sym (append_assoc o.front o2.front o2.more)) (One_more o.spelled o2.completed);
    again = λ m k le later same fits.
        let regrouped = append_assoc o.front o2.front later in
        let begins = subst (λ (z : List Token). SameHead (t ∷ ts) z) regrouped (along (t ∷ ts) (o.front ++ o2.front) o2.rest later (o.splits ∙ ap (λ z. o.front ++ z) o2.splits ∙ sym (append_assoc o.front o2.front o2.rest)) same) in
        let within : length (o.front ++ (o2.front ++ later)) ≤ k = subst (λ (z : List Token). length z ≤ k) regrouped fits in
        let first = turns_from test (p m) t ts k (o.front ++ (o2.front ++ later)) e begins within in
        let shorter : length (o2.front ++ later) ≤ first.0 = omega (arith, has o.front a o.spelled, length-append o.front (o2.front ++ later), first.1) in
        ap (repeat k test (p m)) regrouped ∙ first.2
        ∙ ap (λ r. r >>= λ z. put_front z.0 (repeat first.0 test (p m) z.1)) (o.again m le (o2.front ++ later) (subst (λ z. SameHead z (o2.front ++ later)) (sym o2.splits) (same_behind o2.front o2.rest later same)))
        ∙ ap (put_front a) (o2.again m first.0 le later same shorter);
  }

  -- a turn, where the turns behind it keep to it
  turn_at : (t : Token) (ts : List Token) → test t.kind ≡ true → (k : ℕ) → length (t ∷ ts) ≤ suc k → length (t ∷ ts) < n
      → ((rest : List Token) → length rest ≤ k → length rest < n → Repeats test p R d rest (repeat k test (p d) rest))
      → (r : Read A) → Outcome p R d (t ∷ ts) r
      → Repeats test p R d (t ∷ ts) (r >>= λ z. put_front z.0 (repeat k test (p d) z.1))
  unfolding bind one accept choose done many closed
  turn_at t ts e k fits short others (Ok r) o =
      let total : length (t ∷ ts) ≡ length o.front + length r.1 = ap length o.splits ∙ length-append o.front r.1 in
      turn_behind t ts e r.0 r.1 o (repeat k test (p d) r.1)
      (others r.1 (omega (arith, has o.front r.0 o.spelled, total)) (omega (arith, total)))
  turn_at t ts e k fits short others (Err left) o = record {
    front = o.front;
    rest = o.rest;
    splits = o.splits;
    count = o.count;
    more = o.more ++ [];
    value = o.value ∷ [];
    completed = subst (λ (z : List Token). Repeated R z (o.value ∷ [])) (append_assoc o.front o.more []) (One_more o.completed None_more);
    again = λ m j le later same within.
        let first = turns_from test (p m) t ts j (o.front ++ later) e (along (t ∷ ts) o.front o.rest later o.splits same) within in
        first.2 ∙ ap (λ r. r >>= λ z. put_front z.0 (repeat first.0 test (p m) z.1)) (o.again m le later same);
  }

  nothing_repeated : (ts : List Token) → ((m k : ℕ) (later : List Token) → SameHead ts later → repeat k test (p m) later ≡ Ok ([], later))
      → RepeatsOn test p R d ts [] ts
  unfolding bind one accept choose done many closed
  nothing_repeated ts ends = record {
    front = [];
    splits = refl;
    spelled = None_more;
    again = λ m k le later same fits. ends m k later same;
  }

  repeats_token : (k : ℕ) (t : Token) (ts : List Token) → length (t ∷ ts) ≤ suc k → length (t ∷ ts) < n
      → ((rest : List Token) → length rest ≤ k → length rest < n → Repeats test p R d rest (repeat k test (p d) rest))
      → (b : Bool) → test t.kind ≡ b
      → Repeats test p R d (t ∷ ts) (cond b (turn k test (p d) (t ∷ ts)) (Ok ([], t ∷ ts)))
  unfolding bind one accept choose done many closed
  repeats_token k t ts fits short others true e = turn_at t ts e k fits short others (p d (t ∷ ts)) (good.at (t ∷ ts) short)
  repeats_token k t ts fits short others false e =
      nothing_repeated (t ∷ ts) (λ m j later same. turns_end test (p m) t ts j later e same)

  repeats : (k : ℕ) (ts : List Token) → length ts ≤ k → length ts < n → Repeats test p R d ts (repeat k test (p d) ts)
  unfolding repeat bind one accept choose done many closed
  repeats zero [] fits short = nothing_repeated [] (λ m j later same. turns_nothing test (p m) j later same)
  repeats zero (t ∷ ts) fits short = absurd (omega arith)
  repeats (suc k) [] fits short = nothing_repeated [] (λ m j later same. turns_nothing test (p m) j later same)
  repeats (suc k) (t ∷ ts) fits short = repeats_token k t ts fits short (repeats k) (test t.kind) refl

  many_outcome : (ts : List Token) (r : Read (List A)) → Repeats test p R d ts r → Outcome (λ m. many test (p m)) (Repeated R) d ts r
  unfolding bind one accept choose done many closed
  many_outcome ts (Ok r) o = record {
    front = o.front;
    splits = o.splits;
    spelled = o.spelled;
    again = λ m le later same. o.again m (length (o.front ++ later)) le later same (omega arith);
  }
  many_outcome ts (Err left) o = record {
    front = o.front;
    rest = o.rest;
    splits = o.splits;
    count = o.count;
    more = o.more;
    value = o.value;
    completed = o.completed;
    again = λ m le later same. o.again m (length (o.front ++ later)) le later same (omega arith);
  }

  pub good_many : Good (λ m. many test (p m)) (Repeated R) d n
  unfolding bind one accept choose done many closed
  good_many = record { at = λ ts h. many_outcome ts (many test (p d) ts) (repeats (length ts) ts (omega arith) h) }

-- ---- however deep

-- at every greater depth a list is read as at one that is above its length
settled : {A : Type 0} (p : ℕ → Reader A) (R : Spelling A) (d m : ℕ) → d ≤ m → (ts : List Token) (r : Read A) → Outcome p R d ts r → p m ts ≡ r
unfolding bind one accept choose done many closed
settled p R d m le ts (Ok r) o = ap (p m) o.splits ∙ o.again m le r.1 (same_head r.1)
settled p R d m le ts (Err left) o = ap (p m) o.splits ∙ o.again m le o.rest (same_head o.rest) ∙ ap Err (sym o.count)

abbrev pub AtSomeDepth : {A : Type 0} → (ℕ → Spelling A) → Spelling A
AtSomeDepth R xs v = (depth : ℕ) × R depth xs v

module _ {A : Type 0} (p : ℕ → Reader A) (R : ℕ → Spelling A) (goods : (d : ℕ) → Good p (R d) d d) where
  pub settle : (ts : List Token) (d m : ℕ) → length ts < d → d ≤ m → p m ts ≡ p d ts
  unfolding bind one accept choose done many closed
  settle ts d m h le = settled p (R d) d m le ts (p d ts) ((goods d).at ts h)

  -- what is read at some greater depth is read as far as it needs
  pub closed_by : (ts : List Token) (d : ℕ) (r : Read A) → p (d + suc (length ts)) ts ≡ r → closed p ts ≡ r
  unfolding bind one accept choose done many closed
  closed_by ts d r e = sym (settle ts (suc (length ts)) (d + suc (length ts)) (omega arith) (omega arith)) ∙ e

  closed_outcome : (d : ℕ) (ts : List Token) (r : Read A) → Outcome p (R (suc (length ts))) (suc (length ts)) ts r
      → Outcome (λ m. closed p) (AtSomeDepth R) d ts r
  unfolding bind one accept choose done many closed
  closed_outcome d ts (Ok r) o = record {
    front = o.front;
    splits = o.splits;
    spelled = (suc (length ts), o.spelled);
    again = λ m le later same. closed_by (o.front ++ later) (suc (length ts)) (Ok (r.0, later))
        (o.again (suc (length ts) + suc (length (o.front ++ later))) (omega arith) later same);
  }
  closed_outcome d ts (Err left) o = record {
    front = o.front;
    rest = o.rest;
    splits = o.splits;
    count = o.count;
    more = o.more;
    value = o.value;
    completed = (suc (length ts), o.completed);
    again = λ m le later same. closed_by (o.front ++ later) (suc (length ts)) (Err (length later))
        (o.again (suc (length ts) + suc (length (o.front ++ later))) (omega arith) later same);
  }

  pub good_closed : (d n : ℕ) → Good (λ m. closed p) (AtSomeDepth R) d n
  unfolding bind one accept choose done many closed
  good_closed d n = record { at = λ ts h. closed_outcome d ts (closed p ts) ((goods (suc (length ts))).at ts (omega arith)) }

-- ---- the same, with what the arguments tell left out

pub then_good : {A B : Type 0} {p : ℕ → Reader A} {f : ℕ → A → Reader B} {R : Spelling A} {S : A → Spelling B} {d n : ℕ}
    → Good p R d n → ((v : A) → Good (λ m. f m v) (S v) d n) → Good (λ m. bind (p m) (f m)) (Then R S) d n
then_good {p} {f} {R} {S} {d} {n} good goods = good_bind p f R S d n good goods

pub spelled_so : {A : Type 0} {p : ℕ → Reader A} {R S : Spelling A} {d n : ℕ}
    → ((xs : List Token) (v : A) → R xs v → S xs v) → Good p R d n → Good p S d n
spelled_so {p} {R} {S} {d} {n} f good = weaken p R S d n f good

pub done_good : {A : Type 0} {a : A} {d n : ℕ} → Good (λ m. done a) (IsDone a) d n
done_good {a} {d} {n} = good_done a d n

pub choose_good : {A : Type 0} (test : Test) {p q : ℕ → Reader A} {R S : Spelling A} {d n : ℕ}
    → Good p R d n → Good q S d n → Good (λ m. choose test (p m) (q m)) (Either R S) d n
choose_good test {p} {q} {R} {S} {d} {n} good other = good_choose test p q R S d n good other

pub many_good : {A : Type 0} (test : Test) {p : ℕ → Reader A} {R : Spelling A} {d n : ℕ}
    → Good p R d n → HasToken R → Good (λ m. many test (p m)) (Repeated R) d n
many_good test {p} {R} {d} {n} good has = good_many test p R d n good has

-- ---- a token, and what is behind it

pub record Opened {B : Type 0} (test : Test) (S : Place → Spelling B) (ts : List Token) (w : B) : Type 0 where
  pub token : Token
  pub passes : test token.kind ≡ true
  pub back : List Token
  pub joins : ts ≡ token ∷ back
  pub second : S token.place back w

pub opened : {B : Type 0} {test : Test} {S : Place → Spelling B} {ts : List Token} {w : B} → Then (IsOne test) S ts w → Opened test S ts w
opened {S} {w} t = record {
  token = t.first.token;
  passes = t.first.passes;
  back = t.back;
  joins = t.joins ∙ ap (λ z. z ++ t.back) t.first.alone;
  second = subst (λ z. S z t.back w) t.first.stands t.second;
}

pub record Taken {A B : Type 0} (f : TokenKind → Option A) (S : A × Place → Spelling B) (ts : List Token) (w : B) : Type 0 where
  pub token : Token
  pub value : A
  pub gives : f token.kind ≡ Some value
  pub back : List Token
  pub joins : ts ≡ token ∷ back
  pub second : S (value, token.place) back w

pub taken : {A B : Type 0} {f : TokenKind → Option A} {S : A × Place → Spelling B} {ts : List Token} {w : B} → Then (IsAccepted f) S ts w → Taken f S ts w
taken {A} {B} {f} {S} {ts} {w} t = record {
  token = t.first.token;
  value = t.middle.0;
  gives = t.first.gives;
  back = t.back;
  joins = t.joins ∙ ap (λ z. z ++ t.back) t.first.alone;
  second = subst (λ (z : Place). S (t.middle.0, z) t.back w) t.first.stands t.second;
}

-- what is spelled, by equal tokens and as an equal tree
pub respell : {A : Type 0} (R : Spelling A) {xs ys : List Token} {v w : A} → R xs v → ys ≡ xs → w ≡ v → R ys w
respell R {xs} {ys} {v} {w} r e f = subst (λ z. R z w) (sym e) (subst (λ z. R xs z) (sym f) r)
