-- What is spelled is read: the other direction of what a reader keeps to, and how it goes through
-- readers that are put together. A part is read whole where a rest follows at which such a part stops.
use Rattle.std.specs.Prelude.{◌≡◌, ℕ, zero, suc, ◌<◌, ◌≤◌, ◌+◌, true, false, cond, List, [], ◌∷◌, ◌++◌, length, Ok, Err, Option, Some}
use Rattle.std.proofs.Common.{refl, sym, ap, subst, ◌∙◌, inl, inr, append_assoc, append-nil, arith, length-append}
use Rattle.uvl_base.specs.declared.place.Place.{Place}
use Rattle.uvl_lexer.specs.declared.token.Token.{Token}
use Rattle.uvl_lexer.specs.declared.token.TokenKind.{TokenKind}
use Rattle.uvl_grammar.specs.steps.Tests.{Test}
use Rattle.uvl_grammar.specs.Shapes.{Spelling, Repeated, None_more, One_more}
use Rattle.uvl_grammar.specs.steps.Reading.{Reader, ◌>>=◌, done, bind, one, accept, accepted, choose, repeat, many, closed}
use Rattle.uvl_grammar.proofs.Readers.{Good, Then, IsOne, IsAccepted, IsDone, Either, HasToken, AtSomeDepth, settle}

-- a rest at which something stops
abbrev pub Rest : Type 1
Rest = List Token → Type 0

pub record Complete {A : Type 0} (p : ℕ → Reader A) (R : Spelling A) (Stops : Rest) (depth : ℕ) : Type 0 where
  pub reads : (m : ℕ) → depth ≤ m → (xs : List Token) (v : A) (rest : List Token) → R xs v → Stops rest
      → p m (xs ++ rest) ≡ Ok (v, rest)

-- any rest
abbrev pub Anything : Rest
Anything rest = Unit {0}

-- a rest whose first token passes a test
abbrev pub Begins : Test → Rest
Begins test [] = ⊥
Begins test (t ∷ ts) = test t.kind ≡ true

-- a rest whose first token doesn't, where it has one
abbrev pub Avoids : Test → Rest
Avoids test [] = Unit {0}
Avoids test (t ∷ ts) = test t.kind ≡ false

pub narrow : {A : Type 0} (p : ℕ → Reader A) (R S : Spelling A) (Stops Ends : Rest) (d : ℕ)
    → ((xs : List Token) (v : A) → S xs v → R xs v) → ((rest : List Token) → Ends rest → Stops rest)
    → Complete p R Stops d → Complete p S Ends d
unfolding bind one accept choose done many closed
narrow p R S Stops Ends d f g c = record { reads = λ m le xs v rest spelled ends. c.reads m le xs v rest (f xs v spelled) (g rest ends) }

pub complete_bind : {A B : Type 0} (p : ℕ → Reader A) (f : ℕ → A → Reader B) (R : Spelling A) (S : A → Spelling B) (Stops Ends : Rest) (d : ℕ)
    → Complete p R Stops d → ((v : A) → Complete (λ m. f m v) (S v) Ends d)
    → ((v : A) (ys : List Token) (w : B) (rest : List Token) → S v ys w → Ends rest → Stops (ys ++ rest))
    → Complete (λ m. bind (p m) (f m)) (Then R S) Ends d
unfolding bind one accept choose done many closed
complete_bind p f R S Stops Ends d c cs stops = record {
  reads = λ m le xs w rest t ends.
      ap (λ z. bind (p m) (f m) (z ++ rest)) t.joins
      ∙ ap (bind (p m) (f m)) (append_assoc t.front t.back rest)
      ∙ ap (λ r. r >>= λ z. f m z.0 z.1) (c.reads m le t.front t.middle (t.back ++ rest) t.first (stops t.middle t.back w rest t.second ends))
      ∙ (cs t.middle).reads m le t.back w rest t.second ends;
}

pub complete_one : (test : Test) (d : ℕ) → Complete (λ m. one test) (IsOne test) Anything d
unfolding bind one accept choose done many closed
complete_one test d = record {
  reads = λ m le xs place rest is any.
      ap (λ z. one test (z ++ rest)) is.alone
      ∙ ap (λ b. cond b (Ok (is.token.place, rest)) (Err (suc (length rest)))) is.passes
      ∙ ap (λ z. Ok (z, rest)) (sym is.stands);
}

pub complete_accept : {A : Type 0} (f : TokenKind → Option A) (d : ℕ) → Complete (λ m. accept f) (IsAccepted f) Anything d
unfolding bind one accept choose done many closed
complete_accept f d = record {
  reads = λ m le xs value rest is any.
      ap (λ z. accept f (z ++ rest)) is.alone
      ∙ ap (λ o. accepted o is.token rest) is.gives
      ∙ ap (λ z. Ok ((value.0, z), rest)) (sym is.stands);
}

pub complete_done : {A : Type 0} (a : A) (d : ℕ) → Complete (λ m. done a) (IsDone a) Anything d
unfolding bind one accept choose done many closed
complete_done a d = record {
  reads = λ m le xs value rest is any.
      ap (λ z. done a (z ++ rest)) is.nothing ∙ ap (λ z. Ok (z, rest)) (sym is.gives);
}

module _ {A : Type 0} (test : Test) (p q : ℕ → Reader A) where
  choose_begun : (m : ℕ) (ts : List Token) → Begins test ts → choose test (p m) (q m) ts ≡ p m ts
  unfolding bind one accept choose done many closed
  choose_begun m [] begins = absurd begins
  choose_begun m (t ∷ ts) begins = ap (λ b. cond b (p m (t ∷ ts)) (q m (t ∷ ts))) begins

  choose_avoided : (m : ℕ) (ts : List Token) → Avoids test ts → choose test (p m) (q m) ts ≡ q m ts
  unfolding bind one accept choose done many closed
  choose_avoided m [] avoids = refl
  choose_avoided m (t ∷ ts) avoids = ap (λ b. cond b (p m (t ∷ ts)) (q m (t ∷ ts))) avoids

  choose_reads : (R S : Spelling A) (Stops : Rest) (d : ℕ) → Complete p R Stops d → Complete q S Stops d
      → ((xs : List Token) (v : A) (rest : List Token) → R xs v → Stops rest → Begins test (xs ++ rest))
      → ((xs : List Token) (v : A) (rest : List Token) → S xs v → Stops rest → Avoids test (xs ++ rest))
      → (m : ℕ) → d ≤ m → (xs : List Token) (v : A) (rest : List Token) → Either R S xs v → Stops rest
      → choose test (p m) (q m) (xs ++ rest) ≡ Ok (v, rest)
  unfolding bind one accept choose done many closed
  choose_reads R S Stops d c e begins avoids m le xs v rest (inl r) stops =
      choose_begun m (xs ++ rest) (begins xs v rest r stops) ∙ c.reads m le xs v rest r stops
  choose_reads R S Stops d c e begins avoids m le xs v rest (inr s) stops =
      choose_avoided m (xs ++ rest) (avoids xs v rest s stops) ∙ e.reads m le xs v rest s stops

pub complete_choose : {A : Type 0} (test : Test) (p q : ℕ → Reader A) (R S : Spelling A) (Stops : Rest) (d : ℕ)
    → Complete p R Stops d → Complete q S Stops d
    → ((xs : List Token) (v : A) (rest : List Token) → R xs v → Stops rest → Begins test (xs ++ rest))
    → ((xs : List Token) (v : A) (rest : List Token) → S xs v → Stops rest → Avoids test (xs ++ rest))
    → Complete (λ m. choose test (p m) (q m)) (Either R S) Stops d
unfolding bind one accept choose done many closed
complete_choose test p q R S Stops d c e begins avoids =
    record { reads = choose_reads test p q R S Stops d c e begins avoids }

-- ---- none or more

-- each part begins with a token that passes a test
abbrev pub PartsBegin : {A : Type 0} → Test → Spelling A → Type 0
PartsBegin {A} test R = (xs : List Token) (v : A) → R xs v → Begins test xs

begins_on : (test : Test) (xs rest : List Token) → Begins test xs → Begins test (xs ++ rest)
unfolding bind one accept choose done many closed
begins_on test [] rest begins = absurd begins
begins_on test (x ∷ xs) rest begins = begins

begins_some : (test : Test) (xs : List Token) → Begins test xs → 0 < length xs
unfolding bind one accept choose done many closed
begins_some test [] begins = absurd begins
begins_some test (x ∷ xs) begins = omega arith

pub has_token : {A : Type 0} (test : Test) (R : Spelling A) → PartsBegin test R → HasToken R
unfolding bind one accept choose done many closed
has_token test R begins xs v r = begins_some test xs (begins xs v r)

module _ {A : Type 0} (test : Test) (p : ℕ → Reader A) (R : Spelling A) (Stops : Rest) (d : ℕ)
    (c : Complete p R Stops d) (begins : PartsBegin test R)
    (at_part : (xs : List Token) (v : A) (rest : List Token) → R xs v → Stops (xs ++ rest)) where
  -- where parts or the rest follow, a part stops
  stops_there : {ys : List Token} {items : List A} → Repeated R ys items → (rest : List Token) → Stops rest → Stops (ys ++ rest)
  unfolding bind one accept choose done many closed
  stops_there None_more rest at_rest = at_rest
  stops_there (One_more {xs} {ys} {a} r rs) rest at_rest =
      subst Stops (sym (append_assoc xs ys rest)) (at_part xs a (ys ++ rest) r)

  turns_nothing : (m k : ℕ) (rest : List Token) → Avoids test rest → repeat k test (p m) rest ≡ Ok ([], rest)
  unfolding repeat bind one accept choose done many closed
  turns_nothing m zero rest avoids = refl
  turns_nothing m (suc k) [] avoids = refl
  turns_nothing m (suc k) (t ∷ ts) avoids =
      ap (λ b. cond b (bind (p m) (λ a. bind (repeat k test (p m)) (λ items. done (a ∷ items))) (t ∷ ts)) (Ok ([], t ∷ ts))) avoids

  turns_something : (m k : ℕ) (ts : List Token) → Begins test ts
      → repeat (suc k) test (p m) ts ≡ bind (p m) (λ a. bind (repeat k test (p m)) (λ items. done (a ∷ items))) ts
  unfolding repeat bind one accept choose done many closed
  turns_something m k [] begins_so = absurd begins_so
  turns_something m k (t ∷ ts) begins_so =
      ap (λ b. cond b (bind (p m) (λ a. bind (repeat k test (p m)) (λ items. done (a ∷ items))) (t ∷ ts)) (Ok ([], t ∷ ts))) begins_so

  turns : (m : ℕ) → d ≤ m → {xs : List Token} {items : List A} → Repeated R xs items → (k : ℕ) (rest : List Token)
      → length (xs ++ rest) ≤ k → Stops rest → Avoids test rest → repeat k test (p m) (xs ++ rest) ≡ Ok (items, rest)
  unfolding bind one accept choose done many closed
  turns m le None_more k rest fits at_rest avoids = turns_nothing m k rest avoids
  turns m le (One_more {xs} {ys} {a} {items} r rs) zero rest fits at_rest avoids =
      absurd (omega (arith, begins_some test xs (begins xs a r), length-append xs ys, length-append (xs ++ ys) rest))
  turns m le (One_more {xs} {ys} {a} {items} r rs) (suc k) rest fits at_rest avoids =
      let shorter : length (ys ++ rest) ≤ k =
      omega (arith, begins_some test xs (begins xs a r), length-append xs ys, length-append (xs ++ ys) rest, length-append ys rest) in
      turns_something m k ((xs ++ ys) ++ rest) (begins_on test (xs ++ ys) rest (begins_on test xs ys (begins xs a r)))
      ∙ ap (bind (p m) (λ a. bind (repeat k test (p m)) (λ items. done (a ∷ items)))) (append_assoc xs ys rest)
      ∙ ap (λ r. r >>= λ z. bind (repeat k test (p m)) (λ items. done (z.0 ∷ items)) z.1) (c.reads m le xs a (ys ++ rest) r (stops_there rs rest at_rest))
      ∙ ap (λ r. r >>= λ z. Ok (a ∷ z.0, z.1)) (turns m le rs k rest shorter at_rest avoids)

  -- the parts stop where one part does, and no other begins
  abbrev pub StopsMany : Rest
  StopsMany rest = Stops rest × Avoids test rest

  pub complete_many : Complete (λ m. many test (p m)) (Repeated R) StopsMany d
  unfolding bind one accept choose done many closed
  complete_many = record {
    reads = λ m le xs items rest r ends.
        turns m le r (length (xs ++ rest)) rest (omega arith) ends.0 ends.1;
  }

-- ---- however deep

module _ {A : Type 0} (p : ℕ → Reader A) (R : ℕ → Spelling A) (Stops : Rest)
    (goods : (d : ℕ) → Good p (R d) d d) (c : (d : ℕ) → Complete p (R d) Stops d) where
  pub complete_closed : (d : ℕ) → Complete (λ m. closed p) (AtSomeDepth R) Stops d
  unfolding bind one accept choose done many closed
  complete_closed d = record {
    reads = λ m le xs v rest r stops.
        sym (settle p R goods (xs ++ rest) (suc (length (xs ++ rest))) (r.0 + suc (length (xs ++ rest))) (omega arith) (omega arith))
        ∙ (c r.0).reads (r.0 + suc (length (xs ++ rest))) (omega arith) xs v rest r.1 stops;
  }

-- ---- the same, with what the arguments tell left out

module _ {d : ℕ} where
  pub one_complete : {test : Test} → Complete (λ m. one test) (IsOne test) Anything d
  one_complete {test} = complete_one test d

  pub accept_complete : {A : Type 0} {f : TokenKind → Option A} → Complete (λ m. accept f) (IsAccepted f) Anything d
  accept_complete {A} {f} = complete_accept f d

  pub done_complete : {A : Type 0} {a : A} (Ends : Rest) → Complete (λ m. done a) (IsDone a) Ends d
  done_complete {A} {a} Ends =
      narrow (λ m. done a) (IsDone a) (IsDone a) Anything Ends d (λ xs v r. r) (λ rest ends. tt) (complete_done a d)

  pub then_complete : {A B : Type 0} {p : ℕ → Reader A} {f : ℕ → A → Reader B} {R : Spelling A} {S : A → Spelling B} {Stops Ends : Rest}
      → Complete p R Stops d → ((v : A) → Complete (λ m. f m v) (S v) Ends d)
      → ((v : A) (ys : List Token) (w : B) (rest : List Token) → S v ys w → Ends rest → Stops (ys ++ rest))
      → Complete (λ m. bind (p m) (f m)) (Then R S) Ends d
  then_complete {A} {B} {p} {f} {R} {S} {Stops} {Ends} c cs stops = complete_bind p f R S Stops Ends d c cs stops

  -- the first part stops anywhere
  pub next_complete : {A B : Type 0} {p : ℕ → Reader A} {f : ℕ → A → Reader B} {R : Spelling A} {S : A → Spelling B} {Ends : Rest}
      → Complete p R Anything d → ((v : A) → Complete (λ m. f m v) (S v) Ends d) → Complete (λ m. bind (p m) (f m)) (Then R S) Ends d
  next_complete {A} {B} {p} {f} {R} {S} {Ends} c cs = complete_bind p f R S Anything Ends d c cs (λ v ys w rest s ends. tt)

  -- nothing is behind the first part
  pub last_complete : {A B : Type 0} {p : ℕ → Reader A} {g : A → B} {R : Spelling A} {Ends : Rest}
      → Complete p R Ends d → Complete (λ m. bind (p m) (λ v. done (g v))) (Then R (λ v. IsDone (g v))) Ends d
  last_complete {A} {B} {p} {g} {R} {Ends} c = complete_bind p (λ m v. done (g v)) R (λ v. IsDone (g v)) Ends Ends d c (λ v. done_complete Ends)
      (λ v ys w rest is ends. subst (λ (z : List Token). Ends (z ++ rest)) (sym is.nothing) ends)

  pub spelled_complete : {A : Type 0} {p : ℕ → Reader A} {R S : Spelling A} {Stops : Rest}
      → ((xs : List Token) (v : A) → S xs v → R xs v) → Complete p R Stops d → Complete p S Stops d
  spelled_complete {A} {p} {R} {S} {Stops} f c = narrow p R S Stops Stops d f (λ rest stops. stops) c

  pub stops_complete : {A : Type 0} {p : ℕ → Reader A} {R : Spelling A} {Stops Ends : Rest}
      → ((rest : List Token) → Ends rest → Stops rest) → Complete p R Stops d → Complete p R Ends d
  stops_complete {A} {p} {R} {Stops} {Ends} g c = narrow p R R Stops Ends d (λ xs v r. r) g c

  pub choose_complete : {A : Type 0} (test : Test) {p q : ℕ → Reader A} {R S : Spelling A} {Stops : Rest}
      → Complete p R Stops d → Complete q S Stops d
      → ((xs : List Token) (v : A) (rest : List Token) → R xs v → Stops rest → Begins test (xs ++ rest))
      → ((xs : List Token) (v : A) (rest : List Token) → S xs v → Stops rest → Avoids test (xs ++ rest))
      → Complete (λ m. choose test (p m) (q m)) (Either R S) Stops d
  choose_complete {A} test {p} {q} {R} {S} {Stops} c e begins avoids = complete_choose test p q R S Stops d c e begins avoids

  pub many_complete : {A : Type 0} (test : Test) {p : ℕ → Reader A} {R : Spelling A} {Stops : Rest}
      → Complete p R Stops d → PartsBegin test R → ((rest : List Token) → Begins test rest → Stops rest)
      → Complete (λ m. many test (p m)) (Repeated R) (λ rest. Stops rest × Avoids test rest) d
  many_complete {A} test {p} {R} {Stops} c begins stops =
      complete_many test p R Stops d c begins (λ xs v rest r. stops (xs ++ rest) (begins_on test xs rest (begins xs v r)))

  -- parts that stop in front of a part
  pub parts_complete : {A : Type 0} (test : Test) {p : ℕ → Reader A} {R : Spelling A} {Stops : Rest}
      → Complete p R Stops d → PartsBegin test R → ((xs : List Token) (v : A) (rest : List Token) → R xs v → Stops (xs ++ rest))
      → Complete (λ m. many test (p m)) (Repeated R) (λ rest. Stops rest × Avoids test rest) d
  parts_complete {A} test {p} {R} {Stops} c begins at_part = complete_many test p R Stops d c begins at_part

-- ---- parts put together

pub one_then : {B : Type 0} {test : Test} {S : Place → Spelling B} (t : Token) {back : List Token} {w : B}
    → test t.kind ≡ true → S t.place back w → Then (IsOne test) S (t ∷ back) w
one_then t {back} e s = record {
  front = t ∷ [];
  back = back;
  middle = t.place;
  joins = refl;
  first = record { token = t; alone = refl; passes = e; stands = refl };
  second = s;
}

pub accept_then : {A B : Type 0} {f : TokenKind → Option A} {S : A × Place → Spelling B} (t : Token) {a : A} {back : List Token} {w : B}
    → f t.kind ≡ Some a → S (a, t.place) back w → Then (IsAccepted f) S (t ∷ back) w
accept_then t {a} {back} e s = record {
  front = t ∷ [];
  back = back;
  middle = (a, t.place);
  joins = refl;
  first = record { token = t; alone = refl; gives = e; stands = refl };
  second = s;
}

pub part_then : {A B : Type 0} {R : Spelling A} {S : A → Spelling B} (xs ys : List Token) (v : A) {w : B}
    → R xs v → S v ys w → Then R S (xs ++ ys) w
part_then {A} {B} {R} {S} xs ys v r s = record { front = xs; back = ys; middle = v; joins = refl; first = r; second = s }

pub done_now : {A : Type 0} {a : A} → IsDone a [] a
done_now = record { nothing = refl; gives = refl }

pub part_last : {A B : Type 0} {R : Spelling A} {g : A → B} {xs : List Token} (v : A) → R xs v → Then R (λ a. IsDone (g a)) xs (g v)
part_last {A} {B} {R} {g} {xs} v r =
    record { front = xs; back = []; middle = v; joins = sym (append-nil xs); first = r; second = done_now }

-- ---- one deeper

complete_at : {A : Type 0} (p q : ℕ → Reader A) (R : Spelling A) (Stops : Rest) (d : ℕ)
    → ((m : ℕ) (us : List Token) → p (suc m) us ≡ q m us) → Complete q R Stops d
    → (m : ℕ) → suc d ≤ m → (xs : List Token) (v : A) (rest : List Token) → R xs v → Stops rest → p m (xs ++ rest) ≡ Ok (v, rest)
complete_at p q R Stops d is c zero le xs v rest r stops = absurd (omega arith)
complete_at p q R Stops d is c (suc m) le xs v rest r stops =
    let within : d ≤ m = omega arith in is m (xs ++ rest) ∙ c.reads m within xs v rest r stops

-- a reader that goes as another does one above
pub complete_deeper : {A : Type 0} (p q : ℕ → Reader A) (R : Spelling A) (Stops : Rest) (d : ℕ)
    → ((m : ℕ) (us : List Token) → p (suc m) us ≡ q m us) → Complete q R Stops d → Complete p R Stops (suc d)
complete_deeper p q R Stops d is c = record { reads = complete_at p q R Stops d is c }
