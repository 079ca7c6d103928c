-- A loop that reads none or more, turn by turn: what is read so far, in front of what the turns that are
-- left read, is what all turns read.
use Rattle.std.specs.Prelude.{◌≡◌, ℕ, zero, suc, ◌-◌, ◌+◌, ◌<◌, ◌≤◌, length, cond, true, false, List, [], ◌∷◌, ◌++◌, Result, Ok, Err}
use Rattle.std.proofs.Common.{refl, sym, ap, ◌∙◌, subst, append_assoc, append-nil, arith, Bor}
use Rattle.uvl_lexer.specs.declared.token.Token.{Token}
use Rattle.uvl_grammar.specs.steps.Tests.{Test, begins}
use Rattle.uvl_parser.specs.declared.reading.Stop.{Stop}
use Rattle.uvl_parser.specs.declared.reading.Stop.TheVariants.{Stuck, OutOfMemory}
use Rattle.uvl_grammar.specs.steps.Reading.{Read, Reader, ◌>>=◌, done, bind, choose, repeat, many, with_front}
use Rattle.uvl_parser.specs.steps.Gives.{Fails, Gives, IsReader}

module _ {A : Type 0} (test : Test) (p : Reader A) (front : List A) where
  -- no turn is left
  pub turns_out : (n : ℕ) (ts : List Token) → n ≡ 0 → with_front front (repeat n test p ts) ≡ Ok (front, ts)
  unfolding repeat
  turns_out zero ts e = ap (λ z. Ok (z, ts)) (append-nil front)
  turns_out (suc n) ts e = absurd (omega arith)

  -- no part begins
  pub turns_end : (n : ℕ) (ts : List Token) → begins test ts ≡ false → with_front front (repeat n test p ts) ≡ Ok (front, ts)
  unfolding repeat bind choose done
  turns_end zero ts e = ap (λ z. Ok (z, ts)) (append-nil front)
  turns_end (suc n) [] e = ap (λ z. Ok (z, [])) (append-nil front)
  turns_end (suc n) (t ∷ ts) e =
      ap (λ b. with_front front (cond b (bind p (λ a. bind (repeat n test p) (λ items. done (a ∷ items))) (t ∷ ts)) (Ok ([], t ∷ ts)))) e
      ∙ ap (λ z. Ok (z, t ∷ ts)) (append-nil front)

  turn_open : (k : ℕ) (ts : List Token) → begins test ts ≡ true
      → with_front front (repeat (suc k) test p ts) ≡ with_front front (bind p (λ a. bind (repeat k test p) (λ items. done (a ∷ items))) ts)
  unfolding repeat bind choose done
  turn_open k [] e = absurd (grind arith)
  turn_open k (t ∷ ts) e =
      ap (λ b. with_front front (cond b (bind p (λ a. bind (repeat k test p) (λ items. done (a ∷ items))) (t ∷ ts)) (Ok ([], t ∷ ts)))) e

  regrouped : (a : A) (r : Read (List A)) → with_front front (r >>= λ z. Ok (a ∷ z.0, z.1)) ≡ with_front (front ++ a ∷ []) r
  regrouped a (Ok r) = ap (λ z. Ok (z, r.1)) (sym (append_assoc front (a ∷ []) r.0))
  regrouped a (Err left) = refl

  -- a turn reads a part
  pub turn_reads : (n k : ℕ) (ts : List Token) (a : A) (rest : List Token) → n ≡ suc k → begins test ts ≡ true → p ts ≡ Ok (a, rest)
      → with_front front (repeat n test p ts) ≡ with_front (front ++ a ∷ []) (repeat k test p rest)
  unfolding bind done
  turn_reads n k ts a rest turns e reads =
      ap (λ z. with_front front (repeat z test p ts)) turns ∙ turn_open k ts e
      ∙ ap (λ r. with_front front (r >>= λ z. repeat k test p z.1 >>= λ y. Ok (z.0 ∷ y.0, y.1))) reads
      ∙ regrouped a (repeat k test p rest)

  -- or stops
  pub turn_stops : (n k : ℕ) (ts : List Token) (left : ℕ) → n ≡ suc k → begins test ts ≡ true → p ts ≡ Err left
      → with_front front (repeat n test p ts) ≡ Err left
  unfolding bind done
  turn_stops n k ts left turns e stops =
      ap (λ z. with_front front (repeat z test p ts)) turns ∙ turn_open k ts e
      ∙ ap (λ r. with_front front (r >>= λ z. repeat k test p z.1 >>= λ y. Ok (z.0 ∷ y.0, y.1))) stops

-- a reader stops where a part of it does
pub fails_on : {Y Z : Type 0} (stop : Stop) (part : Read Y) (whole : Read Z) → Fails stop part
    → ((left : ℕ) → part ≡ Err left → whole ≡ Err left) → Fails stop whole
fails_on (Stuck left) part whole fails on = on left fails
fails_on OutOfMemory part whole fails on = tt

-- ---- the turns of a loop over a range, where `whole` is what all turns read

module _ {A : Type 0} (test : Test) (p : Reader A) (whole : Read (List A)) where
  abbrev pub TurnsLeft : List A → ℕ → ℕ → List Token → Type 0
  TurnsLeft front end turn ts = with_front front (repeat (end - turn) test p ts) ≡ whole

  pub turn_taken : (front later : List A) (end turn : ℕ) (ts rest : List Token) (a : A) → TurnsLeft front end turn ts → turn < end
      → begins test ts ≡ true → p ts ≡ Ok (a, rest) → later ≡ front ++ a ∷ [] → TurnsLeft later end (turn + 1) rest
  turn_taken front later end turn ts rest a left within e reads pushed =
      let counts : end - turn ≡ suc (end - (turn + 1)) = omega arith in
      ap (λ z. with_front z (repeat (end - (turn + 1)) test p rest)) pushed
      ∙ sym (turn_reads test p front (end - turn) (end - (turn + 1)) ts a rest counts e reads) ∙ left

  pub turn_failed : (front : List A) (end turn : ℕ) (ts : List Token) (left : ℕ) → TurnsLeft front end turn ts → turn < end
      → begins test ts ≡ true → p ts ≡ Err left → whole ≡ Err left
  turn_failed front end turn ts left so_far within e stops =
      let counts : end - turn ≡ suc (end - (turn + 1)) = omega arith in
      sym so_far ∙ turn_stops test p front (end - turn) (end - (turn + 1)) ts left counts e stops

  pub turn_ended : (front : List A) (end turn : ℕ) (ts : List Token) → TurnsLeft front end turn ts
      → begins test ts ≡ false → whole ≡ Ok (front, ts)
  turn_ended front end turn ts so_far e = sym so_far ∙ turns_end test p front (end - turn) ts e

  pub turns_over : (front : List A) (end turn : ℕ) (ts : List Token) → TurnsLeft front end turn ts → end ≤ turn → whole ≡ Ok (front, ts)
  turns_over front end turn ts so_far over =
      let none : end - turn ≡ 0 = omega arith in
      sym so_far ∙ turns_out test p front (end - turn) ts none

-- the loop begins
pub turns_begin : {A : Type 0} (test : Test) (p : Reader A) (front : List A) (ts : List Token)
    → TurnsLeft test p (with_front front (many test p ts)) front (length ts) 0 ts
unfolding many
turns_begin test p front ts = let all : length ts - 0 ≡ length ts = omega arith in ap (λ z. with_front front (repeat z test p ts)) all

-- ---- a function that is passed in, and reads what p reads

module _ {A T : Type 0} (answers : A → Bor (List Token) → Result (T × Bor (List Token)) Stop → Type 0) (p : Reader T) (reads : IsReader answers p)
    (alloc : A) (ts : Bor (List Token)) (r : Result (T × Bor (List Token)) Stop) (answered : answers alloc ts r) where
  told : (s : Result (T × Bor (List Token)) Stop) → r ≡ s → Gives (λ x. (x.0, x.1.now)) s (p ts.now)
  told s e = subst (λ z. Gives (λ x. (x.0, x.1.now)) z (p ts.now)) e (reads alloc ts r answered)

  pub reads_part : (a : T) (rest : Bor (List Token)) → r ≡ Ok (a, rest) → p ts.now ≡ Ok (a, rest.now)
  reads_part a rest e = told (Ok (a, rest)) e

  pub reads_none : (stop : Stop) → r ≡ Err stop → Fails stop (p ts.now)
  reads_none stop e = told (Err stop) e
