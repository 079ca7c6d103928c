-- What reading tells of the file that tokens are parsed as, or of their first fault.
use Rattle.std.specs.Prelude.{◌≡◌, ℕ, suc, ◌+◌, ◌-◌, ◌≤◌, ◌<◌, List, [], ◌∷◌, ◌++◌, length, take, drop, slice_get, Ok, Err, Option, Some, None, MatchOption}
use Rattle.std.specs.Option.{unwrap_or}
use Rattle.std.proofs.Common.{refl, sym, ap, subst, ◌∙◌, inl, inr, arith, append_assoc, append-nil, length-append}
use Rattle.std.proofs.lemmas.List.{take-append-drop, take-append-le, length-take}
use Rattle.uvl_base.specs.declared.fault.FaultKind.{FaultKind}
use Rattle.uvl_base.specs.declared.fault.FaultKind.TheVariants.{Syntax}
use Rattle.uvl_lexer.specs.declared.token.Token.{Token}
use Rattle.uvl_lexer.specs.TokenList.{IsTokenList}
use Rattle.uvl_ast.specs.declared.file.File.{File}
use Rattle.uvl_profile.specs.declared.candidate.Candidate.{Candidate}
use Rattle.uvl_grammar.specs.File.{Spells}
use Rattle.uvl_grammar.specs.Dead.{Dead}
use Rattle.uvl_faults.specs.Named.{NoneNamed, LowestNamed, IsFirstNamed}
use Rattle.uvl_parser.specs.Parsing.{IsParsedAs, IsFaultAt, IsRefusedAt}
use Rattle.uvl_grammar.specs.steps.File.{file}
use Rattle.uvl_grammar.proofs.WholeFiles.{Stops, Reads, outcome, stopped_dead, stopped_alive, nothing_behind, never_out, same_front, same_dead, dead_same}
use Rattle.uvl_faults.proofs.Shallow.{spelled_alive}

-- ---- the first fault

pub refused_there : (tokens : List Token) (k : ℕ) (kind : FaultKind) (t : Token) → slice_get tokens k ≡ Some t → IsFaultAt tokens k kind
    → IsRefusedAt tokens t.place kind
refused_there tokens k kind t here fault = record {
  k = k;
  token = t;
  at = here;
  stands = refl;
  fault = fault;
}

-- ---- where nothing is named

module _ (ts : List Token) (list : IsTokenList ts) (unnamed : (k : ℕ) → NoneNamed ts k) where
  pub all_read : (f : File) (rest : List Token) → file ts ≡ Ok (f, rest) → IsParsedAs ts f
  all_read f rest is =
      let o : Reads ts f rest = outcome ts (Ok (f, rest)) is in
      let none = nothing_behind ts list o.front rest f o.splits o.spelled in
      let whole : ts ≡ o.front = o.splits ∙ ap (λ z. o.front ++ z) none ∙ append-nil o.front in
      record { spelled = subst (λ z. Spells z f) (sym whole) o.spelled; unnamed = unnamed }

  stopped_at : (left : ℕ) → file ts ≡ Err left → (o : Stops ts left) (rest : List Token) → o.rest ≡ rest
      → (1 ≤ left) × (left ≤ length ts) × IsFaultAt ts (length ts - left) Syntax
  stopped_at left stuck o [] is = absurd (never_out ts list left stuck o is)
  stopped_at left stuck o (t ∷ behind) is =
      let count : left ≡ suc (length behind) = o.count ∙ ap length is in
      let total : length ts ≡ length o.front + left = ap length o.splits ∙ length-append o.front o.rest ∙ ap (λ n. length o.front + n) (sym o.count) in
      let k : length o.front ≡ length ts - left = omega arith in
      let fault : IsFaultAt ts (length o.front) Syntax = record {
        within = omega arith;
        unnamed_before = λ j before. unnamed j;
        alive_before = λ j before. stopped_alive ts left o j before;
        cause = inr (record { dead = stopped_dead ts left o t behind is; unnamed = unnamed (length o.front); syntax = refl });
      } in
      (omega arith, omega arith, subst (λ n. IsFaultAt ts n Syntax) k fault)

  pub all_stuck : (left : ℕ) → file ts ≡ Err left → (1 ≤ left) × (left ≤ length ts) × IsFaultAt ts (length ts - left) Syntax
  all_stuck left stuck = let o : Stops ts left = outcome ts (Err left) stuck in stopped_at left stuck o o.rest refl

-- ---- up to the first named fault, or what would be one

module _ (ts : List Token) (list : IsTokenList ts) (c : Candidate) (first : IsFirstNamed ts c) where
  abbrev upto : List Token
  upto = take (c.index + 1) ts

  upto_length : length upto ≡ c.index + 1
  upto_length = omega (arith, length-take (c.index + 1) ts, first.within)

  -- where it can stand there
  alive_fault : ((j : ℕ) → j < c.index → Dead ts j → ⊥) → (Dead ts c.index → ⊥) → IsFaultAt ts c.index c.met.alive
  alive_fault before here = record {
    within = first.within;
    unnamed_before = first.none_before;
    alive_before = before;
    cause = inl (first.alive here);
  }

  -- what can be completed has no dead token
  completed_alive : (more : List Token) (f : File) → Spells (upto ++ more) f → (j : ℕ) → j < c.index + 1 → Dead ts j → ⊥
  completed_alive more f spelled j before dead =
      let within : j + 1 ≤ length upto = omega (arith, upto_length) in
      let front : take (j + 1) (upto ++ more) ≡ take (j + 1) ts =
      take-append-le (j + 1) upto more within ∙ same_front ts (c.index + 1) j before (omega (arith, first.within)) in
      spelled_alive (upto ++ more) f j spelled (λ others g s. dead others g (subst (λ z. Spells (z ++ others) g) front s))

  pub front_read : (f : File) (rest : List Token) → file upto ≡ Ok (f, rest) → IsFaultAt ts c.index c.met.alive
  front_read f rest is =
      let o : Reads upto f rest = outcome upto (Ok (f, rest)) is in
      let joins : ts ≡ o.front ++ (rest ++ drop (c.index + 1) ts) =
      sym (take-append-drop (c.index + 1) ts) ∙ ap (λ z. z ++ drop (c.index + 1) ts) o.splits ∙ append_assoc o.front rest (drop (c.index + 1) ts) in
      let none = nothing_behind ts list o.front (rest ++ drop (c.index + 1) ts) f joins o.spelled in
      let whole : Spells ts f = subst (λ z. Spells z f) (sym (joins ∙ ap (λ z. o.front ++ z) none ∙ append-nil o.front)) o.spelled in
      alive_fault (λ j before. spelled_alive ts f j whole) (spelled_alive ts f c.index whole)

  -- all was read, and a file may follow
  out_of_tokens : (left : ℕ) (o : Stops upto left) → o.rest ≡ [] → IsFaultAt ts c.index c.met.alive
  out_of_tokens left o is =
      let whole : o.front ≡ upto = sym (o.splits ∙ ap (λ z. o.front ++ z) is ∙ append-nil o.front) in
      let spelled = subst (λ z. Spells (z ++ o.more) o.value) whole o.completed in
      alive_fault (λ j before. completed_alive o.more o.value spelled j (omega arith)) (completed_alive o.more o.value spelled c.index (omega arith))

  -- it is dead itself
  dead_fault : (d : Option FaultKind) → MatchOption d (NoneNamed ts c.index) (LowestNamed ts c.index) → ((j : ℕ) → j < c.index → Dead ts j → ⊥)
      → Dead ts c.index → IsFaultAt ts c.index (unwrap_or d Syntax)
  dead_fault None none before dead = record {
    within = first.within;
    unnamed_before = first.none_before;
    alive_before = before;
    cause = inr (record { dead = dead; unnamed = none; syntax = refl });
  }
  dead_fault (Some kind) lowest before dead = record {
    within = first.within;
    unnamed_before = first.none_before;
    alive_before = before;
    cause = inl lowest;
  }

  abbrev Stuck_there : ℕ → Type 0
  Stuck_there left = (1 ≤ left) × (left ≤ c.index + 1) × ((j : ℕ) → j < c.index + 1 - left → Dead ts j → ⊥) × Dead ts (c.index + 1 - left)

  stuck_there : (left : ℕ) (o : Stops upto left) (t : Token) (behind : List Token) → o.rest ≡ t ∷ behind → Stuck_there left
  stuck_there left o t behind is =
      let count : left ≡ suc (length behind) = o.count ∙ ap length is in
      let total : c.index + 1 ≡ length o.front + left =
      sym upto_length ∙ ap length o.splits ∙ length-append o.front o.rest ∙ ap (λ n. length o.front + n) (sym o.count) in
      let k : length o.front ≡ c.index + 1 - left = omega arith in
      let within : c.index + 1 ≤ length ts = omega (arith, first.within) in
      let dead = dead_same ts (c.index + 1) (length o.front) (omega arith) within (stopped_dead upto left o t behind is) in (
        omega arith,
        omega arith,
        λ j before there. stopped_alive upto left o j (omega arith) (same_dead ts (c.index + 1) j (omega arith) within there),
        subst (Dead ts) k dead,
      )

  pub all_taken : file upto ≡ Err 0 → IsFaultAt ts c.index c.met.alive
  all_taken stuck = let o : Stops upto 0 = outcome upto (Err 0) stuck in at o o.rest refl
    where
      at : (o : Stops upto 0) (rest : List Token) → o.rest ≡ rest → IsFaultAt ts c.index c.met.alive
      at o [] is = out_of_tokens 0 o is
      at o (t ∷ behind) is = let none : 0 ≡ suc (length behind) = o.count ∙ ap length is in absurd (omega arith)

  stuck_at : (left : ℕ) → 1 ≤ left → file upto ≡ Err left → Stuck_there left
  stuck_at left some stuck = let o : Stops upto left = outcome upto (Err left) stuck in at o o.rest refl
    where
      at : (o : Stops upto left) (rest : List Token) → o.rest ≡ rest → Stuck_there left
      at o [] is = let none : left ≡ 0 = o.count ∙ ap length is in absurd (omega arith)
      at o (t ∷ behind) is = stuck_there left o t behind is

  pub last_stuck : file upto ≡ Err 1 → IsFaultAt ts c.index (unwrap_or c.met.dead Syntax)
  last_stuck stuck =
      let there = stuck_at 1 (omega arith) stuck in
      let same : c.index + 1 - 1 ≡ c.index = omega arith in
      let dead = subst (Dead ts) same there.3 in
      dead_fault c.met.dead (first.dead dead) (λ j before. there.2 j (omega arith)) dead

  pub front_stuck : (left : ℕ) → 2 ≤ left → file upto ≡ Err left → (left ≤ c.index + 1) × IsFaultAt ts (c.index + 1 - left) Syntax
  front_stuck left some stuck =
      let there = stuck_at left (omega arith) stuck in (
        there.1,
        record {
          within = omega (arith, first.within, there.1);
          unnamed_before = λ j before. first.none_before j (omega arith);
          alive_before = there.2;
          cause = inr (record { dead = there.3; unnamed = first.none_before (c.index + 1 - left) (omega (arith, there.1)); syntax = refl });
        },
      )
