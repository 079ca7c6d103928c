-- Marks of nodes, in turns.
use Rattle.std.proofs.Common.{◌≡◌, ◌≢◌, ℕ, ◌+◌, ◌-◌, ◌<◌, ◌≤◌, Bool, true, false, if◌then◌else◌, ◌==◌, List, ◌++◌, length, take, replicate, set, get_or, Some, None, refl, ap, sym, ◌∙◌, inl, inr, arith}
use Rattle.std.proofs.lemmas.Bool.{cases_lt, eq-eqb, ne_eqb}
use Rattle.std.proofs.lemmas.List.{get_or_past, get_or-map, length-map, length-set, length-append, length-replicate, take_all, get_or-set_same, get_or-set_other, get_or_append_left, get_or-append_right, get_or-replicate}
use Rattle.std.proofs.lemmas.List.Elements.{All-get_or}
use Rattle.dd_quant.specs.declared.marks.Mark.{Mark}
use Rattle.dd_quant.specs.steps.Marked.{said_in, marked_in, found_of, AreMarks}

-- no mark of any turn
abbrev pub no_mark : Mark
no_mark = record { turn = 0; is_possible = false }

-- a mark of another turn says nothing
said-other : (turn : ℕ) (m : Mark) → m.turn ≢ turn → said_in turn m ≡ None
said-other turn m other = by (m.turn == turn) (ne_eqb m.turn turn other)
  where
    by : (b : Bool) → b ≡ false → (if b then Some m.is_possible else None) ≡ None
    by b is = ap (λ (c : Bool). if c then Some m.is_possible else None) is

said-same : (turn : ℕ) (m : Mark) → m.turn ≡ turn → said_in turn m ≡ Some m.is_possible
said-same turn m same = by (m.turn == turn) (eq-eqb m.turn turn same)
  where
    by : (b : Bool) → b ≡ true → (if b then Some m.is_possible else None) ≡ Some m.is_possible
    by b is = ap (λ (c : Bool). if c then Some m.is_possible else None) is

-- what is found of a number that has a mark, and of one beyond them
found-within : (turn : ℕ) (marks : List Mark) (n : ℕ) (d : Mark) → n < length marks → (m : Mark) → m ≡ get_or marks n d → found_of (marked_in turn marks) n ≡ said_in turn m
found-within turn marks n d inside m is = get_or-map (said_in turn) marks n d None inside ∙ ap (said_in turn) (sym is)

found-past : (turn : ℕ) (marks : List Mark) (n : ℕ) → length marks ≤ n → found_of (marked_in turn marks) n ≡ None
found-past turn marks n past = get_or_past (marked_in turn marks) n None (let same = length-map marks (said_in turn) in omega arith)

-- in a new turn nothing is found
pub found-begun : (turn : ℕ) (marks : List Mark) → AreMarks turn marks → (n : ℕ) → found_of (marked_in (turn + 1) marks) n ≡ None
found-begun turn marks are n = elim (cases_lt n (length marks)) [
  | inr past ↦ found-past (turn + 1) marks n past
  | inl inside ↦
      let late = All-get_or (λ (m : Mark). m.turn ≤ turn) marks n no_mark inside are.past in
      found-within (turn + 1) marks n no_mark inside (get_or marks n no_mark) refl ∙ said-other (turn + 1) (get_or marks n no_mark) (λ same. omega arith)
]

-- a mark that is put
module _ (turn : ℕ) (marks : List Mark) (at : ℕ) (p : Bool) (inside : at < length marks) where
  pub found-put : found_of (marked_in turn (set marks at (record { turn = turn; is_possible = p }))) at ≡ Some p
  found-put =
      let put : Mark = record { turn = turn; is_possible = p } in
      found-within turn (set marks at put) at no_mark (let same = length-set marks at put in omega arith) put (sym (get_or-set_same marks at put no_mark inside))
      ∙ said-same turn put refl

  pub found-others : (n : ℕ) → n ≢ at → found_of (marked_in turn (set marks at (record { turn = turn; is_possible = p }))) n ≡ found_of (marked_in turn marks) n
  found-others n other = elim (cases_lt n (length marks)) [
    | inl within ↦
        let put : Mark = record { turn = turn; is_possible = p } in
        found-within turn (set marks at put) n no_mark (let same = length-set marks at put in omega arith) (get_or marks n no_mark) (sym (get_or-set_other marks at n put no_mark other))
        ∙ sym (found-within turn marks n no_mark within (get_or marks n no_mark) refl)
    | inr past ↦
        let put : Mark = record { turn = turn; is_possible = p } in
        found-past turn (set marks at put) n (let same = length-set marks at put in omega arith) ∙ sym (found-past turn marks n past)
  ]

-- room for more
pub found-room : (turn : ℕ) (marks : List Mark) (more : ℕ) → 0 < turn → (n : ℕ) → found_of (marked_in turn (marks ++ replicate more no_mark)) n ≡ found_of (marked_in turn marks) n
found-room turn marks more some n = elim (cases_lt n (length marks)) [
  | inl within ↦
      let here : n < length (marks ++ replicate more no_mark) = (let size = length-append marks (replicate more no_mark) in omega arith) in
      found-within turn (marks ++ replicate more no_mark) n no_mark here (get_or marks n no_mark) (sym (get_or_append_left marks (replicate more no_mark) no_mark n within))
      ∙ sym (found-within turn marks n no_mark within (get_or marks n no_mark) refl)
  | inr past ↦ (elim (cases_lt n (length (marks ++ replicate more no_mark))) [
    | inr beyond ↦ found-past turn (marks ++ replicate more no_mark) n beyond
    | inl inside ↦
        let size = length-append marks (replicate more no_mark) in
        let same = length-replicate more no_mark in
        found-within turn (marks ++ replicate more no_mark) n no_mark inside no_mark
        (sym (get_or-append_right marks (replicate more no_mark) (length marks) n no_mark refl past ∙ get_or-replicate more (n - length marks) no_mark no_mark (omega arith)))
        ∙ said-other turn no_mark (λ is. omega arith)
  ]) ∙ sym (found-past turn marks n past)
]

-- room that was made
pub found-resized : (turn : ℕ) (marks marks' : List Mark) (at more : ℕ) → 0 < turn → length marks ≤ at → marks' ≡ take (at + 1) marks ++ replicate more no_mark
    → (n : ℕ) → found_of (marked_in turn marks') n ≡ found_of (marked_in turn marks) n
found-resized turn marks marks' at more some past is n =
    ap (λ (ms : List Mark). found_of (marked_in turn ms) n) (is ∙ ap (λ (ms : List Mark). ms ++ replicate more no_mark) (take_all (at + 1) marks (omega arith)))
    ∙ found-room turn marks more some n
