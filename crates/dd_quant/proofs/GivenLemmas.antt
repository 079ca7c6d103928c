-- Values that are given for variables.
use Rattle.std.proofs.Common.{◌≡◌, ◌≢◌, ◌↔◌, ◌==◌, ℕ, ◌+◌, ◌<◌, Bool, true, false, not, if◌then◌else◌, List, [], ◌∷◌, ◌++◌, length, set, take, replicate, get_or, Option, Some, None, refl, ap, sym, ◌∙◌, subst, inl, inr, arith}
use Rattle.std.specs.List.{All}
use Rattle.std.proofs.lemmas.Bool.{cases_eq, cases_lt, eqb-true, true≢false}
use Rattle.std.proofs.lemmas.List.{get_or_past, get_or-set_same, get_or-set_other, get_or-replicate, length-replicate, take_more, take-take, length-take-le, get_or-take}
use Rattle.std.proofs.lemmas.List.Elements.{All-nil, All-get_or, All-take, All-more, All-weaker}
use Rattle.dd_store.specs.Follow.{with_value}
use Rattle.dd_store.specs.Order.{level_in}
use Rattle.dd_store.specs.Table.{Table, IsSound}
use Rattle.dd_quant.specs.declared.literal.Literal.{Literal}
use Rattle.dd_quant.specs.Possible.{Agrees, AreLiterals}
use Rattle.dd_quant.specs.steps.Given.{given_for, Allows, Meets, IsContradictory}

-- where nothing is given
pub given-none : (n v : ℕ) → given_for (replicate n None) v ≡ None
given-none n v = elim (cases_lt v n) [
  | inl within ↦ get_or-replicate n v None None within
  | inr past ↦ get_or_past (replicate n None) v None (let size = length-replicate {A = Option Bool} n None in omega arith)
]

pub none-given : (n : ℕ) (a : ℕ → Bool) → Meets (replicate n None) a
none-given n a v c is = absurd (let none = given-none n v in let both : None ≡ Some c = sym none ∙ is in cc)

-- an assignment with another value that is allowed
pub meets-with : (values : List (Option Bool)) (a : ℕ → Bool) (v : ℕ) (b : Bool) → Meets values a → Allows values v b → Meets values (with_value a v b)
meets-with values a v b meets allows w = by (w == v) refl
  where
    by : (t : Bool) → (w == v) ≡ t → Allows values w (if t then b else a w)
    by true e = subst (λ (u : ℕ). Allows values u b) (sym (eqb-true w v e)) allows
    by false e = meets w

-- some assignment has the values
abbrev chosen : Option Bool → Bool
chosen None = false
chosen (Some b) = b

pub some-meets : (values : List (Option Bool)) → (a : ℕ → Bool) × Meets values a
some-meets values = ((λ v. chosen (given_for values v)), λ v c is. ap chosen is)

-- One literal more: its variable, which isn't contradicted, gets its value.
module _ (values : List (Option Bool)) (v : ℕ) (b : Bool) (inside : v < length values) (free : given_for values v ≢ Some (not b)) where
  -- what was given for it before is the same
  given-before : (c : Bool) → given_for values v ≡ Some c → b ≡ c
  given-before c is = by b c free is
    where
      by : (p q : Bool) → given_for values v ≢ Some (not p) → given_for values v ≡ Some q → p ≡ q
      by true true none at = refl
      by true false none at = absurd (none at)
      by false true none at = absurd (none at)
      by false false none at = refl

  pub meets-more : (a : ℕ → Bool) → Meets (set values v (Some b)) a ↔ (Meets values a × (a v ≡ b))
  meets-more a = (forth, back)
    where
      same : given_for (set values v (Some b)) v ≡ Some b
      same = get_or-set_same values v (Some b) None inside

      forth : Meets (set values v (Some b)) a → Meets values a × (a v ≡ b)
      forth meets = (before, meets v b same)
        where
          before : Meets values a
          before w c is = elim (cases_eq w v) [
            | inl here ↦ subst (λ (u : ℕ). a u ≡ c) (sym here) (meets v b same ∙ given-before c (subst (λ (u : ℕ). given_for values u ≡ Some c) here is))
            | inr other ↦ meets w c (get_or-set_other values v w (Some b) None other ∙ is)
          ]

      back : Meets values a × (a v ≡ b) → Meets (set values v (Some b)) a
      back (meets, is) w c at = elim (cases_eq w v) [
        | inl here ↦
            let at' : Some b ≡ Some c = sym same ∙ subst (λ (u : ℕ). given_for (set values v (Some b)) u ≡ Some c) here at in
            let equal : b ≡ c = cc at' in
            subst (λ (u : ℕ). a u ≡ c) (sym here) (is ∙ equal)
        | inr other ↦ meets w c (sym (get_or-set_other values v w (Some b) None other) ∙ at)
      ]

-- a list of literals and one more
agrees-more : (given : List Literal) (i : ℕ) (l : Literal) (a : ℕ → Bool) → i < length given → l ≡ get_or given i l → Agrees (take (i + 1) given) a ↔ (Agrees (take i given) a × (a l.var.0 ≡ l.value))
agrees-more given i l a inside is = (forth, back)
  where
    P : Literal → Type 0
    P k = a k.var.0 ≡ k.value

    split : take (i + 1) given ≡ take i given ++ l ∷ []
    split = take_more given i l inside ∙ ap (λ (k : Literal). take i given ++ k ∷ []) (sym is)

    forth : Agrees (take (i + 1) given) a → Agrees (take i given) a × (a l.var.0 ≡ l.value)
    forth all = (front, last)
      where
        all' : All P (take i given ++ l ∷ [])
        all' = subst (λ (ls : List Literal). All P ls) split all

        front : All P (take i given)
        front = subst (λ (ls : List Literal). All P ls) (take_front) (All-take P i (take (i + 1) given) all)
          where
            take_front : take i (take (i + 1) given) ≡ take i given
            take_front = take-take i (i + 1) given (omega arith)

        last : P l
        last = subst P (get_last) (All-get_or P (take (i + 1) given) i l (let size = length-take-le (i + 1) given (omega arith) in omega arith) all)
          where
            get_last : get_or (take (i + 1) given) i l ≡ l
            get_last = get_or-take (i + 1) given i l (omega arith) ∙ sym is

    back : Agrees (take i given) a × (a l.var.0 ≡ l.value) → Agrees (take (i + 1) given) a
    back (front, last) = All-more P given i l inside front (subst P is last)

-- a literal that isn't contradicted
pub given-more : (given : List Literal) (i : ℕ) (l : Literal) (values : List (Option Bool)) → i < length given → l ≡ get_or given i l → l.var.0 < length values
    → given_for values l.var.0 ≢ Some (not l.value) → ((a : ℕ → Bool) → Agrees (take i given) a ↔ Meets values a)
    → (a : ℕ → Bool) → Agrees (take (i + 1) given) a ↔ Meets (set values l.var.0 (Some l.value)) a
given-more given i l values inside is room free agree a =
    let step = agrees-more given i l a inside is in
    let more = meets-more values l.var.0 l.value room free a in (
      (λ all. let parts = step.0 all in more.1 ((agree a).0 parts.0, parts.1)),
      (λ meets. let parts = more.0 meets in step.1 ((agree a).1 parts.0, parts.1)),
    )

-- one that is
pub given-against : (given : List Literal) (i : ℕ) (l : Literal) (values : List (Option Bool)) → i < length given → l ≡ get_or given i l
    → given_for values l.var.0 ≡ Some (not l.value) → ((a : ℕ → Bool) → Agrees (take i given) a ↔ Meets values a) → IsContradictory given
given-against given i l values inside is against agree a all =
    let front = (agree a).0 (All-take (λ (k : Literal). a k.var.0 ≡ k.value) i given all) in
    let here : a l.var.0 ≡ l.value = subst (λ (k : Literal). a k.var.0 ≡ k.value) (sym is) (All-get_or (λ (k : Literal). a k.var.0 ≡ k.value) given i l inside all) in
    apart l.value (sym here ∙ front l.var.0 (not l.value) against)
  where
    apart : (b : Bool) → b ≡ not b → ⊥
    apart true e = true≢false e
    apart false e = true≢false (sym e)

-- at the start
pub given-start : (given : List Literal) (n : ℕ) (a : ℕ → Bool) → Agrees (take 0 given) a ↔ Meets (replicate n None) a
given-start given n a = ((λ all. none-given n a), (λ meets. All-nil (λ (k : Literal). a k.var.0 ≡ k.value)))

-- the literals are on variables below their number
pub literals-below : (t : Table) → IsSound t → (given : List Literal) (n : ℕ) → n ≡ length t.order → AreLiterals t given → All (λ (l : Literal). l.var.0 < n) given
literals-below t sound given n is are =
    All-weaker (λ (l : Literal). level_in t.order l.var.0 < length t.order) (λ (l : Literal). l.var.0 < n) (λ l inside. let less = sound.numbered l.var.0 inside in omega arith) given are
