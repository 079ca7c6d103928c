-- The variables of a table as members of a group.
use Rattle.std.proofs.Common.{◌≡◌, ℕ, Bool, ◌==◌, ◌<◌, suc, true, false, cond, List, [], ◌∷◌, length, refl, sym, subst, arith}
use Rattle.std.specs.List.{All}
use Rattle.std.proofs.lemmas.Bool.{eq-eqb, true≢false}
use Rattle.std.proofs.lemmas.List.Elements.{All-nil, All-cons, All-head, All-tail}
use Rattle.dd_store.specs.declared.row.Var.{Var}
use Rattle.dd_store.specs.Order.{level_in, IsIn}
use Rattle.dd_store.specs.Table.{Table, IsVariable, IsSound}
use Rattle.dd_count.specs.Members.{AreMembers}

-- what is in an order is in it with one variable more
more : (w : Var) (vs : List Var) (x : ℕ) → IsIn vs x → IsIn (w ∷ vs) x
more w vs x inside = by (w.0 == x)
  where
    by : (b : Bool) → cond b 0 (suc (level_in vs x)) < suc (length vs)
    by true = omega arith
    by false = omega arith

all_more : (w : Var) (vs us : List Var) → All (λ (v : Var). IsIn vs v.0) us → All (λ (v : Var). IsIn (w ∷ vs) v.0) us
all_more w vs [] inside = All-nil (λ (v : Var). IsIn (w ∷ vs) v.0)
all_more w vs (u ∷ us) inside =
    let P : Var → Type 0 = λ (v : Var). IsIn vs v.0 in
    All-cons (λ (v : Var). IsIn (w ∷ vs) v.0) u us (more w vs u.0 (All-head P u us inside)) (all_more w vs us (All-tail P u us inside))

-- each variable of an order is in it
all_in : (vs : List Var) → All (λ (v : Var). IsIn vs v.0) vs
all_in [] = All-nil (λ (v : Var). IsIn [] v.0)
all_in (v ∷ vs) = All-cons (λ (u : Var). IsIn (v ∷ vs) u.0) v vs (first (v.0 == v.0) (eq-eqb v.0 v.0 refl)) (all_more v vs vs (all_in vs))
  where
    first : (b : Bool) → b ≡ true → cond b 0 (suc (level_in vs v.0)) < suc (length vs)
    first true is = omega arith
    first false is = absurd (true≢false (sym is))

-- all variables of a table can be members
pub all_are_members : (t : Table) (vs : List Var) → vs ≡ t.order → IsSound t → AreMembers t vs
all_are_members t vs same sound = subst (λ (us : List Var). AreMembers t us) (sym same)
    (record { there = all_in t.order; distinct = sound.reduced.rows.distinct })
