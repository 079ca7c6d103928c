-- Sums over variables, compared with 0: a linear inequality or equation over the true ones of them.
use Rattle.std.specs.Prelude.{ℕ, ◌+◌, ◌*◌, ◌^◌, ◌<◌, ℤ, pos, ◌+ℤ◌, int_lt, int_le, unsigned_abs, Bool, ◌&&◌, if◌then◌else◌}
use Rattle.std.specs.Prelude.{List, [], ◌∷◌, length, map}
use Rattle.std.specs.List.{sum_by}
use Rattle.dd_store.specs.declared.refusal.Refusal.{Refusal}
use Rattle.dd_store.specs.declared.refusal.Refusal.TheVariants.{OverBudget, OutOfMemory}
use Rattle.dd_store.specs.declared.row.Var.{Var}
use Rattle.dd_store.specs.Exhausted.{IsExhausted}
use Rattle.dd_store.specs.Size.{Function}
use Rattle.dd_store.specs.Table.{Table}
use Rattle.dd_count.specs.Members.{AreMembers}
use Rattle.uvl_sums.specs.declared.linear.Cmp3.{Cmp3}
use Rattle.uvl_sums.specs.declared.linear.Cmp3.TheVariants.{Equal, AtMost, Less}

-- a variable, and what it adds where it is true
abbrev pub Term : Type 0
Term = Var × ℤ

-- what the true ones of the variables add up to
abbrev pub total : List Term → (ℕ → Bool) → ℤ
total [] a = pos 0
total (term ∷ terms) a = (if a term.0.0 then term.1 else pos 0) +ℤ total terms a

-- whether a number compares so with 0
abbrev pub compares : Cmp3 → ℤ → Bool
compares Equal n = int_le n (pos 0) && int_le (pos 0) n
compares AtMost n = int_le n (pos 0)
compares Less n = int_lt n (pos 0)

-- The function that is true where the constant with what the true variables add compares so with 0.
abbrev pub comparison : Cmp3 → List Term → ℤ → Function
comparison how terms constant a = compares how (constant +ℤ total terms a)

-- the sizes of the weights together
abbrev pub size_of : List Term → ℕ
size_of terms = sum_by (λ term. unsigned_abs term.1) terms

-- the variables of the terms
abbrev pub variables_of : List Term → List Var
variables_of terms = map (λ term. term.0) terms

-- The terms have different variables, which are those of the table, and the sizes add up to less than 2^126.
pub record IsSum (t : Table) (terms : List Term) (constant : ℤ) : Type 0 where
  pub variables : AreMembers t (variables_of terms)
  pub size : unsigned_abs constant + size_of terms < 2 ^ 126

-- The table has no room for the function that was asked for, beside what is held and the partial results: one at most
-- for each choice of values for the first variables, and two for each level. Want of memory has no cause.
abbrev pub IsCauseOfSum : Table → Table → Function → Refusal → Type 0
IsCauseOfSum old new f (OverBudget nodes roots) =
    IsExhausted old new f (2 ^ (length old.order + 1) + 2 * (length old.order + 1)) nodes roots
IsCauseOfSum old new f OutOfMemory = Unit {0}
