-- What a call leaves behind where handles alone changed before it.
use Rattle.std.proofs.Common.{◌≡◌, ◌∙◌, ℕ, List, Option, Some, None, IfSome, IfNone, Result, Ok, Err, IfErr, subst}
use Rattle.dd_store.specs.declared.refusal.Refusal.{Refusal}
use Rattle.dd_store.specs.Changes.{Keeps}
use Rattle.dd_store.specs.Handles.{KeepsHandles}
use Rattle.dd_store.specs.Size.{Function}
use Rattle.dd_store.specs.Table.{Table}
use Rattle.uvl_functions.specs.Cause.{IsShortFor}
use Rattle.uvl_compile.proofs.StepLemmas.{cause-same}

pub same-then : (s t u : Table) → KeepsHandles s t → KeepsHandles t u → KeepsHandles s u
same-then s t u one two = record {
  each = λ n. two.each n ∙ one.each n;
  total = two.total ∙ one.total;
}

pub told-same : (t u : Table) (groups : List (List Function)) (result : Result ℕ Refusal) → Keeps t u → KeepsHandles t u
    → IfErr result (IsShortFor u groups) → IfErr result (IsShortFor t groups)
told-same t u groups (Ok h) keeps same cause = tt
told-same t u groups (Err r) keeps same cause = cause-same t u groups r keeps same cause

-- what is said of a value where there is one, and where there is none
pub some-is : (o : Option ℕ) (x : ℕ) (P : ℕ → Type 0) → o ≡ Some x → IfSome o P → P x
some-is o x P is all = subst (λ (p : Option ℕ). IfSome p P) is all

pub none-is : (o : Option ℕ) (P : Type 0) → o ≡ None → IfNone o P → P
none-is o P is all = subst (λ (p : Option ℕ). IfNone p P) is all
