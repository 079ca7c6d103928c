-- Why a refusal inside of an operation is one of the operation.
use Rattle.std.proofs.Common.{◌≡◌, ◌⊎◌, ℕ, ◌+◌, ◌*◌, ◌≤◌, Bool, List, length, Result, Ok, Err, IfOk, IfErr, refl, ap, sym, ◌∙◌, subst, inl, inr, arith}
use Rattle.std.specs.List.{Contains}
use Rattle.dd_store.specs.declared.row.Row.{Row}
use Rattle.dd_store.specs.declared.row.Var.{Var}
use Rattle.dd_store.specs.declared.refusal.Refusal.{Refusal}
use Rattle.dd_store.specs.declared.refusal.Refusal.TheVariants.{OverBudget, OutOfMemory}
use Rattle.dd_store.specs.Changes.{Keeps, Grows}
use Rattle.dd_store.specs.Exhausted.{IsPartialResult, IsCauseFor, value_at, asked_by}
use Rattle.dd_store.specs.Handles.{GainsHandle, one_on}
use Rattle.dd_store.specs.Size.{Function, cofactors}
use Rattle.dd_store.specs.Table.{Table, value_of, IsLive, IsSound}
use Rattle.dd_store.proofs.ChangeLemmas.{keeps_then, keeps_all}
use Rattle.dd_store.proofs.CofactorLemmas.{own-cofactor, cofactors-compose}
use Rattle.dd_store.proofs.CountLemmas.{live_gained}
use Rattle.dd_store.proofs.HandleLemmas.{one_on-other}
use Rattle.std.proofs.lemmas.Bool.{cases_eq}
use Rattle.dd_store.proofs.StayLemmas.{refusals-compose, refusals-stay, value-kept}
use Rattle.dd_apply.specs.Cause.{IsCause}
use Rattle.dd_apply.specs.Held.{IsWithin, LacksRoom, IsCauseWithin}

-- a call that begins
within-self : (t : Table) (asked : Function) → IsSound t → IsWithin t t asked
within-self t asked sound = record { keeps = keeps_all t sound; stay = λ n live. live; held = λ n live. inl live }

-- a number that is live with one more handle was live, or is that handle's
was-live : (t u : Table) (h n : ℕ) → GainsHandle t u h → IsLive u n → (n ≡ h) ⊎ IsLive t n
was-live t u h n gain live = by (one_on h n) refl
  where
    by : (k : ℕ) → one_on h n ≡ k → (n ≡ h) ⊎ IsLive t n
    by k e = elim (cases_eq n h) [
      | inl same ↦ inl same
      | inr other ↦ inr (let none = one_on-other h n other in let each = gain.each n in omega arith)
    ]

-- a partial result that is held belongs to the call
within-gain : (old t u : Table) (asked : Function) (h : ℕ) → IsWithin old t asked → Keeps t u → GainsHandle t u h → IsPartialResult u asked h → IsWithin old u asked
within-gain old t u asked h before keeps gain is = record {
  keeps = keeps_then before.keeps keeps (λ n first last. before.stay n first);
  stay = λ n live. live_gained gain n (before.stay n live);
  held = held';
}
  where
    held' : (n : ℕ) → IsLive u n → IsLive old n ⊎ IsPartialResult u asked n
    held' n live = elim (was-live t u h n gain live) [
      | inl same ↦ inr (subst (λ (m : ℕ). IsPartialResult u asked m) (sym same) is)
      | inr was ↦ elim (before.held n was) [
        | inl first ↦ inl first
        | inr part ↦ inr (subst (λ (vs : List Var). Contains (cofactors vs asked) (value_at u n)) (sym keeps.order)
            (subst (λ (f : Function). Contains (cofactors t.order asked) f) (sym (value-kept t u keeps n was live)) part))
      ]
    ]

-- what lacks room for a part lacks it for the whole
lacks-part : (t u : Table) (f g : Function) (inner more nodes roots : ℕ) → Contains (cofactors t.order f) g → inner ≤ more
    → LacksRoom t u g inner nodes roots → LacksRoom t u f more nodes roots
lacks-part t u f g inner more nodes roots of few lacks old asked most within is fewer =
    lacks old asked most within
    (cofactors-compose old.order asked f g is (subst (λ (vs : List Var). Contains (cofactors vs f) g) within.keeps.order of)) (omega arith)

-- also behind a partial result that was held before
lacks-behind : (t m u : Table) (f g : Function) (h inner more nodes roots : ℕ) → Contains (cofactors t.order f) g → Keeps t m → GainsHandle t m h
    → Contains (cofactors t.order f) (value_at m h) → inner + 1 ≤ more → LacksRoom m u g inner nodes roots → LacksRoom t u f more nodes roots
lacks-behind t m u f g h inner more nodes roots of keeps gain part few lacks old asked most within is fewer =
    let order = within.keeps.order in
    let of' : Contains (cofactors old.order f) g = subst (λ (vs : List Var). Contains (cofactors vs f) g) order of in
    let part' : Contains (cofactors m.order asked) (value_at m h) = subst (λ (vs : List Var). Contains (cofactors vs asked) (value_at m h)) (sym (keeps.order ∙ order))
    (cofactors-compose old.order asked f (value_at m h) is (subst (λ (vs : List Var). Contains (cofactors vs f) (value_at m h)) order part)) in
    let total = gain.total in
    lacks old asked most (within-gain old t m asked h within keeps gain part') (cofactors-compose old.order asked f g is of') (omega arith)

-- and behind a change of handles alone
lacks-stay : (t u w : Table) (f : Function) (more nodes roots : ℕ) → Grows u w 0 → LacksRoom t u f more nodes roots → LacksRoom t w f more nodes roots
lacks-stay t u w f more nodes roots grows lacks old asked most within is fewer =
    refusals-stay old u w asked most nodes roots grows (lacks old asked most within is fewer)

-- the same of causes
pub cause-part : (t u : Table) (f g : Function) (inner more : ℕ) (r : Refusal) → Contains (cofactors t.order f) g → inner ≤ more
    → IsCauseWithin t u g inner r → IsCauseWithin t u f more r
cause-part t u f g inner more (OverBudget nodes roots) of few cause = lacks-part t u f g inner more nodes roots of few cause
cause-part t u f g inner more OutOfMemory of few cause = tt

pub cause-behind : (t m u : Table) (f g : Function) (h inner more : ℕ) (r : Refusal) → Contains (cofactors t.order f) g → Keeps t m → GainsHandle t m h
    → Contains (cofactors t.order f) (value_at m h) → inner + 1 ≤ more → IsCauseWithin m u g inner r → IsCauseWithin t u f more r
cause-behind t m u f g h inner more (OverBudget nodes roots) of keeps gain part few cause = lacks-behind t m u f g h inner more nodes roots of keeps gain part few cause
cause-behind t m u f g h inner more OutOfMemory of keeps gain part few cause = tt

pub cause-stay : (t u w : Table) (f : Function) (more : ℕ) (r : Refusal) → Grows u w 0 → IsCauseWithin t u f more r → IsCauseWithin t w f more r
cause-stay t u w f more (OverBudget nodes roots) grows cause = lacks-stay t u w f more nodes roots grows cause
cause-stay t u w f more OutOfMemory grows cause = tt

-- want of memory has no cause
pub cause-none : (t u : Table) (f : Function) (more : ℕ) (r : Refusal) → r ≡ OutOfMemory → IsCauseWithin t u f more r
cause-none t u f more (OverBudget nodes roots) is = absurd (let no = is in cc)
cause-none t u f more OutOfMemory is = tt

-- why a node is refused
pub cause-node : (t u : Table) (row : Row) (r : Refusal) → Keeps t u → ((n : ℕ) → IsLive t n → IsLive u n) → IsCauseFor t u row r → IsCauseWithin t u (asked_by t row) 0 r
cause-node t u row (OverBudget nodes roots) keeps live cause = λ old asked most within is fewer.
    refusals-compose old t u asked (asked_by t row) most 0 nodes roots within.keeps keeps live within.held is fewer cause.2
cause-node t u row OutOfMemory keeps live cause = tt

-- the whole call
pub cause-call : (t u : Table) (f : Function) (more : ℕ) (r : Refusal) → IsSound t → more ≤ 2 * (length t.order + 1) → IsCauseWithin t u f more r → IsCause t u f r
cause-call t u f more (OverBudget nodes roots) sound few lacks = lacks t f (2 * (length t.order + 1)) (within-self t f sound) (own-cofactor t.order f) (omega arith)
cause-call t u f more OutOfMemory sound few cause = tt

-- the same of a call's result
pub cause-told : (t u : Table) (f : Function) (more : ℕ) (result : Result ℕ Refusal) → IsSound t → more ≤ 2 * (length t.order + 1)
    → IfErr result (IsCauseWithin t u f more) → IfErr result (IsCause t u f)
cause-told t u f more (Ok h) sound few cause = tt
cause-told t u f more (Err r) sound few cause = cause-call t u f more r sound few cause

-- a function's value for each assignment
pub values-told : (u : Table) (f : Function) (result : Result ℕ Refusal) → IfOk result (λ h. value_at u h ≡ f) → IfOk result (λ h. (x : ℕ → Bool) → value_of u h x ≡ f x)
values-told u f (Ok h) is = λ x. ap (λ (g : Function). g x) is
values-told u f (Err r) is = tt
