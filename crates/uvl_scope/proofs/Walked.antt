-- Lines one after another.
use Rattle.std.proofs.Common.{◌≡◌, List, [], ◌∷◌, ◌++◌, Option, None, refl, sym, ap, ◌∙◌, subst, Result, Ok, Err}
use Rattle.std.specs.Option.{option_or}
use Rattle.std.specs.Result.{IsErrAnd}
use Rattle.uvl_scope.specs.declared.fault.FileFault.{FileFault}
use Rattle.uvl_scope.specs.declared.fault.FileFault.TheVariants as fault
use Rattle.uvl_scope.specs.Brought.{Brought, Placing, brought_by, together}
use Rattle.uvl_scope.specs.LineFaults.{Finding, fault_behind}
use Rattle.uvl_scope.specs.Lines.{Line}
use Rattle.uvl_scope.specs.steps.Walk.{IsFound, fault_from, brought_from}
use Rattle.uvl_scope.proofs.InOrder.{or_assoc}

pub fault-append : (placing : Placing) (before : Brought) (front rest : List Line)
    → fault_from placing before (front ++ rest) ≡ option_or (fault_from placing before front) (fault_from placing (brought_from placing before front) rest)
fault-append placing before [] rest = refl
fault-append placing before (line ∷ front) rest =
    ap (option_or (fault_behind placing before line)) (fault-append placing (together before (brought_by placing line)) front rest)
    ∙ sym (or_assoc (fault_behind placing before line) (fault_from placing (together before (brought_by placing line)) front)
    (fault_from placing (brought_from placing (together before (brought_by placing line)) front) rest))

pub brought-append : (placing : Placing) (before : Brought) (front rest : List Line)
    → brought_from placing before (front ++ rest) ≡ brought_from placing (brought_from placing before front) rest
brought-append placing before [] rest = refl
brought-append placing before (line ∷ front) rest = brought-append placing (together before (brought_by placing line)) front rest

-- what all lines bring, and their fault, are those of the lines that are left here
pub record GoOn (placing : Placing) (start : Brought) (all : List Line) (here : Brought) (rest : List Line) : Type 0 where
  pub fault : fault_from placing start all ≡ fault_from placing here rest
  pub brought : brought_from placing start all ≡ brought_from placing here rest

pub go_begin : (placing : Placing) (start : Brought) (all : List Line) → GoOn placing start all start all
go_begin placing start all = record { fault = refl; brought = refl }

pub go_step : (placing : Placing) (start : Brought) (all : List Line) (here new : Brought) (front rest : List Line) → GoOn placing start all here (front ++ rest)
    → fault_from placing here front ≡ None → new ≡ brought_from placing here front → GoOn placing start all new rest
go_step placing start all here new front rest go none new_is = record {
  fault = go.fault ∙ fault-append placing here front rest ∙ ap (λ (f : Option Finding). option_or f (fault_from placing (brought_from placing here front) rest)) none
      ∙ ap (λ (b : Brought). fault_from placing b rest) (sym new_is);
  brought = go.brought ∙ brought-append placing here front rest ∙ ap (λ (b : Brought). brought_from placing b rest) (sym new_is);
}

-- an error stands for what is found first, whatever stands behind it
pub err_first : (A : Type 0) (found more : Option Finding) (e : FileFault) → IsFound {A = A} found (Err e) → IsFound {A = A} (option_or found more) (Err e)
err_first A found more (fault.At place kind) h = ap (λ (f : Option Finding). option_or f more) h
err_first A found more fault.OutOfMemory h = tt

pub go_stop : {A : Type 0} (placing : Placing) (start : Brought) (all : List Line) (here : Brought) (front rest : List Line) (r : Result A FileFault) (e : FileFault)
    → GoOn placing start all here (front ++ rest) → r ≡ Err e → IsFound {A = A} (fault_from placing here front) (Err e) → IsFound (fault_from placing start all) r
go_stop {A} placing start all here front rest r e go is h =
    subst (λ (x : Result A FileFault). IsFound (fault_from placing start all) x) (sym is)
    (subst (λ (f : Option Finding). IsFound {A = A} f (Err e)) (sym (go.fault ∙ fault-append placing here front rest))
    (err_first A (fault_from placing here front) (fault_from placing (brought_from placing here front) rest) e h))

-- a fault that a caller hands on is the callee's
pub err_is : {A : Type 0} (r : Result A FileFault) (e : FileFault) → IsErrAnd r (λ f. f ≡ e) → r ≡ Err e
err_is (Ok x) e h = absurd h
err_is (Err f) e h = ap (λ (x : FileFault). Err x) h
