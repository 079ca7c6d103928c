-- Files one after another.
use Rattle.std.proofs.Common.{◌≡◌, ℕ, ◌+◌, ◌<◌, ◌≤◌, List, [], ◌∷◌, ◌++◌, length, take, drop, get_or, Option, None, Result, Ok, Err, refl, sym, ap, ◌∙◌, subst}
use Rattle.std.specs.Option.{option_or, option_map}
use Rattle.std.specs.Prelude.{IfErr}
use Rattle.std.specs.Result.{IsErrAnd}
use Rattle.std.proofs.lemmas.List.{append_assoc, append-nil, take_more, drop_all}
use Rattle.uvl_base.specs.declared.fault.ModelFault.{ModelFault}
use Rattle.uvl_imports.specs.declared.file_set.Loaded.{Loaded}
use Rattle.uvl_scope.specs.declared.fault.ScopeFault.{ScopeFault}
use Rattle.uvl_scope.specs.declared.fault.ScopeFault.TheVariants as cause
use Rattle.uvl_scope.specs.declared.scope.Scope.{Scope}
use Rattle.uvl_scope.specs.Faults.{scope_of, scopes_behind, scopes_of, in_file, fault_in_file, fault_of_file, first_fault, IsCauseOf}
use Rattle.uvl_scope.specs.Firsts.{first_along}
use Rattle.uvl_scope.specs.LineFaults.{Finding}
use Rattle.uvl_scope.specs.steps.Files.{IsCauseIn}
use Rattle.uvl_scope.proofs.Dotting.{next_item}

-- the scopes of the files in front are these, and the first fault is that of the files that are left
pub record FilesGoOn (all front rest : List Loaded) (scopes : List Scope) : Type 0 where
  pub all_are : all ≡ front ++ rest
  pub scopes_are : scopes ≡ scopes_of front
  pub fault : first_fault all ≡ first_along fault_of_file front rest

scopes-append : (scopes : List Scope) (front rest : List Loaded) → scopes_behind scopes (front ++ rest) ≡ scopes_behind (scopes_behind scopes front) rest
scopes-append scopes [] rest = refl
scopes-append scopes (loaded ∷ front) rest = scopes-append (scopes ++ scope_of scopes loaded ∷ []) front rest

-- one more file at the end
pub scopes_more : (front : List Loaded) (loaded : Loaded) → scopes_of (front ++ loaded ∷ []) ≡ scopes_of front ++ scope_of (scopes_of front) loaded ∷ []
scopes_more front loaded = scopes-append [] front (loaded ∷ [])

pub files_begin : (all : List Loaded) → FilesGoOn all [] all []
files_begin all = record { all_are = refl; scopes_are = refl; fault = refl }

pub files_step : (all front rest : List Loaded) (scopes new : List Scope) (loaded : Loaded) (scope : Scope) → FilesGoOn all front (loaded ∷ rest) scopes
    → fault_in_file scopes loaded ≡ None → scope ≡ scope_of scopes loaded → new ≡ scopes ++ scope ∷ [] → FilesGoOn all (front ++ loaded ∷ []) rest new
files_step all front rest scopes new loaded scope go none scope_is new_is = record {
  all_are = go.all_are ∙ sym (append_assoc front (loaded ∷ []) rest);
  scopes_are = new_is ∙ ap (λ (s : Scope). scopes ++ s ∷ []) scope_is ∙ ap (λ (ss : List Scope). ss ++ scope_of ss loaded ∷ []) go.scopes_are
      ∙ sym (scopes_more front loaded);
  fault = go.fault
      ∙ ap (λ (f : Option Finding). option_or (option_map (in_file loaded) f) (first_along fault_of_file (front ++ loaded ∷ []) rest))
      (ap (λ (ss : List Scope). fault_in_file ss loaded) (sym go.scopes_are) ∙ none);
}

-- the same, at the place of the file
pub files_more : (all : List Loaded) (i : ℕ) (seen scopes new : List Scope) (loaded : Loaded) (scope : Scope) → FilesGoOn all (take i all) (drop i all) scopes
    → i < length all → loaded ≡ get_or all i loaded → seen ≡ scopes → fault_in_file seen loaded ≡ None → scope ≡ scope_of seen loaded → new ≡ scopes ++ scope ∷ []
    → FilesGoOn all (take (i + 1) all) (drop (i + 1) all) new
files_more all i seen scopes new loaded scope go lt is same none scope_is new_is =
    subst (λ (front : List Loaded). FilesGoOn all front (drop (i + 1) all) new) (sym (take_more all i loaded lt ∙ ap (λ (l : Loaded). take i all ++ l ∷ []) (sym is)))
    (files_step all (take i all) (drop (i + 1) all) scopes new loaded scope
    (subst (λ (rest : List Loaded). FilesGoOn all (take i all) rest scopes) (next_item all i loaded lt is) go)
    (ap (λ (ss : List Scope). fault_in_file ss loaded) (sym same) ∙ none)
    (scope_is ∙ ap (λ (ss : List Scope). scope_of ss loaded) same) new_is)

pub files_end : (all front : List Loaded) (scopes : List Scope) → FilesGoOn all front [] scopes → (first_fault all ≡ None) × (scopes ≡ scopes_of all)
files_end all front scopes go = (
  go.fault,
  go.scopes_are ∙ ap scopes_of (sym (go.all_are ∙ append-nil front)),
)

-- the first file with a fault
pub files_stop : (all front rest : List Loaded) (scopes : List Scope) (loaded : Loaded) (e : ScopeFault) → FilesGoOn all front (loaded ∷ rest) scopes
    → IsCauseIn loaded (fault_in_file scopes loaded) e → IsCauseOf all e
files_stop all front rest scopes loaded (cause.Model fault) go h =
    go.fault
    ∙ ap (λ (f : Option ModelFault). option_or f (first_along fault_of_file (front ++ loaded ∷ []) rest))
    (ap (λ (ss : List Scope). option_map (in_file loaded) (fault_in_file ss loaded)) (sym go.scopes_are) ∙ h)
files_stop all front rest scopes loaded cause.OutOfMemory go h = tt

pub stop_at : (all : List Loaded) (i : ℕ) (seen scopes : List Scope) (loaded : Loaded) (e : ScopeFault) → FilesGoOn all (take i all) (drop i all) scopes
    → i < length all → loaded ≡ get_or all i loaded → seen ≡ scopes → IsCauseIn loaded (fault_in_file seen loaded) e → IsCauseOf all e
stop_at all i seen scopes loaded e go lt is same h =
    files_stop all (take i all) (drop (i + 1) all) scopes loaded e
    (subst (λ (rest : List Loaded). FilesGoOn all (take i all) rest scopes) (next_item all i loaded lt is) go)
    (subst (λ (ss : List Scope). IsCauseIn loaded (fault_in_file ss loaded) e) same h)

-- an error that a caller hands on
pub cause_is : {A : Type 0} (P : ScopeFault → Type 0) (r : Result A ScopeFault) (e : ScopeFault) → IsErrAnd r (λ f. f ≡ e) → P e → IfErr r P
cause_is P (Ok x) e h p = absurd h
cause_is P (Err f) e h p = subst P (sym h) p

-- behind the last file
pub files_all : (all : List Loaded) (i : ℕ) (scopes : List Scope) → FilesGoOn all (take i all) (drop i all) scopes → length all ≤ i
    → (first_fault all ≡ None) × (scopes ≡ scopes_of all)
files_all all i scopes go past =
    files_end all (take i all) scopes (subst (λ (rest : List Loaded). FilesGoOn all (take i all) rest scopes) (drop_all i all past) go)
