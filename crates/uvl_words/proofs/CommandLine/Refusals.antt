-- A lone hyphen in front of `--` refuses the words: it is no model, and no value of the option.
use Rattle.std.proofs.Common.{◌≡◌, ◌∙◌, refl, sym, ap, subst, ℕ, Bool, true, false, not, ◌||◌, List, [], ◌∷◌, None, codes}
use Rattle.std.specs.List.{list_any}
use Rattle.std.specs.Str.{bytes_eq}
use Rattle.std.proofs.lemmas.Slice.Eq.{bytes_eq-Decides}
use Rattle.uvl_words.specs.CommandLineRules.{has_lone_hyphen}
use Rattle.uvl_words.specs.CommandLine.{Argument, budget, model, refused, is_budget, budget_of, argument_of, arguments_of, request_by, request_for, request_of}
use Rattle.uvl_words.proofs.CommandLine.Fronts.{arguments-word}

-- what the words may not stand for
abbrev is_bad : Argument → Bool
is_bad (budget value) = not (is_budget value)
is_bad (model path) = false
is_bad refused = true

-- a value that writes no budget asks for nothing
pub no_budget : (path : List ℕ) → request_for path None ≡ None
no_budget [] = refl
no_budget (b ∷ bs) = refl

bad_budget : (path value : List ℕ) → not (is_budget value) ≡ true → request_for path (budget_of value) ≡ None
bad_budget path value bad = go (is_budget value) refl
  where
    go : (t : Bool) → is_budget value ≡ t → request_for path (budget_of value) ≡ None
    go true t =
        let no : false ≡ true = sym (ap not t) ∙ bad in
        cc
    go false t =
        let none : budget_of value ≡ None = rw t refl in
        ap (request_for path) none ∙ no_budget path

either_false : (b : Bool) → (b || false) ≡ true → b ≡ true
either_false true h = refl
either_false false h = h

pub bad_refused : (arguments : List Argument) → list_any is_bad arguments ≡ true → request_by arguments ≡ None
bad_refused [] h = cc
bad_refused (refused ∷ others) h = refl
bad_refused (model path ∷ []) h =
    let no : false ≡ true = h in
    cc
bad_refused (model path ∷ refused ∷ others) h = refl
bad_refused (model path ∷ model other ∷ others) h = refl
bad_refused (model path ∷ budget value ∷ []) h = bad_budget path value (either_false (not (is_budget value)) h)
bad_refused (model path ∷ budget value ∷ other ∷ others) h = refl
bad_refused (budget value ∷ []) h = refl
bad_refused (budget value ∷ refused ∷ others) h = refl
bad_refused (budget value ∷ budget other ∷ others) h = refl
bad_refused (budget value ∷ model path ∷ []) h = bad_budget path value (either_false (not (is_budget value)) h)
bad_refused (budget value ∷ model path ∷ other ∷ others) h = refl

later : (b c : Bool) → c ≡ true → (b || c) ≡ true
later true c h = refl
later false c h = h

-- a word that is no option without its value
other_word : (word : List ℕ) (rest : List (List ℕ)) → has_lone_hyphen (word ∷ rest) ≡ true → bytes_eq word (codes "--") ≡ false
    → bytes_eq word (codes "--budget") ≡ false → (has_lone_hyphen rest ≡ true → list_any is_bad (arguments_of rest) ≡ true)
    → list_any is_bad (arguments_of (word ∷ rest)) ≡ true
other_word word rest lone end bare ih =
    ap (list_any is_bad) (arguments-word word rest end bare) ∙ go (bytes_eq word (codes "-")) refl
  where
    go : (t : Bool) → bytes_eq word (codes "-") ≡ t → list_any is_bad (argument_of word ∷ arguments_of rest) ≡ true
    go true t =
        let same : word ≡ codes "-" = (bytes_eq-Decides word (codes "-")).0 t in
        subst (λ (w : List ℕ). list_any is_bad (argument_of w ∷ arguments_of rest) ≡ true) (sym same) refl
    go false t = later (is_bad (argument_of word)) _ (ih (rw (end, t) at lone))

-- a value of the option
value_word : (value : List ℕ) (rest : List (List ℕ)) → has_lone_hyphen (value ∷ rest) ≡ true
    → (has_lone_hyphen rest ≡ true → list_any is_bad (arguments_of rest) ≡ true)
    → list_any is_bad (budget value ∷ arguments_of rest) ≡ true
value_word value rest lone ih = end (bytes_eq value (codes "--")) refl
  where
    hyphen : (t : Bool) → bytes_eq value (codes "-") ≡ t → bytes_eq value (codes "--") ≡ false → list_any is_bad (budget value ∷ arguments_of rest) ≡ true
    hyphen true t no_end =
        let same : value ≡ codes "-" = (bytes_eq-Decides value (codes "-")).0 t in
        subst (λ (w : List ℕ). list_any is_bad (budget w ∷ arguments_of rest) ≡ true) (sym same) refl
    hyphen false t no_end = later (is_bad (budget value)) _ (ih (rw (no_end, t) at lone))

    end : (t : Bool) → bytes_eq value (codes "--") ≡ t → list_any is_bad (budget value ∷ arguments_of rest) ≡ true
    end true t =
        let no : false ≡ true = rw t at lone in
        cc
    end false t = hyphen (bytes_eq value (codes "-")) refl t

first_word : (word : List ℕ) (rest : List (List ℕ)) → has_lone_hyphen (word ∷ rest) ≡ true
    → (has_lone_hyphen rest ≡ true → list_any is_bad (arguments_of rest) ≡ true)
    → ((value : List ℕ) (others : List (List ℕ)) → rest ≡ value ∷ others → has_lone_hyphen others ≡ true → list_any is_bad (arguments_of others) ≡ true)
    → list_any is_bad (arguments_of (word ∷ rest)) ≡ true
first_word word rest lone ih ih_behind = end (bytes_eq word (codes "--")) refl
  where
    behind : (others : List (List ℕ)) → rest ≡ others → has_lone_hyphen others ≡ true → list_any is_bad (arguments_of (codes "--budget" ∷ others)) ≡ true
    behind [] e l =
        let no : false ≡ true = l in
        cc
    behind (value ∷ others) e l = value_word value others l (ih_behind value others e)

    bare : (t : Bool) → bytes_eq word (codes "--budget") ≡ t → bytes_eq word (codes "--") ≡ false → list_any is_bad (arguments_of (word ∷ rest)) ≡ true
    bare true t no_end =
        let same : word ≡ codes "--budget" = (bytes_eq-Decides word (codes "--budget")).0 t in
        let l : has_lone_hyphen (codes "--budget" ∷ rest) ≡ true = subst (λ (w : List ℕ). has_lone_hyphen (w ∷ rest) ≡ true) same lone in
        subst (λ (w : List ℕ). list_any is_bad (arguments_of (w ∷ rest)) ≡ true) (sym same) (behind rest refl l)
    bare false t no_end = other_word word rest lone no_end t ih

    end : (t : Bool) → bytes_eq word (codes "--") ≡ t → list_any is_bad (arguments_of (word ∷ rest)) ≡ true
    end true t =
        let no : false ≡ true = rw t at lone in
        cc
    end false t = bare (bytes_eq word (codes "--budget")) refl t

lone_bad : (words : List (List ℕ)) → has_lone_hyphen words ≡ true → list_any is_bad (arguments_of words) ≡ true
lone_bad [] lone =
    let no : false ≡ true = lone in
    cc
lone_bad (word ∷ []) lone = first_word word [] lone (λ l. lone_bad [] l) (λ v o e l. cc)
lone_bad (word ∷ value ∷ others) lone =
    first_word word (value ∷ others) lone (λ l. lone_bad (value ∷ others) l)
    (λ v o e l.
    let same : o ≡ others = cc in
    subst (λ (ws : List (List ℕ)). list_any is_bad (arguments_of ws) ≡ true) (sym same) (lone_bad others (subst (λ (ws : List (List ℕ)). has_lone_hyphen ws ≡ true) same l)))

pub lone_refused : (words : List (List ℕ)) → has_lone_hyphen words ≡ true → request_of words ≡ None
unfolding request_of
lone_refused words lone = bad_refused (arguments_of words) (lone_bad words lone)
