-- The words that ask for something are those of the forms.
use Rattle.std.proofs.Common.{◌≡◌, ◌∙◌, refl, sym, ap, subst, ℕ, Bool, true, false, List, [], ◌∷◌, ◌++◌, map, take, drop, take-append-drop, Option, Some, None, codes}
use Rattle.std.specs.Prelude.{nat_eq}
use Rattle.std.specs.List.{starts_with}
use Rattle.std.specs.Str.{bytes_eq}
use Rattle.std.proofs.lemmas.Slice.Eq.{bytes_eq-Decides}
use Rattle.uvl_words.specs.Budgets.{default_budget}
use Rattle.uvl_words.specs.CommandLine.{Argument, Request, argument_of, arguments_of, begins_with_hyphen, budget, budget_of, model, refused, for_model, request_by, request_for, request_of}
use Rattle.uvl_words.specs.CommandLineForms.{Asks, Gives, IsEnd, apart, bare, before_option, behind_dashes, behind_option, dashes, default, joined}
use Rattle.uvl_words.proofs.CommandLine.Fronts.{arguments-joined, arguments-plain, other_way}

abbrev Words : Type 0
Words = List (List ℕ)

-- ---- words of the forms

-- what the option stands for
abbrev given_as : (option : Words) (n : ℕ) → Gives option n → List Argument
given_as _ _ default = []
given_as _ _ (apart value n e) = budget value ∷ []
given_as _ _ (joined value n e) = budget value ∷ []

arguments-given : (option : Words) (n : ℕ) (g : Gives option n) (rest : Words) → arguments_of (option ++ rest) ≡ given_as option n g ++ arguments_of rest
arguments-given _ _ default rest = refl
arguments-given _ _ (apart value n e) rest = refl
arguments-given _ _ (joined value n e) rest = arguments-joined value rest

arguments-end : (end : Words) → IsEnd end → arguments_of end ≡ []
arguments-end _ bare = refl
arguments-end _ dashes = refl

model_behind : (option : Words) (n : ℕ) (g : Gives option n) (b : ℕ) (bs : List ℕ) → request_by (given_as option n g ++ model (b ∷ bs) ∷ []) ≡ Some (for_model (b ∷ bs) n)
model_behind _ _ default b bs = refl
model_behind _ _ (apart value n e) b bs = ap (request_for (b ∷ bs)) e
model_behind _ _ (joined value n e) b bs = ap (request_for (b ∷ bs)) e

model_before : (option : Words) (n : ℕ) (g : Gives option n) (b : ℕ) (bs : List ℕ) → request_by (model (b ∷ bs) ∷ given_as option n g ++ []) ≡ Some (for_model (b ∷ bs) n)
model_before _ _ default b bs = refl
model_before _ _ (apart value n e) b bs = ap (request_for (b ∷ bs)) e
model_before _ _ (joined value n e) b bs = ap (request_for (b ∷ bs)) e

pub taken : (words : Words) (asked : Request) → Asks words asked → request_of words ≡ Some asked
unfolding request_of
taken _ _ (behind_option option n b bs end g plain e) =
    ap request_by (arguments-given option n g ((b ∷ bs) ∷ end)
    ∙ ap (λ (l : List Argument). given_as option n g ++ l) (arguments-plain b bs end plain (other_way b 45 plain)
    ∙ ap (λ (l : List Argument). model (b ∷ bs) ∷ l) (arguments-end end e)))
    ∙ model_behind option n g b bs
taken _ _ (before_option option n b bs end g plain e) =
    ap request_by (arguments-plain b bs (option ++ end) plain (other_way b 45 plain)
    ∙ ap (λ (l : List Argument). model (b ∷ bs) ∷ l) (arguments-given option n g end
    ∙ ap (λ (l : List Argument). given_as option n g ++ l) (arguments-end end e)))
    ∙ model_before option n g b bs
taken _ _ (behind_dashes option n b bs g) =
    ap request_by (arguments-given option n g (codes "--" ∷ (b ∷ bs) ∷ [])) ∙ model_behind option n g b bs

-- ---- words that ask for something

-- the words that stand for an argument and others
data First (words : Words) (first : Argument) (others : List Argument) : Type 0 where
  ended : (rest : Words) → words ≡ codes "--" ∷ rest → map model rest ≡ first ∷ others → First words first others
  flagged : (value : List ℕ) (rest : Words) → words ≡ codes "--budget" ∷ value ∷ rest → budget value ≡ first → arguments_of rest ≡ others → First words first others
  alone : (word : List ℕ) (rest : Words) → words ≡ word ∷ rest → argument_of word ≡ first → arguments_of rest ≡ others → First words first others

abbrev head_of : List Argument → Argument
head_of [] = refused
head_of (a ∷ others) = a

abbrev tail_of : List Argument → List Argument
tail_of [] = []
tail_of (a ∷ others) = others

first_of : (words : Words) (first : Argument) (others : List Argument) → arguments_of words ≡ first ∷ others → First words first others
first_of [] first others e = cc
first_of (word ∷ []) first others e = go (bytes_eq word (codes "--")) refl
  where
    go : (t : Bool) → bytes_eq word (codes "--") ≡ t → First (word ∷ []) first others
    go true t =
        let no : [] ≡ first ∷ others = rw t at e in
        cc
    go false t =
        let is : argument_of word ∷ [] ≡ first ∷ others = rw t at e in
        alone word [] refl (ap head_of is) (ap tail_of is)
first_of (word ∷ next ∷ rest) first others e = end (bytes_eq word (codes "--")) refl
  where
    flag : (t : Bool) → bytes_eq word (codes "--budget") ≡ t → bytes_eq word (codes "--") ≡ false → First (word ∷ next ∷ rest) first others
    flag true t no_end =
        let is : budget next ∷ arguments_of rest ≡ first ∷ others = rw (no_end, t) at e in
        flagged next rest (ap (λ (w : List ℕ). w ∷ next ∷ rest) ((bytes_eq-Decides word (codes "--budget")).0 t)) (ap head_of is) (ap tail_of is)
    flag false t no_end =
        let is : argument_of word ∷ arguments_of (next ∷ rest) ≡ first ∷ others = rw (no_end, t) at e in
        alone word (next ∷ rest) refl (ap head_of is) (ap tail_of is)

    end : (t : Bool) → bytes_eq word (codes "--") ≡ t → First (word ∷ next ∷ rest) first others
    end true t = ended (next ∷ rest) (ap (λ (w : List ℕ). w ∷ next ∷ rest) ((bytes_eq-Decides word (codes "--")).0 t)) (rw t at e)
    end false t = flag (bytes_eq word (codes "--budget")) refl t

-- what a word stands for says what it is
argument_model : (word path : List ℕ) → argument_of word ≡ model path → (word ≡ path) × (begins_with_hyphen word ≡ false)
argument_model word path e = prefix (starts_with nat_eq word (codes "--budget=")) refl
  where
    hyphen : (t : Bool) → begins_with_hyphen word ≡ t → starts_with nat_eq word (codes "--budget=") ≡ false → (word ≡ path) × (begins_with_hyphen word ≡ false)
    hyphen true t other =
        let is : refused ≡ model path = rw (other, t) at e in
        cc
    hyphen false t other =
        let is : model word ≡ model path = rw (other, t) at e in
        (cc, t)

    prefix : (t : Bool) → starts_with nat_eq word (codes "--budget=") ≡ t → (word ≡ path) × (begins_with_hyphen word ≡ false)
    prefix true t =
        let is : budget (drop 9 word) ≡ model path = rw t at e in
        cc
    prefix false t = hyphen (begins_with_hyphen word) refl t

argument_budget : (word value : List ℕ) → argument_of word ≡ budget value → word ≡ codes "--budget=" ++ value
argument_budget word value e = prefix (starts_with nat_eq word (codes "--budget=")) refl
  where
    hyphen : (t : Bool) → begins_with_hyphen word ≡ t → starts_with nat_eq word (codes "--budget=") ≡ false → word ≡ codes "--budget=" ++ value
    hyphen true t other =
        let is : refused ≡ budget value = rw (other, t) at e in
        cc
    hyphen false t other =
        let is : model word ≡ budget value = rw (other, t) at e in
        cc

    prefix : (t : Bool) → starts_with nat_eq word (codes "--budget=") ≡ t → word ≡ codes "--budget=" ++ value
    prefix true t =
        let is : budget (drop 9 word) ≡ budget value = rw t at e in
        let behind : drop 9 word ≡ value = cc in
        let front : codes "--budget=" ≡ take 9 word = (bytes_eq-Decides (codes "--budget=") (take 9 word)).0 t in
        sym (take-append-drop 9 word) ∙ (ap (λ (l : List ℕ). l ++ drop 9 word) (sym front) ∙ ap (λ (l : List ℕ). codes "--budget=" ++ l) behind)
    prefix false t = hyphen (begins_with_hyphen word) refl t

-- words that stand for nothing
at_end : (words : Words) → arguments_of words ≡ [] → IsEnd words
at_end [] e = bare
at_end (word ∷ []) e = go (bytes_eq word (codes "--")) refl
  where
    go : (t : Bool) → bytes_eq word (codes "--") ≡ t → IsEnd (word ∷ [])
    go true t = subst (λ (w : List ℕ). IsEnd (w ∷ [])) (sym ((bytes_eq-Decides word (codes "--")).0 t)) dashes
    go false t =
        let no : argument_of word ∷ [] ≡ [] = rw t at e in
        cc
at_end (word ∷ next ∷ rest) e = end (bytes_eq word (codes "--")) refl
  where
    flag : (t : Bool) → bytes_eq word (codes "--budget") ≡ t → bytes_eq word (codes "--") ≡ false → IsEnd (word ∷ next ∷ rest)
    flag true t no_end =
        let no : budget next ∷ arguments_of rest ≡ [] = rw (no_end, t) at e in
        cc
    flag false t no_end =
        let no : argument_of word ∷ arguments_of (next ∷ rest) ≡ [] = rw (no_end, t) at e in
        cc

    end : (t : Bool) → bytes_eq word (codes "--") ≡ t → IsEnd (word ∷ next ∷ rest)
    end true t =
        let no : model next ∷ map model rest ≡ [] = rw t at e in
        cc
    end false t = flag (bytes_eq word (codes "--budget")) refl t

-- words that stand for a model alone
data Single (words : Words) (path : List ℕ) : Type 0 where
  after_dashes : words ≡ codes "--" ∷ path ∷ [] → Single words path
  in_front : (end : Words) → words ≡ path ∷ end → begins_with_hyphen path ≡ false → IsEnd end → Single words path

one_model : (rest : Words) (path : List ℕ) → map model rest ≡ model path ∷ [] → rest ≡ path ∷ []
one_model [] path e = cc
one_model (word ∷ []) path e =
    let same : word ≡ path = cc in
    ap (λ (w : List ℕ). w ∷ []) same
one_model (word ∷ next ∷ rest) path e = cc

single : (words : Words) (path : List ℕ) → arguments_of words ≡ model path ∷ [] → Single words path
single words path e = elim (first_of words (model path) [] e) [
  | ended rest w m ↦ after_dashes (w ∙ ap (λ (r : Words). codes "--" ∷ r) (one_model rest path m))
  | flagged value rest w a o ↦ cc
  | alone word rest w a o ↦
      let is = argument_model word path a in
      in_front rest (w ∙ ap (λ (x : List ℕ). x ∷ rest) is.0) (subst (λ (x : List ℕ). begins_with_hyphen x ≡ false) is.0 is.1) (at_end rest o)
]

-- words that stand for the option and others
record Optioned (words : Words) (n : ℕ) (others : List Argument) : Type 0 where
  option : Words
  rest : Words
  gives : Gives option n
  whole : words ≡ option ++ rest
  behind : arguments_of rest ≡ others

no_option : (rest : Words) (value : List ℕ) (others : List Argument) → map model rest ≡ budget value ∷ others → ⊥
no_option [] value others e = cc
no_option (word ∷ rest) value others e =
    let no : model word ≡ budget value = ap head_of e in
    cc

optioned : (words : Words) (value : List ℕ) (n : ℕ) (others : List Argument) → arguments_of words ≡ budget value ∷ others → budget_of value ≡ Some n
    → Optioned words n others
optioned words value n others e writes = elim (first_of words (budget value) others e) [
  | ended rest w m ↦ absurd (no_option rest value others m)
  | flagged given rest w a o ↦
      let same : given ≡ value = cc in
      record {
        option = codes "--budget" ∷ value ∷ [];
        rest = rest;
        gives = apart value n writes;
        whole = w ∙ ap (λ (v : List ℕ). codes "--budget" ∷ v ∷ rest) same;
        behind = o;
      }
  | alone word rest w a o ↦ record {
    option = (codes "--budget=" ++ value) ∷ [];
    rest = rest;
    gives = joined value n writes;
    whole = w ∙ ap (λ (v : List ℕ). v ∷ rest) (argument_budget word value a);
    behind = o;
  }
]

-- the option, if there is one, and then the model
option_first : (words option rest : Words) (n b : ℕ) (bs : List ℕ) → Gives option n → words ≡ option ++ rest → arguments_of rest ≡ model (b ∷ bs) ∷ []
    → Asks words (for_model (b ∷ bs) n)
option_first words option rest n b bs g whole e = subst (λ (w : Words). Asks w (for_model (b ∷ bs) n)) (sym whole) (elim (single rest (b ∷ bs) e) [
  | after_dashes w ↦ subst (λ (r : Words). Asks (option ++ r) (for_model (b ∷ bs) n)) (sym w) (behind_dashes option n b bs g)
  | in_front end w plain e ↦ subst (λ (r : Words). Asks (option ++ r) (for_model (b ∷ bs) n)) (sym w) (behind_option option n b bs end g plain e)
])

option_last : (words : Words) (value : List ℕ) (n b : ℕ) (bs : List ℕ) → budget_of value ≡ Some n
    → arguments_of words ≡ model (b ∷ bs) ∷ budget value ∷ [] → Asks words (for_model (b ∷ bs) n)
option_last words value n b bs writes e = elim (first_of words (model (b ∷ bs)) (budget value ∷ []) e) [
  | ended rest w m ↦ absurd (no_tail rest m)
  | flagged given rest w a o ↦ cc
  | alone word rest w a o ↦
      let is = argument_model word (b ∷ bs) a in
      let behind = optioned rest value n [] o writes in
      let plain : begins_with_hyphen (b ∷ bs) ≡ false = subst (λ (x : List ℕ). begins_with_hyphen x ≡ false) is.0 is.1 in
      let whole : words ≡ (b ∷ bs) ∷ behind.option ++ behind.rest = w ∙ (ap (λ (x : List ℕ). x ∷ rest) is.0 ∙ ap (λ (r : Words). (b ∷ bs) ∷ r) behind.whole) in
      subst (λ (x : Words). Asks x (for_model (b ∷ bs) n)) (sym whole) (before_option behind.option n b bs behind.rest behind.gives plain (at_end behind.rest behind.behind))
]
  where
    no_tail : (rest : Words) → map model rest ≡ model (b ∷ bs) ∷ budget value ∷ [] → ⊥
    no_tail [] m = cc
    no_tail (x ∷ rest) m = no_option rest value [] (ap tail_of m)

-- a budget that is asked for
writes_budget : (words : Words) (b : ℕ) (bs value : List ℕ) (asked : Request) → request_for (b ∷ bs) (budget_of value) ≡ Some asked
    → ((n : ℕ) → budget_of value ≡ Some n → Asks words (for_model (b ∷ bs) n)) → Asks words asked
writes_budget words b bs value asked e form = go (budget_of value) refl
  where
    go : (o : Option ℕ) → budget_of value ≡ o → Asks words asked
    go None t =
        let no : None ≡ Some asked = ap (request_for (b ∷ bs)) (sym t) ∙ e in
        cc
    go (Some n) t =
        let is : Some (for_model (b ∷ bs) n) ≡ Some asked = ap (request_for (b ∷ bs)) (sym t) ∙ e in
        let same : for_model (b ∷ bs) n ≡ asked = cc in
        subst (Asks words) same (form n t)

by_arguments : (words : Words) (asked : Request) (arguments : List Argument) → arguments_of words ≡ arguments → request_by arguments ≡ Some asked → Asks words asked
by_arguments words asked [] is e = cc
by_arguments words asked (refused ∷ others) is e = cc
by_arguments words asked (model [] ∷ []) is e = cc
by_arguments words asked (model (b ∷ bs) ∷ []) is e =
    let same : for_model (b ∷ bs) default_budget ≡ asked = cc in
    subst (Asks words) same (option_first words [] words default_budget b bs default refl is)
by_arguments words asked (model path ∷ refused ∷ others) is e = cc
by_arguments words asked (model path ∷ model other ∷ others) is e = cc
by_arguments words asked (model path ∷ budget value ∷ other ∷ others) is e = cc
by_arguments words asked (model [] ∷ budget value ∷ []) is e = cc
by_arguments words asked (model (b ∷ bs) ∷ budget value ∷ []) is e =
    writes_budget words b bs value asked e (λ n writes. option_last words value n b bs writes is)
by_arguments words asked (budget value ∷ []) is e = cc
by_arguments words asked (budget value ∷ refused ∷ others) is e = cc
by_arguments words asked (budget value ∷ budget other ∷ others) is e = cc
by_arguments words asked (budget value ∷ model path ∷ other ∷ others) is e = cc
by_arguments words asked (budget value ∷ model [] ∷ []) is e = cc
by_arguments words asked (budget value ∷ model (b ∷ bs) ∷ []) is e =
    writes_budget words b bs value asked e (λ n writes.
    let front = optioned words value n (model (b ∷ bs) ∷ []) is writes in
    option_first words front.option front.rest n b bs front.gives front.whole front.behind)

pub only : (words : Words) (asked : Request) → request_of words ≡ Some asked → Asks words asked
unfolding request_of
only words asked e = by_arguments words asked (arguments_of words) refl e
