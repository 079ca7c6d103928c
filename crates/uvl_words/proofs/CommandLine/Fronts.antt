-- The words in front of `--`, by what each of them is.
use Rattle.std.proofs.Common.{◌≡◌, ◌∙◌, refl, sym, ap, subst, ℕ, Bool, true, false, List, [], ◌∷◌, ◌++◌, map, take, drop, take-append-drop, Some, codes, ◌⊎◌, inl, inr, arith}
use Rattle.std.specs.Prelude.{◌==◌, nat_eq, slice_get}
use Rattle.std.specs.List.{before_first, starts_with}
use Rattle.std.specs.Str.{bytes_eq, chars, IsUtf8}
use Rattle.std.specs.Str.{encode_utf8_all as encodes}
use Rattle.std.specs.Char.{encode_utf8 as encode}
use Rattle.std.proofs.Math.Numerals.{one-add}
use Rattle.std.proofs.lemmas.Bool.{eqb-true, eq-eqb}
use Rattle.std.proofs.lemmas.Slice.Eq.{bytes_eq-Decides}
use Rattle.std.proofs.lemmas.Str.{encode_ascii, encodes-chars, IsUtf8-past_char}
use Rattle.uvl_words.specs.CommandLineRules.{AreTexts, has_lone_hyphen}
use Rattle.uvl_words.specs.CommandLine.{Argument, budget, model, refused, argument_of, arguments_of}

abbrev Text : Type 0
Text = List ℕ

abbrev is_equals : ℕ → Bool
is_equals x = x == 61

-- the words, up to the first `--` that is no value
pub data Front : List Text → Type 0 where
  ended : Front []
  dashes : (rest : List Text) → Front (codes "--" ∷ rest)
  flag : (rest : List Text) → Front rest → Front (codes "--budget" ∷ rest)
  joined : (value : Text) (rest : List Text) → Front rest → Front ((codes "--budget=" ++ value) ∷ rest)
  unknown : (b : ℕ) (bs : Text) (rest : List Text) → bytes_eq (codes "budget") (before_first (λ x. x == 61) (b ∷ bs)) ≡ false
      → argument_of (45 ∷ 45 ∷ b ∷ bs) ≡ refused → bytes_eq (45 ∷ 45 ∷ b ∷ bs) (codes "--budget") ≡ false
      → Front rest → Front ((45 ∷ 45 ∷ b ∷ bs) ∷ rest)
  short : (b : ℕ) (bs : Text) (rest : List Text) → nat_eq b 45 ≡ false → nat_eq 45 b ≡ false
      → (c : ℕ) → slice_get (chars (b ∷ bs)) 0 ≡ Some c → Front rest → Front ((45 ∷ b ∷ bs) ∷ rest)
  empty : (rest : List Text) → Front rest → Front ([] ∷ rest)
  plain : (b : ℕ) (bs : Text) (rest : List Text) → nat_eq b 45 ≡ false → nat_eq 45 b ≡ false → Front rest → Front ((b ∷ bs) ∷ rest)

-- ---- what the words stand for

pub arguments-dashes : (rest : List Text) → arguments_of (codes "--" ∷ rest) ≡ map model rest
arguments-dashes [] = refl
arguments-dashes (next ∷ rest) = refl

pub arguments-joined : (value : Text) (rest : List Text) → arguments_of ((codes "--budget=" ++ value) ∷ rest) ≡ budget value ∷ arguments_of rest
arguments-joined value [] = refl
arguments-joined value (next ∷ rest) = refl

-- a word that stands for itself
pub arguments-word : (word : Text) (rest : List Text) → bytes_eq word (codes "--") ≡ false → bytes_eq word (codes "--budget") ≡ false
    → arguments_of (word ∷ rest) ≡ argument_of word ∷ arguments_of rest
arguments-word word [] e f = rw e refl
arguments-word word (next ∷ rest) e f = rw (e, f) refl

pub arguments-unknown : (b : ℕ) (bs : Text) (rest : List Text) → argument_of (45 ∷ 45 ∷ b ∷ bs) ≡ refused
    → bytes_eq (45 ∷ 45 ∷ b ∷ bs) (codes "--budget") ≡ false
    → arguments_of ((45 ∷ 45 ∷ b ∷ bs) ∷ rest) ≡ refused ∷ arguments_of rest
arguments-unknown b bs rest e f = arguments-word (45 ∷ 45 ∷ b ∷ bs) rest refl f ∙ ap (λ (a : Argument). a ∷ arguments_of rest) e

pub arguments-short : (b : ℕ) (bs : Text) (rest : List Text) → nat_eq b 45 ≡ false → nat_eq 45 b ≡ false
    → arguments_of ((45 ∷ b ∷ bs) ∷ rest) ≡ refused ∷ arguments_of rest
arguments-short b bs rest e f =
    arguments-word (45 ∷ b ∷ bs) rest (rw e refl) (rw e refl)
    ∙ ap (λ (a : Argument). a ∷ arguments_of rest) (rw f refl)

pub arguments-empty : (rest : List Text) → arguments_of ([] ∷ rest) ≡ model [] ∷ arguments_of rest
arguments-empty rest = arguments-word [] rest refl refl

pub arguments-plain : (b : ℕ) (bs : Text) (rest : List Text) → nat_eq b 45 ≡ false → nat_eq 45 b ≡ false
    → arguments_of ((b ∷ bs) ∷ rest) ≡ model (b ∷ bs) ∷ arguments_of rest
arguments-plain b bs rest e f =
    arguments-word (b ∷ bs) rest (rw e refl) (rw e refl)
    ∙ ap (λ (a : Argument). a ∷ arguments_of rest) (rw (f, e) refl)

-- ---- each list of words is such a one

-- a text behind an ASCII byte has a first letter
first_letter : (b : ℕ) (bs : Text) → IsUtf8 (45 ∷ b ∷ bs) → (c : ℕ) × (slice_get (chars (b ∷ bs)) 0 ≡ Some c)
first_letter b bs text =
    let ascii : encode 45 ≡ 45 ∷ [] = encode_ascii 45 (omega arith) in
    let behind : IsUtf8 (b ∷ bs) = IsUtf8-past_char (45 ∷ b ∷ bs) (b ∷ bs) 45 text (ap (λ (l : Text). l ++ b ∷ bs) (sym ascii)) in
    letter (chars (b ∷ bs)) refl (encodes-chars (b ∷ bs) behind)
  where
    letter : (cs : List ℕ) → chars (b ∷ bs) ≡ cs → encodes (chars (b ∷ bs)) ≡ b ∷ bs → (c : ℕ) × (slice_get (chars (b ∷ bs)) 0 ≡ Some c)
    letter [] none spelled =
        let no : [] ≡ b ∷ bs = sym (ap encodes none) ∙ spelled in
        cc
    letter (c ∷ cs) some spelled = (c, ap (λ (l : List ℕ). slice_get l 0) some)

-- a text is what stands before its first `=`, and then nothing or `=` and the rest
cut : (xs : Text) → (rest : Text) × (xs ≡ before_first is_equals xs ++ rest) × ((rest ≡ []) ⊎ ((r : Text) × (rest ≡ 61 ∷ r)))
cut [] = ([], refl, inl refl)
cut (x ∷ xs) = step (nat_eq x 61) refl (cut xs)
  where
    step : (t : Bool) → nat_eq x 61 ≡ t → (rest : Text) × (xs ≡ before_first is_equals xs ++ rest) × ((rest ≡ []) ⊎ ((r : Text) × (rest ≡ 61 ∷ r)))
        → (rest : Text) × (x ∷ xs ≡ before_first is_equals (x ∷ xs) ++ rest) × ((rest ≡ []) ⊎ ((r : Text) × (rest ≡ 61 ∷ r)))
    step true t ih = (x ∷ xs, rw t refl, inr (xs, ap (λ (n : ℕ). n ∷ xs) (eqb-true x 61 t)))
    step false t ih = (ih.0, rw (t, one-add) (ap (λ (l : Text). x ∷ l) ih.1), ih.2)

-- a name that is the option's, in a word that is neither of its two forms
not_unknown : (b : ℕ) (bs : Text) → bytes_eq (45 ∷ 45 ∷ b ∷ bs) (codes "--budget") ≡ false
    → starts_with nat_eq (45 ∷ 45 ∷ b ∷ bs) (codes "--budget=") ≡ false
    → before_first is_equals (b ∷ bs) ≡ codes "budget" → ⊥
not_unknown b bs bare joint name = elim (cut (b ∷ bs)).2 [
  | inl none ↦
      let word : 45 ∷ 45 ∷ b ∷ bs ≡ codes "--budget" = ap (λ (l : Text). 45 ∷ 45 ∷ l) ((cut (b ∷ bs)).1 ∙ (ap (λ (l : Text). before_first is_equals (b ∷ bs) ++ l) none ∙ ap (λ (l : Text). l ++ []) name)) in
      let same : true ≡ false = sym (ap (λ (l : Text). bytes_eq l (codes "--budget")) word) ∙ bare in
      cc
  | inr some ↦
      let word : 45 ∷ 45 ∷ b ∷ bs ≡ codes "--budget=" ++ some.0 = ap (λ (l : Text). 45 ∷ 45 ∷ l) ((cut (b ∷ bs)).1 ∙ (ap (λ (l : Text). before_first is_equals (b ∷ bs) ++ l) some.1 ∙ ap (λ (l : Text). l ++ 61 ∷ some.0) name)) in
      let same : true ≡ false = sym (ap (λ (l : Text). starts_with nat_eq l (codes "--budget=")) word) ∙ joint in
      cc
]

-- a word that begins with two hyphens
option_word : (b : ℕ) (bs : Text) (rest : List Text) → Front rest → Front ((45 ∷ 45 ∷ b ∷ bs) ∷ rest)
option_word b bs rest f = bare (bytes_eq (45 ∷ 45 ∷ b ∷ bs) (codes "--budget")) refl
  where
    named : (t : Bool) → bytes_eq (codes "budget") (before_first is_equals (b ∷ bs)) ≡ t → bytes_eq (45 ∷ 45 ∷ b ∷ bs) (codes "--budget") ≡ false
        → starts_with nat_eq (45 ∷ 45 ∷ b ∷ bs) (codes "--budget=") ≡ false → Front ((45 ∷ 45 ∷ b ∷ bs) ∷ rest)
    named true t no_bare no_joint = absurd (not_unknown b bs no_bare no_joint (sym ((bytes_eq-Decides (codes "budget") (before_first is_equals (b ∷ bs))).0 t)))
    named false t no_bare no_joint = unknown b bs rest t (rw no_joint refl) no_bare f

    joint : (t : Bool) → starts_with nat_eq (45 ∷ 45 ∷ b ∷ bs) (codes "--budget=") ≡ t → bytes_eq (45 ∷ 45 ∷ b ∷ bs) (codes "--budget") ≡ false
        → Front ((45 ∷ 45 ∷ b ∷ bs) ∷ rest)
    joint true t no_bare =
        let front : codes "--budget=" ≡ take 9 (45 ∷ 45 ∷ b ∷ bs) = (bytes_eq-Decides (codes "--budget=") (take 9 (45 ∷ 45 ∷ b ∷ bs))).0 t in
        let whole : codes "--budget=" ++ drop 9 (45 ∷ 45 ∷ b ∷ bs) ≡ 45 ∷ 45 ∷ b ∷ bs = ap (λ (l : Text). l ++ drop 9 (45 ∷ 45 ∷ b ∷ bs)) front ∙ take-append-drop 9 (45 ∷ 45 ∷ b ∷ bs) in
        subst (λ (w : Text). Front (w ∷ rest)) whole (joined (drop 9 (45 ∷ 45 ∷ b ∷ bs)) rest f)
    joint false t no_bare = named (bytes_eq (codes "budget") (before_first is_equals (b ∷ bs))) refl no_bare t

    bare : (t : Bool) → bytes_eq (45 ∷ 45 ∷ b ∷ bs) (codes "--budget") ≡ t → Front ((45 ∷ 45 ∷ b ∷ bs) ∷ rest)
    bare true t = subst (λ (w : Text). Front (w ∷ rest)) (sym ((bytes_eq-Decides (45 ∷ 45 ∷ b ∷ bs) (codes "--budget")).0 t)) (flag rest f)
    bare false t = joint (starts_with nat_eq (45 ∷ 45 ∷ b ∷ bs) (codes "--budget=")) refl t

-- equality is the same from both sides
pub other_way : (a b : ℕ) → nat_eq a b ≡ false → nat_eq b a ≡ false
other_way a b e = go (nat_eq b a) refl
  where
    go : (t : Bool) → nat_eq b a ≡ t → nat_eq b a ≡ false
    go true t =
        let same : nat_eq a b ≡ true = eq-eqb a b (sym (eqb-true b a t)) in
        cc
    go false t = t

-- a word that begins with a hyphen, and isn't one alone
hyphen_word : (bs : Text) (rest : List Text) → IsUtf8 (45 ∷ bs) → bytes_eq (45 ∷ bs) (codes "--") ≡ false → bytes_eq (45 ∷ bs) (codes "-") ≡ false
    → Front rest → Front ((45 ∷ bs) ∷ rest)
hyphen_word [] rest text end lone f =
    let no : true ≡ false = lone in
    cc
hyphen_word (b ∷ bs) rest text end lone f = second (nat_eq b 45) refl
  where
    double : (cs : Text) → bytes_eq (45 ∷ 45 ∷ cs) (codes "--") ≡ false → Front ((45 ∷ 45 ∷ cs) ∷ rest)
    double [] e =
        let no : true ≡ false = e in
        cc
    double (c ∷ cs) e = option_word c cs rest f

    second : (t : Bool) → nat_eq b 45 ≡ t → Front ((45 ∷ b ∷ bs) ∷ rest)
    second true t =
        let same : b ≡ 45 = eqb-true b 45 t in
        subst (λ (x : ℕ). Front ((45 ∷ x ∷ bs) ∷ rest)) (sym same) (double bs (subst (λ (x : ℕ). bytes_eq (45 ∷ x ∷ bs) (codes "--") ≡ false) same end))
    second false t =
        let letter = first_letter b bs text in
        short b bs rest t (other_way b 45 t) letter.0 letter.1 f

front_word : (word : Text) (rest : List Text) → IsUtf8 word → bytes_eq word (codes "--") ≡ false → bytes_eq word (codes "-") ≡ false
    → Front rest → Front (word ∷ rest)
front_word [] rest text end lone f = empty rest f
front_word (b ∷ bs) rest text end lone f = first (nat_eq b 45) refl
  where
    first : (t : Bool) → nat_eq b 45 ≡ t → Front ((b ∷ bs) ∷ rest)
    first true t =
        let same : b ≡ 45 = eqb-true b 45 t in
        subst (λ (x : ℕ). Front ((x ∷ bs) ∷ rest)) (sym same) (hyphen_word bs rest
        (subst (λ (x : ℕ). IsUtf8 (x ∷ bs)) same text)
        (subst (λ (x : ℕ). bytes_eq (x ∷ bs) (codes "--") ≡ false) same end)
        (subst (λ (x : ℕ). bytes_eq (x ∷ bs) (codes "-") ≡ false) same lone) f)
    first false t = plain b bs rest t (other_way b 45 t) f

pub front_of : (words : List Text) → AreTexts words → has_lone_hyphen words ≡ false → Front words
front_of [] texts lone = ended
front_of (word ∷ rest) texts lone = end (bytes_eq word (codes "--")) refl (front_of rest)
  where
    hyphen : (t : Bool) → bytes_eq word (codes "-") ≡ t → bytes_eq word (codes "--") ≡ false → (AreTexts rest → has_lone_hyphen rest ≡ false → Front rest) → Front (word ∷ rest)
    hyphen true t no_end ih =
        let no : true ≡ false = rw (no_end, t) at lone in
        cc
    hyphen false t no_end ih =
        let both = rw no_end at texts in
        front_word word rest both.0 no_end t (ih both.1 (rw (no_end, t) at lone))

    end : (t : Bool) → bytes_eq word (codes "--") ≡ t → (AreTexts rest → has_lone_hyphen rest ≡ false → Front rest) → Front (word ∷ rest)
    end true t ih = subst (λ (w : Text). Front (w ∷ rest)) (sym ((bytes_eq-Decides word (codes "--")).0 t)) (dashes rest)
    end false t ih = hyphen (bytes_eq word (codes "-")) refl t ih
