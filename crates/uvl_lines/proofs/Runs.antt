-- How runs of lines are put one behind the other, and go on to more lines.
use Rattle.std.proofs.Common.{◌≡◌, ℕ, List, [], ◌∷◌, ◌++◌, sym, ap, ◌∙◌, subst, append_assoc}
use Rattle.std.proofs.lemmas.List.Concat.{flat_map-append}
use Rattle.uvl_lines.specs.Answers.{Replies, Fetching}
use Rattle.uvl_lines.specs.Runs.{Goes, Stops, here, inside, behind, Breaks, flat}

pub flat-append : (xs ys : List (List ℕ)) → flat (xs ++ ys) ≡ flat xs ++ flat ys
flat-append xs ys = flat_map-append (λ (text : List ℕ). text) xs ys

module _ {A : Type 0} (R : Replies A) (F : Fetching A) where
  -- lines behind lines
  pub Goes-append : (s m t : A) (xs ys texts more : List (List ℕ)) → Goes R s xs texts m → Goes R m ys more t → Goes R s (xs ++ ys) (texts ++ more) t
  Goes-append s m t [] ys [] more first second = let P : A → Type 0 = λ a. Goes R a ys more t in subst P first second
  Goes-append s m t [] ys (text ∷ texts) more first second = absurd first
  Goes-append s m t (x ∷ xs) ys [] more first second = absurd first
  Goes-append s m t (x ∷ xs) ys (text ∷ texts) more first second = (first.0, first.1, Goes-append first.0 m t xs ys texts more first.2 second)

  -- lines behind lines, of which not all are answered
  pub Goes-Stops : (s m : A) (xs ys texts : List (List ℕ)) (said : List ℕ) → Goes R s xs texts m → Stops R m ys said → Stops R s (xs ++ ys) (flat texts ++ said)
  Goes-Stops s m [] ys [] said first second = let P : A → Type 0 = λ a. Stops R a ys said in subst P first second
  Goes-Stops s m [] ys (text ∷ texts) said first second = absurd first
  Goes-Stops s m (x ∷ xs) ys [] said first second = absurd first
  Goes-Stops s m (x ∷ xs) ys (text ∷ texts) said first second =
      let P : List ℕ → Type 0 = λ all. Stops R s (x ∷ (xs ++ ys)) all in
      subst P (sym (append_assoc text (flat texts) said)) (behind s first.0 x text (flat texts ++ said) (xs ++ ys) first.1 (Goes-Stops first.0 m xs ys texts said first.2 second))

  -- lines behind lines, of which one fetches a file and isn't answered
  pub Goes-Breaks : (s m : A) (xs ys texts : List (List ℕ)) (said : List ℕ) → Goes R s xs texts m → Breaks R F m ys said → Breaks R F s (xs ++ ys) (flat texts ++ said)
  Goes-Breaks s m xs ys texts said first second = record {
    answered = xs ++ second.answered;
    line = second.line;
    others = second.others;
    texts = texts ++ second.texts;
    state = second.state;
    are = ap (λ (lines : List (List ℕ)). xs ++ lines) second.are ∙ sym (append_assoc xs second.answered (second.line ∷ second.others));
    goes = Goes-append s m second.state xs second.answered texts second.texts first second.goes;
    all = ap (λ (text : List ℕ). flat texts ++ text) second.all ∙ sym (flat-append texts second.texts);
    fetches = second.fetches;
  }

  -- lines that are not reached may be there
  pub Stops-longer : (s : A) (xs ys : List (List ℕ)) (said : List ℕ) → Stops R s xs said → Stops R s (xs ++ ys) said
  Stops-longer _ _ ys _ (here s lines) = here s (lines ++ ys)
  Stops-longer _ _ ys _ (inside s t line text said lines reply front) = inside s t line text said (lines ++ ys) reply front
  Stops-longer _ _ ys _ (behind s t line text said lines reply rest) = behind s t line text said (lines ++ ys) reply (Stops-longer t lines ys said rest)

  pub Breaks-longer : (s : A) (xs ys : List (List ℕ)) (said : List ℕ) → Breaks R F s xs said → Breaks R F s (xs ++ ys) said
  Breaks-longer s xs ys said breaks = record {
    answered = breaks.answered;
    line = breaks.line;
    others = breaks.others ++ ys;
    texts = breaks.texts;
    state = breaks.state;
    are = ap (λ (lines : List (List ℕ)). lines ++ ys) breaks.are ∙ append_assoc breaks.answered (breaks.line ∷ breaks.others) ys;
    goes = breaks.goes;
    all = breaks.all;
    fetches = breaks.fetches;
  }
