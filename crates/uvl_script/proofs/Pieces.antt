-- The pieces into which the bytes of a text are split, and the words that its characters make.
use Rattle.std.proofs.Common.{◌≡◌, ◌≢◌, ℕ, suc, lit<, ◌<◌, ◌≤◌, ◌==◌, Bool, true, false, not, List, [], ◌∷◌, ◌++◌, Some, None, length, length-append, get_or, take, drop, drop-cons, refl, sym, ap, ◌∙◌, inl, inr, subst, append-nil, arith}
use Rattle.std.specs.Prelude.{IsUtf8, chars, encode_utf8, encode_utf8_all}
use Rattle.std.specs.List.{list_all, prefix_len}
use Rattle.std.specs.Str.{IsAscii, IsCharBoundary, NonePass, NoCharPasses}
use Rattle.std.proofs.lemmas.Bool.{cases_lt, cases_Bool, and_parts, and_from, cond-true, cond-false, false≢true, eqb-true}
use Rattle.std.proofs.lemmas.Bool.Decides.{nat_tests}
use Rattle.std.proofs.lemmas.List.{take-append-drop}
use Rattle.std.proofs.lemmas.Str.{encodes-chars, chars-append, chars-nil, chars_from_encodes, chars-IsAscii, IsUtf8-past_char, IsCharBoundary-from_take, IsUtf8-from_ascii, encode_ascii}
use Rattle.std.proofs.lemmas.Str.Ascii.{IsAscii-nil, IsAscii-cons}
use Rattle.uvl_base.specs.Name.{is_name}
use Rattle.uvl_script.specs.Lines.{is_silent}
use Rattle.uvl_script.specs.Words.{is_separator, is_solid, ends_word, outside, in_quotes, behind_quotes, onto, cut, if_names, words_of}
use Rattle.uvl_script.proofs.Characters.{all_chars, chars-ascii, chars-none, chars-wide, WideFirst, cut_at_ascii}
use Rattle.uvl_script.proofs.Cutting.{is_unquote, not_true, cut-gap, is_silent-gap, cut-plain, cut-in_quotes, cut-behind-end, cut-behind-stuck, cut-unclosed, if_names-onto, if_names-spoiled}

-- ---- what characters do that aren't ASCII

wide-solid : (c : ℕ) → 128 ≤ c → is_solid c ≡ true
wide-solid c wide = grind (arith, nat_tests)

separator-small : (c : ℕ) → is_separator c ≡ true → c < 128
separator-small c is = grind (arith, nat_tests)

wide-comment : (c : ℕ) → 128 ≤ c → (c == 35) ≡ false
wide-comment c wide = grind (arith, nat_tests)

-- ---- separators in front

-- what stands behind the separators in front
abbrev pub after_separators : List ℕ → List ℕ
after_separators bs = drop (prefix_len is_separator bs) bs

-- the separators in front
abbrev gap_of : List ℕ → List ℕ
gap_of bs = take (prefix_len is_separator bs) bs

-- all that is counted from the front on passes
pub passes-front : (p : ℕ → Bool) (bs : List ℕ) → list_all p (take (prefix_len p bs) bs) ≡ true
passes-front p [] = refl
passes-front p (b ∷ bs) =
    elim (cases_Bool (p b)) [
      | inl is ↦
          let one : prefix_len p (b ∷ bs) ≡ suc (prefix_len p bs) = cond-true (p b) _ _ is ∙ omega arith in
          ap (λ n. list_all p (take n (b ∷ bs))) one ∙ and_from (p b) (list_all p (take (prefix_len p bs) bs)) is (passes-front p bs)
      | inr is ↦ ap (λ n. list_all p (take n (b ∷ bs))) (cond-false (p b) _ _ is)
    ]

gap-ascii : (gap : List ℕ) → list_all is_separator gap ≡ true → IsAscii gap
gap-ascii [] all = IsAscii-nil
gap-ascii (b ∷ gap) all =
    let parts = and_parts (is_separator b) (list_all is_separator gap) all in
    IsAscii-cons b gap (separator-small b parts.0) (gap-ascii gap parts.1)

chars-gap : (bs : List ℕ) → chars bs ≡ gap_of bs ++ chars (after_separators bs)
chars-gap bs =
    let ascii = gap-ascii (gap_of bs) (passes-front is_separator bs) in
    ap chars (sym (take-append-drop (prefix_len is_separator bs) bs))
    ∙ chars-append (gap_of bs) (after_separators bs) (IsUtf8-from_ascii (gap_of bs) ascii)
    ∙ ap (λ cs. cs ++ chars (after_separators bs)) (chars-IsAscii (gap_of bs) ascii)

-- the words of a text are those behind its separators
pub cut-after : (bs : List ℕ) → cut outside (chars bs) ≡ cut outside (chars (after_separators bs))
cut-after bs = ap (λ cs. cut outside cs) (chars-gap bs) ∙ cut-gap (gap_of bs) (chars (after_separators bs)) (passes-front is_separator bs)

is_silent-after : (bs : List ℕ) → is_silent (chars bs) ≡ is_silent (chars (after_separators bs))
is_silent-after bs = ap is_silent (chars-gap bs) ∙ is_silent-gap (gap_of bs) (chars (after_separators bs)) (passes-front is_separator bs)

-- behind the separators stands a byte that is none, or nothing
pub solid-after : (bs : List ℕ) → ends_word (after_separators bs) ≡ true → after_separators bs ≡ []
solid-after [] ends = refl
solid-after (b ∷ bs) ends =
    elim (cases_Bool (is_separator b)) [
      | inl is ↦
          let one : prefix_len is_separator (b ∷ bs) ≡ suc (prefix_len is_separator bs) = cond-true (is_separator b) _ _ is ∙ omega arith in
          let same : after_separators (b ∷ bs) ≡ after_separators bs = ap (λ n. drop n (b ∷ bs)) one in
          same ∙ solid-after bs (ap ends_word (sym same) ∙ ends)
      | inr is ↦
          let none : prefix_len is_separator (b ∷ bs) ≡ 0 = cond-false (is_separator b) _ _ is in
          absurd (false≢true (sym is ∙ ap (λ n. ends_word (drop n (b ∷ bs))) (sym none) ∙ ends))
    ]

-- what isn't counted from the front on begins with a separator
pub ends-front : (bs : List ℕ) → ends_word (drop (prefix_len is_solid bs) bs) ≡ true
ends-front [] = refl
ends-front (b ∷ bs) =
    elim (cases_Bool (is_separator b)) [
      | inl is ↦ ap (λ n. ends_word (drop n (b ∷ bs))) (cond-false (is_solid b) _ _ (ap not is)) ∙ is
      | inr is ↦
          let one : prefix_len is_solid (b ∷ bs) ≡ suc (prefix_len is_solid bs) = cond-true (is_solid b) _ _ (ap not is) ∙ omega arith in
          ap (λ n. ends_word (drop n (b ∷ bs))) one ∙ ends-front bs
    ]

-- a text may be cut in front of a byte below 128
boundary-ascii : (bs : List ℕ) (n : ℕ) → n ≤ length bs → ends_word (drop n bs) ≡ true → IsCharBoundary bs n
boundary-ascii bs n within ends =
    (within, λ below wide. by_rest below wide)
  where
    by_rest : n < length bs → 128 ≤ get_or bs n 0 → 192 ≤ get_or bs n 0
    by_rest below wide =
        let first : drop n bs ≡ get_or bs n 0 ∷ drop (suc n) bs = drop-cons bs n 0 below in
        let small : get_or bs n 0 < 128 = separator-small (get_or bs n 0) (ap ends_word (sym first) ∙ ends) in
        absurd (omega arith)

-- Some bytes of a text are counted from the front on while they pass.
pub record Counts (p : ℕ → Bool) (bs : List ℕ) (n : ℕ) : Type 0 where
  pub counted : n ≡ prefix_len p bs
  pub within : n ≤ length bs

-- the bytes of a text were counted
pub counts : (p : ℕ → Bool) (bs ys : List ℕ) (n : ℕ) → ys ≡ bs → n ≡ prefix_len p ys → n ≤ length ys → Counts p bs n
counts p bs ys n same counted within = record { counted = counted ∙ ap (λ xs. prefix_len p xs) same; within = subst (λ (xs : List ℕ). n ≤ length xs) same within }

-- a text may be cut behind the separators in front
pub boundary-after : (bs : List ℕ) (n : ℕ) → IsUtf8 bs → Counts is_separator bs n → IsCharBoundary bs n
boundary-after bs n text c =
    let front : take n bs ≡ gap_of bs = ap (λ k. take k bs) c.counted in
    let ascii = gap-ascii (gap_of bs) (passes-front is_separator bs) in
    IsCharBoundary-from_take bs n text c.within (subst IsUtf8 (sym front) (IsUtf8-from_ascii (gap_of bs) ascii))

-- a text may be cut in front of a separator
pub boundary-end : (bs : List ℕ) (n : ℕ) → Counts is_solid bs n → IsCharBoundary bs n
boundary-end bs n c = boundary-ascii bs n c.within (ap (λ k. ends_word (drop k bs)) c.counted ∙ ends-front bs)

-- what stands in front of the first separator, and what stands from there on
pub solid-front : (bs word : List ℕ) (n : ℕ) → Counts is_solid bs n → word ≡ take n bs → list_all is_solid word ≡ true
solid-front bs word n c e = ap (λ xs. list_all is_solid xs) (e ∙ ap (λ k. take k bs) c.counted) ∙ passes-front is_solid bs

pub ends-rest : (bs rest : List ℕ) (n : ℕ) → Counts is_solid bs n → rest ≡ drop n bs → ends_word rest ≡ true
ends-rest bs rest n c e = ap ends_word (e ∙ ap (λ k. drop k bs) c.counted) ∙ ends-front bs

-- the first byte that is no separator tells whether a text is a comment
is_silent-first : (b : ℕ) (bs : List ℕ) → IsUtf8 (b ∷ bs) → is_separator b ≡ false → is_silent (chars (b ∷ bs)) ≡ (b == 35)
is_silent-first b bs text solid =
    elim (cases_lt b 128) [
      | inl small ↦ ap is_silent (chars-ascii b bs text small) ∙ cond-false (is_separator b) _ _ solid
      | inr wide ↦
          let w : WideFirst (b ∷ bs) = chars-wide b bs text wide in
          ap is_silent w.is ∙ cond-false (is_separator w.first) _ _ (not_true _ (wide-solid w.first w.wide)) ∙ wide-comment w.first w.wide ∙ sym (wide-comment b wide)
    ]

-- a text of separators alone is silent
pub is_silent-blank : (bs rest ys : List ℕ) → rest ≡ after_separators bs → ys ≡ rest → length ys < 1 → is_silent (chars bs) ≡ true
is_silent-blank bs rest [] e same none =
    is_silent-after bs ∙ ap (λ xs. is_silent (chars xs)) (sym e ∙ sym same) ∙ ap is_silent chars-nil
is_silent-blank bs rest (b ∷ ys) e same none = absurd (omega arith)

-- the first byte that is no separator tells whether a text is silent
pub is_silent-some : (bs rest ys : List ℕ) → IsUtf8 rest → rest ≡ after_separators bs → ys ≡ rest → 1 ≤ length ys → is_silent (chars bs) ≡ (get_or ys 0 0 == 35)
is_silent-some bs rest [] text e same some = absurd (omega arith)
is_silent-some bs rest (b ∷ ys) text e same some =
    let at : b ∷ ys ≡ after_separators bs = same ∙ e in
    is_silent-after bs ∙ ap (λ xs. is_silent (chars xs)) (sym at) ∙ is_silent-first b ys (subst IsUtf8 (sym same) text) (begins at)
  where
    begins : b ∷ ys ≡ after_separators bs → is_separator b ≡ false
    begins at =
        elim (cases_Bool (is_separator b)) [
          | inl is ↦ let none : b ∷ ys ≡ [] = at ∙ solid-after bs (ap ends_word (sym at) ∙ is) in cc
          | inr isnt ↦ isnt
        ]

-- ---- where a word ends

-- a word ends in front of the same bytes and characters
ends_word-chars : (bs : List ℕ) → IsUtf8 bs → ends_word bs ≡ true → ends_word (chars bs) ≡ true
ends_word-chars [] text ends = ap ends_word chars-nil
ends_word-chars (b ∷ bs) text ends = ap ends_word (chars-ascii b bs text (separator-small b ends)) ∙ ends

stuck-chars : (bs : List ℕ) → IsUtf8 bs → ends_word bs ≡ false → ends_word (chars bs) ≡ false
stuck-chars [] text stuck = absurd (false≢true (sym stuck))
stuck-chars (b ∷ bs) text stuck =
    elim (cases_lt b 128) [
      | inl small ↦ ap ends_word (chars-ascii b bs text small) ∙ stuck
      | inr wide ↦ let w : WideFirst (b ∷ bs) = chars-wide b bs text wide in ap ends_word w.is ∙ not_true _ (wide-solid w.first w.wide)
    ]

-- ---- a word in front

-- what a word in front of a text is to its words
abbrev pub WordFirst : List ℕ → List ℕ → List ℕ → Type 0
WordFirst bs word rest = cut outside (chars bs) ≡ onto (chars word) (cut outside (chars rest))

-- a text of two parts of which the second begins with a separator, if at all
ascii_rest : (bs word rest : List ℕ) → IsUtf8 bs → bs ≡ word ++ rest → ends_word rest ≡ true → IsUtf8 word × IsUtf8 rest
ascii_rest bs word [] text spelled ends = (subst IsUtf8 (spelled ∙ append-nil word) text, IsUtf8-from_ascii [] IsAscii-nil)
ascii_rest bs word (b ∷ rest) text spelled ends = cut_at_ascii bs word rest b text spelled (separator-small b ends)

-- a plain word in front of a text
pub cut-plain_word : (bs word rest : List ℕ) → IsUtf8 bs → bs ≡ word ++ rest → list_all is_solid word ≡ true → ends_word rest ≡ true → ends_word bs ≡ false → ((more : List ℕ) → bs ≢ 34 ∷ more) → WordFirst bs word rest
cut-plain_word bs [] rest text spelled solid ends begins other = absurd (false≢true (sym begins ∙ ap ends_word spelled ∙ ends))
cut-plain_word bs (b ∷ word) rest text spelled solid ends begins other =
    let both = ascii_rest bs (b ∷ word) rest text spelled ends in
    let all : list_all is_solid (chars (b ∷ word)) ≡ true = all_chars is_solid wide-solid (b ∷ word) both.0 solid in
    let whole : chars bs ≡ chars (b ∷ word) ++ chars rest = ap chars spelled ∙ chars-append (b ∷ word) rest both.0 in
    let last : ends_word (chars rest) ≡ true = ends_word-chars rest both.1 ends in
    ap (λ cs. cut outside cs) whole ∙ by_chars (chars (b ∷ word)) refl both.0 all last
  where
    no_quote : (c : ℕ) (cs : List ℕ) → chars (b ∷ word) ≡ c ∷ cs → IsUtf8 (b ∷ word) → (c == 34) ≡ false
    no_quote c cs e utf8 =
        elim (cases_Bool (c == 34)) [
          | inl is ↦
              let quote : c ≡ 34 = eqb-true c 34 is in
              let bytes : encode_utf8 c ++ encode_utf8_all cs ≡ b ∷ word = ap (λ xs. encode_utf8_all xs) (sym e) ∙ encodes-chars (b ∷ word) utf8 in
              let one : encode_utf8 c ≡ 34 ∷ [] = ap encode_utf8 quote ∙ encode_ascii 34 (lit< tt) in
              absurd (other (encode_utf8_all cs ++ rest) (spelled ∙ ap (λ xs. xs ++ rest) (sym bytes ∙ ap (λ xs. xs ++ encode_utf8_all cs) one)))
          | inr isnt ↦ isnt
        ]

    by_chars : (cs : List ℕ) → chars (b ∷ word) ≡ cs → IsUtf8 (b ∷ word) → list_all is_solid (chars (b ∷ word)) ≡ true → ends_word (chars rest) ≡ true → cut outside (chars (b ∷ word) ++ chars rest) ≡ onto (chars (b ∷ word)) (cut outside (chars rest))
    by_chars [] e utf8 all last = let none : b ∷ word ≡ [] = chars-none (b ∷ word) utf8 e in cc
    by_chars (c ∷ cs) e utf8 all last =
        let P : List ℕ → Type 0 = λ xs. cut outside (xs ++ chars rest) ≡ onto xs (cut outside (chars rest)) in
        subst P (sym e) (cut-plain c cs (chars rest) (ap (λ xs. list_all is_solid xs) (sym e) ∙ all) (no_quote c cs e utf8) last)

-- a plain word leaves less
pub plain_word-shorter : (bs word rest : List ℕ) → bs ≡ word ++ rest → ends_word rest ≡ true → ends_word bs ≡ false → length rest < length bs
plain_word-shorter bs [] rest spelled ends begins = absurd (false≢true (sym begins ∙ ap ends_word spelled ∙ ends))
plain_word-shorter bs (b ∷ word) rest spelled ends begins = omega (arith, ap (λ xs. length xs) spelled, length-append (b ∷ word) rest)

-- ---- a quoted word in front

unquoted : (cs : List ℕ) → NonePass (λ c. c == 34) cs → list_all is_unquote cs ≡ true
unquoted [] none = refl
unquoted (c ∷ cs) none = and_from (is_unquote c) (list_all is_unquote cs) (ap not none.0) (unquoted cs none.1)

-- a text without a quote has no character that is one
unquoted-chars : (bs : List ℕ) → IsUtf8 bs → NoCharPasses (λ c. c == 34) bs → list_all is_unquote (chars bs) ≡ true
unquoted-chars bs text none = subst (λ (cs : List ℕ). list_all is_unquote cs ≡ true) (chars_from_encodes none.0 bs text none.1) (unquoted none.0 none.2)

-- a quote that isn't closed
pub cut-open_quotes : (bs : List ℕ) → IsUtf8 bs → NoCharPasses (λ c. c == 34) bs → cut in_quotes (chars bs) ≡ None
cut-open_quotes bs text none = cut-unclosed (chars bs) (unquoted-chars bs text none)

cut-quoted : (bs word rest : List ℕ) → IsUtf8 bs → bs ≡ word ++ 34 ∷ rest → NoCharPasses (λ c. c == 34) word → cut in_quotes (chars bs) ≡ onto (chars word) (cut behind_quotes (chars rest))
cut-quoted bs word rest text spelled none =
    let both = cut_at_ascii bs word rest 34 text spelled (lit< tt) in
    ap (λ cs. cut in_quotes cs) (ap chars spelled ∙ chars-append word (34 ∷ rest) both.0 ∙ ap (λ cs. chars word ++ cs) (chars-ascii 34 rest both.1 (lit< tt)))
    ∙ cut-in_quotes (chars word) (chars rest) (unquoted-chars word both.0 none)

behind_quote : (bs word rest : List ℕ) → IsUtf8 bs → bs ≡ word ++ 34 ∷ rest → IsUtf8 rest
behind_quote bs word rest text spelled =
    let both = cut_at_ascii bs word rest 34 text spelled (lit< tt) in
    IsUtf8-past_char (34 ∷ rest) rest 34 both.1 (ap (λ front. front ++ rest) (sym (encode_ascii 34 (lit< tt))))

-- a quoted word behind which a word may end
pub cut-quoted_word : (bs word rest : List ℕ) → IsUtf8 bs → bs ≡ word ++ 34 ∷ rest → NoCharPasses (λ c. c == 34) word → ends_word rest ≡ true → cut in_quotes (chars bs) ≡ onto (chars word) (cut outside (chars rest))
cut-quoted_word bs word rest text spelled none ends =
    cut-quoted bs word rest text spelled none
    ∙ ap (λ words. onto (chars word) words) (cut-behind-end (chars rest) (ends_word-chars rest (behind_quote bs word rest text spelled) ends))

-- and one behind which none may end
pub cut-stuck_word : (bs word rest : List ℕ) → IsUtf8 bs → bs ≡ word ++ 34 ∷ rest → NoCharPasses (λ c. c == 34) word → ends_word rest ≡ false → cut in_quotes (chars bs) ≡ None
cut-stuck_word bs word rest text spelled none stuck =
    cut-quoted bs word rest text spelled none
    ∙ ap (λ words. onto (chars word) words) (cut-behind-stuck (chars rest) (stuck-chars rest (behind_quote bs word rest text spelled) stuck))

-- a quoted word leaves no more
pub quoted_word-shorter : (bs word rest : List ℕ) → bs ≡ word ++ 34 ∷ rest → length rest ≤ length bs
quoted_word-shorter bs word rest spelled = omega (arith, ap (λ xs. length xs) spelled, length-append word (34 ∷ rest))

-- a quote in front of a text
pub cut-behind_first_quote : (bs quoted : List ℕ) → IsUtf8 bs → bs ≡ 34 ∷ quoted → cut outside (chars bs) ≡ cut in_quotes (chars quoted)
cut-behind_first_quote bs quoted text spelled =
    ap (λ cs. cut outside cs) (ap chars spelled ∙ chars-ascii 34 quoted (subst IsUtf8 spelled text) (lit< tt))

-- ---- the words of a text

-- nothing but separators makes no words
pub words_of-blank : (bs rest : List ℕ) → rest ≡ after_separators bs → length rest ≡ 0 → words_of (chars bs) ≡ Some []
words_of-blank bs [] e none = ap if_names (cut-after bs ∙ ap (λ xs. cut outside (chars xs)) (sym e) ∙ ap (λ cs. cut outside cs) chars-nil)
words_of-blank bs (b ∷ rest) e none = absurd (omega arith)

-- behind the separators a word begins
pub begins_word : (bs rest : List ℕ) → rest ≡ after_separators bs → (length rest ≡ 0 → ⊥) → ends_word rest ≡ false
begins_word bs rest e some =
    elim (cases_Bool (ends_word rest)) [
      | inl ends ↦ absurd (some (ap (λ xs. length xs) (e ∙ solid-after bs (ap ends_word (sym e) ∙ ends))))
      | inr begins ↦ begins
    ]

-- the first word of a text, where it is a name
pub words_of-first : (bs rest word more : List ℕ) → rest ≡ after_separators bs → WordFirst rest word more → is_name (chars word) ≡ true → words_of (chars bs) ≡ onto (chars word) (words_of (chars more))
words_of-first bs rest word more e first name =
    ap if_names (cut-after bs ∙ ap (λ xs. cut outside (chars xs)) (sym e) ∙ first) ∙ if_names-onto (chars word) (cut outside (chars more)) name

-- and where it is none
pub words_of-spoiled : (bs rest word more : List ℕ) → rest ≡ after_separators bs → WordFirst rest word more → is_name (chars word) ≡ false → words_of (chars bs) ≡ None
words_of-spoiled bs rest word more e first name =
    ap if_names (cut-after bs ∙ ap (λ xs. cut outside (chars xs)) (sym e) ∙ first) ∙ if_names-spoiled (chars word) (cut outside (chars more)) name

-- where the first word isn't cut, no word is
pub words_of-uncut : (bs rest : List ℕ) → rest ≡ after_separators bs → cut outside (chars rest) ≡ None → words_of (chars bs) ≡ None
words_of-uncut bs rest e none = ap if_names (cut-after bs ∙ ap (λ xs. cut outside (chars xs)) (sym e) ∙ none)
