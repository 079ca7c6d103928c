-- A loop over the words that looks for a lone `-` in front of the first `--`.
use Rattle.std.proofs.Common.{◌≡◌, ◌∙◌, ◌<◌, ◌+◌, refl, sym, ap, ℕ, suc, false, List, ◌∷◌, map, drop, length, slice_index_or, codes, Bor, add-one}
use Rattle.std.specs.Str.{bytes_eq, IsUtf8}
use Rattle.std.proofs.Math.Seq.{drop-cons}
use Rattle.uvl_words.specs.CommandLineRules.{has_lone_hyphen, AreTexts}

abbrev pub texts_of : List (Bor (List ℕ)) → List (List ℕ)
texts_of = map (λ word. word.now)

-- what is asked of the words behind the first i of them is asked of all
pub record IsPast (words : List (Bor (List ℕ))) (i : ℕ) : Type 0 where
  pub lone : has_lone_hyphen (texts_of (drop i words)) ≡ has_lone_hyphen (texts_of words)
  pub texts : AreTexts (texts_of (drop i words)) → AreTexts (texts_of words)

pub from_start : (words : List (Bor (List ℕ))) → IsPast words 0
from_start words = record { lone = refl; texts = λ t. t }

-- one more word, which is text, and neither of the two
pub one_further : (words : List (Bor (List ℕ))) (i : ℕ) (d : Bor (List ℕ)) → IsPast words i → i < length words
    → IsUtf8 (slice_index_or words i d).now → bytes_eq (slice_index_or words i d).now (codes "--") ≡ false
    → bytes_eq (slice_index_or words i d).now (codes "-") ≡ false → IsPast words (i + 1)
one_further words i d past within text end lone =
    let word = slice_index_or words i d in
    let cut : drop i words ≡ word ∷ drop (suc i) words = drop-cons words i d within in
    let behind : drop (i + 1) words ≡ drop (suc i) words = ap (λ (n : ℕ). drop n words) (add-one i) in
    record {
      lone = rw behind (sym (ap (λ (ws : List (Bor (List ℕ))). has_lone_hyphen (texts_of ws)) cut ∙ rw (end, lone) refl) ∙ past.lone);
      texts = λ t. past.texts (rw (cut, end) (text, rw behind at t));
    }
