-- Features of a file without named faults nest no deeper than they may.
use Rattle.std.specs.Prelude.{◌≡◌, ℕ, ◌+◌, Bool, true, false, List, [], ◌∷◌, ◌++◌, length, reverse, take, drop, slice_get, Option, Some, None}
use Rattle.std.proofs.Common.{refl, sym, ap, subst, ◌∙◌, append_assoc}
use Rattle.std.proofs.lemmas.List.{reverse-append, take-append-drop}
use Rattle.std.proofs.Math.Seq.{take-append_seam}
use Rattle.uvl_base.specs.declared.fault.FaultKind.{FaultKind}
use Rattle.uvl_base.specs.declared.fault.FaultKind.TheVariants.{TooDeep}
use Rattle.uvl_lexer.specs.declared.token.Token.{Token}
use Rattle.uvl_base.specs.declared.word.Word.TheVariants as word
use Rattle.uvl_ast.specs.declared.feature.Feature.{Feature}
use Rattle.uvl_ast.specs.declared.file.File.{File}
use Rattle.uvl_profile.specs.declared.section.Section.TheVariants.{Features}
use Rattle.uvl_grammar.specs.Features.{FeatureWithin}
use Rattle.uvl_grammar.specs.Sections.{SpellsFeatures, No_features, Root}
use Rattle.uvl_grammar.specs.File.{Spells, A_file}
use Rattle.uvl_grammar.specs.Dead.{Dead}
use Rattle.uvl_faults.specs.Named.{IsMetAlive, in_front, Where_alive, Deep, NoneNamed}
use Rattle.uvl_faults.proofs.Walking.{walk, Clear, clear_front, clear_back}
use Rattle.uvl_faults.proofs.Depths.{deep, feature_passes}
use Rattle.uvl_faults.proofs.Sectioned.{Between, body_begins, features_between}

-- ---- a spelled list has no dead token

-- no token of a list that spells a file is dead
pub spelled_alive : (tokens : List Token) (file : File) (k : ℕ) → Spells tokens file → Dead tokens k → ⊥
spelled_alive tokens file k spelled dead =
    dead (drop (k + 1) tokens) file (subst (λ ts. Spells ts file) (sym (take-append-drop (k + 1) tokens)) spelled)

-- ---- where nothing is named, nothing is met

-- the token behind a front
pub token_behind : (front : List Token) (t : Token) (rest : List Token) → slice_get (front ++ t ∷ rest) (length front) ≡ Some t
token_behind [] t rest = refl
token_behind (u ∷ front) t rest = token_behind front t rest

-- a fault that is met only where a token may stand
module _ (met : List Token → Token → Bool) (kind : FaultKind) (meets : (before : List Token) (t : Token) → met before t ≡ true → IsMetAlive before t kind)
    (tokens : List Token) (file : File) (spelled : Spells tokens file) (none : (k : ℕ) → NoneNamed tokens k) where
  not_met : (front : List Token) (t : Token) (rest : List Token) → tokens ≡ front ++ t ∷ rest → (b : Bool) → met (reverse front) t ≡ b → b ≡ false
  not_met front t rest joins false is = refl
  not_met front t rest joins true is =
      let k = length front in
      let here : slice_get tokens k ≡ Some t = ap (λ ts. slice_get ts k) joins ∙ token_behind front t rest in
      let before : in_front k tokens ≡ reverse front = ap reverse (ap (take k) joins ∙ take-append_seam front (t ∷ rest)) in
      let is_met = ap (λ b. met b t) before ∙ is in
      absurd (none k kind (Where_alive t here (meets (in_front k tokens) t is_met) (spelled_alive tokens file k spelled)))

  clear_from : (front rest : List Token) → tokens ≡ front ++ rest → Clear met (reverse front) rest
  clear_from front [] joins = tt
  clear_from front (t ∷ rest) joins =
      let more : tokens ≡ (front ++ t ∷ []) ++ rest = joins ∙ sym (append_assoc front (t ∷ []) rest) in (
        not_met front t rest joins (met (reverse front) t) refl,
        subst (λ b. Clear met b rest) (reverse-append front (t ∷ [])) (clear_from (front ++ t ∷ []) rest more),
      )

  pub all_clear : Clear met [] tokens
  all_clear = clear_from [] tokens refl

-- ---- the root

-- a root nests at most 64 deep
abbrev pub IsShallow : Option Feature → Type 0
IsShallow None = Unit {0}
IsShallow (Some root) = (xs : List Token) × FeatureWithin 64 xs root

root_shallow : (before fs : List Token) (root : Option Feature) → Between before → Clear deep before fs → SpellsFeatures fs root → IsShallow root
root_shallow before fs root between clear No_features = tt
root_shallow before fs root between clear (Root t newline indent dedent {xs} is ends opens tree closes) =
    let inner = body_begins before t word.Features Features is refl between newline indent ends opens in
    let clear_tree = (clear_front deep before (t ∷ newline ∷ indent ∷ xs) (dedent ∷ []) clear).1.1.1 in
    (xs, (feature_passes tree.0 64 1 1 refl refl (indent ∷ newline ∷ t ∷ before) xs _ inner clear_tree tree.1).0)

pub file_shallow : (tokens : List Token) (file : File) → Spells tokens file → ((k : ℕ) → NoneNamed tokens k) → IsShallow file.root
file_shallow tokens file (A_file {ns} {ls} {ms} {fs} {rs} finish {root} named included imported tree ruled is) none =
    let all = all_clear deep TooDeep (λ before t met. Deep met) tokens file (A_file finish named included imported tree ruled is) none in
    let front = ns ++ ls ++ ms in
    let clear_fs = clear_back deep [] front fs (clear_front deep [] (front ++ fs) rs (clear_front deep [] (front ++ fs ++ rs) (finish ∷ []) all)) in
    let between = features_between ns ls ms _ _ _ named included imported in
    root_shallow (walk [] front) fs root between clear_fs tree
