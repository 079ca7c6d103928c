-- A file is parsed exactly where its tree keeps the limits and no other fault is met.
use Rattle.std.specs.Prelude.{◌≡◌, ℕ, zero, suc, Bool, false, List, [], ◌∷◌, reverse, take, slice_get, Some}
use Rattle.std.proofs.Common.{sym, ap, ◌∙◌}
use Rattle.std.proofs.lemmas.List.{append-nil}
use Rattle.std.proofs.lemmas.Bool.{both_ways}
use Rattle.uvl_base.specs.declared.fault.FaultKind.{FaultKind}
use Rattle.uvl_lexer.specs.declared.token.Token.{Token}
use Rattle.uvl_ast.specs.declared.file.File.{File}
use Rattle.uvl_grammar.specs.File.{Spells}
use Rattle.uvl_faults.specs.Named.{in_front, Named, By_tokens, Where_alive, IsMetAlive, Large, Deep}
use Rattle.uvl_parser.specs.Parsing.{IsParsedAs}
use Rattle.uvl_parser.specs.Limits.{KeepsLimits, NoneMet}
use Rattle.uvl_faults.proofs.Walking.{walk, walk_reverse, Clear}
use Rattle.uvl_faults.proofs.Depths.{deep}
use Rattle.uvl_faults.proofs.Shallow.{file_shallow}
use Rattle.uvl_parser.proofs.Answers.{root_depth}
use Rattle.uvl_faults.proofs.Nodes.Limits.{too_many}
use Rattle.uvl_faults.proofs.Nodes.Trees.{file_few}
use Rattle.uvl_faults.proofs.Deep.{no_feature_too_deep}
use Rattle.uvl_faults.proofs.Nodes.Clear.{no_node_too_many}

-- what is in front of a token where nothing is met
clear_at : (met : List Token → Token → Bool) (before ts : List Token) (k : ℕ) (t : Token) → Clear met before ts → slice_get ts k ≡ Some t
    → met (walk before (take k ts)) t ≡ false
clear_at met before [] k t clear at = cc
clear_at met before (u ∷ ts) zero t clear at = let same : u ≡ t = cc in ap (met before) (sym same) ∙ clear.0
clear_at met before (u ∷ ts) (suc k) t clear at = clear_at met (u ∷ before) ts k t clear.1 at

-- so nothing is met at the k-th token
not_met : (met : List Token → Token → Bool) (tokens : List Token) (k : ℕ) (t : Token) → Clear met [] tokens → slice_get tokens k ≡ Some t
    → met (in_front k tokens) t ≡ false
not_met met tokens k t clear at =
    ap (λ before. met before t) (sym (walk_reverse [] (take k tokens) ∙ append-nil (reverse (take k tokens))))
    ∙ clear_at met [] tokens k t clear at

module _ (tokens : List Token) (file : File) (spelled : Spells tokens file) (limits : KeepsLimits file) where
  no_limit_met : (k : ℕ) (t : Token) (kind : FaultKind) → slice_get tokens k ≡ Some t → IsMetAlive (in_front k tokens) t kind → ⊥
  no_limit_met k t kind at (Large met) =
      both_ways (too_many (in_front k tokens) t)
      (not_met too_many tokens k t (no_node_too_many tokens file spelled limits.few_nodes) at) met
  no_limit_met k t kind at (Deep met) =
      both_ways (deep (in_front k tokens) t) (not_met deep tokens k t (no_feature_too_deep tokens file spelled limits.shallow) at) met

  not_named : NoneMet tokens → (k : ℕ) (kind : FaultKind) → Named tokens k kind → ⊥
  not_named none k kind (By_tokens t at met) = none k t kind at met
  not_named none k kind (Where_alive t at met alive) = no_limit_met k t kind at met

  pub parsed_within : NoneMet tokens → IsParsedAs tokens file
  parsed_within none = record { spelled = spelled; unnamed = not_named none }

pub limits_kept : (tokens : List Token) (file : File) → IsParsedAs tokens file → KeepsLimits file
limits_kept tokens file parsed = record {
  shallow = root_depth tokens file.root (file_shallow tokens file parsed.spelled parsed.unnamed);
  few_nodes = file_few tokens file parsed.spelled parsed.unnamed;
}
