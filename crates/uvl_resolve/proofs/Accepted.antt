-- What is known of the files of a set without fault.
use Rattle.std.proofs.Common.{◌≡◌, ℕ, zero, suc, ◌+◌, ◌-◌, ◌≤◌, ◌⊎◌, inl, inr, List, [], ◌∷◌, ◌++◌, length, take, Option, Some, None, refl, sym, ap, ◌∙◌, subst, arith}
use Rattle.std.specs.Prelude.{slice_get, IfSome}
use Rattle.std.specs.List.{All, AllByRecursion}
use Rattle.std.specs.Option.{option_map, option_or}
use Rattle.std.proofs.lemmas.List.{append_assoc, append-nil, length-append}
use Rattle.std.proofs.lemmas.List.Elements.{All-from_recursion, recursion_from_All}
use Rattle.uvl_ast.specs.declared.expression.Expr.{Expr}
use Rattle.uvl_ast.specs.declared.feature.Attribute.{Attribute}
use Rattle.uvl_ast.specs.declared.feature.Feature.{Feature}
use Rattle.uvl_ast.specs.declared.file.File.{File}
use Rattle.uvl_ast.specs.Members.{EachGroupHasMembers, member_counts}
use Rattle.uvl_ast.specs.Nesting.{EachValueNests, all_attributes, nesting_of_attribute}
use Rattle.uvl_ast.specs.Nodes.{nodes_of}
use Rattle.uvl_ast.specs.Operands.{right_operands}
use Rattle.uvl_ast.specs.Rules.{rules_of}
use Rattle.uvl_ast.specs.Texts.{AreQuotable, EachTextIsQuotable, texts_of}
use Rattle.uvl_base.specs.declared.fault.FaultKind.TheVariants.{BodyOnPlacedImport, DuplicateAttribute, DuplicateFeature, PlacedTwice, TooDeep, TooManyFeatures, TooManyRules, UnknownFeature}
use Rattle.uvl_base.specs.Limits.{most_nesting, most_right_operands, most_rule_nodes}
use Rattle.uvl_faults.proofs.Members.{within_members}
use Rattle.uvl_faults.proofs.Nesting.Files.{file_nested, file_grouped}
use Rattle.uvl_faults.proofs.Nodes.Trees.{file_few}
use Rattle.uvl_faults.proofs.Shallow.{IsShallow, file_shallow}
use Rattle.uvl_grammar.proofs.Quoted.{file_quoted}
use Rattle.uvl_imports.specs.Sets.{IsWritten, IsWhole}
use Rattle.uvl_imports.specs.declared.file_set.Loaded.{Loaded}
use Rattle.uvl_placing.specs.Files.{imports_of, placed, tree_of_file, tree_of_root, trees_behind}
use Rattle.uvl_resolve.specs.steps.Placements.{AreReady}
use Rattle.uvl_resolve.specs.steps.Rules.{IsPlain, attributes_of_heads, heads_in, heads_with, names_of_heads}
use Rattle.uvl_resolve.proofs.Good.{FineLine, IsClean, IsGood, tree_good}
use Rattle.uvl_resolve.proofs.Heads.{heads_again, names_are, names_with}
use Rattle.uvl_resolve.proofs.Keys.{IsTidy, neither_there, never_when, tidied}
use Rattle.uvl_resolve.proofs.Standing.{get_before, get_behind}
use Rattle.uvl_scope.specs.declared.scope.Scope.{Scope}
use Rattle.uvl_scope.specs.Brought.{Placing, brought_by, brought_by_lines, placed_scope}
use Rattle.uvl_scope.specs.Faults.{HasNoFault, brought_in, missing_features, fault_in_file, fault_of_file, scope_of, scopes_behind, scopes_of}
use Rattle.uvl_scope.specs.Firsts.{first_along, when}
use Rattle.uvl_scope.specs.Keys.{repeated_key}
use Rattle.uvl_scope.specs.LineFaults.{fault_of_line, finding, has_body, has_known_name, has_too_many_rules, is_placed_again, is_too_deep, is_too_large, places_nothing}
use Rattle.uvl_scope.specs.Lines.{Line, of_feature, of_group, lines_of}
use Rattle.uvl_scope.specs.NumberFaults.{fault_inside}
use Rattle.uvl_scope.specs.RuleFaults.{fault_of_rule}
use Rattle.uvl_scope.specs.Trees.{AreScopesOf}
use Rattle.uvl_semantics.specs.Tree.{Tree, Head, feature, heads_of}

-- ---- what is asked of each is found of none

along_at : {A B : Type 0} (ask : List A → A → Option B) (front xs : List A) (k : ℕ) (x : A) → first_along ask front xs ≡ None → slice_get xs k ≡ Some x
    → ask (front ++ take k xs) x ≡ None
along_at ask front [] k x none h = absurd cc
along_at {A} ask front (y ∷ ys) zero x none h =
    let same : y ≡ x = cc in
    let here = (neither_there (ask front y) (first_along ask (front ++ y ∷ []) ys) none).0 in
    subst (λ (f : List A). ask f x ≡ None) (sym (append-nil front)) (subst (λ (z : A). ask front z ≡ None) same here)
along_at {A} ask front (y ∷ ys) (suc k) x none h =
    let rest = (neither_there (ask front y) (first_along ask (front ++ y ∷ []) ys) none).1 in
    subst (λ (f : List A). ask f x ≡ None) (append_assoc front (y ∷ []) (take k ys)) (along_at ask (front ++ y ∷ []) ys k x rest h)

each_along : {A B : Type 0} (ask : List A → A → Option B) (front xs : List A) → first_along ask front xs ≡ None
    → AllByRecursion (λ x. (f : List A) × (ask f x ≡ None)) xs
each_along ask front [] none = tt
each_along ask front (y ∷ ys) none =
    let parts = neither_there (ask front y) (first_along ask (front ++ y ∷ []) ys) none in
    ((front, parts.0), each_along ask (front ++ y ∷ []) ys parts.1)

-- of each item alone
each_of : {A : Type 0} (P Q : A → Type 0) → ((x : A) → P x → Q x) → (xs : List A) → AllByRecursion P xs → AllByRecursion Q xs
each_of P Q f [] h = tt
each_of P Q f (x ∷ xs) h = (f x h.0, each_of P Q f xs h.1)

none_mapped : {A B : Type 0} (f : A → B) (o : Option A) → option_map f o ≡ None → o ≡ None
none_mapped f None h = refl
none_mapped f (Some x) h = absurd cc

-- ---- scopes

kept : (scopes : List Scope) (files : List Loaded) (k : ℕ) (scope : Scope) → slice_get scopes k ≡ Some scope → slice_get (scopes_behind scopes files) k ≡ Some scope
kept scopes [] k scope h = h
kept scopes (loaded ∷ files) k scope h = kept (scopes ++ scope_of scopes loaded ∷ []) files k scope (get_before scopes (scope_of scopes loaded ∷ []) k scope h)

scope_behind : (scopes : List Scope) (files : List Loaded) (n k : ℕ) (loaded : Loaded) → n ≡ length scopes + k → slice_get files k ≡ Some loaded
    → slice_get (scopes_behind scopes files) n ≡ Some (scope_of (scopes_behind scopes (take k files)) loaded)
scope_behind scopes [] n k loaded e h = absurd cc
scope_behind scopes (first ∷ files) n zero loaded e h =
    let same : first ≡ loaded = cc in
    kept (scopes ++ scope_of scopes first ∷ []) files n (scope_of scopes first) (get_behind scopes (scope_of scopes first ∷ []) n 0 e)
    ∙ ap (λ (l : Loaded). Some (scope_of scopes l)) same
scope_behind scopes (first ∷ files) n (suc k) loaded e h =
    scope_behind (scopes ++ scope_of scopes first ∷ []) files n k loaded (omega (arith, e, length-append scopes (scope_of scopes first ∷ []))) h

pub scope_there : (files : List Loaded) (k : ℕ) (loaded : Loaded) → slice_get files k ≡ Some loaded
    → slice_get (scopes_of files) k ≡ Some (scope_of (scopes_of (take k files)) loaded)
scope_there files k loaded h = scope_behind [] files k k loaded (omega arith) h

count_behind : (scopes : List Scope) (files : List Loaded) → length (scopes_behind scopes files) ≡ length scopes + length files
count_behind scopes [] = omega arith
count_behind scopes (loaded ∷ files) =
    count_behind (scopes ++ scope_of scopes loaded ∷ []) files ∙ omega (arith, length-append scopes (scope_of scopes loaded ∷ []))

pub scopes_count : (files : List Loaded) → length (scopes_of files) ≡ length files
scopes_count files = count_behind [] files ∙ omega arith

-- ---- what the parser keeps

-- a root with its values, texts and groups
pub record IsSpelled (root : Feature) : Type 0 where
  pub values : EachValueNests (most_nesting - 1) root
  pub texts : EachTextIsQuotable root
  pub members : EachGroupHasMembers root

pub spelled_root : (file : File) (root : Feature) → IsWritten file → file.root ≡ Some root → IsSpelled root
spelled_root file root written is = record {
  values = some (EachValueNests (most_nesting - 1)) is (file_nested written.tokens file written.parsed.spelled written.parsed.unnamed);
  texts = some EachTextIsQuotable is (file_quoted written.tokens file written.list written.parsed.spelled);
  members = root_members (subst IsShallow is (file_shallow written.tokens file written.parsed.spelled written.parsed.unnamed));
}
  where
    some : (P : Feature → Type 0) → file.root ≡ Some root → IfSome file.root P → P root
    some P e h = subst (λ (o : Option Feature). IfSome o P) e h

    root_members : IsShallow (Some root) → EachGroupHasMembers root
    root_members shallow = within_members 64 shallow.0 root shallow.1

-- ---- one file

some_heads : (tree : Tree) → 1 ≤ length (heads_of tree)
some_heads (feature head below) = omega arith

-- nothing is wrong with the lines of a file
line_clean : (placing : Placing) (front : List Line) (line : Line) → fault_of_line placing front line ≡ None → IsClean line
line_clean placing front (of_group line) none = never_when _ _ none
line_clean placing front (of_feature line) none =
    let before = brought_by_lines placing front in
    let brought = brought_by placing (of_feature line) in
    let place = line.reference.place in
    let one = (neither_there (when (places_nothing placing line) (finding UnknownFeature place)) _ none).1 in
    let two = (neither_there (when (is_placed_again before line) (finding PlacedTwice place)) _ one).1 in
    let three = (neither_there (when (has_body line) (finding BodyOnPlacedImport place)) _ two).1 in
    let four = (neither_there (when (is_too_deep brought line) (finding TooDeep place)) _ three).1 in
    let five = (neither_there (when (has_known_name before brought) (finding DuplicateFeature place)) _ four).1 in
    none_mapped (finding DuplicateAttribute) (repeated_key line.attributes)
    (neither_there (option_map (finding DuplicateAttribute) (repeated_key line.attributes))
    (option_or (when (is_too_large before brought) (finding TooManyFeatures place)) (option_or (when (has_too_many_rules before brought line) (finding TooManyRules place)) None)) five).0

pub record FileIsFine (loaded : Loaded) : Type 0 where
  pub root : Feature
  pub is : loaded.file.root ≡ Some root
  pub fine : FineLine IsTidy tidied 1 root

module _ (files : List Loaded) (whole : IsWhole files) (none : HasNoFault files) where
  module _ (k : ℕ) (loaded : Loaded) (there : slice_get files k ≡ Some loaded) where
    none_found : fault_in_file (scopes_of (take k files)) loaded ≡ None
    none_found = none_mapped _ (fault_in_file (scopes_of (take k files)) loaded) (along_at fault_of_file [] files k loaded none there)

    has_root : (root : Option Feature) → loaded.file.root ≡ root → (r : Feature) × (loaded.file.root ≡ Some r)
    has_root (Some r) e = (r, e)
    has_root None e =
        let first = (neither_there _ _ none_found).0 in
        let missing = subst (λ (o : Option Feature). missing_features o loaded.file.finish ≡ None) e first in
        absurd (cc missing)

    pub file_fine : FileIsFine loaded
    file_fine =
        let root = has_root loaded.file.root refl in
        let second = (neither_there _ _ (neither_there _ _ none_found).1).0 in
        let placing = placed_scope (scopes_of (take k files)) loaded in
        let lines = each_of (λ (line : Line). (f : List Line) × (fault_of_line placing f line ≡ None)) IsClean (λ line h. line_clean placing h.0 line h.1)
        (lines_of loaded.file.root) (each_along (fault_of_line placing) [] (lines_of loaded.file.root) second) in
        let spelled = spelled_root loaded.file root.0 (whole.each k loaded there).written root.1 in
        record {
          root = root.0;
          is = root.1;
          fine = (
            subst (λ (o : Option Feature). AllByRecursion IsClean (lines_of o)) root.1 lines,
            (
              tidy (all_attributes root.0) (recursion_from_All _ (all_attributes root.0) spelled.texts) (recursion_from_All _ (all_attributes root.0) spelled.values),
              recursion_from_All (λ (count : ℕ). 1 ≤ count) (member_counts root.0) spelled.members,
            ),
          );
        }
      where
        tidy : (attributes : List Attribute) → AllByRecursion (λ a. AreQuotable (texts_of a)) attributes
            → AllByRecursion (λ a. nesting_of_attribute a ≤ most_nesting - 1) attributes → AllByRecursion IsTidy attributes
        tidy [] h n = tt
        tidy (a ∷ attributes) h n = ((h.0, n.0), tidy attributes h.1 n.1)

    -- each rule is one over the features of the file
    pub rules_plain : (heads : List Head) → names_of_heads heads ≡ (scope_of (scopes_of (take k files)) loaded).names
        → attributes_of_heads heads ≡ (scope_of (scopes_of (take k files)) loaded).attributes → 1 ≤ length heads → All (IsPlain heads) (rules_of loaded.file)
    rules_plain heads names_are lists_are some =
        let brought = brought_in (scopes_of (take k files)) loaded in
        let rules = rules_of loaded.file in
        let third = (neither_there _ _ (neither_there _ _ (neither_there _ _ none_found).1).1).0 in
        let known = each_of (λ (rule : Expr). (f : List Expr) × (fault_of_rule brought f rule ≡ None)) (λ (rule : Expr). fault_inside brought.names brought.attributes rule ≡ None)
        (λ rule h. (neither_there _ _ (neither_there _ _ h.1).1).0) rules (each_along (fault_of_rule brought) [] rules third) in
        let written = (whole.each k loaded there).written in
        let few = recursion_from_All _ rules (file_few written.tokens loaded.file written.parsed.spelled written.parsed.unnamed) in
        let shallow = recursion_from_All _ rules (file_grouped written.tokens loaded.file written.parsed.spelled written.parsed.unnamed) in
        All-from_recursion (IsPlain heads) rules (plain brought.names brought.attributes names_are lists_are rules known few shallow)
      where
        plain : (names : List (List ℕ)) (lists : List (List Attribute)) → names_of_heads heads ≡ names → attributes_of_heads heads ≡ lists → (rules : List Expr)
            → AllByRecursion (λ rule. fault_inside names lists rule ≡ None) rules
            → AllByRecursion (λ rule. nodes_of rule ≤ most_rule_nodes) rules
            → AllByRecursion (λ rule. right_operands rule ≤ most_right_operands) rules → AllByRecursion (IsPlain heads) rules
        plain names lists n l [] k f s = tt
        plain names lists n l (rule ∷ rules) k f s = (
          record {
            no_fault = ap (λ (ns : List (List ℕ)). fault_inside ns (attributes_of_heads heads) rule) n
                ∙ ap (λ (ls : List (List Attribute)). fault_inside names ls rule) l ∙ k.0;
            some = some;
            few = f.0;
            shallow = s.0;
          },
          plain names lists n l rules k.1 f.1 s.1,
        )

  -- the files with their scopes
  pub are_ready : (scopes : List Scope) → scopes ≡ scopes_of files → AreScopesOf files scopes → AreReady files scopes
  are_ready scopes is trees = record {
    count = ap length is ∙ scopes_count files;
    each = λ at loaded scope there found.
        let has = trees at scope found in
        let same : scope ≡ scope_of (scopes_of (take at files)) loaded =
        some_same (sym found ∙ ap (λ (ss : List Scope). slice_get ss at) is ∙ scope_there files at loaded there) in
        let heads : heads_in scope ≡ heads_of has.tree =
        ap (λ (ns : List (List ℕ)). heads_with ns scope.attributes) (has.of_tree.names ∙ names_are has.tree)
        ∙ ap (heads_with (names_of_heads (heads_of has.tree))) has.of_tree.attributes ∙ heads_again (heads_of has.tree) in
        let lists : attributes_of_heads (heads_in scope) ≡ scope.attributes = ap attributes_of_heads heads ∙ sym has.of_tree.attributes in
        record {
          tree = has.tree;
          placed = has.placed;
          heads = heads;
          distinct = has.within.distinct;
          plain = rules_plain at loaded there (heads_in scope)
              (names_with scope.names scope.attributes ∙ ap (λ (s : Scope). s.names) same) (lists ∙ ap (λ (s : Scope). s.attributes) same)
              (subst (λ (hs : List Head). 1 ≤ length hs) (sym heads) (some_heads has.tree));
        };
  }
    where
      some_same : {A : Type 0} {a b : A} → Some a ≡ Some b → a ≡ b
      some_same {A} {a} {b} h = cc

-- ---- the placed trees

-- the last of a list, or another
pub last_or : {A : Type 0} (xs : List A) (y : A) (k : ℕ) (x : A) → slice_get (xs ++ y ∷ []) k ≡ Some x → (slice_get xs k ≡ Some x) ⊎ (y ≡ x)
last_or [] y zero x h = inr cc
last_or [] y (suc k) x h = absurd cc
last_or (z ∷ xs) y zero x h = inl h
last_or (z ∷ xs) y (suc k) x h = last_or xs y k x h

abbrev TreesAreGood : List (Option Tree) → Type 0
TreesAreGood trees = (at : ℕ) (tree : Tree) → slice_get trees at ≡ Some (Some tree) → IsGood tree

trees_grow : (trees : List (Option Tree)) (files : List Loaded) → TreesAreGood trees → AllByRecursion FileIsFine files → TreesAreGood (trees_behind trees files)
trees_grow trees [] good fine = good
trees_grow trees (loaded ∷ files) good fine = trees_grow (trees ++ tree_of_file trees loaded ∷ []) files more fine.1
  where
    imports_tree : (tree : Tree) → tree_of_file trees loaded ≡ Some tree → IsGood tree
    imports_tree tree says =
        tree_good IsTidy tidied (imports_of trees loaded) good fine.0.root 1 tree fine.0.fine
        (sym (ap (tree_of_root (imports_of trees loaded)) fine.0.is) ∙ says)

    more : TreesAreGood (trees ++ tree_of_file trees loaded ∷ [])
    more at tree there =
        elim (last_or trees (tree_of_file trees loaded) at (Some tree) there) [
          | inl before ↦ good at tree before
          | inr last ↦ imports_tree tree last
        ]

pub trees_good : (files : List Loaded) → IsWhole files → HasNoFault files → TreesAreGood (placed files)
trees_good files whole none = trees_grow [] files (λ at tree there. absurd (cc there)) (all_fine files (λ k loaded there. file_fine files whole none k loaded there))
  where
    all_fine : (files : List Loaded) → ((k : ℕ) (loaded : Loaded) → slice_get files k ≡ Some loaded → FileIsFine loaded) → AllByRecursion FileIsFine files
    all_fine [] h = tt
    all_fine (loaded ∷ files) h = (h 0 loaded refl, all_fine files (λ k other there. h (suc k) other there))
