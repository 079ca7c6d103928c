-- What lines bring together, and the faults of lines and of rules, each met with those in front of it.
use Rattle.std.proofs.Common.{◌≡◌, ℕ, ◌+◌, List, [], ◌∷◌, ◌++◌, length, refl, sym, ap, ◌∙◌, arith}
use Rattle.std.specs.Option.{option_or}
use Rattle.std.proofs.lemmas.List.{append_assoc, append-nil, length-append}
use Rattle.uvl_ast.specs.declared.expression.Expr.{Expr}
use Rattle.uvl_ast.specs.declared.feature.Attribute.{Attribute}
use Rattle.uvl_ast.specs.Nodes.{nodes_of}
use Rattle.uvl_scope.specs.Brought.{Brought, Placing, nothing, together, brought_by, brought_by_lines}
use Rattle.uvl_scope.specs.Firsts.{first_along}
use Rattle.uvl_scope.specs.LineFaults.{fault_behind, fault_of_line}
use Rattle.uvl_scope.specs.Lines.{Line}
use Rattle.uvl_scope.specs.RuleFaults.{fault_behind_rules, fault_of_rule}
use Rattle.uvl_scope.specs.Rules.{nodes_in}
use Rattle.uvl_scope.specs.steps.Walk.{fault_from, brought_from, fault_from_rules}
use Rattle.uvl_scope.proofs.RulesWalked.{nodes-append}

abbrev of_parts : (names : List (List ℕ)) (attributes : List (List Attribute)) (placed : List (List ℕ)) (depth rules nodes : ℕ) → Brought
of_parts names attributes placed depth rules nodes = record { names = names; attributes = attributes; placed = placed; depth = depth; rules = rules; nodes = nodes }

-- what is equal part by part
same_parts : (a b : Brought) → a.names ≡ b.names → a.attributes ≡ b.attributes → a.placed ≡ b.placed → a.depth ≡ b.depth → a.rules ≡ b.rules → a.nodes ≡ b.nodes → a ≡ b
same_parts a b names attributes placed depth rules nodes =
    ap (λ (x : List (List ℕ)). of_parts x a.attributes a.placed a.depth a.rules a.nodes) names
    ∙ ap (λ (x : List (List Attribute)). of_parts b.names x a.placed a.depth a.rules a.nodes) attributes
    ∙ ap (λ (x : List (List ℕ)). of_parts b.names b.attributes x a.depth a.rules a.nodes) placed
    ∙ ap (λ (x : ℕ). of_parts b.names b.attributes b.placed x a.rules a.nodes) depth
    ∙ ap (λ (x : ℕ). of_parts b.names b.attributes b.placed b.depth x a.nodes) rules
    ∙ ap (λ (x : ℕ). of_parts b.names b.attributes b.placed b.depth b.rules x) nodes

together_assoc : (a b c : Brought) → together (together a b) c ≡ together a (together b c)
together_assoc a b c =
    same_parts (together (together a b) c) (together a (together b c)) (append_assoc a.names b.names c.names)
    (append_assoc a.attributes b.attributes c.attributes) (append_assoc a.placed b.placed c.placed)
    (omega arith) (omega arith) (omega arith)

pub together_none : (a : Brought) → together a nothing ≡ a
together_none a = same_parts (together a nothing) a (append-nil a.names) (append-nil a.attributes) (append-nil a.placed) (omega arith) (omega arith) (omega arith)

none_together : (a : Brought) → together nothing a ≡ a
none_together a = same_parts (together nothing a) a refl refl refl (omega arith) (omega arith) (omega arith)

-- what lines bring in front of others
pub brought-append : (placing : Placing) (front rest : List Line)
    → brought_by_lines placing (front ++ rest) ≡ together (brought_by_lines placing front) (brought_by_lines placing rest)
brought-append placing [] rest = sym (none_together (brought_by_lines placing rest))
brought-append placing (line ∷ front) rest =
    ap (together (brought_by placing line)) (brought-append placing front rest)
    ∙ sym (together_assoc (brought_by placing line) (brought_by_lines placing front) (brought_by_lines placing rest))

brought_more : (placing : Placing) (front : List Line) (line : Line)
    → brought_by_lines placing (front ++ line ∷ []) ≡ together (brought_by_lines placing front) (brought_by placing line)
brought_more placing front line =
    brought-append placing front (line ∷ [])
    ∙ ap (together (brought_by_lines placing front)) (together_none (brought_by placing line))

brought_is : (placing : Placing) (before : Brought) (lines : List Line) → brought_from placing before lines ≡ together before (brought_by_lines placing lines)
brought_is placing before [] = sym (together_none before)
brought_is placing before (line ∷ lines) =
    brought_is placing (together before (brought_by placing line)) lines
    ∙ together_assoc before (brought_by placing line) (brought_by_lines placing lines)

-- what lines bring, one after another
pub brought_all : (placing : Placing) (lines : List Line) → brought_from placing nothing lines ≡ brought_by_lines placing lines
brought_all placing lines = brought_is placing nothing lines ∙ none_together (brought_by_lines placing lines)

-- the first fault of lines
along_lines : (placing : Placing) (front lines : List Line)
    → first_along (fault_of_line placing) front lines ≡ fault_from placing (brought_by_lines placing front) lines
along_lines placing front [] = refl
along_lines placing front (line ∷ lines) =
    ap (option_or (fault_behind placing (brought_by_lines placing front) line))
    (along_lines placing (front ++ line ∷ []) lines
    ∙ ap (λ (before : Brought). fault_from placing before lines) (brought_more placing front line))

pub first_of_lines : (placing : Placing) (lines : List Line) → first_along (fault_of_line placing) [] lines ≡ fault_from placing nothing lines
first_of_lines placing lines = along_lines placing [] lines

-- the first fault of rules
along_rules : (brought : Brought) (front rules : List Expr)
    → first_along (fault_of_rule brought) front rules
    ≡ fault_from_rules brought.names brought.attributes (brought.rules + length front) (brought.nodes + nodes_in front) rules
along_rules brought front [] = refl
along_rules brought front (rule ∷ rules) =
    let count : brought.rules + length (front ++ rule ∷ []) ≡ (brought.rules + length front) + 1 = omega (arith, length-append front (rule ∷ [])) in
    let one : nodes_in (rule ∷ []) ≡ nodes_of rule = omega arith in
    let nodes : brought.nodes + nodes_in (front ++ rule ∷ []) ≡ (brought.nodes + nodes_in front) + nodes_of rule = omega (arith, nodes-append front (rule ∷ []), one) in
    ap (option_or (fault_behind_rules brought.names brought.attributes (brought.rules + length front) (brought.nodes + nodes_in front) rule))
    (along_rules brought (front ++ rule ∷ []) rules
    ∙ ap (λ (n : ℕ). fault_from_rules brought.names brought.attributes n (brought.nodes + nodes_in (front ++ rule ∷ [])) rules) count
    ∙ ap (λ (n : ℕ). fault_from_rules brought.names brought.attributes ((brought.rules + length front) + 1) n rules) nodes)

pub first_of_rules : (brought : Brought) (rules : List Expr)
    → first_along (fault_of_rule brought) [] rules ≡ fault_from_rules brought.names brought.attributes brought.rules brought.nodes rules
first_of_rules brought rules =
    let count : brought.rules + length {A = Expr} [] ≡ brought.rules = omega arith in
    let nodes : brought.nodes + nodes_in [] ≡ brought.nodes = omega arith in
    along_rules brought [] rules
    ∙ ap (λ (n : ℕ). fault_from_rules brought.names brought.attributes n (brought.nodes + nodes_in []) rules) count
    ∙ ap (λ (n : ℕ). fault_from_rules brought.names brought.attributes brought.rules n rules) nodes
