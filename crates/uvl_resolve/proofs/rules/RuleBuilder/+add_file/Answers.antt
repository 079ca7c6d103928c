-- The rules of the file itself, and then those of each file that it places.
use Rattle.std.proofs.Common.{◌≡◌, ◌+◌, List, [], Option, drop, get_or, length, refl, arith, sym, ap, ◌∙◌, subst}
use Rattle.std.specs.Prelude.{slice_get}
use Rattle.std.proofs.lemmas.List.{drop_all, drop_more}
use Rattle.std.proofs.lemmas.Option.{same_Some, slice_get_read}
use Rattle.uvl_imports.specs.declared.file_set.Loaded.{Loaded}
use Rattle.uvl_placing.specs.Files.{placings_of_root, said}
use Rattle.uvl_placing.specs.Options.{known}
use Rattle.uvl_resolve.specs.declared.placements.Placement.{Placement}
use Rattle.uvl_resolve.specs.steps.Placements.{AddsPlacements, heads_at, heads_there, placement}
use Rattle.uvl_resolve.specs.steps.Rules.{Says, heads_in}
use Rattle.uvl_resolve.proofs.Heads.{count_with}
use Rattle.uvl_resolve.proofs.Placing.{FilesGoOn, all_placed, file_says, files_begin, files_end, files_step}
use Rattle.uvl_semantics.specs.Tree.{Head}
use Rattle.uvl_scope.specs.declared.scope.Scope.{Scope}
use Rattle.uvl_resolve.proofs.rules.RuleBuilder.+add_file.Goals as goal

pub add_own-requires-clause-plain : goal.add_own-requires-clause-plain
add_own-requires-clause-plain t c =
    let loaded = c.index-files-at.result in
    let scope = c.index-scopes-at.result in
    let there = slice_get_read c.args.files.now _ c.args.at loaded refl c.requires.there c.index-files-at.is in
    let found = slice_get_read c.args.scopes.now _ c.args.at scope refl (omega (arith, c.requires.there, c.requires.ready.count)) c.index-scopes-at.is in
    (c.requires.ready.each c.args.at loaded scope there found).plain

pub placements_of-requires-clause-placed : goal.placements_of-requires-clause-placed
placements_of-requires-clause-placed t c =
    let loaded = c.index-files-at.result in
    let scope = c.index-scopes-at.result in
    let there = slice_get_read c.args.files.now _ c.args.at loaded refl c.requires.there c.index-files-at.is in
    let found = slice_get_read c.args.scopes.now _ c.args.at scope refl (omega (arith, c.requires.there, c.requires.ready.count)) c.index-scopes-at.is in
    all_placed c.args.files.now c.args.scopes.now c.requires.whole c.files_are_read_in_order.ensures.among_all c.requires.ready c.args.at loaded scope there found

pub loop-placement-init : goal.loop-placement-init
loop-placement-init t c = λ whole law ready loaded scope there found.
    let own = c.index-files-at.result in
    let its = c.index-scopes-at.result in
    let files = c.args.files.now in
    let scopes = c.args.scopes.now in
    let own_there = slice_get_read files _ c.args.at own refl c.requires.there c.index-files-at.is in
    let its_there = slice_get_read scopes _ c.args.at its refl (omega (arith, c.requires.there, c.requires.ready.count)) c.index-scopes-at.is in
    let items = c.deref-placement-items.result.now in
    let adds = subst (λ (ps : List Placement). AddsPlacements own its.names [] ps (placings_of_root own.file.root)) (sym c.deref-placement-items.ensures.value) c.in_ok-placements.ensures in
    let adds_loaded = subst (λ (l : Loaded). AddsPlacements l its.names [] items (placings_of_root l.file.root)) (same_Some own loaded (sym own_there ∙ there)) adds in
    let adds_scope = subst (λ (s : Scope). AddsPlacements loaded s.names [] items (placings_of_root loaded.file.root)) (same_Some its scope (sym its_there ∙ found)) adds_loaded in
    files_begin files scopes whole law ready c.args.at loaded scope there found c.args.offset c.add_own.new.self.rules items adds_scope

pub overflow_add-number : goal.overflow_add-number
overflow_add-number t c =
    let loaded = c.index-files-at.result in
    let scope = c.index-scopes-at.result in
    let files = c.args.files.now in
    let scopes = c.args.scopes.now in
    let there = slice_get_read files _ c.args.at loaded refl c.requires.there c.index-files-at.is in
    let found = slice_get_read scopes _ c.args.at scope refl (omega (arith, c.requires.there, c.requires.ready.count)) c.index-scopes-at.is in
    let law = c.files_are_read_in_order.ensures.among_all in
    let go = c.loop-placement.invariant c.requires.whole law c.requires.ready loaded scope there found in
    let all = c.deref-placement-items.result.now in
    let i = c.loop-placement.placement-index in
    let p = get_or all i (placement 0 0) in
    let first = files_step files scopes c.requires.whole law c.requires.ready c.args.at loaded scope there found c.args.offset c.add_own.new.self.rules c.loop-placement.self.rules p (drop (i + 1) all)
    (subst (FilesGoOn files scopes c.requires.whole law c.requires.ready c.args.at loaded scope there found c.args.offset c.add_own.new.self.rules c.loop-placement.self.rules)
    (drop_more all i (placement 0 0) c.loop-placement-test.true) go) in
    let names : length (heads_at scopes c.args.at) ≡ length (heads_in scope) = ap (λ (o : Option Scope). length (heads_there o)) found in
    omega (arith, first.file.room, names, c.requires.few)

pub add_file-requires : goal.add_file-requires
add_file-requires t c =
    let loaded = c.index-files-at.result in
    let scope = c.index-scopes-at.result in
    let files = c.args.files.now in
    let scopes = c.args.scopes.now in
    let there = slice_get_read files _ c.args.at loaded refl c.requires.there c.index-files-at.is in
    let found = slice_get_read scopes _ c.args.at scope refl (omega (arith, c.requires.there, c.requires.ready.count)) c.index-scopes-at.is in
    let law = c.files_are_read_in_order.ensures.among_all in
    let go = c.loop-placement.invariant c.requires.whole law c.requires.ready loaded scope there found in
    let all = c.deref-placement-items.result.now in
    let i = c.loop-placement.placement-index in
    let p = get_or all i (placement 0 0) in
    let first = files_step files scopes c.requires.whole law c.requires.ready c.args.at loaded scope there found c.args.offset c.add_own.new.self.rules c.loop-placement.self.rules p (drop (i + 1) all)
    (subst (FilesGoOn files scopes c.requires.whole law c.requires.ready c.args.at loaded scope there found c.args.offset c.add_own.new.self.rules c.loop-placement.self.rules)
    (drop_more all i (placement 0 0) c.loop-placement-test.true) go) in
    let names : length (heads_at scopes c.args.at) ≡ length (heads_in scope) = ap (λ (o : Option Scope). length (heads_there o)) found in (
      omega (arith, first.file.in_front),
      (
        c.requires.whole,
        (c.requires.ready, (c.requires.known, (omega (arith, first.file.in_front, c.requires.there), omega (arith, first.file.room, names, c.requires.few)))),
      ),
    )

pub loop-placement-preserved : goal.loop-placement-preserved
loop-placement-preserved t c = λ whole law ready loaded scope there found.
    let files = c.args.files.now in
    let scopes = c.args.scopes.now in
    let all = c.deref-placement-items.result.now in
    let i = c.loop-placement.placement-index in
    let go = c.loop-placement.invariant whole law ready loaded scope there found in
    let p = get_or all i (placement 0 0) in
    let first = files_step files scopes whole law ready c.args.at loaded scope there found c.args.offset c.add_own.new.self.rules c.loop-placement.self.rules p (drop (i + 1) all)
    (subst (FilesGoOn files scopes whole law ready c.args.at loaded scope there found c.args.offset c.add_own.new.self.rules c.loop-placement.self.rules)
    (drop_more all i (placement 0 0) c.loop-placement-test.true) go) in
    first.go_on c.add_file.new.self.rules (first.file.add c.args.offset c.loop-placement.self.rules c.add_file.new.self.rules c.in_ok-add_file.ensures)

pub returns : goal.returns
returns t c =
    let loaded = c.index-files-at.result in
    let scope = c.index-scopes-at.result in
    let files = c.args.files.now in
    let scopes = c.args.scopes.now in
    let there = slice_get_read files _ c.args.at loaded refl c.requires.there c.index-files-at.is in
    let found = slice_get_read scopes _ c.args.at scope refl (omega (arith, c.requires.there, c.requires.ready.count)) c.index-scopes-at.is in
    let law = c.files_are_read_in_order.ensures.among_all in
    let go = c.loop-placement.invariant c.requires.whole law c.requires.ready loaded scope there found in
    let all = c.deref-placement-items.result.now in
    let i = c.loop-placement.placement-index in
    let last = subst (FilesGoOn files scopes c.requires.whole law c.requires.ready c.args.at loaded scope there found c.args.offset c.add_own.new.self.rules c.loop-placement.self.rules)
    (drop_all i all c.loop-placement-test.false) go in
    let placed_rules = files_end files scopes c.requires.whole law c.requires.ready c.args.at loaded scope there found c.args.offset c.add_own.new.self.rules c.loop-placement.self.rules last in
    subst (λ (hs : List Head). Says hs c.args.offset c.args.self.now.rules c.loop-placement.self.rules (known (slice_get (said files) c.args.at))) (sym (ap heads_there found))
    (file_says files scopes c.requires.whole law c.requires.ready c.args.at loaded scope there found c.args.offset c.args.self.now.rules c.add_own.new.self.rules c.loop-placement.self.rules
    c.in_ok-add_own.ensures placed_rules)

pub add_own-requires-clause-few : goal.add_own-requires-clause-few
add_own-requires-clause-few t c =
    let scope = c.index-scopes-at.result in
    let found = slice_get_read c.args.scopes.now _ c.args.at scope refl (omega (arith, c.requires.there, c.requires.ready.count)) c.index-scopes-at.is in
    let heads : length (heads_at c.args.scopes.now c.args.at) ≡ length (heads_in scope) = ap (λ (o : Option Scope). length (heads_there o)) found in
    omega (arith, c.requires.few, heads, count_with scope.names scope.attributes)
