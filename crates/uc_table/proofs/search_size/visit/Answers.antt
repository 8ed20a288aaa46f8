use Rattle.std.proofs.Common.{◌≡◌, ◌∙◌, sym, ◌++◌, ◌∷◌, [], length, subst, rules as std_rules}
use Rattle.uc_table.specs.SearchState.{IsRefutedIn}
use Rattle.uc_table.proofs.SearchGoing.{at_open, same_front, after_refuted, after_open, after_whole}
use Rattle.uc_table.proofs.search_size.visit.Goals as goal

pub returns-then-branch-clause-visited : goal.returns-then-branch-clause-visited
returns-then-branch-clause-visited c =
    let rules = c.args.rules.now in
    let s = c.args.state.now in
    let new = c.take_back.new.state.prefix.items in
    let e : new ≡ s.prefix.items = same_front rules new s.prefix.items c.take_back.result c.args.value (sym c.take_back.ensures.prefix ∙ c.in_ok-set.ensures.prefix) in
    let h : IsRefutedIn rules (s.prefix.items ++ c.args.value ∷ []) = subst (IsRefutedIn rules) c.in_ok-set.ensures.prefix (c.in_ok-set.ensures.refuted c.if-branch.true) in
    after_refuted rules s.prefix.items new c.args.value (at_open rules s c.requires.open) c.requires.value c.requires.room h e

pub returns-then-len-rules-clause-visited : goal.returns-then-len-rules-clause-visited
returns-then-len-rules-clause-visited c =
    let rules = c.args.rules.now in
    let s = c.args.state.now in
    let t = c.set.new.state in
    let m : length t.prefix.items ≡ rules.cells = search std_rules in
    after_whole rules s.prefix.items t c.args.value (at_open rules s c.requires.open) c.requires.value c.in_ok-set.ensures.prefix m (c.in_ok-set.ensures.open c.if-branch.false)

pub returns-clause-visited : goal.returns-clause-visited
returns-clause-visited c =
    let rules = c.args.rules.now in
    let s = c.args.state.now in
    let t = c.set.new.state in
    let k : c.len.result ≡ length t.prefix.items = search std_rules in
    after_open rules s.prefix.items t.prefix.items c.args.value (at_open rules s c.requires.open) c.requires.value c.in_ok-set.ensures.prefix (c.in_ok-set.ensures.set).sound.short (λ e. c.if-len-rules.false (k ∙ e))
