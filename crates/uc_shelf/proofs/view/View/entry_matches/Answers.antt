use Rattle.std.proofs.Common.{◌≡◌, ◌∙◌, false, true, sym, ap}
use Rattle.uc_term.specs.Flat.{tree_of}
use Rattle.uc_shelf.specs.Entries.{is_dead}
use Rattle.uc_shelf.proofs.Matching.{left_matches, right_matches, none_matches, dead_matches, death_matches}
use Rattle.uc_shelf.proofs.view.View.entry_matches.Goals as goal

pub returns-then-side_matches-clause-yes : goal.returns-then-side_matches-clause-yes
returns-then-side_matches-clause-yes c h =
    let alive : is_dead c.args.self.now c.args.number ≡ false = ap (λ z. is_dead z c.args.number) (sym c.self.view_is) ∙ sym c.is_dead.ensures ∙ c.if-not-is_dead.true in
    left_matches (tree_of c.args.term.now) c.args.self.now c.args.number c.in-Born.fact c.args.entry.now c.in-Born.is alive (c.side_matches.ensures.yes h)

pub returns-else-side_matches-clause-yes : goal.returns-else-side_matches-clause-yes
returns-else-side_matches-clause-yes c h =
    let alive : is_dead c.args.self.now c.args.number ≡ false = ap (λ z. is_dead z c.args.number) (sym c.self.view_is) ∙ sym c.is_dead.ensures ∙ c.if-not-is_dead.true in
    right_matches (tree_of c.args.term.now) c.args.self.now c.args.number c.in-Born.fact c.args.entry.now c.in-Born.is alive (c.side_matches-else-side_matches.ensures.yes h)

pub returns-else-side_matches-clause-no : goal.returns-else-side_matches-clause-no
returns-else-side_matches-clause-no c h = none_matches (tree_of c.args.term.now) c.args.self.now c.args.number c.in-Born.fact c.args.entry.now c.in-Born.is (c.side_matches.ensures.no c.if-side_matches.false) (c.side_matches-else-side_matches.ensures.no h)

pub returns-else-not-is_dead-clause-no : goal.returns-else-not-is_dead-clause-no
returns-else-not-is_dead-clause-no c h =
    let dead : is_dead c.args.self.now c.args.number ≡ true = ap (λ z. is_dead z c.args.number) (sym c.self.view_is) ∙ sym c.is_dead.ensures ∙ c.if-not-is_dead.false in
    dead_matches (tree_of c.args.term.now) c.args.self.now c.args.number c.in-Born.fact c.args.entry.now c.in-Born.is dead

pub returns-in-Dies-clause-no : goal.returns-in-Dies-clause-no
returns-in-Dies-clause-no c h = death_matches (tree_of c.args.term.now) c.args.self.now c.args.number c.in-Dies.fact c.in-Dies.killer c.args.entry.now c.in-Dies.is
