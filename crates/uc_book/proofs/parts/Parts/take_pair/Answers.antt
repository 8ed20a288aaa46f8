use Rattle.std.proofs.Common.{arith, refl, sym, ap, subst}
use Rattle.uc_machine.specs.declared.event.Happening.TheVariants.{CommitJoined}
use Rattle.uc_machine.specs.declared.task.Finding.{Finding}
use Rattle.uc_machine.specs.Commits.{Commits}
use Rattle.uc_rows.specs.RowViews.{FactsView}
use Rattle.uc_book.specs.Parts.{state_of}
use Rattle.uc_book.proofs.Standing.{can_accept, joined_fit}
use Rattle.uc_book.proofs.Fitting.{room_ended}
use Rattle.uc_book.proofs.Finishing.{pair_joined}
use Rattle.uc_book.proofs.parts.Parts.take_pair.Goals as goal

pub end_pair-requires-clause-out : goal.end_pair-requires-clause-out
end_pair-requires-clause-out g c = λ t h. c.requires.can.1.subjects t h.found

pub end_pair-requires-clause-can : goal.end_pair-requires-clause-can
end_pair-requires-clause-can g c = λ t h. can_accept c.args.shelf.now c.requires.can.0 c.args.self.now c.args.at t c.requires.can.1 h

pub returns-in-Joined-clause-ok : goal.returns-in-Joined-clause-ok
returns-in-Joined-clause-ok g c = λ o t h.
    subst (λ (f : Finding). Commits o t f (state_of c.args.self.now) (state_of c.end_pair.new.self)) (sym c.in-Joined.is)
    (pair_joined o t t.job c.args.pair c.in-Joined.field-0 (state_of c.args.self.now) (state_of c.end_pair.new.self) c.requires.open refl (c.requires.job t h) (c.end_pair.ensures.state t h))

pub returns-in-Joined-clause-fit : goal.returns-in-Joined-clause-fit
returns-in-Joined-clause-fit g c =
    joined_fit c.args.shelf.now c.args.self.now c.end_pair.new.self c.args.at c.requires.at.0 (CommitJoined c.args.pair) c.args.pair c.requires.can.1.fit c.requires.at.1 (c.end_pair.ensures.state c.requires.at.0 c.requires.at.1) refl c.end_pair.ensures.rest.next c.end_pair.ensures.rest.tasks (ap (λ (f : FactsView). f.front) c.end_pair.ensures.front)

pub returns-in-Joined-clause-room : goal.returns-in-Joined-clause-room
returns-in-Joined-clause-room g c = (let e = c.end_pair.ensures.spare in room_ended c.args.self.now c.end_pair.new.self c.args.at c.requires.at.0 c.requires.can.1.room c.requires.at.1 c.end_pair.ensures.rest (omega (arith, e)))
