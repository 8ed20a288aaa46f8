use Rattle.std.proofs.Common.{refl, ◌∙◌, subst, arith}
use Rattle.uc_search.specs.declared.working.Turn.TheVariants.{Worked}
use Rattle.uc_book.specs.Openings.{opening_of}
use Rattle.uc_search.specs.Working.{TurnsTo, no_turn}
use Rattle.uc_search.proofs.Endless.{worked_commits}
use Rattle.uc_search.proofs.Alone.{works_on, ends_alone}
use Rattle.uc_search.proofs.Passes.{counts_nothing, counts_on}
use Rattle.uc_search.proofs.Moved.{moved_turn, same_book_on, same_pass_on}
use Rattle.uc_search.proofs.working.work_alone.Goals as goal

pub loop-turn-init : goal.loop-turn-init
loop-turn-init g c = record {
  turns = omega arith;
  works = no_turn;
  none_out = c.requires.none_out;
  book = record { opening = refl; order = refl; enrolled = refl };
  pass = record { worker = refl; opening = refl };
  count = counts_nothing c.args.pass.now c.args.book.now.state c.has_few_commits.ensures.pass c.has_few_commits.ensures.history;
  bank = refl;
}

pub loop-turn-preserved : goal.loop-turn-preserved
loop-turn-preserved g c =
    let a = c.args.book.now in
    let b = c.loop-turn.book in
    let w = c.args.pass.now.worker in
    let t = moved_turn g.O.Order.meaning a b c.loop-turn.invariant.book c.loop-turn.pass.worker w b.state c.take_turn.result c.take_turn.new.book.state c.loop-turn.invariant.pass.worker c.take_turn.ensures.turned in
    let one : TurnsTo (g.O.Order.meaning a.order) (opening_of a.opening) w b.state Worked c.take_turn.new.book.state = subst (λ x. TurnsTo (g.O.Order.meaning a.order) (opening_of a.opening) w b.state x c.take_turn.new.book.state) c.in_default.is t in
    record {
      turns = omega (arith, c.loop-turn.invariant.turns, worked_commits (g.O.Order.meaning a.order) (opening_of a.opening) w b.state c.take_turn.new.book.state one);
      works = works_on (g.O.Order.meaning a.order) (opening_of a.opening) w a.state b.state c.take_turn.new.book.state c.loop-turn.invariant.works one;
      none_out = c.take_turn.ensures.none_out;
      book = same_book_on a b c.take_turn.new.book c.loop-turn.invariant.book c.take_turn.ensures.book;
      pass = same_pass_on c.args.pass.now c.loop-turn.pass c.take_turn.new.pass c.loop-turn.invariant.pass c.take_turn.ensures.pass;
      count = counts_on c.args.pass.now c.loop-turn.pass c.take_turn.new.pass a.state b.state c.take_turn.new.book.state c.loop-turn.invariant.pass.worker c.loop-turn.invariant.count c.take_turn.ensures.count;
      bank = c.take_turn.ensures.bank ∙ c.loop-turn.invariant.bank;
    }

pub returns-in-Ends-clause-ended : goal.returns-in-Ends-clause-ended
returns-in-Ends-clause-ended g c =
    let a = c.args.book.now in
    let b = c.loop-turn.book in
    let w = c.args.pass.now.worker in
    let t = moved_turn g.O.Order.meaning a b c.loop-turn.invariant.book c.loop-turn.pass.worker w b.state c.take_turn.result c.take_turn.new.book.state c.loop-turn.invariant.pass.worker c.take_turn.ensures.turned in
    ends_alone (g.O.Order.meaning a.order) (opening_of a.opening) w a.state b.state c.take_turn.new.book.state c.in-Ends.why c.loop-turn.invariant.works (subst (λ x. TurnsTo (g.O.Order.meaning a.order) (opening_of a.opening) w b.state x c.take_turn.new.book.state) c.in-Ends.is t)

pub returns-in-Ends-clause-count : goal.returns-in-Ends-clause-count
returns-in-Ends-clause-count g c =
    counts_on c.args.pass.now c.loop-turn.pass c.take_turn.new.pass c.args.book.now.state c.loop-turn.book.state c.take_turn.new.book.state c.loop-turn.invariant.pass.worker c.loop-turn.invariant.count c.take_turn.ensures.count

pub unreachable-requires : goal.unreachable-requires
unreachable-requires g c = absurd (omega (arith, c.loop-turn.invariant.turns, c.has_few_commits-2.ensures.history c.args.pass.now.worker))
