use Rattle.std.proofs.Common.{refl, ◌∙◌}
use Rattle.tests_machine.proofs.Turns.{same_twice}
use Rattle.tests_machine.proofs.books.turns.turns.Goals as goal

pub loop-init : goal.loop-init
loop-init g c = record { book = record { opening = refl; order = refl; enrolled = refl }; pass = refl }

pub loop-preserved : goal.loop-preserved
loop-preserved g c =
    let a = c.args.book.now in
    let b = c.loop.book in
    record {
      book = same_twice a c.next_done.new.book c.commit.new.book (same_twice a b c.next_done.new.book c.loop.invariant.book c.in_ok-done.ensures.book) c.in_ok-commit.ensures.book;
      pass = c.in_ok-commit.ensures.pass ∙ c.in_ok-done.ensures.pass ∙ c.loop.invariant.pass;
    }
