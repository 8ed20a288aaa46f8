use Rattle.std.proofs.Common.{arith, refl, sym, ◌∙◌}
use Rattle.std.proofs.lemmas.Bool.{false≢true}
use Rattle.uc_rows.proofs.PutBack.{recall_none}
use Rattle.uc_book.proofs.Booked.{none_left}
use Rattle.uc_book.proofs.book.Book.recall.Goals as goal

pub tasks-init : goal.tasks-init
tasks-init g c = record { state = refl; book = record { opening = refl; order = refl; enrolled = refl }; front = refl }

pub tasks-preserved : goal.tasks-preserved
tasks-preserved g c = record {
  state = c.put_first_back.ensures.state ∙ c.tasks.invariant.state;
  book = record {
    opening = c.put_first_back.ensures.book.opening ∙ c.tasks.invariant.book.opening;
    order = c.put_first_back.ensures.book.order ∙ c.tasks.invariant.book.order;
    enrolled = c.put_first_back.ensures.book.enrolled ∙ c.tasks.invariant.book.enrolled;
  };
  front = c.put_first_back.ensures.front ∙ c.tasks.invariant.front;
}

pub tasks-smaller : goal.tasks-smaller
tasks-smaller g c = omega (arith, c.put_first_back.ensures.fewer)

pub put_first_back-requires : goal.put_first_back-requires
put_first_back-requires g c = c.has_task_out.ensures.0 c.tasks-test.true

pub returns : goal.returns
returns g c =
    let none = none_left c.tasks.self.state.out (λ l. false≢true (sym c.tasks-test.false ∙ c.has_task_out.ensures.1 l)) in
    record {
      state = sym (recall_none c.tasks.self.state none) ∙ c.tasks.invariant.state;
      none = none;
      book = c.tasks.invariant.book;
      front = c.tasks.invariant.front;
    }
