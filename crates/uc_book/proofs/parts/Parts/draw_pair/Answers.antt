use Rattle.std.proofs.Common.{refl, Some, ◌∙◌, ap}
use Rattle.std.specs.Prelude.{option_map}
use Rattle.uc_queue.specs.declared.entry.Entry.{Entry as Place}
use Rattle.uc_machine.specs.declared.task.Job.TheVariants.{Join}
use Rattle.uc_book.specs.Openings.{opening_of}
use Rattle.uc_rows.specs.PairRows.{IsHead}
use Rattle.uc_book.specs.Parts.{state_of}
use Rattle.uc_book.proofs.Rules.{pair_drawn}
use Rattle.uc_book.proofs.Giving.{given}
use Rattle.uc_book.proofs.parts.Parts.draw_pair.Goals as goal

pub give-requires-clause-head : goal.give-requires-clause-head
give-requires-clause-head c = let h : IsHead c.args.self.now.pairs c.in-Some.pair c.in-Some.origin = c.in-Some.ensures in ap (option_map (λ (e : Place). e.number)) h.is ∙ ap (λ n. Some n) h.number_is

pub returns-in-Some-clause-drawn : goal.returns-in-Some-clause-drawn
returns-in-Some-clause-drawn c =
    let p = c.args.self.now in
    let o = opening_of c.args.opening in
    given o c.args.worker (state_of p) (state_of p) c.give.result p.next (Join c.in-Some.pair c.in-Some.origin) p.facts.front c.args.opening (state_of c.give.new.self) c.give.ensures.task refl refl
    (pair_drawn o c.args.worker p p.next c.in-Some.pair c.in-Some.origin (state_of c.give.new.self) c.requires.late c.requires.goal c.requires.budget c.in-Some.ensures c.requires.can.fit.next c.give.ensures.state)
