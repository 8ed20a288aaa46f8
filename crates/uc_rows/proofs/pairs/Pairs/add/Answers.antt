use Rattle.std.proofs.Common.{arith, ◌≡◌, ◌+◌, ◌++◌, ◌∷◌, [], length, sym, ◌∙◌, ap}
use Rattle.std.proofs.lemmas.List.{length_push}
use Rattle.uc_rows.specs.declared.pairs.PairRow.{PairRow}
use Rattle.uc_rows.specs.PairRows.{pairs_of}
use Rattle.uc_machine.specs.State.{queue_from}
use Rattle.uc_rows.proofs.PairRows.{pairs_of-push}
use Rattle.uc_rows.proofs.PairChanges.{queue_more, number_new}
use Rattle.uc_rows.proofs.pairs.Pairs.add.Goals as goal

pub wait_if-requires-clause-new : goal.wait_if-requires-clause-new
wait_if-requires-clause-new c = (let i = c.self.inside in let n : c.len-number.result ≡ length i.rows.items = omega (arith, i.rows.ok.0) in number_new i.rows.items i.states.states c.len-number.result i.queue.waiting c.self.invariant.as_many n c.self.invariant.queue)

pub invariant_of-self : goal.invariant_of-self
invariant_of-self c =
    let i = c.self.inside in
    let row : PairRow = record { origin = c.args.origin; weight = c.args.weight } in
    let n : c.len-number.result ≡ length i.rows.items = omega (arith, i.rows.ok.0) in
    let rows : c.push_reserved.new.self.items ≡ i.rows.items ++ row ∷ [] = c.push_reserved.ensures.items in
    let states : c.meet_one.new.states.states ≡ i.states.states ++ c.args.state ∷ [] = c.meet_one.ensures.states in
    record {
      as_many = ap length states ∙ length_push i.states.states c.args.state ∙ ap (λ k. k + 1) c.self.invariant.as_many ∙ sym (ap length rows ∙ length_push i.rows.items row);
      queue = queue_more i.rows.items i.states.states row c.args.state c.len-number.result i.queue.waiting c.wait_if.new.queue.waiting c.self.invariant.as_many n c.self.invariant.queue c.wait_if.ensures.waiting
          ∙ ap (λ rs. queue_from 0 (pairs_of rs (i.states.states ++ c.args.state ∷ []))) (sym rows) ∙ ap (λ cs. queue_from 0 (pairs_of c.push_reserved.new.self.items cs)) (sym states);
    }

pub returns-clause-pairs : goal.returns-clause-pairs
returns-clause-pairs c =
    let i = c.self.inside in
    let row : PairRow = record { origin = c.args.origin; weight = c.args.weight } in
    rw (← c.self.view_is) (ap (λ rs. pairs_of rs c.meet_one.new.states.states) c.push_reserved.ensures.items ∙ ap (λ cs. pairs_of (i.rows.items ++ row ∷ []) cs) c.meet_one.ensures.states ∙ pairs_of-push i.rows.items i.states.states row c.args.state c.self.invariant.as_many)
