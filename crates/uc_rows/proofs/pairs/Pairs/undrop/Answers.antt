use Rattle.std.proofs.Common.{rules, arith, refl, ◌≡◌, ◌<◌, length, get_or, ◌∙◌, ap}
use Rattle.std.proofs.lemmas.List.{length-set}
use Rattle.uc_ledger.specs.declared.ledger.State.TheVariants.{Orphan, Waiting}
use Rattle.uc_machine.specs.State.{is_waiting}
use Rattle.uc_rows.proofs.PairChanges.{pair_in, row_inside, row_weight, out_new, turned, queue_again}
use Rattle.uc_rows.proofs.pairs.Pairs.undrop.Goals as goal
use Rattle.uc_rows.proofs.pairs.Pairs.undrop.Goals.{in-Ok, in-Err+else-prove}

pub index-requires : goal.index-requires
index-requires c =
    let i = c.self.inside in
    let p = pair_in i c.args.self.now c.args.number Orphan c.self.view_is c.requires.orphan in
    let l : c.args.number < length i.rows.items = row_inside i c.args.number Orphan p in
    omega (arith, i.rows.ok.0)

pub undraw-requires-clause-new : goal.undraw-requires-clause-new
undraw-requires-clause-new c = out_new c.self.inside c.args.number Orphan refl c.self.invariant (pair_in c.self.inside c.args.self.now c.args.number Orphan c.self.view_is c.requires.orphan)

pub prove-unreachable-requires : goal.prove-unreachable-requires
prove-unreachable-requires c = (let p = pair_in c.self.inside c.args.self.now c.args.number Orphan c.self.view_is c.requires.orphan in c.in-Err.ensures.other (c.in-Err.ensures.is ∙ p.state))

pub invariant_of-self : goal.invariant_of-self
invariant_of-self c =
    let i = c.self.inside in
    let p = pair_in i c.args.self.now c.args.number Orphan c.self.view_is c.requires.orphan in
    let row = c.index.result.now in
    let at : row ≡ get_or i.rows.items c.args.number row = search (rules, c.index.ensures) in
    let weight : row.weight ≡ p.pair.weight = row_weight i c.args.number Orphan row p at in
    elim c.match-readmit.branch [
      | in-Ok w ↦
          let t = w.in-Ok.ensures in
          record {
            as_many = ap length t.becomes ∙ length-set i.states.states c.args.number Waiting ∙ c.self.invariant.as_many;
            queue = queue_again i.rows.items i.states.states c.readmit.new.self.states c.args.number row.weight p.pair i.queue.waiting c.undraw.new.self.waiting t.becomes p.at (ap is_waiting p.condition) weight c.self.invariant.queue c.undraw.ensures.added;
          }
      | in-Err+else-prove w ↦ absurd (w.in-Err.ensures.other (w.in-Err.ensures.is ∙ p.state))
    ]

pub returns-clause-pairs : goal.returns-clause-pairs
returns-clause-pairs c =
    let p = pair_in c.self.inside c.args.self.now c.args.number Orphan c.self.view_is c.requires.orphan in
    elim c.match-readmit.branch [
      | in-Ok w ↦ rw (← c.self.view_is) (turned c.self.inside.rows.items c.self.inside.states.states c.readmit.new.self.states c.args.number Waiting w.in-Ok.ensures.becomes)
      | in-Err+else-prove w ↦ absurd (w.in-Err.ensures.other (w.in-Err.ensures.is ∙ p.state))
    ]
