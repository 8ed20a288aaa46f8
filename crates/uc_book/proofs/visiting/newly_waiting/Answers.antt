use Rattle.std.proofs.Common.{arith, ℕ, ◌+◌, ◌<◌, ◌++◌, length, cond, sym, ap, ◌∙◌}
use Rattle.std.specs.Prelude.{count_by}
use Rattle.std.proofs.lemmas.List.{take_all}
use Rattle.uc_pair.specs.declared.formed.Formed.{Formed}
use Rattle.uc_machine.specs.State.{is_waiting}
use Rattle.uc_machine.specs.Effects.{pair_by}
use Rattle.uc_rows.specs.Deaths.{deaths_by}
use Rattle.uc_book.proofs.NewPairs.{newly_more}
use Rattle.uc_book.proofs.visiting.newly_waiting.Goals as goal
use Rattle.uc_book.proofs.visiting.newly_waiting.Goals.{then-is_waiting, else-is_waiting}

pub loop-k-preserved : goal.loop-k-preserved
loop-k-preserved c =
    let fs = c.args.overlaps.now in
    let k = c.loop-k.k in
    let i = c.loop-k.invariant in
    let l : k < length fs = omega arith in
    let more = λ (killer : ℕ). newly_more (c.args.facts.now.front.entries ++ deaths_by killer c.args.falls.now) fs k _ c.is_waiting.result c.loop-k.count l (c.is_waiting.ensures ∙ ap is_waiting (c.state_by.ensures killer)) (i.value killer) in
    elim c.if-is_waiting.branch [
      | then-is_waiting w ↦ record {
        value = λ killer. omega (arith, w.count-is, ap (λ b. c.loop-k.count + cond {A = ℕ} b 1 0) (sym w.if-is_waiting.true) ∙ more killer);
        few = omega (arith, i.few, w.count-is);
      }
      | else-is_waiting w ↦ record {
        value = λ killer. omega (arith, w.count-is, ap (λ b. c.loop-k.count + cond {A = ℕ} b 1 0) (sym w.if-is_waiting.false) ∙ more killer);
        few = omega (arith, i.few, w.count-is);
      }
    ]

pub returns-clause-value : goal.returns-clause-value
returns-clause-value c = λ killer. (let es = c.args.facts.now.front.entries ++ deaths_by killer c.args.falls.now in
    c.loop-k.invariant.value killer ∙ ap (count_by (λ (f : Formed). is_waiting (pair_by es f).condition)) (take_all c.loop-k.k c.args.overlaps.now (omega arith)))
