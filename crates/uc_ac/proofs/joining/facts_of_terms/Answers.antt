use Rattle.std.proofs.Common.{◌+◌, [], drop, get_or, sym, subst, append-nil}
use Rattle.uc_term.specs.declared.node.Sym.{Sym}
use Rattle.uc_ac.specs.Joining.{AreFactsOf}
use Rattle.uc_ac.specs.Found.{Gathers, gathers_none}
use Rattle.uc_ac.proofs.Found.{past}
use Rattle.uc_ac.proofs.Sorting.{drop_cons}
use Rattle.uc_ac.proofs.Gathering.{gathers_more, facts_are}
use Rattle.uc_ac.proofs.joining.facts_of_terms.Goals as goal

pub loop-number-preserved : goal.loop-number-preserved
loop-number-preserved g c =
    let live = g.I.Index.live c.args.index.now in
    let ns = c.as_slice-number-items.result.now in
    let i = c.loop-number.number-index in
    let symbol : Sym = record { 0 = get_or ns i 0 } in
    λ final h.
    let m = gathers_more live symbol (drop (i + 1) ns) c.loop-number.list.items c.add_facts.new.list.items final c.in_ok-add_facts.ensures h in
    subst (Gathers live ns) m.2 (c.loop-number.invariant m.0 (subst (λ l. Gathers live l m.0) (sym (drop_cons ns i 0 c.loop-number-test.true)) m.1))

pub returns : goal.returns
returns g c =
    let live = g.I.Index.live c.args.index.now in
    let ns = c.as_slice-number-items.result.now in
    let all = subst (Gathers live ns) (append-nil c.loop-number.list.items) (c.loop-number.invariant [] (subst (λ l. Gathers live l []) (sym (past ns c.loop-number.number-index c.loop-number-test.false)) gathers_none)) in
    let list = subst (λ l. Gathers live l c.loop-number.list.items) c.as_slice-number-items.ensures.value all in
    subst (AreFactsOf live c.args.s.now c.args.t.now) (sym c.from_vec.ensures) (facts_are live c.args.s.now c.args.t.now c.in_ok-numbers.numbers.items c.loop-number.list.items c.in_ok-numbers.ensures list)
