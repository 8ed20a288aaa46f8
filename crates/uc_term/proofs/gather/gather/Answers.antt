use Rattle.std.proofs.Common.{◌≡◌, ℕ, ◌<◌, List, length, get_or, Some, sym, ap, ◌∙◌, subst}
use Rattle.std.proofs.lemmas.Result.{err_from_is_err_and}
use Rattle.std.proofs.lemmas.Option.{slice_get-get_or}
use Rattle.uc_term.specs.declared.node.Node.{Node}
use Rattle.uc_term.specs.Tree.{Tree}
use Rattle.uc_term.specs.Flat.{flat}
use Rattle.uc_term.specs.Table.{Table}
use Rattle.uc_term.specs.Gathering.{AreOf, HasNodes}
use Rattle.uc_term.proofs.Gathered.{term_goes_on, term_stops, all_gathered}
use Rattle.uc_term.proofs.Grown.{has_nodes}
use Rattle.uc_term.proofs.gather.gather.Goals as goal

nodes_there : (table : Table) (ts : List Tree) (i : ℕ) (t : Tree) (ns : List Node) → AreOf table ts → i < length ts → t ≡ get_or ts i t → ns ≡ flat t → HasNodes table ns
nodes_there table ts i t ns all h at is = subst (HasNodes table) (sym is) (has_nodes table t (all i t (slice_get-get_or ts i t h ∙ ap Some (sym at))))

pub gather_term-requires-clause-has : goal.gather_term-requires-clause-has
gather_term-requires-clause-has c = nodes_there c.args.symbols.now c.args.terms.now c.loop-number.number c.index-terms-number.result c.as_nodes.result.now c.requires.of c.loop-number-test.true c.index-terms-number.is c.as_nodes.ensures.value

pub returns-in_err-gather_term-clause-err : goal.returns-in_err-gather_term-clause-err
returns-in_err-gather_term-clause-err c =
    let p = err_from_is_err_and c.from_residual.result c.from_residual.ensures.1 in
    rw (p.1, p.2) (term_stops c.args.symbols.now c.args.terms.now c.loop-number.number c.index-terms-number.result c.index-terms-number.result c.loop-number-test.true c.index-terms-number.is c.as_nodes.result.now c.as_nodes.ensures.value c.loop-number.seen.items c.in_err-gather_term.field-0.0 c.loop-number.invariant.goes_on c.in_err-gather_term.ensures.err)

pub loop-number-preserved : goal.loop-number-preserved
loop-number-preserved c = record {
  goes_on = term_goes_on c.args.symbols.now c.args.terms.now c.loop-number.number c.index-terms-number.result c.index-terms-number.result c.loop-number-test.true c.index-terms-number.is c.as_nodes.result.now c.as_nodes.ensures.value c.loop-number.seen.items c.gather_term.new.seen.items c.loop-number.invariant.goes_on c.in_ok-gather_term.ensures.ok;
  named = c.in_ok-gather_term.ensures.names;
}

pub returns-clause-ok : goal.returns-clause-ok
returns-clause-ok c = all_gathered c.args.symbols.now c.args.terms.now c.loop-number.number c.loop-number.seen.items c.loop-number-test.false c.loop-number.invariant.goes_on
