use Rattle.std.proofs.Common.{◌≡◌, ◌+◌, ◌∙◌, ℕ, sym, get_or}
use Rattle.uc_term.specs.declared.node.Sym.{Sym}
use Rattle.uc_term.specs.Table.{Has, arity_of}
use Rattle.uc_lpo.proofs.Precedences.{Each-get, constant_here, constant_on, first_on, first_found}
use Rattle.uc_lpo.proofs.tables.least_constant.Goals as goal

pub loop-at-init : goal.loop-at-init
loop-at-init c = record { inside = constant_here (arity_of c.args.symbols.now) c.args.precedence.now 0 c.requires.constant; constant = c.requires.constant; first = λ d f. f }

pub arity-requires : goal.arity-requires
arity-requires c = Each-get (Has c.args.symbols.now) c.args.precedence.now c.loop-at.at (record { 0 = 0 }) c.requires.known c.loop-at.invariant.inside

pub loop-at-preserved : goal.loop-at-preserved
loop-at-preserved c =
    let d : Sym = record { 0 = 0 } in
    let gs = c.args.precedence.now in
    let arity : Sym → ℕ = arity_of c.args.symbols.now in
    let n = λ (e : arity (get_or gs c.loop-at.at d) ≡ 0). c.loop-at-test.true (c.arity.ensures ∙ e) in
    let on = constant_on arity gs c.loop-at.at d c.loop-at.invariant.inside n c.loop-at.invariant.constant in
    record {
      inside = constant_here arity gs (c.loop-at.at + 1) on;
      constant = on;
      first = first_on (λ f. arity f ≡ 0) gs c.loop-at.at d c.loop-at.invariant.inside n c.loop-at.invariant.first;
    }

pub returns : goal.returns
returns c =
    let d : Sym = record { 0 = 0 } in
    let gs = c.args.precedence.now in
    c.loop-at.invariant.first (get_or gs c.loop-at.at d) (first_found (λ f. arity_of c.args.symbols.now f ≡ 0) gs c.loop-at.at d c.loop-at.invariant.inside (sym c.arity.ensures ∙ c.loop-at-test.false))
