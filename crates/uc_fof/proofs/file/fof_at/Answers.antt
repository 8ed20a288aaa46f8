use Rattle.std.proofs.Common.{sym, subst, ◌∙◌, ap}
use Rattle.std.proofs.lemmas.Result.{err_from_is_err_and}
use Rattle.uc_fof.specs.Given.{BeginsLiteral}
use Rattle.uc_fof.specs.Meaning.{clause_sign}
use Rattle.uc_fof.specs.Rules.{Stops}
use Rattle.uc_fof.specs.Formulas as formulas
use Rattle.uc_fof.proofs.ItemParts.{begins_literal, reads_stated}
use Rattle.uc_fof.proofs.file.fof_at.Goals as goal

pub literal_of-requires-clause-begins : goal.literal_of-requires-clause-begins
literal_of-requires-clause-begins c = subst (λ b. BeginsLiteral c.args.bytes.now c.args.tokens.now b c.in_ok-heading.at) (sym c.is_conjecture-conjecture.ensures) (begins_literal c.args.bytes.now c.args.tokens.now c.args.from c.in_ok-heading.heading c.in_ok-heading.at c.in_ok-heading.end c.in_ok-heading.ensures.reads)

pub returns-in_err-literal-clause-stops : goal.returns-in_err-literal-clause-stops
returns-in_err-literal-clause-stops c =
    let p = err_from_is_err_and c.from_residual-in_err-literal.result c.from_residual-in_err-literal.ensures.1 in
    rw (p.1, p.2) (subst (Stops (formulas.fof c.args.bytes.now c.args.tokens.now c.args.from)) (sym c.in_err-literal.ensures.memory) tt)

pub returns-clause-reads : goal.returns-clause-reads
returns-clause-reads c =
    let l = c.in_ok-literal.ensures.reads in
    reads_stated c.args.bytes.now c.args.tokens.now c.args.from c.in_ok-heading.heading c.in_ok-heading.at c.in_ok-heading.end c.in_ok-heading.ensures.reads c.args.symbols.now c.literal_of.new.symbols c.in_ok-literal.literal.positive c.in_ok-literal.literal.left c.in_ok-literal.literal.right c.in_ok-literal.literal.places l _ _ _ (record {
      name = c.in_ok-name.ensures;
      role = c.clause_role.ensures;
      positive = c.clause_sign.ensures ∙ ap (clause_sign c.in_ok-heading.heading.role) l.is_positive;
      sides = l.means;
      places = l.are_places;
      place = c.place_at.ensures;
      is_conjecture = c.is_conjecture-conjecture.ensures;
      is_role_place = c.place_at-2.ensures;
    })
