use Rattle.std.proofs.Common.{◌∙◌, ap, sym, subst}
use Rattle.std.proofs.lemmas.Bool.{eq-eqb}
use Rattle.uc_term.specs.declared.node.Sym.{Sym}
use Rattle.uc_ac.specs.Classes.{IsRead}
use Rattle.uc_ac.specs.declared.numbering.Read.{Read}
use Rattle.uc_ac.proofs.Reading.{parts_of_class, parts_of_other}
use Rattle.uc_ac.proofs.numbering.parts_of.Goals as goal

pub returns-in_ok-numbers-in-Class-clause-parts : goal.returns-in_ok-numbers-in-Class-clause-parts
returns-in_ok-numbers-in-Class-clause-parts c symbols t i r = parts_of_class symbols c.args.classes.now c.args.f c.in_ok-numbers-in-Class.numbers.items c.in-Class.number t c.in_ok-numbers-in-Class.ensures.items i (subst (λ (q : Read). IsRead symbols c.args.classes.now q t) c.in-Class.is r)

pub returns-in_ok-numbers-in-Parts-clause-parts : goal.returns-in_ok-numbers-in-Parts-clause-parts
returns-in_ok-numbers-in-Parts-clause-parts c symbols t i r =
    parts_of_other symbols c.close_parts.new.classes c.args.f c.in-Parts.g c.in-Parts.numbers t c.in_ok-number-in-Parts.number c.in_ok-numbers-in-Parts.numbers.items
    (λ e. let yes = eq-eqb c.in-Parts.g.0 c.args.f.0 (ap (λ (s : Sym). s.0) e) in let no = sym c.eq.ensures ∙ c.if-eq.false in absurd cc)
    c.in_ok-numbers-in-Parts.ensures.items c.args.classes.now (subst (λ (q : Read). IsRead symbols c.args.classes.now q t) c.in-Parts.is r) (λ a b. c.in_ok-number-in-Parts.ensures.number symbols a b)
