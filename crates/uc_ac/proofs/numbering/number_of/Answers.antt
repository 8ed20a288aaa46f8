use Rattle.std.proofs.Common.{◌≡◌, ◌+◌, ◌-◌, List, drop, arith, subst}
use Rattle.uc_term.specs.declared.node.Node.{Node}
use Rattle.uc_term.specs.Flat.{spelled}
use Rattle.uc_term.proofs.Terms.{whole_one}
use Rattle.uc_ac.specs.Classes.{Stands}
use Rattle.uc_ac.proofs.OneClass.{grown_same}
use Rattle.uc_ac.proofs.Reading.{unwrapped, none_stands, from_start, stack_length, enough_terms, its_class}
use Rattle.uc_ac.proofs.numbering.number_of.Goals as goal

pub loop-place-init : goal.loop-place-init
loop-place-init c = record {
  within = omega arith;
  grown = grown_same c.args.classes.now;
  stands = none_stands c.args.symbols.now c.args.classes.now c.new-terms.result.items c.args.term.now c.new-terms.ensures.items;
}

pub read_node-requires : goal.read_node-requires
read_node-requires c = record {
  enough = λ f n e.
      let ns = c.args.term.now in
      let p = c.loop-place.place in
      let before : p ≡ (p - 1) + 1 = omega (arith, c.loop-place-test.true) in
      let many = enough_terms ns (p - 1) _ (whole_one ns c.requires.whole) (omega (arith, c.loop-place.invariant.within, c.loop-place-test.true)) f n e in
      let stands = subst (λ q. Stands c.args.symbols.now c.loop-place.classes c.loop-place.terms.items (spelled (drop q ns))) before c.loop-place.invariant.stands in
      let same = stack_length c.args.symbols.now c.loop-place.classes c.loop-place.terms.items (spelled (drop ((p - 1) + 1) ns)) stands in
      omega (arith, many, same);
}

pub returns-clause-number : goal.returns-clause-number
returns-clause-number c =
    let ns = c.args.term.now in
    let start : drop c.loop-place.place ns ≡ ns = from_start ns c.loop-place.place (omega (arith, c.loop-place-test.false)) in
    let stands = subst (λ (l : List Node). Stands c.args.symbols.now c.loop-place.classes c.loop-place.terms.items (spelled l)) start c.loop-place.invariant.stands in
    its_class c.args.symbols.now c.loop-place.classes ns c.requires.whole c.loop-place.terms.items c.pop.new.self.items c.unwrap-read.result c.close.new.classes c.in_ok-number.number
    (unwrapped c.loop-place.terms.items c.pop.new.self.items c.pop.result c.unwrap-read.result c.pop.ensures.items c.unwrap-read.ensures) stands (λ t. c.in_ok-number.ensures.number c.args.symbols.now t)
