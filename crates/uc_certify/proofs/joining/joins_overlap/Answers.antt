use Rattle.std.proofs.Common.{◌≡◌, Some, length, slice_get, get_or, refl, sym, subst}
use Rattle.std.proofs.lemmas.Option.{slice_get_read, slice_get_within}
use Rattle.uc_term.specs.declared.equation.Equation.{Equation}
use Rattle.uc_pair.specs.declared.formation.Formation.TheVariants.{Pair, TooLarge}
use Rattle.uc_pair.specs.Pairs.{IsPairOf}
use Rattle.uc_certify.proofs.Lists.{never, each_test}
use Rattle.uc_certify.proofs.JoinsTested.{overlap_joins, joins_overlap, no_pair}
use Rattle.uc_certify.proofs.joining.joins_overlap.Goals as goal

pub returns-in-Pair : goal.returns-in-Pair
returns-in-Pair g c =
    let ha : slice_get c.args.rules.now.facts.now c.args.formed.overlap.outer ≡ Some c.index-rules-formed.result = slice_get_read c.args.rules.now.facts.now (length c.args.rules.now.facts.now) c.args.formed.overlap.outer c.index-rules-formed.result refl (slice_get_within c.args.rules.now.facts.now c.args.formed.overlap.outer c.requires.known.outer c.requires.known.outer_is) c.index-rules-formed.is in
    let hb : slice_get c.args.rules.now.facts.now c.args.formed.overlap.inner ≡ Some c.index-rules-formed-2.result = slice_get_read c.args.rules.now.facts.now (length c.args.rules.now.facts.now) c.args.formed.overlap.inner c.index-rules-formed-2.result refl (slice_get_within c.args.rules.now.facts.now c.args.formed.overlap.inner c.requires.known.inner c.requires.known.inner_is) c.index-rules-formed-2.is in
    let a = c.index-rules-formed.result in
    let b = c.index-rules-formed-2.result in
    let pair : IsPairOf a b c.args.formed.overlap c.in_ok-left.field-0 = subst (λ (x : Equation). IsPairOf x b c.args.formed.overlap c.in_ok-left.field-0) (sym c.index-rules-formed.is) (subst (λ (y : Equation). IsPairOf (get_or c.args.rules.now.facts.now c.args.formed.overlap.outer a) y c.args.formed.overlap c.in_ok-left.field-0) (sym c.index-rules-formed-2.is) c.in_ok-left.ensures.pair) in
    let p : IsPairOf c.index-rules-formed.result c.index-rules-formed-2.result c.args.formed.overlap (Pair c.in-Pair.left c.in-Pair.right c.in-Pair.chain) = subst (IsPairOf c.index-rules-formed.result c.index-rules-formed-2.result c.args.formed.overlap) c.in-Pair.is pair in
    each_test c.joins.result (λ axioms j. overlap_joins (g.O.Order.meaning c.args.order.now) c.args.rules.now.facts.now axioms c.args.join.now c.args.formed c.index-rules-formed.result c.index-rules-formed-2.result ha hb c.in-Pair.left c.in-Pair.right c.in-Pair.chain p j) (λ axioms j. joins_overlap (g.O.Order.meaning c.args.order.now) c.args.rules.now.facts.now axioms c.args.join.now c.args.formed c.index-rules-formed.result c.index-rules-formed-2.result ha hb c.in-Pair.left c.in-Pair.right c.in-Pair.chain p j) c.joins.ensures

pub returns : goal.returns
returns g c =
    let ha : slice_get c.args.rules.now.facts.now c.args.formed.overlap.outer ≡ Some c.index-rules-formed.result = slice_get_read c.args.rules.now.facts.now (length c.args.rules.now.facts.now) c.args.formed.overlap.outer c.index-rules-formed.result refl (slice_get_within c.args.rules.now.facts.now c.args.formed.overlap.outer c.requires.known.outer c.requires.known.outer_is) c.index-rules-formed.is in
    let hb : slice_get c.args.rules.now.facts.now c.args.formed.overlap.inner ≡ Some c.index-rules-formed-2.result = slice_get_read c.args.rules.now.facts.now (length c.args.rules.now.facts.now) c.args.formed.overlap.inner c.index-rules-formed-2.result refl (slice_get_within c.args.rules.now.facts.now c.args.formed.overlap.inner c.requires.known.inner c.requires.known.inner_is) c.index-rules-formed-2.is in
    let a = c.index-rules-formed.result in
    let b = c.index-rules-formed-2.result in
    let pair : IsPairOf a b c.args.formed.overlap c.in_ok-left.field-0 = subst (λ (x : Equation). IsPairOf x b c.args.formed.overlap c.in_ok-left.field-0) (sym c.index-rules-formed.is) (subst (λ (y : Equation). IsPairOf (get_or c.args.rules.now.facts.now c.args.formed.overlap.outer a) y c.args.formed.overlap c.in_ok-left.field-0) (sym c.index-rules-formed-2.is) c.in_ok-left.ensures.pair) in
    let p : IsPairOf c.index-rules-formed.result c.index-rules-formed-2.result c.args.formed.overlap TooLarge = subst (IsPairOf c.index-rules-formed.result c.index-rules-formed-2.result c.args.formed.overlap) c.in-TooLarge.is pair in
    λ axioms. never (no_pair (g.O.Order.meaning c.args.order.now) c.args.rules.now.facts.now axioms c.args.join.now c.args.formed c.index-rules-formed.result c.index-rules-formed-2.result ha hb p)
