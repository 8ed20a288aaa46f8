use Rattle.std.proofs.Common.{◌≡◌, ◌+◌, ◌<◌, ◌≤◌, ℕ, length, true, false, List, sym, ap, ◌∙◌, arith, subst, get_or, take, [], Some}
use Rattle.std.specs.Prelude.{slice_get}
use Rattle.std.proofs.lemmas.Option.{slice_get-get_or, get_or_from_slice_get}
use Rattle.uc_term.specs.declared.node.Node.{Node}
use Rattle.uc_disc.specs.declared.place.Label.TheVariants.{Variable, Leaf}
use Rattle.uc_disc.specs.declared.place.Place.{Place}
use Rattle.uc_disc.specs.Trail.{before, IsShaped, IsMark, RefersBack}
use Rattle.uc_disc.specs.Standing.{IsLeafAt, IsFollowed}
use Rattle.uc_disc.proofs.Preorder.{Walking, supported_at, stands_next, fails_here, stands_skip, fails_cut, fails_skip, fails_both, taken}
use Rattle.uc_disc.proofs.walk.next_leaf.Goals as goal

module _ (ns : List Node) (ps : List Place) (deep : ℕ) (tree : IsShaped ps deep) (start bound i : ℕ) (at : List ℕ) (w : Walking ns ps start bound i at) (h : i < length ps) (d : Place) where
  abbrev p : Place
  p = get_or ps i d

  here : slice_get ps i ≡ Some p
  here = slice_get-get_or ps i d h

  mark : IsMark ps i p
  mark = tree.marks i p here

  skip_ahead : (i < p.skip) × (p.skip ≤ length ps)
  skip_ahead = (mark.ahead, mark.within)

  cut : bound ≤ p.least → Walking ns ps start bound p.skip at
  cut e = record {
    ahead = omega (arith, w.ahead, mark.ahead);
    within = mark.within;
    stands = stands_skip ps tree.supported ns at i p here p mark w.stands;
    fails = fails_both ns ps start i p.skip bound w.fails (fails_cut ps tree.supported ns at i p here p mark bound e);
  }

  back : RefersBack p.label p.depth
  back = (supported_at [] ps i p tree.supported here).1

  room : p.depth < deep
  room = tree.below i p here

  path_long : length (take p.depth (before ps i)) ≡ p.depth
  path_long = taken ps tree.supported i p here

  failed : (new : List ℕ) → ((r : ℕ) → p.label ≡ Leaf r → ⊥) → IsFollowed ns p.depth p.label at new false → Walking ns ps start bound p.skip new
  failed new other f = let P : List ℕ → Type 0 = Walking ns ps start bound p.skip in subst P (sym f.0) (record {
    ahead = omega (arith, w.ahead, mark.ahead);
    within = mark.within;
    stands = stands_skip ps tree.supported ns at i p here p mark w.stands;
    fails = fails_both ns ps start i p.skip bound w.fails (fails_skip ps tree.supported ns at i p here p mark bound other (f.1 (take p.depth (before ps i)) path_long (w.stands p here)));
  })

  followed : (new : List ℕ) → ((r : ℕ) → p.label ≡ Leaf r → ⊥) → IsFollowed ns p.depth p.label at new true → Walking ns ps start bound (i + 1) new
  followed new other f = record {
    ahead = omega (arith, w.ahead);
    within = omega arith;
    stands = stands_next ps tree.supported ns new i p here bound other (f (take p.depth (before ps i)) path_long (w.stands p here));
    fails = fails_both ns ps start i (i + 1) bound w.fails (fails_here ps tree.supported ns at i p here bound other);
  }

  is_leaf : (r : ℕ) → p.label ≡ Leaf r → IsLeafAt ns ps i
  is_leaf r e q g = (r, ap (λ (z : Place). z.label) (let same : q ≡ p = sym (get_or_from_slice_get ps i q d g) in same) ∙ e)

pub loop-i-preserved-then-places-i : goal.loop-i-preserved-then-places-i
loop-i-preserved-then-places-i c = (cut c.args.term.now c.args.places.now _ c.requires.tree c.args.start c.args.bound c.loop-i.i c.loop-i.at c.loop-i.invariant.0 (omega (arith, c.loop-i-test.true, c.requires.within.1)) (record { label = Variable 0; depth = 0; skip = 0; least = 0 }) c.if-places-i.true, c.loop-i.invariant.1)

pub returns-in-Leaf-clause-leaf : goal.returns-in-Leaf-clause-leaf
returns-in-Leaf-clause-leaf c h = is_leaf c.args.term.now c.args.places.now _ c.requires.tree c.args.start c.args.bound c.loop-i.i c.loop-i.at c.loop-i.invariant.0 (omega (arith, c.loop-i-test.true, c.requires.within.1)) (record { label = Variable 0; depth = 0; skip = 0; least = 0 }) c.in-Leaf.field-0 c.in-Leaf.is

pub follow-requires : goal.follow-requires
follow-requires c = record {
  whole = c.requires.whole;
  small = c.requires.small;
  room = omega (arith, c.loop-i.invariant.1, room c.args.term.now c.args.places.now _ c.requires.tree c.args.start c.args.bound c.loop-i.i c.loop-i.at c.loop-i.invariant.0 (omega (arith, c.loop-i-test.true, c.requires.within.1)) (record { label = Variable 0; depth = 0; skip = 0; least = 0 }));
  back = back c.args.term.now c.args.places.now _ c.requires.tree c.args.start c.args.bound c.loop-i.i c.loop-i.at c.loop-i.invariant.0 (omega (arith, c.loop-i-test.true, c.requires.within.1)) (record { label = Variable 0; depth = 0; skip = 0; least = 0 });
  label = c.in_default.not-Leaf;
}

pub loop-i-preserved-then-follow : goal.loop-i-preserved-then-follow
loop-i-preserved-then-follow c = (followed c.args.term.now c.args.places.now _ c.requires.tree c.args.start c.args.bound c.loop-i.i c.loop-i.at c.loop-i.invariant.0 (omega (arith, c.loop-i-test.true, c.requires.within.1)) (record { label = Variable 0; depth = 0; skip = 0; least = 0 }) c.follow.new.at c.in_default.not-Leaf (rw c.if-follow.true at c.follow.ensures.value), c.follow.ensures.long ∙ c.loop-i.invariant.1)

pub loop-i-preserved : goal.loop-i-preserved
loop-i-preserved c = (failed c.args.term.now c.args.places.now _ c.requires.tree c.args.start c.args.bound c.loop-i.i c.loop-i.at c.loop-i.invariant.0 (omega (arith, c.loop-i-test.true, c.requires.within.1)) (record { label = Variable 0; depth = 0; skip = 0; least = 0 }) c.follow.new.at c.in_default.not-Leaf (rw c.if-follow.false at c.follow.ensures.value), c.follow.ensures.long ∙ c.loop-i.invariant.1)

pub loop-i-smaller : goal.loop-i-smaller
loop-i-smaller c = omega (arith, c.loop-i-test.true, c.requires.within.1, skip_ahead c.args.term.now c.args.places.now _ c.requires.tree c.args.start c.args.bound c.loop-i.i c.loop-i.at c.loop-i.invariant.0 (omega (arith, c.loop-i-test.true, c.requires.within.1)) (record { label = Variable 0; depth = 0; skip = 0; least = 0 }))

pub returns-clause-leaf : goal.returns-clause-leaf
returns-clause-leaf c h = absurd (omega (arith, h, c.loop-i-test.false))
