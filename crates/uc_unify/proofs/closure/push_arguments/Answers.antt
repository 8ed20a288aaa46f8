use Rattle.std.proofs.Common.{◌≡◌, ℕ, suc, ◌+◌, ◌-◌, ◌<◌, List, [], ◌∷◌, ◌++◌, refl, sym, ap, ◌∙◌, subst, arith, append_assoc, length, get_or}
use Rattle.uc_term.specs.declared.node.Node.{Node}
use Rattle.uc_term.specs.Flat.{AreWhole}
use Rattle.uc_unify.specs.Closure.{next, pairs_from, AreEnds}
use Rattle.uc_unify.proofs.Fitting.{Fits, fits_place, fits_next, fits_args}
use Rattle.uc_unify.proofs.closure.push_arguments.Goals as goal

more_left : (n i : ℕ) → i < n → n - i ≡ suc (n - (i + 1))
more_left n i h = omega arith

here : (ns : List Node) (w : AreWhole ns) (p n i : ℕ) → i < n → Fits ns p (n - i) → Fits ns p (suc (n - (i + 1)))
here ns w p n i h f = rw (more_left n i h) at f

on : (ns : List Node) (w : AreWhole ns) (p e n i : ℕ) → i < n → Fits ns p (n - i) → e ≡ next ns p → Fits ns e (n - (i + 1))
on ns w p e n i h f q = subst (λ (r : ℕ). Fits ns r (n - (i + 1))) (sym q) (fits_next ns w p (n - (i + 1)) (here ns w p n i h f))

so_far : (ns : List Node) (p q e r n i : ℕ) (now new all : List (ℕ × ℕ)) → i < n → now ++ pairs_from ns p q (n - i) ≡ all → new ≡ now ++ (p, q) ∷ [] → e ≡ next ns p → r ≡ next ns q → new ++ pairs_from ns e r (n - (i + 1)) ≡ all
so_far ns p q e r n i now new all h k is a b =
    rw (is, a, b) (append_assoc now ((p, q) ∷ []) (pairs_from ns (next ns p) (next ns q) (n - (i + 1))) ∙ ap (λ m. now ++ pairs_from ns p q m) (sym (more_left n i h)) ∙ k)

pub loop-init : goal.loop-init
loop-init c =
    let n : c.args.count - 0 ≡ c.args.count = omega arith in
    record {
      left = rw n (fits_args c.args.nodes.now c.requires.whole c.args.a c.args.count c.requires.left);
      right = rw n (fits_args c.args.nodes.now c.requires.whole c.args.b c.args.count c.requires.right);
      so_far = rw n refl;
    }

-- both ends are read within the list
inside : (ns : List Node) (w : AreWhole ns) (ends : List ℕ) → AreEnds ns ends → (p n i : ℕ) → i < n → Fits ns p (n - i) → p < length ns
inside ns w ends e p n i h f = fits_place ns w p (n - (i + 1)) (here ns w p n i h f)

pub bounds-ends-p : goal.bounds-ends-p
bounds-ends-p c = let h = inside c.args.nodes.now c.requires.whole c.args.ends.now c.requires.ends c.loop.p c.args.count c.loop.counter c.loop-test.true c.loop.invariant.left in omega (arith, c.requires.ends.long)

pub bounds-ends-q : goal.bounds-ends-q
bounds-ends-q c = let h = inside c.args.nodes.now c.requires.whole c.args.ends.now c.requires.ends c.loop.q c.args.count c.loop.counter c.loop-test.true c.loop.invariant.right in omega (arith, c.requires.ends.long)

pub loop-preserved : goal.loop-preserved
loop-preserved c =
    let p_end = c.requires.ends.ends_are c.loop.p (omega arith) (inside c.args.nodes.now c.requires.whole c.args.ends.now c.requires.ends c.loop.p c.args.count c.loop.counter c.loop-test.true c.loop.invariant.left) in
    let q_end = c.requires.ends.ends_are c.loop.q (omega arith) (inside c.args.nodes.now c.requires.whole c.args.ends.now c.requires.ends c.loop.q c.args.count c.loop.counter c.loop-test.true c.loop.invariant.right) in
    record {
      left = on c.args.nodes.now c.requires.whole c.loop.p (get_or c.args.ends.now c.loop.p 0) c.args.count c.loop.counter c.loop-test.true c.loop.invariant.left p_end;
      right = on c.args.nodes.now c.requires.whole c.loop.q (get_or c.args.ends.now c.loop.q 0) c.args.count c.loop.counter c.loop-test.true c.loop.invariant.right q_end;
      so_far = so_far c.args.nodes.now c.loop.p c.loop.q (get_or c.args.ends.now c.loop.p 0) (get_or c.args.ends.now c.loop.q 0) c.args.count c.loop.counter c.loop.pairs.items c.push.new.self.items _ c.loop-test.true c.loop.invariant.so_far c.in_ok-push.ensures.items p_end q_end;
    }
