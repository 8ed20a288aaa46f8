use Rattle.std.proofs.Common.{◌≡◌, ◌<◌, ◌⊎◌, inl, inr, ℕ, length, refl, slice_get, Some, sym, subst, arith}
use Rattle.std.proofs.lemmas.Option.{slice_get_read, slice_get_within}
use Rattle.uc_clause.specs.declared.clause.Sourced.{Sourced}
use Rattle.uc_check.specs.Lines.{SaysSame}
use Rattle.uc_unify.proofs.Decided.{never, always, not_of, of}
use Rattle.uc_check.proofs.file.is_clause.Goals as goal

here : (c : goal.Else-branch) → slice_get c.args.clauses.now c.loop-sourced.sourced-index ≡ Some c.sourced-item.result
here c = slice_get_read c.args.clauses.now (length c.args.clauses.now) c.loop-sourced.sourced-index c.sourced-item.result refl c.loop-sourced-test.true c.sourced-item.is

pub loop-sourced-preserved : goal.loop-sourced-preserved
loop-sourced-preserved c i s below at says = go order
  where
    order : (i < c.loop-sourced.sourced-index) ⊎ (c.loop-sourced.sourced-index ≡ i)
    order = grind arith

    go : (i < c.loop-sourced.sourced-index) ⊎ (c.loop-sourced.sourced-index ≡ i) → ⊥
    go (inl l) = c.loop-sourced.invariant i s l at says
    go (inr e) =
        let p = here c in
        let at' : slice_get c.args.clauses.now c.loop-sourced.sourced-index ≡ Some s = subst (λ (n : ℕ). slice_get c.args.clauses.now n ≡ Some s) (sym e) at in
        let same : s ≡ c.sourced-item.result = cc in
        not_of c.in_ok-says_same.field-0 c.if-branch.false c.in_ok-says_same.ensures (subst (λ (x : Sourced). SaysSame x.clause c.args.name.now c.args.line.now.positive c.args.line.now.left c.args.line.now.right) same says)

pub returns-then-branch : goal.returns-then-branch
returns-then-branch c = always (record {
  number = c.loop-sourced.sourced-index;
  sourced = c.sourced-item.result;
  sourced_is = slice_get_read c.args.clauses.now (length c.args.clauses.now) c.loop-sourced.sourced-index c.sourced-item.result refl c.loop-sourced-test.true c.sourced-item.is;
  same = of c.in_ok-says_same.field-0 c.if-branch.true c.in_ok-says_same.ensures;
})

pub returns : goal.returns
returns c = never (λ k.
    let inside = slice_get_within c.args.clauses.now k.number k.sourced k.sourced_is in
    c.loop-sourced.invariant k.number k.sourced (omega (arith, c.loop-sourced-test.false)) k.sourced_is k.same)
