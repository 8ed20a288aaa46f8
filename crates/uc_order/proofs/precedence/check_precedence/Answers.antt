use Rattle.std.proofs.Common.{inl, inr, ap, ◌∙◌, slice_index, ◌≡◌, List, ℕ}
use Rattle.uc_term.specs.declared.node.Sym.{Sym}
use Rattle.uc_order.specs.Members.{times}
use Rattle.uc_order.proofs.Counts.{none_is, present, absent, doubled, distinct}
use Rattle.uc_order.proofs.precedence.check_precedence.Goals as goal

counted : (fs : List Sym) (items now : List ℕ) → now ≡ items → ((f : Sym) → slice_index items f.0 ≡ times f fs) → (f : Sym) → slice_index now f.0 ≡ times f fs
counted fs items now e h f = ap (λ l. slice_index l f.0) e ∙ h f

pub returns-in-Some-clause-err : goal.returns-in-Some-clause-err
returns-in-Some-clause-err c =
    let h = counted c.args.signature.now c.in_ok-here.here.items c.deref.result.now c.deref.ensures.value c.in_ok-here.ensures in
    absent c.args.signature.now c.deref.result.now h c.args.precedence.now c.in-Some.f c.in-Some.ensures

pub returns-in-Some-first_twice-clause-err : goal.returns-in-Some-first_twice-clause-err
returns-in-Some-first_twice-clause-err c =
    let h = counted c.args.signature.now c.in_ok-here.here.items c.deref.result.now c.deref.ensures.value c.in_ok-here.ensures in
    let k = counted c.args.precedence.now c.in_ok-there.there.items c.deref-2.result.now c.deref-2.ensures.value c.in_ok-there.ensures in
    (present c.args.signature.now c.deref.result.now h c.args.precedence.now (none_is _ _ c.first_absent.result c.first_absent.ensures c.in_default.not-Some), inl (doubled c.args.precedence.now c.deref-2.result.now k c.in-Some-first_twice.f c.in-Some-first_twice.ensures))

pub returns-in-Some-first_absent-clause-err : goal.returns-in-Some-first_absent-clause-err
returns-in-Some-first_absent-clause-err c =
    let h = counted c.args.signature.now c.in_ok-here.here.items c.deref.result.now c.deref.ensures.value c.in_ok-here.ensures in
    let k = counted c.args.precedence.now c.in_ok-there.there.items c.deref-2.result.now c.deref-2.ensures.value c.in_ok-there.ensures in
    let l = counted c.args.precedence.now c.in_ok-there.there.items c.deref-3.result.now c.deref-3.ensures.value c.in_ok-there.ensures in (
      present c.args.signature.now c.deref.result.now h c.args.precedence.now (none_is _ _ c.first_absent.result c.first_absent.ensures c.in_default.not-Some),
      inr (
        distinct c.args.precedence.now c.deref-2.result.now k (none_is _ _ c.first_twice.result c.first_twice.ensures c.in_default-first_twice.not-Some),
        absent c.args.precedence.now c.deref-3.result.now l c.args.signature.now c.in-Some-first_absent.f c.in-Some-first_absent.ensures,
      ),
    )

pub returns-clause-ok : goal.returns-clause-ok
returns-clause-ok c =
    let h = counted c.args.signature.now c.in_ok-here.here.items c.deref.result.now c.deref.ensures.value c.in_ok-here.ensures in
    let k = counted c.args.precedence.now c.in_ok-there.there.items c.deref-2.result.now c.deref-2.ensures.value c.in_ok-there.ensures in
    let l = counted c.args.precedence.now c.in_ok-there.there.items c.deref-3.result.now c.deref-3.ensures.value c.in_ok-there.ensures in (
      present c.args.signature.now c.deref.result.now h c.args.precedence.now (none_is _ _ c.first_absent.result c.first_absent.ensures c.in_default.not-Some),
      distinct c.args.precedence.now c.deref-2.result.now k (none_is _ _ c.first_twice.result c.first_twice.ensures c.in_default-first_twice.not-Some),
      present c.args.precedence.now c.deref-3.result.now l c.args.signature.now (none_is _ _ c.first_absent-2.result c.first_absent-2.ensures c.in_default-first_absent.not-Some),
    )
