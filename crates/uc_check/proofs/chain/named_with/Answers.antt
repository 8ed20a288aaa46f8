use Rattle.std.proofs.Common.{ap, sym, ◌∙◌, Some, inl, inr, refl, arith}
use Rattle.std.proofs.lemmas.Option.{slice_get-get_or, slice_get_within}
use Rattle.uc_check.proofs.chain.named_with.Goals as goal
use Rattle.uc_check.proofs.chain.named_with.Goals.{else-named-parents-via-then-named-parents+else-parents-named, else-named-parents-via-else-named-parents}

pub returns-then-is_among : goal.returns-then-is_among
returns-then-is_among c = inl (sym c.is_among.ensures ∙ c.if-is_among.true, refl)

pub returns-then-parents-named : goal.returns-then-parents-named
returns-then-parents-named c = inr (sym c.is_among.ensures ∙ c.if-is_among.false, slice_get-get_or c.args.parents.now c.args.named 0 c.if-named-parents.true ∙ ap Some c.if-parents-named.true, refl)

pub returns : goal.returns
returns c = (
  sym c.is_among.ensures ∙ c.if-is_among.false,
  λ e.
      elim c.else-named-parents.branch [
        | else-named-parents-via-then-named-parents+else-parents-named w ↦ absurd (w.if-parents-named.false (let p = slice_get-get_or c.args.parents.now c.args.named 0 w.if-named-parents.true in cc))
        | else-named-parents-via-else-named-parents w ↦ let i = slice_get_within c.args.parents.now c.args.named c.args.by e in absurd (omega (arith, w.if-named-parents.false))
      ],
)
