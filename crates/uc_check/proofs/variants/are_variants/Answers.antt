use Rattle.std.proofs.Common.{refl}
use Rattle.uc_term.specs.Subst.{image}
use Rattle.uc_check.proofs.Renaming.{variants_of}
use Rattle.uc_check.proofs.variants.are_variants.Goals as goal

pub returns : goal.returns
returns c =
    let forth = rw c.in-Some.is at c.in_ok-matches_both.ensures in
    let back = rw c.in-Some-2.is at c.in_ok-matches_both-in-Some.ensures in
    (λ _. variants_of _ _ _ _ (image c.in-Some.field-0) (image c.in-Some-2.field-0) forth.left_gives forth.right_gives back.left_gives back.right_gives, λ _. refl)
