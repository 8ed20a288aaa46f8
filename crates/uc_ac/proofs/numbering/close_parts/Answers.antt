use Rattle.std.proofs.Common.{◌++◌, List, ℕ, ap, ◌∙◌, Some}
use Rattle.std.proofs.lemmas.List.Sorted.{IsNonDecreasingBy-from_sort}
use Rattle.uc_order.specs.Laws.{pair_of}
use Rattle.uc_ac.proofs.Sorting.{reordered}
use Rattle.uc_ac.proofs.OneClass.{kept_parts}
use Rattle.uc_ac.proofs.Reading.{sorted_class}
use Rattle.uc_ac.proofs.numbering.close_parts.Goals as goal

pub returns-clause-number : goal.returns-clause-number
returns-clause-number c symbols a b i p =
    let ks = c.args.numbers.items in
    let js = c.sort_unstable.new.self.items in
    let old = c.args.classes.now in
    let new = c.insert.new.self in
    let written = c.in_ok-append.ensures.items ∙ ap (λ (l : List ℕ). l ++ js) c.in_ok-class.ensures.items in
    sorted_class symbols new c.args.f c.in_ok-number.number ks js a b i (kept_parts symbols old new c.in_ok-number.ensures.grown c.args.f ks (pair_of c.args.f a b) p) (reordered ks js c.sort_unstable.ensures.permutation) (IsNonDecreasingBy-from_sort (λ (x : ℕ). x) js c.sort_unstable.ensures.sorted) (c.in_ok-number.ensures.number ∙ ap Some written)
