-- Matches from walks, and that a match is determined by its pattern and its term.
use Rattle.std.proofs.Common.{◌≡◌, ℕ, List, [], ◌++◌, sym, ap, ◌∙◌}
use Rattle.uc_term.specs.Tree.{Tree}
use Rattle.uc_term.specs.Flat.{tree_of}
use Rattle.uc_term.specs.declared.node.Node.{Node}
use Rattle.uc_term.specs.Subst.{image, domain}
use Rattle.uc_term.specs.Variables.{variables, firsts, firsts_after}
use Rattle.uc_term.proofs.Firsts.{firsts-append}
use Rattle.uc_term.proofs.Pairs.{agrees_image}
use Rattle.uc_unify.specs.Matching.{IsMatchOfBoth}
use Rattle.uc_unify.specs.Extension.{Extends}

pub match_of_both : (lp lt rp rt : List Node) (none left both : List (ℕ × Tree)) → none ≡ [] → Extends (tree_of lp) (tree_of lt) none left → Extends (tree_of rp) (tree_of rt) left both → IsMatchOfBoth (tree_of lp) (tree_of lt) (tree_of rp) (tree_of rt) both
match_of_both lp lt rp rt none left both e a b =
    let r = b.only (image both) (agrees_image both) in
    let l = a.only (image both) r.0 in
    let start : domain none ≡ [] = ap domain e in
    let first : domain left ≡ firsts (variables (tree_of lp)) = a.pairs_are ∙ ap (λ d. d ++ firsts_after d (variables (tree_of lp))) start in
    record {
      left_gives = l.1;
      right_gives = r.1;
      pairs_are = b.pairs_are ∙ ap (λ d. d ++ firsts_after d (variables (tree_of rp))) first ∙ sym (firsts-append (variables (tree_of lp)) (variables (tree_of rp)));
    }
