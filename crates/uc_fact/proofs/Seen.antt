-- Variables that stand in a list of nodes.
use Rattle.std.proofs.Common.{◌≡◌, ◌+◌, ◌<◌, ◌||◌, ◌==◌, ℕ, Bool, true, false, List, [], ◌∷◌, length, take, drop, get_or, refl, sym, ap, ◌∙◌}
use Rattle.std.proofs.lemmas.Bool.{eq-eqb}
use Rattle.std.proofs.lemmas.List.{take_more, take-append-drop}
use Rattle.uc_term.specs.declared.node.Node.{Node}
use Rattle.uc_term.specs.declared.node.Node.TheVariants.{Var}
use Rattle.uc_term.specs.Flat.{tree_of, IsWhole}
use Rattle.uc_term.specs.Variables.{Occurs, is_among}
use Rattle.uc_term.proofs.Firsts.{is_among-append}
use Rattle.uc_term.proofs.NodeVars.{node_vars, node_vars-append, node_vars-flat}
use Rattle.uc_fact.proofs.Occurring.{occurs}

-- a variable of a list of nodes occurs in its term
pub seen : (ns : List Node) (i x : ℕ) (d : Node) → i < length ns → get_or ns i d ≡ Var x → IsWhole ns → Occurs x (tree_of ns)
seen ns i x d h e w = occurs x (tree_of ns) (sym (ap (λ l. is_among x (node_vars l)) (sym w) ∙ ap (is_among x) (node_vars-flat (tree_of ns))) ∙ whole)
  where
    right : (a b : Bool) → b ≡ true → (a || b) ≡ true
    right true b z = refl
    right false b z = z

    left : (a b : Bool) → a ≡ true → (a || b) ≡ true
    left true b z = refl
    left false b z = absurd cc

    here : is_among x (node_vars (take (i + 1) ns)) ≡ true
    here = ap (λ l. is_among x (node_vars l)) (take_more ns i d h) ∙ ap (is_among x) (node_vars-append (take i ns) (get_or ns i d ∷ [])) ∙ is_among-append x (node_vars (take i ns)) (node_vars (get_or ns i d ∷ []))
        ∙ right (is_among x (node_vars (take i ns))) (is_among x (node_vars (get_or ns i d ∷ []))) (ap (λ m. is_among x (node_vars (m ∷ []))) e ∙ left (x == x) false (eq-eqb x x refl))

    whole : is_among x (node_vars ns) ≡ true
    whole = ap (λ l. is_among x (node_vars l)) (sym (take-append-drop (i + 1) ns)) ∙ ap (is_among x) (node_vars-append (take (i + 1) ns) (drop (i + 1) ns)) ∙ is_among-append x (node_vars (take (i + 1) ns)) (node_vars (drop (i + 1) ns)) ∙ left (is_among x (node_vars (take (i + 1) ns))) (is_among x (node_vars (drop (i + 1) ns))) here
