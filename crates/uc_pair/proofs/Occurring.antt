-- Which variables occur in a flat list.
use Rattle.std.proofs.Common.{◌≡◌, ℕ, ◌+◌, ◌<◌, ◌≤◌, ◌==◌, ◌||◌, Bool, true, false, List, [], ◌∷◌, length, take, drop, get_or, refl, sym, ap, ◌∙◌, ◌⊎◌, inl, inr}
use Rattle.std.proofs.lemmas.Bool.{eqb-true, eq-eqb}
use Rattle.std.proofs.lemmas.List.{take_more, take-append-drop}
use Rattle.uc_term.specs.declared.node.Node.{Node}
use Rattle.uc_term.specs.declared.node.Node.TheVariants.{Var, App}
use Rattle.uc_term.specs.Tree.{Tree}
use Rattle.uc_term.specs.Flat.{tree_of, IsWhole}
use Rattle.uc_term.specs.Variables.{Occurs, variables, is_among}
use Rattle.uc_term.proofs.Terms.{take_of_length-le}
use Rattle.uc_term.proofs.Firsts.{is_among-append}
use Rattle.uc_term.proofs.NodeVars.{node_vars, node_vars-append, node_vars-flat}
use Rattle.uc_fact.proofs.Occurring.{occurs, among, either}

among_nodes : (ns : List Node) (x : ℕ) → IsWhole ns → is_among x (node_vars ns) ≡ is_among x (variables (tree_of ns))
among_nodes ns x w = ap (λ l. is_among x (node_vars l)) (sym w) ∙ ap (is_among x) (node_vars-flat (tree_of ns))

module _ (ns : List Node) (i x : ℕ) (d : Node) (h : i < length ns) where
  one_more : is_among x (node_vars (take (i + 1) ns)) ≡ (is_among x (node_vars (take i ns)) || is_among x (node_vars (get_or ns i d ∷ [])))
  one_more = ap (λ l. is_among x (node_vars l)) (take_more ns i d h) ∙ ap (is_among x) (node_vars-append (take i ns) (get_or ns i d ∷ [])) ∙ is_among-append x (node_vars (take i ns)) (node_vars (get_or ns i d ∷ []))

  pub none_more : (get_or ns i d ≡ Var x → ⊥) → is_among x (node_vars (take i ns)) ≡ false → is_among x (node_vars (take (i + 1) ns)) ≡ false
  none_more n e = one_more ∙ go (is_among x (node_vars (take i ns))) e (get_or ns i d) n
    where
      lone : (b : Bool) → (b ≡ true → ⊥) → (b || false) ≡ false
      lone true k = absurd (k refl)
      lone false k = refl

      here : (m : Node) → (m ≡ Var x → ⊥) → is_among x (node_vars (m ∷ [])) ≡ false
      here (Var y) k = lone (x == y) (λ t. k (ap Var (sym (eqb-true x y t))))
      here (App f n) k = refl

      go : (a : Bool) → a ≡ false → (m : Node) → (m ≡ Var x → ⊥) → (a || is_among x (node_vars (m ∷ []))) ≡ false
      go true z m k = absurd cc
      go false z m k = here m k

  pub seen_here : get_or ns i d ≡ Var x → IsWhole ns → Occurs x (tree_of ns)
  seen_here e w = occurs x (tree_of ns) (sym (among_nodes ns x w) ∙ whole)
    where
      right : (a b : Bool) → b ≡ true → (a || b) ≡ true
      right true b z = refl
      right false b z = z

      left : (a b : Bool) → a ≡ true → (a || b) ≡ true
      left true b z = refl
      left false b z = absurd cc

      here : is_among x (node_vars (take (i + 1) ns)) ≡ true
      here = one_more ∙ right (is_among x (node_vars (take i ns))) (is_among x (node_vars (get_or ns i d ∷ []))) (ap (λ m. is_among x (node_vars (m ∷ []))) e ∙ left (x == x) false (eq-eqb x x refl))

      whole : is_among x (node_vars ns) ≡ true
      whole = ap (λ l. is_among x (node_vars l)) (sym (take-append-drop (i + 1) ns)) ∙ ap (is_among x) (node_vars-append (take (i + 1) ns) (drop (i + 1) ns)) ∙ is_among-append x (node_vars (take (i + 1) ns)) (node_vars (drop (i + 1) ns)) ∙ left (is_among x (node_vars (take (i + 1) ns))) (is_among x (node_vars (drop (i + 1) ns))) here

pub none_at_end : (ns : List Node) (i x : ℕ) → IsWhole ns → length ns ≤ i → is_among x (node_vars (take i ns)) ≡ false → Occurs x (tree_of ns) → ⊥
none_at_end ns i x w h e o =
    let both : true ≡ false = sym (among x (tree_of ns) o) ∙ sym (among_nodes ns x w) ∙ ap (λ l. is_among x (node_vars l)) (sym (take_of_length-le ns i h)) ∙ e in
    cc

-- all variables so far occur in a term
abbrev pub AllOccur : List ℕ → Tree → Type 0
AllOccur xs t = (x : ℕ) → is_among x xs ≡ true → Occurs x t

pub all_more : (ns : List Node) (i : ℕ) (d : Node) (t : Tree) → i < length ns → ((x : ℕ) → get_or ns i d ≡ Var x → Occurs x t) → AllOccur (node_vars (take i ns)) t → AllOccur (node_vars (take (i + 1) ns)) t
all_more ns i d t h one all x e = go (either (is_among x (node_vars (take i ns))) (is_among x (node_vars (get_or ns i d ∷ []))) (sym (one_more ns i x d h) ∙ e))
  where
    here : (m : Node) → get_or ns i d ≡ m → is_among x (node_vars (m ∷ [])) ≡ true → Occurs x t
    here (Var y) z k = go' (either (x == y) false k)
      where
        go' : ((x == y) ≡ true) ⊎ (false ≡ true) → Occurs x t
        go' (inl q) = one x (z ∙ ap Var (sym (eqb-true x y q)))
        go' (inr q) = absurd cc
    here (App f n) z k = absurd cc

    go : (is_among x (node_vars (take i ns)) ≡ true) ⊎ (is_among x (node_vars (get_or ns i d ∷ [])) ≡ true) → Occurs x t
    go (inl a) = all x a
    go (inr a) = here (get_or ns i d) refl a

pub all_at_end : (ns : List Node) (i : ℕ) (s t : Tree) → IsWhole ns → tree_of ns ≡ s → length ns ≤ i → AllOccur (node_vars (take i ns)) t → (x : ℕ) → Occurs x s → Occurs x t
all_at_end ns i s t w is h all x o =
    all x (ap (λ l. is_among x (node_vars l)) (take_of_length-le ns i h) ∙ among_nodes ns x w ∙ ap (λ u. is_among x (variables u)) is ∙ among x s o)
