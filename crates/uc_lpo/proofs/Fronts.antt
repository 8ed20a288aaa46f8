-- What two lists of arguments have in front, and what is left of both.
use Rattle.std.proofs.Common.{◌≡◌, ◌≢◌, ◌↔◌, ℕ, ◌-◌, ◌≤◌, List, length, take, drop, map, refl, sym, ap, ◌∙◌, arith, ◌⊎◌, inl, inr}
use Rattle.uc_term.specs.declared.node.Sym.{Sym}
use Rattle.uc_term.specs.declared.node.Node.{Node}
use Rattle.uc_term.specs.Tree.{Tree, var, app, Trees, none, more}
use Rattle.uc_term.specs.Flat.{flat, flat_all, tree_of, IsWhole, trees_of}
use Rattle.uc_term.proofs.Ahead.{join}
use Rattle.uc_term.proofs.Terms.{trees_of-flat_all}
use Rattle.uc_term.proofs.Parts.{Split}
use Rattle.uc_lpo.specs.PathOrder.{PathOrder, SomeReaches, Exceeds}
use Rattle.uc_order.specs.VarOrders.{Classes, IsHigher, representative}
use Rattle.uc_lpo.specs.Ranks.{rank_of}
use Rattle.uc_lpo.specs.Higher.{higher_transitive, higher_irreflexive}
use Rattle.uc_lpo.specs.Shown.{shown, shown_all}
use Rattle.uc_order.specs.Renamed.{renamed_node}
use Rattle.uc_lpo.specs.Heads.{SameHead}
use Rattle.uc_lpo.proofs.Decide.{first_greater, first_not_greater, later_reaches, exceeds_later, turned, none_differ, over_later}
use Rattle.uc_lpo.specs.declared.compare.Rest.{Rest}
use Rattle.uc_lpo.specs.Rests.{Says, Goes}
use Rattle.uc_lpo.proofs.Rests.{joined}
use Rattle.uc_lpo.proofs.Steps.{tail_is, nothing_left}
use Rattle.uc_lpo.proofs.Shown.{shown_same, alike_length}

pub record Common (ss ts rs rt : Trees) : Type 0 where
  pub front : Trees
  pub left : ss ≡ join front rs
  pub right : ts ≡ join front rt

pub common_none : (ss ts : Trees) → Common ss ts ss ts
common_none ss ts = record { front = none; left = refl; right = refl }

join-snoc : (cs : Trees) (t : Tree) (rs : Trees) → join cs (more t rs) ≡ join (join cs (more t none)) rs
join-snoc none t rs = refl
join-snoc (more c cs) t rs = ap (more c) (join-snoc cs t rs)

pub common_more : (ss ts rs rt : Trees) (t : Tree) → Common ss ts (more t rs) (more t rt) → Common ss ts rs rt
common_more ss ts rs rt t c = record { front = join c.front (more t none); left = c.left ∙ join-snoc c.front t rs; right = c.right ∙ join-snoc c.front t rt }

pub record Heads (s t : List Node) : Type 0 where
  pub f : Sym
  pub left : tree_of s ≡ app f (trees_of (drop 1 s))
  pub right : tree_of t ≡ app f (trees_of (drop 1 t))

args_of : (ns : List Node) (f : Sym) (ts : Trees) → IsWhole ns → tree_of ns ≡ app f ts → tree_of ns ≡ app f (trees_of (drop 1 ns))
args_of ns f ts w e =
    let at : ns ≡ flat (app f ts) = sym w ∙ ap flat e in
    let rest : drop 1 ns ≡ flat_all ts = ap (drop 1) at in
    e ∙ ap (app f) (sym (ap trees_of rest ∙ trees_of-flat_all ts))

heads_at : (s t : List Node) (u v : Tree) → IsWhole s → IsWhole t → tree_of s ≡ u → tree_of t ≡ v → SameHead u v → Heads s t
heads_at s t (var x) v ws wt es et h = absurd h
heads_at s t (app f ss) (var y) ws wt es et h = absurd h
heads_at s t (app f ss) (app g ts) ws wt es et h = record { f = f; left = args_of s f ss ws es; right = args_of t f ts wt (et ∙ ap (λ (k : Sym). app k ts) (sym h)) }

pub heads : (s t : List Node) → IsWhole s → IsWhole t → SameHead (tree_of s) (tree_of t) → Heads s t
heads s t ws wt same = heads_at s t (tree_of s) (tree_of t) ws wt refl refl same

module _ (ranks : List ℕ) (classes : Classes) where
  abbrev rank : Sym → ℕ
  rank = rank_of ranks

  abbrev above : ℕ → ℕ → Type 0
  above = IsHigher classes

  abbrev represent : ℕ → ℕ
  represent = representative classes

  abbrev above_transitive : (x y z : ℕ) → above x y → above y z → above x z
  above_transitive = higher_transitive classes

  abbrev above_irreflexive : (x : ℕ) → above x x → ⊥
  above_irreflexive = higher_irreflexive classes

  abbrev rest : List Node → ℕ → Trees
  rest ns p = shown_all represent (trees_of (drop p ns))

  -- one level: what is left of the first arguments that differ, and of the terms
  pub level_says : (first rest_of : Rest) (f : Sym) (cs : Trees) (s t : Tree) (rs rt : Trees) → s ≢ t → Says ranks classes first (PathOrder rank above s t) → Goes ranks classes first rest_of (SomeReaches rank above rs (app f (join cs (more t rt)))) (Exceeds rank above (app f (join cs (more s rs))) rt) → Says ranks classes rest_of (PathOrder rank above (app f (join cs (more s rs))) (app f (join cs (more t rt))))
  level_says first rest_of f cs s t rs rt ne a g =
      let over = λ (l : PathOrder rank above s t). first_greater rank above above_transitive above_irreflexive f cs s t rs rt l in
      let under = λ (n : PathOrder rank above s t → ⊥). first_not_greater rank above above_transitive above_irreflexive f cs s t rs rt ne n in
      joined ranks classes first rest_of (PathOrder rank above s t) (SomeReaches rank above rs (app f (join cs (more t rt)))) (Exceeds rank above (app f (join cs (more s rs))) rt) (PathOrder rank above (app f (join cs (more s rs))) (app f (join cs (more t rt)))) a g
      (λ l. ((over l).1, (over l).0))
      (λ n. ((under n).1, (under n).0))
      (later_reaches rank above above_transitive above_irreflexive f cs s t rs rt ne)
      (exceeds_later rank above above_transitive above_irreflexive f cs s t rs rt ne)
      (turned rank above above_transitive above_irreflexive f cs s t rs rt ne)

  module _ (s t : List Node) (h : Heads s t) (from : ℕ) (c : Common (rest s 1) (rest t 1) (rest s from) (rest t from)) (P : Type 0) where
    module _ (s_end t_end : ℕ) (w : Split s from s_end) (v : Split t from t_end) where
      abbrev S : Tree
      S = shown represent (tree_of (take (s_end - from) (drop from s)))

      abbrev T : Tree
      T = shown represent (tree_of (take (t_end - from) (drop from t)))

      s_is : shown represent (tree_of s) ≡ app h.f (join c.front (more S (rest s s_end)))
      s_is = ap (shown represent) h.left ∙ ap (app h.f) (c.left ∙ ap (λ ts. join c.front (shown_all represent ts)) w.trees)

      t_is : shown represent (tree_of t) ≡ app h.f (join c.front (more T (rest t t_end)))
      t_is = ap (shown represent) h.right ∙ ap (app h.f) (c.right ∙ ap (λ ts. join c.front (shown_all represent ts)) v.trees)

      pub s_over : Exceeds rank above (shown represent (tree_of s)) (shown_all represent (trees_of (take (length s - s_end) (drop s_end s))))
      s_over = rw (tail_is s s_end, s_is) (over_later rank above above_transitive above_irreflexive h.f c.front S (rest s s_end))

      pub t_over : Exceeds rank above (shown represent (tree_of t)) (shown_all represent (trees_of (take (length t - t_end) (drop t_end t))))
      t_over = rw (tail_is t t_end, t_is) (over_later rank above above_transitive above_irreflexive h.f c.front T (rest t t_end))

      pub answer_first : (first rest_of : Rest) → S ≢ T → Says ranks classes first (PathOrder rank above S T) → Goes ranks classes first rest_of (SomeReaches rank above (shown_all represent (trees_of (take (length s - s_end) (drop s_end s)))) (shown represent (tree_of t))) (Exceeds rank above (shown represent (tree_of s)) (shown_all represent (trees_of (take (length t - t_end) (drop t_end t))))) → Says ranks classes rest_of (PathOrder rank above (shown represent (tree_of s)) (shown represent (tree_of t)))
      answer_first first rest_of ne a g =
          let g' : Goes ranks classes first rest_of (SomeReaches rank above (rest s s_end) (shown represent (tree_of t))) (Exceeds rank above (shown represent (tree_of s)) (rest t t_end)) = rw (tail_is s s_end, tail_is t t_end) at g in
          let g'' : Goes ranks classes first rest_of (SomeReaches rank above (rest s s_end) (app h.f (join c.front (more T (rest t t_end))))) (Exceeds rank above (app h.f (join c.front (more S (rest s s_end)))) (rest t t_end)) = rw (s_is, t_is) at g' in
          rw (s_is, t_is) (level_says first rest_of h.f c.front S T (rest s s_end) (rest t t_end) ne a g'')

      pub go_on : map (renamed_node represent) (take (s_end - from) (drop from s)) ≡ map (renamed_node represent) (take (t_end - from) (drop from t)) → (s_end ≤ length t) × Common (rest s 1) (rest t 1) (rest s s_end) (rest t s_end)
      go_on e =
          let ends : s_end ≡ t_end = omega (arith, alike_length represent _ _ e, w.some, v.some, w.within, v.within) in
          let same : S ≡ T = shown_same represent _ _ w.whole v.whole e in
          let trees : rest t from ≡ more S (rest t s_end) = ap (shown_all represent) v.trees ∙ ap (λ u. more u (rest t t_end)) (sym same) ∙ ap (λ k. more S (rest t k)) (sym ends) in
          (omega (arith, v.within), common_more _ _ _ _ S (record { front = c.front; left = c.left ∙ ap (λ ts. join c.front (shown_all represent ts)) w.trees; right = c.right ∙ ap (join c.front) trees }))

    pub answer_end : (length s ≤ from) ⊎ (length t ≤ from) → (P ↔ SomeReaches rank above (shown_all represent (trees_of (take (length s - from) (drop from s)))) (shown represent (tree_of t))) → P ↔ PathOrder rank above (shown represent (tree_of s)) (shown represent (tree_of t))
    answer_end over a =
        let none_of = λ (ns : List Node) (k : length ns ≤ from). ap (λ l. shown_all represent (trees_of l)) (nothing_left ns from k) in
        let d = none_differ rank above above_transitive above_irreflexive h.f c.front (rest s from) (rest t from) (elim over [ inl k ↦ inl (none_of s k) | inr k ↦ inr (none_of t k) ]) in
        let b : P ↔ SomeReaches rank above (rest s from) (shown represent (tree_of t)) = rw (tail_is s from) at a in
        let s_was : shown represent (tree_of s) ≡ app h.f (join c.front (rest s from)) = ap (shown represent) h.left ∙ ap (app h.f) c.left in
        let t_was : shown represent (tree_of t) ≡ app h.f (join c.front (rest t from)) = ap (shown represent) h.right ∙ ap (app h.f) c.right in
        let b' : P ↔ SomeReaches rank above (rest s from) (app h.f (join c.front (rest t from))) = rw t_was at b in
        rw (s_was, t_was) (λ p. d.1 (b'.0 p), λ k. b'.1 (d.0 k))
