-- A scan passes a head and goes on with its arguments.
use Rattle.std.proofs.Common.{◌≡◌, ◌≢◌, ◌↔◌, ℕ, ◌+◌, ◌<◌, List, [], ◌∷◌, ◌++◌, length, take, drop, get_or, refl, sym, ap, ◌∙◌, arith, ◌⊎◌, inl, inr}
use Rattle.std.proofs.lemmas.List.{take-append-drop}
use Rattle.uc_term.specs.declared.node.Sym.{Sym}
use Rattle.uc_term.specs.declared.node.Node.{Node}
use Rattle.uc_term.specs.declared.node.Node.TheVariants.{Var, App}
use Rattle.uc_term.specs.Tree.{Tree, app, Trees, none, more, of_list}
use Rattle.uc_term.specs.Flat.{tree_of, trees_of, spelled, IsWhole}
use Rattle.uc_term.proofs.Ahead.{join, drop-at}
use Rattle.uc_term.proofs.Parts.{head_app, head_var}
use Rattle.uc_lpo.specs.PathOrder.{PathOrder, SomeReaches, is_it, is_greater, a_later, Exceeds, no_more, one_more}
use Rattle.uc_order.specs.VarOrders.{Classes, IsHigher, representative}
use Rattle.uc_lpo.specs.Ranks.{rank_of}
use Rattle.uc_lpo.specs.Higher.{higher_transitive, higher_irreflexive}
use Rattle.uc_lpo.specs.Shown.{shown, shown_all}
use Rattle.uc_lpo.specs.Heads.{IsLower, IsPassed}
use Rattle.uc_lpo.proofs.Decide.{Exceeds-join, exceeds_end, front_reaches, head_greater, head_other, over_var, reach_cases}

pub join-of_list : (ts us : List Tree) → join (of_list ts) (of_list us) ≡ of_list (ts ++ us)
join-of_list [] us = refl
join-of_list (t ∷ ts) us = ap (more t) (join-of_list ts us)

-- a head with its arguments, and what is behind them
pub record Headed (ns : List Node) (p : ℕ) (f : Sym) : Type 0 where
  pub args : Trees
  pub rest : Trees
  pub whole : trees_of (drop p ns) ≡ more (app f args) rest
  pub opened : trees_of (drop (p + 1) ns) ≡ join args rest

pub headed : (ns : List Node) (p : ℕ) (d : Node) (f : Sym) (n : ℕ) → p < length ns → get_or ns p d ≡ App f n → Headed ns p f
headed ns p d f n h e =
    let at : drop p ns ≡ App f n ∷ drop (p + 1) ns = drop-at ns p d h ∙ ap (λ m. m ∷ drop (p + 1) ns) e in
    let l = spelled (drop (p + 1) ns) in
    record {
      args = of_list (take n l);
      rest = of_list (drop n l);
      whole = ap trees_of at;
      opened = ap of_list (sym (take-append-drop n l)) ∙ sym (join-of_list (take n l) (drop n l));
    }

pub shown_all-join : (represent : ℕ → ℕ) (ts us : Trees) → shown_all represent (join ts us) ≡ join (shown_all represent ts) (shown_all represent us)
shown_all-join represent none us = refl
shown_all-join represent (more t ts) us = ap (more (shown represent t)) (shown_all-join represent ts us)

module _ (ranks : List ℕ) (classes : Classes) where
  abbrev rank : Sym → ℕ
  rank = rank_of ranks

  abbrev above : ℕ → ℕ → Type 0
  above = IsHigher classes

  abbrev represent : ℕ → ℕ
  represent = representative classes

  abbrev above_transitive : (x y z : ℕ) → above x y → above y z → above x z
  above_transitive = higher_transitive classes

  abbrev above_irreflexive : (x : ℕ) → above x x → ⊥
  above_irreflexive = higher_irreflexive classes

  exceeds_front : (s : Tree) (cs rs : Trees) → Exceeds rank above s (join cs rs) → Exceeds rank above s cs
  exceeds_front s none rs e = no_more
  exceeds_front s (more c cs) rs (one_more l e) = one_more l (exceeds_front s cs rs e)

  exceeds_both : {s t : Tree} {ts : Trees} → Exceeds rank above s (more t ts) → PathOrder rank above s t × Exceeds rank above s ts
  exceeds_both (one_more l e) = (l, e)

  exceeds_open : (f g : Sym) (ss us rest : Trees) → rank g < rank f → Exceeds rank above (app f ss) (more (app g us) rest) ↔ Exceeds rank above (app f ss) (join us rest)
  exceeds_open f g ss us rest r =
      let h = head_greater rank above above_transitive above_irreflexive f g ss us r in (
        λ e. let b = exceeds_both e in Exceeds-join rank above above_transitive above_irreflexive (app f ss) us rest (h.0 b.0) b.1,
        λ e. one_more (h.1 (exceeds_front (app f ss) us rest e)) (exceeds_end rank above above_transitive above_irreflexive (app f ss) us rest e),
      )

  reach_split : (us rest : Trees) (t : Tree) → SomeReaches rank above (join us rest) t → SomeReaches rank above us t ⊎ SomeReaches rank above rest t
  reach_split none rest t p = inr p
  reach_split (more u us) rest t is_it = inl is_it
  reach_split (more u us) rest t (is_greater l) = inl (is_greater l)
  reach_split (more u us) rest t (a_later p) = elim (reach_split us rest t p) [ inl q ↦ inl (a_later q) | inr q ↦ inr q ]

  rest_reaches : (us rest : Trees) (t : Tree) → SomeReaches rank above rest t → SomeReaches rank above (join us rest) t
  rest_reaches none rest t p = p
  rest_reaches (more u us) rest t p = a_later (rest_reaches us rest t p)

  reach_open : (f : Sym) (us rest : Trees) (t : Tree) → app f us ≢ t → PathOrder rank above (app f us) t ↔ SomeReaches rank above us t → SomeReaches rank above (more (app f us) rest) t ↔ SomeReaches rank above (join us rest) t
  reach_open f us rest t ne h = (
    λ p. elim (reach_cases rank above above_transitive above_irreflexive p) [ inl e ↦ absurd (ne e) | inr (inl l) ↦ front_reaches rank above above_transitive above_irreflexive us rest t (h.0 l) | inr (inr q) ↦ rest_reaches us rest t q ],
    λ p. elim (reach_split us rest t p) [ inl q ↦ is_greater (h.1 q) | inr q ↦ a_later q ],
  )

  -- the two scans, over flat lists
  lower_heads : (n m : Node) → IsLower rank n m → (g f : Sym) × (k : ℕ) × (j : ℕ) × (n ≡ App g k) × (m ≡ App f j) × (rank g < rank f)
  lower_heads (App g k) (App f j) h = (g, f, k, j, refl, refl, h)
  lower_heads (App g k) (Var x) h = absurd h
  lower_heads (Var y) m h = absurd h

  pub pass_exceeds : (s ns : List Node) (p : ℕ) (d e : Node) → IsWhole s → 0 < length s → p < length ns → IsLower rank (get_or ns p d) (get_or s 0 e) → Exceeds rank above (shown represent (tree_of s)) (shown_all represent (trees_of (drop p ns))) ↔ Exceeds rank above (shown represent (tree_of s)) (shown_all represent (trees_of (drop (p + 1) ns)))
  pass_exceeds s ns p d e w some h low = go (lower_heads (get_or ns p d) (get_or s 0 e) low)
    where
      go : ((g f : Sym) × (k : ℕ) × (j : ℕ) × (get_or ns p d ≡ App g k) × (get_or s 0 e ≡ App f j) × (rank g < rank f)) → Exceeds rank above (shown represent (tree_of s)) (shown_all represent (trees_of (drop p ns))) ↔ Exceeds rank above (shown represent (tree_of s)) (shown_all represent (trees_of (drop (p + 1) ns)))
      go (g, f, k, j, n, m, r) =
          let o = headed ns p d g k h n in
          let t = head_app s f j e m some w in
          rw (t, o.whole, o.opened, shown_all-join represent o.args o.rest) (exceeds_open f g (shown_all represent (trees_of (drop 1 s))) (shown_all represent o.args) (shown_all represent o.rest) r)

  passed_by : (t : List Node) (e : Node) (f : Sym) (us : Trees) (k : ℕ) → IsWhole t → 0 < length t → (m : Node) → get_or t 0 e ≡ m → IsPassed rank (App f k) m → (app f us ≢ shown represent (tree_of t)) × (PathOrder rank above (app f us) (shown represent (tree_of t)) ↔ SomeReaches rank above us (shown represent (tree_of t)))
  passed_by t e f us k w some (Var x) is h =
      let q = head_var t x e is some in
      rw q (λ z. cc, over_var rank above above_transitive above_irreflexive f us (represent x))
  passed_by t e f us k w some (App g j) is h =
      let q = head_app t g j e is some w in
      let ne : f ≢ g = λ z. omega (arith, h, ap rank z) in
      rw q (λ z. ne cc, head_other rank above above_transitive above_irreflexive f g us (shown_all represent (trees_of (drop 1 t))) ne (λ r. omega (arith, r, h)))

  pub pass_reaches : (t ns : List Node) (p : ℕ) (d e : Node) → IsWhole t → 0 < length t → p < length ns → IsPassed rank (get_or ns p d) (get_or t 0 e) → SomeReaches rank above (shown_all represent (trees_of (drop p ns))) (shown represent (tree_of t)) ↔ SomeReaches rank above (shown_all represent (trees_of (drop (p + 1) ns))) (shown represent (tree_of t))
  pass_reaches t ns p d e w some h low = go (get_or ns p d) refl low
    where
      go : (n : Node) → get_or ns p d ≡ n → IsPassed rank n (get_or t 0 e) → SomeReaches rank above (shown_all represent (trees_of (drop p ns))) (shown represent (tree_of t)) ↔ SomeReaches rank above (shown_all represent (trees_of (drop (p + 1) ns))) (shown represent (tree_of t))
      go (Var y) n q = absurd q
      go (App f k) n q =
          let o = headed ns p d f k h n in
          let b = passed_by t e f (shown_all represent o.args) k w some (get_or t 0 e) refl q in
          rw (o.whole, o.opened, shown_all-join represent o.args o.rest) (reach_open f (shown_all represent o.args) (shown_all represent o.rest) (shown represent (tree_of t)) b.0 b.1)
