-- What bindings are once nodes, or a binding, are added.
use Rattle.std.proofs.Common.{◌≡◌, ℕ, zero, suc, ◌==◌, ◌+◌, ◌-◌, ◌<◌, ◌≤◌, List, [], ◌∷◌, ◌++◌, length, take, drop, slice_get, get_or, Some, None, Bool, true, false, if◌then◌else◌, refl, sym, ap, ◌∙◌, arith, inl, inr, ◌⊎◌, length-append, length-drop}
use Rattle.std.proofs.lemmas.List.{take-append-le, drop-append-le, map-append}
use Rattle.std.proofs.Math.Seq.{drop-append_seam}
use Rattle.std.proofs.lemmas.Option.{slice_get-get_or, get_or_from_slice_get, slice_get_within}
use Rattle.std.proofs.lemmas.Bool.{eq-eqb, eqb-true}
use Rattle.uc_term.specs.declared.node.Node.{Node}
use Rattle.uc_term.specs.declared.subst.Binding.{Binding}
use Rattle.uc_term.specs.Tree.{Tree}
use Rattle.uc_term.specs.Flat.{flat, tree_of, IsWhole}
use Rattle.uc_term.specs.Subst.{found, Moves, IsIdempotent}
use Rattle.uc_term.specs.Bindings.{part_of, pair_of, pairs_of, IsBinding, AreBindings, IsTermOf}
use Rattle.uc_term.proofs.Gets.{get_pushed, get-map, map-get}

module _ (ns more : List Node) where
  part_kept : (b : Binding) → IsBinding ns b → part_of (ns ++ more) b ≡ part_of ns b
  part_kept b h =
      let inside = h.inside in
      ap (take (b.end - b.start)) (drop-append-le b.start ns more (let o = h.ordered in omega arith))
      ∙ take-append-le (b.end - b.start) (drop b.start ns) more (omega (arith, length-drop b.start ns))

  binding_kept : (b : Binding) → IsBinding ns b → IsBinding (ns ++ more) b
  binding_kept b h = record {
    ordered = h.ordered;
    inside = let i = h.inside in omega (arith, length-append ns more);
    whole = rw (part_kept b h) h.whole;
    short = rw (part_kept b h) h.short;
  }

  pub bindings_kept : (bs : List Binding) → AreBindings ns bs → AreBindings (ns ++ more) bs
  bindings_kept bs all i b e = binding_kept b (all i b e)

  pub pairs_kept : (bs : List Binding) → AreBindings ns bs → pairs_of (ns ++ more) bs ≡ pairs_of ns bs
  pairs_kept [] all = refl
  pairs_kept (b ∷ bs) all =
      let here : pair_of (ns ++ more) b ≡ pair_of ns b = ap (λ part. (b.variable, tree_of part)) (part_kept b (all 0 b refl)) in
      let rest = pairs_kept bs (λ i c e. all (suc i) c e) in
      rw (here, rest) refl

-- a term that is added behind the other ones
module _ (ns term : List Node) (b : Binding) (starts : b.start ≡ length ns) (ends : b.end ≡ length (ns ++ term)) where
  part_added : part_of (ns ++ term) b ≡ term
  part_added =
      let long : length (ns ++ term) - length ns ≡ length term = omega (arith, length-append ns term) in
      rw (starts, ends, long, drop-append_seam ns term) (take_all term)
    where
      take_all : (l : List Node) → take (length l) l ≡ l
      take_all [] = refl
      take_all (n ∷ l) = ap (λ m. n ∷ m) (take_all l)

  pub bindings_added : (bs : List Binding) → AreBindings ns bs → IsWhole term → length term ≤ 4096 → AreBindings (ns ++ term) (bs ++ b ∷ [])
  bindings_added bs all w s i c e = go (get_pushed bs b i c e)
    where
      go : (slice_get bs i ≡ Some c) ⊎ ((i ≡ length bs) × (c ≡ b)) → IsBinding (ns ++ term) c
      go (inl h) = bindings_kept ns term bs all i c h
      go (inr h) = rw h.1 (record {
        ordered = omega (arith, starts, ends, length-append ns term);
        inside = omega (arith, ends);
        whole = rw part_added w;
        short = rw part_added s;
      })

  pub pairs_added : (bs : List Binding) → AreBindings ns bs → pairs_of (ns ++ term) (bs ++ b ∷ []) ≡ pairs_of ns bs ++ (b.variable, tree_of term) ∷ []
  pairs_added bs all =
      map-append (pair_of (ns ++ term)) bs (b ∷ [])
      ∙ ap (λ l. l ++ pair_of (ns ++ term) b ∷ []) (pairs_kept ns term bs all)
      ∙ ap (λ part. pairs_of ns bs ++ (b.variable, tree_of part) ∷ []) part_added

-- the search over the pairs from a binding on looks at this binding first
pub found_from : (ns : List Node) (bs : List Binding) (i : ℕ) (b : Binding) (x : ℕ) → slice_get bs i ≡ Some b → found (pairs_of ns (drop i bs)) x ≡ (if b.variable == x then Some (tree_of (part_of ns b)) else found (pairs_of ns (drop (suc i) bs)) x)
found_from ns [] i b x e = absurd cc
found_from ns (c ∷ bs) zero b x e = let q : c ≡ b = cc in rw q refl
found_from ns (c ∷ bs) (suc i) b x e = found_from ns bs i b x e

-- the term of the binding at an index
pub at : (ns : List Node) (bs : List Binding) (all : AreBindings ns bs) (i : ℕ) (d : Binding) → i < length bs → IsBinding ns (get_or bs i d)
at ns bs all i d h = all i (get_or bs i d) (slice_get-get_or bs i d h)

-- where the binding is the variable's, its term is the variable's
pub here : (ns : List Node) (bs : List Binding) (all : AreBindings ns bs) (i : ℕ) (d : Binding) (h : i < length bs) → found (pairs_of ns (drop i bs)) (get_or bs i d).variable ≡ Some (tree_of (part_of ns (get_or bs i d)))
here ns bs all i d h =
    let b = get_or bs i d in
    found_from ns bs i b b.variable (slice_get-get_or bs i d h) ∙ ap (λ t. if t then Some (tree_of (part_of ns b)) else found (pairs_of ns (drop (suc i) bs)) b.variable) (eq-eqb b.variable b.variable refl)

-- where it isn't, the search goes on behind it
pub past : (ns : List Node) (bs : List Binding) (i : ℕ) (d : Binding) (x : ℕ) → i < length bs → ((get_or bs i d).variable ≡ x → ⊥) → found (pairs_of ns (drop i bs)) x ≡ found (pairs_of ns (drop (i + 1) bs)) x
past ns bs i d x h other =
    let next : suc i ≡ i + 1 = omega arith in
    found_from ns bs i (get_or bs i d) x (slice_get-get_or bs i d h) ∙ (go ((get_or bs i d).variable == x) refl ∙ ap (λ k. found (pairs_of ns (drop k bs)) x) next)
  where
    go : (c : Bool) → ((get_or bs i d).variable == x) ≡ c → (if c then Some (tree_of (part_of ns (get_or bs i d))) else found (pairs_of ns (drop (suc i) bs)) x) ≡ found (pairs_of ns (drop (suc i) bs)) x
    go true e = absurd (other (eqb-true (get_or bs i d).variable x e))
    go false e = refl

-- what a search reads outside of the list
abbrev pub nothing : Binding
nothing = record { variable = 0; start = 0; end = 0 }

-- the search from the end on finds nothing
pub past_all : (ns : List Node) (bs : List Binding) (i : ℕ) (x : ℕ) → length bs ≤ i → found (pairs_of ns (drop i bs)) x ≡ None
past_all ns [] zero x h = refl
past_all ns [] (suc i) x h = refl
past_all ns (b ∷ bs) zero x h = absurd (omega arith)
past_all ns (b ∷ bs) (suc i) x h = past_all ns bs i x (omega arith)

-- the nodes of the binding at an index are those of the variable's term, where it is the variable's
pub is_term : (ns : List Node) (bs : List Binding) (all : AreBindings ns bs) (pairs : List (ℕ × Tree)) (i x : ℕ) (h : i < length bs) → pairs_of ns bs ≡ pairs → (get_or bs i nothing).variable ≡ x → found pairs x ≡ found (pairs_of ns (drop i bs)) x → IsTermOf pairs x (part_of ns (get_or bs i nothing))
is_term ns bs all pairs i x h is e before = record {
  whole = (at ns bs all i nothing h).whole;
  short = (at ns bs all i nothing h).short;
  is = before ∙ (ap (found (pairs_of ns (drop i bs))) (sym e) ∙ here ns bs all i nothing h);
}

-- what holds of none before an index and not of the one there holds of none before the next index
pub until_next : {A : Type 0} (xs : List A) (n : ℕ) (d : A) (P : A → Type 0) → ((i : ℕ) (x : A) → i < n → slice_get xs i ≡ Some x → P x → ⊥) → (P (get_or xs n d) → ⊥) → (i : ℕ) (x : A) → i < n + 1 → slice_get xs i ≡ Some x → P x → ⊥
until_next xs n d P before not i x h e p = go (split_lt i n h)
  where
    split_lt : (i n : ℕ) → i < n + 1 → (i < n) ⊎ (i ≡ n)
    split_lt i n h = grind arith

    go : (i < n) ⊎ (i ≡ n) → ⊥
    go (inl l) = before i x l e p
    go (inr q) = not (rw (get_or_from_slice_get xs n x d (rw (← q) e)) p)

module _ (ns : List Node) (bs : List Binding) (all : AreBindings ns bs) (pairs : List (ℕ × Tree)) (is : pairs_of ns bs ≡ pairs) where
  pub idempotent : (n : ℕ) → length bs ≤ n → ((i : ℕ) (b : Binding) → i < n → slice_get bs i ≡ Some b → Moves pairs (part_of ns b) → ⊥) → IsIdempotent pairs
  idempotent n long none i p e m =
      let g = get-map (pair_of ns) bs i p (rw is e) in
      let whole : flat p.1 ≡ part_of ns g.0 = ap (λ (q : ℕ × Tree). flat q.1) (sym g.2) ∙ (all i g.0 g.1).whole in
      none i g.0 (let w = slice_get_within bs i g.0 g.1 in omega arith) g.1 (rw (← whole) m)

  pub not_idempotent : (i : ℕ) → i < length bs → Moves pairs (part_of ns (get_or bs i nothing)) → IsIdempotent pairs → ⊥
  not_idempotent i h m idem =
      let b = get_or bs i nothing in
      let e = slice_get-get_or bs i nothing h in
      idem i (pair_of ns b) (rw (← is) (map-get (pair_of ns) bs i b e)) (rw (at ns bs all i nothing h).whole m)
