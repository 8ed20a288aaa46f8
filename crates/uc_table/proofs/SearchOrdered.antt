-- Lists of prefixes in order: equal ones, and longer ones.
use Rattle.std.proofs.Common.{◌≡◌, ℕ, ◌+◌, ◌≤◌, List, [], ◌∷◌, ◌++◌, length, refl, ap₂, sym, ◌∙◌, subst, arith, inl, inr, length-append}
use Rattle.std.specs.Prelude.{◌⊎◌}
use Rattle.uc_order.specs.Members.{In, in_front, in_rest}
use Rattle.uc_table.specs.SearchPrefixes.{Before, AreOrdered, IsVisited, AreFirst, AreAll}
use Rattle.uc_table.proofs.SearchOrder.{before_trans, before_irrefl, order_of}
use Rattle.uc_table.proofs.SearchVisits.{of_append, ordered_append}

-- a member is the first, or one of the others
one_of : (p q : List ℕ) (qs : List (List ℕ)) → In (q ∷ qs) p → (p ≡ q) ⊎ In qs p
one_of p q qs in_front = inl refl
one_of p q qs (in_rest i) = inr i

not_before : (p q : List ℕ) → p ≡ q → Before p q → ⊥
not_before p q e b = before_irrefl q (subst (λ r. Before r q) e b)

-- what begins a list in order begins each list in order with the same members
first_same : (p q : List ℕ) (ps qs : List (List ℕ)) → AreOrdered (p ∷ ps) → AreOrdered (q ∷ qs) → In (q ∷ qs) p → In (p ∷ ps) q → p ≡ q
first_same p q ps qs a b i j = elim (one_of p q qs i) [
  | inl e ↦ e
  | inr k ↦ (elim (one_of q p ps j) [
    | inl e ↦ sym e
    | inr l ↦ absurd (before_irrefl p (before_trans p q p (a.0 q l) (b.0 p k)))
  ])
]

-- members of the rest are members of the other's rest
rest_in : (p q : List ℕ) (ps qs : List (List ℕ)) → p ≡ q → AreOrdered (p ∷ ps) → ((r : List ℕ) → In (p ∷ ps) r → In (q ∷ qs) r) → (r : List ℕ) → In ps r → In qs r
rest_in p q ps qs e a to r i = elim (one_of r q qs (to r (in_rest i))) [
  | inl d ↦ absurd (not_before p r (e ∙ sym d) (a.0 r i))
  | inr k ↦ k
]

pub ordered_same : (ps qs : List (List ℕ)) → AreOrdered ps → AreOrdered qs → ((r : List ℕ) → In ps r → In qs r) → ((r : List ℕ) → In qs r → In ps r) → ps ≡ qs
ordered_same [] [] a b to from = refl
ordered_same [] (q ∷ qs) a b to from = elim (from q in_front) [ ]
ordered_same (p ∷ ps) [] a b to from = elim (to p in_front) [ ]
ordered_same (p ∷ ps) (q ∷ qs) a b to from =
    let e : p ≡ q = first_same p q ps qs a b (to p in_front) (from q in_front) in
    ap₂ (λ x xs. x ∷ xs) e (ordered_same ps qs a.1 b.1 (rest_in p q ps qs e a to) (rest_in q p qs ps (sym e) b from))

-- a list in order whose members are among another's is no longer
pub ordered_fewer : (ps qs : List (List ℕ)) → AreOrdered ps → AreOrdered qs → ((r : List ℕ) → In ps r → In qs r) → length ps ≤ length qs
ordered_fewer [] qs a b to = omega arith
ordered_fewer (p ∷ ps) [] a b to = elim (to p in_front) [ ]
ordered_fewer (p ∷ ps) (q ∷ qs) a b to = elim (one_of p q qs (to p in_front)) [
  | inl e ↦ (let h : length ps ≤ length qs = ordered_fewer ps qs a.1 b.1 (rest_in p q ps qs e a to) in omega arith)
  | inr k ↦ (let h : length (p ∷ ps) ≤ length qs = ordered_fewer (p ∷ ps) qs a b.1 (later k) in omega arith)
]
  where
    goes_first : In qs p → (r : List ℕ) → In (p ∷ ps) r → r ≡ q → ⊥
    goes_first k r i e = elim (one_of r p ps i) [
      | inl d ↦ before_irrefl p (subst (λ z. Before z p) (sym e ∙ d) (b.0 p k))
      | inr l ↦ before_irrefl p (before_trans p q p (subst (Before p) e (a.0 r l)) (b.0 p k))
    ]

    -- the first of the other list goes before all
    later : In qs p → (r : List ℕ) → In (p ∷ ps) r → In qs r
    later k r i = elim (one_of r q qs (to r i)) [
      | inl e ↦ absurd (goes_first k r i e)
      | inr j ↦ j
    ]

module _ (size cells : ℕ) (Refuted : List ℕ → Type 0) where
  -- all visited prefixes are one list
  pub all_same : (ps qs : List (List ℕ)) → AreAll size cells Refuted ps → AreAll size cells Refuted qs → ps ≡ qs
  all_same ps qs a b = ordered_same ps qs a.ordered b.ordered (λ r i. b.all r (a.visited r i)) (λ r i. a.all r (b.visited r i))

  -- where a further one is due behind the first ones, all are more
  pub all_more : (ps qs : List (List ℕ)) (p : List ℕ) → AreFirst size cells Refuted ps → IsVisited size cells Refuted p → (In ps p → ⊥) → AreAll size cells Refuted qs → length ps + 1 ≤ length qs
  all_more ps qs p f v further a =
      let ordered : AreOrdered (ps ++ p ∷ []) = ordered_append p ps f.ordered before in
      let fewer : length (ps ++ p ∷ []) ≤ length qs = ordered_fewer (ps ++ p ∷ []) qs ordered a.ordered among in
      let long : length (ps ++ p ∷ []) ≡ length ps + 1 = grind (arith, length-append) in
      omega arith
    where
      before : (q : List ℕ) → In ps q → Before q p
      before q i = elim (order_of q p) [
        | inl b ↦ b
        | inr h ↦ (elim h [
          | inl e ↦ absurd (further (subst (λ z. In ps z) e i))
          | inr b ↦ absurd (further (f.earlier q p i v b))
        ])
      ]

      among : (r : List ℕ) → In (ps ++ p ∷ []) r → In qs r
      among r i = elim (of_append r p ps i) [
        | inl j ↦ a.all r (f.visited r j)
        | inr e ↦ a.all r (subst (IsVisited size cells Refuted) (sym e) v)
      ]
