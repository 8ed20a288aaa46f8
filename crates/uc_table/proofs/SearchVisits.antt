-- How the list of visited prefixes grows as a search goes on.
use Rattle.std.proofs.Common.{◌≡◌, ℕ, ◌+◌, ◌≤◌, ◌<◌, List, [], ◌∷◌, ◌++◌, length, refl, ap, sym, ◌∙◌, arith, inl, inr, subst, append_assoc, length-append}
use Rattle.std.specs.Prelude.{◌⊎◌}
use Rattle.uc_table.specs.Tables.{AreValues}
use Rattle.uc_order.specs.Members.{In, in_front, in_rest}
use Rattle.uc_table.specs.SearchPrefixes.{Before, front, AreOrdered, IsOpen, IsVisited, AreFirst, AreAll, IsSeen}
use Rattle.uc_table.proofs.SearchOrder.{before_trans, before_irrefl, order_of, before_behind, before_more, before_next, next_after, before_first, below_append, below_behind, before_size, front_last, front_behind}

pub in_append : (q : List ℕ) (ps rs : List (List ℕ)) → In ps q → In (ps ++ rs) q
in_append q (p ∷ ps) rs in_front = in_front
in_append q (p ∷ ps) rs (in_rest i) = in_rest (in_append q ps rs i)
in_append q [] rs i = elim i [ ]

pub in_last : (q : List ℕ) (ps : List (List ℕ)) → In (ps ++ q ∷ []) q
in_last q [] = in_front
in_last q (p ∷ ps) = in_rest (in_last q ps)

in_one : (q p : List ℕ) → In (p ∷ []) q → q ≡ p
in_one q p in_front = refl
in_one q p (in_rest i) = elim i [ ]

pub of_append : (q p : List ℕ) (ps : List (List ℕ)) → In (ps ++ p ∷ []) q → In ps q ⊎ (q ≡ p)
of_append q p [] i = inr (in_one q p i)
of_append q p (r ∷ ps) in_front = inl in_front
of_append q p (r ∷ ps) (in_rest i) = elim (of_append q p ps i) [ inl j ↦ inl (in_rest j) | inr e ↦ inr e ]

pub ordered_append : (p : List ℕ) (ps : List (List ℕ)) → AreOrdered ps → ((q : List ℕ) → In ps q → Before q p) → AreOrdered (ps ++ p ∷ [])
ordered_append p [] o b = (λ q i. elim i [ ], tt)
ordered_append p (r ∷ ps) o b = (λ q i. (elim (of_append q p ps i) [ inl j ↦ o.0 q j | inr e ↦ subst (λ z. Before r z) (sym e) (b r in_front) ]), ordered_append p ps o.1 (λ q i. b q (in_rest i)))

pub behind : (p : List ℕ) (x : ℕ) (r : List ℕ) → p ++ x ∷ r ≡ (p ++ x ∷ []) ++ r
behind p x r = sym (append_assoc p (x ∷ []) r)

module _ (size cells : ℕ) (Refuted : List ℕ → Type 0) (more : (p r : List ℕ) → Refuted p → Refuted (p ++ r)) where
  -- the prefix in front of a value
  pub record At (p : List ℕ) : Type 0 where
    pub below : AreValues size p
    pub open_is : Refuted p → ⊥

  -- at the start nothing is visited
  before_zero : (q : List ℕ) → Before q (0 ∷ []) → q ≡ []
  before_zero [] b = refl
  before_zero (x ∷ q) (inl l) = absurd (omega arith)
  before_zero (x ∷ q) (inr b) = absurd b.1

  pub seen_start : 0 < cells → IsSeen size cells Refuted [] 0 []
  seen_start l = record {
    ordered = tt;
    visited = λ q i. elim i [ ];
    before = λ q i. elim i [ ];
    all = λ q v b. (let h : 0 < length q = v.nonempty in let e : length q ≡ 0 = ap length (before_zero q b) in absurd (omega arith));
    none = λ t o b. (let h : length t ≡ cells = o.whole in let e : length t ≡ 0 = ap length (before_zero t b) in absurd (omega arith));
  }

  pub visits_next : (p : List ℕ) (next : ℕ) (ps : List (List ℕ)) → At p → IsSeen size cells Refuted p next ps → next < size → length p < cells → IsVisited size cells Refuted (p ++ next ∷ [])
  visits_next p next ps a s l m = record {
    nonempty = (let e : length (p ++ next ∷ []) ≡ length p + 1 = grind (arith, length-append) in omega arith);
    fits = (let e : length (p ++ next ∷ []) ≡ length p + 1 = grind (arith, length-append) in omega arith);
    below = below_append size p (next ∷ []) a.below (l, tt);
    open_front = λ r. a.open_is (subst Refuted (front_last p next) r);
    is_first = s.none;
  }

  -- a further prefix is due
  pub first_seen : (p : List ℕ) (next : ℕ) (ps : List (List ℕ)) → IsSeen size cells Refuted p next ps → AreFirst size cells Refuted ps
  first_seen p next ps s = record {
    ordered = s.ordered;
    visited = s.visited;
    earlier = λ q r i v b. s.all r v (before_trans r q (p ++ next ∷ []) b (s.before q i));
  }

  pub further : (p : List ℕ) (next : ℕ) (ps : List (List ℕ)) → IsSeen size cells Refuted p next ps → In ps (p ++ next ∷ []) → ⊥
  further p next ps s i = before_irrefl (p ++ next ∷ []) (s.before (p ++ next ∷ []) i)

  visited_more : (p : List ℕ) (next : ℕ) (ps : List (List ℕ)) → At p → IsSeen size cells Refuted p next ps → next < size → length p < cells → (q : List ℕ) → In (ps ++ (p ++ next ∷ []) ∷ []) q → IsVisited size cells Refuted q
  visited_more p next ps a s l m q i = elim (of_append q (p ++ next ∷ []) ps i) [
    | inl j ↦ s.visited q j
    | inr e ↦ subst (IsVisited size cells Refuted) (sym e) (visits_next p next ps a s l m)
  ]

  -- what begins with a refuted prefix and is visited is that prefix
  ends_there : (p : List ℕ) (x : ℕ) (q r : List ℕ) → Refuted (p ++ x ∷ []) → IsVisited size cells Refuted q → q ≡ p ++ x ∷ r → q ≡ p ++ x ∷ []
  ends_there p x q [] h v e = e
  ends_there p x q (y ∷ r) h v e = absurd (v.open_front (subst Refuted (sym (ap front e ∙ front_behind p x y r)) (subst Refuted (sym (behind p x (front (y ∷ r)))) (more (p ++ x ∷ []) (front (y ∷ r)) h))))

  -- a refuted prefix is visited: the next value is due
  pub seen_refuted : (p : List ℕ) (next : ℕ) (ps : List (List ℕ)) → At p → IsSeen size cells Refuted p next ps → next < size → length p < cells → Refuted (p ++ next ∷ []) → IsSeen size cells Refuted p (next + 1) (ps ++ (p ++ next ∷ []) ∷ [])
  seen_refuted p next ps a s l m h = record {
    ordered = ordered_append (p ++ next ∷ []) ps s.ordered s.before;
    visited = visited_more p next ps a s l m;
    before = λ q i. (elim (of_append q (p ++ next ∷ []) ps i) [
      | inl j ↦ before_trans q (p ++ next ∷ []) (p ++ (next + 1) ∷ []) (s.before q j) (next_after p next [])
      | inr e ↦ subst (λ z. Before z (p ++ (next + 1) ∷ [])) (sym e) (next_after p next [])
    ]);
    all = λ q v b. (elim (before_next p next q b) [
      | inl c ↦ in_append q ps ((p ++ next ∷ []) ∷ []) (s.all q v c)
      | inr c ↦ subst (λ z. In (ps ++ (p ++ next ∷ []) ∷ []) z) (sym (ends_there p next q c.0 h v c.1)) (in_last (p ++ next ∷ []) ps)
    ]);
    none = λ t o b. (elim (before_next p next t b) [
      | inl c ↦ s.none t o c
      | inr c ↦ o.open_is (subst Refuted (sym (c.1 ∙ behind p next c.0)) (more (p ++ next ∷ []) c.0 h))
    ]);
  }

  -- a prefix that isn't refuted is visited, and isn't whole: the first value of the next cell is due
  pub seen_deeper : (p : List ℕ) (next : ℕ) (ps : List (List ℕ)) → At p → IsSeen size cells Refuted p next ps → next < size → length p + 1 < cells → IsSeen size cells Refuted (p ++ next ∷ []) 0 (ps ++ (p ++ next ∷ []) ∷ [])
  seen_deeper p next ps a s l m = record {
    ordered = ordered_append (p ++ next ∷ []) ps s.ordered s.before;
    visited = visited_more p next ps a s l (omega arith);
    before = λ q i. (elim (of_append q (p ++ next ∷ []) ps i) [
      | inl j ↦ before_trans q (p ++ next ∷ []) ((p ++ next ∷ []) ++ 0 ∷ []) (s.before q j) (before_more (p ++ next ∷ []) 0 [])
      | inr e ↦ subst (λ z. Before z ((p ++ next ∷ []) ++ 0 ∷ [])) (sym e) (before_more (p ++ next ∷ []) 0 [])
    ]);
    all = λ q v b. (elim (before_first (p ++ next ∷ []) q b) [
      | inl c ↦ in_append q ps ((p ++ next ∷ []) ∷ []) (s.all q v c)
      | inr e ↦ subst (λ z. In (ps ++ (p ++ next ∷ []) ∷ []) z) (sym e) (in_last (p ++ next ∷ []) ps)
    ]);
    none = λ t o b. (elim (before_first (p ++ next ∷ []) t b) [
      | inl c ↦ s.none t o c
      | inr e ↦ (let e2 : length t ≡ length (p ++ next ∷ []) = ap length e in let e3 : length (p ++ next ∷ []) ≡ length p + 1 = grind (arith, length-append) in let w : length t ≡ cells = o.whole in absurd (omega arith))
    ]);
  }

  -- a whole table that isn't refuted is visited: no prefix is due any more
  pub seen_found : (p : List ℕ) (next : ℕ) (ps : List (List ℕ)) → At p → IsSeen size cells Refuted p next ps → next < size → length p + 1 ≡ cells → (Refuted (p ++ next ∷ []) → ⊥) → AreAll size cells Refuted (ps ++ (p ++ next ∷ []) ∷ [])
  seen_found p next ps a s l m h = record {
    ordered = ordered_append (p ++ next ∷ []) ps s.ordered s.before;
    visited = visited_more p next ps a s l (omega arith);
    all = λ q v. (elim (order_of q (p ++ next ∷ [])) [
      | inl c ↦ in_append q ps ((p ++ next ∷ []) ∷ []) (s.all q v c)
      | inr c ↦ (elim c [
        | inl e ↦ subst (λ z. In (ps ++ (p ++ next ∷ []) ∷ []) z) (sym e) (in_last (p ++ next ∷ []) ps)
        | inr b ↦ absurd (v.is_first (p ++ next ∷ []) (open_whole p next a l m h) b)
      ])
    ]);
  }
    where
      open_whole : (p : List ℕ) (next : ℕ) → At p → next < size → length p + 1 ≡ cells → (Refuted (p ++ next ∷ []) → ⊥) → IsOpen size cells Refuted (p ++ next ∷ [])
      open_whole p next a l m h = record {
        whole = (let e : length (p ++ next ∷ []) ≡ length p + 1 = grind (arith, length-append) in omega arith);
        below = below_append size p (next ∷ []) a.below (l, tt);
        open_is = h;
      }

  -- no value is left: the value before it is done with
  pub seen_back : (p : List ℕ) (v next : ℕ) (ps : List (List ℕ)) → IsSeen size cells Refuted (p ++ v ∷ []) next ps → size ≤ next → IsSeen size cells Refuted p (v + 1) ps
  seen_back p v next ps s l = record {
    ordered = s.ordered;
    visited = s.visited;
    before = λ q i. before_trans q ((p ++ v ∷ []) ++ next ∷ []) (p ++ (v + 1) ∷ []) (s.before q i) (subst (λ z. Before z (p ++ (v + 1) ∷ [])) (behind p v (next ∷ [])) (next_after p v (next ∷ [])));
    all = λ q w b. s.all q w (within q w.below b);
    none = λ t o b. s.none t o (within t o.below b);
  }
    where
      within : (q : List ℕ) → AreValues size q → Before q (p ++ (v + 1) ∷ []) → Before q ((p ++ v ∷ []) ++ next ∷ [])
      within q a b = elim (before_next p v q b) [
        | inl c ↦ before_trans q (p ++ v ∷ []) ((p ++ v ∷ []) ++ next ∷ []) c (before_more (p ++ v ∷ []) next [])
        | inr c ↦ (let e : q ≡ (p ++ v ∷ []) ++ c.0 = c.1 ∙ behind p v c.0 in
            subst (λ z. Before z ((p ++ v ∷ []) ++ next ∷ [])) (sym e) (before_behind (p ++ v ∷ []) c.0 (next ∷ []) (before_size size next c.0 l (below_behind size (p ++ v ∷ []) c.0 (subst (AreValues size) e a)))))
      ]

  -- no value of the first cell is left
  pub seen_all : (next : ℕ) (ps : List (List ℕ)) → IsSeen size cells Refuted [] next ps → size ≤ next → AreAll size cells Refuted ps
  seen_all next ps s l = record {
    ordered = s.ordered;
    visited = s.visited;
    all = λ q v. s.all q v (before_size size next q l v.below);
  }

  pub none_open : (next : ℕ) (ps : List (List ℕ)) → IsSeen size cells Refuted [] next ps → size ≤ next → (t : List ℕ) → IsOpen size cells Refuted t → ⊥
  none_open next ps s l t o = s.none t o (before_size size next t l o.below)

  -- the empty prefix is refuted
  pub refuted_all : Refuted [] → AreAll size cells Refuted []
  refuted_all h = record { ordered = tt; visited = λ q i. elim i [ ]; all = λ q v. absurd (v.open_front (more [] (front q) h)) }

  pub refuted_none : Refuted [] → (t : List ℕ) → IsOpen size cells Refuted t → ⊥
  refuted_none h t o = o.open_is (more [] t h)
