-- Which parts are among others.
use Rattle.std.proofs.Common.{◌≡◌, ℕ, zero, suc, ◌+◌, ◌<◌, ◌≤◌, ◌↔◌, ◌||◌, Bool, true, false, List, [], ◌∷◌, ◌++◌, length, drop, slice_get, Some, refl, sym, ap, ◌∙◌, subst, arith, ◌⊎◌, inl, inr, if◌then◌else◌}
use Rattle.std.specs.List.{list_any}
use Rattle.uc_fact.specs.declared.chain.Step.{Step}
use Rattle.uc_problem.specs.declared.problem.Source.{Source}
use Rattle.uc_proof.specs.declared.part.Part.{Part}
use Rattle.uc_proof.specs.declared.part.Part.TheVariants as part
use Rattle.uc_proof.specs.Parts.{part_of, axioms_where, facts_from, Selects, selects_none, selects, passes}
use Rattle.uc_proof.specs.Making.{IsAmong, IsNamedPart, IsFactPart}

pub among_left : (p : Part) (xs ys : List Part) → IsAmong p xs → IsAmong p (xs ++ ys)
among_left p [] ys h = absurd h
among_left p (x ∷ xs) ys (inl e) = inl e
among_left p (x ∷ xs) ys (inr h) = inr (among_left p xs ys h)

pub among_right : (p : Part) (xs ys : List Part) → IsAmong p ys → IsAmong p (xs ++ ys)
among_right p [] ys h = h
among_right p (x ∷ xs) ys h = inr (among_right p xs ys h)

pub among_either : (p : Part) (xs ys : List Part) → IsAmong p (xs ++ ys) → IsAmong p xs ⊎ IsAmong p ys
among_either p [] ys h = inr h
among_either p (x ∷ xs) ys (inl e) = inl (inl e)
among_either p (x ∷ xs) ys (inr h) = elim (among_either p xs ys h) [ inl a ↦ inl (inr a) | inr b ↦ inr b ]

pub among_get : (xs : List Part) (i : ℕ) (p : Part) → slice_get xs i ≡ Some p → IsAmong p xs
among_get [] i p e = absurd cc
among_get (x ∷ xs) zero p e = inl (let q : Some x ≡ Some p = e in cc)
among_get (x ∷ xs) (suc i) p e = inr (among_get xs i p e)

-- a set of parts, by a test of equality
module _ (eq : Part → Part → Bool) (decides : (a b : Part) → (eq a b ≡ true) ↔ (a ≡ b)) where
  pub any_among : (p : Part) (xs : List Part) → (list_any (eq p) xs ≡ true) ↔ IsAmong p xs
  any_among p [] = (λ e. absurd cc, λ h. absurd h)
  any_among p (x ∷ xs) = go (eq p x) refl (any_among p xs)
    where
      go : (b : Bool) → eq p x ≡ b → ((list_any (eq p) xs ≡ true) ↔ IsAmong p xs) → ((b || list_any (eq p) xs) ≡ true) ↔ ((x ≡ p) ⊎ IsAmong p xs)
      go true e later = (λ _. inl (sym ((decides p x).0 e)), λ _. refl)
      go false e later = (λ f. inr (later.0 f), λ h. elim h [ inl q ↦ absurd (let t : eq p x ≡ true = (decides p x).1 (sym q) in let u : true ≡ false = sym t ∙ e in cc) | inr m ↦ later.1 m ])

  pub inserted : (part : Part) (old new : List Part) → new ≡ (if list_any (eq part) old then old else old ++ part ∷ []) → (p : Part) → IsAmong p new ↔ ((part ≡ p) ⊎ IsAmong p old)
  inserted part old new is p = go (list_any (eq part) old) refl is
    where
      go : (b : Bool) → list_any (eq part) old ≡ b → new ≡ (if b then old else old ++ part ∷ []) → IsAmong p new ↔ ((part ≡ p) ⊎ IsAmong p old)
      go true e is = (
        λ h. inr (subst (IsAmong p) is h),
        λ h. subst (IsAmong p) (sym is) (elim h [ inl q ↦ subst (λ (r : Part). IsAmong r old) q ((any_among part old).0 e) | inr m ↦ m ]),
      )
      go false e is = (
        λ h. elim (among_either p old (part ∷ []) (subst (IsAmong p) is h)) [ inl m ↦ inr m | inr m ↦ inl (elim m [ inl q ↦ q | inr n ↦ absurd n ]) ],
        λ h. subst (IsAmong p) (sym is) (elim h [ inl q ↦ among_right p old (part ∷ []) (inl q) | inr m ↦ among_left p old (part ∷ []) m ]),
      )

-- what is added one by one
pub one_more : {A B N M Q R : Type 0} → ((A ⊎ N) ↔ R) → (B ↔ (Q ⊎ A)) → (N ↔ (Q ⊎ M)) → ((B ⊎ M) ↔ R)
one_more old add split = (
  λ h. elim h [
    | inl b ↦ elim (add.0 b) [ inl q ↦ old.0 (inr (split.1 (inl q))) | inr a ↦ old.0 (inl a) ]
    | inr m ↦ old.0 (inr (split.1 (inr m)))
  ],
  λ r. elim (old.1 r) [
    | inl a ↦ inl (add.1 (inr a))
    | inr n ↦ elim (split.0 n) [ inl q ↦ inl (add.1 (inl q)) | inr m ↦ inr m ]
  ],
)

pub none_left : {A N R : Type 0} → ((A ⊎ N) ↔ R) → (N → ⊥) → (A ↔ R)
none_left old nothing = (λ a. old.0 (inl a), λ r. elim (old.1 r) [ inl a ↦ a | inr n ↦ absurd (nothing n) ])

pub itself : {A N : Type 0} → ((A ⊎ N) ↔ (A ⊎ N))
itself = (λ h. h, λ h. h)

-- what steps name
pub named_split : (steps : List Step) (i : ℕ) (step : Step) (p : Part) → drop i steps ≡ step ∷ drop (i + 1) steps → IsNamedPart (drop i steps) p ↔ ((part_of step.by ≡ p) ⊎ IsNamedPart (drop (i + 1) steps) p)
named_split steps i step p e = subst (λ (ss : List Step). IsNamedPart ss p ↔ ((part_of step.by ≡ p) ⊎ IsNamedPart (drop (i + 1) steps) p)) (sym e) itself

pub named_none : (steps : List Step) (i : ℕ) (p : Part) → drop i steps ≡ [] → IsNamedPart (drop i steps) p → ⊥
named_none steps i p e h = subst (λ (ss : List Step). IsNamedPart ss p) e h

-- the parts of facts
pub fact_split : (live : List ℕ) (i n : ℕ) (p : Part) → drop i live ≡ n ∷ drop (i + 1) live → IsFactPart (drop i live) p ↔ ((part.Fact n ≡ p) ⊎ IsFactPart (drop (i + 1) live) p)
fact_split live i n p e = subst (λ (ns : List ℕ). IsFactPart ns p ↔ ((part.Fact n ≡ p) ⊎ IsFactPart (drop (i + 1) live) p)) (sym e) itself

pub fact_none : (live : List ℕ) (i : ℕ) (p : Part) → drop i live ≡ [] → IsFactPart (drop i live) p → ⊥
fact_none live i p e h = subst (λ (ns : List ℕ). IsFactPart ns p) e h

-- selected parts
pub selected_among : (Is : Part → Type 0) (ps qs : List Part) (p : Part) → Selects Is ps qs → IsAmong p qs → IsAmong p ps × Is p
selected_among Is _ _ p selects_none h = absurd h
selected_among Is (r ∷ ps) (_ ∷ qs) p (selects i s) (inl e) = (inl e, subst Is e i)
selected_among Is (r ∷ ps) (_ ∷ qs) p (selects i s) (inr h) = let m = selected_among Is ps qs p s h in (inr m.0, m.1)
selected_among Is (r ∷ ps) qs p (passes i s) h = let m = selected_among Is ps qs p s h in (inr m.0, m.1)

pub among_selected : (Is : Part → Type 0) (ps qs : List Part) (p : Part) → Selects Is ps qs → IsAmong p ps → Is p → IsAmong p qs
among_selected Is _ _ p selects_none h i = absurd h
among_selected Is (r ∷ ps) (_ ∷ qs) p (selects j s) (inl e) i = inl e
among_selected Is (r ∷ ps) (_ ∷ qs) p (selects j s) (inr h) i = inr (among_selected Is ps qs p s h i)
among_selected Is (r ∷ ps) qs p (passes j s) (inl e) i = absurd (j (subst Is (sym e) i))
among_selected Is (r ∷ ps) qs p (passes j s) (inr h) i = among_selected Is ps qs p s h i

pub selected_alike : (Is Has : Part → Type 0) → ((p : Part) → Is p ↔ Has p) → (ps qs : List Part) → Selects Is ps qs → Selects Has ps qs
selected_alike Is Has same _ _ selects_none = selects_none
selected_alike Is Has same (p ∷ ps) (_ ∷ qs) (selects i s) = selects ((same p).0 i) (selected_alike Is Has same ps qs s)
selected_alike Is Has same (p ∷ ps) qs (passes i s) = passes (λ h. i ((same p).1 h)) (selected_alike Is Has same ps qs s)

pub selected_length : (Is : Part → Type 0) (ps qs : List Part) (n : ℕ) → Selects Is ps qs → length ps ≡ n → length qs < n + 1
selected_length Is _ _ n selects_none e = omega (arith, e)
selected_length Is (p ∷ ps) (_ ∷ qs) n (selects i s) e = let l = selected_length Is ps qs (length ps) s refl in omega (arith, e)
selected_length Is (p ∷ ps) qs n (passes i s) e = let l = selected_length Is ps qs (length ps) s refl in omega (arith, e)

-- the axioms and facts of all parts
pub axiom_among : (is : Source → Bool) (n : ℕ) (ss : List Source) (k : ℕ) (s : Source) → slice_get ss k ≡ Some s → is s ≡ true → IsAmong (part.Axiom (n + k)) (axioms_where is n ss)
axiom_among is n [] k s e h = absurd cc
axiom_among is n (x ∷ ss) zero s e h =
    let same : x ≡ s = cc in
    let q : n + 0 ≡ n = omega arith in
    first (is x) (ap is same ∙ h)
  where
    first : (b : Bool) → b ≡ true → IsAmong (part.Axiom (n + 0)) (if b then part.Axiom n ∷ axioms_where is (n + 1) ss else axioms_where is (n + 1) ss)
    first true t = inl (let q : n ≡ n + 0 = omega arith in ap part.Axiom q)
    first false t = absurd cc
axiom_among is n (x ∷ ss) (suc k) s e h =
    let q : n + 1 + k ≡ n + suc k = omega arith in
    later (is x) (subst (λ (i : ℕ). IsAmong (part.Axiom i) (axioms_where is (n + 1) ss)) q (axiom_among is (n + 1) ss k s e h))
  where
    later : (b : Bool) → IsAmong (part.Axiom (n + suc k)) (axioms_where is (n + 1) ss) → IsAmong (part.Axiom (n + suc k)) (if b then part.Axiom n ∷ axioms_where is (n + 1) ss else axioms_where is (n + 1) ss)
    later true m = inr m
    later false m = m

pub fact_among : (n many i : ℕ) → i < many → IsAmong (part.Fact (n + i)) (facts_from n many)
fact_among n zero i h = absurd (omega arith)
fact_among n (suc many) zero h = inl (let q : n ≡ n + 0 = omega arith in ap part.Fact q)
fact_among n (suc many) (suc i) h = let q : n + 1 + i ≡ n + suc i = omega arith in inr (subst (λ (k : ℕ). IsAmong (part.Fact k) (facts_from (n + 1) many)) q (fact_among (n + 1) many i (omega arith)))

pub turn : {A B Q : Type 0} → (A ↔ (Q ⊎ B)) → (A ↔ (B ⊎ Q))
turn h = (λ a. elim (h.0 a) [ inl q ↦ inr q | inr b ↦ inl b ], λ s. elim s [ inl b ↦ h.1 (inr b) | inr q ↦ h.1 (inl q) ])

-- where something holds, it may be said beside
pub beside : {A B Q M : Type 0} → M → (A ↔ (B ⊎ Q)) → (A ↔ (B ⊎ (M × Q)))
beside m h = (λ a. elim (h.0 a) [ inl b ↦ inl b | inr q ↦ inr (m, q) ], λ s. elim s [ inl b ↦ h.1 (inl b) | inr q ↦ h.1 (inr q.1) ])

pub only_right : {A B Q : Type 0} → (A ↔ (B ⊎ Q)) → (B → ⊥) → (A ↔ Q)
only_right h none_of = (λ a. elim (h.0 a) [ inl b ↦ absurd (none_of b) | inr q ↦ q ], λ q. h.1 (inr q))

pub nothing_behind : {A : Type 0} (xs : List A) (i : ℕ) → length xs ≤ i → drop i xs ≡ []
nothing_behind [] zero h = refl
nothing_behind [] (suc i) h = refl
nothing_behind (x ∷ l) zero h = absurd (omega arith)
nothing_behind (x ∷ l) (suc i) h = nothing_behind l i (omega arith)
