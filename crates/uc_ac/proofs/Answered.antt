-- What follows from the answer of the test, and that it is one.
use Rattle.std.proofs.Common.{◌≡◌, ℕ, suc, ◌+◌, ◌<◌, ◌≤◌, List, [], ◌∷◌, map, Option, Some, None, slice_index, refl, sym, ap, ap₂, subst, arith}
use Rattle.std.specs.List.Sorted.{IsStrictlyIncreasing}
use Rattle.uc_term.specs.declared.node.Sym.{Sym}
use Rattle.uc_term.specs.Tree.{Tree}
use Rattle.uc_order.specs.Laws.{Meaning, Laws, HasSym}
use Rattle.uc_order.specs.Members.{In, in_front, in_rest, Each}
use Rattle.uc_fact.specs.Live.{Live}
use Rattle.uc_fact.specs.Ground.{IsJoinable}
use Rattle.uc_fact.specs.declared.ac_facts.AcFacts.{AcFacts}
use Rattle.uc_ac.specs.AcEqual.{AcEqual}
use Rattle.uc_ac.specs.declared.ac_law.AcLaw.{AcLaw}
use Rattle.uc_ac.specs.declared.ac_law.AcLaw.TheVariants.{Assoc, Comm, Extended}
use Rattle.uc_ac.specs.AcFacts.{AreAcFacts, symbols_of, named_equations}
use Rattle.uc_ac.specs.Joining.{IsLeastThat, AreLeastFacts, AreFactsOf, IsAcAnswer, has_facts, has_none}
use Rattle.uc_ac.proofs.Reordering.{Each-map}
use Rattle.uc_ac.proofs.Parts.{same_sym}
use Rattle.uc_ac.proofs.Named.{named_facts}
use Rattle.uc_ac.proofs.Joins.{ac_joinable}

pub are_facts : (live : List Live) (facts : AcFacts) → AreLeastFacts live facts → AreAcFacts live facts
are_facts live facts l = record { assoc_is = l.assoc_is.0; comm_is = l.comm_is.0; extended_is = l.extended_is.0 }

pub answer_joins : (m : Meaning) → Laws m → (live : List Live) (s t : Tree) (list : List AcFacts) → IsAcAnswer live s t (Some list) → IsJoinable m.greater (HasSym m) m.arity (named_equations live list) s t
answer_joins m laws live s t _ (has_facts {facts = facts} {list = list} h e) =
    ac_joinable m laws (named_equations live (facts ∷ list)) (symbols_of (facts ∷ list)) (named_facts live (facts ∷ list) (Each-map (AreLeastFacts live) (AreAcFacts live) (facts ∷ list) (are_facts live) h.least)) s t e

-- facts of one symbol that are the least are the same
one_least : (live : List Live) (law : AcLaw) (f : Sym) (n k : ℕ) → IsLeastThat live law f n → IsLeastThat live law f k → n ≡ k
one_least live law f n k a b =
    let p : k < n → ⊥ = λ h. a.1 k h b.0 in
    let q : n < k → ⊥ = λ h. b.1 n h a.0 in
    omega arith

-- each number is less than those behind it
pub tail_rises : (x : ℕ) (xs : List ℕ) → IsStrictlyIncreasing (x ∷ xs) → IsStrictlyIncreasing xs
tail_rises x xs r k h = let e : suc k + 1 ≡ suc (k + 1) = omega arith in subst (λ j. slice_index (x ∷ xs) (suc k) < slice_index (x ∷ xs) j) e (r (suc k) (omega arith))

pub head_below : (x : ℕ) (xs : List ℕ) → IsStrictlyIncreasing (x ∷ xs) → (y : ℕ) → In xs y → x < y
head_below x [] r y i = elim i [ ]
head_below x (z ∷ xs) r _ in_front = r 0 (omega arith)
head_below x (z ∷ xs) r y (in_rest i) = let first : x < z = r 0 (omega arith) in let rest = head_below z xs (tail_rises x (z ∷ xs) r) y i in omega arith

abbrev Subset : List ℕ → List ℕ → Type 0
Subset xs ys = (x : ℕ) → In xs x → In ys x

-- rising lists with the same members are the same
less_than_all : (x : ℕ) (xs : List ℕ) → IsStrictlyIncreasing (x ∷ xs) → (y : ℕ) → In (x ∷ xs) y → x ≤ y
less_than_all x xs r _ in_front = omega arith
less_than_all x xs r y (in_rest i) = let h = head_below x xs r y i in omega arith

behind : (x : ℕ) (xs : List ℕ) (y : ℕ) → x < y → In (x ∷ xs) y → In xs y
behind x xs _ h in_front = absurd (omega arith)
behind x xs y h (in_rest i) = i

tail_subset : (x : ℕ) (xs ys : List ℕ) → IsStrictlyIncreasing (x ∷ xs) → Subset (x ∷ xs) (x ∷ ys) → Subset xs ys
tail_subset x xs ys r s y i = behind x ys y (head_below x xs r y i) (s y (in_rest i))

one_list : (xs ys : List ℕ) → IsStrictlyIncreasing xs → IsStrictlyIncreasing ys → Subset xs ys → Subset ys xs → xs ≡ ys
one_list [] [] r q s t = refl
one_list [] (y ∷ ys) r q s t = absurd (elim (t y in_front) [ ])
one_list (x ∷ xs) [] r q s t = absurd (elim (s x in_front) [ ])
one_list (x ∷ xs) (y ∷ ys) r q s t =
    let a = less_than_all x xs r y (t y in_front) in
    let b = less_than_all y ys q x (s x in_front) in
    go (omega arith) (one_list xs ys)
  where
    go : x ≡ y → (IsStrictlyIncreasing xs → IsStrictlyIncreasing ys → Subset xs ys → Subset ys xs → xs ≡ ys) → (x ∷ xs) ≡ (y ∷ ys)
    go e rest = ap₂ (λ z zs. z ∷ zs) e (rest (tail_rises x xs r) (tail_rises y ys q) (tail_subset x xs ys r (subst (λ z. Subset (x ∷ xs) (z ∷ ys)) (sym e) s)) (tail_subset y ys xs q (subst (λ z. Subset (y ∷ ys) (z ∷ xs)) e t)))

-- the numbers of a list's symbols
abbrev pub numbers : List AcFacts → List ℕ
numbers list = map (λ (facts : AcFacts). facts.symbol.0) list

abbrev pub symbol_of : ℕ → Sym
symbol_of n = record { 0 = n }

to_symbol : (list : List AcFacts) (n : ℕ) → In (numbers list) n → In (symbols_of list) (symbol_of n)
to_symbol [] n i = elim i [ ]
to_symbol (facts ∷ list) _ in_front = in_front
to_symbol (facts ∷ list) n (in_rest i) = in_rest (to_symbol list n i)

to_number : (list : List AcFacts) (f : Sym) → In (symbols_of list) f → In (numbers list) f.0
to_number [] f i = elim i [ ]
to_number (facts ∷ list) _ in_front = in_front
to_number (facts ∷ list) f (in_rest i) = in_rest (to_number list f i)

module _ (live : List Live) where
  same_facts : (a b : AcFacts) → AreLeastFacts live a → AreLeastFacts live b → a.symbol.0 ≡ b.symbol.0 → a ≡ b
  same_facts a b p q e =
      let s : a.symbol ≡ b.symbol = same_sym a.symbol b.symbol e in
      let x = one_least live Assoc b.symbol a.assoc b.assoc (subst (λ (f : Sym). IsLeastThat live Assoc f a.assoc) s p.assoc_is) q.assoc_is in
      let y = one_least live Comm b.symbol a.comm b.comm (subst (λ (f : Sym). IsLeastThat live Comm f a.comm) s p.comm_is) q.comm_is in
      let z = one_least live Extended b.symbol a.extended b.extended (subst (λ (f : Sym). IsLeastThat live Extended f a.extended) s p.extended_is) q.extended_is in
      λ i. record { symbol = s i; assoc = x i; comm = y i; extended = z i }

  same_lists : (xs ys : List AcFacts) → Each (AreLeastFacts live) xs → Each (AreLeastFacts live) ys → numbers xs ≡ numbers ys → xs ≡ ys
  same_lists [] [] p q e = refl
  same_lists [] (b ∷ ys) p q e = absurd cc
  same_lists (a ∷ xs) [] p q e = absurd cc
  same_lists (a ∷ xs) (b ∷ ys) p q e =
      let first : a.symbol.0 ≡ b.symbol.0 = cc in
      let rest : numbers xs ≡ numbers ys = cc in
      ap₂ (λ (x : AcFacts) (l : List AcFacts). x ∷ l) (same_facts a b p.0 q.0 first) (same_lists xs ys p.1 q.1 rest)

  module _ (s t : Tree) where
    one_facts : (xs ys : List AcFacts) → AreFactsOf live s t xs → AreFactsOf live s t ys → xs ≡ ys
    one_facts xs ys p q = same_lists xs ys p.least q.least (one_list (numbers xs) (numbers ys) p.rising q.rising (subset xs ys p q) (subset ys xs q p))
      where
        subset : (xs ys : List AcFacts) → AreFactsOf live s t xs → AreFactsOf live s t ys → Subset (numbers xs) (numbers ys)
        subset xs ys p q n i = to_number ys (symbol_of n) ((q.symbols (symbol_of n)).1 ((p.symbols (symbol_of n)).0 (to_symbol xs n i)))

    pub one_answer : (a b : Option (List AcFacts)) → IsAcAnswer live s t a → IsAcAnswer live s t b → a ≡ b
    one_answer _ _ (has_facts {facts = a} {list = xs} p e) (has_facts {facts = b} {list = ys} q h) = ap Some (one_facts (a ∷ xs) (b ∷ ys) p q)
    one_answer _ _ (has_facts {facts = a} {list = xs} p e) (has_none n) = absurd (n a xs p e)
    one_answer _ _ (has_none n) (has_facts {facts = b} {list = ys} q h) = absurd (n b ys q h)
    one_answer _ _ (has_none n) (has_none k) = refl

    -- no facts, where the list of all is another
    pub none_by : (list : List AcFacts) → AreFactsOf live s t list → ((facts : AcFacts) (rest : List AcFacts) → list ≡ facts ∷ rest → AcEqual (symbols_of list) s t → ⊥) → IsAcAnswer live s t None
    none_by list h n = has_none (λ facts rest k e. let same = one_facts list (facts ∷ rest) h k in n facts rest same (subst (λ l. AcEqual (symbols_of l) s t) (sym same) e))
