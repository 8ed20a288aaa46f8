-- Parts added to a plan.
use Rattle.std.proofs.Common.{◌≡◌, ℕ, zero, suc, ◌+◌, ◌-◌, ◌<◌, ◌≤◌, Bool, true, false, List, [], ◌∷◌, ◌++◌, length, map, drop, refl, sym, ap, ◌∙◌, subst, arith, append_assoc, append-nil, length-append, if◌then◌else◌}
use mathlib.Core.Bool.{beq}
use Rattle.uc_problem.specs.declared.problem.Source.{Source}
use Rattle.uc_problem.specs.declared.problem.Source.TheVariants as source
use Rattle.uc_proof.specs.declared.part.Part.{Part}
use Rattle.uc_proof.specs.declared.part.Part.TheVariants as part
use Rattle.uc_proof.specs.Parts.{is_clause, is_encoding, axioms_where, facts_from, Selects, selects_none, selects, passes}
use Rattle.uc_proof.specs.Making.{Adds}

module _ (Is : Part → Type 0) where
  selects_both : (ps qs ms ns : List Part) → Selects Is ps ms → Selects Is qs ns → Selects Is (ps ++ qs) (ms ++ ns)
  selects_both _ qs _ ns selects_none t = t
  selects_both (p ∷ ps) qs (_ ∷ ms) ns (selects i s) t = selects i (selects_both ps qs ms ns s t)
  selects_both (p ∷ ps) qs ms ns (passes i s) t = passes i (selects_both ps qs ms ns s t)

  pub adds_none : (old : List Part) → Adds Is [] old old
  adds_none old = record { more = []; new_is = sym (append-nil old); selected = selects_none }

  pub adds_both : (ps qs old mid new : List Part) → Adds Is ps old mid → Adds Is qs mid new → Adds Is (ps ++ qs) old new
  adds_both ps qs old mid new a b = record {
    more = a.more ++ b.more;
    new_is = b.new_is ∙ ap (λ l. l ++ b.more) a.new_is ∙ append_assoc old a.more b.more;
    selected = selects_both ps qs a.more b.more a.selected b.selected;
  }

  pub adds_one : (p : Part) (old new : List Part) → Is p → new ≡ old ++ p ∷ [] → Adds Is (p ∷ []) old new
  adds_one p old new i e = record { more = p ∷ []; new_is = e; selected = selects i selects_none }

  pub adds_not : (p : Part) (old : List Part) → (Is p → ⊥) → Adds Is (p ∷ []) old old
  adds_not p old i = record { more = []; new_is = sym (append-nil old); selected = passes i selects_none }

  -- whatever the parts behind come to, all come to that
  abbrev pub GoesOn : List Part → List Part → List Part → List Part → Type 0
  GoesOn all initial rest now = (final : List Part) → Adds Is rest now final → Adds Is all initial final

  pub begins : (all initial : List Part) → GoesOn all initial all initial
  begins all initial final a = a

  pub goes_on : (all initial rest front behind now next : List Part) → GoesOn all initial rest now → rest ≡ front ++ behind → Adds Is front now next → GoesOn all initial behind next
  goes_on all initial rest front behind now next g e a final b = g final (subst (λ (ps : List Part). Adds Is ps now final) (sym e) (adds_both front behind now next final a b))

  pub ends : (all initial rest now : List Part) → GoesOn all initial rest now → rest ≡ [] → Adds Is all initial now
  ends all initial rest now g e = g now (subst (λ (ps : List Part). Adds Is ps now now) (sym e) (adds_none now))

-- lists of parts taken apart
pub axioms_split : (is : Source → Bool) (n : ℕ) (s : Source) (ss : List Source) → axioms_where is n (s ∷ ss) ≡ axioms_where is n (s ∷ []) ++ axioms_where is (n + 1) ss
axioms_split is n s ss = go (is s)
  where
    go : (b : Bool) → (if b then part.Axiom n ∷ axioms_where is (n + 1) ss else axioms_where is (n + 1) ss) ≡ (if b then part.Axiom n ∷ [] else []) ++ axioms_where is (n + 1) ss
    go true = refl
    go false = refl

pub axioms_at : (is : Source → Bool) (sources : List Source) (i : ℕ) (s : Source) → drop i sources ≡ s ∷ drop (i + 1) sources → axioms_where is i (drop i sources) ≡ axioms_where is i (s ∷ []) ++ axioms_where is (i + 1) (drop (i + 1) sources)
axioms_at is sources i s e = ap (axioms_where is i) e ∙ axioms_split is i s (drop (i + 1) sources)

pub denials_at : (cs : List ℕ) (i c : ℕ) → drop i cs ≡ c ∷ drop (i + 1) cs → map part.Denial (drop i cs) ≡ (part.Denial c ∷ []) ++ map part.Denial (drop (i + 1) cs)
denials_at cs i c e = ap (map part.Denial) e

pub facts_at : (i count : ℕ) → i < count → facts_from i (count - i) ≡ (part.Fact i ∷ []) ++ facts_from (i + 1) (count - (i + 1))
facts_at i count h = let e : count - i ≡ suc (count - (i + 1)) = omega arith in ap (facts_from i) e

pub facts_end : (i count : ℕ) → count ≤ i → facts_from i (count - i) ≡ []
facts_end i count h = let e : count - i ≡ 0 = omega arith in ap (facts_from i) e

-- one axiom is added or passed over
pub axiom_added : (Is : Part → Type 0) (is : Source → Bool) (n : ℕ) (s : Source) (old new : List Part) → is s ≡ true → Adds Is (part.Axiom n ∷ []) old new → Adds Is (axioms_where is n (s ∷ [])) old new
axiom_added Is is n s old new e a = subst (λ (ps : List Part). Adds Is ps old new) (sym (ap (λ (b : Bool). if b then part.Axiom n ∷ [] else []) e)) a

pub axiom_passed : (Is : Part → Type 0) (is : Source → Bool) (n : ℕ) (s : Source) (old new : List Part) → is s ≡ false → new ≡ old → Adds Is (axioms_where is n (s ∷ [])) old new
axiom_passed Is is n s old new e q = subst (λ (l : List Part). Adds Is (axioms_where is n (s ∷ [])) old l) (sym q) (subst (λ (ps : List Part). Adds Is ps old old) (sym (ap (λ (b : Bool). if b then part.Axiom n ∷ [] else []) e)) (adds_none Is old))

pub encoding_is : (s : Source) (b : Bool) → is_clause s ≡ b → is_encoding s ≡ (if b then false else true)
encoding_is (source.Clause c) true e = refl
encoding_is source.Reflexive false e = refl
encoding_is (source.Goal c) false e = refl
encoding_is v w e = absurd cc

-- how many parts there are
both_axioms : (n m : ℕ) (ss : List Source) → length (axioms_where is_clause n ss) + length (axioms_where is_encoding m ss) ≡ length ss
both_axioms n m [] = refl
both_axioms n m (source.Clause c ∷ ss) = let e = both_axioms (n + 1) (m + 1) ss in omega (arith, e)
both_axioms n m (source.Reflexive ∷ ss) = let e = both_axioms (n + 1) (m + 1) ss in omega (arith, e)
both_axioms n m (source.Goal c ∷ ss) = let e = both_axioms (n + 1) (m + 1) ss in omega (arith, e)

denials_count : (cs : List ℕ) → length (map part.Denial cs) ≡ length cs
denials_count [] = refl
denials_count (c ∷ cs) = ap suc (denials_count cs)

facts_count : (n many : ℕ) → length (facts_from n many) ≡ many
facts_count n zero = refl
facts_count n (suc many) = ap suc (facts_count (n + 1) many)

pub parts_count : (ss : List Source) (cs : List ℕ) (many : ℕ) → length (axioms_where is_clause 0 ss ++ (map part.Denial cs ++ (axioms_where is_encoding 0 ss ++ (facts_from 0 many ++ part.Conclusion ∷ part.Refutation ∷ [])))) ≡ length ss + length cs + many + 2
parts_count ss cs many =
    let ends = part.Conclusion ∷ part.Refutation ∷ [] in
    let f = facts_from 0 many ++ ends in
    let e = axioms_where is_encoding 0 ss ++ f in
    let d = map part.Denial cs ++ e in
    omega (arith, length-append (axioms_where is_clause 0 ss) d, length-append (map part.Denial cs) e, length-append (axioms_where is_encoding 0 ss) f, length-append (facts_from 0 many) ends, both_axioms 0 0 ss, denials_count cs, facts_count 0 many)

-- the axiom of a source is one of those that are pushed, or not
pub kind_is : (clauses : Bool) (s : Source) (b : Bool) → b ≡ is_clause s → beq b clauses ≡ true → (if clauses then is_clause else is_encoding) s ≡ true
kind_is true s true e f = sym e
kind_is false s false e f = encoding_is s false (sym e)
kind_is v s w e f = absurd cc

pub kind_is_not : (clauses : Bool) (s : Source) (b : Bool) → b ≡ is_clause s → beq b clauses ≡ false → (if clauses then is_clause else is_encoding) s ≡ false
kind_is_not true s false e f = sym e
kind_is_not false s true e f = encoding_is s true (sym e)
kind_is_not v s w e f = absurd cc

-- what is added to nothing
pub adds_all : (Is : Part → Type 0) (ps empty new : List Part) → empty ≡ [] → Adds Is ps empty new → Selects Is ps new
adds_all Is ps empty new e a = subst (Selects Is ps) (sym (a.new_is ∙ ap (λ l. l ++ a.more) e)) a.selected
