-- A library holds one problem under a name, or refuses it for one reason.
use Rattle.std.proofs.Common.{◌≡◌, ℕ, ◌≤◌, true, false, List, [], ◌∷◌, length, slice_get, Option, Some, Result, Ok, Err, refl, sym, ap, ◌∙◌, subst, arith}
use Rattle.uc_term.specs.declared.node.Sym.{Sym}
use Rattle.uc_term.specs.declared.node.Pos.{Pos}
use Rattle.uc_term.specs.declared.node.Node.{Node}
use Rattle.uc_term.specs.declared.node.Node.TheVariants.{App}
use Rattle.uc_term.specs.declared.fault.TermFault.{TermFault}
use Rattle.uc_term.specs.declared.fault.TermFault.TheVariants as of_terms
use Rattle.uc_term.specs.Flat.{flat}
use Rattle.uc_term.specs.Table.{Table, IsDistinct}
use Rattle.uc_term.specs.Signatures.{Gathers, occurrences_of, IsSignatureOf}
use Rattle.uc_edge.specs.Files.{Files}
use Rattle.uc_clause.specs.declared.token.Place.{Place}
use Rattle.uc_clause.specs.declared.clause.Sourced.{Sourced}
use Rattle.uc_problem.specs.declared.counts.Counts.{Counts}
use Rattle.uc_problem.specs.declared.flat.FlatClause.{FlatClause}
use Rattle.uc_problem.specs.declared.problem.Problem.{Problem}
use Rattle.uc_problem.specs.declared.fault.LoadFault.{LoadFault}
use Rattle.uc_problem.specs.Candidates.{folder_of}
use Rattle.uc_problem.specs.Loading.{Loaded}
use Rattle.uc_problem.specs.Conjecture.{conjectures, second_conjecture, AreClosed}
use Rattle.uc_problem.specs.Holds.{ReadsAs, Flattens, terms_of, numbers_of, located, Agrees, Gives, Holds, HasNoSignature, clashes, is_too_many, Refuses, is_not_flat, has_second, is_unsigned}
use Rattle.uc_problem.proofs.Outcomes.{some_once, err_once, ok_or_err, first_once, second_once}
use Rattle.uc_problem.proofs.ReadsOnce.{reads_once}
use Rattle.uc_problem.proofs.LoadsOnce.{given_once, problem_once}
use Rattle.uc_problem.proofs.SignatureOnce.{gathers_once, signature_once}
use Rattle.uc_problem.proofs.ClosedOnce.{closed_once}

same_clash : {a b c d i j : ℕ} {p q : Pos} → Path (Result (List Sym) TermFault) (Err (of_terms.ArityClash a p c d)) (Err (of_terms.ArityClash b q i j)) → (b ≡ a) × (q ≡ p) × (c ≡ i) × (d ≡ j)
same_clash e = (cc, cc, cc, cc)

same_limit : {a b : ℕ} {p q : Pos} → Path (Result (List Sym) TermFault) (Err (of_terms.TooMany a p)) (Err (of_terms.TooMany b q)) → (b ≡ a) × (q ≡ p)
same_limit e = (cc, cc)

clash_or_limit : {a b c d : ℕ} {p q : Pos} → Path (Result (List Sym) TermFault) (Err (of_terms.ArityClash a p c d)) (Err (of_terms.TooMany b q)) → ⊥
clash_or_limit e = absurd cc

same_symbol : {o : Option Node} {f g : Sym} {m n : ℕ} → o ≡ Some (App f m) → o ≡ Some (App g n) → f ≡ g
same_symbol e f = cc

same_spot : {o : Option (List ℕ × Place)} {a b : List ℕ} {p q : Place} → o ≡ Some (a, p) → o ≡ Some (b, q) → (a ≡ b) × (p ≡ q)
same_spot e f = let both = some_once e f in (first_once both, second_once both)

-- a second conjecture is one, and there is none where there is at most one
pub same_second : {spots : List (List ℕ × Place)} {a b c d : List ℕ × Place} {p q : List (List ℕ × Place)} → spots ≡ a ∷ b ∷ p → spots ≡ c ∷ d ∷ q → b ≡ d
same_second e f = cc

pub one_or_two : {spots : List (List ℕ × Place)} {a b : List ℕ × Place} {p : List (List ℕ × Place)} → length spots ≤ 1 → spots ≡ a ∷ b ∷ p → ⊥
one_or_two h e = absurd (omega (arith, h, ap length e))

-- clauses have no signature for one reason
module _ (table : Table) (clauses : List Sourced) where
  pub unsigned_once : {a b : LoadFault} → HasNoSignature table clauses a → HasNoSignature table clauses b → a ≡ b
  unsigned_once (clashes {term = i} {first = p} {second = q} {pos = pos} {f = f} {file = file} {place = place} g s l) (clashes {term = j} {first = v} {second = w} {pos = other} {f = h} {file = others} {place = there} k t m) =
      let same = same_clash (gathers_once table g k) in
      let firsts : p ≡ v = same.2 in
      let seconds : q ≡ w = same.3 in
      let tree : t.tree ≡ s.tree = some_once (subst (λ z. slice_get (terms_of clauses) z ≡ Some t.tree) same.0 t.tree_at) s.tree_at in
      let node : slice_get (flat s.tree) pos.0 ≡ Some (App h t.count) = subst (λ z. slice_get (flat s.tree) z.0 ≡ Some (App h t.count)) same.1 (subst (λ z. slice_get (flat z) other.0 ≡ Some (App h t.count)) tree t.node_at) in
      let symbols : f ≡ h = same_symbol s.node_at node in
      let spot = same_spot l (subst (λ z. located clauses i z.0 ≡ Some (others, there)) same.1 (subst (λ z. located clauses z other.0 ≡ Some (others, there)) same.0 m)) in
      let named : file ≡ others = spot.0 in
      let places : place ≡ there = spot.1 in
      rw (named, places, symbols, firsts, seconds) refl
  unsigned_once (clashes g s l) (is_too_many k m) = absurd (clash_or_limit (gathers_once table g k))
  unsigned_once (is_too_many g l) (clashes k t m) = absurd (clash_or_limit (gathers_once table k g))
  unsigned_once (is_too_many {term = i} {pos = pos} {file = file} {place = place} g l) (is_too_many {term = j} {pos = other} {file = others} {place = there} k m) =
      let same = same_limit (gathers_once table g k) in
      let spot = same_spot l (subst (λ z. located clauses i z.0 ≡ Some (others, there)) same.1 (subst (λ z. located clauses z other.0 ≡ Some (others, there)) same.0 m)) in
      let named : file ≡ others = spot.0 in
      let places : place ≡ there = spot.1 in
      rw (named, places) refl

  pub signed_or_not : {fs : List Sym} {why : LoadFault} → Gathers table [] (occurrences_of (terms_of clauses)) (Ok fs) → HasNoSignature table clauses why → ⊥
  signed_or_not g (clashes k s l) = ok_or_err (gathers_once table g k)
  signed_or_not g (is_too_many k l) = ok_or_err (gathers_once table g k)

module _ (table : Table) (distinct : IsDistinct table) where
  -- problems of the same clauses and the same conjecture whose parts agree are one
  pub agrees_once : (a b : Problem) → a.clauses ≡ b.clauses → Agrees table a → Agrees table b → a.conjecture ≡ b.conjecture → a ≡ b
  agrees_once a b clauses x y conjectures =
      let axioms : a.axioms ≡ b.axioms = x.axioms ∙ ap (numbers_of true 0) clauses ∙ sym y.axioms in
      let goals : a.goals ≡ b.goals = x.goals ∙ ap (numbers_of false 0) clauses ∙ sym y.goals in
      let signatures : a.signature ≡ b.signature = signature_once table distinct x.signature (subst (λ ss. IsSignatureOf table (terms_of ss) b.signature) (sym clauses) y.signature) in
      let all : record { clauses = a.clauses; axioms = a.axioms; goals = a.goals; signature = a.signature; conjecture = a.conjecture } ≡ (let p : Problem = record { clauses = b.clauses; axioms = b.axioms; goals = b.goals; signature = b.signature; conjecture = b.conjecture } in p) = rw (clauses, axioms, goals, signatures, conjectures) refl in
      all

  module _ (files : Files) (root : Option (List ℕ)) (name : List ℕ) where
    flat_once : {a b : Loaded} → Flattens table files root name a → Flattens table files root name b → a ≡ b
    flat_once x y = problem_once (ReadsAs table) (reads_once table distinct) files (folder_of name) root x y

    pub flats_once : {a b : List FlatClause} {m n : Counts} → Flattens table files root name (Ok (a, m)) → Flattens table files root name (Ok (b, n)) → a ≡ b
    flats_once x y = (given_once (flat_once x y)).0

    pub gives_once : {a b : List Sourced} {m n : Option ℕ} → Gives table files root name a m → Gives table files root name b n → (a ≡ b) × (m ≡ n)
    gives_once {b = b} {n = n} x y = closed_once x.flats table distinct x.closed (subst (λ flats. AreClosed table flats b n) (flats_once y.flat x.flat) y.closed)

    pub problem_is_once : (a b : Problem) → Holds table files root name a → Holds table files root name b → a ≡ b
    problem_is_once a b x y = let same = gives_once x.gives y.gives in agrees_once a b same.0 x.agrees y.agrees same.1

    -- what is given has no second conjecture
    given_or_second : {clauses : List Sourced} {conjecture : Option ℕ} {flats : List FlatClause} {counts : Counts} {first second : List ℕ × Place} {rest : List (List ℕ × Place)} → Gives table files root name clauses conjecture → Flattens table files root name (Ok (flats, counts)) → conjectures flats ≡ first ∷ second ∷ rest → ⊥
    given_or_second {first = first} {second = second} {rest = rest} x y e = one_or_two x.closed.one (subst (λ flats. conjectures flats ≡ first ∷ second ∷ rest) (flats_once y x.flat) e)

    pub refusal_is_once : {a b : LoadFault} → Refuses table files root name a → Refuses table files root name b → a ≡ b
    refusal_is_once (is_not_flat x) (is_not_flat y) = err_once (flat_once x y)
    refusal_is_once (is_not_flat x) (has_second y e) = absurd (ok_or_err (flat_once y x))
    refusal_is_once (is_not_flat x) (is_unsigned y h) = absurd (ok_or_err (flat_once y.flat x))
    refusal_is_once (has_second x e) (is_not_flat y) = absurd (ok_or_err (flat_once x y))
    refusal_is_once (has_second x e) (has_second {first = first} {second = second} {rest = rest} y f) = ap second_conjecture (same_second e (subst (λ flats. conjectures flats ≡ first ∷ second ∷ rest) (flats_once y x) f))
    refusal_is_once (has_second x e) (is_unsigned y h) = absurd (given_or_second y x e)
    refusal_is_once (is_unsigned x h) (is_not_flat y) = absurd (ok_or_err (flat_once x.flat y))
    refusal_is_once (is_unsigned x h) (has_second y e) = absurd (given_or_second x y e)
    refusal_is_once {b = b} (is_unsigned {clauses = clauses} x h) (is_unsigned y k) = unsigned_once table clauses h (subst (λ ss. HasNoSignature table ss b) (gives_once y x).0 k)

    pub held_or_refused : {held : Problem} {why : LoadFault} → Holds table files root name held → Refuses table files root name why → ⊥
    held_or_refused x (is_not_flat y) = ok_or_err (flat_once x.gives.flat y)
    held_or_refused x (has_second y e) = given_or_second x.gives y e
    held_or_refused {held} {why} x (is_unsigned y h) = signed_or_not table held.clauses x.agrees.signature.gathers (subst (λ ss. HasNoSignature table ss why) (gives_once y x.gives).0 h)
