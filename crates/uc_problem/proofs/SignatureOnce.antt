-- Occurrences gather to one thing, a fresh symbol is one, and so is a signature.
use Rattle.std.proofs.Common.{◌≡◌, ℕ, ◌<◌, List, None, Result, Err, true, refl, ap, subst, arith, ◌⊎◌, inl, inr}
use Rattle.std.specs.List.{list_any}
use Rattle.uc_term.specs.declared.node.Sym.{Sym}
use Rattle.uc_term.specs.declared.fault.TermFault.{TermFault}
use Rattle.uc_term.specs.declared.fault.TermFault.TheVariants.{ArityClash}
use Rattle.uc_term.specs.declared.signature.Signature.{Signature}
use Rattle.uc_term.specs.Tree.{Tree}
use Rattle.uc_term.specs.Table.{Table, IsSymbol, IsDistinct, name_of, arity_of}
use Rattle.uc_term.specs.Signatures.{Occurrence, Gathers, all_seen, seen_before, is_new, clashes, is_too_many, same_symbol, first_named, tried_name, IsFreshFor, Completes, has_constant, gets_constant, IsSignatureOf}
use Rattle.uc_term.proofs.Gathered.{any_get}
use Rattle.uc_problem.proofs.FreshMarks.{free_differs}
use Rattle.uc_problem.proofs.Outcomes.{yes_or_no, less_or_not, some_once, some_or_none, ok_once}

module _ (table : Table) where
  -- a symbol that was seen has its name among them
  seen_has_name : (f : Sym) (seen : List Sym) → list_any (same_symbol f) seen ≡ true → first_named table (name_of table f) seen ≡ None → ⊥
  seen_has_name f seen k n = let at = any_get f seen k in free_differs table seen (name_of table f) at.0 f n at.1 refl

  pub gathers_once : {seen : List Sym} {os : List Occurrence} {a b : Result (List Sym) TermFault} → Gathers table seen os a → Gathers table seen os b → a ≡ b
  gathers_once all_seen all_seen = refl
  gathers_once (seen_before k g) (seen_before l h) = gathers_once g h
  gathers_once {seen = seen} (seen_before {o = o} k g) (is_new n m h) = absurd (seen_has_name o.symbol seen k n)
  gathers_once (seen_before k g) (clashes l n) = absurd (yes_or_no k l)
  gathers_once {seen = seen} (seen_before {o = o} k g) (is_too_many n m) = absurd (seen_has_name o.symbol seen k n)
  gathers_once {seen = seen} (is_new n m g) (seen_before {o = o} k h) = absurd (seen_has_name o.symbol seen k n)
  gathers_once (is_new n m g) (is_new o p h) = gathers_once g h
  gathers_once (is_new n m g) (clashes l o) = absurd (some_or_none o n)
  gathers_once (is_new n m g) (is_too_many o p) = absurd (less_or_not m p)
  gathers_once (clashes l n) (seen_before k h) = absurd (yes_or_no k l)
  gathers_once (clashes l o) (is_new n m h) = absurd (some_or_none o n)
  gathers_once (clashes {o = o} {f = f} l n) (clashes {f = g} k m) = ap (λ h. Err (ArityClash o.term (record { 0 = o.place }) (arity_of table h) (arity_of table o.symbol))) (some_once n m)
  gathers_once (clashes l o) (is_too_many n m) = absurd (some_or_none o n)
  gathers_once {seen = seen} (is_too_many n m) (seen_before {o = o} k h) = absurd (seen_has_name o.symbol seen k n)
  gathers_once (is_too_many n m) (is_new o p h) = absurd (less_or_not p m)
  gathers_once (is_too_many n m) (clashes l o) = absurd (some_or_none o n)
  gathers_once (is_too_many n m) (is_too_many o p) = refl

  module _ (distinct : IsDistinct table) where
    symbol_once : {f g : Sym} {name : List ℕ} {arity : ℕ} → IsSymbol table f name arity → IsSymbol table g name arity → f ≡ g
    symbol_once {f} {g} {name} {arity} p q = ap (λ (i : ℕ). let s : Sym = record { 0 = i } in s) (distinct f.0 g.0 (record { name = name; arity = arity }) p q)

    pub fresh_once : {word : List ℕ} {arity : ℕ} {fs : List Sym} {f g : Sym} → IsFreshFor table word arity fs f → IsFreshFor table word arity fs g → f ≡ g
    fresh_once {word} {arity} {f = f} {g = g} p q = go order
      where
        order : (q.number ≡ p.number) ⊎ ((p.number < q.number) ⊎ (q.number < p.number))
        order = grind arith

        go : (q.number ≡ p.number) ⊎ ((p.number < q.number) ⊎ (q.number < p.number)) → f ≡ g
        go (inl e) = symbol_once p.symbol (subst (λ n. IsSymbol table g (tried_name word n) arity) e q.symbol)
        go (inr (inl l)) = absurd (q.first p.number l p.free)
        go (inr (inr l)) = absurd (p.first q.number l q.free)

    completes_once : {fs : List Sym} {a b : Signature} → Completes table fs a → Completes table fs b → a ≡ b
    completes_once (has_constant {c = c} e) (has_constant {c = d} f) = let same : c ≡ d = some_once e f in rw same refl
    completes_once (has_constant e) (gets_constant f q) = absurd (some_or_none e f)
    completes_once (gets_constant e p) (has_constant f) = absurd (some_or_none f e)
    completes_once (gets_constant {c = c} e p) (gets_constant {c = d} f q) = let same : c ≡ d = fresh_once p q in rw same refl

    pub signature_once : {ts : List Tree} {a b : Signature} → IsSignatureOf table ts a → IsSignatureOf table ts b → a ≡ b
    signature_once {b = b} x y = completes_once x.completes (subst (λ fs. Completes table fs b) (ok_once (gathers_once y.gathers x.gathers)) y.completes)
