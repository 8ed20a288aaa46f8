-- What is known of a problem in a table of symbols stays so in every later table.
use Rattle.std.proofs.Common.{◌≡◌, ℕ, zero, suc, List, [], ◌∷◌, ◌++◌, length, slice_get, Some, Result, Err, bytes_eq, Bool, true, false, if◌then◌else◌, refl, sym, ap, ◌∙◌, subst, ◌⊎◌, inl, inr}
use Rattle.uc_term.specs.declared.node.Sym.{Sym}
use Rattle.uc_term.specs.declared.signature.Signature.{Signature}
use Rattle.uc_term.specs.declared.fault.TermFault.{TermFault}
use Rattle.uc_term.specs.declared.fault.TermFault.TheVariants as of_terms
use Rattle.uc_term.specs.Tree.{Tree}
use Rattle.uc_term.specs.Table.{Table, Has, Grows, name_of, arity_of}
use Rattle.uc_term.specs.Gathering.{HasAll, AreOf}
use Rattle.uc_term.specs.Signatures.{Occurrence, occurrences_of, Gathers, all_seen, seen_before, is_new, clashes, is_too_many, first_named, tried_name, IsFreshFor, Completes, has_constant, gets_constant, IsSignatureOf}
use Rattle.uc_term.proofs.Tables.{get_pushed}
use Rattle.uc_term.proofs.Grown.{AllHave, have_from, gathers-grows, first_named-grows, first_constant-grows, name-grows, arity-grows}
use Rattle.uc_clause.proofs.Tables.{symbol_grows}
use Rattle.uc_problem.specs.declared.problem.Problem.{Problem}
use Rattle.uc_problem.specs.Holds.{Agrees, terms_of}
use Rattle.uc_problem.proofs.Sound.{term_later}

none_named : (t : Table) → HasAll t []
none_named t i f e = absurd cc

module _ (old new : Table) (grows : Grows old new) where
  pub fresh_later : (word : List ℕ) (arity : ℕ) (fs : List Sym) (f : Sym) → HasAll old fs → IsFreshFor old word arity fs f → IsFreshFor new word arity fs f
  fresh_later word arity fs f has h = record {
    number = h.number;
    symbol = symbol_grows old new f (tried_name word h.number) arity grows h.symbol;
    free = first_named-grows old new grows fs (tried_name word h.number) has ∙ h.free;
    first = λ n less e. h.first n less (sym (first_named-grows old new grows fs (tried_name word n) has) ∙ e);
  }

  completes_later : (fs : List Sym) (signature : Signature) → HasAll old fs → Completes old fs signature → Completes new fs signature
  completes_later fs _ has (has_constant e) = has_constant (first_constant-grows old new grows fs has ∙ e)
  completes_later fs _ has (gets_constant {c = c} e fresh) = gets_constant (first_constant-grows old new grows fs has ∙ e) (fresh_later _ 0 fs c has fresh)

  pub signature_later : (ts : List Tree) (signature : Signature) → AreOf old ts → IsSignatureOf old ts signature → IsSignatureOf new ts signature
  signature_later ts signature of s =
      let g = gathers-grows old new grows s.gathers refl (none_named old) (have_from old new grows ts 0 of) in
      record { symbols = s.symbols; gathers = g.0; completes = completes_later s.symbols signature g.1 s.completes }

  pub terms_later : (ts : List Tree) → AreOf old ts → AreOf new ts
  terms_later ts of i t e = term_later old new grows t (of i t e)

  pub agrees_later : (problem : Problem) → Agrees old problem → Agrees new problem
  agrees_later problem a = record {
    axioms = a.axioms;
    goals = a.goals;
    over = terms_later (terms_of problem.clauses) a.over;
    signature = signature_later (terms_of problem.clauses) problem.signature a.over a.signature;
  }

  named_has : (seen : List Sym) (name : List ℕ) (f : Sym) → HasAll old seen → first_named old name seen ≡ Some f → Has old f
  named_has [] name f has e = absurd cc
  named_has (g ∷ gs) name f has e = go (bytes_eq (name_of old g) name) e (named_has gs name f (λ i x q. has (suc i) x q))
    where
      go : (b : Bool) → (if b then Some g else first_named old name gs) ≡ Some f → (first_named old name gs ≡ Some f → Has old f) → Has old f
      go true e later = let same : g ≡ f = cc in subst (Has old) same (has zero g refl)
      go false e later = later e

  pub pushed : (fs : List Sym) (f : Sym) → HasAll old fs → Has old f → HasAll old (fs ++ f ∷ [])
  pushed fs f h k i g e = go (get_pushed fs f i g e)
    where
      go : (slice_get fs i ≡ Some g) ⊎ ((i ≡ length fs) × (g ≡ f)) → Has old g
      go (inl a) = h i g a
      go (inr b) = subst (Has old) (sym b.1) k

  -- occurrences over the old table come to the same in the new one, faults too
  gathers_later : {seen : List Sym} {os : List Occurrence} {r : Result (List Sym) TermFault} → Gathers old seen os r → HasAll old seen → AllHave old new grows os → Gathers new seen os r
  gathers_later all_seen h a = all_seen
  gathers_later (seen_before k g) h a = seen_before k (gathers_later g h a.1)
  gathers_later {seen = seen} (is_new {o = o} n m g) h a =
      is_new (ap (λ n. first_named new n seen) (name-grows old new grows o.symbol a.0) ∙ first_named-grows old new grows seen (name_of old o.symbol) h ∙ n) m (gathers_later g (pushed seen o.symbol h a.0) a.1)
  gathers_later {seen = seen} (clashes {o = o} {os = os} {f = f} k n) h a =
      let named = ap (λ n. first_named new n seen) (name-grows old new grows o.symbol a.0) ∙ first_named-grows old new grows seen (name_of old o.symbol) h ∙ n in
      subst (λ (x : ℕ). Gathers new seen (o ∷ os) (Err (of_terms.ArityClash o.term (record { 0 = o.place }) x (arity_of old o.symbol)))) (arity-grows old new grows f (named_has seen (name_of old o.symbol) f h n))
      (subst (λ (x : ℕ). Gathers new seen (o ∷ os) (Err (of_terms.ArityClash o.term (record { 0 = o.place }) (arity_of new f) x))) (arity-grows old new grows o.symbol a.0) (clashes k named))
  gathers_later {seen = seen} (is_too_many {o = o} n m) h a =
      is_too_many (ap (λ n. first_named new n seen) (name-grows old new grows o.symbol a.0) ∙ first_named-grows old new grows seen (name_of old o.symbol) h ∙ n) m

  pub all_gathers_later : (ts : List Tree) (r : Result (List Sym) TermFault) → AreOf old ts → Gathers old [] (occurrences_of ts) r → Gathers new [] (occurrences_of ts) r
  all_gathers_later ts r of g = gathers_later g (none_named old) (have_from old new grows ts 0 of)
