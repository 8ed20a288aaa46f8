-- What a grown table keeps, and where the symbols of terms over a table stand.
use Rattle.std.proofs.Common.{◌≡◌, ℕ, zero, suc, ◌+◌, ◌<◌, ◌==◌, true, false, List, [], ◌∷◌, ◌++◌, length, slice_get, bytes_eq, unwrap_or, Some, None, Result, Ok, if◌then◌else◌, refl, sym, ap, ap₂, ◌∙◌, subst, arith, ◌⊎◌, inl, inr, append-nil}
use Rattle.uc_term.specs.declared.node.Sym.{Sym}
use Rattle.uc_term.specs.declared.node.Node.TheVariants.{App}
use Rattle.uc_term.specs.declared.fault.TermFault.{TermFault}
use Rattle.uc_term.specs.Tree.{Tree, var, app, Trees, none, more}
use Rattle.uc_term.specs.Flat.{flat, flat_all}
use Rattle.uc_term.specs.Over.{AreOver}
use Rattle.uc_term.specs.Table.{Table, Entry, entry_of, name_of, arity_of, Has, IsSymbol, IsInterned, IsOf, Grows, AddsAtMost}
use Rattle.uc_term.specs.Signatures.{Occurrence, occurrences_in, occurrences_from, occurrences_of, Gathers, has_constant, gets_constant, IsSignatureOf, all_seen, seen_before, is_new, clashes, is_too_many, first_named, first_constant, tried_name, IsFree, IsFreshFor, least_word}
use Rattle.uc_term.specs.Gathering.{HasAll, HasNodes, AreOf}
use Rattle.uc_term.proofs.Gets.{get-append_cases}
use Rattle.uc_term.proofs.Gets.{get_pushed}
use Rattle.uc_term.proofs.Gathered.{occurrences_in-append}

get_front : {A : Type 0} (xs ys : List A) (i : ℕ) → i < length xs → slice_get (xs ++ ys) i ≡ slice_get xs i
get_front [] ys i h = absurd (omega arith)
get_front (x ∷ xs) ys zero h = refl
get_front (x ∷ xs) ys (suc i) h = get_front xs ys i (omega arith)

pub interned_grows : (old new : Table) (name : List ℕ) (arity : ℕ) (f : Sym) → IsInterned old new name arity f → Grows old new
interned_grows old new name arity f i = go i.1
  where
    go : ((new ≡ old) × Has old f) ⊎ ((new ≡ old ++ record { name = name; arity = arity } ∷ []) × ((g : Sym) → IsSymbol old g name arity → ⊥)) → Grows old new
    go (inl a) = ([], a.0 ∙ sym (append-nil old))
    go (inr b) = (record { name = name; arity = arity } ∷ [], b.0)

module _ (old new : Table) (grows : Grows old new) where
  pub entry-grows : (f : Sym) → Has old f → entry_of new f ≡ entry_of old f
  entry-grows f h = ap (λ o. unwrap_or o (record { name = []; arity = 0 })) (ap (λ t. slice_get t f.0) grows.1 ∙ get_front old grows.0 f.0 h)

  pub name-grows : (f : Sym) → Has old f → name_of new f ≡ name_of old f
  name-grows f h = ap (λ (e : Entry). e.name) (entry-grows f h)

  pub arity-grows : (f : Sym) → Has old f → arity_of new f ≡ arity_of old f
  arity-grows f h = ap (λ (e : Entry). e.arity) (entry-grows f h)

  tail_has : (f : Sym) (fs : List Sym) → HasAll old (f ∷ fs) → HasAll old fs
  tail_has f fs h i g e = h (suc i) g e

  pub first_named-grows : (fs : List Sym) (name : List ℕ) → HasAll old fs → first_named new name fs ≡ first_named old name fs
  first_named-grows [] name h = refl
  first_named-grows (f ∷ fs) name h = ap₂ (λ n r. if bytes_eq n name then Some f else r) (name-grows f (h zero f refl)) (first_named-grows fs name (tail_has f fs h))

  pub first_constant-grows : (fs : List Sym) → HasAll old fs → first_constant new fs ≡ first_constant old fs
  first_constant-grows [] h = refl
  first_constant-grows (f ∷ fs) h = ap₂ (λ n r. if n == 0 then Some f else r) (arity-grows f (h zero f refl)) (first_constant-grows fs (tail_has f fs h))

  abbrev pub AllHave : List Occurrence → Type 0
  AllHave [] = Unit {0}
  AllHave (o ∷ os) = Has old o.symbol × AllHave os

  pushed_has : (fs : List Sym) (f : Sym) → HasAll old fs → Has old f → HasAll old (fs ++ f ∷ [])
  pushed_has fs f h k i g e = go (get_pushed fs f i g e)
    where
      go : (slice_get fs i ≡ Some g) ⊎ ((i ≡ length fs) × (g ≡ f)) → Has old g
      go (inl a) = h i g a
      go (inr b) = subst (Has old) (sym b.1) k

  pub gathers-grows : {seen : List Sym} {os : List Occurrence} {fs : List Sym} {r : Result (List Sym) TermFault} → Gathers old seen os r → r ≡ Ok fs → HasAll old seen → AllHave os → Gathers new seen os (Ok fs) × HasAll old fs
  gathers-grows {seen = seen} {fs = fs} all_seen e h a = let same : seen ≡ fs = cc in rw (← same) (all_seen, h)
  gathers-grows (seen_before k g) e h a = let r = gathers-grows g e h a.1 in (seen_before k r.0, r.1)
  gathers-grows {seen = seen} (is_new {o = o} n m g) e h a =
      let r = gathers-grows g e (pushed_has seen o.symbol h a.0) a.1 in
      (is_new (ap (λ n. first_named new n seen) (name-grows o.symbol a.0) ∙ first_named-grows seen (name_of old o.symbol) h ∙ n) m r.0, r.1)
  gathers-grows (clashes k n) e h a = absurd cc
  gathers-grows (is_too_many n m) e h a = absurd cc

  have_append : (xs ys : List Occurrence) → AllHave xs → AllHave ys → AllHave (xs ++ ys)
  have_append [] ys h k = k
  have_append (x ∷ xs) ys h k = (h.0, have_append xs ys h.1 k)

  mutual
    have_flat : (t : Tree) → IsOf old t → (term p : ℕ) → AllHave (occurrences_in term p (flat t))
    have_flat (var x) o term p = tt
    have_flat (app f ts) o term p = (o.0, have_flat_all ts o.2 term (p + 1))

    have_flat_all : (ts : Trees) → AreOver (Has old) (arity_of old) (λ _. Unit {0}) ts → (term p : ℕ) → AllHave (occurrences_in term p (flat_all ts))
    have_flat_all none o term p = tt
    have_flat_all (more t ts) o term p = rw (occurrences_in-append term p (flat t) (flat_all ts)) (have_append (occurrences_in term p (flat t)) (occurrences_in term (p + length (flat t)) (flat_all ts)) (have_flat t o.0 term p) (have_flat_all ts o.1 term (p + length (flat t))))

  pub have_from : (ts : List Tree) (n : ℕ) → AreOf old ts → AllHave (occurrences_from n ts)
  have_from [] n o = tt
  have_from (t ∷ ts) n o = have_append (occurrences_in n 0 (flat t)) (occurrences_from (n + 1) ts) (have_flat t (o zero t refl) n 0) (have_from ts (n + 1) (λ i u e. o (suc i) u e))

module _ (table : Table) where
  mutual
    -- the nodes of a term over the table
    pub has_nodes : (t : Tree) → IsOf table t → HasNodes table (flat t)
    has_nodes (var x) o zero f n e = absurd cc
    has_nodes (var x) o (suc i) f n e = absurd cc
    has_nodes (app g ts) o zero f n e = let same : g ≡ f = cc in subst (Has table) same o.0
    has_nodes (app g ts) o (suc i) f n e = has_nodes_all ts o.2 i f n e

    has_nodes_all : (ts : Trees) → AreOver (Has table) (arity_of table) (λ _. Unit {0}) ts → HasNodes table (flat_all ts)
    has_nodes_all none o i f n e = absurd cc
    has_nodes_all (more t ts) o i f n e = elim (get-append_cases (flat t) (flat_all ts) i (App f n) e) [
      | inl a ↦ has_nodes t o.0 i f n a
      | inr b ↦ has_nodes_all ts o.1 b.0 f n b.1
    ]

-- the fresh symbol, in the table with it
pub is_fresh_for : (old new : Table) (word : List ℕ) (arity : ℕ) (fs : List Sym) (f : Sym) (number : ℕ) → HasAll old fs → IsInterned old new (tried_name word number) arity f → IsFree old fs (tried_name word number) → ((n : ℕ) → n < number → IsFree old fs (tried_name word n) → ⊥) → IsFreshFor new word arity fs f
is_fresh_for old new word arity fs f number has i free none_before =
    let g = interned_grows old new (tried_name word number) arity f i in
    record {
      number = number;
      symbol = i.0;
      free = first_named-grows old new g fs (tried_name word number) has ∙ free;
      first = λ n h e. none_before n h (sym (first_named-grows old new g fs (tried_name word n) has) ∙ e);
    }

pub adds_at_most : (old new : Table) (name : List ℕ) (arity : ℕ) (f : Sym) → IsInterned old new name arity f → AddsAtMost old new f
adds_at_most old new name arity f i = go i.1
  where
    here : record { name = name; arity = arity } ≡ entry_of new f
    here = ap (λ o. unwrap_or o (record { name = []; arity = 0 })) (sym i.0)

    go : ((new ≡ old) × Has old f) ⊎ ((new ≡ old ++ record { name = name; arity = arity } ∷ []) × ((g : Sym) → IsSymbol old g name arity → ⊥)) → AddsAtMost old new f
    go (inl a) = inl a.0
    go (inr b) = inr (b.0 ∙ ap (λ e. old ++ e ∷ []) here)

-- the two ways to a signature
pub with_constant : (table : Table) (ts : List Tree) (fs symbols : List Sym) (c : Sym) → Gathers table [] (occurrences_of ts) (Ok fs) → Some c ≡ first_constant table fs → symbols ≡ fs → IsSignatureOf table ts (record { symbols = symbols; least = c; least_is_fresh = false })
with_constant table ts fs symbols c g e same = rw same (record { symbols = fs; gathers = g; completes = has_constant (sym e) })

pub with_fresh : (old new : Table) (ts : List Tree) (fs symbols : List Sym) (c : Sym) → AreOf old ts → Grows old new → Gathers old [] (occurrences_of ts) (Ok fs) → first_constant old fs ≡ None → IsFreshFor new least_word 0 fs c → symbols ≡ fs ++ c ∷ [] → IsSignatureOf new ts (record { symbols = symbols; least = c; least_is_fresh = true })
with_fresh old new ts fs symbols c of grows g without fresh same =
    let r = gathers-grows old new grows g refl (λ i f e. absurd cc) (have_from old new grows ts 0 of) in
    rw same (record { symbols = fs; gathers = r.0; completes = gets_constant (first_constant-grows old new grows fs r.1 ∙ without) fresh })
