-- The symbols of a problem that can be printed, with those of its encoding, can be printed.
use Rattle.std.proofs.Common.{ℕ, zero, suc, ◌≡◌, ◌<◌, ◌≤◌, ◌+◌, ◌/◌, ◌%◌, ◌==◌, Bool, true, false, List, [], ◌∷◌, ◌++◌, codes, unwrap_or, Option, Some, None, Result, Ok, if◌then◌else◌, refl, sym, ap, ◌∙◌, subst, arith, length-append}
use Rattle.std.specs.Prelude.{decimal}
use Rattle.std.specs.Fmt.{digit_glyph, digits_onto, digits}
use Rattle.std.proofs.lemmas.Bool.{and_from}
use Rattle.std.proofs.lemmas.Bool.Decides.{nat_tests}
use Rattle.std.proofs.lemmas.Option.{slice_get_within}
use Rattle.uc_term.specs.declared.node.Sym.{Sym}
use Rattle.uc_term.specs.declared.node.Node.{Node}
use Rattle.uc_term.specs.declared.node.Node.TheVariants.{Var, App}
use Rattle.uc_term.specs.declared.fault.TermFault.{TermFault}
use Rattle.uc_term.specs.declared.fresh.Fresh.{Fresh}
use Rattle.uc_term.specs.declared.signature.Signature.{Signature}
use Rattle.uc_term.specs.Tree.{Tree, var, app, Trees, none, more}
use Rattle.uc_term.specs.Flat.{flat, flat_all}
use Rattle.uc_term.specs.Over.{AreOver}
use Rattle.uc_term.specs.Table.{Table, Entry, IsSymbol, name_of, arity_of}
use Rattle.uc_term.specs.Signatures.{Occurrence, occurrences_in, occurrences_from, Gathers, all_seen, seen_before, is_new, clashes, is_too_many, tried_name, IsFreshFor, least_word, Completes, has_constant, gets_constant}
use Rattle.uc_order.specs.Members.{Each}
use Rattle.uc_clause.specs.declared.clause.Sourced.{Sourced}
use Rattle.uc_clause.specs.Bytes.{between}
use Rattle.uc_clause.specs.Names.{IsSpellable}
use Rattle.uc_clause.specs.Printable.{IsPrintableSymbol, IsPrintable}
use Rattle.uc_problem.specs.declared.problem.Problem.{Problem}
use Rattle.uc_problem.specs.declared.problem.Encoded.{Encoded}
use Rattle.uc_problem.specs.Holds.{terms_of, Agrees}
use Rattle.uc_problem.specs.Marks.{Marks}
use Rattle.uc_problem.specs.Encodes.{encoding_of, Encodes}
use Rattle.uc_ordering.specs.Choice.{all_symbols}
use Rattle.uc_answer.specs.PrintableProblems.{are_seen, ArePrintableSourced}
use Rattle.uc_answer.proofs.PrintableFiles.{seen_both}

-- NUMBERS

digit_seen : (d : ℕ) → d < 10 → between 32 126 (digit_glyph false d) ≡ true
digit_seen d h = grind (arith, nat_tests)

onto_seen : (k n : ℕ) (acc : List ℕ) → are_seen acc ≡ true → are_seen (digits_onto k 10 false n acc) ≡ true
onto_seen zero n acc h = h
onto_seen (suc k) n acc h =
    let below : n % 10 < 10 = omega arith in
    let more : are_seen (digit_glyph false (n % 10) ∷ acc) ≡ true = and_from (between 32 126 (digit_glyph false (n % 10))) (are_seen acc) (digit_seen (n % 10) below) h in
    go (n / 10 == 0) more (onto_seen k (n / 10) (digit_glyph false (n % 10) ∷ acc) more)
  where
    go : (b : Bool) → are_seen (digit_glyph false (n % 10) ∷ acc) ≡ true → are_seen (digits_onto k 10 false (n / 10) (digit_glyph false (n % 10) ∷ acc)) ≡ true → are_seen (if b then digit_glyph false (n % 10) ∷ acc else digits_onto k 10 false (n / 10) (digit_glyph false (n % 10) ∷ acc)) ≡ true
    go true p q = p
    go false p q = q

decimal_seen : (n : ℕ) → are_seen (decimal n) ≡ true
unfolding digits
decimal_seen n = onto_seen 64 n [] refl

tried_spellable : (word : List ℕ) (n : ℕ) → IsSpellable word → IsSpellable (tried_name word n)
tried_spellable word zero s = s
tried_spellable word (suc n) s =
    let front = word ++ codes "_" in
    (omega (arith, s.0, length-append front (decimal (n + 1)), length-append word (codes "_")), seen_both front (decimal (n + 1)) (seen_both word (codes "_") s.1 refl) (decimal_seen (n + 1)))

module _ (table : Table) where
  -- a symbol of this name and arity
  symbol_printable : (f : Sym) (name : List ℕ) (n : ℕ) → IsSymbol table f name n → IsSpellable name → n ≤ 255 → IsPrintableSymbol table f
  symbol_printable f name n s spelled few =
      let named : name_of table f ≡ name = ap (λ (o : Option Entry). (unwrap_or o (record { name = []; arity = 0 })).name) s in
      let bounded : arity_of table f ≡ n = ap (λ (o : Option Entry). (unwrap_or o (record { name = []; arity = 0 })).arity) s in
      (slice_get_within table f.0 _ s, subst IsSpellable (sym named) spelled, omega (arith, bounded, few))

  fresh_printable : (word : List ℕ) (n : ℕ) (fs : List Sym) (f : Sym) → IsSpellable word → n ≤ 255 → IsFreshFor table word n fs f → IsPrintableSymbol table f
  fresh_printable word n fs f spelled few h = symbol_printable f (tried_name word h.number) n h.symbol (tried_spellable word h.number spelled) few

  -- TERMS

  abbrev PrintableNode : Node → Type 0
  PrintableNode (Var x) = Unit {0}
  PrintableNode (App f n) = IsPrintableSymbol table f

  both : {A : Type 0} (P : A → Type 0) (xs ys : List A) → Each P xs → Each P ys → Each P (xs ++ ys)
  both P [] ys h k = k
  both P (x ∷ xs) ys h k = (h.0, both P xs ys h.1 k)

  mutual
    nodes_printable : (t : Tree) → IsPrintable table t → Each PrintableNode (flat t)
    nodes_printable (var x) h = (tt, tt)
    nodes_printable (app f ts) h = (h.0, all_nodes_printable ts h.2)

    all_nodes_printable : (ts : Trees) → AreOver (IsPrintableSymbol table) (arity_of table) (λ _. Unit {0}) ts → Each PrintableNode (flat_all ts)
    all_nodes_printable none h = tt
    all_nodes_printable (more t ts) h = both PrintableNode (flat t) (flat_all ts) (nodes_printable t h.0) (all_nodes_printable ts h.1)

  abbrev PrintableOccurrence : Occurrence → Type 0
  PrintableOccurrence o = IsPrintableSymbol table o.symbol

  in_printable : (term place : ℕ) (ns : List Node) → Each PrintableNode ns → Each PrintableOccurrence (occurrences_in term place ns)
  in_printable term place [] h = tt
  in_printable term place (Var x ∷ ns) h = in_printable term (place + 1) ns h.1
  in_printable term place (App f n ∷ ns) h = (h.0, in_printable term (place + 1) ns h.1)

  from_printable : (term : ℕ) (ts : List Tree) → Each (IsPrintable table) ts → Each PrintableOccurrence (occurrences_from term ts)
  from_printable term [] h = tt
  from_printable term (t ∷ ts) h = both PrintableOccurrence (occurrences_in term 0 (flat t)) (occurrences_from (term + 1) ts) (in_printable term 0 (flat t) (nodes_printable t h.0)) (from_printable (term + 1) ts h.1)

  terms_printable : (ss : List Sourced) → ArePrintableSourced table ss → Each (IsPrintable table) (terms_of ss)
  terms_printable [] h = tt
  terms_printable (s ∷ ss) h = (h.0.1.1, (h.0.1.2, terms_printable ss h.1))

  -- SIGNATURES

  gathered_printable : {seen : List Sym} {os : List Occurrence} {r : Result (List Sym) TermFault} → Gathers table seen os r → (fs : List Sym) → r ≡ Ok fs → Each (IsPrintableSymbol table) seen → Each PrintableOccurrence os → Each (IsPrintableSymbol table) fs
  gathered_printable {seen = seen} all_seen fs e h k = let same : seen ≡ fs = cc in subst (Each (IsPrintableSymbol table)) same h
  gathered_printable (seen_before b g) fs e h k = gathered_printable g fs e h k.1
  gathered_printable {seen = seen} (is_new {o = o} n m g) fs e h k = gathered_printable g fs e (both (IsPrintableSymbol table) seen (o.symbol ∷ []) h (k.0, tt)) k.1
  gathered_printable (clashes b n) fs e h k = absurd cc
  gathered_printable (is_too_many n m) fs e h k = absurd cc

  completed_printable : (fs : List Sym) (signature : Signature) → Completes table fs signature → Each (IsPrintableSymbol table) fs → Each (IsPrintableSymbol table) signature.symbols
  completed_printable fs _ (has_constant e) h = h
  completed_printable fs _ (gets_constant {c = c} e f) h = both (IsPrintableSymbol table) fs (c ∷ []) h (fresh_printable least_word 0 fs c (omega arith, refl) (omega arith) f, tt)

  module _ (problem : Problem) (agrees : Agrees table problem) (h : ArePrintableSourced table problem.clauses) where
    own_printable : Each (IsPrintableSymbol table) problem.signature.symbols
    own_printable = completed_printable agrees.signature.symbols problem.signature agrees.signature.completes (gathered_printable agrees.signature.gathers agrees.signature.symbols refl tt (from_printable 0 (terms_of problem.clauses) (terms_printable problem.clauses h)))

    with_marks : (fresh : Option Fresh) → Marks table problem (Ok fresh) → Each (IsPrintableSymbol table) (all_symbols problem.signature fresh)
    with_marks None m = own_printable
    with_marks (Some marks) m =
        let fs = problem.signature.symbols in
        both (IsPrintableSymbol table) fs (marks.yes ∷ marks.no ∷ marks.eq ∷ []) own_printable (
          fresh_printable (codes "true") 0 fs marks.yes (omega arith, refl) (omega arith) m.2.yes,
          (fresh_printable (codes "false") 0 fs marks.no (omega arith, refl) (omega arith) m.2.no, (fresh_printable (codes "eq") 2 fs marks.eq (omega arith, refl) (omega arith) m.2.eq, tt)),
        )

    -- those of the order's signature
    pub symbols_printable : (encoded : Encoded) → Encodes table problem (Ok encoded) → Each (IsPrintableSymbol table) (all_symbols problem.signature encoded.fresh)
    symbols_printable encoded e = with_marks encoded.fresh e.0

-- the signature of an encoded problem
pub encoded_symbols : (table : Table) (problem : Problem) (encoded : Encoded) → Encodes table problem (Ok encoded) → encoded.signature.symbols ≡ all_symbols problem.signature encoded.fresh
encoded_symbols table problem encoded e = ap (λ (x : Encoded). x.signature.symbols) e.1 ∙ go encoded.fresh
  where
    go : (fresh : Option Fresh) → (encoding_of problem fresh).signature.symbols ≡ all_symbols problem.signature fresh
    go None = refl
    go (Some marks) = refl
