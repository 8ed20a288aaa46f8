-- What reading makes of a table without an entry twice is such a table.
use Rattle.std.proofs.Common.{ℕ, ◌≡◌, Bool, true, false, List, [], ◌∷◌, ◌++◌, length, slice_get, Some, if◌then◌else◌, refl, sym, ap, ◌∙◌, subst, arith}
use Rattle.std.proofs.lemmas.List.{length-append}
use Rattle.std.specs.List.{list_any}
use Rattle.uc_term.specs.declared.node.Sym.{Sym}
use Rattle.uc_term.specs.Table.{Table, Entry, IsDistinct}
use Rattle.uc_term.proofs.Finds.{differ_push}
use Rattle.uc_clause.specs.declared.token.Token.{Token}
use Rattle.uc_clause.specs.Terminals.{word_at}
use Rattle.uc_clause.specs.Parse.{Parse, variable, applied, Parses, no_more, also, count_all}
use Rattle.uc_clause.specs.Interning.{is_entry_of, with_symbol, with_term, with_terms, InternsTerm, InternsEquation}
use Rattle.uc_clause.proofs.Interned.{symbol_kept}
use Rattle.uc_tstp.specs.Parse.{Body, says, falsum, Step, Source, from_file, by_chain, by_reflexive, by_goal, by_refute, Line}
use Rattle.uc_tstp.specs.Reading.{inside}
use Rattle.uc_tstp.specs.Interning.{with_body, with_steps, with_source, with_line, with_lines, InternsProof}

-- a table isn't one with an entry more
longer : (table : Table) (e : Entry) → table ++ e ∷ [] ≡ table → ⊥
longer table e same = omega (arith, ap length same, length-append table (e ∷ []))

symbol_distinct : (table : Table) (name : List ℕ) (arity : ℕ) → IsDistinct table → IsDistinct (with_symbol table name arity)
symbol_distinct table name arity d = go (list_any (is_entry_of name arity) table) refl
  where
    entry : Entry
    entry = record { name = name; arity = arity }

    -- an entry that stands there is found
    isnt_there : list_any (is_entry_of name arity) table ≡ false → (j : ℕ) → slice_get table j ≡ Some entry → ⊥
    isnt_there e j at =
        let f : Sym = record { 0 = j } in
        longer table entry (sym (ap (λ (b : Bool). if b then table else table ++ entry ∷ []) e) ∙ symbol_kept table f name arity at)

    go : (b : Bool) → list_any (is_entry_of name arity) table ≡ b → IsDistinct (if b then table else table ++ entry ∷ [])
    go true e = d
    go false e = differ_push table entry d (isnt_there e)

module _ (bytes : List ℕ) (tokens : List Token) where
  mutual
    term_distinct : (table : Table) (p : Parse) → IsDistinct table → IsDistinct (with_term bytes tokens table p)
    term_distinct table (variable k) d = d
    term_distinct table (applied k ps) d = symbol_distinct (with_terms bytes tokens table ps) (word_at bytes tokens k) (count_all ps) (terms_distinct table ps d)

    terms_distinct : (table : Table) (ps : Parses) → IsDistinct table → IsDistinct (with_terms bytes tokens table ps)
    terms_distinct table no_more d = d
    terms_distinct table (also p ps) d = terms_distinct (with_term bytes tokens table p) ps (term_distinct table p d)

pub read_term_distinct : (word : List ℕ) (old new : Table) → InternsTerm word old new → IsDistinct old → IsDistinct new
read_term_distinct word old new i d = subst IsDistinct (sym i.new_is) (term_distinct word i.tokens old i.parse d)

pub read_equation_distinct : (word : List ℕ) (old new : Table) → InternsEquation word old new → IsDistinct old → IsDistinct new
read_equation_distinct word old new i d = subst IsDistinct (sym i.new_is) (term_distinct word i.tokens (with_term word i.tokens old i.parse.left) i.parse.right (term_distinct word i.tokens old i.parse.left d))

-- and of a proof
module _ (bytes : List ℕ) (tokens : List Token) where
  body_distinct : (table : Table) (b : Body) → IsDistinct table → IsDistinct (with_body bytes tokens table b)
  body_distinct table (says l) d = term_distinct bytes tokens (with_term bytes tokens table l.sides.left) l.sides.right (term_distinct bytes tokens table l.sides.left d)
  body_distinct table falsum d = d

  steps_distinct : (table : Table) (ss : List Step) → IsDistinct table → IsDistinct (with_steps bytes tokens table ss)
  steps_distinct table [] d = d
  steps_distinct table (s ∷ ss) d = steps_distinct (with_term bytes tokens table s.to) ss (term_distinct bytes tokens table s.to d)

  source_distinct : (table : Table) (s : Source) → IsDistinct table → IsDistinct (with_source bytes tokens table s)
  source_distinct table (from_file name) d = d
  source_distinct table (by_chain start steps parents) d = steps_distinct (with_term bytes tokens table start) steps (term_distinct bytes tokens table start d)
  source_distinct table (by_reflexive parents) d = d
  source_distinct table (by_goal parents) d = d
  source_distinct table (by_refute parents) d = d

  lines_distinct : (table : Table) (ls : List Line) → IsDistinct table → IsDistinct (with_lines bytes tokens table ls)
  lines_distinct table [] d = d
  lines_distinct table (l ∷ ls) d = lines_distinct (with_line bytes tokens table l) ls (source_distinct (with_body bytes tokens table l.body) l.source (body_distinct table l.body d))

pub read_proof_distinct : (text : List ℕ) (old new : Table) → InternsProof text old new → IsDistinct old → IsDistinct new
read_proof_distinct text old new i d = subst IsDistinct (sym i.interns.new_is) (lines_distinct (inside text i.frame) i.interns.tokens old i.interns.lines d)
