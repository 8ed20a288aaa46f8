-- The reader of a fact's line.
use Rattle.std.proofs.Common.{◌≡◌, ℕ, ◌+◌, ◌<◌, ◌≤◌, ◌^◌, List, ◌++◌, length, length-append, append_assoc, sym, ap, ◌∙◌, subst, arith}
use Rattle.std.specs.Prelude.{true, Some, None, Ok, Err}
use Rattle.uc_term.specs.declared.node.Sym.{Sym}
use Rattle.uc_term.specs.declared.equation.Equation.{Equation}
use Rattle.uc_term.specs.Table.{Table}
use Rattle.uc_clause.specs.Printing.{term_text, sign_text, equation_text}
use Rattle.uc_clause.specs.Printable.{IsPrintableSymbol}
use Rattle.uc_order.specs.Members.{Each}
use Rattle.uc_system.specs.declared.facts.Unread.{Unread}
use Rattle.uc_system.specs.declared.facts.Unread.TheVariants as unread
use Rattle.uc_system.specs.Facts.{fact_front, fact_end, HasLargeTerm, left_is_large, right_is_large, IsLargeLine, is_large}
use Rattle.uc_system.specs.Unread.{IsLargeText, IsFactIn, IsLargeOr, ReadsFact, ReadsFactLine, IsShort, further}
use Rattle.uc_system.proofs.FactTexts.{between_once}
use Rattle.uc_system.proofs.Stays.{fact_text_stays}

-- the term's first byte is one of the text
large_place_within : (table : Table) (e : Equation) (from : ℕ) → HasLargeTerm table e from → from ≤ length (equation_text table true e.left e.right)
large_place_within table e _ (left_is_large h) = omega arith
large_place_within table e _ (right_is_large h k) = omega (arith, length-append (term_text table e.left ++ sign_text true) (term_text table e.right), ap length (append_assoc (term_text table e.left) (sign_text true) (term_text table e.right)))

large_within : (table : Table) (keys : List Sym) (text : List ℕ) (from : ℕ) → IsLargeText table keys text from → from ≤ length text
large_within table keys text from l = omega (arith, ap length l.is, large_place_within table l.equation from l.large)

pub large_line_within : (table : Table) (keys : List Sym) (k : ℕ) (line : List ℕ) (from : ℕ) → IsLargeLine table keys k line from → from ≤ length line
large_line_within table keys k line _ (is_large {e = e} {from = a} is fact large) =
    let text : List ℕ = equation_text table true e.left e.right in
    omega (arith, ap length is, length-append (fact_front k ++ text) fact_end, length-append (fact_front k) text, large_place_within table e a large)

pub found_reads : (table : Table) (keys : List Sym) → Each (IsPrintableSymbol table) keys → (text : List ℕ) (e : Equation) → IsFactIn table keys text (Some e) → ReadsFact table keys text (Ok e)
found_reads table keys printable text e h = λ later g. fact_text_stays table later g keys printable text e h

pub none_reads : (table : Table) (keys : List Sym) (text : List ℕ) (u : Unread) → IsFactIn table keys text None → IsLargeOr table keys text u → ReadsFact table keys text (Err u)
none_reads table keys text unread.Departs h l = (h, l)
none_reads table keys text (unread.Large from) h l = l
none_reads table keys text unread.NoMemory h l = tt

pub no_frame : (table : Table) (keys : List Sym) (k : ℕ) (line : List ℕ) → ((text : List ℕ) → line ≡ fact_front k ++ text ++ fact_end → ⊥) → ReadsFactLine table keys k line (Err unread.Departs)
no_frame table keys k line n = (λ e l. n (equation_text table true e.left e.right) l.is, λ from l. no_large from l)
  where
    no_large : (from : ℕ) → IsLargeLine table keys k line from → ⊥
    no_large _ (is_large {e = e} is fact large) = n (equation_text table true e.left e.right) is

module _ (table : Table) (keys : List Sym) (k : ℕ) (line front text : List ℕ) (f : front ≡ fact_front k) (is : line ≡ front ++ text ++ fact_end) where
  frame : line ≡ fact_front k ++ text ++ fact_end
  frame = is ∙ ap (λ x. x ++ text ++ fact_end) f

  pub line_read : (e : Equation) → ReadsFact table keys text (Ok e) → ReadsFactLine table keys k line (Ok e)
  line_read e h = λ later g. (let t = h later g in record { is = frame ∙ ap (λ x. fact_front k ++ x ++ fact_end) t.is; fact = t.fact })

  pub line_unread : (u : Unread) → ReadsFact table keys text (Err u) → ReadsFactLine table keys k line (Err (further (length front) u))
  line_unread unread.Departs h = (
    λ e l. h.0 e (record { is = between_once k text (equation_text table true e.left e.right) (sym frame ∙ l.is); fact = l.fact }),
    λ from l. no_large from l,
  )
    where
      no_large : (from : ℕ) → IsLargeLine table keys k line from → ⊥
      no_large _ (is_large {e = e} {from = a} g fact large) = h.1 a (record { equation = e; is = between_once k text (equation_text table true e.left e.right) (sym frame ∙ g); fact = fact; large = large })
  line_unread (unread.Large from) h = let place : length (fact_front k) + from ≡ length front + from = ap (λ x. length x + from) (sym f) in subst (IsLargeLine table keys k line) place (is_large (frame ∙ ap (λ x. fact_front k ++ x ++ fact_end) h.is) h.fact h.large)
  line_unread unread.NoMemory h = tt

  pub short_text : length line < 2 ^ 31 → length text < 2 ^ 31
  short_text small = omega (arith, ap length is, length-append (front ++ text) fact_end, length-append front text)

  pub short_unread : length line < 2 ^ 31 → (u : Unread) → ReadsFact table keys text (Err u) → IsShort u
  short_unread small unread.Departs h = tt
  short_unread small (unread.Large from) h = omega (arith, large_within table keys text from h, short_text small)
  short_unread small unread.NoMemory h = tt
