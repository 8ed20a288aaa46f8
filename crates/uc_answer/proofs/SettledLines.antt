-- No line of a status and a system begins as a certificate does.
use Rattle.std.proofs.Common.{◌⊎◌, inl, inr, ℕ, ◌≡◌, ◌<◌, ◌≤◌, ◌+◌, ◌^◌, Bool, true, false, List, [], ◌∷◌, ◌++◌, length, codes, cond, decimal, refl, arith}
use Rattle.std.specs.Option.{is_some}
use Rattle.uc_term.specs.declared.node.Sym.{Sym}
use Rattle.uc_term.specs.declared.equation.Equation.{Equation}
use Rattle.uc_term.specs.Table.{Table, name_of, arity_of}
use Rattle.uc_clause.specs.Bytes.{in_line}
use Rattle.uc_clause.specs.Names.{spelling}
use Rattle.uc_clause.specs.Printable.{IsPrintableSymbol}
use Rattle.uc_tstp.specs.Printable.{IsProofName}
use Rattle.uc_problem.specs.declared.problem.Problem.{Problem}
use Rattle.uc_order.specs.Members.{Each}
use Rattle.uc_order.specs.declared.spec.OrderSpec.{OrderSpec}
use Rattle.uc_order.specs.declared.spec.OrderSpec.TheVariants.{Kbo, Lpo}
use Rattle.uc_kbo.specs.Faults.{weighed, NoneBad}
use Rattle.uc_ordering.specs.Fits.{IsTotalSpec}
use Rattle.uc_system.specs.Header.{heading_line, weighing_words, paths_line}
use Rattle.uc_system.specs.Symbols.{symbol_words, symbol_front}
use Rattle.uc_system.specs.Facts.{IsFact, end_line, fact_line}
use Rattle.uc_system.specs.Reading.{precedence_of}
use Rattle.uc_system.specs.Printing.{ended, is_light, order_line, bare_line, weighed_line, weighed_text, bare_text, symbols_text, facts_text, system_text}
use Rattle.uc_system.specs.Printable.{IsPrintableSystem}
use Rattle.uc_system.proofs.Decimals.{all_append, decimal_in_line}
use Rattle.uc_system.proofs.FactTexts.{fact_readable}
use Rattle.uc_system.proofs.TextsInLine.{InLine, spelling_in_line, fact_in_line}
use Rattle.uc_certificate.specs.Headings.{HasNoLine, nothing_stands, other_stands}
use Rattle.uc_certificate.proofs.LinesPassed.{no_line_both}
use Rattle.uc_answer.specs.CertificateLines.{begins_certificate}
use Rattle.uc_answer.specs.StatusLines.{line_for, status_line, saturated_word}

abbrev pub HasNone : List ℕ → Type 0
HasNone text = HasNoLine begins_certificate text

-- one line
one_line : (line : List ℕ) → InLine line → begins_certificate line ≡ false → HasNone (ended line)
one_line line all other = other_stands all other nothing_stands

pub both : (a b : List ℕ) → HasNone a → HasNone b → HasNone (a ++ b)
both a b h k = no_line_both begins_certificate b h k

-- the line of a problem's name, behind these words
pub title_line : (words name : List ℕ) → InLine words → IsProofName name → begins_certificate (words ++ codes " for " ++ name) ≡ false → HasNone (line_for words name)
title_line words name all named other = one_line (words ++ codes " for " ++ name) (all_append in_line (words ++ codes " for ") name (all_append in_line words (codes " for ") all refl) named.1) other

-- the status line of a problem of which no goal follows
pub status_none : (problem : Problem) (name : List ℕ) → IsProofName name → HasNone (status_line (saturated_word problem) name)
status_none problem name named = go (is_some problem.conjecture)
  where
    go : (b : Bool) → HasNone (status_line (cond b (codes "CounterSatisfiable") (codes "Satisfiable")) name)
    go true = title_line (codes "% SZS status " ++ codes "CounterSatisfiable") name refl named refl
    go false = title_line (codes "% SZS status " ++ codes "Satisfiable") name refl named refl

low_weight : (w : ℕ) → (1000000 < w → ⊥) → w < 2 ^ 64
low_weight w n = go (let d : (1000000 < w) ⊎ (w ≤ 1000000) = grind arith in d)
  where
    go : (1000000 < w) ⊎ (w ≤ 1000000) → w < 2 ^ 64
    go (inl h) = absurd (n h)
    go (inr h) = omega (arith, h)

module _ (table : Table) where
  -- SYMBOLS

  bare_in_line : (f : Sym) → IsPrintableSymbol table f → InLine (bare_line table f)
  bare_in_line f p = all_append in_line (symbol_front (name_of table f)) (decimal (arity_of table f)) (all_append in_line (symbol_words ++ spelling (name_of table f)) (codes " ") (all_append in_line symbol_words (spelling (name_of table f)) refl (spelling_in_line (name_of table f) p.1)) refl) (decimal_in_line (arity_of table f) (omega (arith, p.2)))

  weighed_in_line : (f : Sym) (w : ℕ) → IsPrintableSymbol table f → w < 2 ^ 64 → InLine (weighed_line table f w)
  weighed_in_line f w p small = all_append in_line (bare_line table f ++ codes " ") (decimal w) (all_append in_line (bare_line table f) (codes " ") (bare_in_line f p) refl) (decimal_in_line w small)

  weighed_none : (w0 : ℕ) (fs : List Sym) (ws : List ℕ) → Each (IsPrintableSymbol table) fs → NoneBad w0 (weighed table fs ws) → HasNone (weighed_text table fs ws)
  weighed_none w0 [] ws all none = nothing_stands
  weighed_none w0 (f ∷ fs) [] all none = nothing_stands
  weighed_none w0 (f ∷ fs) (w ∷ ws) all none = both (ended (weighed_line table f w)) (weighed_text table fs ws) (one_line (weighed_line table f w) (weighed_in_line f w all.0 (low_weight w (λ h. none.0 (inl h)))) refl) (weighed_none w0 fs ws all.1 none.1)

  bare_none : (fs : List Sym) → Each (IsPrintableSymbol table) fs → HasNone (bare_text table fs)
  bare_none [] all = nothing_stands
  bare_none (f ∷ fs) all = both (ended (bare_line table f)) (bare_text table fs) (one_line (bare_line table f) (bare_in_line f all.0) refl) (bare_none fs all.1)

  -- the order's line and those of its symbols
  symbols_none : (spec : OrderSpec) → IsTotalSpec table (precedence_of spec) spec → Each (IsPrintableSymbol table) (precedence_of spec) → HasNone (ended (order_line spec)) × HasNone (symbols_text table spec)
  symbols_none (Kbo w0 ws fs) total all = (one_line (weighing_words ++ decimal w0) (all_append in_line weighing_words (decimal w0) refl (decimal_in_line w0 (let h = total.1.w0_most in omega (arith, h)))) refl, weighed_none w0 fs ws all total.1.none_bad)
  symbols_none (Lpo fs) total all = (one_line paths_line refl refl, bare_none fs all)

  -- FACTS

  module _ (precedence : List Sym) (printable : Each (IsPrintableSymbol table) precedence) where
    facts_none : (k : ℕ) (es : List Equation) → k + length es < 2 ^ 64 → Each (IsFact table precedence) es → HasNone (facts_text table k es)
    facts_none k [] few all = nothing_stands
    facts_none k (e ∷ es) few all =
        let r = fact_readable table precedence printable e all.0 in
        both (ended (fact_line table k e)) (facts_text table (k + 1) es) (one_line (fact_line table k e) (fact_in_line table k e (omega arith) r.left r.right) refl) (facts_none (k + 1) es (omega arith) all.1)

  -- THE SYSTEM

  heading_none : (light : Bool) → HasNone (ended (heading_line light))
  heading_none true = one_line (codes "% system 2") refl refl
  heading_none false = one_line (codes "% system 1") refl refl

  pub system_none : (spec : OrderSpec) (es : List Equation) → length es < 2 ^ 32 → IsPrintableSystem table spec es → HasNone (system_text table spec es)
  system_none spec es few p =
      let symbols = symbols_none spec p.fits.total p.symbols in
      let heading = ended (heading_line (is_light spec)) in
      let order = ended (order_line spec) in
      both (heading ++ order ++ symbols_text table spec ++ facts_text table 1 es) (ended end_line)
      (both (heading ++ order ++ symbols_text table spec) (facts_text table 1 es)
      (both (heading ++ order) (symbols_text table spec) (both heading order (heading_none (is_light spec)) symbols.0) symbols.1)
      (facts_none (precedence_of spec) p.symbols 1 es (omega (arith, few)) p.facts))
      (one_line end_line refl refl)
