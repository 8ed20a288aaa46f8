-- The facts' lines are read in one way.
use Rattle.std.proofs.Common.{◌≡◌, ℕ, ◌+◌, List, [], ◌∷◌, ◌++◌, length, get_or, refl, sym, ap, ◌∙◌, subst, arith}
use Rattle.std.specs.Prelude.{true}
use Rattle.uc_term.specs.declared.node.Sym.{Sym}
use Rattle.uc_term.specs.declared.equation.Equation.{Equation}
use Rattle.uc_term.specs.Table.{Table, IsDistinct}
use Rattle.uc_clause.specs.Printing.{equation_text}
use Rattle.uc_clause.specs.Printable.{IsPrintableSymbol}
use Rattle.uc_order.specs.Members.{Each}
use Rattle.uc_system.specs.declared.fault.SystemFault.TheVariants.{Limit}
use Rattle.uc_system.specs.Lines.{Cut, place_in, Outcome, gets, fails}
use Rattle.uc_system.specs.Facts.{end_line, fact_front, fact_end, IsFactLine, IsLargeLine, is_large, FactsAt, no_more_facts, one_more_fact, has_large_term, is_no_fact, is_no_whole_line, fact_lines}
use Rattle.uc_system.specs.Unread.{IsFactText, IsLargeText}
use Rattle.uc_system.proofs.LinesOnce.{Once}
use Rattle.uc_system.proofs.SymbolsOnce.{some_once, some_or_none}
use Rattle.uc_system.proofs.FactTexts.{fact_text_once, fact_sized, between_once}
use Rattle.uc_system.proofs.SidesRead.{large_text_once, small_or_large}

two_bytes : (n : ℕ) → n ≡ 37 → n ≡ 99 → ⊥
two_bytes n e f = omega arith

-- the last line is none of a fact
other_line : (k : ℕ) (text line : List ℕ) → line ≡ end_line → line ≡ fact_front k ++ text ++ fact_end → ⊥
other_line k text line e f = two_bytes (get_or line 0 0) (ap (λ l. get_or l 0 0) e) (ap (λ l. get_or l 0 0) f)

large_is : (table : Table) (precedence : List Sym) (k : ℕ) (line : List ℕ) (from : ℕ) → IsLargeLine table precedence k line from → (text : List ℕ) × (line ≡ fact_front k ++ text ++ fact_end)
large_is table precedence k line _ (is_large {e = e} is fact large) = (equation_text table true e.left e.right, is)

module _ (table : Table) (precedence : List Sym) (printable : Each (IsPrintableSymbol table) precedence) where
  -- the text in a line with a term that is too large
  large_text : (k : ℕ) (line : List ℕ) (at : ℕ) → IsLargeLine table precedence k line at → (text : List ℕ) → line ≡ fact_front k ++ text ++ fact_end → (from : ℕ) × (at ≡ length (fact_front k) + from) × IsLargeText table precedence text from
  large_text k line _ (is_large {e = e} {from = from} is fact large) text here = (from, refl, record { equation = e; is = between_once k text (equation_text table true e.left e.right) (sym here ∙ is); fact = fact; large = large })

  large_line_once : (k : ℕ) (line : List ℕ) (f g : ℕ) → IsLargeLine table precedence k line f → IsLargeLine table precedence k line g → f ≡ g
  large_line_once k line f g l m =
      let here = large_is table precedence k line f l in
      let a = large_text k line f l here.0 here.1 in
      let b = large_text k line g m here.0 here.1 in
      a.1 ∙ ap (λ n. length (fact_front k) + n) (large_text_once table precedence printable here.0 a.0 b.0 a.2 b.2) ∙ sym b.1

  pub text_of : (k : ℕ) (line : List ℕ) (e : Equation) → IsFactLine table precedence k line e → IsFactText table precedence (equation_text table true e.left e.right) e
  text_of k line e l = record { is = refl; fact = l.fact }

  pub fact_or_large : (k : ℕ) (line : List ℕ) (e : Equation) (from : ℕ) → IsFactLine table precedence k line e → IsLargeLine table precedence k line from → ⊥
  fact_or_large k line e from l m =
      let b = large_text k line from m (equation_text table true e.left e.right) l.is in
      small_or_large table precedence printable (equation_text table true e.left e.right) e refl (fact_sized table precedence printable e l.fact) l.fact.left.small l.fact.right.small b.0 b.2

  module _ (d : IsDistinct table) where
    fact_line_once : (k : ℕ) (line : List ℕ) (e g : Equation) → IsFactLine table precedence k line e → IsFactLine table precedence k line g → e ≡ g
    fact_line_once k line e g l m =
        let texts : equation_text table true e.left e.right ≡ equation_text table true g.left g.right = between_once k (equation_text table true e.left e.right) (equation_text table true g.left g.right) (sym l.is ∙ m.is) in
        fact_text_once table precedence printable d (equation_text table true e.left e.right) e g (text_of k line e l) (record { is = texts; fact = m.fact })

    abbrev FactHere : ℕ → Equation → Cut → Type 0
    FactHere k e c = IsFactLine table precedence k c.line e

    abbrev LargeHere : ℕ → ℕ → Cut → Type 0
    LargeHere k from c = IsLargeLine table precedence k c.line from

    facts_once : {earlier : List Equation} {n : ℕ} {text : List ℕ} {o p : Outcome (List Equation)} → FactsAt table precedence earlier n text o → FactsAt table precedence earlier n text p → o ≡ p
    facts_once {earlier} {n} (no_more_facts {c = c} e l) (no_more_facts {c = g} f m) = let cuts : c ≡ g = some_once c g (sym e ∙ f) in ap (λ (x : Cut). gets earlier (n + 1) x.rest) cuts
    facts_once (no_more_facts {c = c} e l) (one_more_fact {c = g} f m y) = absurd (other_line _ _ c.line l (ap (λ (x : Cut). x.line) (some_once c g (sym e ∙ f)) ∙ m.is))
    facts_once (no_more_facts {c = c} e l) (has_large_term {from = a} {c = g} f m) = absurd (let t = large_is table precedence _ g.line a m in other_line _ t.0 c.line l (ap (λ (x : Cut). x.line) (some_once c g (sym e ∙ f)) ∙ t.1))
    facts_once (no_more_facts {c = c} e l) (is_no_fact {c = g} f m x y) = absurd (m (ap (λ (x : Cut). x.line) (some_once g c (sym f ∙ e)) ∙ l))
    facts_once (no_more_facts {c = c} e l) (is_no_whole_line f) = absurd (some_or_none _ c e f)
    facts_once (one_more_fact {c = c} e l x) (no_more_facts {c = g} f m) = absurd (other_line _ _ g.line m (ap (λ (x : Cut). x.line) (some_once g c (sym f ∙ e)) ∙ l.is))
    facts_once {earlier} {n} {text} {o} {p} (one_more_fact {c = c} {e = a} e l x) (one_more_fact {c = g} {e = b} f m y) =
        let cuts : g ≡ c = some_once g c (sym f ∙ e) in
        let same : b ≡ a = fact_line_once (length earlier + 1) c.line b a (subst (FactHere (length earlier + 1) b) cuts m) l in
        facts_once x (subst (λ (z : Equation). FactsAt table precedence (earlier ++ z ∷ []) (n + 1) c.rest p) same (subst (λ (z : Cut). FactsAt table precedence (earlier ++ b ∷ []) (n + 1) z.rest p) cuts y))
    facts_once {earlier} (one_more_fact {c = c} {e = a} e l x) (has_large_term {from = b} {c = g} f m) = absurd (fact_or_large (length earlier + 1) c.line a b l (subst (LargeHere (length earlier + 1) b) (some_once g c (sym f ∙ e)) m))
    facts_once {earlier} (one_more_fact {c = c} {e = a} e l x) (is_no_fact {c = g} f m y z) = absurd (y a (subst (FactHere (length earlier + 1) a) (some_once c g (sym e ∙ f)) l))
    facts_once (one_more_fact {c = c} e l x) (is_no_whole_line f) = absurd (some_or_none _ c e f)
    facts_once (has_large_term {from = a} {c = c} e l) (no_more_facts {c = g} f m) = absurd (let t = large_is table precedence _ c.line a l in other_line _ t.0 g.line m (ap (λ (x : Cut). x.line) (some_once g c (sym f ∙ e)) ∙ t.1))
    facts_once {earlier} (has_large_term {from = b} {c = c} e l) (one_more_fact {c = g} {e = a} f m y) = absurd (fact_or_large (length earlier + 1) g.line a b m (subst (LargeHere (length earlier + 1) b) (some_once c g (sym e ∙ f)) l))
    facts_once {earlier} {n} (has_large_term {from = a} {c = c} e l) (has_large_term {from = b} {c = g} f m) = ap (λ x. fails (Limit (place_in n x))) (large_line_once (length earlier + 1) g.line a b (subst (LargeHere (length earlier + 1) a) (some_once c g (sym e ∙ f)) l) m)
    facts_once {earlier} (has_large_term {from = a} {c = c} e l) (is_no_fact {c = g} f m y z) = absurd (z a (subst (LargeHere (length earlier + 1) a) (some_once c g (sym e ∙ f)) l))
    facts_once (has_large_term {c = c} e l) (is_no_whole_line f) = absurd (some_or_none _ c e f)
    facts_once (is_no_fact {c = c} e l x y) (no_more_facts {c = g} f m) = absurd (l (ap (λ (x : Cut). x.line) (some_once c g (sym e ∙ f)) ∙ m))
    facts_once {earlier} (is_no_fact {c = c} e l x y) (one_more_fact {c = g} {e = a} f m z) = absurd (x a (subst (FactHere (length earlier + 1) a) (some_once g c (sym f ∙ e)) m))
    facts_once {earlier} (is_no_fact {c = c} e l x y) (has_large_term {from = a} {c = g} f m) = absurd (y a (subst (LargeHere (length earlier + 1) a) (some_once g c (sym f ∙ e)) m))
    facts_once (is_no_fact e l x y) (is_no_fact f m z w) = refl
    facts_once (is_no_fact {c = c} e l x y) (is_no_whole_line f) = absurd (some_or_none _ c e f)
    facts_once (is_no_whole_line e) (no_more_facts {c = g} f m) = absurd (some_or_none _ g f e)
    facts_once (is_no_whole_line e) (one_more_fact {c = g} f m y) = absurd (some_or_none _ g f e)
    facts_once (is_no_whole_line e) (has_large_term {c = g} f m) = absurd (some_or_none _ g f e)
    facts_once (is_no_whole_line e) (is_no_fact {c = g} f m x y) = absurd (some_or_none _ g f e)
    facts_once (is_no_whole_line e) (is_no_whole_line f) = refl

    pub fact_lines_once : Once (fact_lines table precedence)
    fact_lines_once n text o p x y = facts_once x y
