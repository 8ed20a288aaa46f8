-- What a text reads as, from what its parts read as.
use Rattle.std.proofs.Common.{◌≡◌, ℕ, ◌<◌, ◌≤◌, List, length, drop, refl, sym, arith, subst, Result, Ok, Err, IfOk}
use Rattle.uc_term.specs.Table.{Table, Grows}
use Rattle.uc_clause.specs.declared.fault.What.TheVariants as what
use Rattle.uc_clause.proofs.Tables.{grows_not}
use Rattle.uc_check.specs.declared.proof.Line.{Line}
use Rattle.uc_tstp.specs.Framing.{max_proof}
use Rattle.uc_tstp.specs.Printing.{names_in}
use Rattle.uc_system.specs.declared.system.SystemText.{SystemText}
use Rattle.uc_certificate.specs.declared.certificate.Certificate.{Certificate}
use Rattle.uc_certificate.specs.declared.fault.CertFault.{CertFault}
use Rattle.uc_certificate.specs.declared.fault.CertFault.TheVariants.{Syntax, Version, Limit, UnknownRule, UnknownName, RepeatedName, NoMemory}
use Rattle.uc_certificate.specs.Parts.{Outcome, gets, fails, Rule, goes_on, fails_first}
use Rattle.uc_certificate.specs.Headings.{heading, facts}
use Rattle.uc_system.specs.Reading.{IsSystem}
use Rattle.uc_certificate.specs.Reading.{SystemAt, has_system, has_no_system, system, rest_of_certificate, certificate_lines, reads, reads_not, IsReading}
use Rattle.uc_certificate.specs.Reads.{Gives, GivesIn, ReadsRest}
use Rattle.uc_certificate.proofs.Fine.{lines_fine}
use Rattle.uc_certificate.proofs.ReadingOnce.{gets_value, gets_or_fails}
use Rattle.uc_certificate.proofs.SystemHere.{system_here}

pub facts_moved : (text : List ℕ) (lines others : List Line) (many count at : ℕ) (r : Result (List ℕ × ℕ) CertFault) → lines ≡ others → many ≡ count → Gives (facts text (names_in lines) many) text at r → Gives (facts text (names_in others) count) text at r
facts_moved text lines others many count at r e f h = subst (λ n. Gives (facts text (names_in others) n) text at r) f (subst (λ ls. Gives (facts text (names_in ls) many) text at r) e h)

module _ (table : Table) (text : List ℕ) where
  module _ (said : SystemText) (start : ℕ) where
    abbrev Rest : CertFault → Type 0
    Rest fault = rest_of_certificate table text said start (fails fault)

    -- behind the system a part is refused
    pub rest_refused : (fault : CertFault) → Rest fault → ReadsRest table text said start (Err fault)
    rest_refused (Syntax place) h = h
    rest_refused (Version place) h = h
    rest_refused (Limit w place) h = h
    rest_refused (UnknownRule place) h = h
    rest_refused (UnknownName place) h = h
    rest_refused (RepeatedName place) h = h
    rest_refused NoMemory h = tt

    pub rest_fails_in : {V : Type 0} (rule : Table → Rule V) (at : ℕ) → ((fault : CertFault) → rule table at (fails fault) → Rest fault) → (fault : CertFault) → GivesIn rule table text at (Err fault) → ReadsRest table text said start (Err fault)
    rest_fails_in rule at f (Syntax place) h = f (Syntax place) h
    rest_fails_in rule at f (Version place) h = f (Version place) h
    rest_fails_in rule at f (Limit w place) h = f (Limit w place) h
    rest_fails_in rule at f (UnknownRule place) h = f (UnknownRule place) h
    rest_fails_in rule at f (UnknownName place) h = f (UnknownName place) h
    rest_fails_in rule at f (RepeatedName place) h = f (RepeatedName place) h
    rest_fails_in rule at f NoMemory h = tt

    pub rest_fails : {V : Type 0} (rule : Rule V) (at : ℕ) → ((fault : CertFault) → rule at (fails fault) → Rest fault) → (fault : CertFault) → Gives rule text at (Err fault) → ReadsRest table text said start (Err fault)
    rest_fails rule at f (Syntax place) h = f (Syntax place) h
    rest_fails rule at f (Version place) h = f (Version place) h
    rest_fails rule at f (Limit w place) h = f (Limit w place) h
    rest_fails rule at f (UnknownRule place) h = f (UnknownRule place) h
    rest_fails rule at f (UnknownName place) h = f (UnknownName place) h
    rest_fails rule at f (RepeatedName place) h = f (RepeatedName place) h
    rest_fails rule at f NoMemory h = tt

  module _ (small : length text ≤ max_proof) where
    -- a text is refused
    pub is_refused : (fault : CertFault) → certificate_lines table text 0 (fails fault) → IsReading table text (Err fault)
    is_refused (Syntax place) h = (small, reads_not h)
    is_refused (Version place) h = (small, reads_not h)
    is_refused (Limit what.Bytes place) h = absurd (lines_fine text table (Limit what.Bytes place) h)
    is_refused (Limit what.Nodes place) h = (small, reads_not h)
    is_refused (Limit what.Arity place) h = (small, reads_not h)
    is_refused (Limit what.Parentheses place) h = (small, reads_not h)
    is_refused (Limit what.Clauses place) h = (small, reads_not h)
    is_refused (Limit what.Files place) h = (small, reads_not h)
    is_refused (Limit what.Symbols place) h = (small, reads_not h)
    is_refused (UnknownRule place) h = (small, reads_not h)
    is_refused (UnknownName place) h = (small, reads_not h)
    is_refused (RepeatedName place) h = (small, reads_not h)
    is_refused NoMemory h = tt

    module _ (start : ℕ) (headed : heading text 0 (gets tt start)) where
      pub no_system : (fault : CertFault) → GivesIn (λ t. system t text) table text start (Err fault) → IsReading table text (Err fault)
      no_system fault h = go fault h
        where
          by : (f : CertFault) → system table text start (fails f) → IsReading table text (Err f)
          by f s = is_refused f (goes_on {v = tt} headed (fails_first s))

          go : (f : CertFault) → GivesIn (λ t. system t text) table text start (Err f) → IsReading table text (Err f)
          go (Syntax place) s = by (Syntax place) s
          go (Version place) s = by (Version place) s
          go (Limit w place) s = by (Limit w place) s
          go (UnknownRule place) s = by (UnknownRule place) s
          go (UnknownName place) s = by (UnknownName place) s
          go (RepeatedName place) s = by (RepeatedName place) s
          go NoMemory s = tt

      module _ (said : SystemText) (at : ℕ) (is : system table text start (gets said at)) where
        pub is_read : (result : Result Certificate CertFault) → ReadsRest table text said at result → IsReading table text result
        is_read (Ok certificate) h = (small, reads (goes_on {v = tt} headed (goes_on is h.1)))
        is_read (Err fault) h = go fault h
          where
            by : (f : CertFault) → rest_of_certificate table text said at (fails f) → IsReading table text (Err f)
            by f s = is_refused f (goes_on {v = tt} headed (goes_on is s))

            go : (f : CertFault) → ReadsRest table text said at (Err f) → IsReading table text (Err f)
            go (Syntax place) s = by (Syntax place) s
            go (Version place) s = by (Version place) s
            go (Limit w place) s = by (Limit w place) s
            go (UnknownRule place) s = by (UnknownRule place) s
            go (UnknownName place) s = by (UnknownName place) s
            go (RepeatedName place) s = by (RepeatedName place) s
            go NoMemory s = tt

is_system : {table : Table} {text : List ℕ} {start : ℕ} {o : Outcome SystemText} → SystemAt table text start o → (said : SystemText) (at : ℕ) → o ≡ gets said at → IsSystem table said
is_system {table} {text} {start} (has_system {said = s} {n = n} {to = to} x h) said at e = subst (IsSystem table) (gets_value e) (system_here table (drop start text) s n (drop to text) x)
is_system (has_no_system x) said at e = absurd (gets_or_fails (sym e))

-- the text of a certificate that is read is a system
pub text_is : (table : Table) (text : List ℕ) (start at : ℕ) (said : SystemText) (r : Result Certificate CertFault) → SystemAt table text start (gets said at) → IfOk r (λ (c : Certificate). c.text ≡ said) → IfOk r (λ (c : Certificate). IsSystem table c.text)
text_is table text start at said (Ok c) x e = subst (IsSystem table) (sym e) (is_system x said at refl)
text_is table text start at said (Err fault) x e = tt
