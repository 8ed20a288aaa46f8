-- What the text of a certificate reads as, where memory isn't wanted: a certificate, in one table of symbols; or why not, whatever the
-- table. What is read says a system and names a line for each fact.
use Rattle.std.proofs.Common.{◌⊎◌, inl, inr, ℕ, ◌≡◌, ◌<◌, ◌≤◌, List, length, Result, Ok, Err, refl, sym, ap, ◌∙◌, subst, arith}
use Rattle.uc_term.specs.Table.{Table, IsDistinct}
use Rattle.uc_clause.specs.declared.fault.What.TheVariants as what
use Rattle.uc_problem.proofs.Outcomes.{ok_once, err_once, ok_or_err}
use Rattle.uc_tstp.specs.Framing.{max_proof, first_place}
use Rattle.uc_system.specs.declared.system.SystemText.{SystemText}
use Rattle.uc_system.specs.Reading.{IsSystem}
use Rattle.uc_certificate.specs.declared.certificate.Certificate.{Certificate}
use Rattle.uc_certificate.specs.declared.fault.CertFault.{CertFault}
use Rattle.uc_certificate.specs.declared.fault.CertFault.TheVariants.{Syntax, Version, Limit, UnknownRule, UnknownName, RepeatedName, NoMemory}
use Rattle.uc_certificate.specs.Headings.{AreNumbered, none_numbered, one_numbered, FactsAt, no_facts, unknown_fact, are_facts}
use Rattle.uc_certificate.specs.Interning.{InternsCertificate}
use Rattle.uc_certificate.specs.Parts.{Outcome, gets, Rule, Then, goes_on, fails_first}
use Rattle.uc_certificate.specs.Reading.{rest_of_certificate, ReadsCertificate, reads, IsReading}
use Rattle.uc_certificate.proofs.Assembled.{text_is}
use Rattle.uc_certificate.proofs.CertificateInterned.{certificate_interns_once}
use Rattle.uc_certificate.proofs.ReadingOnce.{reading_once, gets_value, gets_or_fails}
use Rattle.uc_certificate.proofs.RefusedAlike.{refused_alike}

-- ONE READING

-- it is too long, or it is read
module _ (table : Table) (text : List ℕ) where
  abbrev LongOrRead : Result Certificate CertFault → Type 0
  LongOrRead r = ((max_proof < length text) × (r ≡ Err (Limit what.Bytes first_place))) ⊎ ((length text ≤ max_proof) × ReadsCertificate table text r)

  long_or_read : (r : Result Certificate CertFault) → (r ≡ Err NoMemory → ⊥) → IsReading table text r → LongOrRead r
  long_or_read (Ok certificate) n h = inr h
  long_or_read (Err (Syntax p)) n h = inr h
  long_or_read (Err (Version p)) n h = inr h
  long_or_read (Err (UnknownRule p)) n h = inr h
  long_or_read (Err (UnknownName p)) n h = inr h
  long_or_read (Err (RepeatedName p)) n h = inr h
  long_or_read (Err (Limit what.Bytes p)) n h = inl (h.0, ap (λ q. Err (Limit what.Bytes q)) h.1)
  long_or_read (Err (Limit what.Nodes p)) n h = inr h
  long_or_read (Err (Limit what.Parentheses p)) n h = inr h
  long_or_read (Err (Limit what.Arity p)) n h = inr h
  long_or_read (Err (Limit what.Clauses p)) n h = inr h
  long_or_read (Err (Limit what.Files p)) n h = inr h
  long_or_read (Err (Limit what.Symbols p)) n h = inr h
  long_or_read (Err NoMemory) n h = absurd (n refl)

not_memory : {why : CertFault} → (why ≡ NoMemory → ⊥) → Path (Result Certificate CertFault) (Err why) (Err NoMemory) → ⊥
not_memory n e = n (err_once e)

read_not_memory : {certificate : Certificate} → Path (Result Certificate CertFault) (Ok certificate) (Err NoMemory) → ⊥
read_not_memory e = ok_or_err e

module _ (text : List ℕ) (first second : Table) (d : IsDistinct first) (e : IsDistinct second) where
  -- a text that is refused in one table is refused so in the other
  refused_there : (why : CertFault) {r : Result Certificate CertFault} → LongOrRead first text (Err why) → LongOrRead second text r → r ≡ Err why
  refused_there why (inl p) (inl q) = q.1 ∙ sym p.1
  refused_there why (inl p) (inr q) = absurd (omega (arith, p.0, q.0))
  refused_there why (inr p) (inl q) = absurd (omega (arith, p.0, q.0))
  refused_there why (inr p) (inr q) = refused_alike text first second d e why refl p.1 q.1

  pub one_fault : (a b : CertFault) → (a ≡ NoMemory → ⊥) → (b ≡ NoMemory → ⊥) → IsReading first text (Err a) → IsReading second text (Err b) → b ≡ a
  one_fault a b n m x y = err_once (refused_there a (long_or_read first text (Err a) (not_memory n) x) (long_or_read second text (Err b) (not_memory m) y))

  pub fault_or_certificate : (why : CertFault) (certificate : Certificate) → (why ≡ NoMemory → ⊥) → IsReading first text (Err why) → IsReading second text (Ok certificate) → ⊥
  fault_or_certificate why certificate n x y = ok_or_err (refused_there why (long_or_read first text (Err why) (not_memory n) x) (long_or_read second text (Ok certificate) read_not_memory y))

-- a certificate is read in the table that it makes of this one
module _ (text : List ℕ) (table : Table) where
  pub one_certificate_table : (first second : Table) → InternsCertificate text table first → InternsCertificate text table second → second ≡ first
  one_certificate_table first second i j = certificate_interns_once text table second first j i

pub one_certificate : (text : List ℕ) (table : Table) → IsDistinct table → (a b : Certificate) → IsReading table text (Ok a) → IsReading table text (Ok b) → b ≡ a
one_certificate text table d a b x y = ok_once (reading_once text table d y.1 x.1)

-- WHAT IS READ

-- a part that is read, and then what stands behind it
record Went {V W : Type 0} (first : Rule V) (next : V → Rule W) (at : ℕ) (w : W) (end : ℕ) : Type 0 where
  value : V
  middle : ℕ
  goes : first at (gets value middle)
  rest : next value middle (gets w end)

went : {V W : Type 0} {first : Rule V} {next : V → Rule W} {at : ℕ} {o : Outcome W} {w : W} {end : ℕ} → Then first next at o → o ≡ gets w end → Went first next at w end
went {next = next} (goes_on {v = v} {middle = m} f n) e = record { value = v; middle = m; goes = f; rest = subst (next v m) e n }
went (fails_first f) e = absurd (gets_or_fails (sym e))

numbered_many : {names words : List (List ℕ)} {numbers : List ℕ} → AreNumbered names words numbers → length numbers ≡ length words
numbered_many none_numbered = refl
numbered_many (one_numbered {words = words} {numbers = numbers} at rest) =
    let same : length numbers ≡ length words = numbered_many rest in
    omega (arith, same)

facts_many : {text : List ℕ} {names : List (List ℕ)} {count at : ℕ} {o : Outcome (List ℕ)} → FactsAt text names count at o → (numbers : List ℕ) (end : ℕ) → o ≡ gets numbers end → length numbers ≡ count
facts_many (no_facts n) numbers end e = absurd (gets_or_fails (sym e))
facts_many (unknown_fact words f a m u) numbers end e = absurd (gets_or_fails (sym e))
facts_many (are_facts words f a m n) numbers end e = ap length (sym (gets_value e)) ∙ numbered_many n ∙ m

module _ (table : Table) (text : List ℕ) where
  -- behind the system
  record IsRest (said : SystemText) (certificate : Certificate) : Type 0 where
    text_is_said : certificate.text ≡ said
    many : length certificate.facts ≡ length said.system.facts

  rest_of : (said : SystemText) (certificate : Certificate) (at end : ℕ) → rest_of_certificate table text said at (gets certificate end) → IsRest said certificate
  rest_of said certificate at end h =
      let a = went h refl in
      let b = went a.rest refl in
      let c = went b.rest refl in
      let d = went c.rest refl in
      let e = went d.rest refl in
      let f = went e.rest refl in
      let same : certificate ≡ record { text = said; lines = b.value; facts = c.value; joins = e.value } = gets_value f.rest in
      record {
        text_is_said = ap (λ (x : Certificate). x.text) same;
        many = ap (λ (x : Certificate). length x.facts) same ∙ facts_many c.goes c.value c.middle refl;
      }

  read_parts : (certificate : Certificate) → ReadsCertificate table text (Ok certificate) → IsSystem table certificate.text × (length certificate.facts ≡ length certificate.text.system.facts)
  read_parts certificate (reads {end = end} h) =
      let a = went h refl in
      let b = went a.rest refl in
      let rest = rest_of b.value certificate b.middle end b.rest in
      (text_is table text a.middle b.middle b.value (Ok certificate) b.goes rest.text_is_said, rest.many ∙ ap (λ (s : SystemText). length s.system.facts) (sym rest.text_is_said))

  pub read_system : (certificate : Certificate) → ReadsCertificate table text (Ok certificate) → IsSystem table certificate.text
  read_system certificate h = (read_parts certificate h).0

  pub read_many : (certificate : Certificate) → ReadsCertificate table text (Ok certificate) → length certificate.facts ≡ length certificate.text.system.facts
  read_many certificate h = (read_parts certificate h).1
