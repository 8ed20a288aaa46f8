-- The certificate behind a printed system.
use Rattle.std.specs.Prelude.{ℕ, ◌≡◌, ◌+◌, ◌<◌, ◌^◌, ◌++◌, nat_eq, Bool, true, false, List, [], length, map, Ok}
use Rattle.std.specs.List.{starts_with}
use Rattle.uc_term.specs.Table.{Table}
use Rattle.uc_problem.specs.declared.problem.Problem.{Problem}
use Rattle.uc_problem.specs.declared.problem.Encoded.{Encoded}
use Rattle.uc_order.specs.declared.spec.OrderSpec.{OrderSpec}
use Rattle.uc_fact.specs.Live.{Live, equations_of}
use Rattle.uc_shelf.specs.Entries.{born, live}
use Rattle.uc_machine.specs.State.{State}
use Rattle.uc_proof.specs.Extracted.{AreDerivedFacts}
use Rattle.uc_certificate.specs.declared.certificate.Certificate.{Certificate}
use Rattle.uc_certificate.specs.Headings.{certificate_words, HasNoLine}
use Rattle.uc_certificate.specs.Reading.{ReadsCertificate}
use Rattle.uc_certificate.specs.Printing.{certificate_text}
use Rattle.uc_certificate.specs.Printable.{IsPrintableCertificate}
use Rattle.uc_certify.specs.Making.{AreAllMade}
use Rattle.uc_ordering.specs.Meaning.{meaning_of}

-- the line begins as that of a certificate does
abbrev pub begins_certificate : List ℕ → Bool
begins_certificate line = starts_with nat_eq line certificate_words

-- the numbers of the facts that live
abbrev pub live_numbers : State → List ℕ
live_numbers s = map (λ (f : Live). f.number) (live s.entries)

module _ (table : Table) (problem : Problem) (encoded : Encoded) (spec : OrderSpec) (s : State) where
  -- The certificate of the facts that live, with a file for each line of its derivation: it has the system of these facts with the
  -- order, the derivation of these facts by their chains, with each one's line, and a join for every axiom and every overlap of two
  -- of them, made as the final pass finds it joined.
  pub record IsCertificateFor (files : List (List ℕ)) (certificate : Certificate) : Type 0 where
    pub text_is : certificate.text ≡ record { spec = spec; system = record { facts = equations_of (live s.entries) } }
    pub derived : AreDerivedFacts problem encoded (born s.entries) (live_numbers s) certificate.lines.lines files certificate.facts
    pub made : AreAllMade (meaning_of table spec) (equations_of (live s.entries)) encoded.axioms certificate.joins

  -- the text is that of this certificate
  pub record IsCertificateText (text : List ℕ) : Type 0 where
    pub files : List (List ℕ)
    pub certificate : Certificate
    pub is_for : IsCertificateFor files certificate
    pub text_is : text ≡ certificate_text table files certificate

  -- The text is that of this certificate. Where this can be printed, the text is read as it, behind whole lines none of which begins
  -- as a certificate does, whatever stands behind it. What `run` promises of the text follows from this, since it can be printed.
  pub record IsReadBack (text : List ℕ) : Type 0 where
    pub is_text : IsCertificateText text
    pub read_back : IsPrintableCertificate table is_text.files is_text.certificate → (before behind : List ℕ) → HasNoLine begins_certificate before → ReadsCertificate table (before ++ text ++ behind) (Ok is_text.certificate)

  -- There are numbers for the lines of a derivation.
  abbrev pub HasFewLines : Type 0
  HasFewLines = length encoded.sources + length problem.goals + length (born s.entries) + 2 < 2 ^ 32

  -- so it is, where one is asked for
  pub data IsReadBackIf : Bool → List ℕ → Type 0 where
    has_none : IsReadBackIf false []
    has_one : {text : List ℕ} → IsReadBack text → HasFewLines → IsReadBackIf true text

  -- it is printed where one is asked for
  pub data IsCertificateIf : Bool → List ℕ → Type 0 where
    is_not_asked : IsCertificateIf false []
    is_asked : {text : List ℕ} → IsCertificateText text → IsCertificateIf true text
