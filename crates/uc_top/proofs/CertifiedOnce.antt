-- What is answered for a problem and a certificate file is one answer, where that for a certificate that is read is one.
use Rattle.std.proofs.Common.{ℕ, ◌≡◌, List, Option, Some, Ok, Err, refl, sym, ap, subst}
use Rattle.uc_term.specs.Table.{Table, Grows, IsDistinct}
use Rattle.uc_edge.specs.Files.{Files}
use Rattle.uc_edge.specs.Faults.{Rose}
use Rattle.uc_clause.specs.declared.clause.Sourced.{Sourced}
use Rattle.uc_clause.proofs.Tables.{grows_twice}
use Rattle.uc_problem.specs.declared.problem.Problem.{Problem}
use Rattle.uc_problem.specs.declared.problem.Encoded.{Encoded}
use Rattle.uc_problem.specs.Encodes.{Encodes}
use Rattle.uc_problem.specs.Filling.{AddsMarks}
use Rattle.uc_problem.proofs.EncodedOnce.{encoding_once}
use Rattle.uc_problem.proofs.MarksOnce.{marked_or_large}
use Rattle.uc_ordering.specs.Meaning.{meaning_of}
use Rattle.uc_certificate.specs.declared.certificate.Certificate.{Certificate}
use Rattle.uc_certificate.specs.declared.fault.CertFault.{CertFault}
use Rattle.uc_certificate.specs.declared.fault.CertFault.TheVariants.{NoMemory}
use Rattle.uc_certificate.specs.Interning.{InternsCertificate}
use Rattle.uc_certificate.specs.Reading.{IsReading}
use Rattle.uc_certify.specs.declared.certified.Certified.{Certified}
use Rattle.uc_certify.specs.Certifying.{IsCertified}
use Rattle.uc_certify.proofs.Once.{certified_once}
use Rattle.uc_answer.specs.CertifyLines.{cert_fault_line}
use Rattle.uc_answer.proofs.OneCertifiedLine.{certified_line_once}
use Rattle.uc_top.specs.CertificateAnswers.{CertificateTextAnswers, isnt_certificate, is_certificate, CertificateAnswers, has_large_goal, is_encoded}
use Rattle.uc_top.specs.CertifyAnswers.{IsCertifiedAnswer, tells_outcome}
use Rattle.uc_top.specs.FileAnswers.{FileAnswers}
use Rattle.uc_top.specs.Loaded.{IsLoaded}
use Rattle.uc_top.proofs.CertificateTexts.{one_fault, fault_or_certificate, one_certificate_table, one_certificate}
use Rattle.uc_top.proofs.CheckEnding.{one_table, one_goal}
use Rattle.uc_top.proofs.EncodedTables.{marks_grow}
use Rattle.uc_top.proofs.FileAnswering.{file_once}

-- of `certify`
pub certified_answer_once : (read : Table) (certificate : Certificate) (outcome : Certified) {s t : ℕ} {a b : List ℕ} → IsCertifiedAnswer read certificate outcome s a → IsCertifiedAnswer read certificate outcome t b → (s ≡ t) × (a ≡ b)
certified_answer_once read certificate outcome {a = a} {b = b} (tells_outcome l) (tells_outcome m) = (refl, certified_line_once certificate.lines.lines certificate.text.system.facts outcome a b l m)

module _ (AnswersFor : Table → Certificate → Certified → ℕ → List ℕ → Type 0) where
  -- the answers for a text
  module _ (table : Table) (clauses : List Sourced) (encoded : Encoded) (file text : List ℕ) where
    pub unread_certificate : (read : Table) (why : CertFault) → IsDistinct read → IsReading read text (Err why) → (why ≡ NoMemory → ⊥) → {s : ℕ} {a : List ℕ} → CertificateTextAnswers AnswersFor table clauses encoded file text s a → (s ≡ 3) × (a ≡ cert_fault_line file why)
    unread_certificate read why d h n (isnt_certificate other {why = own} e r m) = (refl, ap (cert_fault_line file) (one_fault text read other d e why own n m h r))
    unread_certificate read why d h n (is_certificate {read = other} {certificate = own} e g i r c a) = absurd (fault_or_certificate text read other d e why own n h r)

    -- the answer for the certificate that the text is
    pub read_answer : (read : Table) → IsDistinct read → InternsCertificate text table read → (certificate : Certificate) → IsReading read text (Ok certificate) → (outcome : Certified) → IsCertified (meaning_of read certificate.text.spec) clauses encoded certificate outcome → (s : ℕ) (a : List ℕ) → CertificateTextAnswers AnswersFor table clauses encoded file text s a → Grows table read × AnswersFor read certificate outcome s a
    read_answer read d i certificate h outcome c s a (isnt_certificate other {why = why} e r n) = absurd (fault_or_certificate text other read e d why certificate n r h)
    read_answer read d i certificate h outcome c s a (is_certificate {read = other} {certificate = own} {outcome = found} e g j r k told) =
        let tables : other ≡ read = one_certificate_table text table read other i j in
        let same : own ≡ certificate = one_certificate text read d certificate own h (subst (λ (t : Table). IsReading t text (Ok own)) tables r) in
        let here = subst (λ (t : Table). IsCertified (meaning_of t own.text.spec) clauses encoded own found) tables k in
        let own_outcome = subst (λ (x : Certificate). IsCertified (meaning_of read x.text.spec) clauses encoded x found) same here in
        let one : found ≡ outcome = certified_once (meaning_of read certificate.text.spec) clauses encoded certificate found outcome own_outcome c in
        let by_table = subst (λ (t : Table). AnswersFor t own found s a) tables told in
        let by_certificate = subst (λ (x : Certificate). AnswersFor read x found s a) same by_table in
        (subst (Grows table) tables g, subst (λ (o : Certified). AnswersFor read certificate o s a) one by_certificate)

  -- what is answered for a certificate is one answer, in tables that begin with this one
  abbrev pub IsOnce : Table → Type 0
  IsOnce table = (read : Table) (certificate : Certificate) (outcome : Certified) (s t : ℕ) (a b : List ℕ) → IsDistinct read → Grows table read → AnswersFor read certificate outcome s a → AnswersFor read certificate outcome t b → (s ≡ t) × (a ≡ b)

  module _ (table : Table) (clauses : List Sourced) (encoded : Encoded) (file text : List ℕ) (once : IsOnce table) where
    text_once : (s t : ℕ) (a b : List ℕ) → CertificateTextAnswers AnswersFor table clauses encoded file text s a → CertificateTextAnswers AnswersFor table clauses encoded file text t b → (s ≡ t) × (a ≡ b)
    text_once s t a b (isnt_certificate read {why = why} d h n) y = let q = unread_certificate table clauses encoded file text read why d h n y in (sym q.0, sym q.1)
    text_once s t a b (is_certificate {read = read} {certificate = certificate} {outcome = outcome} d g i h c x) y = once read certificate outcome s t a b d g x (read_answer table clauses encoded file text read d i certificate h outcome c t b y).1

-- the answers for a problem that is loaded
module _ (files : Files) (root : Option (List ℕ)) (name : List ℕ) (loaded : Table) (problem : Problem) (is_held : IsLoaded files root name loaded problem) where
  -- the encoding and its table are one
  pub in_one : (table other : Table) → IsDistinct table → IsDistinct other → (encoded own : Encoded) → AddsMarks loaded table encoded.fresh → AddsMarks loaded other own.fresh → Encodes table problem (Ok encoded) → Encodes other problem (Ok own) → (OfEncoded : Table → Encoded → Type 0) → OfEncoded other own → OfEncoded table encoded
  in_one table other d e encoded own i j h k OfEncoded a =
      let tables : other ≡ table = one_table files root name loaded problem is_held table other d e encoded.fresh own.fresh i j h.0 k.0 in
      let encodings : own ≡ encoded = encoding_once table problem d own encoded (subst (λ (t : Table). Encodes t problem (Ok own)) tables k) h in
      subst (OfEncoded table) encodings (subst (λ (t : Table). OfEncoded t own) tables a)

  module _ (AnswersFor : Table → Certificate → Certified → ℕ → List ℕ → Type 0) (once : IsOnce AnswersFor loaded) where
    once_later : (table : Table) (encoded : Encoded) → AddsMarks loaded table encoded.fresh → IsOnce AnswersFor table
    once_later table encoded i read certificate outcome s t a b d g x y = once read certificate outcome s t a b d (grows_twice loaded table read (marks_grow loaded table encoded.fresh i) g) x y

    pub certificate_once : (before now again later : ℕ) (file : List ℕ) {s t : ℕ} {a b : List ℕ} → (s ≡ 5 → Rose before now → ⊥) → (t ≡ 5 → Rose again later → ⊥) → CertificateAnswers AnswersFor (Some files) before now file loaded problem s a → CertificateAnswers AnswersFor (Some files) again later file loaded problem t b → (s ≡ t) × (a ≡ b)
    certificate_once before now again later file v w (has_large_goal {number = number} {goal = goal} m g) (has_large_goal {number = other} {goal = shown} k h) = (refl, sym (one_goal files root name loaded problem is_held number other goal shown m g k h))
    certificate_once before now again later file v w (has_large_goal {number = number} m g) (is_encoded {table = table} {encoded = encoded} d i e y) = absurd (marked_or_large table problem encoded.fresh number e.0 m)
    certificate_once before now again later file v w (is_encoded {table = table} {encoded = encoded} d i e x) (has_large_goal {number = number} m g) = absurd (marked_or_large table problem encoded.fresh number e.0 m)
    certificate_once before now again later file {t = t} {b = b} v w (is_encoded {table = table} {encoded = encoded} d i h x) (is_encoded {table = other} {encoded = own} e j k y) =
        let there = in_one table other d e encoded own i j h k (λ u z. FileAnswers (Some files) again later (CertificateTextAnswers AnswersFor u problem.clauses z file) file t b) y in
        file_once files before now again later (CertificateTextAnswers AnswersFor table problem.clauses encoded file) file (λ text s t a b p q. text_once AnswersFor table problem.clauses encoded file text (once_later table encoded i) s t a b p q) v w x there
