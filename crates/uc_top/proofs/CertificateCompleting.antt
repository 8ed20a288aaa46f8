-- How a command that is given a certificate ends, by how it ends for a certificate that is read.
use Rattle.std.proofs.Common.{ℕ, ◌≡◌, false, List, codes, slice_get, Option, Some, None, Ok, Err, refl, sym, ◌∙◌, subst}
use Rattle.std.specs.List.{list_any}
use Rattle.std.specs.Io.KnownBytes.{Appends}
use Rattle.uc_term.specs.Table.{Table, Grows, IsDistinct}
use Rattle.uc_edge.specs.Files.{Files}
use Rattle.uc_edge.specs.Faults.{Rose}
use Rattle.uc_clause.specs.declared.clause.Sourced.{Sourced}
use Rattle.uc_clause.proofs.Tables.{grows_twice}
use Rattle.uc_problem.specs.declared.problem.Problem.{Problem}
use Rattle.uc_problem.specs.declared.problem.Encoded.{Encoded}
use Rattle.uc_problem.specs.declared.fault.EncodeFault.TheVariants.{GoalTooLarge}
use Rattle.uc_problem.specs.Encodes.{Encodes}
use Rattle.uc_problem.specs.Filling.{AddsMarks}
use Rattle.uc_problem.specs.Loading.{held}
use Rattle.uc_problem.specs.Marks.{Marks, is_too_large}
use Rattle.uc_problem.proofs.MarksOnce.{marked_or_large}
use Rattle.uc_problem.proofs.Outcomes.{some_once, some_or_none}
use Rattle.uc_ordering.specs.Meaning.{meaning_of}
use Rattle.uc_certificate.specs.declared.certificate.Certificate.{Certificate}
use Rattle.uc_certificate.specs.declared.fault.CertFault.{CertFault}
use Rattle.uc_certificate.specs.declared.fault.CertFault.TheVariants.{NoMemory}
use Rattle.uc_certificate.specs.Interning.{InternsCertificate}
use Rattle.uc_certificate.specs.Reading.{IsReading}
use Rattle.uc_certify.specs.declared.certified.Certified.{Certified}
use Rattle.uc_certify.specs.Certifying.{IsCertified}
use Rattle.uc_answer.specs.Lines.{about_file, memory_line}
use Rattle.uc_answer.specs.Refusals.{large_line}
use Rattle.uc_answer.specs.CertifyLines.{cert_fault_line}
use Rattle.uc_top.specs.FileAnswers.{FileAnswers, is_absent, isnt_fetched, is_found}
use Rattle.uc_top.specs.CertificateAnswers.{CertificateTextAnswers, CertificateAnswers, has_large_goal, is_encoded}
use Rattle.uc_top.specs.Loaded.{IsLoaded}
use Rattle.uc_top.specs.Runs.{EndsWith, tells_all, tells_want}
use Rattle.uc_top.specs.CertifyRuns.{CertificateCompletes}
use Rattle.uc_top.proofs.CertifiedOnce.{unread_certificate, read_answer, in_one}
use Rattle.uc_top.proofs.CheckEnding.{none_first, one_goal}
use Rattle.uc_top.proofs.EncodedTables.{marks_grow}

pub ends_so : {old new : Option (List ℕ)} {status own result : ℕ} {text told : List ℕ} → (own ≡ status) × (text ≡ told) → Appends old new text → result ≡ own → EndsWith status told old new result
ends_so {old} {new} {status} {own} {result} {text} {told} p written e = subst (EndsWith status told old new) (sym (e ∙ p.0)) (tells_all (subst (Appends old new) p.1 written))

module _ (AnswersFor : Table → Certificate → Certified → ℕ → List ℕ → Type 0) (EndsFor : Table → Certificate → Certified → Type 0) (old new : Option (List ℕ)) where
  module _ (files : Files) (root : Option (List ℕ)) (name : List ℕ) (loaded : Table) (problem : Problem) (is_held : IsLoaded files root name loaded problem) (before now : ℕ) (well : Rose before now → ⊥) (file : List ℕ) where
    abbrev Told : ℕ → List ℕ → Type 0
    Told = CertificateAnswers AnswersFor (Some files) before now file loaded problem

    abbrev OfFile : Table → Encoded → ℕ → List ℕ → Type 0
    OfFile table encoded = FileAnswers (Some files) before now (CertificateTextAnswers AnswersFor table problem.clauses encoded file) file

    large_ends : (number : ℕ) (goal : Sourced) → Marks loaded problem (Err (GoalTooLarge number)) → slice_get problem.clauses number ≡ Some goal → {own result : ℕ} {text : List ℕ} → Told own text → Appends old new text → result ≡ own → EndsWith 3 (large_line goal) old new result
    large_ends number goal m g (has_large_goal {number = other} {goal = shown} k h) written e = ends_so (refl, one_goal files root name loaded problem is_held number other goal shown m g k h) written e
    large_ends number goal m g (is_encoded {table = table} {encoded = encoded} d i k a) written e = absurd (marked_or_large table problem encoded.fresh number k.0 m)

    absent_ends : list_any is_too_large problem.clauses ≡ false → held files file ≡ None → {own result : ℕ} {text : List ℕ} → Told own text → Appends old new text → result ≡ own → EndsWith 3 (about_file file (codes "Absent")) old new result
    absent_ends n h (has_large_goal {number = other} m g) written e = absurd (none_first problem.clauses other n m)
    absent_ends n h (is_encoded d i k (is_absent a)) written e = ends_so (refl, refl) written e
    absent_ends n h (is_encoded d i k (isnt_fetched r)) written e = absurd (well r)
    absent_ends n h (is_encoded d i k (is_found a x)) written e = absurd (some_or_none a h)

    -- the answer for the text that the file has
    text_of : (table : Table) (encoded : Encoded) {own : ℕ} {text : List ℕ} (bytes : List ℕ) → held files file ≡ Some bytes → OfFile table encoded own text → CertificateTextAnswers AnswersFor table problem.clauses encoded file bytes own text
    text_of table encoded bytes h (is_absent a) = absurd (some_or_none h a)
    text_of table encoded bytes h (isnt_fetched r) = absurd (well r)
    text_of table encoded {own} {text} bytes h (is_found a x) = subst (λ (t : List ℕ). CertificateTextAnswers AnswersFor table problem.clauses encoded file t own text) (some_once a h) x

    unread_ends : list_any is_too_large problem.clauses ≡ false → (read : Table) (bytes : List ℕ) (why : CertFault) → IsDistinct read → held files file ≡ Some bytes → IsReading read bytes (Err why) → (why ≡ NoMemory → ⊥) → {own result : ℕ} {text : List ℕ} → Told own text → Appends old new text → result ≡ own → EndsWith 3 (cert_fault_line file why) old new result
    unread_ends n read bytes why d h r m (has_large_goal {number = other} k g) written e = absurd (none_first problem.clauses other n k)
    unread_ends n read bytes why d h r m (is_encoded {table = table} {encoded = encoded} c i k a) written e = ends_so (unread_certificate AnswersFor table problem.clauses encoded file bytes read why d r m (text_of table encoded bytes h a)) written e

    -- the answer for the certificate that the file has
    module _ (table read : Table) (encoded : Encoded) (distinct : IsDistinct table) (adds : AddsMarks loaded table encoded.fresh) (encodes : Encodes table problem (Ok encoded)) (bytes : List ℕ) (certificate : Certificate) (outcome : Certified) (d : IsDistinct read) (h : held files file ≡ Some bytes) (interns : InternsCertificate bytes table read) (r : IsReading read bytes (Ok certificate)) (c : IsCertified (meaning_of read certificate.text.spec) problem.clauses encoded certificate outcome) where
      read_told : (own : ℕ) (text : List ℕ) → Told own text → Grows table read × AnswersFor read certificate outcome own text
      read_told own text (has_large_goal {number = other} m g) = absurd (marked_or_large table problem encoded.fresh other encodes.0 m)
      read_told own text (is_encoded {table = other} {encoded = found} o i k a) =
          let there = in_one files root name loaded problem is_held table other distinct o encoded found adds i encodes k (λ u z. OfFile u z own text) a in
          read_answer AnswersFor table problem.clauses encoded file bytes read d interns certificate r outcome c own text (text_of table encoded bytes h there)

    -- how it ends for a certificate that is read
    abbrev pub ReadEnds : ℕ → List ℕ → Type 0
    ReadEnds own text = (read : Table) (certificate : Certificate) (outcome : Certified) → IsDistinct read → Grows loaded read → AnswersFor read certificate outcome own text → EndsFor read certificate outcome

    pub completes_so : (own result : ℕ) (text : List ℕ) → ReadEnds own text → Told own text → Appends old new text → result ≡ own → CertificateCompletes EndsFor loaded files problem file old new result
    completes_so own result text ends a written e = record {
      large = λ number goal m g. large_ends number goal m g a written e;
      absent = λ n h. absent_ends n h a written e;
      unread = λ n read bytes why d h r m. unread_ends n read bytes why d h r m a written e;
      read = λ table read encoded o i k bytes certificate outcome d h j r c. (let p = read_told table read encoded o i k bytes certificate outcome d h j r c own text a in ends read certificate outcome d (grows_twice loaded table read (marks_grow loaded table encoded.fresh i) p.0) p.1);
    }

  -- want of memory
  pub want_ends : (loaded : Table) (files : Files) (problem : Problem) (file : List ℕ) → ((read : Table) (certificate : Certificate) (outcome : Certified) → EndsFor read certificate outcome) → Appends old new memory_line → CertificateCompletes EndsFor loaded files problem file old new 7
  want_ends loaded files problem file ends written = record {
    large = λ number goal m g. tells_want written;
    absent = λ n h. tells_want written;
    unread = λ n read bytes why d h r m. tells_want written;
    read = λ table read encoded o i k bytes certificate outcome d h j r c. ends read certificate outcome;
  }
