-- What the lines of a verdict promise.
use Rattle.std.specs.Prelude.{ℕ, ◌≡◌, ◌↔◌, true, false, List, [], ◌∷◌, ◌++◌, length, codes, Option, Ok}
use Rattle.uc_term.specs.declared.fresh.Fresh.{Fresh}
use Rattle.uc_term.specs.Tree.{Tree}
use Rattle.uc_term.specs.Over.{IsGround}
use Rattle.uc_term.specs.Table.{Table, arity_of}
use Rattle.uc_term.specs.Conversion.{Conv, SomeFollows}
use Rattle.uc_check.specs.declared.proof.Proof.{Proof}
use Rattle.uc_check.specs.Checks.{AreRightBefore, EndsInRefutation}
use Rattle.uc_check.specs.Clauses.{axioms_of, goals_of}
use Rattle.uc_tstp.specs.Reading.{ReadsProof}
use Rattle.uc_problem.specs.declared.problem.Problem.{Problem}
use Rattle.uc_problem.specs.declared.problem.Encoded.{Encoded}
use Rattle.uc_problem.specs.Encodes.{Encodes}
use Rattle.uc_problem.specs.Marks.{Marks}
use Rattle.uc_order.specs.Members.{In}
use Rattle.uc_order.specs.declared.spec.OrderSpec.{OrderSpec}
use Rattle.uc_fact.specs.declared.fact.System.{System}
use Rattle.uc_machine.specs.declared.event.Verdict.{Verdict}
use Rattle.uc_machine.specs.State.{State}
use Rattle.uc_runs.specs.Causes.{Causes}
use Rattle.uc_worker.specs.Ends.{IsSearchedBy}
use Rattle.uc_decide.specs.NormalForms.{HasNormalForm, HasOneNormalForm}
use Rattle.uc_decide.specs.Deciding.{Decides}
use Rattle.uc_system.specs.Reading.{ReadsSystem}
use Rattle.uc_certificate.specs.declared.certificate.Certificate.{Certificate}
use Rattle.uc_certificate.specs.Headings.{certificate_line}
use Rattle.uc_certificate.specs.Reading.{ReadsCertificate}
use Rattle.uc_certify.specs.declared.certified.Certified.TheVariants.{Yes}
use Rattle.uc_certify.specs.Certifying.{IsCertified}
use Rattle.uc_words.specs.declared.command.Command.{Command}
use Rattle.uc_ordering.specs.Choice.{IsChosen, all_symbols}
use Rattle.uc_ordering.specs.Fits.{Fits}
use Rattle.uc_ordering.specs.Meaning.{meaning_of}
use Rattle.uc_answer.specs.VerdictLines.{opening_for}
use Rattle.uc_answer.specs.StatusLines.{status_line, line_for, proved_word, saturated_word}
use Rattle.uc_answer.specs.LimitLines.{IsLimitLine}

-- A PRINTED PROOF, READ BACK

-- The text is read as a proof of the problem: each line is right, and the last one refutes a goal. So one of the problem's goals
-- follows from its axioms.
pub record Certifies (table : Table) (problem : Problem) (text : List ℕ) : Type 0 where
  pub marks : Option Fresh
  pub marked : Marks table problem (Ok marks)
  pub proof : Proof
  pub reads : ReadsProof table text (Ok proof)
  pub are_right : AreRightBefore problem.clauses marks proof.lines (length proof.lines)
  pub refutes : EndsInRefutation proof.lines
  pub follows : SomeFollows (axioms_of problem.clauses) (goals_of problem.clauses)

-- the answer has such a proof between the status line and the history, if there is one
pub record IsRefuted (table : Table) (name : List ℕ) (problem : Problem) (answer : List ℕ) : Type 0 where
  pub proof : List ℕ
  pub history : List ℕ
  pub certifies : Certifies table problem proof
  pub answer_is : answer ≡ status_line (proved_word problem) name ++ proof ++ history

-- A PRINTED SYSTEM

-- a ground term over the problem's own symbols, its fresh constant among them, without those of the encoding
abbrev pub IsOwnGround : Table → Problem → Tree → Type 0
IsOwnGround table problem = IsGround (In problem.signature.symbols) (arity_of table)

-- The text is read as a system of this order, whose symbols are the problem's own, its fresh constant among them, and those of the
-- encoding, where there is one. By it every ground term has exactly one normal form, two share it exactly if their equation follows
-- from the encoded axioms, and that form is the least of its class. So each term over the problem's own symbols has exactly one, and
-- two of these share it exactly if their equation follows from the problem's own axioms. And no goal of the problem follows.
pub record Settles (table : Table) (problem : Problem) (spec : OrderSpec) (text : List ℕ) : Type 0 where
  pub encoded : Encoded
  pub encodes : Encodes table problem (Ok encoded)
  pub fits : Fits table (all_symbols problem.signature encoded.fresh) spec
  pub system : System
  pub reads : ReadsSystem table text (Ok (record { spec = spec; system = system }))
  pub decides : Decides (meaning_of table spec) system.facts encoded.axioms
  pub own_form : (u : Tree) → IsOwnGround table problem u → HasOneNormalForm (meaning_of table spec) system.facts u
  pub own : (u v n k : Tree) → IsOwnGround table problem u → IsOwnGround table problem v → HasNormalForm (meaning_of table spec) system.facts u n → HasNormalForm (meaning_of table spec) system.facts v k → (n ≡ k) ↔ Conv (axioms_of problem.clauses) u v
  pub none_follows : SomeFollows (axioms_of problem.clauses) (goals_of problem.clauses) → ⊥

-- Behind these lines, and whatever stands behind it, the text is read as one certificate, with whose first line it begins. It is of
-- this order and this system, and by it all its tests are passed for the problem's encoding. The reading has no limit on the length.
pub record HasPassed (table : Table) (problem : Problem) (spec : OrderSpec) (system : System) (before text : List ℕ) : Type 0 where
  pub encoded : Encoded
  pub encodes : Encodes table problem (Ok encoded)
  pub certificate : Certificate
  pub text_is : certificate.text ≡ record { spec = spec; system = system }
  pub begins : (rest : List ℕ) × (text ≡ certificate_line ++ 10 ∷ rest)
  pub reads : (more : List ℕ) → ReadsCertificate table (before ++ text ++ more) (Ok certificate)
  pub passes : IsCertified (meaning_of table spec) problem.clauses encoded certificate Yes

-- The answer has such a system between its two lines. Behind them stands such a certificate of it, where the command asks for one,
-- and then the history, if there is one.
pub record IsSettled (table : Table) (command : Command) (name : List ℕ) (problem : Problem) (spec : OrderSpec) (answer : List ℕ) : Type 0 where
  pub system : List ℕ
  pub certificate : List ℕ
  pub history : List ℕ
  pub settles : Settles table problem spec system
  pub answer_is : answer ≡ status_line (saturated_word problem) name ++ line_for (codes "% SZS output start Saturation") name ++ system ++ line_for (codes "% SZS output end Saturation") name ++ certificate ++ history
  pub asked : command.certificate ≡ true → HasPassed table problem spec settles.system (status_line (saturated_word problem) name ++ line_for (codes "% SZS output start Saturation") name ++ system ++ line_for (codes "% SZS output end Saturation") name) certificate
  pub not_asked : command.certificate ≡ false → certificate ≡ []

-- A LIMIT

-- The answer names the limit that ended a search by the command's workers. The verdict came in a state of the run that has its cause.
pub record IsStopped (table : Table) (command : Command) (name : List ℕ) (problem : Problem) (spec : OrderSpec) (answer : List ℕ) : Type 0 where
  pub encoded : Encoded
  pub encodes : Encodes table problem (Ok encoded)
  pub verdict : Verdict
  pub state : State
  pub searched : IsSearchedBy (meaning_of table spec) (opening_for command encoded) command.workers verdict state
  pub cause : Causes (meaning_of table spec) (opening_for command encoded) searched.ended.came.then_ verdict
  pub line : List ℕ
  pub line_is : IsLimitLine command state verdict line
  pub history : List ℕ
  pub answer_is : answer ≡ status_line (codes "ResourceOut") name ++ line ++ history

-- THE PROMISE

-- For a problem and the order that the command names for it: with status 0 the answer has a proof of the problem, with status 1 a
-- system that settles it, and a certificate of it where one is asked for, and with status 2 the limit that ended the search, with its
-- cause.
pub record Keeps (table : Table) (command : Command) (name : List ℕ) (problem : Problem) (status : ℕ) (answer : List ℕ) : Type 0 where
  pub fresh : Option Fresh
  pub marked : Marks table problem (Ok fresh)
  pub spec : OrderSpec
  pub chosen : IsChosen table problem.signature command.order fresh spec
  pub refuted : status ≡ 0 → IsRefuted table name problem answer
  pub settled : status ≡ 1 → IsSettled table command name problem spec answer
  pub stopped : status ≡ 2 → IsStopped table command name problem spec answer
