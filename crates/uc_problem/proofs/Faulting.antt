-- What the parts of loading leave of the faults of the library.
use Rattle.std.proofs.Common.{◌≡◌, ℕ, List, [], ◌∷◌, ◌++◌, Option, Some, None, Result, Ok, Err, IfErr, refl, ◌∙◌, ap}
use Rattle.uc_term.specs.Table.{Table}
use Rattle.uc_edge.specs.Faults.{IsCounted, next}
use Rattle.uc_clause.specs.declared.clause.Clause as read
use Rattle.uc_clause.specs.declared.clause.Name.{Name}
use Rattle.uc_clause.specs.declared.clause.Include.{Include}
use Rattle.uc_clause.specs.declared.clause.Sourced.{Sourced}
use Rattle.uc_clause.specs.declared.token.Place.{Place}
use Rattle.uc_clause.specs.declared.fault.ClauseFault.{ClauseFault}
use Rattle.uc_problem.specs.declared.counts.Counts.{Counts}
use Rattle.uc_problem.specs.declared.fault.LoadFault.{LoadFault}
use Rattle.uc_problem.specs.declared.fault.LoadFault.TheVariants.{Absent, ReadFault, TooDeep, NoSuchName, ArityClash, Limit, Clause, NoMemory}
use Rattle.uc_problem.specs.Fetching.{failing_of, IsFaultedBy, IsFaulted}
use Rattle.uc_problem.specs.Loading.{selected, listed_or, first_missing}
use Rattle.uc_problem.specs.declared.flat.FlatClause.{FlatClause}
use Rattle.uc_problem.specs.declared.problem.Problem.{Problem}
use Rattle.uc_problem.specs.Holds.{clashes, is_too_many}
use Rattle.uc_problem.specs.Assembly.{IsUnsigned, has_none, wants_memory}
use Rattle.uc_problem.specs.Parts.{IsNotRead, IsTaken, IsSelection}

-- after calls in which no fetch failed
pub kept_on : (file : Option (List ℕ)) {before between : ℕ} (now : ℕ) {old then : List (List ℕ)} (new : List (List ℕ)) → IsCounted None before between old then → IsCounted file between now then new → IsCounted file before now old new
kept_on None now new k f = (f.0 ∙ k.0, f.1 ∙ k.1)
kept_on (Some name) now new k f = (f.0 ∙ ap next k.0, f.1 ∙ ap (λ (l : List (List ℕ)). l ++ name ∷ []) k.1)

-- a refusal after those
pub same_refusal : (why : LoadFault) {before between : ℕ} (now : ℕ) {old then : List (List ℕ)} (new : List (List ℕ)) → IsCounted None before between old then → IsFaultedBy why between now then new → IsFaultedBy why before now old new
same_refusal (ReadFault file) now new k f = kept_on (Some file) now new k f
same_refusal NoMemory now new k f = (f.0, kept_on f.0 now new k f.1)
same_refusal (Absent file from) now new k f = kept_on None now new k f
same_refusal (TooDeep file place) now new k f = kept_on None now new k f
same_refusal (NoSuchName file place n) now new k f = kept_on None now new k f
same_refusal (ArityClash file place n one two) now new k f = kept_on None now new k f
same_refusal (Limit file place what) now new k f = kept_on None now new k f
same_refusal (Clause file fault) now new k f = kept_on None now new k f

-- what a part comes to after those
pub faulted_after : {A : Type 0} (r : Result A LoadFault) {before between : ℕ} (now : ℕ) {old then : List (List ℕ)} (new : List (List ℕ)) → IsCounted None before between old then → IsFaulted r between now then new → IsFaulted r before now old new
faulted_after (Ok a) now new k f = kept_on None now new k f
faulted_after (Err why) now new k f = same_refusal why now new k f

-- a refusal that is no failed fetch, where none failed
pub no_failure : (why : LoadFault) {before now : ℕ} {old new : List (List ℕ)} → failing_of why ≡ None → IsCounted None before now old new → IsFaultedBy why before now old new
no_failure (ReadFault file) e k = absurd cc
no_failure NoMemory e k = (None, k)
no_failure (Absent file from) e k = k
no_failure (TooDeep file place) e k = k
no_failure (NoSuchName file place n) e k = k
no_failure (ArityClash file place n one two) e k = k
no_failure (Limit file place what) e k = k
no_failure (Clause file fault) e k = k

-- a file that isn't read
pub unread_fails : (name : List ℕ) (fault : ClauseFault) (why : LoadFault) → IsNotRead name fault why → failing_of why ≡ None
unread_fails name fault (Clause file other) h = refl
unread_fails name fault NoMemory h = refl
unread_fails name fault (ReadFault file) h = absurd h
unread_fails name fault (Absent file from) h = absurd h
unread_fails name fault (TooDeep file place) h = absurd h
unread_fails name fault (NoSuchName file place n) h = absurd h
unread_fails name fault (ArityClash file place n one two) h = absurd h
unread_fails name fault (Limit file place what) h = absurd h

-- a clause that is taken
taken_fails : (name : List ℕ) (c : read.Clause) (conjecture : Option Place) (old new : Counts) (why : LoadFault) → IsTaken name c conjecture old new (Err why) → failing_of why ≡ None
taken_fails name c conjecture old new NoMemory h = refl
taken_fails name c conjecture old new (ReadFault file) h = ap failing_of h.1
taken_fails name c conjecture old new (Clause file other) h = refl
taken_fails name c conjecture old new (Absent file from) h = refl
taken_fails name c conjecture old new (TooDeep file place) h = refl
taken_fails name c conjecture old new (NoSuchName file place n) h = refl
taken_fails name c conjecture old new (ArityClash file place n one two) h = refl
taken_fails name c conjecture old new (Limit file place what) h = refl

pub taken_faulted : (name : List ℕ) (c : read.Clause) (conjecture : Option Place) (old new : Counts) (r : Result (List FlatClause) LoadFault) (count : ℕ) (names : List (List ℕ)) → IsTaken name c conjecture old new r → IsFaulted r count count names names
taken_faulted name c conjecture old new (Ok clauses) count names h = (refl, refl)
taken_faulted name c conjecture old new (Err why) count names h = no_failure why (taken_fails name c conjecture old new why h) (refl, refl)

-- a selection
listed_fails : (name : List ℕ) (names : List (Name × Place)) (given : List FlatClause) (missing : Option (Name × Place)) (file : List ℕ) → Path (Result (List FlatClause) LoadFault) (Err (ReadFault file)) (listed_or name names given missing) → ⊥
listed_fails name names given None file e = absurd cc
listed_fails name names given (Some missing) file e = absurd cc

selected_fails : (name : List ℕ) (names : Option (List (Name × Place))) (given : List FlatClause) (file : List ℕ) → Path (Result (List FlatClause) LoadFault) (Err (ReadFault file)) (selected name names given) → ⊥
selected_fails name None given file e = absurd cc
selected_fails name (Some names) given file e = listed_fails name names given (first_missing given names) file e

selection_fails : (name : List ℕ) (i : Include) (given : List FlatClause) (why : LoadFault) → IsSelection name i given (Err why) → failing_of why ≡ None
selection_fails name i given (ReadFault file) h = absurd (selected_fails name i.names given file h)
selection_fails name i given NoMemory h = refl
selection_fails name i given (Clause file other) h = refl
selection_fails name i given (Absent file from) h = refl
selection_fails name i given (TooDeep file place) h = refl
selection_fails name i given (NoSuchName file place n) h = refl
selection_fails name i given (ArityClash file place n one two) h = refl
selection_fails name i given (Limit file place what) h = refl

pub selection_faulted : (name : List ℕ) (i : Include) (given : List FlatClause) (r : Result (List FlatClause) LoadFault) {before now : ℕ} {old new : List (List ℕ)} → IsSelection name i given r → IsCounted None before now old new → IsFaulted r before now old new
selection_faulted name i given (Ok clauses) h k = k
selection_faulted name i given (Err why) h k = no_failure why (selection_fails name i given why h) k

-- the clauses' signature, for which no file is fetched
unsigned_fails : {table : Table} {clauses : List Sourced} {why : LoadFault} → IsUnsigned table clauses why → failing_of why ≡ None
unsigned_fails (has_none (clashes g s l)) = refl
unsigned_fails (has_none (is_too_many g l)) = refl
unsigned_fails wants_memory = refl

pub assembled_faulted : (table : Table) (clauses : List Sourced) (r : Result Problem LoadFault) {before now : ℕ} {old new : List (List ℕ)} → IfErr r (IsUnsigned table clauses) → IsCounted None before now old new → IsFaulted r before now old new
assembled_faulted table clauses (Ok problem) u k = k
assembled_faulted table clauses (Err why) u k = no_failure why (unsigned_fails u) k
