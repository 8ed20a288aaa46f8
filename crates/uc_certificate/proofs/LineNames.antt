-- The names of the lines of a derivation are all different.
use Rattle.std.proofs.Common.{◌≡◌, ℕ, List, ◌∷◌, refl, sym, ap₂, subst, Ok}
use Rattle.uc_term.specs.Table.{Table}
use Rattle.uc_clause.specs.declared.token.Token.{Token}
use Rattle.uc_clause.specs.Distinct.{AreDistinct}
use Rattle.uc_check.specs.declared.proof.Proof.{Proof}
use Rattle.uc_check.specs.declared.proof.Line.{Line}
use Rattle.uc_tstp.specs.declared.framing.Frame.{Frame}
use Rattle.uc_tstp.specs.declared.scope.Scope.TheVariants.{Derivation}
use Rattle.uc_tstp.specs.Parse as parse
use Rattle.uc_tstp.specs.Printing.{names_in}
use Rattle.uc_tstp.specs.Meaning.{names_of, MeanLines, no_lines, one_line}
use Rattle.uc_tstp.specs.Reading.{inside, ReadsInside, reads}
use Rattle.uc_tstp.proofs.NamesOnce.{names_different}

-- the names of lines are those of their parses
pub names_are : {bytes : List ℕ} {tokens : List Token} {table : Table} {names : List (List ℕ)} {ls : List parse.Line} {lines : List Line} → MeanLines bytes tokens table names ls lines → names_in lines ≡ names_of bytes tokens ls
names_are no_lines = refl
names_are (one_line m all) = ap₂ (λ n ns. n ∷ ns) m.name (names_are all)

pub names_apart : (table : Table) (text : List ℕ) (frame : Frame) (proof : Proof) → ReadsInside Derivation table text frame (Ok proof) → AreDistinct (names_in proof.lines)
names_apart table text frame proof (reads {tokens = tokens} c l u m) = subst AreDistinct (sym (names_are m)) (names_different (inside text frame) tokens Derivation l)
