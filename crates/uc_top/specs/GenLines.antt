-- The lines of a generated problem whose system is saturated.
use Rattle.std.specs.Prelude.{ℕ, List, [], ◌∷◌, ◌++◌, codes, decimal}
use Rattle.uc_answer.specs.Lines.{joined}

-- the line of a number behind these words
abbrev pub counted_line : List ℕ → ℕ → List ℕ
counted_line words count = words ++ decimal count ++ codes "\n"

-- how many constants and how many axioms there are, and how many different normal forms the constants have
abbrev pub gen_lines : ℕ → ℕ → ℕ → List ℕ
gen_lines constants axioms forms = joined (counted_line (codes "constants ") constants ∷ counted_line (codes "equations ") axioms ∷ counted_line (codes "normal forms ") forms ∷ [])
