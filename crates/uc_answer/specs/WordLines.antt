-- The line of a word that is no term, or no question.
use Rattle.std.specs.Prelude.{ℕ, List, [], ◌++◌, codes, decimal}
use Rattle.uc_clause.specs.Names.{spelling}
use Rattle.uc_answer.specs.declared.term_word.WordFault.{WordFault}
use Rattle.uc_answer.specs.declared.term_word.WordFault.TheVariants.{Unread, UnknownSymbol, NotGround, NoMemory}
use Rattle.uc_answer.specs.Lines.{spaced, located, clause_line}

-- the name of a word by its number, in the place of a file's
abbrev pub word_name : ℕ → List ℕ
word_name number = codes "word " ++ decimal number

-- the line of the word of this number that is no term, or no question; none for want of memory, which has a line of its own
abbrev pub word_line : ℕ → WordFault → List ℕ
word_line number (Unread why) = clause_line (word_name number) why
word_line number (UnknownSymbol place name) = located (word_name number) place (codes "UnknownSymbol") (spaced (spelling name))
word_line number (NotGround place) = located (word_name number) place (codes "NotGround") []
word_line number NoMemory = []
