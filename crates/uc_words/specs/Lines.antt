-- The items of a command line.
use Rattle.std.specs.Prelude.{◌≡◌, ℕ, ◌==◌, ◌&&◌, not, Bool, true, List, [], ◌∷◌, ◌++◌, drop, slice_index, Option, Some, None, Result, Ok, Err, bytes_eq, if◌then◌else◌}
use Rattle.std.specs.List.{list_any}
use Rattle.uc_words.specs.declared.command.Verb.{Verb}
use Rattle.uc_words.specs.declared.command.WordsFault.{WordsFault}
use Rattle.uc_words.specs.declared.command.WordsFault.TheVariants.{Usage, NoMemory}
use Rattle.uc_words.specs.declared.table.Key.{Key}
use Rattle.uc_words.specs.declared.table.Key.TheVariants as key
use Rattle.uc_words.specs.declared.form.Form.{Form}
use Rattle.uc_words.specs.declared.form.Form.TheVariants.{Plain, Ends, Flag, Takes, Has, Formless}
use Rattle.uc_words.specs.declared.line.Expects.{Expects}
use Rattle.uc_words.specs.declared.line.Expects.TheVariants.{Item, Value, Positional}
use Rattle.uc_words.specs.Forms.{form_of}

-- the options that were given, each with its value (a flag with the empty one), and the positionals, in order
pub record Line : Type 0 where
  pub given : List (Key × List ℕ)
  pub positionals : List (List ℕ)

-- a reader answers what the words stand for, `Usage` exactly where they have no reading, or that memory is wanted
abbrev pub Gives : {X : Type 0} → Option X → Result X WordsFault → Type 0
Gives reading (Ok x) = reading ≡ Some x
Gives reading (Err Usage) = reading ≡ None
Gives reading (Err NoMemory) = Unit {0}

-- no item, an option with its value, a positional, and the items of two lines in order
abbrev pub nothing : Line
nothing = record { given = []; positionals = [] }

abbrev pub with_value : Key → List ℕ → Line
with_value k value = record { given = (k, value) ∷ []; positionals = [] }

abbrev pub with_word : List ℕ → Line
with_word word = record { given = []; positionals = word ∷ [] }

abbrev pub joined : Line → Line → Line
joined a b = record { given = a.given ++ b.given; positionals = a.positionals ++ b.positionals }

-- a value that is a word of its own isn't empty and doesn't begin with a dash
abbrev pub is_value : List ℕ → Bool
is_value word = not (bytes_eq word []) && not (slice_index word 0 == 45)

-- an option whose value stands in the same word
abbrev pub given_value : Key → List ℕ → Option (Line × Expects)
given_value k value = if bytes_eq value [] then None else Some (with_value k value, Item)

-- what a word stands for where an item begins, and what may come then
abbrev pub item : Form → List ℕ → Option (Line × Expects)
item Plain word = Some (with_word word, Item)
item Ends word = Some (nothing, Positional)
item (Flag k) word = Some (with_value k [], Item)
item (Takes k) word = Some (nothing, Value k)
item (Has k at) word = given_value k (drop at word)
item Formless word = None

-- what a word stands for, and what may come then
abbrev pub turn : Verb → Expects → List ℕ → Option (Line × Expects)
turn verb Item word = item (form_of verb word) word
turn verb (Value k) word = if is_value word then Some (with_value k word, Item) else None
turn verb Positional word = if bytes_eq word [] then None else Some (with_word word, Positional)

-- after the items of a line, those that further words stand for
abbrev pub onto : Line → Option Line → Option Line
onto line None = None
onto line (Some more) = Some (joined line more)

-- the words end: a value may not be missing
abbrev pub at_end : Expects → Option Line
at_end Item = Some nothing
at_end (Value k) = None
at_end Positional = Some nothing

-- the items of the words after the command
abbrev pub line_of : Verb → Expects → List (List ℕ) → Option Line
line_of verb expects [] = at_end expects
line_of verb expects (word ∷ words) = elim (turn verb expects word) [ None ↦ None | Some t ↦ onto t.0 (line_of verb t.1 words) ]

-- the options by number
abbrev pub place : Key → ℕ
place key.Root = 0
place key.Order = 1
place key.Precedence = 2
place key.Weights = 3
place key.W0 = 4
place key.Budget = 5
place key.Pairs = 6
place key.Workers = 7
place key.Steps = 8
place key.System = 9
place key.Limit = 10
place key.Size = 11
place key.Trace = 12
place key.Certificate = 13

abbrev pub same : Key → Key → Bool
same a b = place a == place b

-- whether an option was given, and whether none was given twice
abbrev pub stands : Key → List (Key × List ℕ) → Bool
stands k given = list_any (λ g. same g.0 k) given

abbrev pub is_once : List (Key × List ℕ) → Bool
is_once [] = true
is_once (g ∷ given) = not (stands g.0 given) && is_once given

-- the value of an option, where it was given
abbrev pub value : Key → List (Key × List ℕ) → Option (List ℕ)
value k [] = None
value k (g ∷ given) = if same g.0 k then Some g.1 else value k given
